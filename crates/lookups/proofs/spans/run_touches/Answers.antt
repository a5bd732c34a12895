use Rattle.lookups.proofs.Spanning.{touch_is}
use Rattle.lookups.proofs.spans.run_touches.Goals as goal

pub returns-then-run-b : goal.returns-then-run-b
returns-then-run-b c = touch_is _ _ _ c.requires.0 c.requires.1 c.if-run-b.true _ c.end.ensures
