use Rattle.std.proofs.Common.{arith}
use Rattle.lookups.proofs.Spanning.{used_held, back_none, back_found, back_again}
use Rattle.lookups.proofs.spans.upto_last.Goals as goal

pub run_touches-requires : goal.run_touches-requires
run_touches-requires c = (used_held _ _ c.requires.0 _ _ (omega arith) c.run_at-run.ensures, c.requires.1)

pub returns-then-run_touches : goal.returns-then-run_touches
returns-then-run_touches c =
    back_found _ _ _ _ _ c.loop-j.invariant (omega arith) _ c.run_at-run.ensures _ c.run_touches.ensures c.if-run_touches.true

pub loop-j-preserved : goal.loop-j-preserved
loop-j-preserved c =
    back_again _ _ _ _ _ c.loop-j.invariant (omega arith) _ c.run_at-run.ensures _ c.run_touches.ensures c.if-run_touches.false

pub returns : goal.returns
returns c = back_none _ _ _ _ c.loop-j.invariant (omega arith)
