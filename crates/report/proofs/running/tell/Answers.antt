-- What is told of a desk is the answer to whatever brought it there.
use Rattle.report.proofs.Turns.{tells}
use Rattle.report.proofs.running.tell.Goals as goal

pub returns : goal.returns
returns c = tells _ _ _ _ _ c.answer.ensures.value c.answer.ensures.out_after
