-- `judge` meets its contract: where the window needs nothing, so does the verdict. The other case is found without help.
use Rattle.answers.proofs.Judging.{judge_nothing}
use Rattle.answers.proofs.verdicts.judge.Goals as goal

pub returns-in-None : goal.returns-in-None
returns-in-None c = judge_nothing _ _ c.in-None.is
