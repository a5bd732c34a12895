-- `count_passed_of` meets its contract: where every end is passed, all of the run are.
use Rattle.std.proofs.Common.{sym}
use Rattle.runs.proofs.Opening.{repeated_length}
use Rattle.keeping.proofs.spent.count_passed_of.Goals as goal

pub returns-in-All : goal.returns-in-All
returns-in-All c = rw c.in-All.is (sym (repeated_length _ _ _))
