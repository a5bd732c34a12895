-- `Head::passed_ends` meets its contract: every end, or those up to the tick at the lower edge.
use Rattle.std.proofs.Common.{rules}
use Rattle.window.proofs.Division.{all_passed, upto_passed}
use Rattle.window.proofs.held.HeldHead.passed_ends.Goals as goal

pub returns-then-over_by : goal.returns-then-over_by
returns-then-over_by c = search (rules, all_passed)

pub returns : goal.returns
returns c = search (rules, upto_passed)
