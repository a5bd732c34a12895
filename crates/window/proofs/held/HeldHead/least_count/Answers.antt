-- `Head::least_count` meets its contract: a quotient that is rounded up.
use Rattle.std.proofs.Common.{rules}
use Rattle.window.proofs.Division.{left_down, least_count_lem}
use Rattle.window.proofs.held.HeldHead.least_count.Goals as goal

pub overflow_sub-left : goal.overflow_sub-left
overflow_sub-left c = search (rules, left_down)

pub returns : goal.returns
returns c = search (rules, least_count_lem)
