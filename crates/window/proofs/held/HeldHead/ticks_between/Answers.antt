-- `Head::ticks_between` meets its contract: the division finds exactly the needed ticks.
use Rattle.std.proofs.Common.{rules}
use Rattle.window.proofs.Division.{ticks_found}
use Rattle.window.proofs.held.HeldHead.ticks_between.Goals as goal

pub returns : goal.returns
returns c = search (rules, ticks_found)
