-- `Head::needed_whole` meets its contract: the window is the period.
use Rattle.std.proofs.Common.{rules}
use Rattle.window.proofs.Division.{needed_period}
use Rattle.window.proofs.held.HeldHead.needed_whole.Goals as goal

pub returns : goal.returns
returns c = search (rules, needed_period)
