-- `Head::needed_at` meets its contract: the window lies inside the period.
use Rattle.std.proofs.Common.{rules}
use Rattle.window.proofs.Division.{needed_window}
use Rattle.window.proofs.held.HeldHead.needed_at.Goals as goal

pub returns : goal.returns
returns c = search (rules, needed_window)
