-- `Head::over_by` meets its contract: an unknown end is never reached.
use Rattle.std.proofs.Common.{rules}
use Rattle.window.proofs.Division.{over_known}
use Rattle.window.proofs.held.HeldHead.over_by.Goals as goal

pub returns : goal.returns
returns c = search (rules, over_known)
