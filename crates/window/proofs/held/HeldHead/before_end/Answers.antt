-- `Head::before_end` meets its contract: the places are compared after both are moved by the offset.
use Rattle.std.proofs.Common.{rules}
use Rattle.window.proofs.Sides.{before_ends}
use Rattle.window.proofs.held.HeldHead.before_end.Goals as goal

pub returns : goal.returns
returns c = search (rules, before_ends)
