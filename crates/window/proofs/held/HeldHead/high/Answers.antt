-- `Head::high` meets its contract: the cut to the period end, where that is known.
use Rattle.std.proofs.Common.{rules}
use Rattle.window.proofs.Sides.{high_open, high_known}
use Rattle.window.proofs.held.HeldHead.high.Goals as goal

pub returns-then-self-eq0 : goal.returns-then-self-eq0
returns-then-self-eq0 c = search (rules, high_open)

pub returns : goal.returns
returns c = search (rules, high_known)
