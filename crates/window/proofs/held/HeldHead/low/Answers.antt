-- `Head::low` meets its contract: the period start, or the clock less the depth past it.
use Rattle.std.proofs.Common.{rules}
use Rattle.window.proofs.Sides.{low_none, low_past}
use Rattle.window.proofs.held.HeldHead.low.Goals as goal

pub returns-then-self-eq0 : goal.returns-then-self-eq0
returns-then-self-eq0 c = search (rules, low_none)

pub returns : goal.returns
returns c = search (rules, low_past)
