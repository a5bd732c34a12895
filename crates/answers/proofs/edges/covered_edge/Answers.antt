-- `covered_edge` meets its contract: refused where record and table disagree, else the edge by the next tick.
use borrow.Author.Rules.{rules}
use Rattle.units.proofs.Guards.{told, refused, allowed}
use Rattle.agreement.proofs.Agreeing.{agree_head, agreeing}
use mathlib.Core.Bool.{not}
use mathlib.Core.Path.{ap}
use Rattle.answers.proofs.edges.covered_edge.Goals as goal

pub returns-then-not-agrees : goal.returns-then-not-agrees
returns-then-not-agrees c = search (rules, refused)

pub invariant_of-head : goal.invariant_of-head
invariant_of-head c =
    record { held = agree_head _ _ (told _ _ c.agrees.ensures (ap not c.if-not-agrees.false)) }

pub edge_of-requires : goal.edge_of-requires
edge_of-requires c =
    (agreeing _ _ (told _ _ c.agrees.ensures (ap not c.if-not-agrees.false))).held.next

pub returns : goal.returns
returns c = search (rules, allowed)
