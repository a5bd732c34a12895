-- `verdict_whole` meets its contract: the refusals in their order, then the verdict of the kept references.
use borrow.Author.Rules.{rules}
use Rattle.units.proofs.Guards.{told, refused, allowed, unlike, like}
use Rattle.agreement.proofs.Agreeing.{agree_head}
use Rattle.answers.proofs.Agreed.{agreed_verdict}
use Rattle.std.specs.Prelude.{Ok}
use mathlib.Core.Bool.{not}
use mathlib.Core.Path.{ap}
use Rattle.answers.proofs.verdicts.verdict_whole.Goals as goal

pub returns-then-not-agrees : goal.returns-then-not-agrees
returns-then-not-agrees c = search (rules, refused)

pub returns-then-rec-eq0 : goal.returns-then-rec-eq0
returns-then-rec-eq0 c =
    allowed _ _ _ _ _ c.agrees.ensures (ap not c.if-not-agrees.false) (like _ _ _ _ c.if-rec-eq0.true)

pub invariant_of-head : goal.invariant_of-head
invariant_of-head c =
    record { held = agree_head _ _ (told _ _ c.agrees.ensures (ap not c.if-not-agrees.false)) }

pub first_kept-from-requires : goal.first_kept-from-requires
first_kept-from-requires c =
    told _ _ c.agrees.ensures (ap not c.if-not-agrees.false)

pub returns : goal.returns
returns c =
    allowed _ _ _ _ _ c.agrees.ensures (ap not c.if-not-agrees.false)
    (unlike _ _ _ _ _ c.if-rec-eq0.false
    (ap Ok (agreed_verdict _ _ (told _ _ c.agrees.ensures (ap not c.if-not-agrees.false)) _ _ _ _
    c.needed_whole-needed.ensures
    c.first_kept-from.ensures
    c.judge.ensures)))
