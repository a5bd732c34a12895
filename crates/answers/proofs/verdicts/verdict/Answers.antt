-- `verdict` meets its contract: the refusals in their order, then the verdict of the kept references.
use borrow.Author.Rules.{rules}
use mathlib.Core.Path.{subst}
use Prim.Native.Nat.{ℕ}
use Rattle.units.proofs.Guards.{told, refused, allowed}
use Rattle.units.proofs.Makers.{clock_over, clock_is, clock_held_lem, clock_made, clock_before, clock_from}
use Rattle.window.specs.Window.{window_at}
use Rattle.window.specs.Ticks.{NeededTicks}
use Rattle.agreement.proofs.Agreeing.{agree_head}
use Rattle.answers.proofs.Agreed.{agreed_verdict}
use Rattle.std.specs.Prelude.{Ok}
use mathlib.Core.Bool.{not}
use mathlib.Core.Path.{ap}
use Rattle.answers.proofs.verdicts.verdict.Goals as goal

pub returns-then-not-agrees : goal.returns-then-not-agrees
returns-then-not-agrees c = search (rules, refused)

pub returns-in_default : goal.returns-in_default
returns-in_default c = search (rules, allowed, clock_over)

pub returns-then-at-rec : goal.returns-then-at-rec
returns-then-at-rec c = search (rules, allowed, clock_made, clock_before)

pub invariant_of-head : goal.invariant_of-head
invariant_of-head c =
    record { held = agree_head _ _ (told _ _ c.agrees.ensures (ap not c.if-not-agrees.false)) }

pub needed_at-needed-requires : goal.needed_at-needed-requires
needed_at-needed-requires c =
    clock_held_lem c.args.clock.0 _ c.new.ensures _ c.in-Some.is

pub first_kept-from-requires : goal.first_kept-from-requires
first_kept-from-requires c =
    told _ _ c.agrees.ensures (ap not c.if-not-agrees.false)

pub returns : goal.returns
returns c =
    let given = c.args in
    let head = given.rec.head in
    let clock = clock_is given.clock.0 _ c.new.ensures _ c.in-Some.is in
    allowed _ _ _ _ _ c.agrees.ensures (ap not c.if-not-agrees.false)
    (clock_made given.clock.0 _ c.new.ensures _ c.in-Some.is _ _ _
    (clock_from given.clock.0 _ c.new.ensures _ c.in-Some.is _ _ _ _ c.if-at-rec.false
    (ap Ok (agreed_verdict _ _ (told _ _ c.agrees.ensures (ap not c.if-not-agrees.false)) _ _ _ _
    (subst (λ (n : ℕ). NeededTicks head (window_at head n) c.needed_at-needed.result) clock c.needed_at-needed.ensures)
    c.first_kept-from.ensures
    c.judge.ensures))))
