use Rattle.std.proofs.Common.{not, sym, ap, ◌∙◌}
use Rattle.units.proofs.Guards.{told}
use Rattle.units.proofs.Makers.{clock_held_lem}
use Rattle.agreement.proofs.Agreeing.{agree_head, agree_within}
use Rattle.lookups.proofs.Numbering.{found_within}
use Rattle.lookups.proofs.times.available_at.Goals as goal

pub invariant_of-head : goal.invariant_of-head
invariant_of-head c =
    record { held = agree_head _ _ (told _ _ c.agrees.ensures (ap not c.if-not-agrees.false)) }

pub is_available-requires : goal.is_available-requires
is_available-requires c =
    let agreed = told _ _ c.agrees.ensures (ap not c.if-not-agrees.false) in (
      found_within _ _ _ _ (agree_within _ _ agreed) (sym c.in_ok-at.ensures.ok_part ∙ c.asked_number.ensures),
      clock_held_lem _ _ c.new.ensures _ c.in_ok-clock.ensures.ok_part,
    )
