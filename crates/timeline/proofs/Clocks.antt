-- The refusals of a call that takes a clock, as the code meets them: 2, then 10, then what comes.
use mathlib.Core.Path.{◌≡◌, sym, ap, subst⁻¹}
use mathlib.Core.Bool.{Bool, true, false, cond, not}
use mathlib.Core.List.{List}
use Prim.Native.Nat.{ℕ, ◌≤◌}
use borrow.Author.Tests.{leb-true}
use Rattle.units.specs.declared.Millis.{Millis}
use Rattle.std.specs.Prelude.{Err, None, Option, Some}
use Rattle.keeping.specs.Keeping.{Outcome}
use Rattle.units.specs.declared.WideMillis.{WideMillis}
use Rattle.units.specs.Limits.{largest_millis, millis_made, clock_held}
use Rattle.units.proofs.Guards.{refused, allowed}
use Rattle.units.proofs.Makers.{milliseconds}
use Rattle.agreement.specs.declared.Record.{Record}
use Rattle.agreement.specs.declared.refusal.Refusal.TheVariants.{Disagreement, ClockLimit}
use Rattle.agreement.specs.Agreement.{agrees}

-- the clock that was made of the one given
module _ (c : WideMillis) (made : Option Millis) (k : made ≡ millis_made c.0) (at : Millis) (m : made ≡ Some at) where
  pub clock_held_lem : clock_held c ≡ true
  clock_held_lem = milliseconds.within c.0 made at k m

  pub clock_is : at ≡ record { 0 = c.0 }
  clock_is = milliseconds.is c.0 made at k m

  pub clock_small : at.0 ≤ largest_millis
  clock_small = subst⁻¹ (λ (x : Millis). x.0 ≤ largest_millis) clock_is (leb-true c.0 largest_millis clock_held_lem)

module _ (rec : Record) (ws : List ℕ) (c : WideMillis) (next : Outcome) (t : Bool) (e : t ≡ agrees rec ws) where
  abbrev asked : Outcome
  asked = cond (agrees rec ws) (cond (clock_held c) next (Err ClockLimit)) (Err Disagreement)

  pub disagrees : not t ≡ true → asked ≡ Err Disagreement
  disagrees n = sym (refused t _ _ _ e n)

  module _ (n : not t ≡ false) (made : Option Millis) (k : made ≡ millis_made c.0) where
    by_clock : (b : Bool) → clock_held c ≡ b → asked ≡ cond b next (Err ClockLimit)
    by_clock b j = sym (allowed t _ _ _ _ e n (sym (ap (λ x. cond x next (Err ClockLimit)) j)))

    pub over : made ≡ None → asked ≡ Err ClockLimit
    over m = by_clock false (milliseconds.beyond c.0 made k m)

    pub within : (at : Millis) → made ≡ Some at → asked ≡ next
    within at m = by_clock true (clock_held_lem c made k at m)
