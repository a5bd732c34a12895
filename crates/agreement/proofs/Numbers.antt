-- The number of a refusal.
use mathlib.Core.Path.{◌≡◌, refl}
use mathlib.Core.Bool.{false}
use borrow.Author.Tests.{eqb-false}
use lib.Dec.{eqb}
use Rattle.agreement.specs.declared.refusal.Refusal.{Refusal}
use Rattle.agreement.specs.declared.refusal.Refusal.TheVariants as refusal
use Rattle.agreement.specs.Numbers.{refusal_number}

-- no refusal has the number 0
pub refusal_some : (why : Refusal) → refusal_number why ≡ 0 → ⊥
refusal_some why = eqb-false (refusal_number why) 0 (go why)
  where
    go : (why : Refusal) → eqb (refusal_number why) 0 ≡ false
    go refusal.OverLimit = refl
    go refusal.Disagreement = refl
    go refusal.NothingGiven = refl
    go (refusal.Gap d) = refl
    go (refusal.Overlap d) = refl
    go refusal.TickLimit = refl
    go refusal.CountLimit = refl
    go refusal.PastEnd = refl
    go refusal.NoRunLeft = refl
    go refusal.ClockLimit = refl
    go refusal.EarlierClock = refl
    go refusal.NothingKept = refl
    go refusal.NotKept = refl
    go refusal.EmptySpan = refl
    go refusal.ShortOutput = refl
    go refusal.BadLine = refl
    go refusal.BadOrder = refl
    go refusal.NoEndToReach = refl
    go refusal.EndUnknown = refl
