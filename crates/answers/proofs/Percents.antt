-- Percent, by the tests of the code.
use mathlib.Core.Path.{◌≡◌, ap}
use Prim.Native.Nat.{ℕ, ◌*◌, ◌/◌, ◌≤◌, ◌<◌}
use Rattle.units.proofs.Guards.{same, other, above, at_most}
use Rattle.std.specs.Prelude.{None, Some}
use Rattle.answers.specs.Shares.{percent_of}

-- ---- by the code's tests

module _ (needed covered : ℕ) where
  pub none_of_nothing : needed ≡ 0 → None ≡ percent_of needed covered
  none_of_nothing e = same needed 0 _ _ e

  module _ (o : needed ≡ 0 → ⊥) where
    pub none_of_more : needed < covered → None ≡ percent_of needed covered
    none_of_more l = other needed 0 _ _ _ o (above covered needed _ _ l)

    pub some_percent : (r : ℕ) → covered ≤ needed → r ≡ covered * 100 / needed → Some r ≡ percent_of needed covered
    some_percent r l e = other needed 0 _ _ _ o (at_most covered needed _ _ _ l (ap Some e))
