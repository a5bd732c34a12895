-- A range of ticks as a test: tick k lies from a on and before b.
use mathlib.Core.Path.{◌≡◌, refl, ap, ap₂}
use mathlib.Core.Bool.{Bool, true, false, ◌&&◌, and-eq-true_iff}
use Prim.Native.Nat.{ℕ, ◌≤◌, ◌<◌}
use borrow.Author.Tests.{leb-true, leb-false, ltb-true, ltb-false, le-leb, lt-leb, lt-ltb, le-ltb}
use lib.Dec.{leb, ltb}

module _ (a b k : ℕ) where
  abbrev lies : Bool
  lies = leb a k && ltb k b

  pub in_range_lem : a ≤ k → k < b → lies ≡ true
  in_range_lem l m = ap₂ ◌&&◌ (le-leb a k l) (lt-ltb k b m)

  pub before_range : k < a → lies ≡ false
  before_range l = ap (λ t. t && ltb k b) (lt-leb a k l)

  pub past_range : b ≤ k → lies ≡ false
  past_range l = go (leb a k)
    where
      go : (t : Bool) → (t && ltb k b) ≡ false
      go true = le-ltb k b l
      go false = refl

  pub range_first : lies ≡ true → a ≤ k
  range_first t = leb-true a k ((and-eq-true_iff (leb a k) (ltb k b)).0 t).0

  pub range_last : lies ≡ true → k < b
  range_last t = ltb-true k b ((and-eq-true_iff (leb a k) (ltb k b)).0 t).1

  -- by where k lies
  pub range_cases : {A : Type 0} → (lies ≡ true → a ≤ k → k < b → A) → (lies ≡ false → k < a → A) → (lies ≡ false → b ≤ k → A) → A
  range_cases {A} inside under past = go (leb a k) refl (ltb k b) refl
    where
      go : (s : Bool) → leb a k ≡ s → (t : Bool) → ltb k b ≡ t → A
      go true e true f = inside (ap₂ ◌&&◌ e f) (leb-true a k e) (ltb-true k b f)
      go true e false f = past (ap₂ ◌&&◌ e f) (ltb-false k b f)
      go false e t f = under (ap (λ s. s && ltb k b) e) (leb-false a k e)
