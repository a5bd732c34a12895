-- One digit: a value below 16 and the byte that means it determine each other.
use mathlib.Core.Path.{◌≡◌, refl, sym, ◌∙◌}
use mathlib.Core.Bool.{Bool, true, false, and-false, and-eq-true_iff, false≢true}
use Prim.Native.Nat.{ℕ, ◌+◌, ◌-◌, ◌≤◌, ◌<◌}
use native.Mathlib.Omega.{arith}
use lib.Dec.{leb, ltb}
use borrow.Author.Tests.{lt-ltb, le-ltb, le-leb, lt-leb, ltb-true, ltb-false, leb-true}
use Rattle.hexdigits.specs.Digits.{between, is_decimal, is_letter, is_digit, value_of, digit_of}

module _ (low high b : ℕ) where
  between_from : low ≤ b → between low high b ≡ leb b high
  unfolding between
  between_from l = simp (le-leb low b l)

  between_in : low ≤ b → b ≤ high → between low high b ≡ true
  between_in l h = between_from l ∙ le-leb b high h

  between_over : high < b → between low high b ≡ false
  unfolding between
  between_over h = simp (lt-leb b high h) (and-false (leb low b))

  between_low : between low high b ≡ true → low ≤ b
  unfolding between
  between_low e = leb-true low b ((and-eq-true_iff (leb low b) (leb b high)).0 e).0

  between_high : between low high b ≡ true → b ≤ high
  unfolding between
  between_high e = leb-true b high ((and-eq-true_iff (leb low b) (leb b high)).0 e).1

module _ (b : ℕ) where
  value_decimal : 48 ≤ b → b ≤ 57 → value_of b ≡ b - 48
  unfolding value_of
  value_decimal l h = simp (between_in 48 57 b l h)

  value_letter : 97 ≤ b → b ≤ 102 → value_of b ≡ b - 87
  unfolding value_of
  value_letter l h = simp (between_over 48 57 b (omega arith), between_in 97 102 b l h)

  value_other : is_decimal b ≡ false → is_letter b ≡ false → value_of b ≡ 0
  unfolding value_of
  value_other d l = simp (d, l)

  value_none : is_digit b ≡ false → value_of b ≡ 0
  unfolding is_digit
  value_none e = go (is_decimal b) refl (is_letter b) refl
    where
      go : (t : Bool) → is_decimal b ≡ t → (u : Bool) → is_letter b ≡ u → value_of b ≡ 0
      go true d u l = absurd (false≢true (sym (simp d at e)))
      go false d true l = absurd (false≢true (sym (simp (d, l) at e)))
      go false d false l = value_other d l

  -- a digit is a decimal one or a letter
  by_digit : {P : Type 0} → is_digit b ≡ true → (48 ≤ b → b ≤ 57 → P) → (97 ≤ b → b ≤ 102 → P) → P
  unfolding is_digit
  by_digit {P} e p q = go (is_decimal b) refl (is_letter b) refl
    where
      go : (t : Bool) → is_decimal b ≡ t → (u : Bool) → is_letter b ≡ u → P
      go true d u l = p (between_low 48 57 b d) (between_high 48 57 b d)
      go false d true l = q (between_low 97 102 b l) (between_high 97 102 b l)
      go false d false l = absurd (false≢true (simp (d, l) at e))

  pub value_below : value_of b < 16
  value_below = go (is_digit b) refl
    where
      go : (t : Bool) → is_digit b ≡ t → value_of b < 16
      go true e = by_digit e (λ l h. rw (value_decimal l h) (omega arith)) (λ l h. rw (value_letter l h) (omega arith))
      go false e = rw (value_none e) (omega arith)

  -- a digit is the digit of its value
  pub digit_of_value : is_digit b ≡ true → digit_of (value_of b) ≡ b
  unfolding digit_of
  digit_of_value e =
      by_digit e
      (λ l h. simp (value_decimal l h, lt-ltb (b - 48) 10 (omega arith)) (omega arith))
      (λ l h. simp (value_letter l h, le-ltb (b - 87) 10 (omega arith)) (omega arith))

module _ (v : ℕ) (h : v < 16) where
  -- the byte of a value is decimal below ten, else a letter
  by_size : {P : Type 0} → (v < 10 → digit_of v ≡ 48 + v → P) → (10 ≤ v → digit_of v ≡ 87 + v → P) → P
  unfolding digit_of
  by_size {P} d l = go (ltb v 10) refl
    where
      go : (t : Bool) → ltb v 10 ≡ t → P
      go true e = d (ltb-true v 10 e) (simp e)
      go false e = l (ltb-false v 10 e) (simp e)

  -- a value is what its digit means
  pub value_of_digit : value_of (digit_of v) ≡ v
  value_of_digit =
      by_size
      (λ s e. rw (e, value_decimal (48 + v) (omega arith) (omega arith)) (omega arith))
      (λ s e. rw (e, value_letter (87 + v) (omega arith) (omega arith)) (omega arith))

  pub digit_is_digit : is_digit (digit_of v) ≡ true
  unfolding is_digit
  digit_is_digit =
      by_size
      (λ s e. simp (e, between_in 48 57 (48 + v) (omega arith) (omega arith)))
      (λ s e. simp (e, between_over 48 57 (87 + v) (omega arith), between_in 97 102 (87 + v) (omega arith) (omega arith)))
