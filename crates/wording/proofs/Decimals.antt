-- Decimal text: it needs no count of tenths, it is the fewest digits that hold the number, and it reads back.
use mathlib.Core.Path.{◌≡◌, refl, sym, ap, ap₂, subst, subst⁻¹, ◌∙◌}
use mathlib.Core.Bool.{Bool, true, false, cond, ◌&&◌}
use mathlib.Core.List.{List, [], ◌∷◌, ◌++◌, append_assoc}
use Prim.Native.Nat.{ℕ, zero, suc, ◌+◌, ◌-◌, ◌*◌, ◌/◌, ◌%◌, ◌^◌, ◌≤◌, ◌<◌}
use native.Mathlib.Nat.{pow-suc, one-le-pow, mod-eq_of_lt}
use native.Mathlib.Numerals.{sub-one}
use native.Mathlib.Omega.{arith}
use borrow.Author.Tests.{le-leb, lt-ltb, le-ltb, ltb-true, ltb-false}
use lib.Dec.{ltb}
use lib.ListN.{take}
use Rattle.io.specs.Digits.{hex_digit_ascii, last_digits, IsDigitCount}
use Rattle.wording.specs.Text.{digit, decimal_by, decimal, begins_with_digit, read_from}
use Rattle.wording.specs.Placing.{Put}
use Rattle.wording.proofs.Placed.{put_as}

-- ---- the count of tenths plays no part

one_digit : (f n : ℕ) → n < 10 → decimal_by f n ≡ digit n ∷ []
unfolding decimal_by
one_digit zero n l = refl
one_digit (suc f) n l = ap (λ t. cond t (digit n ∷ []) (decimal_by f (n / 10) ++ digit (n % 10) ∷ [])) (lt-ltb n 10 l)

more_digits : (f n : ℕ) → 10 ≤ n → decimal_by (suc f) n ≡ decimal_by f (n / 10) ++ digit (n % 10) ∷ []
unfolding decimal_by
more_digits f n l = ap (λ t. cond t (digit n ∷ []) (decimal_by f (n / 10) ++ digit (n % 10) ∷ [])) (le-ltb n 10 l)

any_count : (f g n : ℕ) → n ≤ f → n ≤ g → decimal_by f n ≡ decimal_by g n
any_count zero g n a b = one_digit 0 n (omega arith) ∙ sym (one_digit g n (omega arith))
any_count (suc f) zero n a b = one_digit (suc f) n (omega arith) ∙ sym (one_digit 0 n (omega arith))
any_count (suc f) (suc g) n a b = go (ltb n 10) refl (λ l. any_count f g (n / 10) (omega arith) (omega arith))
  where
    go : (t : Bool) → ltb n 10 ≡ t → (10 ≤ n → decimal_by f (n / 10) ≡ decimal_by g (n / 10)) → decimal_by (suc f) n ≡ decimal_by (suc g) n
    go true e h = let l = ltb-true n 10 e in one_digit (suc f) n l ∙ sym (one_digit (suc g) n l)
    go false e h =
        let l = ltb-false n 10 e in
        more_digits f n l ∙ ap (λ ds. ds ++ digit (n % 10) ∷ []) (h l) ∙ sym (more_digits g n l)

-- the text of a number, with no count: one digit, or the text of its tenth and the last digit
pub decimal_is : (n : ℕ) → decimal n ≡ cond (ltb n 10) (digit n ∷ []) (decimal (n / 10) ++ digit (n % 10) ∷ [])
unfolding decimal
decimal_is n = go (ltb n 10) refl n refl
  where
    go : (t : Bool) → ltb n 10 ≡ t → (f : ℕ) → n ≡ f → decimal_by f n ≡ cond t (digit n ∷ []) (decimal_by (n / 10) (n / 10) ++ digit (n % 10) ∷ [])
    go true e f s = one_digit f n (ltb-true n 10 e)
    go false e zero s = let l = ltb-false n 10 e in let z : ⊥ = omega arith in absurd z
    go false e (suc f) s =
        let l = ltb-false n 10 e in
        more_digits f n l ∙ ap (λ ds. ds ++ digit (n % 10) ∷ []) (any_count f (n / 10) (n / 10) (omega arith) (omega arith))

-- ---- the fewest digits

glyph_digit : (d : ℕ) → d < 10 → hex_digit_ascii d ≡ digit d
glyph_digit d l = ap (λ t. cond t (48 + d) (87 + d)) (lt-ltb d 10 l)

few_by : (f n k : ℕ) → n ≤ f → IsDigitCount 10 1 n k → last_digits 10 k n ≡ decimal_by f n
few_by f n zero a w = let z : ⊥ = omega (arith, w.0) in absurd z
few_by f n (suc zero) a w =
    let l : n < 10 = w.1 in
    ap (λ (d : ℕ). hex_digit_ascii d ∷ []) (mod-eq_of_lt l) ∙ ap (λ (d : ℕ). d ∷ []) (glyph_digit n l) ∙ sym (one_digit f n l)
few_by zero n (suc (suc k)) a w =
    let least : 10 ^ suc k ≤ n = subst (λ (j : ℕ). 10 ^ j ≤ n) (sub-one (suc (suc k))) (w.2 (omega arith)) in
    let z : ⊥ = omega (arith, one-le-pow (suc k) 10 (omega arith)) in
    absurd z
few_by (suc f) n (suc (suc k)) a w =
    let least : 10 ^ suc k ≤ n = subst (λ (j : ℕ). 10 ^ j ≤ n) (sub-one (suc (suc k))) (w.2 (omega arith)) in
    let tenth : 10 ^ k * 10 ≤ n = omega (arith, pow-suc 10 k) in
    let most : n < 10 ^ suc k * 10 = omega (arith, w.1, pow-suc 10 (suc k)) in
    let large : 10 ≤ n = omega (arith, one-le-pow k 10 (omega arith)) in
    ap₂ (λ ds (d : ℕ). ds ++ d ∷ []) (few_by f (n / 10) (suc k) (omega arith) (omega arith, omega arith, λ _. subst⁻¹ (λ (j : ℕ). 10 ^ j ≤ n / 10) (sub-one (suc k)) (omega arith))) (glyph_digit (n % 10) (omega arith)) ∙
    sym (more_digits f n large)

pub fewest_decimal : (n k : ℕ) → IsDigitCount 10 1 n k → last_digits 10 k n ≡ decimal n
unfolding decimal
fewest_decimal n k w = few_by n n k (omega arith) w

-- ---- read back

-- what is read before a digit is its tenth
read_digit : (m n d : ℕ) (behind : List ℕ) → d < 10 → m * 10 + d ≡ n → read_from m (digit d ∷ behind) ≡ read_from n behind
unfolding read_from
read_digit m n d behind l e =
    let value : m * 10 + (48 + d - 48) ≡ n = omega arith in
    ap₂ (λ s t. cond (s && t) (read_from (m * 10 + (48 + d - 48)) behind) m) (le-leb 48 (48 + d) (omega arith)) (le-leb (48 + d) 57 (omega arith)) ∙
    ap (λ (k : ℕ). read_from k behind) value

read_by : (f n : ℕ) (behind : List ℕ) → n ≤ f → read_from 0 (decimal_by f n ++ behind) ≡ read_from n behind
read_by zero n behind a = ap (λ ds. read_from 0 (ds ++ behind)) (one_digit 0 n (omega arith)) ∙ read_digit 0 n n behind (omega arith) (omega arith)
read_by (suc f) n behind a = go (ltb n 10) refl (read_by f (n / 10) (digit (n % 10) ∷ behind))
  where
    go : (t : Bool) → ltb n 10 ≡ t → (n / 10 ≤ f → read_from 0 (decimal_by f (n / 10) ++ digit (n % 10) ∷ behind) ≡ read_from (n / 10) (digit (n % 10) ∷ behind)) →
        read_from 0 (decimal_by (suc f) n ++ behind) ≡ read_from n behind
    go true e ih =
        let l = ltb-true n 10 e in
        ap (λ ds. read_from 0 (ds ++ behind)) (one_digit (suc f) n l) ∙ read_digit 0 n n behind l (omega arith)
    go false e ih =
        let l = ltb-false n 10 e in
        ap (λ ds. read_from 0 (ds ++ behind)) (more_digits f n l) ∙
        ap (read_from 0) (append_assoc (decimal_by f (n / 10)) (digit (n % 10) ∷ []) behind) ∙
        ih (omega arith) ∙
        read_digit (n / 10) n (n % 10) behind (omega arith) (omega arith)

read_ends : (n : ℕ) (behind : List ℕ) → begins_with_digit behind ≡ false → read_from n behind ≡ n
unfolding read_from
read_ends n [] e = refl
read_ends n (b ∷ bs) e = ap (λ t. cond t (read_from (n * 10 + (b - 48)) bs) n) e

pub decimal_read : (n : ℕ) (behind : List ℕ) → begins_with_digit behind ≡ false → read_from 0 (decimal n ++ behind) ≡ n
unfolding decimal
decimal_read n behind e = read_by n n behind (omega arith) ∙ read_ends n behind e

-- ---- the first digits of a buffer, put

pub number_put : (n k : ℕ) (buf : List ℕ) {out after : List ℕ} {at m : ℕ} → IsDigitCount 10 1 n k → take k buf ≡ last_digits 10 k n → Put out at (take k buf) after m → Put out at (decimal n) after m
number_put n k buf w e p = put_as (e ∙ fewest_decimal n k w) p
