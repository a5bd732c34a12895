-- Digits and numbers, once over the width: written then read is the number, read then written are the digits.
use mathlib.Core.Path.{◌≡◌, refl, sym, ◌∙◌, ap, ap₂}
use mathlib.Core.Bool.{Bool, true, ◌&&◌, and_assoc, and-eq-true_iff}
use mathlib.Core.List.{List, [], ◌∷◌, ◌++◌}
use Prim.Native.Nat.{ℕ, zero, suc, ◌+◌, ◌*◌, ◌/◌, ◌%◌, ◌^◌, ◌<◌}
use native.Mathlib.Nat.{pow-succ', one-le-pow, mod-lt, mod-one, mod-eq_of_lt, div-one, div-div-eq-div-mul}
use native.Mathlib.Omega.{arith}
use lib.Arith.{mod-mul, digits_lt, digits_div, digits_mod}
use lib.ListN.{length, get_or}
use Rattle.hexdigits.specs.Digits.{is_digit, value_of, digit_of, are_digits, number_of, digits_of}
use Rattle.hexdigits.proofs.Single.{value_below, digit_of_value, value_of_digit, digit_is_digit}

positive : (n : ℕ) → 0 < 16 ^ n
positive n = one-le-pow n 16 (omega arith)

pub length_digits : (n x : ℕ) → length (digits_of n x) ≡ n
unfolding digits_of
length_digits zero x = refl
length_digits (suc n) x = ap suc (length_digits n x)

pub digits_are_digits : (n x : ℕ) → are_digits (digits_of n x) ≡ true
unfolding digits_of are_digits
digits_are_digits zero x = refl
digits_are_digits (suc n) x =
    ap₂ ◌&&◌ (digit_is_digit (x / 16 ^ n % 16) (mod-lt (x / 16 ^ n) (omega arith))) (digits_are_digits n x)

pub number_below : (ds : List ℕ) → number_of ds < 16 ^ length ds
unfolding number_of
number_below [] = omega arith
number_below (d ∷ ds) = rw (pow-succ' 16 (length ds)) (digits_lt (value_below d) (number_below ds))

-- the digits written mean what is left of x by 16 ^ n
number_of_digits : (n x : ℕ) → number_of (digits_of n x) ≡ x % 16 ^ n
unfolding digits_of number_of
number_of_digits zero x = sym (mod-one x)
number_of_digits (suc n) x =
    ap₂ ◌+◌
    (ap₂ ◌*◌
    (value_of_digit (x / 16 ^ n % 16) (mod-lt (x / 16 ^ n) (omega arith)))
    (ap (λ (m : ℕ). 16 ^ m) (length_digits n x)))
    (number_of_digits n x) ∙
    sym (rw (pow-succ' 16 n) (mod-mul x (omega arith) (positive n)))

-- written then read is the number
pub digits_written_read : (n x : ℕ) → x < 16 ^ n → number_of (digits_of n x) ≡ x
digits_written_read n x h = number_of_digits n x ∙ mod-eq_of_lt h

-- a number splits in one way into a multiple of m and a rest below m
module _ (a b : ℕ) {m r s : ℕ} (h : r < m) (k : s < m) (e : a * m + r ≡ b * m + s) where
  one_quotient : a ≡ b
  one_quotient = sym (digits_div a h) ∙ ap (λ (x : ℕ). x / m) e ∙ digits_div b k

  one_rest : r ≡ s
  one_rest = sym (digits_mod a h) ∙ ap (λ (x : ℕ). x % m) e ∙ digits_mod b k

-- digits of one length and one number are the same
same_digits : (xs ys : List ℕ) → are_digits xs ≡ true → are_digits ys ≡ true → length xs ≡ length ys → number_of xs ≡ number_of ys → xs ≡ ys
unfolding are_digits number_of
same_digits [] [] p q e n = refl
same_digits [] (y ∷ ys) p q e n = let z : ⊥ = omega arith in absurd z
same_digits (x ∷ xs) [] p q e n = let z : ⊥ = omega arith in absurd z
same_digits (x ∷ xs) (y ∷ ys) p q e n =
    let a = (and-eq-true_iff (is_digit x) (are_digits xs)).0 p in
    let b = (and-eq-true_iff (is_digit y) (are_digits ys)).0 q in
    let l : length xs ≡ length ys = omega arith in
    let k : number_of ys < 16 ^ length xs = rw l (number_below ys) in
    let s : value_of x * 16 ^ length xs + number_of xs ≡ value_of y * 16 ^ length xs + number_of ys =
    n ∙ ap (λ (m : ℕ). value_of y * 16 ^ m + number_of ys) (sym l) in
    ap₂ ◌∷◌
    (sym (digit_of_value x a.0) ∙
    ap digit_of (one_quotient (value_of x) (value_of y) (number_below xs) k s) ∙
    digit_of_value y b.0)
    (same_digits xs ys a.1 b.1 l (one_rest (value_of x) (value_of y) (number_below xs) k s))

-- read then written are the digits
pub digits_read_written : (ds : List ℕ) → are_digits ds ≡ true → digits_of (length ds) (number_of ds) ≡ ds
digits_read_written ds h =
    same_digits (digits_of (length ds) (number_of ds)) ds (digits_are_digits (length ds) (number_of ds)) h
    (length_digits (length ds) (number_of ds))
    (digits_written_read (length ds) (number_of ds) (number_below ds))

-- bytes of two parts are digits where those of both are
pub digits_joined : (xs ys : List ℕ) → are_digits (xs ++ ys) ≡ (are_digits xs && are_digits ys)
unfolding are_digits
digits_joined [] ys = refl
digits_joined (x ∷ xs) ys = ap (λ (t : Bool). is_digit x && t) (digits_joined xs ys) ∙ sym (and_assoc (is_digit x) (are_digits xs) (are_digits ys))

pub digit_at : (ds : List ℕ) (i : ℕ) → are_digits ds ≡ true → i < length ds → is_digit (get_or ds i 0) ≡ true
unfolding are_digits
digit_at [] i e h = let z : ⊥ = omega arith in absurd z
digit_at (d ∷ ds) zero e h = ((and-eq-true_iff (is_digit d) (are_digits ds)).0 e).0
digit_at (d ∷ ds) (suc i) e h = digit_at ds i ((and-eq-true_iff (is_digit d) (are_digits ds)).0 e).1 (omega arith)

-- the last digit is the remainder by 16, and those before it are the quotient's
pub digits_last : (n x : ℕ) → digits_of (suc n) x ≡ digits_of n (x / 16) ++ (digit_of (x % 16) ∷ [])
unfolding digits_of
digits_last zero x = ap (λ (m : ℕ). digit_of (m % 16) ∷ []) (div-one x)
digits_last (suc n) x =
    ap₂ (λ (m : ℕ) (ds : List ℕ). digit_of (m % 16) ∷ ds)
    (ap (λ (m : ℕ). x / m) (pow-succ' 16 n) ∙ sym (div-div-eq-div-mul x 16 (16 ^ n)))
    (digits_last n x)
