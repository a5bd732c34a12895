-- The fields of a line, once over the row of widths: written then read are the values, read then written are the digits.
-- Every kind of frame is an instance.
use mathlib.Core.Path.{◌≡◌, refl, sym, ◌∙◌, ap, ap₂}
use mathlib.Core.Bool.{true, ◌&&◌, and-eq-true_iff}
use mathlib.Core.List.{List, [], ◌∷◌, ◌++◌}
use Prim.Native.Nat.{ℕ, suc, ◌+◌, ◌*◌}
use native.Mathlib.Nat.{lt_of_lt_of_le, pow-le-pow_right}
use native.Mathlib.Omega.{arith}
use lib.ListN.{length, take, drop, length-append, length-take, length-drop, take-append-drop}
use lib.Seq.{take_at, drop_at, length-take-le}
use Rattle.hexdigits.specs.Digits.{are_digits, number_of, digits_of}
use Rattle.hexdigits.proofs.Widths.{length_digits, digits_are_digits, number_below, digits_written_read, digits_read_written, digits_joined}
use Rattle.frames.specs.Fields.{digit_count, field_digits, field_values, Fit}

pub fit_length : (ws vs : List ℕ) → Fit ws vs → length vs ≡ length ws
fit_length [] [] f = refl
fit_length [] (v ∷ vs) f = absurd f
fit_length (w ∷ ws) [] f = absurd f
fit_length (w ∷ ws) (v ∷ vs) f = ap suc (fit_length ws vs f.1)

pub length_values : (ws ds : List ℕ) → length (field_values ws ds) ≡ length ws
unfolding field_values
length_values [] ds = refl
length_values (w ∷ ws) ds = ap suc (length_values ws (drop (2 * w) ds))

pub length_fields : (ws vs : List ℕ) → length vs ≡ length ws → length (field_digits ws vs) ≡ digit_count ws
unfolding field_digits
length_fields [] vs e = refl
length_fields (w ∷ ws) [] e = let z : ⊥ = omega arith in absurd z
length_fields (w ∷ ws) (v ∷ vs) e =
    length-append (digits_of (2 * w) v) (field_digits ws vs) ∙
    ap₂ ◌+◌ (length_digits (2 * w) v) (length_fields ws vs (omega arith))

pub fields_are_digits : (ws vs : List ℕ) → are_digits (field_digits ws vs) ≡ true
unfolding field_digits are_digits
fields_are_digits [] vs = refl
fields_are_digits (w ∷ ws) [] = refl
fields_are_digits (w ∷ ws) (v ∷ vs) =
    digits_joined (digits_of (2 * w) v) (field_digits ws vs) ∙
    ap₂ ◌&&◌ (digits_are_digits (2 * w) v) (fields_are_digits ws vs)

-- what is read fits the widths that it was read over
pub fields_read_fit : (ws ds : List ℕ) → Fit ws (field_values ws ds)
unfolding field_values
fields_read_fit [] ds = tt
fields_read_fit (w ∷ ws) ds = (
  lt_of_lt_of_le (number_below (take (2 * w) ds))
      (pow-le-pow_right {n = 16} (omega arith) {i = length (take (2 * w) ds)} {j = 2 * w} (rw (length-take (2 * w) ds) (omega arith))),
  fields_read_fit ws (drop (2 * w) ds),
)

-- written then read are the values
pub fields_written_read : (ws vs : List ℕ) → Fit ws vs → field_values ws (field_digits ws vs) ≡ vs
unfolding field_digits field_values
fields_written_read [] [] f = refl
fields_written_read [] (v ∷ vs) f = absurd f
fields_written_read (w ∷ ws) [] f = absurd f
fields_written_read (w ∷ ws) (v ∷ vs) f =
    let ds = digits_of (2 * w) v in
    let rest = field_digits ws vs in
    ap₂ ◌∷◌
    (ap number_of (take_at ds rest (2 * w) (length_digits (2 * w) v)) ∙ digits_written_read (2 * w) v f.0)
    (ap (field_values ws) (drop_at ds rest (2 * w) (length_digits (2 * w) v)) ∙ fields_written_read ws vs f.1)

-- read then written are the digits
pub fields_read_written : (ws ds : List ℕ) → are_digits ds ≡ true → length ds ≡ digit_count ws → field_digits ws (field_values ws ds) ≡ ds
unfolding field_digits field_values
fields_read_written [] [] d e = refl
fields_read_written [] (x ∷ ds) d e = let z : ⊥ = omega arith in absurd z
fields_read_written (w ∷ ws) ds d e =
    let n = 2 * w in
    let both =
    (and-eq-true_iff (are_digits (take n ds)) (are_digits (drop n ds))).0
    (sym (digits_joined (take n ds) (drop n ds)) ∙ ap are_digits (take-append-drop n ds) ∙ d)
    in
    let first : digits_of n (number_of (take n ds)) ≡ take n ds =
    ap (λ (m : ℕ). digits_of m (number_of (take n ds))) (sym (length-take-le n ds (omega arith))) ∙
    digits_read_written (take n ds) both.0 in
    ap₂ ◌++◌ first
    (fields_read_written ws (drop n ds) both.1
    (rw (length-drop n ds) (omega arith))) ∙
    take-append-drop n ds
