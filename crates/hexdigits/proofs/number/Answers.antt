use mathlib.Core.Path.{◌≡◌, sym, ◌∙◌, ap}
use mathlib.Core.List.{List}
use Prim.Native.Nat.{ℕ, suc, ◌+◌, ◌*◌, ◌^◌, ◌≤◌, ◌<◌}
use native.Mathlib.Nat.{lt_of_lt_of_le, pow-suc, pow-succ', pow-le-pow_right, add-mul, mul_assoc, add_assoc, mul-one, zero-mul, zero-add, add-zero}
use native.Mathlib.Numerals.{add-one}
use native.Mathlib.Omega.{arith}
use borrow.Author.Rules.{rules}
use lib.Arith.{digits_lt}
use lib.ListN.{length, get_or, drop, drop_of_length-le}
use lib.Seq.{drop-cons}
use Rattle.hexdigits.specs.Digits.{value_of, number_of}
use Rattle.hexdigits.proofs.Single.{value_below}
use Rattle.hexdigits.proofs.number.Invariants.{Read}
use Rattle.hexdigits.proofs.number.Goals as goal

-- n is what the digits before i mean

begun : (s : List ℕ) → Read s 0 0
begun s = record { small = omega arith; whole = rw (zero-mul (16 ^ length s)) (zero-add (number_of s)) }

module _ (s : List ℕ) (n i : ℕ) (r : Read s n i) where
  room : i < length s → length s ≤ 16 → n < 16 ^ 15
  room h l = lt_of_lt_of_le r.small (pow-le-pow_right {n = 16} (omega arith) {i = i} {j = 15} (omega arith))

  moved_fits : i < length s → length s ≤ 16 → n * 16 < 2 ^ 64
  moved_fits h l = let m = room h l in omega arith

  joined_fits : (v b : ℕ) → i < length s → length s ≤ 16 → v ≡ value_of b → n * 16 + v < 2 ^ 64
  joined_fits v b h l d = let m = room h l in omega (arith, value_below b)

  turn : (v : ℕ) → i < length s → v ≡ value_of (get_or s i 0) → Read s (n * 16 + v) (i + 1)
  unfolding number_of
  turn v h d =
      record {
        small = rw (add-one i, pow-suc 16 i, d) (digits_lt r.small (value_below (get_or s i 0)));
        whole =
            let rest = drop (suc i) s in
            rw (add-one i, d)
            (shift n (value_of (get_or s i 0)) (16 ^ length rest) (number_of rest) ∙
            ap (λ (p : ℕ). n * p + (value_of (get_or s i 0) * 16 ^ length rest + number_of rest)) (sym (pow-succ' 16 (length rest))) ∙
            (rw (drop-cons s i 0 h) at r.whole));
      }
    where
      shift : (n v p m : ℕ) → (n * 16 + v) * p + m ≡ n * (16 * p) + (v * p + m)
      shift n v p m = simp (add-mul, mul_assoc, add_assoc)

  done : length s ≤ i → n ≡ number_of s
  unfolding number_of
  done h =
      sym (mul-one n) ∙ sym (add-zero (n * 1)) ∙ (rw (drop_of_length-le s h) at r.whole)

pub loop-b-init : goal.loop-b-init
loop-b-init c = search (rules, begun)

pub overflow_mul-n : goal.overflow_mul-n
overflow_mul-n c = search (rules, moved_fits)

pub overflow_add-n : goal.overflow_add-n
overflow_add-n c = search (rules, joined_fits)

pub loop-b-preserved : goal.loop-b-preserved
loop-b-preserved c = search (rules, turn)

pub returns : goal.returns
returns c = search (rules, done)
