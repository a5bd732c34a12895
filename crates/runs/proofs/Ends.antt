-- How many references have passed by a tick: none of those that begin after it, and among references of one duration a
-- quotient.
use mathlib.Core.Path.{◌≡◌, refl, sym, ap, ◌∙◌}
use mathlib.Core.Bool.{Bool, true, false, cond}
use Prim.Native.Nat.{ℕ, zero, suc, ◌+◌, ◌-◌, ◌*◌, ◌/◌, ◌≤◌, ◌<◌, min}
use native.Mathlib.Nat.{div-eq-sub-div, div-eq_of_lt, div-lt_iff_lt-mul, zero-min, min-zero, suc-min-suc, zero-div, mul_comm}
use native.Mathlib.Numerals.{add-one}
use native.Mathlib.Omega.{arith}
use mathlib.Core.List.{List, [], ◌∷◌, ◌++◌}
use lib.Dec.{leb}
use lib.ListN.{length}
use borrow.Author.Tests.{leb-true, leb-false, lt-leb}
use Rattle.window.specs.declared.Reference.{Reference}
use Rattle.window.specs.Window.{end_of}
use Rattle.window.specs.References.{EndToStart}
use Rattle.runs.specs.Words.{repeated}
use Rattle.runs.specs.Steps.{passed_upto}

module _ (t : ℕ) where
  pub passed_append : (xs ys : List Reference) → passed_upto t (xs ++ ys) ≡ passed_upto t xs + passed_upto t ys
  unfolding passed_upto
  passed_append [] ys = omega arith
  passed_append (x ∷ xs) ys = go (leb (end_of x) t) (passed_append xs ys)
    where
      go : (u : Bool) → passed_upto t (xs ++ ys) ≡ passed_upto t xs + passed_upto t ys →
          cond u (suc (passed_upto t (xs ++ ys))) (passed_upto t (xs ++ ys)) ≡ cond u (suc (passed_upto t xs)) (passed_upto t xs) + passed_upto t ys
      go true e = omega arith
      go false e = e

  pub passed_most : (rs : List Reference) → passed_upto t rs ≤ length rs
  unfolding passed_upto
  passed_most [] = omega arith
  passed_most (r ∷ rs) = go (leb (end_of r) t) (passed_most rs)
    where
      go : (u : Bool) → passed_upto t rs ≤ length rs → cond u (suc (passed_upto t rs)) (passed_upto t rs) ≤ suc (length rs)
      go true l = omega arith
      go false l = omega arith

  -- of references that begin after t none has passed by it
  pub none_upto : (s : ℕ) (rs : List Reference) → EndToStart s rs → t < s → passed_upto t rs ≡ 0
  unfolding passed_upto
  none_upto s [] j l = refl
  none_upto s (r ∷ rs) j l =
      ap (λ u. cond u (suc (passed_upto t rs)) (passed_upto t rs)) (lt-leb (end_of r) t (omega (arith, j.0))) ∙
      none_upto (end_of r) rs j.1 (omega (arith, j.0))

  -- THE LAW: a quotient, or all of them
  pub passed_quotient : (s d n : ℕ) → 1 ≤ d → passed_upto t (repeated s d n) ≡ min n ((t - s) / d)
  unfolding passed_upto repeated
  passed_quotient s d zero l = sym (zero-min ((t - s) / d))
  passed_quotient s d (suc n) l = go (leb (s + d) t) refl (passed_quotient (s + d) d n l)
    where
      go : (u : Bool) → leb (s + d) t ≡ u → passed_upto t (repeated (s + d) d n) ≡ min n ((t - (s + d)) / d) →
          cond u (suc (passed_upto t (repeated (s + d) d n))) (passed_upto t (repeated (s + d) d n)) ≡ min (suc n) ((t - s) / d)
      go true e f =
          let m : s + d ≤ t = leb-true (s + d) t e in
          let less : (t - (s + d)) ≡ t - s - d = omega arith in
          ap suc (f ∙ ap (λ k. min n (k / d)) less) ∙
          sym (suc-min-suc n ((t - s - d) / d)) ∙
          ap (min (suc n)) (sym (div-eq-sub-div l (omega arith) ∙ add-one ((t - s - d) / d)))
      go false e f =
          let m : t < s + d = leb-false (s + d) t e in
          let less : t - (s + d) ≡ 0 = omega arith in
          f ∙
          ap (λ k. min n (k / d)) less ∙
          ap (min n) (zero-div d) ∙
          min-zero n ∙
          sym (ap (min (suc n)) (div-eq_of_lt (omega arith)) ∙ min-zero (suc n))

  -- not all have passed: their end lies past t
  pub ends_past : (s d n : ℕ) → 1 ≤ d → passed_upto t (repeated s d n) < n → t < s + d * n
  ends_past s d n some l =
      let q : min n ((t - s) / d) < n = rw (passed_quotient s d n some) at l in
      let m : t - s < n * d = (div-lt_iff_lt-mul some).0 (omega arith) in
      omega (arith, mul_comm n d)
