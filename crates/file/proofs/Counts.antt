-- The least count that reaches the period end: what the search finds is the only least count.
use mathlib.Core.Path.{◌≡◌, refl, ap, ◌∙◌}
use mathlib.Core.Bool.{Bool, true, false, cond}
use Prim.Native.Nat.{ℕ, zero, suc, ◌+◌, ◌*◌, ◌≤◌, ◌<◌}
use native.Mathlib.Nat.{mul-le-mul_right, add-mul, one-mul}
use native.Mathlib.Omega.{arith}
use borrow.Author.Tests.{leb-true, leb-false, le-leb}
use lib.Dec.{leb}
use Rattle.window.specs.declared.Head.{Head}
use Rattle.window.specs.Ticks.{LeastCount}
use Rattle.window.proofs.Division.{reaches_is}
use Rattle.window.proofs.Unique.{one_least}
use Rattle.file.specs.Least.{least_from, enough, reaching, least_count}

-- what a search finds passes, and nothing before it does
record Found (t : ℕ → Bool) (m n : ℕ) : Type 0 where
  from : m ≤ n
  passes : t n ≡ true
  none : (j : ℕ) → m ≤ j → j < n → t j ≡ false

search_finds : (t : ℕ → Bool) (k m : ℕ) → t (m + k) ≡ true → Found t m (least_from t k m)
unfolding least_from
search_finds t zero m e =
    record { from = omega arith; passes = ap t (omega arith) ∙ e; none = λ j a b. let z : ⊥ = omega arith in absurd z }
search_finds t (suc k) m e = go (t m) refl (search_finds t k (suc m) (ap t (omega arith) ∙ e))
  where
    go : (b : Bool) → t m ≡ b → Found t (suc m) (least_from t k (suc m)) → Found t m (cond b m (least_from t k (suc m)))
    go true p f = record { from = omega arith; passes = p; none = λ j a b. let z : ⊥ = omega arith in absurd z }
    go false p f = record { from = omega (arith, f.from); passes = f.passes; none = λ j a b. at j a b (leb j m) refl }
      where
        at : (j : ℕ) → m ≤ j → j < least_from t k (suc m) → (c : Bool) → leb j m ≡ c → t j ≡ false
        at j a b true q = ap t (let l = leb-true j m q in omega arith) ∙ p
        at j a b false q = f.none j (leb-false j m q) b

module _ (h : Head) (s d : ℕ) (lasts : 1 ≤ d) where
  enough_reach : reaching h s d (1 + enough h) ≡ true
  enough_reach =
      let many : 1 * (1 + enough h) ≤ d * (1 + enough h) = mul-le-mul_right (1 + enough h) lasts in
      reaches_is h (s + d * (1 + enough h)) ∙
      le-leb (enough h) ((s + d * (1 + enough h)) * 1000)
      (omega (arith, many, one-mul (1 + enough h), add-mul s (d * (1 + enough h)) 1000))

  -- a count is found whatever the head is
  pub least_holds : LeastCount h s d (least_count h s d)
  unfolding least_count
  least_holds =
      let f = search_finds (reaching h s d) (enough h) 1 enough_reach in
      record { some = f.from; reaches = f.passes; least = f.none }

  -- and it is the only one
  pub least_is : (n : ℕ) → LeastCount h s d n → n ≡ least_count h s d
  least_is n l = one_least h s d n (least_count h s d) l least_holds
