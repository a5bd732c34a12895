-- What is left at a clock: spent references stand first, so what is left is what stands behind them.
use mathlib.Core.Path.{◌≡◌, refl, sym, ap, ◌∙◌, ap₂}
use mathlib.Core.Bool.{Bool, true, false, cond, not, and-eq-true_iff, ◌&&◌, and_assoc}
use mathlib.Core.List.{List, [], ◌∷◌, ◌++◌}
use Prim.Native.Nat.{ℕ, suc, ◌≤◌, ◌<◌}
use native.Mathlib.Nat.{le_refl}
use native.Mathlib.Omega.{arith}
use borrow.Author.Tests.{leb-false, not-true, lt-leb}
use lib.Dec.{leb}
use lib.ListN.{length, drop, drop_of_length-le}
use Rattle.units.specs.declared.WideTick.{WideTick}
use Rattle.window.specs.declared.Head.{Head}
use Rattle.window.specs.declared.Reference.{Reference}
use Rattle.window.specs.declared.Passed.{Passed}
use Rattle.window.specs.declared.Passed.TheVariants.{All, Upto}
use Rattle.window.specs.Window.{end_of, passed}
use Rattle.window.specs.Ticks.{EndsPassed}
use Rattle.window.specs.References.{EndToStart}
use Rattle.runs.specs.Steps.{passed_upto}
use Rattle.runs.proofs.Ends.{passed_most, none_upto}
use Rattle.agreement.specs.Agreement.{every}
use Rattle.keeping.specs.Keeping.{unspent}
use Rattle.keeping.specs.Steps.{count_passed}
use Rattle.agreement.proofs.Judging.{coming, none_passed}

-- ---- how many are spent, by what is passed

pub count_most : (p : Passed) (rs : List Reference) → count_passed p rs ≤ length rs
count_most All rs = le_refl (length rs)
count_most (Upto t) rs = passed_most t.0 rs

-- ---- what is left

module _ (h : Head) (c : ℕ) where
  pub unspent_append : (xs ys : List Reference) → unspent h c (xs ++ ys) ≡ unspent h c xs ++ unspent h c ys
  unfolding unspent
  unspent_append [] ys = refl
  unspent_append (r ∷ xs) ys = go (passed h (end_of r) c) (unspent_append xs ys)
    where
      go : (t : Bool) → unspent h c (xs ++ ys) ≡ unspent h c xs ++ unspent h c ys →
          cond t (unspent h c (xs ++ ys)) (r ∷ unspent h c (xs ++ ys)) ≡ cond t (unspent h c xs) (r ∷ unspent h c xs) ++ unspent h c ys
      go true e = e
      go false e = ap (λ zs. r ∷ zs) e

  -- of references none of which is spent, all are left
  pub unspent_every : (rs : List Reference) → every (λ r. not (passed h (end_of r) c)) rs ≡ true → unspent h c rs ≡ rs
  unfolding unspent every
  unspent_every [] e = refl
  unspent_every (r ∷ rs) e =
      let b = (and-eq-true_iff (not (passed h (end_of r) c)) (every (λ r. not (passed h (end_of r) c)) rs)).0 e in
      ap (λ t. cond t (unspent h c rs) (r ∷ unspent h c rs)) (not-true (passed h (end_of r) c) b.0) ∙ ap (λ zs. r ∷ zs) (unspent_every rs b.1)

  -- where every end is passed, none is left
  unspent_none : EndsPassed h c All → (rs : List Reference) → unspent h c rs ≡ []
  unfolding unspent
  unspent_none w [] = refl
  unspent_none w (r ∷ rs) = ap (λ t. cond t (unspent h c rs) (r ∷ unspent h c rs)) (w (end_of r)) ∙ unspent_none w rs

  -- where the first has not ended, all are left
  unspent_later : (t : WideTick) → EndsPassed h c (Upto t) → (s : ℕ) (rs : List Reference) → EndToStart s rs → t.0 < s → unspent h c rs ≡ rs
  unfolding unspent
  unspent_later t w s [] j l = refl
  unspent_later t w s (r ∷ rs) j l =
      let m : t.0 < end_of r = omega (arith, j.0) in
      ap (λ b. cond b (unspent h c rs) (r ∷ unspent h c rs)) (w (end_of r) ∙ lt-leb (end_of r) t.0 m) ∙ ap (λ zs. r ∷ zs) (unspent_later t w (end_of r) rs j.1 m)

  unspent_upto : (t : WideTick) → EndsPassed h c (Upto t) → (s : ℕ) (rs : List Reference) → EndToStart s rs → unspent h c rs ≡ drop (passed_upto t.0 rs) rs
  unfolding unspent passed_upto
  unspent_upto t w s [] j = refl
  unspent_upto t w s (r ∷ rs) j =
      ap (λ b. cond b (unspent h c rs) (r ∷ unspent h c rs)) (w (end_of r)) ∙ go (leb (end_of r) t.0) refl (unspent_upto t w (end_of r) rs j.1)
    where
      go : (b : Bool) → leb (end_of r) t.0 ≡ b → unspent h c rs ≡ drop (passed_upto t.0 rs) rs →
          cond b (unspent h c rs) (r ∷ unspent h c rs) ≡ drop (cond b (suc (passed_upto t.0 rs)) (passed_upto t.0 rs)) (r ∷ rs)
      go true e k = k
      go false e k =
          let l : t.0 < end_of r = leb-false (end_of r) t.0 e in
          ap (λ zs. r ∷ zs) (unspent_later t w (end_of r) rs j.1 l) ∙ ap (λ (n : ℕ). drop n (r ∷ rs)) (sym (none_upto t.0 (end_of r) rs j.1 l))

  -- THE LAW: what is left is what stands behind those that are spent
  pub unspent_is : (p : Passed) → EndsPassed h c p → (s : ℕ) (rs : List Reference) → EndToStart s rs → unspent h c rs ≡ drop (count_passed p rs) rs
  unspent_is All w s rs j = unspent_none w rs ∙ sym (drop_of_length-le rs (le_refl (length rs)))
  unspent_is (Upto t) w s rs j = unspent_upto t w s rs j

-- ---- what a filter leaves

module _ (h : Head) (c : ℕ) where
  pub unspent_coming : (rs : List Reference) → every (λ r. not (passed h (end_of r) c)) (unspent h c rs) ≡ true
  unfolding unspent every
  unspent_coming [] = refl
  unspent_coming (r ∷ rs) = go (passed h (end_of r) c) refl (unspent_coming rs)
    where
      go : (t : Bool) → passed h (end_of r) c ≡ t → every (λ x. not (passed h (end_of x) c)) (unspent h c rs) ≡ true →
          every (λ x. not (passed h (end_of x) c)) (cond t (unspent h c rs) (r ∷ unspent h c rs)) ≡ true
      go true e k = k
      go false e k = ap₂ ◌&&◌ (ap not e) k

  pub unspent_still : (t : Reference → Bool) (rs : List Reference) → every t rs ≡ true → every t (unspent h c rs) ≡ true
  unfolding unspent every
  unspent_still t [] e = refl
  unspent_still t (r ∷ rs) e =
      let b = (and-eq-true_iff (t r) (every t rs)).0 e in
      go (passed h (end_of r) c) b.0 (unspent_still t rs b.1)
    where
      go : (u : Bool) → t r ≡ true → every t (unspent h c rs) ≡ true → every t (cond u (unspent h c rs) (r ∷ unspent h c rs)) ≡ true
      go true y k = k
      go false y k = ap₂ ◌&&◌ y k

  pub unspent_few : (rs : List Reference) → length (unspent h c rs) ≤ length rs
  unfolding unspent
  unspent_few [] = le_refl 0
  unspent_few (r ∷ rs) = go (passed h (end_of r) c) (unspent_few rs)
    where
      go : (t : Bool) → length (unspent h c rs) ≤ length rs → length (cond t (unspent h c rs) (r ∷ unspent h c rs)) ≤ suc (length rs)
      go true k = omega arith
      go false k = omega arith

  -- what is left of joined references stands behind the rest
  pub unspent_suffix : (t : ℕ) (rs : List Reference) → EndToStart t rs → (n : ℕ) × (unspent h c rs ≡ drop n rs)
  unfolding unspent coming
  unspent_suffix t [] j = (0, refl)
  unspent_suffix t (r ∷ rs) j = go (passed h (end_of r) c) refl (unspent_suffix (end_of r) rs j.1)
    where
      go : (u : Bool) → passed h (end_of r) c ≡ u → (n : ℕ) × (unspent h c rs ≡ drop n rs) →
          (n : ℕ) × (cond u (unspent h c rs) (r ∷ unspent h c rs) ≡ drop n (r ∷ rs))
      go true e k = (suc k.0, k.1)
      go false e k = (0, ap (λ xs. r ∷ xs) (unspent_every h c rs (none_passed h c (end_of r) rs j.1 e)))

pub every_append : (t : Reference → Bool) (xs ys : List Reference) → every t (xs ++ ys) ≡ (every t xs && every t ys)
unfolding every
every_append t [] ys = refl
every_append t (x ∷ xs) ys = ap (λ b. t x && b) (every_append t xs ys) ∙ sym (and_assoc (t x) (every t xs) (every t ys))
