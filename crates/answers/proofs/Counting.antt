-- Counts and least numbers of a test. Past every number that passes, the bound makes no difference; a count is full, or 0,
-- exactly where the test says so of each number; of a range both are found by a difference.
use mathlib.Core.Path.{◌≡◌, refl, sym, ap, ap₂, ◌∙◌}
use mathlib.Core.Bool.{Bool, true, false, cond, ◌&&◌, true≢false, false≢true}
use Prim.Native.Nat.{ℕ, zero, suc, ◌+◌, ◌-◌, ◌≤◌, ◌<◌, min}
use native.Mathlib.Nat.{add-zero, add-suc, add_comm, not-suc-le-zero, le_antisymm}
use native.Mathlib.Omega.{arith}
use lib.Dec.{ltb, eqb}
use borrow.Author.Tests.{ltb-true, ltb-false, eqb-true, eq-eqb, ne_eqb}
use Rattle.window.proofs.Ranges.{range_cases}
use Rattle.answers.specs.Counts.{count_below, least_below}
use Rattle.answers.specs.Ranges.{in_range}

-- every number that passes lies below m
abbrev pub Below : (ℕ → Bool) → ℕ → Type 0
Below p m = (k : ℕ) → p k ≡ true → k < m

-- a test that is not true is false
pub refuted : (t : Bool) → (t ≡ true → ⊥) → t ≡ false
refuted true n = absurd (n refl)
refuted false n = refl

-- a number that is not 0
pub some_of : (n : ℕ) → eqb n 0 ≡ false → 1 ≤ n
some_of zero e = absurd (true≢false e)
some_of (suc n) e = omega arith

pub apart : (n : ℕ) → 1 ≤ n → n ≡ 0 → ⊥
apart n l e = omega arith

-- below one more: below, or there
at_or_below : {A : Type 0} (k n : ℕ) → k < suc n → (k < n → A) → (k ≡ n → A) → A
at_or_below {A} k n l under here = go (ltb k n) refl
  where
    go : (t : Bool) → ltb k n ≡ t → A
    go true e = under (ltb-true k n e)
    go false e = let m : n ≤ k = ltb-false k n e in here (le_antisymm (omega arith) m)

module _ (p : ℕ → Bool) where
  -- ---- a bound past all that pass

  past_false : (m k : ℕ) → Below p m → m ≤ k → p k ≡ false
  past_false m k b l = refuted (p k) (λ t. let i : k < m = b k t in let z : ⊥ = omega arith in z)

  count_past : (n : ℕ) → p n ≡ false → count_below p (suc n) ≡ count_below p n
  unfolding count_below
  count_past n f = ap (λ t. cond t (suc (count_below p n)) (count_below p n)) f

  count_more : (m j : ℕ) → Below p m → count_below p (m + j) ≡ count_below p m
  count_more m zero b = ap (count_below p) (add-zero m)
  count_more m (suc j) b = ap (count_below p) (add-suc m j) ∙ count_past (m + j) (past_false m (m + j) b (omega arith)) ∙ count_more m j b

  -- where none passes the least is 0
  least_none : (n : ℕ) → count_below p n ≡ 0 → least_below p n ≡ 0
  unfolding count_below least_below
  least_none zero e = refl
  least_none (suc n) e = go (p n) e
    where
      go : (t : Bool) → cond t (suc (count_below p n)) (count_below p n) ≡ 0 → cond (eqb (count_below p n) 0) (cond t n 0) (least_below p n) ≡ 0
      go true z = let y : ⊥ = omega arith in absurd y
      go false z = ap (λ u. cond u 0 (least_below p n)) (eq-eqb (count_below p n) 0 z)

  least_past : (n : ℕ) → p n ≡ false → least_below p (suc n) ≡ least_below p n
  unfolding least_below
  least_past n f = ap (λ t. cond (eqb (count_below p n) 0) (cond t n 0) (least_below p n)) f ∙ go (eqb (count_below p n) 0) refl
    where
      go : (t : Bool) → eqb (count_below p n) 0 ≡ t → cond t 0 (least_below p n) ≡ least_below p n
      go true e = sym (least_none n (eqb-true (count_below p n) 0 e))
      go false e = refl

  least_more : (m j : ℕ) → Below p m → least_below p (m + j) ≡ least_below p m
  least_more m zero b = ap (least_below p) (add-zero m)
  least_more m (suc j) b = ap (least_below p) (add-suc m j) ∙ least_past (m + j) (past_false m (m + j) b (omega arith)) ∙ least_more m j b

  -- THE LAWS: any two bounds past all that pass give one count, and one least number
  pub any_count : (m n : ℕ) → Below p m → Below p n → count_below p m ≡ count_below p n
  any_count m n a b = sym (count_more m n a) ∙ ap (count_below p) (add_comm m n) ∙ count_more n m b

  pub any_least : (m n : ℕ) → Below p m → Below p n → least_below p m ≡ least_below p n
  any_least m n a b = sym (least_more m n a) ∙ ap (least_below p) (add_comm m n) ∙ least_more n m b

  -- ---- none, some

  pub count_none : (n : ℕ) → ((k : ℕ) → k < n → p k ≡ false) → count_below p n ≡ 0
  unfolding count_below
  count_none zero none = refl
  count_none (suc n) none =
      ap (λ t. cond t (suc (count_below p n)) (count_below p n)) (none n (omega arith)) ∙ count_none n (λ k l. none k (omega arith))

  pub count_some : (n k : ℕ) → k < n → p k ≡ true → 1 ≤ count_below p n
  unfolding count_below
  count_some zero k l e = absurd (not-suc-le-zero l)
  count_some (suc n) k l e = at_or_below k n l (λ u. go (p n) (count_some n k u e)) (λ h. here (p n) (ap p (sym h) ∙ e))
    where
      go : (t : Bool) → 1 ≤ count_below p n → 1 ≤ cond t (suc (count_below p n)) (count_below p n)
      go true m = omega arith
      go false m = m

      here : (t : Bool) → t ≡ true → 1 ≤ cond t (suc (count_below p n)) (count_below p n)
      here true h = omega arith
      here false h = absurd (false≢true h)

  pub one_counted : (n : ℕ) → 1 ≤ count_below p n → (k : ℕ) × (p k ≡ true)
  unfolding count_below
  one_counted zero l = absurd (not-suc-le-zero l)
  one_counted (suc n) l = go (p n) refl l (one_counted n)
    where
      go : (t : Bool) → p n ≡ t → 1 ≤ cond t (suc (count_below p n)) (count_below p n) → (1 ≤ count_below p n → (k : ℕ) × (p k ≡ true)) → (k : ℕ) × (p k ≡ true)
      go true e m f = (n, e)
      go false e m f = f m

  -- ---- the least

  pub least_is : (n k : ℕ) → k < n → p k ≡ true → ((j : ℕ) → j < k → p j ≡ false) → least_below p n ≡ k
  unfolding least_below
  least_is zero k l e none = absurd (not-suc-le-zero l)
  least_is (suc n) k l e none =
      at_or_below k n l
      (λ u.
      ap (λ t. cond t (cond (p n) n 0) (least_below p n)) (ne_eqb (count_below p n) 0 (apart (count_below p n) (count_some n k u e))) ∙
      least_is n k u e none)
      (λ h.
      let c : count_below p n ≡ 0 = count_none n (λ j m. none j (omega arith)) in
      ap₂ (λ t u. cond t (cond u n 0) (least_below p n)) (eq-eqb (count_below p n) 0 c) (ap p (sym h) ∙ e) ∙ sym h)

  -- ---- the least of some

  pub none_counted : (n : ℕ) → count_below p n ≡ 0 → (k : ℕ) → k < n → p k ≡ false
  none_counted n z k l = refuted (p k) (λ t. let m : 1 ≤ count_below p n = count_some n k l t in let y : ⊥ = omega arith in y)

  pub least_passes : (n : ℕ) → 1 ≤ count_below p n → p (least_below p n) ≡ true
  unfolding count_below least_below
  least_passes zero l = absurd (not-suc-le-zero l)
  least_passes (suc n) l = go (eqb (count_below p n) 0) refl (p n) refl l (least_passes n)
    where
      go : (s : Bool) → eqb (count_below p n) 0 ≡ s → (t : Bool) → p n ≡ t → 1 ≤ cond t (suc (count_below p n)) (count_below p n) →
          (1 ≤ count_below p n → p (least_below p n) ≡ true) → p (cond s (cond t n 0) (least_below p n)) ≡ true
      go true e true f m ih = f
      go true e false f m ih = let z : count_below p n ≡ 0 = eqb-true (count_below p n) 0 e in let y : ⊥ = omega arith in absurd y
      go false e t f m ih = ih (some_of (count_below p n) e)

  pub least_first : (n j : ℕ) → j < least_below p n → p j ≡ false
  unfolding least_below
  least_first zero j l = absurd (not-suc-le-zero l)
  least_first (suc n) j l = go (eqb (count_below p n) 0) refl (p n) l (least_first n j)
    where
      go : (s : Bool) → eqb (count_below p n) 0 ≡ s → (t : Bool) → j < cond s (cond t n 0) (least_below p n) → (j < least_below p n → p j ≡ false) → p j ≡ false
      go true e true m ih = none_counted n (eqb-true (count_below p n) 0 e) j m
      go true e false m ih = absurd (not-suc-le-zero m)
      go false e t m ih = ih m

-- ---- a test and another with it

module _ (p q : ℕ → Bool) where
  abbrev both : ℕ → Bool
  both k = p k && q k

  pub count_less : (n : ℕ) → count_below both n ≤ count_below p n
  unfolding count_below
  count_less zero = omega arith
  count_less (suc n) = go (p n) (q n) (count_less n)
    where
      go : (s t : Bool) → count_below both n ≤ count_below p n → cond (s && t) (suc (count_below both n)) (count_below both n) ≤ cond s (suc (count_below p n)) (count_below p n)
      go true true l = omega arith
      go true false l = omega arith
      go false t l = l

  pub count_all : (n : ℕ) → ((k : ℕ) → p k ≡ true → q k ≡ true) → count_below both n ≡ count_below p n
  unfolding count_below
  count_all zero each = refl
  count_all (suc n) each = go (p n) (q n) (each n) (count_all n each)
    where
      go : (s t : Bool) → (s ≡ true → t ≡ true) → count_below both n ≡ count_below p n →
          cond (s && t) (suc (count_below both n)) (count_below both n) ≡ cond s (suc (count_below p n)) (count_below p n)
      go true true f e = ap suc e
      go true false f e = absurd (false≢true (f refl))
      go false t f e = e

  pub count_each : (n : ℕ) → count_below both n ≡ count_below p n → (k : ℕ) → k < n → p k ≡ true → q k ≡ true
  unfolding count_below
  count_each zero e k l = absurd (not-suc-le-zero l)
  count_each (suc n) e k l = go (p n) (q n) refl refl e (count_less n) (count_each n)
    where
      go : (s t : Bool) → p n ≡ s → q n ≡ t → cond (s && t) (suc (count_below both n)) (count_below both n) ≡ cond s (suc (count_below p n)) (count_below p n) →
          count_below both n ≤ count_below p n → (count_below both n ≡ count_below p n → (j : ℕ) → j < n → p j ≡ true → q j ≡ true) → p k ≡ true → q k ≡ true
      go true true u v f m each w = at_or_below k n l (λ i. each (omega arith) k i w) (λ h. ap q h ∙ v)
      go true false u v f m each w = let z : ⊥ = omega arith in absurd z
      go false t u v f m each w = at_or_below k n l (λ i. each f k i w) (λ h. absurd (false≢true (sym u ∙ ap p (sym h) ∙ w)))

-- ---- a range

-- THE LAW: a range holds as many numbers as its ends are apart
pub count_range : (a b n : ℕ) → count_below (in_range a b) n ≡ min b n - a
unfolding count_below
count_range a b zero = omega arith
count_range a b (suc n) = step (count_range a b n)
  where
    step : count_below (in_range a b) n ≡ min b n - a → cond (in_range a b n) (suc (count_below (in_range a b) n)) (count_below (in_range a b) n) ≡ min b (suc n) - a
    step e =
        range_cases a b n
        (λ t l m. ap (λ u. cond u (suc (count_below (in_range a b) n)) (count_below (in_range a b) n)) t ∙ omega arith)
        (λ t l. ap (λ u. cond u (suc (count_below (in_range a b) n)) (count_below (in_range a b) n)) t ∙ omega arith)
        (λ t l. ap (λ u. cond u (suc (count_below (in_range a b) n)) (count_below (in_range a b) n)) t ∙ omega arith)
