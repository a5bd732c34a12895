-- The verdict by ranges is the verdict by counts, and what each way of the code answers is the verdict by ranges.
use mathlib.Core.Path.{◌≡◌, refl, sym, ap, ap₂, fun_ext, ◌∙◌}
use mathlib.Core.Bool.{Bool, true, false, ◌&&◌, not, and-eq-true_iff, false≢true}
use mathlib.Core.List.{List}
use Prim.Native.Nat.{ℕ, ◌-◌, ◌≤◌, ◌<◌, min, max}
use native.Mathlib.Omega.{arith}
use borrow.Author.Tests.{ltb-true, ltb-false}
use lib.Dec.{ltb}
use Rattle.units.proofs.Choice.{same_test}
use Rattle.window.specs.declared.Head.{Head}
use Rattle.window.specs.declared.Reference.{Reference}
use Rattle.std.specs.Prelude.{None, Option, Some}
use Rattle.window.specs.declared.Ticks.{Ticks}
use Rattle.window.specs.References.{Each}
use Rattle.window.specs.Window.{Stretch, tick_needed}
use Rattle.window.specs.Ticks.{named, NeededTicks}
use Rattle.window.proofs.Ranges.{in_range_lem, before_range, past_range, range_cases, range_first, range_last}
use Rattle.runs.specs.Ends.{Within}
use Rattle.answers.specs.declared.Verdict.TheVariants.{Nothing, Complete, Lacking}
use Rattle.answers.specs.Cover.{covered_by}
use Rattle.answers.specs.Counts.{count_below, least_below, beyond}
use Rattle.answers.specs.Judgement.{judged, verdict_of}
use Rattle.answers.specs.Ranges.{in_range, verdict_by, past_named, Reach}
use Rattle.answers.proofs.Counting.{Below, any_count, any_least, least_is, count_range}
use Rattle.answers.proofs.Covering.{reach_cover, needed_below}
use Rattle.answers.proofs.Cases.{to_complete, to_lacking}

-- ---- the verdict does not depend on the bound

first_of : (s t : Bool) → (s && t) ≡ true → s ≡ true
first_of s t e = ((and-eq-true_iff s t).0 e).0

judged_same : {x y n m i j : ℕ} → x ≡ y → n ≡ m → i ≡ j → judged x n i ≡ judged y m j
judged_same {x} {y} {n} {m} {i} {j} d e f = ap₂ (λ (u v : ℕ). judged u v i) d e ∙ ap (λ (u : ℕ). judged y m u) f

pub any_bound : (p q : ℕ → Bool) (m n : ℕ) → Below p m → Below p n → verdict_by p q m ≡ verdict_by p q n
unfolding verdict_by
any_bound p q m n a b =
    judged_same
    (any_count p m n a b)
    (any_count (λ k. p k && q k) m n (λ k t. a k (first_of (p k) (q k) t)) (λ k t. b k (first_of (p k) (q k) t)))
    (any_least (λ k. p k && not (q k)) m n (λ k t. a k (first_of (p k) (not (q k)) t)) (λ k t. b k (first_of (p k) (not (q k)) t)))

named_below : (x : Option Ticks) → Below (named x) (past_named x)
named_below None k t = absurd (false≢true t)
named_below (Some x) k t = range_last x.first.0 x.end.0 k t

-- THE LAW: by the range that the window needs and the range that the references cover
pub verdict_ranges : (h : Head) (w : Stretch) (rs : List Reference) (x : Option Ticks) (from to : ℕ) → NeededTicks h w x → Reach from to rs → Each Within rs →
    verdict_by (named x) (in_range from to) (past_named x) ≡ verdict_of h w rs
unfolding verdict_by
verdict_ranges h w rs x from to n r i =
    let need : tick_needed h w ≡ named x = fun_ext n.each in
    let cover : covered_by rs ≡ in_range from to = fun_ext (reach_cover from to rs r i) in
    any_bound (named x) (in_range from to) (past_named x) (beyond h w) (named_below x) (λ k t. needed_below h w k (n.each k ∙ t)) ∙
    ap₂ (λ p q. verdict_by p q (beyond h w)) (sym need) (sym cover)

-- ---- two ranges

ranges_meet : (a b f t k : ℕ) → (in_range a b k && in_range f t k) ≡ in_range (max a f) (min b t) k
ranges_meet a b f t k =
    same_test (in_range a b k && in_range f t k) (in_range (max a f) (min b t) k)
    (λ e.
    let both = (and-eq-true_iff (in_range a b k) (in_range f t k)).0 e in
    in_range_lem (max a f) (min b t) k
    (omega (arith, range_first a b k both.0, range_first f t k both.1))
    (omega (arith, range_last a b k both.0, range_last f t k both.1)))
    (λ e.
    let l : max a f ≤ k = range_first (max a f) (min b t) k e in
    let m : k < min b t = range_last (max a f) (min b t) k e in
    ap₂ ◌&&◌ (in_range_lem a b k (omega arith) (omega arith)) (in_range_lem f t k (omega arith) (omega arith)))

ends_short : (a b low high : ℕ) → low ≡ a → high ≤ b → (high - low ≡ b - a → ⊥) → high < b
ends_short a b low high e l n = go (ltb high b) refl
  where
    go : (u : Bool) → ltb high b ≡ u → high < b
    go true h = ltb-true high b h
    go false h = let m : b ≤ high = ltb-false high b h in absurd (n (omega arith))

module _ (a b f t : ℕ) (some : a < b) where
  lacks : ℕ → Bool
  lacks k = in_range a b k && not (in_range f t k)

  by_counts : verdict_by (in_range a b) (in_range f t) b ≡ judged (b - a) (min b t - max a f) (least_below lacks b)
  unfolding verdict_by lacks
  by_counts =
      let need : count_below (in_range a b) b ≡ b - a = omega (arith, count_range a b b) in
      let cover : count_below (in_range (max a f) (min b t)) b ≡ min b t - max a f = omega (arith, count_range (max a f) (min b t) b) in
      judged_same need (ap (λ p. count_below p b) (fun_ext (ranges_meet a b f t)) ∙ cover) refl

  lacking : (c l : ℕ) → min b t - max a f ≡ c → (c ≡ b - a → ⊥) → least_below lacks b ≡ l → Lacking (b - a) c (record { 0 = l }) ≡ verdict_by (in_range a b) (in_range f t) b
  lacking c l e n m =
      sym (by_counts ∙ ap₂ (judged (b - a)) e m ∙ to_lacking (b - a) c l (omega arith) n)

  -- a itself is lacking where it is not covered
  least_first : in_range f t a ≡ false → least_below lacks b ≡ a
  unfolding lacks
  least_first e =
      least_is lacks b a some (ap₂ (λ u v. u && not v) (in_range_lem a b a (omega arith) some) e) (λ j l. ap (λ u. u && not (in_range f t j)) (before_range a b j l))

  module _ (low high : ℕ) (el : low ≡ max a f) (eh : high ≡ min b t) where
    pub none_covered : high ≤ low → Lacking (b - a) 0 (record { 0 = a }) ≡ verdict_by (in_range a b) (in_range f t) b
    none_covered l =
        lacking 0 a (omega arith) (λ z. let y : ⊥ = omega arith in y)
        (least_first (range_cases f t a (λ e i j. let y : ⊥ = omega arith in absurd y) (λ e i. e) (λ e i. e)))

    pub all_covered : high - low ≡ b - a → Complete (b - a) ≡ verdict_by (in_range a b) (in_range f t) b
    all_covered e =
        sym
        (by_counts ∙
        to_complete (b - a) (min b t - max a f) (least_below lacks b) (omega arith) (ap₂ ◌-◌ (sym eh) (sym el) ∙ e))

    module _ (n : high - low ≡ b - a → ⊥) where
      pub first_lacking : a < low → Lacking (b - a) (high - low) (record { 0 = a }) ≡ verdict_by (in_range a b) (in_range f t) b
      first_lacking l =
          lacking (high - low) a (ap₂ ◌-◌ (sym eh) (sym el)) n (least_first (before_range f t a (omega arith)))

      -- from a on all is covered up to t, which is lacking
      pub end_lacking : low < high → low ≤ a → Lacking (b - a) (high - low) (record { 0 = high }) ≡ verdict_by (in_range a b) (in_range f t) b
      unfolding lacks
      end_lacking s l =
          let low_is : low ≡ a = omega arith in
          let short : high < b = ends_short a b low high low_is (omega arith) n in
          let end : high ≡ t = omega arith in
          lacking (high - low) high (ap₂ ◌-◌ (sym eh) (sym el)) n
          (least_is lacks b high short
          (ap₂ (λ u v. u && not v) (in_range_lem a b high (omega arith) short) (past_range f t high (omega arith)))
          (λ j m.
          range_cases a b j
          (λ e i k. ap₂ (λ u v. u && not v) e (in_range_lem f t j (omega arith) (omega arith)))
          (λ e i. ap (λ u. u && not (in_range f t j)) e)
          (λ e i. ap (λ u. u && not (in_range f t j)) e)))

-- ---- where a window needs nothing, so does the verdict

pub judge_nothing : (x : Option Ticks) (q : ℕ → Bool) → x ≡ None → Nothing ≡ verdict_by (named x) q (past_named x)
unfolding verdict_by count_below
judge_nothing x q e = ap (λ y. verdict_by (named y) q (past_named y)) (sym e)
