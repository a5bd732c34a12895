-- The covered edge: what the latest clock that passes a test is, the upper edge against a tick as a comparison of naturals, and
-- that the code's division finds the latest clock.
use mathlib.Core.Path.{◌≡◌, refl, sym, ap, subst, ◌∙◌}
use mathlib.Core.Bool.{Bool, true, false, cond, not, true≢false}
use Prim.Native.Nat.{ℕ, zero, suc, ◌+◌, ◌-◌, ◌*◌, ◌/◌, ◌≤◌, ◌<◌}
use native.Mathlib.Nat.{add-mul, zero-add, le_antisymm, le-div_iff_mul-le, div-lt_iff_lt-mul}
use native.Mathlib.Omega.{arith}
use borrow.Author.Tests.{ltb-true, ltb-false, leb-true, leb-false, le-leb, lt-leb, not-true, not-false}
use lib.Dec.{leb, ltb}
use lib.IntN.{pos}
use lib.Signed.{le_z}
use Rattle.units.specs.Limits.{largest_millis}
use Rattle.units.specs.Product.{Product}
use Rattle.units.proofs.Signed.{Is, is_pos, le_is}
use Rattle.window.specs.declared.Head.{Head}
use Rattle.window.specs.Limits.{Held}
use Rattle.window.specs.Place.{place, moment, end_known, period_end, earlier, before_end}
use Rattle.window.specs.Window.{high_edge}
use Rattle.window.proofs.Unsigned.{end_at, place_is, moment_is, before_is}
use Rattle.std.specs.Prelude.{None, Option, Some}
use Rattle.units.specs.declared.Millis.{Millis}
use Rattle.answers.specs.Edge.{at_or_before, latest_upto, edge_of}

-- ---- the latest that passes a test

-- an answer is right: it passes and none after it does, or none passes at all
abbrev pub Latest : (ℕ → Bool) → ℕ → Option Millis → Type 0
Latest p n (Some m) = (m.0 ≤ n) × (p m.0 ≡ true) × ((j : ℕ) → m.0 < j → j ≤ n → p j ≡ false)
Latest p n None = (j : ℕ) → j ≤ n → p j ≡ false

-- up to one more: up to it, or there
at_or_upto : (p : ℕ → Bool) (j n : ℕ) → p (suc n) ≡ false → (j ≤ n → p j ≡ false) → j ≤ suc n → p j ≡ false
at_or_upto p j n e under l = go (leb j n) refl
  where
    go : (t : Bool) → leb j n ≡ t → p j ≡ false
    go true h = under (leb-true j n h)
    go false h = let m : n < j = leb-false j n h in let here : j ≡ suc n = omega arith in ap p here ∙ e

module _ (p : ℕ → Bool) where
  -- one more that does not pass
  one_more : (n : ℕ) (x : Option Millis) → p (suc n) ≡ false → Latest p n x → Latest p (suc n) x
  one_more n (Some m) e q = let l : m.0 ≤ n = q.0 in (omega arith, q.1, λ j i. at_or_upto p j n e (q.2 j i))
  one_more n None e none = λ j. at_or_upto p j n e (none j)

  pub latest_right : (n : ℕ) → Latest p n (latest_upto p n)
  unfolding latest_upto
  latest_right zero = go (p zero) refl
    where
      go : (t : Bool) → p zero ≡ t → Latest p zero (cond t (Some (record { 0 = zero })) None)
      go true e = (omega arith, e, λ j l m. let z : ⊥ = omega arith in absurd z)
      go false e = λ j l. let here : j ≡ zero = omega arith in ap p here ∙ e
  latest_right (suc n) = go (p (suc n)) refl (latest_right n)
    where
      go : (t : Bool) → p (suc n) ≡ t → Latest p n (latest_upto p n) → Latest p (suc n) (cond t (Some (record { 0 = suc n })) (latest_upto p n))
      go true e r = (omega arith, e, λ j l m. let z : ⊥ = omega arith in absurd z)
      go false e r = one_more n (latest_upto p n) e r

  -- a clock that passes is not later than the right answer
  pub not_later : (n a b : ℕ) → p b ≡ true → b ≤ n → ((j : ℕ) → a < j → j ≤ n → p j ≡ false) → b ≤ a
  not_later n a b e l none = go (leb b a) refl
    where
      go : (t : Bool) → leb b a ≡ t → b ≤ a
      go true h = leb-true b a h
      go false h = absurd (true≢false (sym e ∙ none b (leb-false b a h) l))

  -- THE LAW: there is one right answer
  pub right_is : (n : ℕ) (x : Option Millis) → Latest p n x → x ≡ latest_upto p n
  right_is n x r = one x (latest_upto p n) r (latest_right n)
    where
      one : (u v : Option Millis) → Latest p n u → Latest p n v → u ≡ v
      one (Some a) (Some b) q w =
          let l : b.0 ≤ a.0 = not_later n a.0 b.0 w.1 w.0 q.2 in
          let m : a.0 ≤ b.0 = not_later n b.0 a.0 q.1 q.0 w.2 in
          ap (λ (k : ℕ). Some (record { 0 = k })) (le_antisymm m l)
      one (Some a) None q w = absurd (true≢false (sym q.1 ∙ w a.0 q.0))
      one None (Some b) q w = absurd (true≢false (sym w.1 ∙ q b.0 w.0))
      one None None q w = refl

-- ---- the upper edge against a tick

module _ (h : Head) where
  -- where the upper edge would be without a period end, in milliseconds
  abbrev ahead : ℕ → ℕ
  ahead c = c + h.update.0

  clock_is : (m : ℕ) → Is (moment h (pos m)) (m * h.timescale.0) (h.start.0 * h.timescale.0)
  clock_is m = subst (λ (n : ℕ). Is (moment h (pos m)) (m * h.timescale.0) (n * h.timescale.0)) (zero-add h.start.0) (moment_is h (pos m) m 0 (is_pos m))

  end_is : Is (period_end h) (end_at h) 0
  unfolding period_end
  end_is = is_pos (end_at h)

  -- whether the clock's edge has reached the period end
  pub end_clock : (c : ℕ) → le_z (period_end h) (moment h (pos (ahead c))) ≡ leb (end_at h + h.start.0 * h.timescale.0) (ahead c * h.timescale.0 + 0)
  end_clock c =
      le_is (period_end h) (moment h (pos (ahead c))) (end_at h) 0 (ahead c * h.timescale.0) (h.start.0 * h.timescale.0) end_is (clock_is (ahead c))

  module _ (k : ℕ) where
    clock_side : (c : ℕ) → le_z (moment h (pos (ahead c))) (place h k) ≡ leb (ahead c * h.timescale.0 + h.offset.0 * 1000) (k * 1000 + h.start.0 * h.timescale.0)
    clock_side c =
        le_is (moment h (pos (ahead c))) (place h k) (ahead c * h.timescale.0) (h.start.0 * h.timescale.0) (k * 1000) (h.offset.0 * 1000) (clock_is (ahead c)) (place_is h k)

    end_side : le_z (period_end h) (place h k) ≡ leb (end_at h + h.offset.0 * 1000) (k * 1000 + 0)
    end_side = le_is (period_end h) (place h k) (end_at h) 0 (k * 1000) (h.offset.0 * 1000) end_is (place_is h k)

    -- a tick that lies before the period end: the clock decides
    pub by_clock : (c : ℕ) → before_end h k ≡ true → at_or_before h k c ≡ leb (ahead c * h.timescale.0 + h.offset.0 * 1000) (k * 1000 + h.start.0 * h.timescale.0)
    unfolding high_edge
    by_clock c b = go (end_known h) (sym (before_is h k) ∙ b) ∙ clock_side c
      where
        cut : k * 1000 < h.offset.0 * 1000 + end_at h → (s : Bool) → le_z (period_end h) (moment h (pos (ahead c))) ≡ s →
            le_z (cond s (period_end h) (moment h (pos (ahead c)))) (place h k) ≡ le_z (moment h (pos (ahead c))) (place h k)
        cut l true e =
            let m : end_at h + h.start.0 * h.timescale.0 ≤ ahead c * h.timescale.0 + 0 = leb-true _ _ (sym (end_clock c) ∙ e) in
            end_side ∙ lt-leb (end_at h + h.offset.0 * 1000) (k * 1000 + 0) (omega arith) ∙
            sym (clock_side c ∙ lt-leb (ahead c * h.timescale.0 + h.offset.0 * 1000) (k * 1000 + h.start.0 * h.timescale.0) (omega arith))
        cut l false e = refl

        go : (t : Bool) → cond t (ltb (k * 1000) (h.offset.0 * 1000 + end_at h)) true ≡ true →
            le_z (cond t (earlier (period_end h) (moment h (pos (ahead c)))) (moment h (pos (ahead c)))) (place h k) ≡ le_z (moment h (pos (ahead c))) (place h k)
        go true e = cut (ltb-true (k * 1000) (h.offset.0 * 1000 + end_at h) e) (le_z (period_end h) (moment h (pos (ahead c)))) refl
        go false e = refl

    -- a tick that reaches a known period end: no upper edge lies after it
    pub by_end : (c : ℕ) → before_end h k ≡ false → at_or_before h k c ≡ true
    unfolding high_edge
    by_end c b = go (end_known h) (sym (before_is h k) ∙ b)
      where
        cut : h.offset.0 * 1000 + end_at h ≤ k * 1000 → (s : Bool) → le_z (period_end h) (moment h (pos (ahead c))) ≡ s →
            le_z (cond s (period_end h) (moment h (pos (ahead c)))) (place h k) ≡ true
        cut l true e = end_side ∙ le-leb (end_at h + h.offset.0 * 1000) (k * 1000 + 0) (omega arith)
        cut l false e =
            let m : ahead c * h.timescale.0 + 0 < end_at h + h.start.0 * h.timescale.0 = leb-false _ _ (sym (end_clock c) ∙ e) in
            clock_side c ∙ le-leb (ahead c * h.timescale.0 + h.offset.0 * 1000) (k * 1000 + h.start.0 * h.timescale.0) (omega arith)

        go : (t : Bool) → cond t (ltb (k * 1000) (h.offset.0 * 1000 + end_at h)) true ≡ false →
            le_z (cond t (earlier (period_end h) (moment h (pos (ahead c)))) (moment h (pos (ahead c)))) (place h k) ≡ true
        go true e = cut (ltb-false (k * 1000) (h.offset.0 * 1000 + end_at h) e) (le_z (period_end h) (moment h (pos (ahead c)))) refl
        go false e = absurd (true≢false e)

-- ---- what the code answers

module _ (h : Head) (k : ℕ) (t : Bool) (b : t ≡ before_end h k) where
  pub edge_end : not t ≡ true → Some (record { 0 = largest_millis }) ≡ edge_of h k
  edge_end n =
      right_is (at_or_before h k) largest_millis (Some (record { 0 = largest_millis }))
      (omega arith, by_end h k largest_millis (sym b ∙ not-true t n), λ j l m. let z : ⊥ = omega arith in absurd z)

  module _ (n : not t ≡ false) (s p o a : ℕ) (i j l m : ℕ) (x : Product s h.start.0 h.timescale.0 i) (y : Product p k 1000 j)
      (v : Product o h.offset.0 1000 l) (w : Product a h.update.0 h.timescale.0 m) where
    -- what a clock is held against, moved on by the offset and the update period
    abbrev z : ℕ
    z = o + a

    side : (c : ℕ) → at_or_before h k c ≡ leb ((c + h.update.0) * h.timescale.0 + h.offset.0 * 1000) (k * 1000 + h.start.0 * h.timescale.0)
    side c = by_clock h k c (sym b ∙ not-false t n)

    passes : (c : ℕ) → c * h.timescale.0 + z ≤ s + p → at_or_before h k c ≡ true
    passes c g =
        side c ∙
        le-leb ((c + h.update.0) * h.timescale.0 + h.offset.0 * 1000) (k * 1000 + h.start.0 * h.timescale.0)
        (omega (arith, x.is, y.is, v.is, w.is, add-mul c h.update.0 h.timescale.0))

    fails : (c : ℕ) → s + p < c * h.timescale.0 + z → at_or_before h k c ≡ false
    fails c g =
        side c ∙
        lt-leb ((c + h.update.0) * h.timescale.0 + h.offset.0 * 1000) (k * 1000 + h.start.0 * h.timescale.0)
        (omega (arith, x.is, y.is, v.is, w.is, add-mul c h.update.0 h.timescale.0))

    pub edge_never : s + p < z → None ≡ edge_of h k
    edge_never g = right_is (at_or_before h k) largest_millis None (λ c u. fails c (omega arith))

    module _ (g : z ≤ s + p) (q : Held h) where
      within : (c : ℕ) → c ≤ (s + p - z) / h.timescale.0 → at_or_before h k c ≡ true
      within c u =
          let d : c * h.timescale.0 ≤ s + p - z = (le-div_iff_mul-le q.some).0 u in
          passes c (omega arith)

      after : (c : ℕ) → (s + p - z) / h.timescale.0 < c → at_or_before h k c ≡ false
      after c u =
          let d : s + p - z < c * h.timescale.0 = (div-lt_iff_lt-mul q.some).0 u in
          fails c (omega arith)

      pub edge_limit : largest_millis < (s + p - z) / h.timescale.0 → Some (record { 0 = largest_millis }) ≡ edge_of h k
      edge_limit u =
          right_is (at_or_before h k) largest_millis (Some (record { 0 = largest_millis }))
          (omega arith, within largest_millis (omega arith), λ c v w. let f : ⊥ = omega arith in absurd f)

      pub edge_at : (s + p - z) / h.timescale.0 ≤ largest_millis → Some (record { 0 = (s + p - z) / h.timescale.0 }) ≡ edge_of h k
      edge_at u =
          right_is (at_or_before h k) largest_millis (Some (record { 0 = (s + p - z) / h.timescale.0 }))
          (u, within ((s + p - z) / h.timescale.0) (omega arith), λ c v w. after c v)
