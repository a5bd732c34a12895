-- What the code computes for the edges of the window and for the period end is what the definitions say.
use mathlib.Core.Path.{◌≡◌, sym, ap, ap₂, ◌∙◌}
use mathlib.Core.Bool.{true, cond}
use Prim.Native.Nat.{ℕ, ◌+◌, ◌-◌, ◌*◌, ◌≤◌, min}
use native.Mathlib.Nat.{add-mul, mul-sub, mul_comm}
use native.Mathlib.Omega.{arith}
use borrow.Author.Tests.{eq-eqb, ne_eqb}
use lib.Dec.{ltb}
use lib.IntN.{ℤ, pos}
use Rattle.units.proofs.Signed.{up}
use Rattle.units.specs.Limits.{largest_millis, largest_timescale}
use Rattle.units.specs.Product.{Product}
use Rattle.window.specs.declared.Head.{Head}
use Rattle.window.specs.Place.{before_end}
use Rattle.window.specs.Steps.{farthest, Past}
use Rattle.window.specs.Window.{low_edge, high_edge}
use Rattle.window.proofs.Unsigned.{end_at, since_start, since_depth, low_n, cut_n, high_n, later_start, low_is, high_up, before_is, not_known, is_known}

sub_mul : (a b n : ℕ) → (a - b) * n ≡ a * n - b * n
sub_mul a b n = mul_comm (a - b) n ∙ mul-sub n a b ∙ ap₂ ◌-◌ (mul_comm n a) (mul_comm n b)

past : (z : ℤ) (r : ℕ) → r ≡ up z → r ≤ farthest → Past r z
past z r e s = record { is = ap pos e ∙ sym (later_start z); small = s }

module _ (h : Head) (c : ℕ) where
  -- ---- the lower edge

  low : (r : ℕ) → r ≡ low_n h c → r ≤ farthest → Past r (low_edge h c)
  low r e s = past (low_edge h c) r (e ∙ sym (ap up (low_is h c))) s

  pub low_none : h.depth.0 ≡ 0 → Past 0 (low_edge h c)
  low_none e = low 0 (sym (ap (λ t. cond t 0 (since_depth h c)) (eq-eqb h.depth.0 0 e))) (omega arith)

  pub low_past : (r p : ℕ) → (h.depth.0 ≡ 0 → ⊥) → p ≡ c - (h.depth.0 + h.start.0) → Product r p h.timescale.0 (largest_millis * largest_timescale) →
      Past r (low_edge h c)
  low_past r p n q t =
      let e : r ≡ since_depth h c = t.is ∙ ap (λ (m : ℕ). m * h.timescale.0) q ∙ sub_mul c (h.depth.0 + h.start.0) h.timescale.0 in
      low r (e ∙ sym (ap (λ t. cond t 0 (since_depth h c)) (ne_eqb h.depth.0 0 n))) (omega (arith, t.small))

  -- ---- the upper edge

  high : (r : ℕ) → r ≡ high_n h c → r ≤ farthest → Past r (high_edge h c)
  high r e s = past (high_edge h c) r (e ∙ sym (high_up h c)) s

  -- the cut, by whether the end is known
  cut_open : (x : ℕ) → h.duration.0 ≡ 0 → cut_n h x ≡ x
  cut_open x e = ap (λ t. cond t (min (end_at h) x) x) (not_known h e)

  cut_known : (x : ℕ) → (h.duration.0 ≡ 0 → ⊥) → cut_n h x ≡ min (end_at h) x
  cut_known x n = ap (λ t. cond t (min (end_at h) x) x) (is_known h n)

  -- what is known of the clock, the update period and the period start in grains
  module _ (a u s : ℕ) (at : Product a c h.timescale.0 (largest_millis * largest_timescale))
      (ahead : Product u h.update.0 h.timescale.0 (largest_millis * largest_timescale))
      (start : Product s h.start.0 h.timescale.0 (largest_millis * largest_timescale)) where
    upto : a + u - s ≡ since_start h c
    upto = omega (arith, at.is, ahead.is, start.is, add-mul c h.update.0 h.timescale.0)

    within : a + u - s ≤ farthest
    within = omega (arith, at.small, ahead.small)

    pub high_open : h.duration.0 ≡ 0 → Past (a + u - s) (high_edge h c)
    high_open e = high (a + u - s) (upto ∙ sym (cut_open (since_start h c) e)) within

    pub high_known : (e : ℕ) → (h.duration.0 ≡ 0 → ⊥) → Product e h.duration.0 h.timescale.0 (largest_millis * largest_timescale) →
        Past (min e (a + u - s)) (high_edge h c)
    high_known e n q = high (min e (a + u - s)) (sym (cut_known (since_start h c) n ∙ ap₂ min (sym q.is) (sym upto))) (omega (arith, q.small))

  -- ---- the period end

  pub before_ends : (e o p a b : ℕ) → (h.duration.0 ≡ 0 → ⊥) → Product e h.duration.0 h.timescale.0 (largest_millis * largest_timescale) → Product o h.offset.0 1000 a →
      Product p c 1000 b → ltb p (o + e) ≡ before_end h c
  before_ends e o p a b n x y z =
      ap₂ ltb z.is (ap₂ ◌+◌ y.is x.is) ∙
      sym (before_is h c ∙ ap (λ t. cond t (ltb (c * 1000) (h.offset.0 * 1000 + end_at h)) true) (is_known h n))
