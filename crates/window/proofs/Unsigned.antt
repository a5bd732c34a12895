-- The signed definitions as comparisons of naturals. Every edge of a window lies at or after the period start, so a point
-- before that start may be taken for the start itself: `up z`, the point z or 0. With it each rule of the window is one
-- comparison of naturals, which the code makes and omega reads. Facts about grains are proved here, over the timescale.
use mathlib.Core.Path.{◌≡◌, refl, sym, ap, ap₂, ◌∙◌}
use mathlib.Core.Bool.{Bool, true, false, cond, not, false≢true}
use Prim.Native.Nat.{ℕ, ◌+◌, ◌-◌, ◌*◌, ◌≤◌, ◌<◌, min, max}
use native.Mathlib.Nat.{min-eq_left, min-eq_right, max-eq_left, max-eq_right, zero-max, min-zero, zero-min, le_of_lt, zero-add}
use native.Mathlib.Omega.{arith}
use borrow.Author.Tests.{leb-true, leb-false, ltb-true, lt-ltb, le-ltb, le-leb, eq-eqb, ne_eqb}
use lib.Dec.{leb, ltb, eqb}
use lib.IntN.{ℤ, pos, negsuc, ◌-ℤ◌}
use lib.Signed.{le_z, lt_z}
use Rattle.units.proofs.Choice.{through, either}
use Rattle.units.proofs.Signed.{Is, up, is_pos, is_moved, is_less, is_sub, is_mul, lt_is, same_ltb}
use Rattle.window.specs.declared.Head.{Head}
use Rattle.window.specs.declared.Reference.{Reference}
use Rattle.window.specs.Place.{place, moment, end_known, period_end, later, earlier, cut_to_end, before_end}
use Rattle.window.specs.Window.{overlaps, low_edge, high_edge, window_at, end_of, needed, passed, tick_needed}

-- ---- a point or the period start

pub up_lt : (x : ℕ) (z : ℤ) → lt_z (pos x) z ≡ ltb x (up z)
up_lt x (pos n) = refl
up_lt x (negsuc n) = sym (le-ltb x 0 (omega arith))

up_le : (z : ℤ) (x : ℕ) → le_z z (pos x) ≡ leb (up z) x
up_le (pos n) x = refl
up_le (negsuc n) x = sym (le-leb 0 x (omega arith))

up_is : (z : ℤ) (a b : ℕ) → Is z a b → up z ≡ a - b
up_is (pos n) a b h = omega (arith, h.same)
up_is (negsuc n) a b h = omega (arith, h.same)

largest : (m n : ℕ) → cond (leb m n) n m ≡ max m n
largest m n = go (leb m n) refl
  where
    go : (t : Bool) → leb m n ≡ t → cond t n m ≡ max m n
    go true e = sym (max-eq_right (leb-true m n e))
    go false e = sym (max-eq_left (le_of_lt (leb-false m n e)))

least : (m n : ℕ) → cond (leb m n) m n ≡ min m n
least m n = go (leb m n) refl
  where
    go : (t : Bool) → leb m n ≡ t → cond t m n ≡ min m n
    go true e = sym (min-eq_left (leb-true m n e))
    go false e = sym (min-eq_right (le_of_lt (leb-false m n e)))

later_pos : (m n : ℕ) → later (pos m) (pos n) ≡ pos (max m n)
later_pos m n = sym (through pos (leb m n) n m) ∙ ap pos (largest m n)

pub later_up : (z : ℤ) (x : ℕ) → later z (pos x) ≡ pos (max (up z) x)
later_up (pos n) x = later_pos n x
later_up (negsuc n) x = sym (ap pos (zero-max x))

pub later_start : (z : ℤ) → later (pos 0) z ≡ pos (up z)
later_start (pos n) = later_pos 0 n ∙ ap pos (zero-max n)
later_start (negsuc n) = refl

pub earlier_up : (z w : ℤ) → up (earlier z w) ≡ min (up z) (up w)
earlier_up (pos m) (pos n) = through up (leb m n) (pos m) (pos n) ∙ least m n
earlier_up (pos m) (negsuc n) = sym (min-zero m)
earlier_up (negsuc m) (pos n) = sym (zero-min n)
earlier_up (negsuc m) (negsuc n) = through up (leb n m) (negsuc m) (negsuc n) ∙ either (leb n m) 0 ∙ sym (zero-min 0)

-- ---- the edges and the places as naturals

module _ (h : Head) where
  abbrev pub end_at : ℕ
  end_at = h.duration.0 * h.timescale.0

  pub not_known : h.duration.0 ≡ 0 → end_known h ≡ false
  not_known e = ap not (eq-eqb h.duration.0 0 e)

  pub is_known : (h.duration.0 ≡ 0 → ⊥) → end_known h ≡ true
  is_known n = ap not (ne_eqb h.duration.0 0 n)

  -- from the period start to tick k
  abbrev pub place_n : ℕ → ℕ
  place_n k = k * 1000 - h.offset.0 * 1000

  -- from the period start to millisecond c plus the update period, and from there with the depth to c
  abbrev pub since_start : ℕ → ℕ
  since_start c = (c + h.update.0) * h.timescale.0 - h.start.0 * h.timescale.0

  abbrev pub since_depth : ℕ → ℕ
  since_depth c = c * h.timescale.0 - (h.depth.0 + h.start.0) * h.timescale.0

  abbrev pub low_n : ℕ → ℕ
  low_n c = cond (eqb h.depth.0 0) 0 (since_depth c)

  abbrev pub cut_n : ℕ → ℕ
  cut_n x = cond (end_known h) (min end_at x) x

  abbrev pub high_n : ℕ → ℕ
  high_n c = cut_n (since_start c)

  pub place_is : (k : ℕ) → Is (place h k) (k * 1000) (h.offset.0 * 1000)
  unfolding place
  place_is k = is_mul (pos k -ℤ pos h.offset.0) k h.offset.0 1000 (is_less k h.offset.0)

  pub moment_is : (m : ℤ) (a b : ℕ) → Is m a b → Is (moment h m) (a * h.timescale.0) ((b + h.start.0) * h.timescale.0)
  unfolding moment
  moment_is m a b e =
      let s : Is (m -ℤ pos h.start.0) (a + 0) (b + h.start.0) = is_sub m (pos h.start.0) a b h.start.0 0 e (is_pos h.start.0) in
      is_mul (m -ℤ pos h.start.0) a (b + h.start.0) h.timescale.0
      (is_moved (m -ℤ pos h.start.0) (a + 0) (b + h.start.0) a (b + h.start.0) (omega arith) s)

  place_up : (k : ℕ) → up (place h k) ≡ place_n k
  place_up k = up_is (place h k) (k * 1000) (h.offset.0 * 1000) (place_is k)

  cut_up : (z : ℤ) → up (cut_to_end h z) ≡ cut_n (up z)
  unfolding period_end
  cut_up z = through up (end_known h) (earlier (period_end h) z) z ∙ ap (λ (n : ℕ). cond (end_known h) n (up z)) (earlier_up (period_end h) z)

  pub low_is : (c : ℕ) → low_edge h c ≡ pos (low_n c)
  unfolding low_edge
  low_is c =
      let m : ℤ = pos c -ℤ pos h.depth.0 in
      let e : up (moment h m) ≡ since_depth c =
      up_is (moment h m) (c * h.timescale.0) ((h.depth.0 + h.start.0) * h.timescale.0)
      (moment_is m c h.depth.0 (is_less c h.depth.0))
      in
      ap (λ z. cond (eqb h.depth.0 0) (pos 0) z) (later_start (moment h m) ∙ ap pos e) ∙
      sym (through pos (eqb h.depth.0 0) 0 (since_depth c))

  pub high_up : (c : ℕ) → up (high_edge h c) ≡ high_n c
  unfolding high_edge
  high_up c =
      let at : ℕ = c + h.update.0 in
      let e : up (moment h (pos at)) ≡ at * h.timescale.0 - (0 + h.start.0) * h.timescale.0 =
      up_is (moment h (pos at)) (at * h.timescale.0) ((0 + h.start.0) * h.timescale.0) (moment_is (pos at) at 0 (is_pos at))
      in
      cut_up (moment h (pos at)) ∙ ap cut_n (e ∙ ap (λ (n : ℕ). at * h.timescale.0 - n * h.timescale.0) (zero-add h.start.0))

  -- ---- the rules of the window as comparisons of naturals

  pub passed_is : (e c : ℕ) → passed h e c ≡ leb (cut_n (place_n e)) (low_n c)
  passed_is e c =
      ap (le_z (cut_to_end h (place h e))) (low_is c) ∙
      up_le (cut_to_end h (place h e)) (low_n c) ∙
      ap (λ (n : ℕ). leb n (low_n c)) (cut_up (place h e) ∙ ap cut_n (place_up e))

  -- a stretch that begins at a point with up x, against a window that begins at a natural
  overlap_is : (p q : ℤ) (a : ℕ) (b : ℤ) →
      overlaps (record { from = p; to = q }) (record { from = pos a; to = b }) ≡ ltb (max (up p) a) (min (up q) (up b))
  overlap_is p q a b =
      ap (λ z. lt_z z (earlier q b)) (later_up p a) ∙ up_lt (max (up p) a) (earlier q b) ∙ ap (ltb (max (up p) a)) (earlier_up q b)

  window_is : (p q : ℤ) (c : ℕ) → overlaps (record { from = p; to = q }) (window_at h c) ≡ ltb (max (up p) (low_n c)) (min (up q) (high_n c))
  window_is p q c =
      ap (λ z. overlaps (record { from = p; to = q }) (record { from = z; to = high_edge h c })) (low_is c) ∙
      overlap_is p q (low_n c) (high_edge h c) ∙
      ap (λ (n : ℕ). ltb (max (up p) (low_n c)) (min (up q) n)) (high_up c)

  pub needed_is : (r : Reference) (c : ℕ) →
      needed h r c ≡ ltb (max (place_n r.start.0) (low_n c)) (min (cut_n (place_n (end_of r))) (high_n c))
  needed_is r c =
      let p : ℤ = place h r.start.0 in
      let q : ℤ = place h (end_of r) in
      window_is (later (pos 0) p) (cut_to_end h q) c ∙
      ap₂ (λ (x y : ℕ). ltb (max x (low_n c)) (min y (high_n c)))
      (ap up (later_start p) ∙ place_up r.start.0)
      (cut_up q ∙ ap cut_n (place_up (end_of r)))

  pub before_is : (k : ℕ) → before_end h k ≡ cond (end_known h) (ltb (k * 1000) (h.offset.0 * 1000 + end_at)) true
  unfolding period_end
  before_is k =
      ap (λ t. cond (end_known h) t true)
      (lt_is (place h k) (period_end h) (k * 1000) (h.offset.0 * 1000) end_at 0 (place_is k) (is_pos end_at) ∙
      same_ltb (k * 1000 + 0) (end_at + h.offset.0 * 1000) (k * 1000) (h.offset.0 * 1000 + end_at) (omega arith))

  pub starts_before : (k : ℕ) → before_end h k ≡ true → end_known h ≡ true → k * 1000 < h.offset.0 * 1000 + end_at
  starts_before k b = go (end_known h) (sym (before_is k) ∙ b)
    where
      go : (t : Bool) → cond t (ltb (k * 1000) (h.offset.0 * 1000 + end_at)) true ≡ true → t ≡ true → k * 1000 < h.offset.0 * 1000 + end_at
      go true e f = ltb-true (k * 1000) (h.offset.0 * 1000 + end_at) e
      go false e f = absurd (false≢true f)

  -- what lies before a tick that lies before the end lies before it too
  pub before_earlier : (j k : ℕ) → j ≤ k → before_end h k ≡ true → before_end h j ≡ true
  before_earlier j k l b = before_is j ∙ go (end_known h) (sym (before_is k) ∙ b)
    where
      go : (t : Bool) → cond t (ltb (k * 1000) (h.offset.0 * 1000 + end_at)) true ≡ true → cond t (ltb (j * 1000) (h.offset.0 * 1000 + end_at)) true ≡ true
      go true e =
          let m : k * 1000 < h.offset.0 * 1000 + end_at = ltb-true (k * 1000) (h.offset.0 * 1000 + end_at) e in
          lt-ltb (j * 1000) (h.offset.0 * 1000 + end_at) (omega arith)
      go false e = refl

  -- ticks against a window whose edges are naturals
  pub tick_is : (a b k : ℕ) → tick_needed h (record { from = pos a; to = pos b }) k ≡ ltb (max (place_n k) a) (min (place_n (k + 1)) b)
  tick_is a b k =
      overlap_is (place h k) (place h (k + 1)) a (pos b) ∙
      ap₂ (λ (x y : ℕ). ltb (max x a) (min y b)) (place_up k) (place_up (k + 1))

  -- the window at a clock needs the ticks of one whose edges are naturals
  pub window_inside : (c k : ℕ) → tick_needed h (window_at h c) k ≡ tick_needed h (record { from = pos (low_n c); to = pos (high_n c) }) k
  window_inside c k = window_is (place h k) (place h (k + 1)) c ∙ sym (overlap_is (place h k) (place h (k + 1)) (low_n c) (pos (high_n c)))
