-- What the divisions of the code find is exactly what the definitions ask: the ends that are passed, the ticks that a
-- window needs, the least count that reaches the period end.
use mathlib.Core.Path.{◌≡◌, refl, sym, ap, ap₂, subst, subst⁻¹, ◌∙◌}
use mathlib.Core.Bool.{Bool, true, false, cond, ◌&&◌, false≢true}
use Prim.Native.Nat.{ℕ, zero, suc, ◌+◌, ◌-◌, ◌*◌, ◌/◌, ◌%◌, ◌≤◌, ◌<◌, min, max}
use native.Mathlib.Nat.{mul_assoc, mul_comm, add-mul, one-mul, zero-mul, mul-le-mul_right, add-zero, le_of_lt}
use native.Mathlib.Omega.{arith}
use borrow.Author.Tests.{leb-true, leb-false, ltb-true, le-leb, lt-leb, lt-ltb, le-ltb}
use lib.Dec.{leb, ltb}
use Rattle.std.specs.Prelude.{Option, Some, None}
use Rattle.std.proofs.lemmas.Grind.{div_ceil_times}
use lib.IntN.{ℤ}
use Rattle.units.specs.Product.{Product}
use Rattle.units.proofs.Choice.{same_test}
use Rattle.units.proofs.Signed.{up, is_pos, le_is}
use Rattle.window.specs.declared.Head.{Head}
use Rattle.window.specs.declared.Ticks.{Ticks}
use Rattle.window.specs.declared.Passed.TheVariants.{All, Upto}
use Rattle.window.specs.Place.{end_known, period_end, place, before_end}
use Rattle.window.specs.Steps.{Past, inside, over_by}
use Rattle.window.specs.Window.{low_edge, high_edge, window_at, whole_period, passed, tick_needed}
use Rattle.window.specs.Ticks.{EndsPassed, NeededTicks, LeastCount, reaches_end}
use Rattle.window.proofs.Ranges.{in_range_lem, range_first, range_last}
use Rattle.window.proofs.Unsigned.{end_at, place_n, low_n, cut_n, high_n, later_start, low_is, high_up, passed_is, tick_is, window_inside, place_is, starts_before, is_known}

-- a point past the period start is its `up`
past_up : (r : ℕ) (z : ℤ) → Past r z → r ≡ up z
past_up r z p = ap up (p.is ∙ later_start z)

-- an end stands at or before a point exactly where its tick is at most the point's tick, rounded down
end_side : (e o x : ℕ) → leb (e * 1000 - o * 1000) x ≡ leb e (o + x / 1000)
end_side e o x =
    same_test (leb (e * 1000 - o * 1000) x) (leb e (o + x / 1000))
    (λ t. let l : e * 1000 - o * 1000 ≤ x = leb-true (e * 1000 - o * 1000) x t in le-leb e (o + x / 1000) (omega arith))
    (λ t. let l : e ≤ o + x / 1000 = leb-true e (o + x / 1000) t in le-leb (e * 1000 - o * 1000) x (omega arith))

-- a tick shares a stretch with a window exactly from the tick of its first point up to that of its end, rounded up
tick_side : (k o a b : ℕ) → a < b →
    ltb (max (k * 1000 - o * 1000) a) (min ((k + 1) * 1000 - o * 1000) b) ≡ (leb (o + a / 1000) k && ltb k (o + (b + 999) / 1000))
tick_side k o a b l =
    same_test (ltb from to) (leb (o + a / 1000) k && ltb k (o + (b + 999) / 1000))
    (λ t.
    let m : max (k * 1000 - o * 1000) a < min ((k + 1) * 1000 - o * 1000) b = ltb-true from to t in
    in_range_lem (o + a / 1000) (o + (b + 999) / 1000) k (omega arith) (omega arith))
    (λ t.
    let m : o + a / 1000 ≤ k = range_first (o + a / 1000) (o + (b + 999) / 1000) k t in
    let n : k < o + (b + 999) / 1000 = range_last (o + a / 1000) (o + (b + 999) / 1000) k t in
    lt-ltb (max (k * 1000 - o * 1000) a) (min ((k + 1) * 1000 - o * 1000) b) (omega arith))
  where
    from : ℕ
    from = max (k * 1000 - o * 1000) a

    to : ℕ
    to = min ((k + 1) * 1000 - o * 1000) b

-- of n that is x parted by w, rounded up: fewer times w do not reach x
fewer : (x w n m : ℕ) → n * w < x + w → m < n → m * w < x
fewer x w n m l k =
    let q : m + 1 ≤ n = omega arith in
    let t : (m + 1) * w ≤ n * w = mul-le-mul_right w q in
    omega (arith, add-mul m 1 w, one-mul w)

some_times : (x w n : ℕ) → 1 ≤ x → x ≤ n * w → 1 ≤ n
some_times x w zero l m = let z : ⊥ = omega (arith, zero-mul w) in absurd z
some_times x w (suc n) l m = omega arith

-- by thousands, as the closed form has it
thousands : (b : ℕ) → b / 1000 + min 1 (b % 1000) ≡ (b + 999) / 1000
thousands b = omega arith

module _ (h : Head) where
  -- ---- the period end

  over_is : (x : ℕ) → over_by h x ≡ cond (end_known h) (leb (end_at h) x) false
  unfolding period_end
  over_is x = refl

  pub over_known : (e x most : ℕ) → (h.duration.0 ≡ 0 → ⊥) → Product e h.duration.0 h.timescale.0 most → leb e x ≡ over_by h x
  over_known e x most n p = ap (λ (m : ℕ). leb m x) p.is ∙ sym (over_is x ∙ ap (λ t. cond t (leb (end_at h) x) false) (is_known h n))

  -- ---- the ends that are passed

  module _ (c r : ℕ) (at : r ≡ low_n h c) where
    against : (e : ℕ) → passed h e c ≡ leb (cut_n h (place_n h e)) r
    against e = passed_is h e c ∙ ap (leb (cut_n h (place_n h e))) (sym at)

    pub all_at : (t : Bool) → t ≡ over_by h r → t ≡ true → EndsPassed h c All
    all_at t w f e = against e ∙ go (end_known h) (sym (over_is r) ∙ sym w ∙ f)
      where
        go : (k : Bool) → cond k (leb (end_at h) r) false ≡ true → leb (cond k (min (end_at h) (place_n h e)) (place_n h e)) r ≡ true
        go true g = let l : end_at h ≤ r = leb-true (end_at h) r g in le-leb (min (end_at h) (place_n h e)) r (omega arith)
        go false g = absurd (false≢true g)

    pub upto_at : (t : Bool) → t ≡ over_by h r → t ≡ false → EndsPassed h c (Upto (record { 0 = h.offset.0 + r / 1000 }))
    upto_at t w f e = against e ∙ go (end_known h) (sym (over_is r) ∙ sym w ∙ f) ∙ end_side e h.offset.0 r
      where
        go : (k : Bool) → cond k (leb (end_at h) r) false ≡ false → leb (cond k (min (end_at h) (place_n h e)) (place_n h e)) r ≡ leb (place_n h e) r
        go true g =
            let l : r < end_at h = leb-false (end_at h) r g in
            same_test (leb (min (end_at h) (place_n h e)) r) (leb (place_n h e) r)
            (λ t. let m : min (end_at h) (place_n h e) ≤ r = leb-true (min (end_at h) (place_n h e)) r t in le-leb (place_n h e) r (omega arith))
            (λ t. let m : place_n h e ≤ r = leb-true (place_n h e) r t in le-leb (min (end_at h) (place_n h e)) r (omega arith))
        go false g = refl

  -- the same, of the point that the code has
  module _ (c r : ℕ) (low : Past r (low_edge h c)) where
    low_at : r ≡ low_n h c
    low_at = past_up r (low_edge h c) low ∙ ap up (low_is h c)

    pub all_passed : (t : Bool) → t ≡ over_by h r → t ≡ true → EndsPassed h c All
    all_passed = all_at c r low_at

    pub upto_passed : (t : Bool) → t ≡ over_by h r → t ≡ false → EndsPassed h c (Upto (record { 0 = h.offset.0 + r / 1000 }))
    upto_passed = upto_at c r low_at

  -- ---- the ticks that a window needs

  pub none_needed : (a b : ℕ) → b ≤ a → NeededTicks h (inside a b) None
  none_needed a b l =
      record { some = tt; each = λ k. tick_is h a b k ∙ le-ltb (max (place_n h k) a) (min (place_n h (k + 1)) b) (omega arith) }

  pub ticks_needed : (a b : ℕ) → a < b →
      NeededTicks h (inside a b) (Some (record { first = record { 0 = h.offset.0 + a / 1000 }; end = record { 0 = h.offset.0 + (b + 999) / 1000 } }))
  ticks_needed a b l = record { some = omega arith; each = λ k. tick_is h a b k ∙ tick_side k h.offset.0 a b l }

  -- as the code rounds up
  pub ticks_found : (a b n : ℕ) → a < b → n ≡ b / 1000 + min 1 (b % 1000) →
      NeededTicks h (inside a b) (Some (record { first = record { 0 = h.offset.0 + a / 1000 }; end = record { 0 = h.offset.0 + n } }))
  ticks_found a b n l e =
      subst⁻¹ (λ (k : ℕ). NeededTicks h (inside a b) (Some (record { first = record { 0 = h.offset.0 + a / 1000 }; end = record { 0 = h.offset.0 + k } })))
      (e ∙ thousands b) (ticks_needed a b l)

  pub needed_window : (c a b : ℕ) (n : Option Ticks) → Past a (low_edge h c) → Past b (high_edge h c) → NeededTicks h (inside a b) n → NeededTicks h (window_at h c) n
  needed_window c a b n x y t =
      let e : a ≡ low_n h c = past_up a (low_edge h c) x ∙ ap up (low_is h c) in
      let f : b ≡ high_n h c = past_up b (high_edge h c) y ∙ high_up h c in
      record {
        some = t.some;
        each = λ k. window_inside h c k ∙ ap₂ (λ (u v : ℕ). tick_needed h (inside u v) k) (sym e) (sym f) ∙ t.each k;
      }

  pub needed_period : (e most : ℕ) (n : Option Ticks) → Product e h.duration.0 h.timescale.0 most → NeededTicks h (inside 0 e) n → NeededTicks h (whole_period h) n
  unfolding period_end
  needed_period e most n p t = record { some = t.some; each = λ k. ap (λ (u : ℕ). tick_needed h (inside 0 u) k) (sym p.is) ∙ t.each k }

  -- in closed form, by the edges

  pub window_ticks : (c : ℕ) → low_n h c < high_n h c →
      NeededTicks h (window_at h c) (Some (record { first = record { 0 = h.offset.0 + low_n h c / 1000 }; end = record { 0 = h.offset.0 + (high_n h c + 999) / 1000 } }))
  window_ticks c l =
      let t = ticks_needed (low_n h c) (high_n h c) l in
      record { some = t.some; each = λ k. window_inside h c k ∙ t.each k }

  pub window_none : (c : ℕ) → high_n h c ≤ low_n h c → NeededTicks h (window_at h c) None
  window_none c l =
      let t = none_needed (low_n h c) (high_n h c) l in
      record { some = t.some; each = λ k. window_inside h c k ∙ t.each k }

  pub period_ticks : 0 < end_at h →
      NeededTicks h (whole_period h) (Some (record { first = record { 0 = h.offset.0 + 0 / 1000 }; end = record { 0 = h.offset.0 + (end_at h + 999) / 1000 } }))
  unfolding period_end
  period_ticks l =
      let t = ticks_needed 0 (end_at h) l in
      record { some = t.some; each = t.each }

  -- ---- the least count that reaches the period end

  pub reaches_is : (k : ℕ) → reaches_end h k ≡ leb (end_at h + h.offset.0 * 1000) (k * 1000)
  unfolding period_end
  reaches_is k =
      le_is (period_end h) (place h k) (end_at h) 0 (k * 1000) (h.offset.0 * 1000) (is_pos (end_at h)) (place_is h k) ∙
      ap (leb (end_at h + h.offset.0 * 1000)) (add-zero (k * 1000))

  module _ (s d e o a m₁ m₂ m₃ : ℕ) (known : end_known h ≡ true) (begins : before_end h s ≡ true) (lasts : 1 ≤ d)
      (pe : Product e h.duration.0 h.timescale.0 m₁) (po : Product o h.offset.0 1000 m₂) (pa : Product a s 1000 m₃) where
    some_left : a < e + o
    some_left = omega (arith, starts_before h s begins known, pe.is, po.is, pa.is)

    pub left_down : a ≤ e + o
    left_down = le_of_lt some_left

    pub left_some : 1 ≤ e + o - a
    left_some = omega (arith, some_left)

    taken : (n : ℕ) → (s + d * n) * 1000 ≡ a + n * (d * 1000)
    taken n =
        add-mul s (d * n) 1000 ∙
        ap₂ ◌+◌ (sym pa.is) (ap (λ (x : ℕ). x * 1000) (mul_comm d n) ∙ mul_assoc n d 1000)

    reaches : (n : ℕ) → reaches_end h (s + d * n) ≡ leb (e + o) (a + n * (d * 1000))
    reaches n = reaches_is (s + d * n) ∙ ap₂ leb (ap₂ ◌+◌ (sym pe.is) (sym po.is)) (taken n)

    -- by the grains of one reference
    pub least_count_lem : (g n m₄ : ℕ) → Product g d 1000 m₄ → n ≡ (e + o - a) / g + min 1 ((e + o - a) % g) → LeastCount h s d n
    least_count_lem g n m₄ pg q = by_ticks n (subst⁻¹ (λ (k : ℕ). (left ≤ k * (d * 1000)) × (k * (d * 1000) < left + d * 1000)) q
        (subst (λ (w : ℕ). (left ≤ (left / g + min 1 (left % g)) * w) × ((left / g + min 1 (left % g)) * w < left + w)) pg.is
        (div_ceil_times left g (omega (arith, pg.is)))))
      where
        left : ℕ
        left = e + o - a

        by_ticks : (n : ℕ) → (left ≤ n * (d * 1000)) × (n * (d * 1000) < left + d * 1000) → LeastCount h s d n
        by_ticks n t =
            record {
              some = some_times left (d * 1000) n left_some t.0;
              reaches = reaches n ∙ le-leb (e + o) (a + n * (d * 1000)) (omega (arith, some_left, t.0));
              least = λ m some l.
                  reaches m ∙ lt-leb (e + o) (a + m * (d * 1000)) (omega (arith, some_left, fewer left (d * 1000) n m t.1 l));
            }
