-- Spent, as the paper says it, and the comparison that decides it are one, for a reference that starts before the period
-- end. Spent stays spent at later clocks, and what ends earlier is spent earlier, so spent references stand first.
use mathlib.Core.Path.{◌≡◌, refl, sym, ap₂, ◌∙◌}
use mathlib.Core.Bool.{Bool, true, false, cond, true≢false, false≢true}
use Prim.Native.Nat.{ℕ, suc, ◌+◌, ◌-◌, ◌*◌, ◌/◌, ◌≤◌, ◌<◌, min, max}
use native.Mathlib.Nat.{mul-le-mul_right, add-mul, one-mul, div-mul-le_self, lt-div-mul-add, le_refl, le_trans, le_of_lt, lt_of_le_of_lt, lt_of_lt_of_le, min-le_left, min-le_right, le-max_left, le-max_right, max-le, le-min}
use native.Mathlib.Omega.{arith}
use mathlib.Core.List.{List, [], ◌∷◌}
use lib.ListN.{take, drop}
use borrow.Author.Tests.{leb-true, leb-false, eqb-false, ltb-true, le-ltb, lt-ltb, le-leb}
use lib.Dec.{leb, eqb}
use Rattle.units.specs.Exactly.{ExactlyWhen}
use Rattle.window.specs.declared.Head.{Head}
use Rattle.window.specs.declared.Reference.{Reference}
use Rattle.window.specs.Place.{end_known, before_end}
use Rattle.window.specs.Window.{end_of, window_at, needed, Spent, passed, tick_needed}
use Rattle.window.specs.References.{EndToStart, Each, Sound}
use Rattle.window.proofs.Unsigned.{end_at, place_n, since_start, low_n, cut_n, high_n, passed_is, needed_is, starts_before, tick_is, window_inside}

module _ (h : Head) where
  -- ---- a cut to the period end

  cut_both : (x y : ℕ) → x < y → (end_known h ≡ true → x < end_at h) → x < cut_n h y
  cut_both x y l k = go (end_known h) refl
    where
      go : (t : Bool) → end_known h ≡ t → x < cond t (min (end_at h) y) y
      go true e = let m : x < end_at h = k e in omega arith
      go false e = l

  cut_under : (x y : ℕ) → x < cut_n h y → x < y
  cut_under x y = go (end_known h)
    where
      go : (t : Bool) → x < cond t (min (end_at h) y) y → x < y
      go true l = omega arith
      go false l = l

  cut_end : (x y : ℕ) → x < cut_n h y → end_known h ≡ true → x < end_at h
  cut_end x y = go (end_known h)
    where
      go : (t : Bool) → x < cond t (min (end_at h) y) y → t ≡ true → x < end_at h
      go true l e = omega arith
      go false l e = absurd (false≢true e)

  cut_mono : (x y : ℕ) → x ≤ y → cut_n h x ≤ cut_n h y
  cut_mono x y l = go (end_known h)
    where
      go : (t : Bool) → cond t (min (end_at h) x) x ≤ cond t (min (end_at h) y) y
      go true = omega arith
      go false = l

  -- ---- the lower edge never falls

  low_mono : (c d : ℕ) → c ≤ d → low_n h c ≤ low_n h d
  low_mono c d l = go (eqb h.depth.0 0)
    where
      go : (t : Bool) →
          cond t 0 (c * h.timescale.0 - (h.depth.0 + h.start.0) * h.timescale.0) ≤
          cond t 0 (d * h.timescale.0 - (h.depth.0 + h.start.0) * h.timescale.0)
      go true = omega arith
      go false = let m : c * h.timescale.0 ≤ d * h.timescale.0 = mul-le-mul_right h.timescale.0 l in omega arith

  pub passed_later : (e c d : ℕ) → c ≤ d → passed h e c ≡ true → passed h e d ≡ true
  passed_later e c d l p =
      let q : cut_n h (place_n h e) ≤ low_n h c = leb-true (cut_n h (place_n h e)) (low_n h c) (sym (passed_is h e c) ∙ p) in
      passed_is h e d ∙ le-leb (cut_n h (place_n h e)) (low_n h d) (omega (arith, low_mono c d l))

  passed_earlier : (d e c : ℕ) → d ≤ e → passed h e c ≡ true → passed h d c ≡ true
  passed_earlier d e c l p =
      let q : cut_n h (place_n h e) ≤ low_n h c = leb-true (cut_n h (place_n h e)) (low_n h c) (sym (passed_is h e c) ∙ p) in
      passed_is h d c ∙ le-leb (cut_n h (place_n h d)) (low_n h c) (omega (arith, cut_mono (place_n h d) (place_n h e) (omega arith)))

  passed_not : (r : Reference) (c : ℕ) → passed h (end_of r) c ≡ true → needed h r c ≡ false
  passed_not r c p =
      let q : cut_n h (place_n h (end_of r)) ≤ low_n h c = leb-true (cut_n h (place_n h (end_of r))) (low_n h c) (sym (passed_is h (end_of r) c) ∙ p) in
      needed_is h r c ∙ le-ltb (max (place_n h r.start.0) (low_n h c)) (min (cut_n h (place_n h (end_of r))) (high_n h c)) (omega arith)

  -- a reference in which a needed tick lies is needed itself
  pub tick_needs : (r : Reference) (k c : ℕ) → r.start.0 ≤ k → k < end_of r → tick_needed h (window_at h c) k ≡ true → needed h r c ≡ true
  tick_needs r k c l m t =
      let begins : place_n h r.start.0 ≤ place_n h k = omega arith in
      let ends : place_n h (k + 1) ≤ place_n h (end_of r) = omega arith in
      let shared : max (place_n h k) (low_n h c) < min (place_n h (k + 1)) (high_n h c) =
      ltb-true (max (place_n h k) (low_n h c)) (min (place_n h (k + 1)) (high_n h c)) (sym (window_inside h c k ∙ tick_is h (low_n h c) (high_n h c) k) ∙ t)
      in
      needed_is h r c ∙
      lt-ltb (max (place_n h r.start.0) (low_n h c)) (min (cut_n h (place_n h (end_of r))) (high_n h c))
      (within (place_n h r.start.0) (place_n h k) (place_n h (k + 1)) (place_n h (end_of r)) begins ends shared)
    where
      within : (a b e f : ℕ) → a ≤ b → e ≤ f → max b (low_n h c) < min e (high_n h c) → max a (low_n h c) < min (cut_n h f) (high_n h c)
      within a b e f i j q =
          let low : ℕ = max b (low_n h c) in
          let under : low < high_n h c = lt_of_lt_of_le q (min-le_right e (high_n h c)) in
          let over : low < cut_n h f = cut_both low f (lt_of_lt_of_le (lt_of_lt_of_le q (min-le_left e (high_n h c))) j) (cut_end low (since_start h c) under) in
          let back : max a (low_n h c) ≤ low = max-le (le_trans i (le-max_left b (low_n h c))) (le-max_right b (low_n h c)) in
          lt_of_le_of_lt back (le-min over under)

  pub passed_spent : (r : Reference) (c : ℕ) → passed h (end_of r) c ≡ true → Spent h r c
  passed_spent r c p d l = passed_not r d (passed_later (end_of r) c d l p)

  pub spent_later : (r : Reference) (c d : ℕ) → c ≤ d → Spent h r c → Spent h r d
  spent_later r c d l s e m = s e (le_trans l m)

  -- ---- a reference that has not passed is needed, now or at a millisecond to come

  module _ (r : Reference) (c : ℕ) (rated : 1 ≤ h.timescale.0) (lasts : 1 ≤ r.span.0) (begins : before_end h r.start.0 ≡ true)
      (coming : low_n h c < cut_n h (place_n h (end_of r))) where
    from : ℕ
    from = place_n h r.start.0

    -- the first whole millisecond after the reference begins
    first : ℕ
    first = h.start.0 + from / h.timescale.0 + 1

    rate : ℕ
    rate = h.timescale.0

    from_end : end_known h ≡ true → from < end_at h
    unfolding from
    from_end k =
        let a : r.start.0 * 1000 < h.offset.0 * 1000 + end_at h = starts_before h r.start.0 begins k in
        let b : low_n h c < end_at h = cut_end (low_n h c) (place_n h (end_of r)) coming k in
        omega arith

    from_to : from < cut_n h (place_n h (end_of r))
    unfolding from
    from_to =
        let a : low_n h c < place_n h (end_of r) = cut_under (low_n h c) (place_n h (end_of r)) coming in
        cut_both from (place_n h (end_of r)) (omega arith) from_end

    first_is : first * rate ≡ h.start.0 * rate + from / rate * rate + rate
    unfolding first rate
    first_is =
        add-mul (h.start.0 + from / h.timescale.0) 1 h.timescale.0 ∙
        ap₂ ◌+◌ (add-mul h.start.0 (from / h.timescale.0) h.timescale.0) (one-mul h.timescale.0)

    -- at a clock not before that millisecond the window has reached past the reference's start
    reached : (d : ℕ) → first ≤ d → from < high_n h d
    unfolding rate
    reached d l =
        let a : first * rate ≤ d * rate = mul-le-mul_right rate l in
        let b : from < from / rate * rate + rate = lt-div-mul-add rated in
        cut_both from ((d + h.update.0) * rate - h.start.0 * rate) (omega (arith, first_is, add-mul d h.update.0 rate)) from_end

    -- a depth reaches back by a millisecond at least
    depth_back : eqb h.depth.0 0 ≡ false → rate + h.start.0 * rate ≤ (h.depth.0 + h.start.0) * rate
    depth_back e =
        let z : h.depth.0 ≡ 0 → ⊥ = eqb-false h.depth.0 0 e in
        let a : (1 + h.start.0) * rate ≤ (h.depth.0 + h.start.0) * rate = mul-le-mul_right rate (omega arith) in
        omega (arith, add-mul 1 h.start.0 rate, one-mul rate)

    -- and at that very millisecond its lower edge has not
    not_left : low_n h first ≤ from
    unfolding rate
    not_left = go (eqb h.depth.0 0) refl
      where
        go : (t : Bool) → eqb h.depth.0 0 ≡ t → cond t 0 (first * rate - (h.depth.0 + h.start.0) * rate) ≤ from
        go true e = omega arith
        go false e = omega (arith, depth_back e, div-mul-le_self from rate, first_is)

    -- the lower edge lies below the upper one wherever it lies below the reference's end
    opens : (d : ℕ) → first ≤ d → low_n h d < cut_n h (place_n h (end_of r)) → low_n h d < high_n h d
    unfolding rate
    opens d l k =
        cut_both (low_n h d) ((d + h.update.0) * rate - h.start.0 * rate)
        (go (eqb h.depth.0 0) refl (cut_under from ((d + h.update.0) * rate - h.start.0 * rate) (reached d l)))
        (cut_end (low_n h d) (place_n h (end_of r)) k)
      where
        go : (t : Bool) → eqb h.depth.0 0 ≡ t → from < (d + h.update.0) * rate - h.start.0 * rate →
            cond t 0 (d * rate - (h.depth.0 + h.start.0) * rate) < (d + h.update.0) * rate - h.start.0 * rate
        go true e a = omega arith
        go false e a = omega (arith, depth_back e, rated, add-mul d h.update.0 rate)

    needed_then : (d : ℕ) → first ≤ d → low_n h d < cut_n h (place_n h (end_of r)) → needed h r d ≡ true
    unfolding from
    needed_then d l k =
        needed_is h r d ∙
        lt-ltb (max from (low_n h d)) (min (cut_n h (place_n h (end_of r))) (high_n h d)) (omega (arith, from_to, reached d l, opens d l k))

    -- the millisecond at which it is needed: now, if it has begun, else when it first has
    needed_once : (d : ℕ) × (c ≤ d) × (needed h r d ≡ true)
    needed_once = go (leb first c) refl
      where
        go : (t : Bool) → leb first c ≡ t → (d : ℕ) × (c ≤ d) × (needed h r d ≡ true)
        go true e = (c, le_refl c, needed_then c (leb-true first c e) coming)
        go false e = (first, le_of_lt (leb-false first c e), needed_then first (le_refl first) (lt_of_le_of_lt not_left from_to))

  module _ (r : Reference) (c : ℕ) (rated : 1 ≤ h.timescale.0) (lasts : 1 ≤ r.span.0) (begins : before_end h r.start.0 ≡ true) where
    -- what has not passed is needed, now or later
    pub yet_needed : passed h (end_of r) c ≡ false → (d : ℕ) × (c ≤ d) × (needed h r d ≡ true)
    yet_needed p =
        let e : leb (cut_n h (place_n h (end_of r))) (low_n h c) ≡ false = sym (passed_is h (end_of r) c) ∙ p in
        needed_once r c rated lasts begins (leb-false (cut_n h (place_n h (end_of r))) (low_n h c) e)

    -- THE LAW: the comparison is true exactly where the reference is spent
    pub spent_is : ExactlyWhen (passed h (end_of r) c ≡ true) (Spent h r c)
    spent_is = record { only = passed_spent r c; if = λ s. go s (passed h (end_of r) c) refl }
      where
        go : Spent h r c → (t : Bool) → passed h (end_of r) c ≡ t → t ≡ true
        go s true p = refl
        go s false p =
            let n = yet_needed p in
            let e : needed h r n.0 ≡ false = s n.0 n.1 in
            sym e ∙ n.2

  -- ---- spent references stand first

  pub coming_later : (d e c : ℕ) → d ≤ e → passed h d c ≡ false → passed h e c ≡ false
  coming_later d e c l p = go (passed h e c) refl
    where
      go : (t : Bool) → passed h e c ≡ t → t ≡ false
      go true q = sym (passed_earlier d e c l q) ∙ p
      go false q = refl

  module _ (rated : 1 ≤ h.timescale.0) (c : ℕ) where
    pub not_spent : (r : Reference) → Sound h r → passed h (end_of r) c ≡ false → Spent h r c → ⊥
    not_spent r s p q = true≢false (sym ((spent_is r c rated s.lasts s.begins).if q) ∙ p)

    -- after one that is not spent, none is
    none_spent : (t : ℕ) (rs : List Reference) → EndToStart t rs → Each (Sound h) rs → passed h t c ≡ false → Each (λ r. Spent h r c → ⊥) rs
    none_spent t [] j s p = tt
    none_spent t (r ∷ rs) j s p =
        let q : passed h (end_of r) c ≡ false = coming_later t (end_of r) c (omega (arith, j.0)) p in
        (not_spent r s.0 q, none_spent (end_of r) rs j.1 s.1 q)

    pub spent_first : (t : ℕ) (rs : List Reference) → EndToStart t rs → Each (Sound h) rs →
        (n : ℕ) × Each (λ r. Spent h r c) (take n rs) × Each (λ r. Spent h r c → ⊥) (drop n rs)
    spent_first t [] j s = (0, tt, tt)
    spent_first t (r ∷ rs) j s = go (spent_first (end_of r) rs j.1 s.1) (passed h (end_of r) c) refl
      where
        go : (n : ℕ) × Each (λ r. Spent h r c) (take n rs) × Each (λ r. Spent h r c → ⊥) (drop n rs) →
            (u : Bool) → passed h (end_of r) c ≡ u →
            (n : ℕ) × Each (λ r. Spent h r c) (take n (r ∷ rs)) × Each (λ r. Spent h r c → ⊥) (drop n (r ∷ rs))
        go k true p = (suc k.0, (passed_spent r c p, k.1), k.2)
        go k false p = (0, tt, (not_spent r s.0 p, none_spent (end_of r) rs j.1 s.1 p))
