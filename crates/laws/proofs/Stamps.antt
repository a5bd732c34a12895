-- The full tick of a stamp is the one that shows it within half a circle of the next tick: by the distance, where that tick would lie,
-- and whether it lies within the limit.
use Prim.Native.Nat.{ℕ, ◌+◌, ◌-◌, ◌^◌, ◌%◌, ◌≤◌, ◌<◌}
use mathlib.Core.Path.{◌≡◌, refl, sym, ap, subst, ◌∙◌}
use mathlib.Core.Bool.{Bool, true, false, cond}
use mathlib.Core.List.{List}
use native.Mathlib.Omega.{arith}
use borrow.Author.Tests.{ltb-true, ltb-false, leb-true, leb-false}
use lib.Dec.{leb, ltb}
use Rattle.units.specs.declared.Stamp.{Stamp}
use Rattle.units.specs.declared.Tick.{Tick}
use Rattle.std.specs.Prelude.{Err, Ok, None, Option, Some}
use Rattle.units.specs.Full.{full_tick}
use Rattle.units.specs.Limits.{largest_tick}
use Rattle.units.specs.Standing.{less32, tick_standing, stamp_standing}
use Rattle.units.proofs.FullTicks.{full_over, full_ahead, full_below, full_behind, full_beyond}
use Rattle.units.proofs.Stamps.{stamp_tells}
use Rattle.agreement.specs.declared.Record.{Record}
use Rattle.agreement.specs.declared.refusal.Refusal.{Refusal}
use Rattle.agreement.specs.declared.refusal.Refusal.TheVariants.{Disagreement}
use Rattle.runs.specs.Words.{runs_of, references_of}
use Rattle.runs.specs.Shape.{runs_shaped, zeros}
use Rattle.runs.specs.Ends.{last_end}
use Rattle.agreement.specs.Agreement.{every, agrees}
use Rattle.keeping.specs.Keeping.{changed_by, words_by}
use Rattle.timeline.specs.Opening.{open_outcome}
use Rattle.lookups.specs.Stamps.{full_tick_in}
use Rattle.laws.specs.Stamps.{Shows, FullTickRight}

-- ---- the tick by the distance

-- the distance has 32 bits, and the next tick and the distance together show the stamp
distance_small : (a b : ℕ) → less32 a b < 2 ^ 32
unfolding less32
distance_small a b = omega arith

pub distance_shows : (a b : ℕ) → a < 2 ^ 32 → (b + less32 a b) % 2 ^ 32 ≡ a
unfolding less32
distance_shows a b l = omega arith

one_shows : (next : Tick) (s : Stamp) (t u : Tick) → Shows next s t → Shows next s u → t ≡ u
one_shows next s t u p q =
    ap (λ (n : ℕ). record { 0 = n }) (same t.0 u.0 next.0 (p.low ∙ sym q.low) p.behind p.ahead q.behind q.ahead)
  where
    same : (m k n : ℕ) → m % 2 ^ 32 ≡ k % 2 ^ 32 → n ≤ m + 2 ^ 31 → m < n + 2 ^ 31 → n ≤ k + 2 ^ 31 → k < n + 2 ^ 31 → m ≡ k
    same m k n e a b c d = omega arith

-- where a tick lies that shows the low 32 bits of n + d, within half a circle of n
near : (m n d : ℕ) → m % 2 ^ 32 ≡ (n + d) % 2 ^ 32 → n ≤ m + 2 ^ 31 → m < n + 2 ^ 31 → d < 2 ^ 31 → m ≡ n + d
near m n d e a b l = omega arith

far : (m n d : ℕ) → m % 2 ^ 32 ≡ (n + d) % 2 ^ 32 → n ≤ m + 2 ^ 31 → m < n + 2 ^ 31 → 2 ^ 31 ≤ d → d < 2 ^ 32 → m ≡ n - (2 ^ 32 - d)
far m n d e a b l k = omega arith

-- and where it lies behind, it does not lie below 0
not_below : (m n d : ℕ) → m % 2 ^ 32 ≡ (n + d) % 2 ^ 32 → n ≤ m + 2 ^ 31 → m < n + 2 ^ 31 → 2 ^ 31 ≤ d → d < 2 ^ 32 → 2 ^ 32 - d ≤ n
not_below m n d e a b l k = omega arith

back_shows : (n d s : ℕ) → (n + d) % 2 ^ 32 ≡ s → 2 ^ 32 - d ≤ n → d < 2 ^ 32 → (n - (2 ^ 32 - d)) % 2 ^ 32 ≡ s
back_shows n d s e l k = omega arith

-- d is the distance of a stamp from the next tick
module _ (s : Stamp) (next : Tick) (small : s.0 < 2 ^ 32) (d : ℕ) (is : d ≡ less32 s.0 next.0) where
  width : d < 2 ^ 32
  width = omega (arith, is, distance_small s.0 next.0)

  shown : (next.0 + d) % 2 ^ 32 ≡ s.0
  shown = ap (λ x. (next.0 + x) % 2 ^ 32) is ∙ distance_shows s.0 next.0 small

  -- what becomes of a goal where a tick is named that shows the stamp, and where none is named and none shows it
  module _ {A : Type 0} (some : (t : Tick) → Shows next s t → full_tick s next ≡ Some t → A)
      (none : ((t : Tick) → Shows next s t → ⊥) → full_tick s next ≡ None → A) where
    ahead : d < 2 ^ 31 → (b : Bool) → leb (next.0 + d) largest_tick ≡ b → A
    ahead l true e =
        let h : next.0 + d ≤ largest_tick = leb-true (next.0 + d) largest_tick e in
        some (record { 0 = next.0 + d }) (record { held = h; low = shown; behind = omega arith; ahead = omega arith })
        (sym (full_ahead d s next is l (omega arith)))
    ahead l false e =
        let h : largest_tick < next.0 + d = leb-false (next.0 + d) largest_tick e in
        none
        (λ t p. let z : t.0 ≡ next.0 + d = near t.0 next.0 d (p.low ∙ sym shown) p.behind p.ahead l in omega (arith, p.held))
        (sym (full_over d s next is l (omega arith)))

    behind : 2 ^ 31 ≤ d → 2 ^ 32 - d ≤ next.0 → (b : Bool) → leb (next.0 - (2 ^ 32 - d)) largest_tick ≡ b → A
    behind l k true e =
        let h : next.0 - (2 ^ 32 - d) ≤ largest_tick = leb-true (next.0 - (2 ^ 32 - d)) largest_tick e in
        some (record { 0 = next.0 - (2 ^ 32 - d) })
        (record { held = h; low = back_shows next.0 d s.0 shown k width; behind = omega arith; ahead = omega (arith, width) })
        (sym (full_behind d s next is l k h))
    behind l k false e =
        let h : largest_tick < next.0 - (2 ^ 32 - d) = leb-false (next.0 - (2 ^ 32 - d)) largest_tick e in
        none
        (λ t p. let z : t.0 ≡ next.0 - (2 ^ 32 - d) = far t.0 next.0 d (p.low ∙ sym shown) p.behind p.ahead l width in omega (arith, p.held))
        (sym (full_beyond d s next is l k h))

    below : 2 ^ 31 ≤ d → (b : Bool) → leb (2 ^ 32 - d) next.0 ≡ b → A
    below l true e = behind l (leb-true (2 ^ 32 - d) next.0 e) (leb (next.0 - (2 ^ 32 - d)) largest_tick) refl
    below l false e =
        let h : next.0 < 2 ^ 32 - d = leb-false (2 ^ 32 - d) next.0 e in
        none
        (λ t p. let z : 2 ^ 32 - d ≤ next.0 = not_below t.0 next.0 d (p.low ∙ sym shown) p.behind p.ahead l width in omega arith)
        (sym (full_below d s next is l h))

    by_half : (b : Bool) → ltb d (2 ^ 31) ≡ b → A
    by_half true e = ahead (ltb-true d (2 ^ 31) e) (leb (next.0 + d) largest_tick) refl
    by_half false e = below (ltb-false d (2 ^ 31) e) (leb (2 ^ 32 - d) next.0) refl

decide : (s : Stamp) (next : Tick) → s.0 < 2 ^ 32 → {A : Type 0} → ((t : Tick) → Shows next s t → full_tick s next ≡ Some t → A) →
    (((t : Tick) → Shows next s t → ⊥) → full_tick s next ≡ None → A) → A
decide s next small some none = let d = less32 s.0 next.0 in by_half s next small d refl some none (ltb d (2 ^ 31)) refl

-- ---- the answer, where record and table agree

module _ (rec : Record) (ws : List ℕ) (s : Stamp) (small : s.0 < 2 ^ 32) (agreed : agrees rec ws ≡ true) where
  answer : full_tick_in rec ws s ≡ Ok (full_tick s rec.next)
  answer = ap (λ t. cond t (Ok (full_tick s rec.next)) (Err Disagreement)) agreed

  at_is : (t : Tick) → full_tick s rec.next ≡ Some t → full_tick_in rec ws s ≡ Ok (Some t)
  at_is t e = answer ∙ ap Ok e

  nowhere_is : full_tick s rec.next ≡ None → full_tick_in rec ws s ≡ Ok None
  nowhere_is e = answer ∙ ap Ok e

  named_only : (t : Tick) → full_tick_in rec ws s ≡ Ok (Some t) → Shows rec.next s t
  named_only t e =
      decide s rec.next small
      (λ u p f. let h = at_is u f in let same : u ≡ t = cc in subst (Shows rec.next s) same p)
      (λ k f. let h = nowhere_is f in cc)

  named_if : (t : Tick) → Shows rec.next s t → full_tick_in rec ws s ≡ Ok (Some t)
  named_if t p =
      decide s rec.next small
      (λ u q f. at_is u f ∙ ap (λ (x : Tick). Ok (Some x)) (one_shows rec.next s u t q p))
      (λ k f. absurd (k t p))

  nowhere_only : full_tick_in rec ws s ≡ Ok None → (t : Tick) → Shows rec.next s t → ⊥
  nowhere_only e t p = let h = named_if t p in cc

  nowhere_if : ((t : Tick) → Shows rec.next s t → ⊥) → full_tick_in rec ws s ≡ Ok None
  nowhere_if k =
      decide s rec.next small
      (λ t p f. absurd (k t p))
      (λ l f. nowhere_is f)

  stands_alike : (t : Tick) → full_tick_in rec ws s ≡ Ok (Some t) → tick_standing (record { 0 = t.0 }) rec.next ≡ stamp_standing s rec.next
  stands_alike t e =
      let p = named_only t e in
      sym (stamp_tells (record { 0 = t.0 }) rec.next p.ahead p.behind) ∙
      ap (λ (n : ℕ). stamp_standing (record { 0 = n }) rec.next) p.low

-- ---- refused

module _ (rec : Record) (ws : List ℕ) (s : Stamp) (why : Refusal) where
  refused_only : full_tick_in rec ws s ≡ Err why → (agrees rec ws ≡ false) × (why ≡ Disagreement)
  refused_only = go (agrees rec ws) (full_tick s rec.next)
    where
      go : (b : Bool) (x : Option Tick) → cond b (Ok x) (Err Disagreement) ≡ Err why → (b ≡ false) × (why ≡ Disagreement)
      go true x e = cc
      go false x e = (refl, cc)

  refused_if : (agrees rec ws ≡ false) × (why ≡ Disagreement) → full_tick_in rec ws s ≡ Err why
  refused_if (a, e) = ap (λ t. cond t (Ok (full_tick s rec.next)) (Err Disagreement)) a ∙ ap Err (sym e)

pub full_tick_right : FullTickRight
unfolding less32 open_outcome changed_by words_by agrees every runs_of references_of runs_shaped zeros last_end
full_tick_right =
    record {
      named = λ rec ws s t small a. record { only = named_only rec ws s small a t; if = named_if rec ws s small a t };
      one = one_shows;
      nowhere = λ rec ws s small a. record { only = nowhere_only rec ws s small a; if = nowhere_if rec ws s small a };
      stands = λ rec ws s t small a. stands_alike rec ws s small a t;
      refused = λ rec ws s why. record { only = refused_only rec ws s why; if = refused_if rec ws s why };
      c_joins = refl;
      c_gap = refl;
      c_overlap = refl;
      c_before_the_turn = refl;
      c_last_gap = refl;
      c_half = refl;
      b_below = refl;
      b_half = refl;
      b_ahead = refl;
      last_joins = refl;
      last_over = refl;
    }
