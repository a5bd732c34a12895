-- How a start stands, from the tests of the code; and what a stamp can tell: within half of the circle what the full tick
-- tells.
use Rattle.std.proofs.Common.{◌≡◌, ℕ, ◌+◌, ◌-◌, ◌%◌, ◌^◌, ◌<◌, ◌≤◌, Bool, true, false, eqb, ltb, sym, refl, ap, ◌∙◌, arith, ltb-false, ltb-true, le-ltb, lt-ltb, eq-eqb, ne_eqb, eqb-true}
use borrow.Author.Tests.{eqb-false}
use Rattle.units.specs.Standing.{less32, standing_by, tick_standing, stamp_standing}
use Rattle.units.specs.declared.Stamp.{Stamp}
use Rattle.units.specs.declared.Tick.{Tick}
use Rattle.units.specs.declared.WideTick.{WideTick}
use Rattle.units.specs.declared.standing.Standing.TheVariants.{Joins, Gap, Overlap}

-- the one number below 2^32 by which the next tick would have to grow to show the stamp
pub less32_unique : (x a b : ℕ) → x < 2 ^ 32 → (x + b % 2 ^ 32) % 2 ^ 32 ≡ a → x ≡ less32 a b
unfolding less32
less32_unique x a b h e = omega arith

-- each case, from what the tests say
module _ (a b : ℕ) where
  says_joins : {j : Bool} (g : Bool) → j ≡ true → Joins ≡ standing_by j g a b
  says_joins g h = rw h

  says_gap : {j g : Bool} → j ≡ false → g ≡ true → Gap (record { 0 = a }) ≡ standing_by j g a b
  says_gap h l = rw (h, l)

  says_overlap : {j g : Bool} → j ≡ false → g ≡ false → Overlap (record { 0 = b }) ≡ standing_by j g a b
  says_overlap h l = rw (h, l)

module _ (start : WideTick) (next : Tick) where
  pub tick_joins : start.0 ≡ next.0 → Joins ≡ tick_standing start next
  tick_joins h = says_joins (start.0 - next.0) (next.0 - start.0) (ltb next.0 start.0) (eq-eqb start.0 next.0 h)

  pub tick_gap : (start.0 ≡ next.0 → ⊥) → next.0 < start.0 → Gap (record { 0 = start.0 - next.0 }) ≡ tick_standing start next
  tick_gap h l = says_gap (start.0 - next.0) (next.0 - start.0) (ne_eqb start.0 next.0 h) (lt-ltb next.0 start.0 l)

  pub tick_overlap : (start.0 ≡ next.0 → ⊥) → start.0 ≤ next.0 → Overlap (record { 0 = next.0 - start.0 }) ≡ tick_standing start next
  tick_overlap h l = says_overlap (start.0 - next.0) (next.0 - start.0) (ne_eqb start.0 next.0 h) (le-ltb next.0 start.0 l)

module _ (x : ℕ) (stamp : Stamp) (next : Tick) (is_apart_lem : x ≡ less32 stamp.0 next.0) where
  apart : ℕ
  apart = less32 stamp.0 next.0

  pub stamp_joins : x ≡ 0 → Joins ≡ stamp_standing stamp next
  unfolding apart
  stamp_joins h = says_joins apart (2 ^ 32 - apart) (ltb apart (2 ^ 31)) (eq-eqb apart 0 (sym is_apart_lem ∙ h))

  pub stamp_gap : (x ≡ 0 → ⊥) → x < 2 ^ 31 → Gap (record { 0 = x }) ≡ stamp_standing stamp next
  unfolding apart
  stamp_gap h l =
      ap (λ (n : ℕ). Gap (record { 0 = n })) is_apart_lem ∙
      says_gap apart (2 ^ 32 - apart) (ne_eqb apart 0 (λ e. h (is_apart_lem ∙ e))) (lt-ltb apart (2 ^ 31) (omega (arith, is_apart_lem)))

  pub stamp_overlap : (x ≡ 0 → ⊥) → 2 ^ 31 ≤ x → Overlap (record { 0 = 2 ^ 32 - x }) ≡ stamp_standing stamp next
  unfolding apart
  stamp_overlap h l =
      ap (λ (n : ℕ). Overlap (record { 0 = 2 ^ 32 - n })) is_apart_lem ∙
      says_overlap apart (2 ^ 32 - apart) (ne_eqb apart 0 (λ e. h (is_apart_lem ∙ e))) (le-ltb apart (2 ^ 31) (omega (arith, is_apart_lem)))

-- a stamp says what the full tick says, as long as they lie within half of the circle
module _ (start : WideTick) (next : Tick) (h : start.0 < next.0 + 2 ^ 31) (l : next.0 ≤ start.0 + 2 ^ 31) where
  stamp : Stamp
  stamp = record { 0 = start.0 % 2 ^ 32 }

  tells : (j : Bool) → eqb start.0 next.0 ≡ j → (g : Bool) → ltb next.0 start.0 ≡ g → stamp_standing stamp next ≡ standing_by j g (start.0 - next.0) (next.0 - start.0)
  unfolding stamp
  tells true e g f =
      let k : start.0 ≡ next.0 = eqb-true start.0 next.0 e in
      sym (stamp_joins 0 stamp next (less32_unique _ _ _ (omega arith) (omega arith)) refl)
  tells false e true f =
      let k : next.0 < start.0 = ltb-true next.0 start.0 f in
      sym (stamp_gap (start.0 - next.0) stamp next (less32_unique _ _ _ (omega arith) (omega arith)) (λ (z : start.0 - next.0 ≡ 0). omega arith) (omega arith))
  tells false e false f =
      let k : start.0 ≤ next.0 = ltb-false next.0 start.0 f in
      let n : start.0 ≡ next.0 → ⊥ = eqb-false start.0 next.0 e in
      let x : ℕ = 2 ^ 32 - (next.0 - start.0) in
      sym (stamp_overlap x stamp next (less32_unique _ _ _ (omega arith) (omega arith)) (λ (z : x ≡ 0). omega arith) (omega arith)) ∙
      ap (λ (m : ℕ). Overlap (record { 0 = m })) (omega arith)

  pub stamp_tells : stamp_standing (record { 0 = start.0 % 2 ^ 32 }) next ≡ tick_standing start next
  unfolding stamp
  stamp_tells = tells (eqb start.0 next.0) refl (ltb next.0 start.0) refl
