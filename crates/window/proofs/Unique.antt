-- The answers that are stated as properties leave no room: two answers that are right of one question are equal.
use mathlib.Core.Path.{◌≡◌, refl, sym, ap, ap₂, ◌∙◌}
use mathlib.Core.Bool.{Bool, true, false, ◌&&◌, true≢false, false≢true}
use Prim.Native.Nat.{ℕ, suc, ◌-◌, ◌≤◌, ◌<◌}
use native.Mathlib.Nat.{le_antisymm, le_refl}
use native.Mathlib.Omega.{arith}
use borrow.Author.Tests.{leb-true, le-leb, lt-leb, leb-false}
use lib.Dec.{leb, ltb}
use Rattle.std.specs.Prelude.{Option, Some, None}
use Rattle.window.specs.declared.Head.{Head}
use Rattle.window.specs.declared.Passed.{Passed}
use Rattle.window.specs.declared.Passed.TheVariants.{All, Upto}
use Rattle.window.specs.declared.Ticks.{Ticks}
use Rattle.window.specs.Window.{Stretch}
use Rattle.window.specs.Ticks.{is_passed, EndsPassed, named, NamesSome, NeededTicks, LeastCount}
use Rattle.window.proofs.Ranges.{in_range_lem, range_first, range_last}

-- ---- ends

passed_more : (t u : ℕ) → ((e : ℕ) → leb e t ≡ leb e u) → t ≤ u
passed_more t u same = leb-true t u (sym (same t) ∙ le-leb t t (le_refl t))

same_passed : (p q : Passed) → ((e : ℕ) → is_passed p e ≡ is_passed q e) → p ≡ q
same_passed All All same = refl
same_passed All (Upto u) same = absurd (true≢false (same (suc u.0) ∙ lt-leb (suc u.0) u.0 (omega arith)))
same_passed (Upto t) All same = absurd (false≢true (sym (lt-leb (suc t.0) t.0 (omega arith)) ∙ same (suc t.0)))
same_passed (Upto t) (Upto u) same =
    ap (λ (n : ℕ). Upto (record { 0 = n })) (le_antisymm (passed_more t.0 u.0 same) (passed_more u.0 t.0 (λ e. sym (same e))))

pub one_passed : (h : Head) (c : ℕ) (p q : Passed) → EndsPassed h c p → EndsPassed h c q → p ≡ q
one_passed h c p q x y = same_passed p q (λ e. sym (x e) ∙ y e)

-- ---- ticks

-- a range lies within one that has its first and its last
within : (a b c d : ℕ) → a < b → ((k : ℕ) → (leb a k && ltb k b) ≡ (leb c k && ltb k d)) → (c ≤ a) × (b ≤ d)
within a b c d l same =
    let m : b - 1 < d = range_last c d (b - 1) (sym (same (b - 1)) ∙ in_range_lem a b (b - 1) (omega arith) (omega arith)) in
    (range_first c d a (sym (same a) ∙ in_range_lem a b a (le_refl a) l), omega arith)

same_named : (m n : Option Ticks) → NamesSome m → NamesSome n → ((k : ℕ) → named m k ≡ named n k) → m ≡ n
same_named None None x y same = refl
same_named None (Some t) x y same = absurd (false≢true (same t.first.0 ∙ in_range_lem t.first.0 t.end.0 t.first.0 (le_refl t.first.0) y))
same_named (Some t) None x y same = absurd (true≢false (sym (in_range_lem t.first.0 t.end.0 t.first.0 (le_refl t.first.0) x) ∙ same t.first.0))
same_named (Some t) (Some u) x y same =
    let there = within t.first.0 t.end.0 u.first.0 u.end.0 x same in
    let back = within u.first.0 u.end.0 t.first.0 t.end.0 y (λ k. sym (same k)) in
    ap₂ (λ (m n : ℕ). Some (record { first = record { 0 = m }; end = record { 0 = n } })) (le_antisymm back.0 there.0) (le_antisymm there.1 back.1)

pub one_needed : (h : Head) (w : Stretch) (m n : Option Ticks) → NeededTicks h w m → NeededTicks h w n → m ≡ n
one_needed h w m n x y = same_named m n x.some y.some (λ k. sym (x.each k) ∙ y.each k)

-- ---- counts

pub one_least : (h : Head) (s d m n : ℕ) → LeastCount h s d m → LeastCount h s d n → m ≡ n
one_least h s d m n x y = le_antisymm (no_less x y) (no_less y x)
  where
    no_less : {a b : ℕ} → LeastCount h s d a → LeastCount h s d b → a ≤ b
    no_less {a} {b} p q = go (leb a b) refl
      where
        go : (t : Bool) → leb a b ≡ t → a ≤ b
        go true e = leb-true a b e
        go false e = absurd (false≢true (sym (p.least b q.some (leb-false a b e)) ∙ q.reaches))
