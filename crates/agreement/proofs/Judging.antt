-- Agreement by its tests: what the first, the last and the count of the kept references say of them all.
use mathlib.Core.Path.{◌≡◌, refl, sym, ap, ap₂, ◌∙◌}
use mathlib.Core.Bool.{Bool, true, false, ◌&&◌, not, and-true, and-false, and-eq-true_iff}
use mathlib.Core.List.{List, [], ◌∷◌}
use Prim.Native.Nat.{ℕ, suc, ◌+◌, ◌-◌, ◌^◌, ◌≤◌}
use native.Mathlib.Nat.{le_refl}
use native.Mathlib.Omega.{arith}
use borrow.Author.Tests.{leb-true, le-leb, eq-eqb}
use lib.Dec.{leb, eqb}
use lib.ListN.{length}
use Rattle.units.specs.Limits.{largest_tick, largest_millis, largest_number, tick_held, millis_held}
use Rattle.window.specs.declared.Head.{Head}
use Rattle.window.specs.declared.Reference.{Reference}
use Rattle.window.specs.Limits.{head_held, Held}
use Rattle.window.specs.Place.{before_end}
use Rattle.window.specs.Window.{end_of, passed}
use Rattle.window.specs.References.{EndToStart}
use Rattle.window.proofs.Limits.{held_is}
use Rattle.window.proofs.Unsigned.{before_earlier}
use Rattle.window.proofs.Spending.{coming_later}
use Rattle.runs.specs.Ends.{last_end, Within}
use Rattle.agreement.specs.declared.Record.{Record}
use Rattle.agreement.specs.Agreement.{every, counts_held, record_held, kept_right}
use Rattle.agreement.specs.Finding.{last_of, summary, found_right}

-- ---- the limits

pub record HeldRecord (rec : Record) : Type 0 where
  pub head : Held rec.head
  pub next : rec.next.0 ≤ largest_tick
  pub clock : rec.clock.0 ≤ largest_millis
  pub dropped : rec.dropped ≤ rec.accepted
  pub accepted : rec.accepted ≤ 2 ^ 31
  pub numbers : rec.head.first.0 + rec.accepted ≤ largest_number

pub record_facts : (rec : Record) → record_held rec ≡ true → HeldRecord rec
record_facts rec e =
    let first = rec.head.first.0 in
    let a = (and-eq-true_iff (head_held rec.head && tick_held rec.next && millis_held rec.clock && leb rec.dropped rec.accepted) (counts_held first rec.accepted)).0 e in
    let b = (and-eq-true_iff (head_held rec.head && tick_held rec.next && millis_held rec.clock) (leb rec.dropped rec.accepted)).0 a.0 in
    let c = (and-eq-true_iff (head_held rec.head && tick_held rec.next) (millis_held rec.clock)).0 b.0 in
    let d = (and-eq-true_iff (head_held rec.head) (tick_held rec.next)).0 c.0 in
    let k = (and-eq-true_iff (leb rec.accepted (2 ^ 31)) (leb (first + rec.accepted) largest_number)).0 a.1 in
    record {
      head = (held_is rec.head).only d.0;
      next = leb-true rec.next.0 largest_tick d.1;
      clock = leb-true rec.clock.0 largest_millis c.1;
      dropped = leb-true rec.dropped rec.accepted b.1;
      accepted = leb-true rec.accepted (2 ^ 31) k.0;
      numbers = leb-true (first + rec.accepted) largest_number k.1;
    }

pub record_held_lem : (rec : Record) → HeldRecord rec → record_held rec ≡ true
record_held_lem rec f =
    ap₂ ◌&&◌
    (ap₂ ◌&&◌
    (ap₂ ◌&&◌
    (ap₂ ◌&&◌ ((held_is rec.head).if f.head) (le-leb rec.next.0 largest_tick f.next))
    (le-leb rec.clock.0 largest_millis f.clock))
    (le-leb rec.dropped rec.accepted f.dropped))
    (ap₂ ◌&&◌ (le-leb rec.accepted (2 ^ 31) f.accepted) (le-leb (rec.head.first.0 + rec.accepted) largest_number f.numbers))

-- ---- the first and the last speak for all

last_end_lem : (t : ℕ) (r : Reference) (rs : List Reference) → last_end t (r ∷ rs) ≡ end_of (last_of r rs)
unfolding last_end last_of
last_end_lem t r [] = refl
last_end_lem t r (x ∷ xs) = last_end_lem (end_of r) x xs

module _ (h : Head) (c : ℕ) where
  unfoldable pub coming : Reference → Bool
  coming r = not (passed h (end_of r) c)

  -- after one that is not spent, none is
  pub none_passed : (t : ℕ) (rs : List Reference) → EndToStart t rs → passed h t c ≡ false → every coming rs ≡ true
  unfolding every coming
  none_passed t [] j p = refl
  none_passed t (r ∷ rs) j p =
      let q : passed h (end_of r) c ≡ false = coming_later h t (end_of r) c (omega (arith, j.0)) p in
      ap₂ ◌&&◌ (ap not q) (none_passed (end_of r) rs j.1 q)

  all_coming : (t : ℕ) (r : Reference) (rs : List Reference) → EndToStart t (r ∷ rs) → every coming (r ∷ rs) ≡ coming r
  unfolding every coming
  all_coming t r rs j = go (passed h (end_of r) c) refl
    where
      go : (p : Bool) → passed h (end_of r) c ≡ p → (not p && every coming rs) ≡ not p
      go true e = refl
      go false e = none_passed (end_of r) rs j.1 e

  unfoldable pub begun : Reference → Bool
  begun r = before_end h r.start.0

  -- if the last starts before the period end, all do
  starts_grow : (t : ℕ) (r : Reference) (rs : List Reference) → EndToStart t (r ∷ rs) → r.start.0 ≤ (last_of r rs).start.0
  unfolding last_of
  starts_grow t r [] j = le_refl r.start.0
  starts_grow t r (x ∷ xs) j =
      let l : x.start.0 ≤ (last_of x xs).start.0 = starts_grow (end_of r) x xs j.1 in
      omega (arith, j.1.0)

  pub all_begun : (t : ℕ) (r : Reference) (rs : List Reference) → EndToStart t (r ∷ rs) → every begun (r ∷ rs) ≡ begun (last_of r rs)
  unfolding every begun last_of
  all_begun t r [] j = and-true (before_end h r.start.0)
  all_begun t r (x ∷ xs) j = ap (λ b. before_end h r.start.0 && b) (all_begun (end_of r) x xs j.1) ∙ go (before_end h (last_of x xs).start.0) refl
    where
      go : (b : Bool) → before_end h (last_of x xs).start.0 ≡ b → (before_end h r.start.0 && b) ≡ b
      go true e = ap (λ s. s && true) (before_earlier h r.start.0 (last_of x xs).start.0 (omega (arith, starts_grow (end_of r) x xs j.1, j.1.0)) e)
      go false e = and-false (before_end h r.start.0)

pub right_is : (rec : Record) (t : ℕ) (rs : List Reference) → EndToStart t rs → found_right rec (summary rs) ≡ kept_right rec rs
unfolding every last_end coming begun
right_is rec t [] j =
    sym
    (and-true _ ∙
    and-true _ ∙
    ap (λ b. eqb 0 (rec.accepted - rec.dropped) && b) (eq-eqb rec.next.0 rec.next.0 refl) ∙
    and-true (eqb 0 (rec.accepted - rec.dropped)))
right_is rec t (r ∷ rs) j =
    sym
    (ap₂ ◌&&◌
    (ap₂ ◌&&◌
    (ap (λ (e : ℕ). eqb (suc (length rs)) (rec.accepted - rec.dropped) && eqb e rec.next.0) (last_end_lem rec.next.0 r rs))
    (all_coming rec.head rec.clock.0 t r rs j))
    (all_begun rec.head rec.clock.0 t r rs j))

-- ---- what the steps ask

module _ (rec : Record) (held : record_held rec ≡ true) where
  pub asks_passed : Held rec.head × (rec.clock.0 ≤ largest_millis)
  asks_passed = ((record_facts rec held).head, (record_facts rec held).clock)

  pub asks_before : (l : Reference) → Within l → Held rec.head × (l.start.0 ≤ largest_tick)
  asks_before l w = ((record_facts rec held).head, omega (arith, w.ends))
