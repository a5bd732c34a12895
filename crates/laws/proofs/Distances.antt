-- What an outcome tells of a start that does not join: with 4 and 5 how far it lies from the next tick, which is 1 at least, and with no other number anything.
use mathlib.Core.Path.{◌≡◌, refl}
use mathlib.Core.Bool.{Bool, true, false, cond, ◌&&◌, ◌||◌}
use mathlib.Core.List.{List}
use Prim.Native.Nat.{ℕ, ◌+◌, ◌-◌, ◌*◌, ◌^◌, ◌≤◌, ◌<◌}
use native.Mathlib.Omega.{arith}
use borrow.Author.Tests.{lt-ltb, ltb-true, ltb-false, eqb-false}
use lib.Dec.{eqb, leb, ltb}
use Rattle.units.specs.declared.Stamp.{Stamp}
use Rattle.units.specs.declared.Tick.{Tick}
use Rattle.units.specs.declared.WideMillis.{WideMillis}
use Rattle.units.specs.declared.WideTick.{WideTick}
use Rattle.units.specs.declared.standing.Standing.{Standing}
use Rattle.units.specs.declared.standing.Standing.TheVariants.{Joins, Gap, Overlap}
use Rattle.units.specs.Limits.{largest_tick, tick_held, clock_held}
use Rattle.units.specs.Standing.{less32, standing_by, tick_standing, stamp_standing}
use Rattle.window.specs.declared.Head.{Head}
use Rattle.window.specs.Limits.{head_held}
use Rattle.window.specs.Place.{end_known, before_end}
use Rattle.runs.specs.Words.{capacity}
use Rattle.runs.specs.Encoding.{runs_for}
use Rattle.agreement.specs.declared.Record.{Record}
use Rattle.agreement.specs.declared.refusal.Refusal.TheVariants as refusal
use Rattle.agreement.specs.Agreement.{agrees, every, counts_held}
use Rattle.std.specs.Prelude.{Err, Ok}
use Rattle.keeping.specs.Keeping.{Outcome}
use Rattle.agreement.specs.Numbers.{answer_distance, answer_number}
use Rattle.keeping.specs.Append.{given, unspent_of, room_outcome, fit_outcome}
use Rattle.timeline.specs.Opening.{open_outcome}
use Rattle.timeline.specs.Appending.{unjoined◌else◌, append_outcome}
use Rattle.timeline.specs.Pair.{pair_outcome}
use Rattle.file.specs.Judging.{reach_outcome}
use Rattle.laws.specs.Refusals.{is_apart, distance_with}

-- ---- a start

-- it lies so far ahead of the next tick, or so far behind it
abbrev pub Far : Standing → ℕ → ℕ → Type 0
Far Joins ahead behind = Unit {0}
Far (Gap d) ahead behind = (d.0 ≡ ahead) × (1 ≤ d.0)
Far (Overlap d) ahead behind = (d.0 ≡ behind) × (1 ≤ d.0)

pub tick_far : (start : WideTick) (next : Tick) → Far (tick_standing start next) (start.0 - next.0) (next.0 - start.0)
tick_far start next = go (eqb start.0 next.0) refl (ltb next.0 start.0) refl
  where
    go : (j : Bool) → eqb start.0 next.0 ≡ j → (g : Bool) → ltb next.0 start.0 ≡ g →
        Far (standing_by j g (start.0 - next.0) (next.0 - start.0)) (start.0 - next.0) (next.0 - start.0)
    go true e g f = tt
    go false e true f = let k : next.0 < start.0 = ltb-true next.0 start.0 f in (refl, omega arith)
    go false e false f =
        let k : start.0 ≤ next.0 = ltb-false next.0 start.0 f in
        let n : start.0 ≡ next.0 → ⊥ = eqb-false start.0 next.0 e in
        (refl, omega arith)

-- what is left of the circle is the distance the other way round
other_way : (a b : ℕ) → a < 2 ^ 32 → 2 ^ 31 ≤ less32 a b → (2 ^ 32 - less32 a b ≡ less32 b a) × (1 ≤ 2 ^ 32 - less32 a b)
unfolding less32
other_way a b small l = (omega arith, omega arith)

pub stamp_far : (s : Stamp) (next : Tick) → s.0 < 2 ^ 32 → Far (stamp_standing s next) (less32 s.0 next.0) (less32 next.0 s.0)
stamp_far s next small = let x = less32 s.0 next.0 in go (eqb x 0) refl (ltb x (2 ^ 31)) refl
  where
    go : (j : Bool) → eqb (less32 s.0 next.0) 0 ≡ j → (g : Bool) → ltb (less32 s.0 next.0) (2 ^ 31) ≡ g →
        Far (standing_by j g (less32 s.0 next.0) (2 ^ 32 - less32 s.0 next.0)) (less32 s.0 next.0) (less32 next.0 s.0)
    go true e g f = tt
    go false e true f = let n : less32 s.0 next.0 ≡ 0 → ⊥ = eqb-false (less32 s.0 next.0) 0 e in (refl, omega arith)
    go false e false f = other_way s.0 next.0 small (ltb-false (less32 s.0 next.0) (2 ^ 31) f)

-- ---- an outcome

pub record Told (o : Outcome) (ahead behind : ℕ) : Type 0 where
  pub distance : answer_distance o ≡ distance_with (answer_number o) ahead behind
  pub some : ltb 0 (answer_distance o) ≡ is_apart (answer_number o)

module _ (a b : ℕ) where
  pub open_told : (h : Head) (t : Tick) → Told (open_outcome h t) a b
  unfolding open_outcome
  open_told h t = go (head_held h && tick_held t)
    where
      go : (c : Bool) → Told (cond c (Ok tt) (Err refusal.OverLimit)) a b
      go true = record { distance = refl; some = refl }
      go false = record { distance = refl; some = refl }

  -- nothing that is judged behind the start is a gap or an overlap
  fit_told : (rec : Record) (ws : List ℕ) (d n : ℕ) → Told (fit_outcome rec ws d n) a b
  unfolding fit_outcome room_outcome
  fit_told rec ws d n =
      go (leb (rec.next.0 + d * n) largest_tick) (counts_held rec.head.first.0 (rec.accepted + n))
      (every (λ r. before_end rec.head r.start.0) (given rec d n))
      (leb (runs_for (unspent_of rec ws d n)) (capacity ws))
    where
      go : (t c e r : Bool) →
          Told
          (cond t
          (cond c (cond e (cond r (Ok tt) (Err refusal.NoRunLeft)) (Err refusal.PastEnd)) (Err refusal.CountLimit))
          (Err refusal.TickLimit))
          a b
      go false c e r = record { distance = refl; some = refl }
      go true false e r = record { distance = refl; some = refl }
      go true true false r = record { distance = refl; some = refl }
      go true true true false = record { distance = refl; some = refl }
      go true true true true = record { distance = refl; some = refl }

  unjoined_told : (st : Standing) (o : Outcome) → Far st a b → Told o a b → Told (unjoined st else o) a b
  unjoined_told Joins o f t = t
  unjoined_told (Gap d) o f t = record { distance = f.0; some = lt-ltb 0 d.0 f.1 }
  unjoined_told (Overlap d) o f t = record { distance = f.0; some = lt-ltb 0 d.0 f.1 }

  module _ (rec : Record) (ws : List ℕ) (st : Standing) (d n : ℕ) (f : Far st a b) where
    pub append_told : Told (append_outcome rec ws st d n) a b
    unfolding append_outcome
    append_told = go (agrees rec ws) (eqb d 0 || eqb n 0) (unjoined_told st (fit_outcome rec ws d n) f (fit_told rec ws d n))
      where
        go : (s z : Bool) {o : Outcome} → Told o a b → Told (cond s (cond z (Err refusal.NothingGiven) o) (Err refusal.Disagreement)) a b
        go false z t = record { distance = refl; some = refl }
        go true true t = record { distance = refl; some = refl }
        go true false t = t

    pub pair_told : (c : WideMillis) → Told (pair_outcome rec ws st d n c) a b
    unfolding pair_outcome
    pair_told c = go (agrees rec ws) (clock_held c) append_told
      where
        go : (s h : Bool) {o : Outcome} → Told o a b → Told (cond s (cond h o (Err refusal.ClockLimit)) (Err refusal.Disagreement)) a b
        go false h t = record { distance = refl; some = refl }
        go true false t = record { distance = refl; some = refl }
        go true true t = t

    pub reach_told : Told (reach_outcome rec ws st d n) a b
    unfolding reach_outcome
    reach_told =
        first (eqb d 0)
        (unjoined_told st _ f (behind (end_known rec.head) (before_end rec.head rec.next.0) (fit_told rec ws d n)))
      where
        behind : (k e : Bool) {o : Outcome} → Told o a b → Told (cond k (cond e o (Err refusal.PastEnd)) (Err refusal.NoEndToReach)) a b
        behind false e t = record { distance = refl; some = refl }
        behind true false t = record { distance = refl; some = refl }
        behind true true t = t

        first : (z : Bool) {o : Outcome} → Told o a b → Told (cond z (Err refusal.NothingGiven) o) a b
        first true t = record { distance = refl; some = refl }
        first false t = t
