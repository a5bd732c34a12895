-- A negative r: the code's tests of it are the rows, in their own order.
use mathlib.Core.Path.{◌≡◌, refl, sym, ap, ap₂, ◌∙◌}
use mathlib.Core.Bool.{Bool, true, false, cond, not, ◌||◌}
use mathlib.Core.List.{List, [], ◌∷◌}
use Prim.Native.Nat.{ℕ, zero, suc, ◌+◌, ◌-◌, ◌*◌, ◌^◌, ◌≤◌, ◌<◌}
use native.Mathlib.Nat.{le_refl}
use native.Mathlib.Omega.{arith}
use borrow.Author.Tests.{leb-false, lt-ltb, le-ltb, eq-eqb, ne_eqb, eqb-false}
use lib.Dec.{eqb, ltb}
use Rattle.units.specs.declared.WideTick.{WideTick}
use Rattle.units.specs.declared.standing.Standing.{Standing}
use Rattle.units.specs.declared.standing.Standing.TheVariants.{Joins, Gap, Overlap}
use Rattle.units.specs.Limits.{largest_tick, largest_span, largest_number}
use Rattle.units.specs.Standing.{standing_by, standing_number, tick_standing}
use Rattle.window.specs.declared.Head.{Head}
use Rattle.window.specs.Place.{end_known, before_end}
use Rattle.window.specs.Ticks.{reaches_end, LeastCount}
use Rattle.window.proofs.Division.{reaches_is}
use Rattle.window.proofs.Unsigned.{end_at, before_is}
use Rattle.runs.specs.Words.{repeated}
use Rattle.agreement.specs.declared.refusal.Refusal.TheVariants as refusal
use Rattle.agreement.specs.Agreement.{agrees}
use Rattle.std.specs.Prelude.{Err}
use Rattle.keeping.specs.Keeping.{Outcome}
use Rattle.agreement.specs.Numbers.{answer_number}
use Rattle.keeping.specs.Append.{fit_outcome}
use Rattle.keeping.proofs.Outcomes.{outcome_beside as told}
use Rattle.timeline.specs.Appending.{unjoined◌else◌, append_outcome}
use Rattle.timeline.proofs.Judged.{stands_joins}
use Rattle.file.specs.Least.{least_count}
use Rattle.file.specs.Judging.{reach_outcome}
use Rattle.file.proofs.Counts.{least_holds}
use Rattle.laws.specs.Calls.{State}
use Rattle.laws.specs.Refusals.{lowest, some, starts_past, no_run_left}
use Rattle.laws.specs.Lines.{reach_rows}
use Rattle.laws.proofs.Changing.{append, gap_is, overlap_is, after, before}

-- ---- the tests

-- one reference at least is given, and the first of them starts at the next tick
past_first : (h : Head) (s d n : ℕ) → 1 ≤ n → before_end h s ≡ false → some (λ r. not (before_end h r.start.0)) (repeated s d n) ≡ true
unfolding some repeated
past_first h s d zero l e = let z : ⊥ = omega arith in absurd z
past_first h s d (suc n) l e = ap (λ b. not b || some (λ r. not (before_end h r.start.0)) (repeated (s + d) d n)) e

-- what starts before the last of them reaches the end starts before the end
before_unless : (h : Head) (k : ℕ) → reaches_end h k ≡ false → before_end h k ≡ true
before_unless h k e = before_is h k ∙ go (end_known h)
  where
    short : k * 1000 < h.offset.0 * 1000 + end_at h
    short = let l = leb-false (end_at h + h.offset.0 * 1000) (k * 1000) (sym (reaches_is h k) ∙ e) in omega arith

    go : (b : Bool) → cond b (ltb (k * 1000) (h.offset.0 * 1000 + end_at h)) true ≡ true
    go true = lt-ltb (k * 1000) (h.offset.0 * 1000 + end_at h) short
    go false = refl

none_past : (h : Head) (s d n : ℕ) → ((m : ℕ) → m < n → before_end h (s + d * m) ≡ true) → some (λ r. not (before_end h r.start.0)) (repeated s d n) ≡ false
unfolding some repeated
none_past h s d zero f = refl
none_past h s d (suc n) f =
    ap₂ (λ a b. not a || b) (ap (before_end h) (omega arith) ∙ f 0 (omega arith))
    (none_past h (s + d) d n (λ m l. ap (before_end h) (omega arith) ∙ f (suc m) (omega arith)))

-- the least count of references has none that starts past the end, where the first does not
least_before : (h : Head) (s d n : ℕ) → before_end h s ≡ true → LeastCount h s d n → (m : ℕ) → m < n → before_end h (s + d * m) ≡ true
least_before h s d n b l zero k = ap (before_end h) (omega arith) ∙ b
least_before h s d n b l (suc m) k = before_unless h (s + d * suc m) (l.least (suc m) (omega arith) k)

-- the tests one after the other, by what the last of them come to
by_tests : (z k f : Bool) (st : Standing) (o : Outcome) (ahead behind past : Bool) (rows : List (Bool × ℕ)) →
    eqb (standing_number st) 4 ≡ ahead → eqb (standing_number st) 5 ≡ behind → (z ≡ false → f ≡ false → past ≡ true) →
    (z ≡ false → k ≡ false → f ≡ true → answer_number o ≡ lowest ((past, 8) ∷ rows)) →
    answer_number (cond z (Err refusal.NothingGiven) (unjoined st else cond (not k) (cond f o (Err refusal.PastEnd)) (Err refusal.NoEndToReach))) ≡
    lowest ((z, 3) ∷ (ahead, 4) ∷ (behind, 5) ∷ (k, 18) ∷ (past, 8) ∷ rows)
by_tests true k f st o ahead behind past rows a b p q = refl
by_tests false k f (Gap d) o ahead behind past rows a b p q = ap (λ t. lowest ((t, 4) ∷ (behind, 5) ∷ (k, 18) ∷ (past, 8) ∷ rows)) a
by_tests false k f (Overlap d) o ahead behind past rows a b p q = ap₂ (λ t u. lowest ((t, 4) ∷ (u, 5) ∷ (k, 18) ∷ (past, 8) ∷ rows)) a b
by_tests false true f Joins o ahead behind past rows a b p q = ap₂ (λ t u. lowest ((t, 4) ∷ (u, 5) ∷ (true, 18) ∷ (past, 8) ∷ rows)) a b
by_tests false false false Joins o ahead behind past rows a b p q =
    ap (λ t. lowest ((t, 8) ∷ rows)) (sym (p refl refl)) ∙ ap₂ (λ t u. lowest ((t, 4) ∷ (u, 5) ∷ (past, 8) ∷ rows)) a b
by_tests false false true Joins o ahead behind past rows a b p q =
    q refl refl refl ∙ ap₂ (λ t u. lowest ((t, 4) ∷ (u, 5) ∷ (past, 8) ∷ rows)) a b

-- where 2 to 5 and 8 do not hold, 8 may stand before 6
eight_first : (a z u v e c b x : Bool) → a ≡ true → z ≡ false → u ≡ false → v ≡ false → b ≡ false →
    lowest ((not a, 2) ∷ (z, 3) ∷ (u, 4) ∷ (v, 5) ∷ (e, 6) ∷ (c, 7) ∷ (b, 8) ∷ (x, 9) ∷ []) ≡ lowest ((b, 8) ∷ (e, 6) ∷ (c, 7) ∷ (x, 9) ∷ [])
eight_first a z u v e c b x p q r s t =
    ap₂ (λ a z. lowest ((not a, 2) ∷ (z, 3) ∷ (u, 4) ∷ (v, 5) ∷ (e, 6) ∷ (c, 7) ∷ (b, 8) ∷ (x, 9) ∷ [])) p q ∙
    ap₂ (λ u v. lowest ((u, 4) ∷ (v, 5) ∷ (e, 6) ∷ (c, 7) ∷ (b, 8) ∷ (x, 9) ∷ [])) r s ∙
    ap (λ b. lowest ((e, 6) ∷ (c, 7) ∷ (b, 8) ∷ (x, 9) ∷ [])) t ∙
    sym (ap (λ b. lowest ((b, 8) ∷ (e, 6) ∷ (c, 7) ∷ (x, 9) ∷ [])) t)

module _ (x : State) (start : WideTick) (d : ℕ) (agreed : agrees x.rec x.words ≡ true) (narrow : d ≤ largest_span) where
  abbrev counted : ℕ
  counted = least_count x.rec.head x.rec.next.0 d

  -- the conditions of 6, 7 and 9
  abbrev six : Bool
  six = ltb largest_tick (x.rec.next.0 + d * counted)

  abbrev seven : Bool
  seven = ltb (2 ^ 31) (x.rec.accepted + counted) || ltb largest_number (x.rec.head.first.0 + (x.rec.accepted + counted))

  abbrev nine : Bool
  nine = no_run_left x.rec x.words d counted

  lasting : eqb d 0 ≡ false → 1 ≤ d
  lasting e = omega (arith, eqb-false d 0 e)

  module _ (z : eqb d 0 ≡ false) where
    count_is : LeastCount x.rec.head x.rec.next.0 d counted
    count_is = least_holds x.rec.head x.rec.next.0 d (lasting z)

    pub rows_past : before_end x.rec.head x.rec.next.0 ≡ false → starts_past x.rec d counted ≡ true
    rows_past f = past_first x.rec.head x.rec.next.0 d counted count_is.some f

    module _ (k : eqb x.rec.head.duration.0 0 ≡ false) (f : before_end x.rec.head x.rec.next.0 ≡ true) where
      rows_before : starts_past x.rec d counted ≡ false
      rows_before =
          none_past x.rec.head x.rec.next.0 d counted (least_before x.rec.head x.rec.next.0 d counted f count_is)

      -- it is an append that joins, from 6 on
      rows_fit : answer_number (fit_outcome x.rec x.words d counted) ≡
          lowest ((starts_past x.rec d counted, 8) ∷ (six, 6) ∷ (seven, 7) ∷ (nine, 9) ∷ [])
      rows_fit =
          let next = x.rec.next.0 in
          let self : WideTick = record { 0 = next } in
          let none : eqb counted 0 ≡ false = ne_eqb counted 0 (λ e. let w : ⊥ = omega (arith, count_is.some) in w) in
          let joined : tick_standing self x.rec.next ≡ Joins = ap (λ b. standing_by b (ltb next next) (next - next) (next - next)) (eq-eqb next next refl) in
          let still : ltb next next ≡ false = le-ltb next next (le_refl next) in
          ap answer_number
          (sym
          (told (append_outcome x.rec x.words (tick_standing self x.rec.next) d counted) _ _ ∙
          stands_joins x.rec x.words (tick_standing self x.rec.next) d counted agreed (eqb-false d 0 z) (eqb-false counted 0 none) joined)) ∙
          append x.rec x.words d counted narrow self ∙
          eight_first (agrees x.rec x.words) (eqb d 0 || eqb counted 0) (ltb next next) (ltb next next) six seven (starts_past x.rec d counted) nine
          agreed (ap₂ ◌||◌ z none) still still rows_before

  pub reach_number : answer_number (reach_outcome x.rec x.words (tick_standing start x.rec.next) d (least_count x.rec.head x.rec.next.0 d)) ≡
      lowest (reach_rows x start.0 d (least_count x.rec.head x.rec.next.0 d))
  unfolding reach_outcome
  reach_number =
      let next = x.rec.next.0 in
      by_tests (eqb d 0) (eqb x.rec.head.duration.0 0) (before_end x.rec.head next) (tick_standing start x.rec.next)
      (fit_outcome x.rec x.words d counted) (ltb next start.0) (ltb start.0 next) (starts_past x.rec d counted)
      ((six, 6) ∷ (seven, 7) ∷ (nine, 9) ∷ [])
      (gap_is _ _ (eqb start.0 next) (ltb next start.0) ∙ after start.0 next)
      (overlap_is _ _ (eqb start.0 next) (ltb next start.0) ∙ before start.0 next)
      rows_past
      rows_fit
