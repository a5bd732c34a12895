-- The calls that change give the lowest number whose condition holds: their tests, one after the other, are the rows.
use Rattle.agreement.specs.Numbers.{answer_number}
use mathlib.Core.Path.{◌≡◌, refl, sym, ap, ap₂, ◌∙◌}
use mathlib.Core.Bool.{Bool, true, false, cond, not, ◌&&◌, ◌||◌, and-false}
use mathlib.Core.List.{List, [], ◌∷◌}
use Prim.Native.Nat.{ℕ, ◌+◌, ◌*◌, ◌^◌, ◌≤◌}
use native.Mathlib.Omega.{arith}
use borrow.Author.Tests.{ltb-true, ltb-false, leb-true, leb-false, lt-ltb, le-ltb, le-leb, ne_eqb, eqb-true, eqb-false}
use lib.Dec.{eqb, leb, ltb}
use Rattle.units.specs.declared.Tick.{Tick}
use Rattle.units.specs.declared.WideTick.{WideTick}
use Rattle.units.specs.declared.Stamp.{Stamp}
use Rattle.units.specs.declared.WideMillis.{WideMillis}
use Rattle.units.specs.declared.standing.Standing.{Standing}
use Rattle.units.specs.declared.standing.Standing.TheVariants.{Joins, Gap, Overlap}
use Rattle.units.specs.Limits.{largest_tick, largest_span, largest_millis, largest_timescale, largest_number, tick_held}
use Rattle.units.specs.Standing.{less32, standing_by, standing_number, tick_standing, stamp_standing}
use Rattle.window.specs.declared.Head.{Head}
use Rattle.window.specs.Limits.{head_held}
use Rattle.window.specs.Place.{before_end}
use Rattle.runs.specs.Words.{capacity}
use Rattle.runs.specs.Encoding.{runs_for}
use Rattle.agreement.specs.declared.Record.{Record}
use Rattle.agreement.specs.declared.refusal.Refusal.TheVariants as refusal
use Rattle.agreement.specs.Agreement.{every, counts_held, agrees}
use Rattle.std.specs.Prelude.{Err, Ok}
use Rattle.keeping.specs.Keeping.{Outcome, changed_by}
use Rattle.keeping.specs.Append.{given, unspent_of, room_outcome, fit_outcome}
use Rattle.keeping.specs.Steps.{Fitting}
use Rattle.keeping.proofs.Outcomes.{outcome_beside as told}
use Rattle.keeping.proofs.Stored.{room_exactly}
use Rattle.timeline.specs.Opening.{open_outcome, open_answer}
use Rattle.timeline.specs.Appending.{unjoined◌else◌, append_outcome, append_answer}
use Rattle.timeline.specs.Trimming.{trim_outcome, trim_answer}
use Rattle.timeline.specs.Pair.{pair_outcome, pair_answer}
use Rattle.timeline.proofs.Kept.{or_none}
use Rattle.laws.specs.Refusals.{lowest, over_limit, no_run_left, stamp_after, stamp_before, given_rows, append_rows, open_rows, trim_rows, pair_rows, append_tick_rows, append_stamp_rows}
use Rattle.laws.proofs.Rows.{Fails, over, none, either, not_every}

-- ---- opening and trimming

pub opening : (h : Head) (t : Tick) → answer_number (open_answer h t).outcome ≡ lowest (open_rows h t)
unfolding open_outcome
opening h t =
    ap answer_number (told (open_outcome h t) _ _) ∙
    by (head_held h && tick_held t) ∙
    ap (λ b. cond {A = ℕ} b 1 0) fails.is
  where
    fails : Fails (head_held h && tick_held t) (over_limit h t)
    fails =
        either
        (either
        (either
        (either
        (either
        (either (either (either (none h.timescale.0) (over h.timescale.0 largest_timescale)) (over h.offset.0 largest_tick)) (over h.start.0 largest_millis))
        (over h.duration.0 largest_millis))
        (over h.depth.0 largest_millis))
        (over h.first.0 largest_number))
        (over h.update.0 largest_millis))
        (over t.0 largest_tick)

    by : (b : Bool) → answer_number (cond {A = Outcome} b (Ok tt) (Err refusal.OverLimit)) ≡ cond (not b) 1 0
    by true = refl
    by false = refl

pub trim : (rec : Record) (ws : List ℕ) (c : WideMillis) →
    answer_number (trim_answer rec ws c).outcome ≡ lowest (trim_rows rec ws c)
unfolding trim_outcome
trim rec ws c =
    ap answer_number (told (trim_outcome rec ws c) _ _) ∙
    by (agrees rec ws) (leb c.0 largest_millis) ∙
    ap (λ b. cond {A = ℕ} (not (agrees rec ws)) 2 (cond b 10 0)) (over c.0 largest_millis).is
  where
    by : (a b : Bool) → answer_number (cond {A = Outcome} a (cond b (Ok tt) (Err refusal.ClockLimit)) (Err refusal.Disagreement)) ≡ cond (not a) 2 (cond (not b) 10 0)
    by true true = refl
    by true false = refl
    by false b = refl

-- ---- appending

module _ (rec : Record) (ws : List ℕ) (d n : ℕ) where
  ends : Bool
  ends = leb (rec.next.0 + d * n) largest_tick

  counts : Bool
  counts = counts_held rec.head.first.0 (rec.accepted + n)

  begins : Bool
  begins = every (λ r. before_end rec.head r.start.0) (given rec d n)

  room : Bool
  room = leb (runs_for (unspent_of rec ws d n)) (capacity ws)

  -- the rows as the definitions have them
  by_tests : (st : Standing) → answer_number (append_outcome rec ws st d n) ≡
      lowest
      ((not (agrees rec ws), 2) ∷ (eqb d 0 || eqb n 0, 3) ∷ (eqb (standing_number st) 4, 4) ∷ (eqb (standing_number st) 5, 5) ∷ (not ends, 6) ∷
      (not counts, 7) ∷ (not begins, 8) ∷ (not room, 9) ∷ [])
  unfolding append_outcome fit_outcome room_outcome ends counts begins room
  by_tests st = by (agrees rec ws) (eqb d 0 || eqb n 0) st ends counts begins room
    where
      by : (a z : Bool) (st : Standing) (e c b r : Bool) →
          answer_number
          (cond {A = Outcome} a
          (cond z (Err refusal.NothingGiven)
          (unjoined st else
          cond e (cond c (cond b (cond r (Ok tt) (Err refusal.NoRunLeft)) (Err refusal.PastEnd)) (Err refusal.CountLimit))
          (Err refusal.TickLimit)))
          (Err refusal.Disagreement)) ≡
          lowest
          ((not a, 2) ∷ (z, 3) ∷ (eqb (standing_number st) 4, 4) ∷ (eqb (standing_number st) 5, 5) ∷ (not e, 6) ∷ (not c, 7) ∷ (not b, 8) ∷ (not r, 9) ∷ [])
      by false z st e c b r = refl
      by true true st e c b r = refl
      by true false (Gap d) e c b r = refl
      by true false (Overlap d) e c b r = refl
      by true false Joins false c b r = refl
      by true false Joins true false b r = refl
      by true false Joins true true false r = refl
      by true false Joins true true true false = refl
      by true false Joins true true true true = refl

  -- what has passed every row but the last fits
  fitted : d ≤ largest_span → agrees rec ws ≡ true → (eqb d 0 || eqb n 0) ≡ false → ends ≡ true → counts ≡ true → Fitting rec ws (record { 0 = d }) n
  unfolding ends counts
  fitted narrow a z e c =
      let both = or_none (eqb d 0) (eqb n 0) z in
      record {
        agreed = a;
        held = ap₂ ◌&&◌ (le-leb 1 d (omega (arith, eqb-false d 0 both.0))) (le-leb d largest_span narrow);
        some = omega (arith, eqb-false n 0 both.1);
        ends = leb-true (rec.next.0 + d * n) largest_tick e;
        counts = c;
      }

  -- of two last rows that are alike wherever all before them pass, either will do
  lastly : (a z u v e c b x y : Bool) → (a ≡ true → z ≡ false → e ≡ true → c ≡ true → x ≡ y) →
      lowest ((not a, 2) ∷ (z, 3) ∷ (u, 4) ∷ (v, 5) ∷ (not e, 6) ∷ (not c, 7) ∷ (not b, 8) ∷ (x, 9) ∷ []) ≡
      lowest ((not a, 2) ∷ (z, 3) ∷ (u, 4) ∷ (v, 5) ∷ (not e, 6) ∷ (not c, 7) ∷ (not b, 8) ∷ (y, 9) ∷ [])
  lastly false z u v e c b x y k = refl
  lastly true true u v e c b x y k = refl
  lastly true false true v e c b x y k = refl
  lastly true false false true e c b x y k = refl
  lastly true false false false false c b x y k = refl
  lastly true false false false true false b x y k = refl
  lastly true false false false true true false x y k = refl
  lastly true false false false true true true x y k = ap (λ t. cond {A = ℕ} t 9 0) (k refl refl refl refl)

  by_words : d ≤ largest_span → (st : Standing) (after before : Bool) → eqb (standing_number st) 4 ≡ after → eqb (standing_number st) 5 ≡ before → (new old : Record) →
      answer_number (changed_by (append_outcome rec ws st d n) new old).outcome ≡ lowest (append_rows rec ws after before d n)
  unfolding ends counts begins room
  by_words narrow st after before f g new old =
      let z = eqb d 0 || eqb n 0 in
      ap answer_number (told (append_outcome rec ws st d n) new old) ∙
      by_tests st ∙
      ap₂
      (λ u v. lowest ((not (agrees rec ws), 2) ∷ (z, 3) ∷ (u, 4) ∷ (v, 5) ∷ (not ends, 6) ∷ (not counts, 7) ∷ (not begins, 8) ∷ (not room, 9) ∷ [])) f g ∙
      lastly (agrees rec ws) z after before ends counts begins (not room) (no_run_left rec ws d n)
      (λ a k e c. room_exactly rec ws (record { 0 = d }) n (fitted narrow a k e c)) ∙
      ap₂
      (λ e c. lowest
      ((not (agrees rec ws), 2) ∷ (z, 3) ∷ (after, 4) ∷ (before, 5) ∷ (e, 6) ∷ (c, 7) ∷ (not begins, 8) ∷ (no_run_left rec ws d n, 9) ∷ []))
      (over (rec.next.0 + d * n) largest_tick).is
      (either (over (rec.accepted + n) (2 ^ 31)) (over (rec.head.first.0 + (rec.accepted + n)) largest_number)).is ∙
      ap
      (λ b. lowest
      ((not (agrees rec ws), 2) ∷ (z, 3) ∷ (after, 4) ∷ (before, 5) ∷ (ltb largest_tick (rec.next.0 + d * n), 6) ∷
      (ltb (2 ^ 31) (rec.accepted + n) || ltb largest_number (rec.head.first.0 + (rec.accepted + n)), 7) ∷ (b, 8) ∷ (no_run_left rec ws d n, 9) ∷ []))
      (not_every (λ r. before_end rec.head r.start.0) (given rec d n)).is

-- how a start stands, by two tests
pub gap_is : (a b : ℕ) (joined ahead : Bool) → eqb (standing_number (standing_by joined ahead a b)) 4 ≡ (not joined && ahead)
gap_is a b true ahead = refl
gap_is a b false true = refl
gap_is a b false false = refl

pub overlap_is : (a b : ℕ) (joined ahead : Bool) → eqb (standing_number (standing_by joined ahead a b)) 5 ≡ (not joined && not ahead)
overlap_is a b true ahead = refl
overlap_is a b false true = refl
overlap_is a b false false = refl

module _ (start next : ℕ) where
  pub after : (not (eqb start next) && ltb next start) ≡ ltb next start
  after = go (ltb next start) refl
    where
      go : (t : Bool) → ltb next start ≡ t → (not (eqb start next) && t) ≡ t
      go true e = ap (λ b. not b && true) (ne_eqb start next (λ k. let l = ltb-true next start e in let w : ⊥ = omega arith in w))
      go false e = and-false (not (eqb start next))

  pub before : (not (eqb start next) && not (ltb next start)) ≡ ltb start next
  before = go (ltb start next) refl
    where
      go : (t : Bool) → ltb start next ≡ t → (not (eqb start next) && not (ltb next start)) ≡ t
      go true e =
          let l = ltb-true start next e in
          ap₂ (λ a b. not a && not b) (ne_eqb start next (λ k. let w : ⊥ = omega arith in w)) (le-ltb next start (omega arith))
      go false e = at (eqb start next) refl
        where
          at : (u : Bool) → eqb start next ≡ u → (not u && not (ltb next start)) ≡ false
          at true k = refl
          at false k = ap not (lt-ltb next start (omega (arith, ltb-false start next e, eqb-false start next k)))

module _ (rec : Record) (ws : List ℕ) (d n : ℕ) (narrow : d ≤ largest_span) where
  pub append : (start : WideTick) → answer_number (append_answer rec ws (tick_standing start rec.next) d n).outcome ≡
      lowest (append_tick_rows rec ws start d n)
  append start =
      by_words rec ws d n narrow (tick_standing start rec.next) (ltb rec.next.0 start.0) (ltb start.0 rec.next.0)
      (gap_is _ _ (eqb start.0 rec.next.0) (ltb rec.next.0 start.0) ∙ after start.0 rec.next.0)
      (overlap_is _ _ (eqb start.0 rec.next.0) (ltb rec.next.0 start.0) ∙ before start.0 rec.next.0)
      _ rec

  pub append_stamp : (stamp : Stamp) → answer_number (append_answer rec ws (stamp_standing stamp rec.next) d n).outcome ≡
      lowest (append_stamp_rows rec ws stamp d n)
  append_stamp stamp =
      let m = less32 stamp.0 rec.next.0 in
      by_words rec ws d n narrow (stamp_standing stamp rec.next) _ _
      (gap_is _ _ (eqb m 0) (ltb m (2 ^ 31)) ∙ ap (λ t. t && ltb m (2 ^ 31)) (some_is m))
      (overlap_is _ _ (eqb m 0) (ltb m (2 ^ 31)) ∙ far m)
      _ rec
    where
      some_is : (m : ℕ) → not (eqb m 0) ≡ ltb 0 m
      some_is m = go (eqb m 0) refl
        where
          go : (t : Bool) → eqb m 0 ≡ t → not t ≡ ltb 0 m
          go true e = sym (le-ltb 0 m (omega (arith, eqb-true m 0 e)))
          go false e = sym (lt-ltb 0 m (omega (arith, eqb-false m 0 e)))

      far : (m : ℕ) → (not (eqb m 0) && not (ltb m (2 ^ 31))) ≡ leb (2 ^ 31) m
      far m = go (leb (2 ^ 31) m) refl
        where
          go : (t : Bool) → leb (2 ^ 31) m ≡ t → (not (eqb m 0) && not (ltb m (2 ^ 31))) ≡ t
          go true e =
              let l = leb-true (2 ^ 31) m e in
              ap₂ (λ a b. not a && not b) (ne_eqb m 0 (λ k. let w : ⊥ = omega arith in w)) (le-ltb m (2 ^ 31) l)
          go false e = ap (λ b. not (eqb m 0) && not b) (lt-ltb m (2 ^ 31) (leb-false (2 ^ 31) m e)) ∙ and-false (not (eqb m 0))

-- ---- an append and then a trim

pub append_trim : (rec : Record) (ws : List ℕ) (stamp : Stamp) (d n : ℕ) (c : WideMillis) → d ≤ largest_span →
    answer_number (pair_answer rec ws (stamp_standing stamp rec.next) d n c).outcome ≡ lowest (pair_rows rec ws stamp d n c)
unfolding pair_outcome
append_trim rec ws stamp d n c narrow =
    ap answer_number (told (pair_outcome rec ws st d n c) _ _) ∙
    go (agrees rec ws) refl (leb c.0 largest_millis) ∙
    ap (λ b. lowest ((not (agrees rec ws), 2) ∷ (b, 10) ∷ rows)) (over c.0 largest_millis).is
  where
    st : Standing
    st = stamp_standing stamp rec.next

    rows : List (Bool × ℕ)
    rows = given_rows rec ws (stamp_after rec stamp) (stamp_before rec stamp) d n

    go : (a : Bool) → agrees rec ws ≡ a → (b : Bool) →
        answer_number (cond a (cond b (append_outcome rec ws st d n) (Err refusal.ClockLimit)) (Err refusal.Disagreement)) ≡
        lowest ((not a, 2) ∷ (not b, 10) ∷ rows)
    go false e b = refl
    go true e false = refl
    go true e true =
        sym (ap answer_number (told (append_outcome rec ws st d n) _ _)) ∙
        append_stamp rec ws d n narrow stamp ∙
        ap (λ a. lowest ((not a, 2) ∷ rows)) e
