-- Given exactly when. A call is a table with a row for each of its numbers, in the words of the paper's column, and gives the number of the first
-- row whose condition holds, and 0 where none does, for any record, table and arguments: so it refuses what it should, and nothing else. The rows
-- stand in the order of their numbers, but for an append with a trim behind it, which has 10 before 3. An append's duration is one of 32 bits, as
-- its type says. With 4 and with 5 comes how far the start lies from the next tick, and with no other number. The rows of a file's lines stand
-- in Lines. Paper: Refusal numbers; document 02, W-208.
use Rattle.std.specs.Prelude.{ℕ, ◌+◌, ◌-◌, ◌*◌, ◌^◌, ◌≤◌, ◌<◌, ◌≡◌, Bool, false, cond, not, ◌&&◌, ◌||◌, List, [], ◌∷◌, eqb, leb, ltb, length}
use Rattle.units.specs.declared.Tick.{Tick}
use Rattle.units.specs.declared.WideTick.{WideTick}
use Rattle.units.specs.declared.Stamp.{Stamp}
use Rattle.units.specs.declared.WideMillis.{WideMillis}
use Rattle.units.specs.declared.WideNumber.{WideNumber}
use Rattle.units.specs.Limits.{largest_tick, largest_span, largest_millis, largest_timescale, largest_number}
use Rattle.units.specs.Standing.{less32, tick_standing, stamp_standing}
use Rattle.window.specs.declared.Head.{Head}
use Rattle.window.specs.declared.Reference.{Reference}
use Rattle.window.specs.Place.{before_end}
use Rattle.runs.specs.Words.{capacity}
use Rattle.runs.specs.Encoding.{needs_run}
use Rattle.agreement.specs.declared.Record.{Record}
use Rattle.agreement.specs.Agreement.{agrees}
use Rattle.keeping.specs.Keeping.{unspent}
use Rattle.keeping.specs.Append.{given}
use Rattle.timeline.specs.Opening.{open_answer}
use Rattle.timeline.specs.Appending.{append_answer}
use Rattle.timeline.specs.Trimming.{trim_answer}
use Rattle.timeline.specs.Pair.{pair_answer}
use Rattle.answers.specs.Judgement.{verdict_at, verdict_whole}
use Rattle.answers.specs.Edge.{covered_edge}
use Rattle.agreement.specs.Numbers.{answer_distance, answer_number}
use Rattle.lookups.specs.Available.{availability_in, available_in}
use Rattle.lookups.specs.Stamps.{full_tick_in}
use Rattle.lookups.specs.Spans.{touching_words}
use Rattle.writing.specs.Writing.{file_for, write_answer}

-- the number of the first row whose condition holds, 0 where none does
abbrev pub lowest : List (Bool × ℕ) → ℕ
lowest [] = 0
lowest (row ∷ rows) = cond row.0 row.1 (lowest rows)

-- the numbers of a gap and of an overlap
abbrev pub is_apart : ℕ → Bool
is_apart number = eqb number 4 || eqb number 5

-- the distance that comes with a number, of a start that lies so far after the next tick or so far before it; 0 where none comes
abbrev pub distance_with : ℕ → ℕ → ℕ → ℕ
distance_with number after before = cond (eqb number 4) after (cond (eqb number 5) before 0)

-- whether one of them at least passes a test
unfoldable pub some : (Reference → Bool) → List Reference → Bool
some t [] = false
some t (r ∷ rs) = t r || some t rs

-- ---- the calls that change

-- 1: a head field, the first tick or the offset is over its limit, or the timescale is 0
abbrev pub over_limit : Head → Tick → Bool
over_limit h t =
    ((eqb h.timescale.0 0 || ltb largest_timescale h.timescale.0) || ltb largest_tick h.offset.0 || ltb largest_millis h.start.0 ||
    ltb largest_millis h.duration.0 || ltb largest_millis h.depth.0 || ltb largest_number h.first.0 || ltb largest_millis h.update.0) ||
    ltb largest_tick t.0

-- 8: a reference starts at or after a known period end
abbrev pub starts_past : Record → ℕ → ℕ → Bool
starts_past rec d n = some (λ r. not (before_end rec.head r.start.0)) (given rec d n)

-- 9: a part is stored, it needs a new run, and used runs equal capacity
abbrev pub no_run_left : Record → List ℕ → ℕ → ℕ → Bool
no_run_left rec ws d n =
    ltb 0 (length (unspent rec.head rec.clock.0 (given rec d n))) && (needs_run rec.used ws d && eqb rec.used (capacity ws))

-- what an append gives, by whether its start lies after or before the next tick
abbrev pub given_rows : Record → List ℕ → Bool → Bool → ℕ → ℕ → List (Bool × ℕ)
given_rows rec ws after before d n =
    (eqb d 0 || eqb n 0, 3) ∷
    (after, 4) ∷
    (before, 5) ∷
    (ltb largest_tick (rec.next.0 + d * n), 6) ∷
    (ltb (2 ^ 31) (rec.accepted + n) || ltb largest_number (rec.head.first.0 + (rec.accepted + n)), 7) ∷
    (starts_past rec d n, 8) ∷
    (no_run_left rec ws d n, 9) ∷
    []

abbrev pub append_rows : Record → List ℕ → Bool → Bool → ℕ → ℕ → List (Bool × ℕ)
append_rows rec ws after before d n = (not (agrees rec ws), 2) ∷ given_rows rec ws after before d n

-- an append by full tick
abbrev pub append_tick_rows : Record → List ℕ → WideTick → ℕ → ℕ → List (Bool × ℕ)
append_tick_rows rec ws start d n = append_rows rec ws (ltb rec.next.0 start.0) (ltb start.0 rec.next.0) d n

-- of a stamp: stamp less next tick, modulo 2^32, is a gap from 1 to 2^31 - 1, and from 2^31 on an overlap
abbrev pub stamp_after : Record → Stamp → Bool
stamp_after rec stamp = ltb 0 (less32 stamp.0 rec.next.0) && ltb (less32 stamp.0 rec.next.0) (2 ^ 31)

abbrev pub stamp_before : Record → Stamp → Bool
stamp_before rec stamp = leb (2 ^ 31) (less32 stamp.0 rec.next.0)

-- an append by stamp
abbrev pub append_stamp_rows : Record → List ℕ → Stamp → ℕ → ℕ → List (Bool × ℕ)
append_stamp_rows rec ws stamp d n = append_rows rec ws (stamp_after rec stamp) (stamp_before rec stamp) d n

abbrev pub open_rows : Head → Tick → List (Bool × ℕ)
open_rows h t = (over_limit h t, 1) ∷ []

abbrev pub trim_rows : Record → List ℕ → WideMillis → List (Bool × ℕ)
trim_rows rec ws c = (not (agrees rec ws), 2) ∷ (ltb largest_millis c.0, 10) ∷ []

-- an append by stamp and then a trim: the clock comes before what is given
abbrev pub pair_rows : Record → List ℕ → Stamp → ℕ → ℕ → WideMillis → List (Bool × ℕ)
pair_rows rec ws stamp d n c =
    (not (agrees rec ws), 2) ∷ (ltb largest_millis c.0, 10) ∷ given_rows rec ws (stamp_after rec stamp) (stamp_before rec stamp) d n

-- ---- the calls that look

abbrev pub verdict_rows : Record → List ℕ → WideMillis → List (Bool × ℕ)
verdict_rows rec ws c = (not (agrees rec ws), 2) ∷ (ltb largest_millis c.0, 10) ∷ (ltb c.0 rec.clock.0, 11) ∷ []

abbrev pub whole_rows : Record → List ℕ → List (Bool × ℕ)
whole_rows rec ws = (not (agrees rec ws), 2) ∷ (eqb rec.head.duration.0 0, 19) ∷ []

-- 13: the number lies before the first kept reference's or after the last one's
abbrev pub not_kept : Record → WideNumber → Bool
not_kept rec n = ltb n.0 (rec.head.first.0 + rec.dropped) || leb (rec.head.first.0 + rec.accepted) n.0

abbrev pub availability_rows : Record → List ℕ → WideNumber → List (Bool × ℕ)
availability_rows rec ws n = (not (agrees rec ws), 2) ∷ (not_kept rec n, 13) ∷ []

abbrev pub available_rows : Record → List ℕ → WideNumber → WideMillis → List (Bool × ℕ)
available_rows rec ws n c = (not (agrees rec ws), 2) ∷ (ltb largest_millis c.0, 10) ∷ (not_kept rec n, 13) ∷ []

abbrev pub full_tick_rows : Record → List ℕ → List (Bool × ℕ)
full_tick_rows rec ws = (not (agrees rec ws), 2) ∷ []

abbrev pub touching_rows : Record → List ℕ → WideTick → WideTick → List (Bool × ℕ)
touching_rows rec ws a b = (not (agrees rec ws), 2) ∷ (leb b.0 a.0, 14) ∷ []

abbrev pub edge_rows : Record → List ℕ → List (Bool × ℕ)
edge_rows rec ws = (not (agrees rec ws), 2) ∷ []

abbrev pub write_rows : Record → List ℕ → ℕ → List (Bool × ℕ)
write_rows rec ws room = (not (agrees rec ws), 2) ∷ (eqb rec.used 0, 12) ∷ (ltb room (length (file_for rec ws)), 15) ∷ []

-- the table of every call but those that read a file
pub record Refusals : Type 0 where
  pub opening : (h : Head) (t : Tick) → answer_number (open_answer h t).outcome ≡ lowest (open_rows h t)
  pub append : (rec : Record) (ws : List ℕ) (start : WideTick) (d n : ℕ) → d ≤ largest_span →
      answer_number (append_answer rec ws (tick_standing start rec.next) d n).outcome ≡ lowest (append_tick_rows rec ws start d n)
  pub append_stamp : (rec : Record) (ws : List ℕ) (stamp : Stamp) (d n : ℕ) → d ≤ largest_span →
      answer_number (append_answer rec ws (stamp_standing stamp rec.next) d n).outcome ≡ lowest (append_stamp_rows rec ws stamp d n)
  -- the distance of a full tick is the difference, and that of a stamp the difference modulo 2^32
  pub append_distance : (rec : Record) (ws : List ℕ) (start : WideTick) (d n : ℕ) →
      let o = (append_answer rec ws (tick_standing start rec.next) d n).outcome in
      answer_distance o ≡ distance_with (answer_number o) (start.0 - rec.next.0) (rec.next.0 - start.0)
  pub stamp_distance : (rec : Record) (ws : List ℕ) (stamp : Stamp) (d n : ℕ) → stamp.0 < 2 ^ 32 →
      let o = (append_answer rec ws (stamp_standing stamp rec.next) d n).outcome in
      answer_distance o ≡ distance_with (answer_number o) (less32 stamp.0 rec.next.0) (less32 rec.next.0 stamp.0)
  -- an append and then a trim in one call
  pub append_trim : (rec : Record) (ws : List ℕ) (stamp : Stamp) (d n : ℕ) (c : WideMillis) → d ≤ largest_span →
      answer_number (pair_answer rec ws (stamp_standing stamp rec.next) d n c).outcome ≡ lowest (pair_rows rec ws stamp d n c)
  pub pair_distance : (rec : Record) (ws : List ℕ) (stamp : Stamp) (d n : ℕ) (c : WideMillis) → stamp.0 < 2 ^ 32 →
      let o = (pair_answer rec ws (stamp_standing stamp rec.next) d n c).outcome in
      answer_distance o ≡ distance_with (answer_number o) (less32 stamp.0 rec.next.0) (less32 rec.next.0 stamp.0)
  pub trim : (rec : Record) (ws : List ℕ) (c : WideMillis) → answer_number (trim_answer rec ws c).outcome ≡ lowest (trim_rows rec ws c)
  pub verdict : (rec : Record) (ws : List ℕ) (c : WideMillis) → answer_number (verdict_at rec ws c) ≡ lowest (verdict_rows rec ws c)
  pub verdict_whole_lem : (rec : Record) (ws : List ℕ) → answer_number (verdict_whole rec ws) ≡ lowest (whole_rows rec ws)
  pub availability : (rec : Record) (ws : List ℕ) (n : WideNumber) → answer_number (availability_in rec ws n) ≡ lowest (availability_rows rec ws n)
  pub available_at : (rec : Record) (ws : List ℕ) (n : WideNumber) (c : WideMillis) →
      answer_number (available_in rec ws n c) ≡ lowest (available_rows rec ws n c)
  pub full_tick_lem : (rec : Record) (ws : List ℕ) (stamp : Stamp) → answer_number (full_tick_in rec ws stamp) ≡ lowest (full_tick_rows rec ws)
  pub touching : (rec : Record) (ws : List ℕ) (a b : WideTick) → answer_number (touching_words rec ws a b) ≡ lowest (touching_rows rec ws a b)
  pub covered_edge_lem : (rec : Record) (ws : List ℕ) → answer_number (covered_edge rec ws) ≡ lowest (edge_rows rec ws)
  pub write : (rec : Record) (ws : List ℕ) (room : ℕ) → answer_number (write_answer rec ws room) ≡ lowest (write_rows rec ws room)
