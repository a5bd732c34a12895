-- How big the hole is. A start that does not join tells how far it lies from the next tick: a full tick that leaves a gap is the next tick
-- plus the distance, and one that overlaps is the next tick less the distance. Of a stamp the distance is known modulo 2^32, in the direction that
-- is told. The distance is never 0, it comes with 4 and 5 and with no other number, and append, reading and program pass it on unchanged.
-- Paper: Append and trim; Refusal numbers, 4 and 5; document 02, W-205.
use Rattle.std.specs.Prelude.{None, Some, Ok, Err, ℕ, ◌+◌, ◌^◌, ◌%◌, ◌≤◌, ◌<◌, ◌≡◌, true, List, [], ◌∷◌, ◌++◌, ltb, replicate}
use Rattle.units.specs.declared.Distance.{Distance}
use Rattle.units.specs.declared.Stamp.{Stamp}
use Rattle.units.specs.declared.Tick.{Tick}
use Rattle.units.specs.declared.WideMillis.{WideMillis}
use Rattle.units.specs.declared.WideTick.{WideTick}
use Rattle.units.specs.declared.standing.Standing.TheVariants.{Gap, Overlap}
use Rattle.units.specs.Exactly.{ExactlyWhen}
use Rattle.units.specs.Standing.{tick_standing, stamp_standing}
use Rattle.agreement.specs.declared.Record.{Record}
use Rattle.agreement.specs.declared.refusal.Refusal.TheVariants.{NothingGiven}
use Rattle.agreement.specs.Agreement.{agrees}
use Rattle.keeping.specs.Keeping.{Outcome}
use Rattle.agreement.specs.Numbers.{answer_distance, answer_number}
use Rattle.timeline.specs.Opening.{zero_record}
use Rattle.timeline.specs.Appending.{append_answer}
use Rattle.timeline.specs.Pair.{pair_answer}
use Rattle.frames.specs.declared.SFields.{SFields}
use Rattle.frames.specs.declared.Frame.TheVariants.{S}
use Rattle.hexdigits.specs.Ascii.{ascii}
use Rattle.file.specs.Judging.{read_answer}
use Rattle.lookups.specs.Stamps.{full_tick_in}
use Rattle.laws.specs.Calls.{State, opening}
use Rattle.laws.specs.Refusals.{lowest, is_apart}
use Rattle.laws.specs.Lines.{Sofar, is_first, s_rows, line_distance}
use Rattle.laws.specs.ByHand.{tick, stamp, apart, gap_by, overlap_by, full, appending, append_of, stamp_of, head_c, both_a, open_b}

-- ---- by hand

-- one reference of one tick from tick 0, in a period whose end is not known
abbrev pub one_tick : State
one_tick = appending (opening head_c (tick 0) (full 3)) 0 1 1

-- the same as a file, with an S line behind it whose t is 2^64 - 2 and whose r is -1
abbrev pub file_far : List ℕ
file_far =
    ascii "01000003e8000000000000000000000000000000000000000000000000000000000000000000000000" ++
    10 ∷
    ascii "0200000000000000000000000100000000" ++
    10 ∷
    ascii "02fffffffffffffffe00000001ffffffff" ++
    10 ∷
    ascii "0300000002" ++
    10 ∷
    []

-- an outcome has a distance, 1 at least, exactly with 4 and with 5
abbrev pub OnlyApart : Outcome → Type 0
OnlyApart o = ltb 0 (answer_distance o) ≡ is_apart (answer_number o)

-- a stamp is one of 32 bits, as its type says
pub record DistanceRight : Type 0 where
  -- a full tick: a gap by so much lies so much after the next tick, and an overlap so much before it
  pub tick_gap : (start : WideTick) (next : Tick) (d : Distance) →
      ExactlyWhen (tick_standing start next ≡ Gap d) ((start.0 ≡ next.0 + d.0) × (1 ≤ d.0))
  pub tick_overlap : (start : WideTick) (next : Tick) (d : Distance) →
      ExactlyWhen (tick_standing start next ≡ Overlap d) ((start.0 + d.0 ≡ next.0) × (1 ≤ d.0))
  -- a stamp: the same modulo 2^32, a gap by less than 2^31 and an overlap by 2^31 at most
  pub stamp_gap : (s : Stamp) (next : Tick) (d : Distance) → s.0 < 2 ^ 32 →
      ExactlyWhen (stamp_standing s next ≡ Gap d) ((s.0 ≡ (next.0 + d.0) % 2 ^ 32) × (1 ≤ d.0) × (d.0 < 2 ^ 31))
  pub stamp_overlap : (s : Stamp) (next : Tick) (d : Distance) → s.0 < 2 ^ 32 →
      ExactlyWhen (stamp_standing s next ≡ Overlap d) (((s.0 + d.0) % 2 ^ 32 ≡ next.0 % 2 ^ 32) × (1 ≤ d.0) × (d.0 ≤ 2 ^ 31))
  -- within half a circle of the next tick the stamp of a full tick tells the direction and the distance of that tick
  pub within : (start : WideTick) (next : Tick) → next.0 ≤ start.0 + 2 ^ 31 → start.0 < next.0 + 2 ^ 31 →
      stamp_standing (stamp (start.0 % 2 ^ 32)) next ≡ tick_standing start next
  -- and 2^31 after it no longer: the tick leaves a gap, its stamp overlaps
  pub half : (start : WideTick) (next : Tick) → start.0 ≡ next.0 + 2 ^ 31 →
      (tick_standing start next ≡ Gap (apart (2 ^ 31))) × (stamp_standing (stamp (start.0 % 2 ^ 32)) next ≡ Overlap (apart (2 ^ 31)))
  -- a stamp's overlap whose distance passes the next tick names no tick at all
  pub no_tick : (rec : Record) (ws : List ℕ) (s : Stamp) (d : Distance) → s.0 < 2 ^ 32 → agrees rec ws ≡ true →
      stamp_standing s rec.next ≡ Overlap d → rec.next.0 < d.0 → full_tick_in rec ws s ≡ Ok None
  -- a distance comes with 4 and 5 alone: of an append by full tick, by stamp, with a trim behind it, and of reading any file. Which one it is
  -- stands in `Refusals` (append_distance, stamp_distance, pair_distance) and in `ReadingRight` (distance)
  pub append : (rec : Record) (ws : List ℕ) (start : WideTick) (d n : ℕ) → OnlyApart (append_answer rec ws (tick_standing start rec.next) d n).outcome
  pub append_stamp : (rec : Record) (ws : List ℕ) (s : Stamp) (d n : ℕ) → s.0 < 2 ^ 32 →
      OnlyApart (append_answer rec ws (stamp_standing s rec.next) d n).outcome
  pub append_trim : (rec : Record) (ws : List ℕ) (s : Stamp) (d n : ℕ) (c : WideMillis) → s.0 < 2 ^ 32 →
      OnlyApart (pair_answer rec ws (stamp_standing s rec.next) d n c).outcome
  pub read : (bytes came : List ℕ) → OnlyApart (read_answer bytes came).outcome
  -- the first S of a file has none: it opens the timeline where it starts
  pub first : (came : List ℕ) (x : Sofar) (s : SFields) → is_first x ≡ true → line_distance came x (Some (S s)) (lowest (s_rows came x s)) ≡ 0
  -- A: a duration of 0 comes first, and has no distance; and a start before the next tick
  pub a_none : append_of both_a 170 0 1 ≡ Err NothingGiven
  pub a_overlap : append_of both_a 151 10 1 ≡ overlap_by 10
  -- B: the stamp before tick 0 overlaps by 1, and there is no tick that it names
  pub b_below : stamp_of open_b 4_294_967_295 4000 1 ≡ overlap_by 1
  pub b_nowhere : full_tick_in open_b.rec open_b.words (stamp 4_294_967_295) ≡ Ok None
  -- full ticks are subtracted as numbers of 64 bits, and a negative r that leaves a gap is 4 before it is 18
  pub far : append_of one_tick 18_446_744_073_709_551_614 1 1 ≡ gap_by 18_446_744_073_709_551_613
  pub far_file : read_answer file_far (replicate 3 0) ≡ record { outcome = gap_by 18_446_744_073_709_551_613; rec = zero_record; line = 3 }
