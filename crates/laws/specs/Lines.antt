-- Which line of a file is refused, and with what. A line is refused with the number of the first row that holds: 16 where it is no line of a file or
-- one too many, 17 where its kind may not stand here, then by its fields. An S line stands for an append to the timeline as it is then, and the first
-- S opens that timeline; with 4 and 5 comes how far its start lies from the next tick. Lines are judged in order and the first refused one decides; a file that stops early, or in the middle of a line, is refused
-- at the line that it lacks. A refused file leaves a zero record and a zeroed table. Paper: The file; Refusal numbers, and the orders below the table.
use Rattle.std.specs.Prelude.{Option, Some, None, ℕ, ◌+◌, ◌-◌, ◌*◌, ◌^◌, Bool, false, cond, not, ◌&&◌, ◌||◌, List, [], ◌∷◌, map, eqb, leb, ltb, length, replicate}
use Rattle.units.specs.declared.Tick.{Tick}
use Rattle.units.specs.Limits.{largest_tick, largest_number}
use Rattle.window.specs.declared.Head.{Head}
use Rattle.agreement.specs.declared.Record.{Record}
use Rattle.timeline.specs.Opening.{zero_record}
use Rattle.frames.specs.declared.Frame.{Frame}
use Rattle.frames.specs.declared.Frame.TheVariants.{Head as HeadFrame, S, End, Clock}
use Rattle.frames.specs.declared.SFields.{SFields}
use Rattle.frames.specs.Frames.{frame_of}
use Rattle.file.specs.Lines.{lines_of, rest_of}
use Rattle.file.specs.Judging.{absent, head_in}
use Rattle.file.specs.Least.{least_count}
use Rattle.laws.specs.Calls.{Call, by_tick, State, after, opening}
use Rattle.laws.specs.Refusals.{lowest, distance_with, over_limit, starts_past, no_run_left, append_rows}

-- ---- what an S line says

-- where it starts: at its t, or at the previous end where t is absent
abbrev pub start_of : ℕ → SFields → ℕ
start_of previous s = cond (absent s.t) previous s.t.0

-- the timeline opens where the first S starts; before that S no reference ends, and 0 stands for the previous end
abbrev pub opening_tick : SFields → Tick
opening_tick s = record { 0 = start_of 0 s }

-- r is signed, over four bytes: it is negative from 2^31 on
abbrev pub negative : SFields → Bool
negative s = leb (2 ^ 31) s.r

-- how many references it gives: r of 0 or more means r + 1, a negative one the least count, one at least, whose end reaches or passes the period end
abbrev pub count_of : State → SFields → ℕ
count_of x s = cond (negative s) (least_count x.rec.head x.rec.next.0 s.d) (s.r + 1)

-- the append that it stands for
abbrev pub call_of : State → SFields → Call
call_of x s = by_tick (record { 0 = start_of x.rec.next.0 s }) s.d (count_of x s)

-- ---- which kind of line may stand where

-- before any line, after the head, after an S, after an S with a negative r, after the end
pub data Place : Type 0 where
  at_first : Place
  after_head : Place
  after_s : Place
  after_negative : Place
  after_end : Place

-- the kinds of line that a file has: 1 is a head, of kind 01 or 05, 2 an S, 3 an end; and 0 is none of them
abbrev pub line_kind : Option Frame → ℕ
line_kind (Some (HeadFrame x)) = 1
line_kind (Some (S s)) = 2
line_kind (Some (End n)) = 3
line_kind (Some (Clock c)) = 0
line_kind None = 0

-- after the end nothing may stand any more
abbrev pub may_stand : Place → List ℕ
may_stand at_first = 1 ∷ []
may_stand after_head = 2 ∷ []
may_stand after_s = 2 ∷ 3 ∷ []
may_stand after_negative = 3 ∷ []
may_stand after_end = []

abbrev pub among : ℕ → List ℕ → Bool
among k [] = false
among k (j ∷ js) = eqb k j || among k js

-- what the lines so far have come to: the place of the next one, the head, the number of S lines, and the timeline
pub record Sofar : Type 0 where
  pub place : Place
  pub head : Head
  pub count : ℕ
  pub timeline : State

-- ---- the rows

-- 1: a head field is over its limit. The first tick comes with the first S, and 0 is within every limit
abbrev pub head_rows : Head → List (Bool × ℕ)
head_rows h = (over_limit h (record { 0 = 0 }), 1) ∷ []

-- a negative r, with its count: 3, 4 or 5, 18, 8, 6, 7, 9
abbrev pub reach_rows : State → ℕ → ℕ → ℕ → List (Bool × ℕ)
reach_rows x start d n =
    (eqb d 0, 3) ∷
    (ltb x.rec.next.0 start, 4) ∷
    (ltb start x.rec.next.0, 5) ∷
    (eqb x.rec.head.duration.0 0, 18) ∷
    (starts_past x.rec d n, 8) ∷
    (ltb largest_tick (x.rec.next.0 + d * n), 6) ∷
    (ltb (2 ^ 31) (x.rec.accepted + n) || ltb largest_number (x.rec.head.first.0 + (x.rec.accepted + n)), 7) ∷
    (no_run_left x.rec x.words d n, 9) ∷
    []

-- what an S line is refused with on a timeline. With r of 0 or more it is judged as any append: 3, 4, 5, 6, 7, 8, 9. Its row of 2 never holds, since
-- record and table agree from the opening on (`never_two` in Reading)
abbrev pub appended_rows : State → SFields → List (Bool × ℕ)
appended_rows x s =
    let start = start_of x.rec.next.0 s in
    cond (negative s)
    (reach_rows x start s.d (count_of x s))
    (append_rows x.rec x.words (ltb x.rec.next.0 start) (ltb start x.rec.next.0) s.d (count_of x s))

-- the timeline that an S line is judged on: the first S opens it at its own tick
abbrev pub is_first : Sofar → Bool
is_first x = eqb x.count 0

abbrev pub timeline_for : List ℕ → Sofar → SFields → State
timeline_for came x s = cond (is_first x) (opening x.head (opening_tick s) came) x.timeline

-- 1 on the first S only, where its t is over its limit. There 4 and 5 cannot be, for it starts where the timeline opens
abbrev pub s_rows : List ℕ → Sofar → SFields → List (Bool × ℕ)
s_rows came x s = (is_first x && over_limit x.head (opening_tick s), 1) ∷ appended_rows (timeline_for came x s) s

-- the end's number is that of the S lines
abbrev pub end_rows : Sofar → ℕ → List (Bool × ℕ)
end_rows x n = (not (eqb n x.count), 17) ∷ []

-- no line comes: one is missing where a kind may still stand, and bytes behind the last feed are a line that is not ended
abbrev pub stop_rows : Sofar → List ℕ → List (Bool × ℕ)
stop_rows x rest = (ltb 0 (length (may_stand x.place)), 16) ∷ (ltb 0 (length rest), 16) ∷ []

abbrev pub field_rows : List ℕ → Sofar → Option Frame → List (Bool × ℕ)
field_rows came x (Some (HeadFrame h)) = head_rows (head_in h)
field_rows came x (Some (S s)) = s_rows came x s
field_rows came x (Some (End n)) = end_rows x n
field_rows came x (Some (Clock c)) = []
field_rows came x None = []

-- every line: 16, then 17, then its fields
abbrev pub line_rows : List ℕ → Sofar → Option Frame → List (Bool × ℕ)
line_rows came x f =
    (not (among (line_kind f) (1 ∷ 2 ∷ 3 ∷ [])) || eqb (length (may_stand x.place)) 0, 16) ∷
    (not (among (line_kind f) (may_stand x.place)), 17) ∷
    field_rows came x f

-- the distance that comes with a line's number: that of an S line's start from the next tick of the timeline that it is judged on
abbrev pub line_distance : List ℕ → Sofar → Option Frame → ℕ → ℕ
line_distance came x (Some (S s)) number =
    let next = (timeline_for came x s).rec.next.0 in
    distance_with number (start_of next s - next) (next - start_of next s)
line_distance came x (Some (HeadFrame h)) number = 0
line_distance came x (Some (End n)) number = 0
line_distance came x (Some (Clock c)) number = 0
line_distance came x None number = 0

-- ---- the whole file

-- what a line that is not refused leaves: an S line its append
abbrev pub taking : List ℕ → Sofar → Option Frame → Sofar
taking came x (Some (HeadFrame h)) = record { place = after_head; head = head_in h; count = 0; timeline = x.timeline }
taking came x (Some (S s)) =
    let y = timeline_for came x s in
    record { place = cond (negative s) after_negative after_s; head = x.head; count = x.count + 1; timeline = after y (call_of y s) }
taking came x (Some (End n)) = record { place = after_end; head = x.head; count = x.count; timeline = x.timeline }
taking came x (Some (Clock c)) = x
taking came x None = x

-- what reading comes to: the number, 0 where the file is accepted; the refused line, or 0; the distance, or 0; the record and the table
pub record FileResult : Type 0 where
  pub number : ℕ
  pub line : ℕ
  pub distance : ℕ
  pub rec : Record
  pub words : List ℕ

abbrev pub accepted : State → FileResult
accepted x = record { number = 0; line = 0; distance = 0; rec = x.rec; words = x.words }

abbrev pub refused_at : List ℕ → ℕ → ℕ → ℕ → FileResult
refused_at came line number distance = record { number = number; line = line; distance = distance; rec = zero_record; words = replicate (length came) 0 }

-- a line that has the number 0 is taken; any other number decides
abbrev pub unless_refused : List ℕ → ℕ → ℕ → ℕ → FileResult → FileResult
unless_refused came line number distance on = cond (eqb number 0) on (refused_at came line number distance)

-- the lines from the given one on, where `rest` stands behind the last feed
unfoldable pub judged : List ℕ → Sofar → ℕ → List (Option Frame) → List ℕ → FileResult
judged came x line [] rest = unless_refused came line (lowest (stop_rows x rest)) 0 (accepted x.timeline)
judged came x line (f ∷ fs) rest =
    let number = lowest (line_rows came x f) in
    unless_refused came line number (line_distance came x f number) (judged came (taking came x f) (line + 1) fs rest)

-- no line has come: there is no head yet, and no timeline
abbrev pub beginning : List ℕ → Sofar
beginning came = record { place = at_first; head = zero_record.head; count = 0; timeline = record { rec = zero_record; words = came } }

abbrev pub judged_file : List ℕ → List ℕ → FileResult
judged_file bytes came = judged came (beginning came) 1 (map frame_of (lines_of bytes)) (rest_of bytes)
