-- A file is one head, one or more S lines and one end, with nothing after. Its lines are judged in order, and the first refused line decides. A
-- line is refused with 16 where it is no frame of a file, then with 17 where its kind or its count may not stand here, then by its fields:
-- reading is opening plus appends. Paper: The file; Refusal numbers, and the order below the table.
use Rattle.std.specs.Prelude.{Option, Some, None, Err, Ok, ℕ, ◌+◌, ◌-◌, ◌^◌, Bool, cond, List, [], ◌∷◌, eqb, ltb, length, replicate}
use Rattle.units.specs.declared.Tick.{Tick}
use Rattle.units.specs.declared.WideTick.{WideTick}
use Rattle.units.specs.Limits.{tick_of}
use Rattle.units.specs.declared.standing.Standing.{Standing}
use Rattle.units.specs.declared.standing.Standing.TheVariants.{Joins}
use Rattle.units.specs.Standing.{tick_standing}
use Rattle.window.specs.declared.Head.{Head}
use Rattle.window.specs.Limits.{head_held, head_of}
use Rattle.window.specs.Place.{end_known, before_end}
use Rattle.agreement.specs.declared.Record.{Record}
use Rattle.agreement.specs.declared.refusal.Refusal.{Refusal}
use Rattle.agreement.specs.declared.refusal.Refusal.TheVariants.{OverLimit, NothingGiven, PastEnd, BadLine, BadOrder, NoEndToReach}
use Rattle.agreement.specs.Rows.{◌unless◌else◌, ◌when◌else◌}
use Rattle.keeping.specs.Keeping.{Outcome}
use Rattle.keeping.specs.Keeping.{words_keeping, words_by}
use Rattle.keeping.specs.Append.{unspent_of, fit_outcome, appended}
use Rattle.timeline.specs.Opening.{fresh_record, zero_record, open_outcome}
use Rattle.timeline.specs.Appending.{unjoined◌else◌, append_outcome}
use Rattle.frames.specs.declared.Frame.{Frame}
use Rattle.frames.specs.declared.Frame.TheVariants.{Head as HeadFrame, S, End, Clock}
use Rattle.frames.specs.declared.HeadLine.{HeadLine}
use Rattle.frames.specs.declared.SFields.{SFields}
use Rattle.frames.specs.Fields.{all_ones}
use Rattle.frames.specs.Frames.{fields_in, frame_of}
use Rattle.file.specs.declared.Stage.{Stage}
use Rattle.file.specs.declared.Stage.TheVariants.{Nothing, Headed, Open, Filled, Ended, Refused}
use Rattle.file.specs.declared.Reading.{Reading}
use Rattle.file.specs.declared.ReadAnswer.{ReadAnswer}
use Rattle.file.specs.Lines.{lines_of, rest_of}
use Rattle.file.specs.Least.{least_count}

-- how far a file is read, with the words of the table then
pub record File : Type 0 where
  pub reading : Reading
  pub words : List ℕ

-- the next line is refused: nothing of it is taken
abbrev pub refused : Refusal → Reading → List ℕ → File
refused why r ws = record { reading = record { stage = Refused why; lines = r.lines; rec = r.rec }; words = ws }

-- the next line is taken
abbrev pub taken : Stage → Reading → Record → List ℕ → File
taken s r rec ws = record { reading = record { stage = s; lines = r.lines + 1; rec = rec }; words = ws }

-- the one or the other, by an outcome: a refused line changes no word
unfoldable pub settled_reading : Outcome → Stage → Reading → Record → Reading
settled_reading (Ok _) s r rec = record { stage = s; lines = r.lines + 1; rec = rec }
settled_reading (Err why) s r rec = record { stage = Refused why; lines = r.lines; rec = r.rec }

abbrev pub settled : Outcome → Stage → Reading → Record → List ℕ → List ℕ → File
settled o s r rec new ws = record { reading = settled_reading o s r rec; words = words_by o new ws }

-- what a line that may not stand here is refused with: in a file a clock line is of no known kind
abbrev pub misplaced : Option Frame → Refusal
misplaced (Some (HeadFrame h)) = BadOrder
misplaced (Some (S s)) = BadOrder
misplaced (Some (End n)) = BadOrder
misplaced (Some (Clock c)) = BadLine
misplaced None = BadLine

-- ---- the S lines

-- a t of all ones is absent
abbrev pub absent : WideTick → Bool
absent t = eqb t.0 all_ones

-- the first S opens the timeline at its own t, or at tick 0
abbrev pub first_tick : WideTick → WideTick
first_tick t = cond (absent t) (record { 0 = 0 }) t

-- a later one joins where t is absent
abbrev pub later_standing : WideTick → Tick → Standing
later_standing t next = cond (absent t) Joins (tick_standing t next)

-- r is signed: from 2^31 on it is negative
abbrev pub first_negative : ℕ
first_negative = 2 ^ 31

-- a negative r, with the least count n: 3, 4 or 5, 18, 8, then 6, 7, 9
unfoldable pub reach_outcome : Record → List ℕ → Standing → ℕ → ℕ → Outcome
reach_outcome rec ws st d n =
    Err NothingGiven when eqb d 0 else
    unjoined st else
    Err NoEndToReach unless end_known rec.head else
    Err PastEnd unless before_end rec.head rec.next.0 else
    fit_outcome rec ws d n

-- n references of d ticks are appended, if the outcome is so
abbrev pub appended_by : Outcome → Stage → Reading → List ℕ → ℕ → ℕ → File
appended_by o s r ws d n = settled o s r (appended r.rec ws d n) (words_keeping ws (unspent_of r.rec ws d n)) ws

-- a negative r is as many references as reach the period end
unfoldable pub reaches_by : Reading → List ℕ → Standing → ℕ → File
reaches_by r ws st d =
    let n = least_count r.rec.head r.rec.next.0 d in
    appended_by (reach_outcome r.rec ws st d n) Filled r ws d n

-- r of 0 or more means r + 1 references
unfoldable pub take_s : Reading → List ℕ → Standing → SFields → File
take_s r ws st s =
    cond (ltb s.r first_negative)
    (appended_by (append_outcome r.rec ws st s.d (s.r + 1)) Open r ws s.d (s.r + 1))
    (reaches_by r ws st s.d)

-- the first S: opening at its tick, then what it gives joins
abbrev pub opened_by : Outcome → Reading → List ℕ → SFields → File
opened_by (Ok _) r ws s =
    take_s (record { stage = Headed; lines = r.lines; rec = fresh_record r.rec.head (tick_of (first_tick s.t)) }) (replicate (length ws) 0) Joins s
opened_by (Err why) r ws s = refused why r ws

unfoldable pub take_first_s : Reading → List ℕ → SFields → File
take_first_s r ws s = opened_by (open_outcome r.rec.head (tick_of (first_tick s.t))) r ws s

abbrev pub take_later_s : Reading → List ℕ → SFields → File
take_later_s r ws s = take_s r ws (later_standing s.t r.rec.next) s

-- ---- the head and the end

-- the head that a line has, of either kind: an update period that is absent is 0
abbrev pub head_in : HeadLine → Head
head_in x = head_of (fields_in x)

unfoldable pub take_head : Reading → List ℕ → Head → File
take_head r ws h =
    refused OverLimit r ws unless head_held h else
    taken Headed r (fresh_record h (record { 0 = 0 })) ws

-- the S lines are all lines taken but the head
abbrev pub s_lines : Reading → ℕ
s_lines r = r.lines - 1

-- the end's number is that of the S lines
unfoldable pub take_end : Reading → List ℕ → ℕ → File
take_end r ws n =
    refused BadOrder r ws unless eqb n (s_lines r) else
    taken Ended r r.rec ws

-- ---- which frames may stand where

unfoldable pub on_nothing : Reading → List ℕ → Option Frame → File
on_nothing r ws (Some (HeadFrame x)) = take_head r ws (head_in x)
on_nothing r ws (Some (S s)) = refused (misplaced (Some (S s))) r ws
on_nothing r ws (Some (End n)) = refused (misplaced (Some (End n))) r ws
on_nothing r ws (Some (Clock c)) = refused (misplaced (Some (Clock c))) r ws
on_nothing r ws None = refused (misplaced None) r ws

unfoldable pub on_headed : Reading → List ℕ → Option Frame → File
on_headed r ws (Some (HeadFrame h)) = refused (misplaced (Some (HeadFrame h))) r ws
on_headed r ws (Some (S s)) = take_first_s r ws s
on_headed r ws (Some (End n)) = refused (misplaced (Some (End n))) r ws
on_headed r ws (Some (Clock c)) = refused (misplaced (Some (Clock c))) r ws
on_headed r ws None = refused (misplaced None) r ws

unfoldable pub on_open : Reading → List ℕ → Option Frame → File
on_open r ws (Some (HeadFrame h)) = refused (misplaced (Some (HeadFrame h))) r ws
on_open r ws (Some (S s)) = take_later_s r ws s
on_open r ws (Some (End n)) = take_end r ws n
on_open r ws (Some (Clock c)) = refused (misplaced (Some (Clock c))) r ws
on_open r ws None = refused (misplaced None) r ws

unfoldable pub on_filled : Reading → List ℕ → Option Frame → File
on_filled r ws (Some (HeadFrame h)) = refused (misplaced (Some (HeadFrame h))) r ws
on_filled r ws (Some (S s)) = refused (misplaced (Some (S s))) r ws
on_filled r ws (Some (End n)) = take_end r ws n
on_filled r ws (Some (Clock c)) = refused (misplaced (Some (Clock c))) r ws
on_filled r ws None = refused (misplaced None) r ws

-- after the end every line is one too many, whatever it holds
abbrev pub on_frame : Stage → Reading → List ℕ → Option Frame → File
on_frame Nothing r ws f = on_nothing r ws f
on_frame Headed r ws f = on_headed r ws f
on_frame Open r ws f = on_open r ws f
on_frame Filled r ws f = on_filled r ws f
on_frame Ended r ws f = refused BadLine r ws
on_frame (Refused why) r ws f = record { reading = r; words = ws }

unfoldable pub take_line : File → List ℕ → File
take_line x line = on_frame x.reading.stage x.reading x.words (frame_of line)

-- ---- the whole file

unfoldable pub take_lines : File → List (List ℕ) → File
take_lines x [] = x
take_lines x (l ∷ ls) = take_lines (take_line x l) ls

abbrev pub begun : List ℕ → File
begun ws = record { reading = record { stage = Nothing; lines = 0; rec = zero_record }; words = ws }

unfoldable pub read_lines : List ℕ → List ℕ → File
read_lines bytes ws = take_lines (begun ws) (lines_of bytes)

-- a file that stops before its end line, or with so many bytes after its last feed, is refused there
abbrev pub stop_outcome : Stage → ℕ → Outcome
stop_outcome Nothing n = Err BadLine
stop_outcome Headed n = Err BadLine
stop_outcome Open n = Err BadLine
stop_outcome Filled n = Err BadLine
stop_outcome Ended n = Err BadLine unless eqb n 0 else Ok tt
stop_outcome (Refused why) n = Err why

unfoldable pub read_outcome : List ℕ → List ℕ → Outcome
read_outcome bytes ws = stop_outcome (read_lines bytes ws).reading.stage (length (rest_of bytes))

-- accepted, the record as it is then; refused, a zero record and the line after those taken
abbrev pub answered_by : Outcome → Reading → ReadAnswer
answered_by (Ok _) r = record { outcome = Ok tt; rec = r.rec; line = 0 }
answered_by (Err why) r = record { outcome = Err why; rec = zero_record; line = r.lines + 1 }

unfoldable pub read_answer : List ℕ → List ℕ → ReadAnswer
read_answer bytes ws = answered_by (read_outcome bytes ws) (read_lines bytes ws).reading

-- a table of as many words, all 0
abbrev pub zeroed : List ℕ → List ℕ
zeroed ws = replicate (length ws) 0

-- accepted, the table as it is then; refused, a zeroed one
unfoldable pub read_table : List ℕ → List ℕ → List ℕ
read_table bytes ws = words_by (read_outcome bytes ws) (read_lines bytes ws).words (zeroed ws)
