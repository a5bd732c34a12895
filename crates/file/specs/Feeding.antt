-- A file is read piece by piece, with its table lent at each call. After any pieces reader and table stand where reading all of their bytes comes to,
-- wherever the bytes are cut. A reader is how far the lines are judged, and the line so far that is not ended (SoFar). A reader and a table that do
-- not belong together are refused with 2: a feed changes neither, and the end answers 2 at line 0 and changes no word. Paper: The file (the program
-- holds one line at a time and takes a file of any length); Record and table; Refusal numbers, 2.
use Rattle.std.specs.Prelude.{Err, ℕ, ◌+◌, ◌^◌, ◌≡◌, Bool, true, cond, ◌&&◌, eqb, leb}
use mathlib.Core.List.{List, [], ◌∷◌, flatten as all_bytes}
use Rattle.window.specs.Limits.{head_held}
use Rattle.agreement.specs.declared.refusal.Refusal.TheVariants.{Disagreement}
use Rattle.agreement.specs.Agreement.{agrees}
use Rattle.keeping.specs.Keeping.{Outcome}
use Rattle.keeping.specs.Keeping.{words_by}
use Rattle.timeline.specs.Opening.{zero_record}
use Rattle.file.specs.declared.Stage.{Stage}
use Rattle.file.specs.declared.Stage.TheVariants.{Nothing, Headed, Open, Filled, Ended, Refused}
use Rattle.file.specs.declared.Reading.{Reading}
use Rattle.file.specs.declared.Reader.{Reader}
use Rattle.file.specs.declared.ReadAnswer.{ReadAnswer}
use Rattle.file.specs.Lines.{lines_from, rest_from, rest_of}
use Rattle.file.specs.SoFar.{so_far, first_bytes, proper}
use Rattle.file.specs.Judging.{File, s_lines, take_lines, read_lines, stop_outcome, answered_by, read_answer, zeroed, read_table}

-- ---- which reader and table belong together

-- a head, an S line for each of at most 2^31 references, and an end
abbrev pub most_lines : ℕ
most_lines = 2 ^ 31 + 2

-- record and table agree, the head is taken, and each S line gave a reference at least
abbrev pub lines_held : Reading → List ℕ → Bool
lines_held r ws = agrees r.rec ws && leb 1 r.lines && leb (s_lines r) r.rec.accepted

-- what is asked at a stage. Before the first S line: no line, or a head within its limits as the only one. From then on record and table agree. Once
-- a line is refused, record and table do not matter any more
unfoldable pub stage_held : Stage → Reading → List ℕ → Bool
stage_held Nothing r ws = eqb r.lines 0
stage_held Headed r ws = head_held r.rec.head && eqb r.lines 1
stage_held Open r ws = lines_held r ws
stage_held Filled r ws = lines_held r ws
stage_held Ended r ws = agrees r.rec ws && leb r.lines most_lines
stage_held (Refused why) r ws = leb r.lines most_lines

-- the line so far is proper, and what the stage asks holds
unfoldable pub belongs : Reader → List ℕ → Bool
belongs x ws = proper x.line && stage_held x.reading.stage x.reading ws

-- ---- what the calls answer

unfoldable pub begun_reader : Reader
begun_reader = record { reading = record { stage = Nothing; lines = 0; rec = zero_record }; line = so_far [] }

-- the lines that a piece ends are judged in order, the first of them with the line so far before it
abbrev pub fed_file : Reader → List ℕ → List ℕ → File
fed_file x ws piece = take_lines (record { reading = x.reading; words = ws }) (lines_from (first_bytes x.line) piece)

unfoldable pub fed_reader : Reader → List ℕ → List ℕ → Reader
fed_reader x ws piece =
    cond (belongs x ws) (record { reading = (fed_file x ws piece).reading; line = so_far (rest_from (first_bytes x.line) piece) }) x

unfoldable pub fed_table : Reader → List ℕ → List ℕ → List ℕ
fed_table x ws piece = cond (belongs x ws) (fed_file x ws piece).words ws

-- a file that stops here
abbrev pub finish_outcome : Reader → Outcome
finish_outcome x = stop_outcome x.reading.stage x.line.count

unfoldable pub finish_answer : Reader → List ℕ → ReadAnswer
finish_answer x ws =
    cond (belongs x ws) (answered_by (finish_outcome x) x.reading) (record { outcome = Err Disagreement; rec = zero_record; line = 0 })

unfoldable pub finish_table : Reader → List ℕ → List ℕ
finish_table x ws = cond (belongs x ws) (words_by (finish_outcome x) ws (zeroed ws)) ws

-- ---- where reader and table stand after the bytes `fed`, in a table that came with the words `came`

unfoldable pub reader_after : List ℕ → List ℕ → Reader
reader_after fed came = record { reading = (read_lines fed came).reading; line = so_far (rest_of fed) }

unfoldable pub table_after : List ℕ → List ℕ → List ℕ
table_after fed came = (read_lines fed came).words

-- ---- a feed for each of some pieces, one after the other

pub record Fed : Type 0 where
  pub reader : Reader
  pub words : List ℕ

unfoldable pub fed_on : Fed → List (List ℕ) → Fed
fed_on f [] = f
fed_on f (piece ∷ pieces) = fed_on (record { reader = fed_reader f.reader f.words piece; words = fed_table f.reader f.words piece }) pieces

-- from the beginning
abbrev pub fed_pieces : List ℕ → List (List ℕ) → Fed
fed_pieces came pieces = fed_on (record { reader = begun_reader; words = came }) pieces

-- ---- THE THEOREM: however a file is cut into pieces, it reads as the whole. Proved by `any_cut` of proofs/Pieces.antt

pub record AnyCut : Type 0 where
  -- begin, a feed for each piece and finish: the answer of reading all the bytes at once
  pub answer : (came : List ℕ) (pieces : List (List ℕ)) →
      finish_answer (fed_pieces came pieces).reader (fed_pieces came pieces).words ≡ read_answer (all_bytes pieces) came
  -- and every word of the table
  pub table : (came : List ℕ) (pieces : List (List ℕ)) →
      finish_table (fed_pieces came pieces).reader (fed_pieces came pieces).words ≡ read_table (all_bytes pieces) came
  -- on the way reader and table stand where the bytes so far bring them, so another cut of the same bytes changes nothing
  pub between : (came : List ℕ) (pieces : List (List ℕ)) →
      fed_pieces came pieces ≡ record { reader = reader_after (all_bytes pieces) came; words = table_after (all_bytes pieces) came }
  -- and they belong together there: no feed is left out, and the end does not answer 2
  pub together : (came : List ℕ) (pieces : List (List ℕ)) → belongs (fed_pieces came pieces).reader (fed_pieces came pieces).words ≡ true
