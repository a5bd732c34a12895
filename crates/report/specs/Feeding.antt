-- The input may come in pieces of any size, with the table lent for each. A desk is what the clock line asks, the clock line so far while it is not
-- ended, and the reader of the file. A piece that comes while the clock line is not ended is cut at its first feed: before it stands more of that line,
-- behind it the file. From then on the pieces go to the reader, unless the clock line was refused. At the end comes the reply. Any desk and any table
-- have an answer. Paper: The file (the program holds one line at a time and takes a file of any length).
use Rattle.std.specs.Prelude.{Some, None, ℕ, ◌≡◌, cond, length}
use mathlib.Core.List.{List, [], ◌∷◌, flatten as all_bytes}
use Rattle.file.specs.Lines.{has_feed, first_line, behind_first}
use Rattle.file.specs.SoFar.{so_far, first_bytes, goes_on}
use Rattle.file.specs.Feeding.{begun_reader, fed_reader, fed_table, finish_answer, finish_table}
use Rattle.wording.specs.Text.{Reply, text_of}
use Rattle.report.specs.declared.Desk.{Desk}
use Rattle.report.specs.Clock.{ClockLine, asked_on}
use Rattle.report.specs.Answer.{file_read, reply_on, table_length, table_in, answer}

-- a desk and the words of its table
pub record DeskAndTable : Type 0 where
  pub desk : Desk
  pub words : List ℕ

-- ---- the pieces

abbrev pub begun_desk : Desk
begun_desk = record { asked = None; line = so_far []; reader = begun_reader }

-- a piece of the file
unfoldable pub read_on : Desk → List ℕ → List ℕ → DeskAndTable
read_on d ws piece =
    cond (file_read d.asked)
    (record {
      desk = record { asked = d.asked; line = d.line; reader = fed_reader d.reader ws piece };
      words = fed_table d.reader ws piece;
    })
    (record { desk = d; words = ws })

-- more of the clock line
abbrev pub with_more : Desk → List ℕ → Desk
with_more d part = record { asked = d.asked; line = goes_on d.line part; reader = d.reader }

-- the clock line is ended: what it asks
abbrev pub with_end : Desk → Desk
with_end d = record { asked = Some (asked_on (first_bytes d.line)); line = d.line; reader = d.reader }

-- a piece that comes while the clock line is not ended
unfoldable pub line_on : Desk → List ℕ → List ℕ → DeskAndTable
line_on d ws piece =
    cond (has_feed piece)
    (read_on (with_end (with_more d (first_line piece))) ws (behind_first piece))
    (record { desk = with_more d (first_line piece); words = ws })

abbrev pub fed_by : ClockLine → Desk → List ℕ → List ℕ → DeskAndTable
fed_by None d ws piece = line_on d ws piece
fed_by (Some asked) d ws piece = read_on d ws piece

unfoldable pub fed : Desk → List ℕ → List ℕ → DeskAndTable
fed d ws piece = fed_by d.asked d ws piece

-- ---- the end of the input

unfoldable pub reply_by : Desk → List ℕ → Reply
reply_by d ws = reply_on d.asked (finish_answer d.reader ws) (finish_table d.reader ws)

-- the table is read into where a verdict is asked, and else left as it came
unfoldable pub table_by : Desk → List ℕ → List ℕ
table_by d ws = cond (file_read d.asked) (finish_table d.reader ws) ws

-- ---- THE THEOREM: in whatever pieces the input comes, the answer is that of the whole input

unfoldable pub fed_all : DeskAndTable → List (List ℕ) → DeskAndTable
fed_all s [] = s
fed_all s (piece ∷ pieces) = fed_all (fed s.desk s.words piece) pieces

-- desk and table after some pieces, from a table that came with the words `came`
abbrev pub after_all : List ℕ → List (List ℕ) → DeskAndTable
after_all came pieces = fed_all (record { desk = begun_desk; words = came }) pieces

-- the answer is the same in any table of that length, whatever words it came with. Proved by `any_pieces` of proofs/Pieces.antt
pub record AnyPieces : Type 0 where
  pub text : (came : List ℕ) (pieces : List (List ℕ)) → length came ≡ table_length →
      text_of (reply_by (after_all came pieces).desk (after_all came pieces).words) ≡ answer (all_bytes pieces)
  pub table : (came : List ℕ) (pieces : List (List ℕ)) → table_by (after_all came pieces).desk (after_all came pieces).words ≡ table_in came (all_bytes pieces)
