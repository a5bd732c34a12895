-- The first refused line decides, so from some byte on the answer to a file is settled: whatever stands behind, answer and table are the same, and a
-- program need not read on. A line is refused; or the line that is not ended has more bytes than any frame, which is 16 whether it is ended or not; or
-- a byte stands behind the end, which is 16 likewise. Paper: The file; Refusal numbers, and the order below the table.
use Rattle.std.specs.Prelude.{ℕ, ◌≡◌, Bool, true, false, cond, List, ◌++◌, leb}
use Rattle.file.specs.declared.Stage.{Stage}
use Rattle.file.specs.declared.Stage.TheVariants.{Nothing, Headed, Open, Filled, Ended, Refused}
use Rattle.file.specs.declared.Reader.{Reader}
use Rattle.file.specs.SoFar.{too_long}
use Rattle.file.specs.Judging.{read_answer, read_table}
use Rattle.file.specs.Feeding.{reader_after}

-- at a stage, with so many bytes after the last feed
abbrev pub stage_settled : Stage → ℕ → Bool
stage_settled Nothing n = false
stage_settled Headed n = false
stage_settled Open n = false
stage_settled Filled n = false
stage_settled Ended n = leb 1 n
stage_settled (Refused why) n = true

unfoldable pub reader_settled : Reader → Bool
reader_settled x = cond (too_long x.line) true (stage_settled x.reading.stage x.line.count)

-- ---- THE THEOREM: where the reader after the bytes `fed` is settled, more bytes change nothing. Proved by `settled_file` of proofs/Settling.antt

pub record SettledFile : Type 0 where
  pub answer : (came fed more : List ℕ) → reader_settled (reader_after fed came) ≡ true → read_answer (fed ++ more) came ≡ read_answer fed came
  pub table : (came fed more : List ℕ) → reader_settled (reader_after fed came) ≡ true → read_table (fed ++ more) came ≡ read_table fed came
