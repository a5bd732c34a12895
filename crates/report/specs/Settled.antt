-- From some byte on the answer is settled: whatever comes yet, it is the same, and the program answers without reading on. The clock line is refused; or
-- it is not ended and has more bytes than any frame, which is 16 at line 0 whether it is ended or not; or the file is settled (Settled of file).
-- Paper: The file (the program); Refusal numbers, and the order below the table.
use Rattle.std.specs.Prelude.{Some, None, Ok, Err, ℕ, ◌≡◌, Bool, true, length}
use mathlib.Core.List.{List, ◌++◌, flatten as all_bytes}
use Rattle.file.specs.SoFar.{too_long}
use Rattle.file.specs.Settled.{reader_settled}
use Rattle.report.specs.declared.Desk.{Desk}
use Rattle.report.specs.Clock.{ClockLine}
use Rattle.report.specs.Answer.{table_length, answer}
use Rattle.report.specs.Feeding.{after_all}

abbrev pub settled_by : ClockLine → Desk → Bool
settled_by None d = too_long d.line
settled_by (Some (Ok asked)) d = reader_settled d.reader
settled_by (Some (Err why)) d = true

unfoldable pub settled : Desk → Bool
settled d = settled_by d.asked d

-- ---- THE THEOREM: where the desk after some pieces is settled, the answer to their bytes is the answer to them with any more behind them. Proved by
-- `any_more` of proofs/Settling.antt

pub record AnyMore : Type 0 where
  pub same : (came : List ℕ) (pieces : List (List ℕ)) → length came ≡ table_length → settled (after_all came pieces).desk ≡ true → (more : List ℕ) →
      answer (all_bytes pieces ++ more) ≡ answer (all_bytes pieces)
