-- THE DEFINITION of what the program answers. The input is cut at its first line feed: before it stands the clock line, behind it the file. The clock
-- line is judged first, its limit included, then the file, then the verdict on what the file was read into, without trimming. A clock line that is
-- missing or not ended is refused with 16, and its refusals stand at line 0; the file's lines are numbered from 1. The table has 3,072 words. Paper: The
-- file (the program reads a clock line, then a file); Refusal numbers, and the order below the table.
use Rattle.std.specs.Prelude.{Some, None, Result, Err, Ok, ℕ, Bool, true, false, cond, List, replicate}
use Rattle.agreement.specs.declared.Record.{Record}
use Rattle.agreement.specs.declared.refusal.Refusal.{Refusal}
use Rattle.agreement.specs.declared.refusal.Refusal.TheVariants.{BadLine}
use Rattle.keeping.specs.Keeping.{Outcome}
use Rattle.answers.specs.declared.Verdict.{Verdict}
use Rattle.answers.specs.Judgement.{verdict_at, verdict_whole}
use Rattle.file.specs.declared.ReadAnswer.{ReadAnswer}
use Rattle.file.specs.Lines.{has_feed, first_line, behind_first}
use Rattle.file.specs.Judging.{read_answer, read_table}
use Rattle.wording.specs.Text.{Reply, text_of}
use Rattle.report.specs.declared.Asked.{Asked}
use Rattle.report.specs.declared.Asked.TheVariants.{At, Whole}
use Rattle.report.specs.Clock.{ClockLine, asked_on}

-- what an input asks: nothing yet where its clock line is not ended
unfoldable pub asked_in : List ℕ → ClockLine
asked_in input = cond (has_feed input) (Some (asked_on (first_line input))) None

-- whether a verdict is asked, so that the file is read
abbrev pub file_read : ClockLine → Bool
file_read None = false
file_read (Some (Ok asked)) = true
file_read (Some (Err why)) = false

-- a refusal at a line
abbrev pub refused_at : Refusal → ℕ → Reply
refused_at why line = Err (record { why = why; line = line })

-- a verdict, or its refusal, which has line 0
abbrev pub judged : Result Verdict Refusal → Reply
judged (Ok v) = Ok v
judged (Err why) = refused_at why 0

-- a file that was refused has that reply, and one that was read the verdict
abbrev pub reply_read : Outcome → ℕ → Result Verdict Refusal → Reply
reply_read (Ok _) line v = judged v
reply_read (Err why) line v = refused_at why line

-- the verdict that is asked
abbrev pub verdict_asked : Asked → Record → List ℕ → Result Verdict Refusal
verdict_asked (At clock) rec ws = verdict_at rec ws (record { 0 = clock.0 })
verdict_asked Whole rec ws = verdict_whole rec ws

-- the reply by what is asked, and by what reading the file came to, in record and table
unfoldable pub reply_on : ClockLine → ReadAnswer → List ℕ → Reply
reply_on None read ws = refused_at BadLine 0
reply_on (Some (Ok asked)) read ws = reply_read read.outcome read.line (verdict_asked asked read.rec ws)
reply_on (Some (Err why)) read ws = refused_at why 0

-- the reply to an input, in a table that came with the words `came`
unfoldable pub reply_in : List ℕ → List ℕ → Reply
reply_in came input = reply_on (asked_in input) (read_answer (behind_first input) came) (read_table (behind_first input) came)

-- and what it leaves in that table: what the file was read into, or the words as they came
unfoldable pub table_in : List ℕ → List ℕ → List ℕ
table_in came input = cond (file_read (asked_in input)) (read_table (behind_first input) came) came

abbrev pub answer_in : List ℕ → List ℕ → List ℕ
answer_in came input = text_of (reply_in came input)

abbrev pub table_length : ℕ
table_length = 3072

-- from the bytes of standard input to those of standard output
abbrev pub answer : List ℕ → List ℕ
answer input = answer_in (replicate table_length 0) input
