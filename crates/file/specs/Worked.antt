-- The paper's first refusal of a file: an empty one is 16 at line 1, whatever the table. (The file; Refusal numbers)
use Rattle.std.specs.Prelude.{Err, ◌≡◌, refl, List, [], ℕ}
use Rattle.agreement.specs.declared.refusal.Refusal.TheVariants.{BadLine}
use Rattle.timeline.specs.Opening.{zero_record}
use Rattle.file.specs.Lines.{lines_from, rest_from}
use Rattle.file.specs.Judging.{take_lines, read_lines, read_outcome, read_answer}

pub record EmptyFile : Type 0 where
  pub refused : (ws : List ℕ) → read_answer [] ws ≡ record { outcome = Err BadLine; rec = zero_record; line = 1 }

pub empty_file : EmptyFile
unfolding lines_from rest_from take_lines read_lines read_outcome read_answer
empty_file = record { refused = λ ws. refl }
