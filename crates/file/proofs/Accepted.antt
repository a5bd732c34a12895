-- An accepted reading: it stopped behind the end line, its record agrees with its table, and the table is as long as it came.
use mathlib.Core.Path.{◌≡◌, refl, ap, ap₂, subst, ◌∙◌}
use mathlib.Core.Bool.{true}
use mathlib.Core.List.{List}
use Prim.Native.Nat.{ℕ}
use lib.ListN.{length}
use Rattle.agreement.specs.declared.refusal.Refusal.TheVariants.{BadLine}
use Rattle.agreement.specs.Agreement.{agrees}
use Rattle.std.specs.Prelude.{Ok}
use Rattle.keeping.specs.Keeping.{words_by}
use Rattle.keeping.proofs.Outcomes.{refused_not}
use Rattle.file.specs.declared.Stage.{Stage}
use Rattle.file.specs.declared.Stage.TheVariants.{Nothing, Headed, Open, Filled, Ended, Refused}
use Rattle.file.specs.Lines.{rest_of}
use Rattle.file.specs.Judging.{read_lines, stop_outcome, read_outcome, answered_by, read_answer, zeroed, read_table}
use Rattle.file.specs.Sound.{Sound}
use Rattle.file.proofs.Sounding.{read_sound}

ended : (s : Stage) (n : ℕ) → stop_outcome s n ≡ Ok tt → s ≡ Ended
ended Nothing n e = absurd (refused_not BadLine e)
ended Headed n e = absurd (refused_not BadLine e)
ended Open n e = absurd (refused_not BadLine e)
ended Filled n e = absurd (refused_not BadLine e)
ended Ended n e = refl
ended (Refused why) n e = absurd (refused_not why e)

module _ (bytes came : List ℕ) (o : read_outcome bytes came ≡ Ok tt) where
  at_end : (read_lines bytes came).reading.stage ≡ Ended
  unfolding read_outcome
  at_end = ended (read_lines bytes came).reading.stage (length (rest_of bytes)) o

  record_read : (read_answer bytes came).rec ≡ (read_lines bytes came).reading.rec
  unfolding read_answer
  record_read = ap (λ y. (answered_by y (read_lines bytes came).reading).rec) o

  table_read : read_table bytes came ≡ (read_lines bytes came).words
  unfolding read_table words_by
  table_read = ap (λ y. words_by y (read_lines bytes came).words (zeroed came)) o

  pub read_agrees : agrees (read_answer bytes came).rec (read_table bytes came) ≡ true
  unfolding Sound
  read_agrees =
      ap₂ agrees record_read table_read ∙
      (subst (λ s. Sound s (read_lines bytes came).reading (read_lines bytes came).words) at_end (read_sound bytes came).0).agreed

  pub read_length : length (read_table bytes came) ≡ length came
  read_length = ap length table_read ∙ (read_sound bytes came).1
