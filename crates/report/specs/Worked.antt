-- The lines that the paper shows, each as the answer to a whole input. Case B without trims: at 14,000 it is complete, at 20,001 the tick 20,000
-- lacks, at 0 nothing is needed; and its whole period cannot be asked. Case A with a second S line that leaves a gap. Paper: The file (the program); By
-- hand, A and B; Refusal numbers, 4, 10, 16 and 19; document 02, W-205.
use Rattle.std.specs.Prelude.{◌≡◌, List, [], ◌∷◌, ◌++◌, ℕ}
use Rattle.hexdigits.specs.Ascii.{ascii}
use Rattle.report.specs.Answer.{answer}

abbrev pub head_line : List ℕ
head_line = ascii "01000003e8000000000000000000000000000000000000000000000000000000000000271000000001"

-- five references of 4000 from tick 0
abbrev pub s_line : List ℕ
s_line = ascii "02000000000000000000000fa000000004"

abbrev pub file_b : List ℕ
file_b = head_line ++ 10 ∷ s_line ++ 10 ∷ ascii "0300000001" ++ 10 ∷ []

-- A's head and its first reference, which ends at tick 151; then an S line from tick 160 on
abbrev pub file_gap : List ℕ
file_gap =
    ascii "010000000a000000000000006400000000000075300000000000002710000000000000000000000000" ++
    10 ∷
    ascii "02000000000000006f0000002800000000" ++
    10 ∷
    ascii "0200000000000000a00000000a00000000" ++
    10 ∷
    ascii "0300000002" ++
    10 ∷
    []

pub record Lines : Type 0 where
  pub complete : answer (ascii "0400000000000036b0" ++ 10 ∷ file_b) ≡ ascii "complete 10000/10000 100%" ++ 10 ∷ []
  pub lacking : answer (ascii "040000000000004e21" ++ 10 ∷ file_b) ≡ ascii "lacking 20000 9999/10000 99%" ++ 10 ∷ []
  pub nothing : answer (ascii "040000000000000000" ++ 10 ∷ file_b) ≡ ascii "nothing needed" ++ 10 ∷ []
  pub gap : answer (ascii "04ffffffffffffffff" ++ 10 ∷ file_gap) ≡ ascii "refused 4 line 3 by 9" ++ 10 ∷ []
  pub whole : answer (ascii "04ffffffffffffffff" ++ 10 ∷ file_b) ≡ ascii "refused 19 line 0" ++ 10 ∷ []
  pub over : answer (ascii "04000000174876e801" ++ 10 ∷ file_b) ≡ ascii "refused 10 line 0" ++ 10 ∷ []
  pub unended : answer (ascii "0400000000000036b0" ++ 10 ∷ head_line ++ 10 ∷ s_line) ≡ ascii "refused 16 line 2" ++ 10 ∷ []
  pub alone : answer (ascii "0400000000000036b0" ++ 10 ∷ []) ≡ ascii "refused 16 line 1" ++ 10 ∷ []
  pub empty : answer [] ≡ ascii "refused 16 line 0" ++ 10 ∷ []
