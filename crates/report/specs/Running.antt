-- What the program writes. No contract can say which bytes a read brings; of whatever bytes they are, this is said. Paper: The file (the program).
use Rattle.std.specs.Prelude.{ℕ, ◌≤◌, ◌≡◌, true, length, take}
use mathlib.Core.List.{List, ◌++◌, flatten as all_bytes}
use Rattle.report.specs.declared.Desk.{Desk}
use Rattle.report.specs.declared.Stopped.{Stopped}
use Rattle.report.specs.declared.Stopped.TheVariants.{Ended, Settled}
use Rattle.report.specs.declared.Fed.{Fed}
use Rattle.report.specs.Answer.{table_length, answer}
use Rattle.report.specs.Feeding.{after_all}
use Rattle.report.specs.Settled.{settled}

-- a desk and a table that some pieces brought where they stand
pub record Brought (came : List ℕ) (d : Desk) (ws : List ℕ) : Type 0 where
  pub pieces : List (List ℕ)
  pub so : record { desk = d; words = ws } ≡ after_all came pieces

-- the reads stopped there, and if they did because the answer is settled, it is
pub record Reads (came : List ℕ) (f : Fed) (ws : List ℕ) : Type 0 where
  pub brought : Brought came f.desk ws
  pub settles : f.stopped ≡ Settled → settled f.desk ≡ true

-- the same of a reader whose bytes are known: if its reads ended, the pieces are all of them; if they stopped because the answer is settled, the
-- front of them
pub record ReadsKnown (known came : List ℕ) (f : Fed) (ws : List ℕ) : Type 0 where
  pub brought : Brought came f.desk ws
  pub ends : f.stopped ≡ Ended → all_bytes brought.pieces ≡ known
  pub settles : f.stopped ≡ Settled → (settled f.desk ≡ true) × (rest : List ℕ) × (known ≡ all_bytes brought.pieces ++ rest)

-- n bytes at the front of an output are the answer to all the bytes of a reader whose bytes are known
abbrev pub AnswersKnown : List ℕ → List ℕ → ℕ → Type 0
AnswersKnown known out n = take n out ≡ answer known

-- a read failed, or the turns are used up: the table stands where some pieces brought it, with some desk
pub record Left (came ws : List ℕ) : Type 0 where
  pub desk : Desk
  pub brought : Brought came desk ws

-- n bytes at the front of an output tell a desk and its table: whichever pieces brought them where they stand, from any 3,072 words, they are the
-- answer to all the bytes of those pieces; and if the desk is settled, to those bytes with any more behind them
pub record Tells (d : Desk) (ws out : List ℕ) (n : ℕ) : Type 0 where
  pub within : n ≤ length out
  pub line : (came : List ℕ) → length came ≡ table_length → (b : Brought came d ws) → take n out ≡ answer (all_bytes b.pieces)
  pub any : (came : List ℕ) → length came ≡ table_length → (b : Brought came d ws) → settled d ≡ true → (more : List ℕ) → take n out ≡ answer (all_bytes b.pieces ++ more)

-- n bytes at the front of an output are the answer to all the bytes of some pieces; and if the reads stopped because it is settled, to those bytes with
-- any more behind them
pub record Answered (why : Stopped) (out : List ℕ) (n : ℕ) : Type 0 where
  pub within : n ≤ length out
  pub pieces : List (List ℕ)
  pub line : take n out ≡ answer (all_bytes pieces)
  pub any : why ≡ Settled → (more : List ℕ) → take n out ≡ answer (all_bytes pieces ++ more)
