-- The runs that an iterator over the used words of a table has left.
use Rattle.std.specs.Prelude.{ℕ, List, [], ◌∷◌}
use Rattle.runs.specs.declared.Run.{Run}
use Rattle.runs.specs.declared.walk.Runs.{Runs}

-- words by threes, each a run
abbrev pub runs_in : List ℕ → List Run
runs_in (s ∷ d ∷ n ∷ ws) = record { start = record { 0 = s }; span = record { 0 = d }; count = n } ∷ runs_in ws
runs_in _ = []

abbrev pub runs_left : Runs → List Run
runs_left rs = runs_in rs.words.now
