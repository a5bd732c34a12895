-- How words mean runs, and runs mean references. A run is three words: start, duration, count. It stands for as many
-- references of that duration, each starting where the one before it ends. Paper: Record and table.
use Rattle.std.specs.Prelude.{ℕ, zero, suc, ◌+◌, ◌-◌, ◌*◌, ◌/◌, List, [], ◌∷◌, ◌++◌, length, get_or, drop}
use Rattle.window.specs.declared.Reference.{Reference}
use Rattle.runs.specs.declared.Run.{Run}

-- the run whose first word stands at place i
abbrev pub run_at : List ℕ → ℕ → Run
run_at ws i = record { start = record { 0 = get_or ws i 0 }; span = record { 0 = get_or ws (i + 1) 0 }; count = get_or ws (i + 2) 0 }

-- the last of so many used runs
abbrev pub last_run : ℕ → List ℕ → Run
last_run used ws = run_at ws (used * 3 - 3)

-- the first n runs of a table
unfoldable pub runs_of : ℕ → List ℕ → List Run
runs_of zero ws = []
runs_of (suc n) ws = run_at ws 0 ∷ runs_of n (drop 3 ws)

unfoldable pub words_of : List Run → List ℕ
words_of [] = []
words_of (r ∷ rs) = r.start.0 ∷ r.span.0 ∷ r.count ∷ words_of rs

-- how many runs a table can hold
abbrev pub capacity : List ℕ → ℕ
capacity ws = length ws / 3

abbrev pub run_end : Run → ℕ
run_end r = r.start.0 + r.span.0 * r.count

-- the reference of a run that stands behind n others
abbrev pub reference_behind : Run → ℕ → Reference
reference_behind r n = record { start = record { 0 = r.start.0 + r.span.0 * n }; span = r.span }

-- so many references of d ticks each, the first at tick s
unfoldable pub repeated : ℕ → ℕ → ℕ → List Reference
repeated s d zero = []
repeated s d (suc n) = record { start = record { 0 = s }; span = record { 0 = d } } ∷ repeated (s + d) d n

unfoldable pub references_of : List Run → List Reference
references_of [] = []
references_of (r ∷ rs) = repeated r.start.0 r.span.0 r.count ++ references_of rs

-- the counts of runs, added up
unfoldable pub total_count : List Run → ℕ
total_count [] = 0
total_count (r ∷ rs) = r.count + total_count rs

-- the references that a table with so many used runs keeps
abbrev pub kept_in : ℕ → List ℕ → List Reference
kept_in used ws = references_of (runs_of used ws)
