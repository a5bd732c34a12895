-- The shape of a table: used runs stand first and fit, each is within the limits and of one reference at least, they join
-- end to start, neighbours differ in duration, and all words after them are 0. Paper: Record and table.
use Rattle.std.specs.Prelude.{ℕ, ◌*◌, Bool, true, ◌&&◌, not, List, [], ◌∷◌, eqb, leb, drop}
use Rattle.units.specs.Limits.{largest_tick, span_held}
use Rattle.runs.specs.declared.Run.{Run}
use Rattle.runs.specs.Words.{runs_of, capacity, run_end}

-- a run within the limits, of one reference at least
abbrev pub run_held : Run → Bool
run_held r = span_held r.span && leb 1 r.count && leb (run_end r) largest_tick

-- a second run follows a first: it begins where that one ends, with another duration
abbrev pub follows : Run → Run → Bool
follows r x = eqb (run_end r) x.start.0 && not (eqb r.span.0 x.span.0)

-- the same of a run and the runs behind it, if there are any
abbrev pub followed_by : Run → List Run → Bool
followed_by r [] = true
followed_by r (x ∷ xs) = follows r x

unfoldable pub runs_shaped : List Run → Bool
runs_shaped [] = true
runs_shaped (r ∷ rs) = run_held r && followed_by r rs && runs_shaped rs

unfoldable pub zeros : List ℕ → Bool
zeros [] = true
zeros (w ∷ ws) = eqb w 0 && zeros ws

abbrev pub shaped : ℕ → List ℕ → Bool
shaped used ws = leb used (capacity ws) && runs_shaped (runs_of used ws) && zeros (drop (3 * used) ws)
