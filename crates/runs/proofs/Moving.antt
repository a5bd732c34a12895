-- Words that are written in place: a run put into a table, words moved down, words cleared.
use mathlib.Core.Path.{◌≡◌}
use Prim.Native.Nat.{ℕ, ◌+◌, ◌*◌, ◌≤◌, ◌<◌}
use native.Mathlib.Nat.{mul-le-mul_left}
use native.Mathlib.Numerals.{add-one, add-two}
use native.Mathlib.Omega.{arith}
use mathlib.Core.List.{List, [], ◌∷◌}
use lib.ListN.{length, set}
use lib.Seq.{sets-eq}
use mir.Syntax.{w64}
use mir.Val.{Fits}
use Rattle.units.specs.Limits.{largest_tick}
use Rattle.runs.specs.declared.Run.{Run}
use Rattle.runs.specs.Words.{words_of}
use Rattle.runs.specs.Steps.{with_run}

pub run_put : (ws : List ℕ) (i : ℕ) (r : Run) → i + 2 < length ws →
    set (set (set ws i r.start.0) (i + 1) r.span.0) (i + 2) r.count ≡ with_run ws i r
unfolding with_run words_of
run_put ws i r l = rw (add-one, add-two) (sets-eq (r.start.0 ∷ r.span.0 ∷ r.count ∷ []) ws i (omega arith))

-- ---- a run less its first references ends where it ended, so its numbers fit

pub part_fits : (s d n dropped : ℕ) → dropped ≤ n → s + d * n ≤ largest_tick → Fits w64 (d * dropped)
part_fits s d n dropped l e = record { fits = omega (arith, mul-le-mul_left d l) }

pub start_fits : (s d n dropped : ℕ) → dropped ≤ n → s + d * n ≤ largest_tick → Fits w64 (s + d * dropped)
start_fits s d n dropped l e = record { fits = omega (arith, mul-le-mul_left d l) }
