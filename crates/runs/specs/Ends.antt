-- Where joined references end, and the limits that each one keeps. Paper: Units; Record and table.
use Rattle.std.specs.Prelude.{ℕ, ◌≤◌, List, [], ◌∷◌}
use Rattle.units.specs.Limits.{largest_tick, largest_span}
use Rattle.window.specs.declared.Reference.{Reference}
use Rattle.window.specs.Window.{end_of}

-- where the last reference ends, or t where there is none
unfoldable pub last_end : ℕ → List Reference → ℕ
last_end t [] = t
last_end t (r ∷ rs) = last_end (end_of r) rs

-- a reference within the limits of its units
pub record Within (r : Reference) : Type 0 where
  pub lasts : 1 ≤ r.span.0
  pub short : r.span.0 ≤ largest_span
  pub ends : end_of r ≤ largest_tick
