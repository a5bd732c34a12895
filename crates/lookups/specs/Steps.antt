-- What the inner steps of availability and of the span ask and leave. It states no rule of the paper.
use Rattle.std.specs.Prelude.{Result, Err, Ok, ℕ, ◌+◌, ◌*◌, ◌≤◌, ◌≡◌}
use Rattle.units.specs.Limits.{largest_tick, largest_millis, largest_timescale, largest_span}
use Rattle.window.specs.declared.Head.{Head}
use Rattle.window.specs.declared.Reference.{Reference}
use Rattle.window.specs.Window.{end_of}
use Rattle.lookups.specs.declared.Words.{Words}
use Rattle.agreement.specs.declared.refusal.Refusal.{Refusal}

-- availability's start and end, each moved on by the offset so that it is a natural number
pub record Begins (h : Head) (r : Reference) (x : ℕ) : Type 0 where
  pub is : x ≡ h.start.0 * h.timescale.0 + end_of r * 1000
  pub small : x ≤ largest_millis * largest_timescale + largest_tick * 1000

pub record Stops (h : Head) (r : Reference) (x : ℕ) : Type 0 where
  pub is : x ≡ h.start.0 * h.timescale.0 + end_of r * 1000 + h.depth.0 * h.timescale.0 + r.span.0 * 1000
  pub small : x ≤ largest_millis * largest_timescale * 2 + largest_tick * 1000 + largest_span * 1000

-- words that an answer names lie in a table of n words
abbrev pub InTable : ℕ → Result Words Refusal → Type 0
InTable n (Ok w) = (w.from ≤ w.to) × (w.to ≤ n)
InTable n (Err r) = Unit {0}
