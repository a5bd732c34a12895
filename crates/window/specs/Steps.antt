-- What the inner steps of a question about a window ask and leave: points in grains past the period start, which are natural
-- numbers. It states no rule of the paper.
use Rattle.std.specs.Prelude.{ℕ, ◌*◌, ◌≤◌, ◌≡◌, Bool, false, cond, ℤ, pos}
use Rattle.std.specs.Int.Signed.{le_z}
use Rattle.units.specs.Limits.{largest_millis, largest_timescale}
use Rattle.window.specs.declared.Head.{Head}
use Rattle.window.specs.Place.{end_known, period_end, later}
use Rattle.window.specs.Window.{Stretch}

-- the farthest that an edge lies past the period start: clock and update period at their limits, at the greatest timescale
abbrev pub farthest : ℕ
farthest = 2 * (largest_millis * largest_timescale)

-- r is the point z in grains past the period start, or 0 where z lies before it
pub record Past (r : ℕ) (z : ℤ) : Type 0 where
  pub is : pos r ≡ later (pos 0) z
  pub small : r ≤ farthest

-- whether the period is over by a point that lies so many grains past its start
abbrev pub over_by : Head → ℕ → Bool
over_by h x = cond (end_known h) (le_z (period_end h) (pos x)) false

-- a stretch inside the period
abbrev pub inside : ℕ → ℕ → Stretch
inside from to = record { from = pos from; to = pos to }
