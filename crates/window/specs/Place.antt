-- Where ticks and milliseconds stand, in signed grains counted from the period start. A tick is 1000 grains and a
-- millisecond is timescale grains, so both are whole and compare exactly. The tick that the offset names stands at the
-- period start, and an earlier tick stands before it, at a negative place. Paper: Units.
use Rattle.std.specs.Prelude.{ℕ, ◌*◌, Bool, true, cond, not, eqb, ℤ, pos, ◌-ℤ◌, ◌*ℤ◌}
use Rattle.std.specs.Int.Signed.{le_z, lt_z}
use Rattle.window.specs.declared.Head.{Head}

-- the place of tick k
unfoldable pub place : Head → ℕ → ℤ
place h k = (pos k -ℤ pos h.offset.0) *ℤ pos 1000

-- the place of millisecond m, counted as the clock and the period start are
unfoldable pub moment : Head → ℤ → ℤ
moment h m = (m -ℤ pos h.start.0) *ℤ pos h.timescale.0

-- a duration of 0 leaves the period's end unknown
abbrev pub end_known : Head → Bool
end_known h = not (eqb h.duration.0 0)

unfoldable pub period_end : Head → ℤ
period_end h = pos (h.duration.0 * h.timescale.0)

abbrev pub later : ℤ → ℤ → ℤ
later a b = cond (le_z a b) b a

abbrev pub earlier : ℤ → ℤ → ℤ
earlier a b = cond (le_z a b) a b

-- a point, cut to the period end where that is known
abbrev pub cut_to_end : Head → ℤ → ℤ
cut_to_end h z = cond (end_known h) (earlier (period_end h) z) z

-- whether tick k lies before the period end, equal being at it
abbrev pub before_end : Head → ℕ → Bool
before_end h k = cond (end_known h) (lt_z (place h k) (period_end h)) true
