-- The full tick of a stamp. Of a tick the stamp has the low 32 bits alone; with the next tick it names a whole one, half a circle
-- ahead of the next tick or behind it. The distance is stamp less next tick, modulo 2^32: at 0 it is the next tick itself, below
-- 2^31 the next tick plus the distance, and from 2^31 on the next tick less what the distance lacks of 2^32, so that a stamp
-- exactly 2^31 away lies behind. There is none where that would lie below 0 or over the limit of a tick.
-- Paper: Append and trim (by stamp); Units.
use Rattle.std.specs.Prelude.{ℕ, ◌+◌, ◌-◌, ◌^◌, cond, nat_le, nat_lt, Option, Some, None}
use Rattle.units.specs.declared.Stamp.{Stamp}
use Rattle.units.specs.declared.Tick.{Tick}
use Rattle.units.specs.Limits.{largest_tick}
use Rattle.units.specs.Standing.{less32}

-- a tick over the limit is none
abbrev pub within_limit : ℕ → Option Tick
within_limit n = cond (nat_le n largest_tick) (Some (record { 0 = n })) None

-- so many ticks before the next one: below 0 there is none
abbrev pub before : Tick → ℕ → Option Tick
before next back = cond (nat_le back next.0) (within_limit (next.0 - back)) None

-- the tick by its distance
abbrev pub full_by : Tick → ℕ → Option Tick
full_by next distance = cond (nat_lt distance (2 ^ 31)) (within_limit (next.0 + distance)) (before next (2 ^ 32 - distance))

abbrev pub full_tick : Stamp → Tick → Option Tick
full_tick stamp next = full_by next (less32 stamp.0 next.0)
