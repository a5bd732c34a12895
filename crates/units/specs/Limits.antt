-- How large each unit may be, and what its constructor answers: the value where it is within the limits, else a refusal, with
-- the paper's number of it. Paper: Units; Refusal numbers, 1, 3, 10 and 13.
use Rattle.std.specs.Prelude.{ℕ, ◌-◌, ◌^◌, Bool, cond, ◌&&◌, Option, Some, None, ℤ, pos, ◌-ℤ◌, nat_le, unsigned_abs}
use Rattle.units.specs.declared.Tick.{Tick}
use Rattle.units.specs.declared.WideTick.{WideTick}
use Rattle.units.specs.declared.Millis.{Millis}
use Rattle.units.specs.declared.WideMillis.{WideMillis}
use Rattle.units.specs.declared.Timescale.{Timescale}
use Rattle.units.specs.declared.Span.{Span}
use Rattle.units.specs.declared.Number.{Number}
use Rattle.units.specs.declared.Grain.{Grain}

-- a tick position is at most 2^52 - 1
abbrev pub largest_tick : ℕ
largest_tick = 2 ^ 52 - 1

abbrev pub tick_held : Tick → Bool
tick_held x = nat_le x.0 largest_tick

abbrev pub tick_made : ℕ → Option Tick
tick_made n = cond (tick_held (record { 0 = n })) (Some (record { 0 = n })) None

-- 1: the offset or the first tick at opening is over its limit
abbrev pub tick_number : Option Tick → ℕ
tick_number (Some t) = 0
tick_number None = 1

-- a tick of any 64 bits, taken for one that is held
abbrev pub tick_of : WideTick → Tick
tick_of t = record { 0 = t.0 }

-- period start, duration, depth and clock are at most 10^11 milliseconds
abbrev pub largest_millis : ℕ
largest_millis = 100_000_000_000

abbrev pub millis_held : Millis → Bool
millis_held x = nat_le x.0 largest_millis

abbrev pub millis_made : ℕ → Option Millis
millis_made n = cond (millis_held (record { 0 = n })) (Some (record { 0 = n })) None

-- 1: a head field is over its limit
abbrev pub millis_number : Option Millis → ℕ
millis_number (Some m) = 0
millis_number None = 1

-- 10: the clock is over its limit
abbrev pub clock_number : Option Millis → ℕ
clock_number (Some m) = 0
clock_number None = 10

-- whether a clock of any 64 bits is within the limit
abbrev pub clock_held : WideMillis → Bool
clock_held c = nat_le c.0 largest_millis

-- a timescale is 1 to 10,000,000 ticks a second
abbrev pub largest_timescale : ℕ
largest_timescale = 10_000_000

abbrev pub timescale_held : Timescale → Bool
timescale_held x = nat_le 1 x.0 && nat_le x.0 largest_timescale

abbrev pub timescale_made : ℕ → Option Timescale
timescale_made n = cond (timescale_held (record { 0 = n })) (Some (record { 0 = n })) None

-- 1: the timescale is over its limit, or 0
abbrev pub timescale_number : Option Timescale → ℕ
timescale_number (Some t) = 0
timescale_number None = 1

-- a reference lasts 1 to 2^32 - 1 ticks
abbrev pub largest_span : ℕ
largest_span = 2 ^ 32 - 1

abbrev pub span_held : Span → Bool
span_held x = nat_le 1 x.0 && nat_le x.0 largest_span

abbrev pub span_made : ℕ → Option Span
span_made n = cond (span_held (record { 0 = n })) (Some (record { 0 = n })) None

-- 3: the duration is 0. Over its limit it is none of 32 bits, and so none that an append gives
abbrev pub span_number : Option Span → ℕ
span_number (Some d) = 0
span_number None = 3

-- a number is at most 2^32 - 1
abbrev pub largest_number : ℕ
largest_number = 2 ^ 32 - 1

abbrev pub number_held : Number → Bool
number_held x = nat_le x.0 largest_number

abbrev pub number_made : ℕ → Option Number
number_made n = cond (number_held (record { 0 = n })) (Some (record { 0 = n })) None

-- 1: the first number of a head is over its limit
abbrev pub first_number : Option Number → ℕ
first_number (Some n) = 0
first_number None = 1

-- 13: a number over its limit is not kept
abbrev pub asked_number : Option Number → ℕ
asked_number (Some n) = 0
asked_number None = 13

-- grains are signed, and 63 bits hold every place that the other limits allow: no call tells of a refusal here, and the
-- paper has no number for it
abbrev pub largest_grain : ℕ
largest_grain = 2 ^ 63 - 1

abbrev pub grain_of : ℤ → Option Grain
grain_of z = cond (nat_le (unsigned_abs z) largest_grain) (Some (record { 0 = z })) None

-- the grains from one point to another
abbrev pub grains_between : ℕ → ℕ → Option Grain
grains_between from to = grain_of (pos to -ℤ pos from)
