-- How a start stands to the next tick. A full tick joins where it is the next tick, leaves a gap where it lies after it,
-- and overlaps where it lies before it. Of a stamp only stamp less next tick, modulo 2^32, is known: 0 joins, below 2^31
-- is a gap, the rest an overlap. A gap has its distance, start less next tick, and an overlap the reverse; of a stamp it is modulo
-- 2^32, in the direction chosen. Paper: Append and trim; Refusal numbers, 4 and 5.
use Rattle.std.specs.Prelude.{ℕ, ◌+◌, ◌-◌, ◌%◌, ◌^◌, Bool, cond, ◌==◌, nat_lt}
use Rattle.units.specs.declared.Stamp.{Stamp}
use Rattle.units.specs.declared.Tick.{Tick}
use Rattle.units.specs.declared.WideTick.{WideTick}
use Rattle.units.specs.declared.standing.Standing.{Standing}
use Rattle.units.specs.declared.standing.Standing.TheVariants.{Joins, Gap, Overlap}

-- a less b, modulo 2^32
unfoldable pub less32 : ℕ → ℕ → ℕ
less32 a b = (a + (2 ^ 32 - b % 2 ^ 32)) % 2 ^ 32

-- by whether it joins, whether it lies ahead, and how far it lies ahead and behind
abbrev pub standing_by : Bool → Bool → ℕ → ℕ → Standing
standing_by joined ahead after before = cond joined Joins (cond ahead (Gap (record { 0 = after })) (Overlap (record { 0 = before })))

abbrev pub tick_standing : WideTick → Tick → Standing
tick_standing start next = standing_by (start.0 == next.0) (nat_lt next.0 start.0) (start.0 - next.0) (next.0 - start.0)

abbrev pub stamp_standing : Stamp → Tick → Standing
stamp_standing stamp next =
    let ahead = less32 stamp.0 next.0 in
    standing_by (ahead == 0) (nat_lt ahead (2 ^ 31)) ahead (2 ^ 32 - ahead)

-- the paper's number of each case, 0 where nothing is refused
abbrev pub standing_number : Standing → ℕ
standing_number Joins = 0
standing_number (Gap d) = 4
standing_number (Overlap d) = 5
