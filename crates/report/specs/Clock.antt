-- The clock line is one frame of kind 04, and what it holds is asked: a clock of all ones is the whole period, any other is a clock, refused with
-- 10 where it is over its limit. A line that is no such frame is refused with 16. Paper: The file (the program); Refusal numbers, 10 and 16.
use Rattle.std.specs.Prelude.{Option, Some, None, Result, Err, Ok, ℕ, cond, List, eqb}
use Rattle.units.specs.Limits.{clock_held}
use Rattle.agreement.specs.declared.refusal.Refusal.{Refusal}
use Rattle.agreement.specs.declared.refusal.Refusal.TheVariants.{ClockLimit, BadLine}
use Rattle.frames.specs.declared.Frame.{Frame}
use Rattle.frames.specs.declared.Frame.TheVariants as frame
use Rattle.frames.specs.Fields.{all_ones}
use Rattle.frames.specs.Frames.{frame_of}
use Rattle.report.specs.declared.Asked.{Asked}
use Rattle.report.specs.declared.Asked.TheVariants.{At, Whole}

-- what the clock line of an input asks, or why it is refused: nothing while it is not ended
abbrev pub ClockLine : Type 0
ClockLine = Option (Result Asked Refusal)

-- on the clock line a frame of any other kind is of no known kind
abbrev pub asked_by : Option Frame → Result Asked Refusal
asked_by (Some (frame.Clock c)) = cond (eqb c.0 all_ones) (Ok Whole) (cond (clock_held c) (Ok (At (record { 0 = c.0 }))) (Err ClockLimit))
asked_by (Some (frame.Head h)) = Err BadLine
asked_by (Some (frame.S s)) = Err BadLine
asked_by (Some (frame.End n)) = Err BadLine
asked_by None = Err BadLine

-- what a line asks, its line feed aside
unfoldable pub asked_on : List ℕ → Result Asked Refusal
asked_on line = asked_by (frame_of line)
