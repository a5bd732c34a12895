-- The paper's number of each refusal, and the distance that a gap and an overlap have. Paper: Refusal numbers.
use Rattle.std.specs.Prelude.{ℕ, Result, Ok, Err}
use Rattle.agreement.specs.declared.refusal.Refusal.{Refusal}
use Rattle.agreement.specs.declared.refusal.Refusal.TheVariants.{OverLimit, Disagreement, NothingGiven, Gap, Overlap, TickLimit, CountLimit, PastEnd, NoRunLeft, ClockLimit, EarlierClock, NothingKept, NotKept, EmptySpan, ShortOutput, BadLine, BadOrder, NoEndToReach, EndUnknown}

abbrev pub refusal_number : Refusal → ℕ
-- a head field, the first tick or the offset over its limit, or timescale 0
refusal_number OverLimit = 1
-- record and table disagree
refusal_number Disagreement = 2
-- duration or count 0
refusal_number NothingGiven = 3
-- start after the next tick
refusal_number (Gap d) = 4
-- start before the next tick
refusal_number (Overlap d) = 5
-- an end over 2^52 - 1
refusal_number TickLimit = 6
-- accepted total over 2^31, or first number plus accepted over 2^32 - 1
refusal_number CountLimit = 7
-- a reference starts at or after a known period end
refusal_number PastEnd = 8
-- a stored part needs a new run, and used runs equal capacity
refusal_number NoRunLeft = 9
-- clock over its limit
refusal_number ClockLimit = 10
-- verdict clock before the greatest clock
refusal_number EarlierClock = 11
-- writing with no run kept
refusal_number NothingKept = 12
-- number not kept
refusal_number NotKept = 13
-- a at or after b
refusal_number EmptySpan = 14
-- output shorter than the whole file
refusal_number ShortOutput = 15
-- a line too short, too long, not lower-case hex, of unknown kind, unended, missing, or extra after the end
refusal_number BadLine = 16
-- a frame out of order, S after a negative r, wrong S count
refusal_number BadOrder = 17
-- negative r and no known end
refusal_number NoEndToReach = 18
-- whole-period verdict, end unknown
refusal_number EndUnknown = 19

-- how far the start of a refused append lies from the next tick; of every other refusal 0, which no gap and no overlap has
abbrev pub refusal_distance : Refusal → ℕ
refusal_distance OverLimit = 0
refusal_distance Disagreement = 0
refusal_distance NothingGiven = 0
refusal_distance (Gap d) = d.0
refusal_distance (Overlap d) = d.0
refusal_distance TickLimit = 0
refusal_distance CountLimit = 0
refusal_distance PastEnd = 0
refusal_distance NoRunLeft = 0
refusal_distance ClockLimit = 0
refusal_distance EarlierClock = 0
refusal_distance NothingKept = 0
refusal_distance NotKept = 0
refusal_distance EmptySpan = 0
refusal_distance ShortOutput = 0
refusal_distance BadLine = 0
refusal_distance BadOrder = 0
refusal_distance NoEndToReach = 0
refusal_distance EndUnknown = 0

-- the same of an answer: 0 where the call was not refused
abbrev pub answer_number : {A : Type 0} → Result A Refusal → ℕ
answer_number (Ok x) = 0
answer_number (Err why) = refusal_number why

abbrev pub answer_distance : {A : Type 0} → Result A Refusal → ℕ
answer_distance (Ok x) = 0
answer_distance (Err why) = refusal_distance why
