-- The cases that the paper works by hand, as one table of equations over the very definitions that the contracts cite: from an
-- opening, call by call, with the record and the table that each leaves. Paper: By hand; Errors we expect someone to make.
use Rattle.std.specs.Prelude.{Err, Ok, Some, ℕ, ◌≤◌, ◌<◌, ◌≡◌, List, [], ◌∷◌, ◌++◌, pos, length, drop, replicate}
use Rattle.units.specs.declared.Distance.{Distance}
use Rattle.units.specs.declared.Grain.{Grain}
use Rattle.units.specs.declared.WideMillis.{WideMillis}
use Rattle.units.specs.declared.WideNumber.{WideNumber}
use Rattle.units.specs.declared.Stamp.{Stamp}
use Rattle.units.specs.declared.Tick.{Tick}
use Rattle.units.specs.declared.WideTick.{WideTick}
use Rattle.units.specs.declared.standing.Standing.TheVariants.{Joins, Gap, Overlap}
use Rattle.units.specs.Standing.{stamp_standing}
use Rattle.window.specs.declared.Head.{Head}
use Rattle.window.specs.Window.{whole_period}
use Rattle.window.specs.Ticks.{NeededTicks}
use Rattle.agreement.specs.declared.refusal.Refusal.TheVariants as refusal
use Rattle.keeping.specs.Keeping.{Outcome}
use Rattle.agreement.specs.Numbers.{answer_number}
use Rattle.timeline.specs.Opening.{open_answer}
use Rattle.answers.specs.declared.Verdict.TheVariants.{Nothing, Complete, Lacking}
use Rattle.answers.specs.Judgement.{verdict_at, verdict_whole}
use Rattle.answers.specs.Shares.{verdict_percent}
use Rattle.lookups.specs.declared.Availability.TheVariants.{Ends, NeverEnds}
use Rattle.lookups.specs.Available.{availability_in}
use Rattle.hexdigits.specs.Ascii.{ascii}
use Rattle.file.specs.Judging.{read_answer, read_table}
use Rattle.writing.specs.Writing.{write_answer}
use Rattle.words.specs.Words.{head_with}
use Rattle.laws.specs.Calls.{State, opening, by_tick, by_stamp, trim_at, after, outcome_of}
use Rattle.laws.specs.Demand2.{output}

-- ---- numbers as what they count

abbrev pub tick : ℕ → Tick
tick n = record { 0 = n }

abbrev pub wide : ℕ → WideTick
wide n = record { 0 = n }

abbrev pub stamp : ℕ → Stamp
stamp n = record { 0 = n }

abbrev pub millis : ℕ → WideMillis
millis n = record { 0 = n }

abbrev pub number : ℕ → WideNumber
number n = record { 0 = n }

abbrev pub grains : ℕ → Grain
grains n = record { 0 = pos n }

abbrev pub apart : ℕ → Distance
apart n = record { 0 = n }

-- 4 and 5, with their distances
abbrev pub gap_by : ℕ → Outcome
gap_by n = Err (refusal.Gap (apart n))

abbrev pub overlap_by : ℕ → Outcome
overlap_by n = Err (refusal.Overlap (apart n))

-- ---- calls

-- a table of so many words that came full of sevens: what an opening zeroes
abbrev pub full : ℕ → List ℕ
full words = replicate words 7

-- an append by full tick: start, duration and count
abbrev pub appending : State → ℕ → ℕ → ℕ → State
appending s t d n = after s (by_tick (wide t) d n)

-- the same by stamp
abbrev pub stamping : State → ℕ → ℕ → ℕ → State
stamping s x d n = after s (by_stamp (stamp x) d n)

-- what each answers
abbrev pub append_of : State → ℕ → ℕ → ℕ → Outcome
append_of s t d n = outcome_of s (by_tick (wide t) d n)

abbrev pub stamp_of : State → ℕ → ℕ → ℕ → Outcome
stamp_of s x d n = outcome_of s (by_stamp (stamp x) d n)

abbrev pub trimming : State → ℕ → State
trimming s c = after s (trim_at (millis c))

abbrev pub trim_of : State → ℕ → Outcome
trim_of s c = outcome_of s (trim_at (millis c))

-- head, accepted, dropped, next tick, greatest clock, used runs, and the words
abbrev pub state_of : Head → ℕ → ℕ → ℕ → ℕ → ℕ → List ℕ → State
state_of h a d t c u ws = record { rec = record { head = h; accepted = a; dropped = d; next = tick t; clock = record { 0 = c }; used = u }; words = ws }

-- ---- the cases

-- A: a reference of 40 ticks from tick 111, then one of 10
abbrev pub head_a : Head
head_a = head_with 10 100 30_000 10_000 0 0 0

abbrev pub open_a : State
open_a = opening head_a (tick 111) (full 6)

abbrev pub first_a : State
first_a = appending open_a 111 40 1

abbrev pub both_a : State
both_a = appending first_a 151 10 1

-- B: five references of 4000 ticks from tick 0, the first with number 1
abbrev pub head_b : Head
head_b = head_with 1000 0 0 0 10_000 1 0

abbrev pub open_b : State
open_b = opening head_b (tick 0) (full 3)

abbrev pub five_b : State
five_b = appending open_b 0 4000 5

-- trimmed at 13,999, then at 14,000, then at 18,000
abbrev pub trim_b1 : State
trim_b1 = trimming five_b 13_999

abbrev pub trim_b2 : State
trim_b2 = trimming trim_b1 14_000

abbrev pub trim_b3 : State
trim_b3 = trimming trim_b2 18_000

-- B as a file after those trims: three lines, each ended by a line feed
abbrev pub head_line_b : List ℕ
head_line_b = ascii "05000003e80000000000000000000000000000000000000000000000000000000000002710000000030000000000000000"

abbrev pub file_b : List ℕ
file_b = head_line_b ++ 10 ∷ ascii "020000000000001f4000000fa000000002" ++ 10 ∷ ascii "0300000001" ++ 10 ∷ []

-- C: the next tick, as the first tick of an opening
abbrev pub next_c : Tick
next_c = tick 4_294_970_000

abbrev pub head_c : Head
head_c = head_with 1000 0 0 0 0 0 0

abbrev pub open_c : State
open_c = opening head_c next_c (full 3)

-- D: references of one tick from tick 0; the period ends inside tick 1
abbrev pub head_d : Head
head_d = head_with 3 0 0 500 0 0 0

abbrev pub open_d : State
open_d = opening head_d (tick 0) (full 3)

abbrev pub one_d : State
one_d = appending open_d 0 1 1

abbrev pub two_d : State
two_d = appending one_d 1 1 1

-- D as a file: its one S line has duration 1 and r of -1
abbrev pub file_d : List ℕ
file_d =
    ascii "01000000030000000000000000000000000000000000000000000001f4000000000000000000000000" ++
    10 ∷
    ascii "02000000000000000000000001ffffffff" ++
    10 ∷
    ascii "0300000001" ++
    10 ∷
    []

pub record ByHand : Type 0 where
  -- A: both appends are accepted, and the next tick is 161; a start of 170 is refusal 4, by 9 ticks
  pub a_open : (open_answer head_a (tick 111)).outcome ≡ Ok tt
  pub a_first : append_of open_a 111 40 1 ≡ Ok tt
  pub a_second : append_of first_a 151 10 1 ≡ Ok tt
  pub a_next : both_a.rec.next ≡ tick 161
  pub a_state : both_a ≡ state_of head_a 2 0 161 0 2 (111 ∷ 40 ∷ 1 ∷ 151 ∷ 10 ∷ 1 ∷ [])
  pub a_gap : append_of both_a 170 10 1 ≡ gap_by 9
  -- A: the first is available from 35.1 s on; the whole period needs 100 ticks, 50 are covered, and tick 100 is lacking
  pub a_available : availability_in both_a.rec both_a.words (number 0) ≡ Ok (NeverEnds (grains 351_000))
  pub a_whole : verdict_whole both_a.rec both_a.words ≡ Ok (Lacking 100 50 (wide 100))
  -- B: one append brings all five
  pub b_open : (open_answer head_b (tick 0)).outcome ≡ Ok tt
  pub b_append : append_of open_b 0 4000 5 ≡ Ok tt
  pub b_state : five_b ≡ state_of head_b 5 0 20_000 0 1 (0 ∷ 4000 ∷ 5 ∷ [])
  -- B: a trim at 13,999 drops none, one at 14,000 then one, and one at 18,000 then two in all
  pub b_13999 : trim_of five_b 13_999 ≡ Ok tt
  pub b_none : trim_b1 ≡ state_of head_b 5 0 20_000 13_999 1 (0 ∷ 4000 ∷ 5 ∷ [])
  pub b_14000 : trim_of trim_b1 14_000 ≡ Ok tt
  pub b_one : trim_b2 ≡ state_of head_b 5 1 20_000 14_000 1 (4000 ∷ 4000 ∷ 4 ∷ [])
  pub b_18000 : trim_of trim_b2 18_000 ≡ Ok tt
  pub b_two : trim_b3 ≡ state_of head_b 5 2 20_000 18_000 1 (8000 ∷ 4000 ∷ 3 ∷ [])
  -- B: the same three trims, each without the others; and at 14,001 the reference from 4,000 stays
  pub b_14000_alone : trimming five_b 14_000 ≡ state_of head_b 5 1 20_000 14_000 1 (4000 ∷ 4000 ∷ 4 ∷ [])
  pub b_14001_alone : trimming five_b 14_001 ≡ state_of head_b 5 1 20_000 14_001 1 (4000 ∷ 4000 ∷ 4 ∷ [])
  pub b_18000_alone : trimming five_b 18_000 ≡ state_of head_b 5 2 20_000 18_000 1 (8000 ∷ 4000 ∷ 3 ∷ [])
  -- B: without trims, the verdict at 14,000, at 20,001 and at 0
  pub b_complete : verdict_at five_b.rec five_b.words (millis 14_000) ≡ Ok (Complete 10_000)
  pub b_lacking : verdict_at five_b.rec five_b.words (millis 20_001) ≡ Ok (Lacking 10_000 9_999 (wide 20_000))
  pub b_percent : verdict_percent (verdict_at five_b.rec five_b.words (millis 20_001)) ≡ Some 99
  pub b_nothing : verdict_at five_b.rec five_b.words (millis 0) ≡ Ok Nothing
  -- B: when number 3 is available, before the trims and after them
  pub b_available : availability_in five_b.rec five_b.words (number 3) ≡ Ok (Ends (grains 12_000_000) (grains 26_000_000))
  pub b_available_after : availability_in trim_b3.rec trim_b3.words (number 3) ≡ Ok (Ends (grains 12_000_000) (grains 26_000_000))
  -- B: writing gives the paper's file after the last trim, byte for byte, in any output that has room for it; what stands
  -- behind it stays as it came, and a shorter output is refusal 15. Its first line has 98 digits
  pub b_head_line : length head_line_b ≡ 98
  pub b_written : (out : List ℕ) → 145 ≤ length out → write_answer trim_b3.rec trim_b3.words (length out) ≡ Ok 145
  pub b_file : (out : List ℕ) → 145 ≤ length out → output trim_b3.rec trim_b3.words out ≡ file_b ++ drop 145 out
  pub b_short : (room : ℕ) → room < 145 → answer_number (write_answer trim_b3.rec trim_b3.words room) ≡ 15
  -- C: stamps around the next tick, and at half of the circle, with their distances
  pub c_joins : stamp_standing (stamp 2704) next_c ≡ Joins
  pub c_gap : stamp_standing (stamp 2705) next_c ≡ Gap (apart 1)
  pub c_overlap : stamp_standing (stamp 2703) next_c ≡ Overlap (apart 1)
  pub c_last_gap : stamp_standing (stamp 2_147_486_351) next_c ≡ Gap (apart 2_147_483_647)
  pub c_first_overlap : stamp_standing (stamp 2_147_486_352) next_c ≡ Overlap (apart 2_147_483_648)
  -- C: the same stamps as appends: accepted where it joins, 4 at a gap, 5 at an overlap
  pub c_open : (open_answer head_c next_c).outcome ≡ Ok tt
  pub c_2704 : stamp_of open_c 2704 1000 1 ≡ Ok tt
  pub c_2705 : stamp_of open_c 2705 1000 1 ≡ gap_by 1
  pub c_2703 : stamp_of open_c 2703 1000 1 ≡ overlap_by 1
  pub c_2147486351 : stamp_of open_c 2_147_486_351 1000 1 ≡ gap_by 2_147_483_647
  pub c_2147486352 : stamp_of open_c 2_147_486_352 1000 1 ≡ overlap_by 2_147_483_648
  pub c_state : stamping open_c 2704 1000 1 ≡ state_of head_c 1 0 4_294_971_000 0 1 (4_294_970_000 ∷ 1000 ∷ 1 ∷ [])
  -- D: ticks 0 and 1 are needed, and with one reference of 1 tick 1 is lacking
  pub d_open : (open_answer head_d (tick 0)).outcome ≡ Ok tt
  pub d_needed : NeededTicks head_d (whole_period head_d) (Some (record { first = wide 0; end = wide 2 }))
  pub d_one : append_of open_d 0 1 1 ≡ Ok tt
  pub d_lacking : verdict_whole one_d.rec one_d.words ≡ Ok (Lacking 2 1 (wide 1))
  -- D: the file with the negative r gives two references
  pub d_read : read_answer file_d (replicate 3 0) ≡ record { outcome = Ok tt; rec = two_d.rec; line = 0 }
  pub d_table : read_table file_d (replicate 3 0) ≡ two_d.words
  -- D: after two references of 1 the period is complete, and an append with start 2 is refusal 8
  pub d_two : append_of one_d 1 1 1 ≡ Ok tt
  pub d_state : two_d ≡ state_of head_d 2 0 2 0 1 (0 ∷ 1 ∷ 2 ∷ [])
  pub d_complete : verdict_whole two_d.rec two_d.words ≡ Ok (Complete 2)
  pub d_past : answer_number (append_of two_d 2 1 1) ≡ 8
