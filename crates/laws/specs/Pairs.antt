-- One call for a segment. Where it is accepted it is an append and then a trim, where it is refused it is nothing. So a list of calls ends as the
-- list in which each accepted pair is made as its two calls and each refused one is left out; and so demand 3, whose lists may hold pairs, reads
-- over them. It is not the same as making the two calls one after the other whatever the first answers: behind a gap the trim would still be
-- made, and with a clock over its limit the append would stand. Paper: Append and trim; What a statement must leave no room for; document 02, W-208.
use Rattle.std.specs.Prelude.{Err, Ok, ℕ, ◌≤◌, ◌≡◌, true, List, [], ◌∷◌, ◌++◌}
use Rattle.units.specs.declared.Stamp.{Stamp}
use Rattle.units.specs.declared.WideMillis.{WideMillis}
use Rattle.units.specs.Exactly.{ExactlyWhen}
use Rattle.units.specs.Limits.{largest_span, largest_millis}
use Rattle.agreement.specs.declared.refusal.Refusal.{Refusal}
use Rattle.agreement.specs.declared.refusal.Refusal.TheVariants.{NoRunLeft, ClockLimit}
use Rattle.agreement.specs.Agreement.{agrees}
use Rattle.keeping.specs.Keeping.{Outcome}
use Rattle.laws.specs.Calls.{Call, by_tick, by_stamp, trim_at, pair_at, Plain, State, opening, after, after_calls, outcome_of, if_accepted, all_accepted, accepted_appends, greatest}
use Rattle.laws.specs.ByHand.{tick, stamp, millis, gap_by, full, stamping, stamp_of, trimming, state_of, head_b, five_b, trim_b3}

-- ---- each call apart

-- what a call is made as: an accepted pair as its two calls, a refused one not at all, and any other as itself
abbrev pub made_as : State → Call → List Call
made_as s (by_tick t d n) = by_tick t d n ∷ []
made_as s (by_stamp t d n) = by_stamp t d n ∷ []
made_as s (trim_at c) = trim_at c ∷ []
made_as s (pair_at t d n c) = if_accepted (outcome_of s (pair_at t d n c)) (by_stamp t d n ∷ trim_at c ∷ [])

unfoldable pub made_apart : State → List Call → List Call
made_apart s [] = []
made_apart s (c ∷ cs) = made_as s c ++ made_apart (after s c) cs

-- none of the calls is a pair
abbrev pub NoPair : List Call → Type 0
NoPair [] = Unit {0}
NoPair (by_tick t d n ∷ cs) = NoPair cs
NoPair (by_stamp t d n ∷ cs) = NoPair cs
NoPair (trim_at c ∷ cs) = NoPair cs
NoPair (pair_at t d n c ∷ cs) = ⊥

-- ---- by hand

-- a pair: stamp, duration, count and clock
abbrev pub pairing : State → ℕ → ℕ → ℕ → ℕ → State
pairing s x d n c = after s (pair_at (stamp x) d n (millis c))

-- what it answers
abbrev pub pair_of : State → ℕ → ℕ → ℕ → ℕ → Outcome
pair_of s x d n c = outcome_of s (pair_at (stamp x) d n (millis c))

-- B over a table that has room for no run
abbrev pub no_run_b : State
no_run_b = opening head_b (tick 0) (full 2)

-- any record and table; a duration is one of 32 bits
pub record PairRight : Type 0 where
  -- accepted exactly when the append is, and then the trim
  pub accepted : (s : State) (x : Stamp) (d n : ℕ) (c : WideMillis) → d ≤ largest_span →
      ExactlyWhen (outcome_of s (pair_at x d n c) ≡ Ok tt)
      ((outcome_of s (by_stamp x d n) ≡ Ok tt) × (outcome_of (after s (by_stamp x d n)) (trim_at c) ≡ Ok tt))
  -- it leaves what the two calls leave
  pub done : (s : State) (x : Stamp) (d n : ℕ) (c : WideMillis) → outcome_of s (pair_at x d n c) ≡ Ok tt →
      after s (pair_at x d n c) ≡ after (after s (by_stamp x d n)) (trim_at c)
  -- refused, it leaves the record and every word as they came
  pub refused : (s : State) (x : Stamp) (d n : ℕ) (c : WideMillis) (why : Refusal) → outcome_of s (pair_at x d n c) ≡ Err why → after s (pair_at x d n c) ≡ s
  -- where record and table agree and the clock is within its limit, it answers what the append answers, with the distance
  pub append_decides : (s : State) (x : Stamp) (d n : ℕ) (c : WideMillis) → agrees s.rec s.words ≡ true → c.0 ≤ largest_millis →
      outcome_of s (pair_at x d n c) ≡ outcome_of s (by_stamp x d n)
  -- a list of calls with each made apart: no pair is left, and it ends in the same record and table
  pub none_left : (s : State) (cs : List Call) → NoPair (made_apart s cs)
  pub ends : (s : State) (cs : List Call) → after_calls s (made_apart s cs) ≡ after_calls s cs
  -- it had the same appends accepted, the same references, and the same greatest clock
  pub appends : (s : State) (cs : List Call) → Plain cs → accepted_appends s (made_apart s cs) ≡ accepted_appends s cs
  pub references : (s : State) (cs : List Call) → Plain cs → all_accepted s (made_apart s cs) ≡ all_accepted s cs
  pub clock : (s : State) (cs : List Call) → Plain cs → greatest s (made_apart s cs) ≡ greatest s cs
  -- B: a segment that joins, at 18,000: six are accepted, and two are dropped. At a clock before the greatest one it is only appended
  pub b_both : pairing five_b 20_000 4000 1 18_000 ≡ state_of head_b 6 2 24_000 18_000 1 (8000 ∷ 4000 ∷ 4 ∷ [])
  pub b_earlier : pairing trim_b3 20_000 4000 1 14_000 ≡ state_of head_b 6 2 24_000 18_000 1 (8000 ∷ 4000 ∷ 4 ∷ [])
  -- B: a gap by 1 with a later clock changes nothing; as two calls the trim would drop a reference
  pub b_gap : pair_of five_b 20_001 4000 1 14_000 ≡ gap_by 1
  pub b_gap_stays : pairing five_b 20_001 4000 1 14_000 ≡ five_b
  pub b_gap_as_two : trimming (stamping five_b 20_001 4000 1) 14_000 ≡ state_of head_b 5 1 20_000 14_000 1 (4000 ∷ 4000 ∷ 4 ∷ [])
  -- B: a clock over its limit changes nothing; as two calls the append would stand. It comes before a duration of 0
  pub b_over : pair_of five_b 20_000 4000 1 100_000_000_001 ≡ Err ClockLimit
  pub b_over_stays : pairing five_b 20_000 4000 1 100_000_000_001 ≡ five_b
  pub b_over_as_two : trimming (stamping five_b 20_000 4000 1) 100_000_000_001 ≡ state_of head_b 6 0 24_000 0 1 (0 ∷ 4000 ∷ 6 ∷ [])
  pub b_over_first : pair_of five_b 20_000 0 1 100_000_000_001 ≡ Err ClockLimit
  -- B: room is judged before the trim. At 30,000 all five are spent, and a segment of another duration is still 9; trimmed first, it would fit
  pub b_room : pair_of five_b 20_000 2000 1 30_000 ≡ Err NoRunLeft
  pub b_room_after : stamp_of (trimming five_b 30_000) 20_000 2000 1 ≡ Ok tt
  -- B: and by the greatest clock before the call. In a table with no room a segment that is spent only at the new clock is 9
  pub b_none : pair_of no_run_b 0 4000 1 14_000 ≡ Err NoRunLeft
  pub b_none_after : stamp_of (trimming no_run_b 14_000) 0 4000 1 ≡ Ok tt
