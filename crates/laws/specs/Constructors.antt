-- A number from outside becomes a unit by its constructor, which refuses exactly what lies beyond the limit, with the paper's number. And the calls
-- give that number: an opening the one of the first field, or of the first tick, that is refused; a trim and a verdict the one of their clock, after 2;
-- an append the one of its duration, then of how its start stands, and with a trim behind it that of the clock first; availability of a number over
-- its limit that number's own, after 2, and at a clock after the clock's. Paper: Units; Refusal numbers.
use Rattle.std.specs.Prelude.{None, ℕ, ◌≤◌, ◌≡◌, cond, List, [], ◌∷◌, eqb, ltb}
use Rattle.units.specs.declared.WideTick.{WideTick}
use Rattle.units.specs.declared.WideMillis.{WideMillis}
use Rattle.units.specs.declared.WideNumber.{WideNumber}
use Rattle.units.specs.declared.standing.Standing.{Standing}
use Rattle.units.specs.Limits.{largest_tick, largest_millis, largest_timescale, largest_span, largest_number, tick_made, millis_made, timescale_made, span_made, number_made, tick_of}
use Rattle.units.specs.Limits.{tick_number, millis_number, clock_number, timescale_number, span_number, first_number, asked_number}
use Rattle.units.specs.Standing.{standing_number}
use Rattle.window.specs.declared.HeadFields.{HeadFields}
use Rattle.window.specs.Limits.{head_of, head_made, head_number}
use Rattle.agreement.specs.declared.Record.{Record}
use Rattle.agreement.specs.Agreement.{agrees}
use Rattle.agreement.specs.Numbers.{answer_number}
use Rattle.keeping.specs.Append.{fit_outcome}
use Rattle.timeline.specs.Opening.{open_answer}
use Rattle.timeline.specs.Appending.{append_answer}
use Rattle.timeline.specs.Trimming.{trim_answer}
use Rattle.timeline.specs.Pair.{pair_answer}
use Rattle.answers.specs.Judgement.{verdict_at}
use Rattle.lookups.specs.Available.{availability_in, available_in}
use Rattle.laws.specs.Refusals.{lowest}

-- the first of some numbers that refuses, 0 where none does
abbrev pub first_refusal : List ℕ → ℕ
first_refusal [] = 0
first_refusal (n ∷ ns) = cond (eqb n 0) (first_refusal ns) n

-- 2 where record and table disagree
abbrev pub disagreement : Record → List ℕ → ℕ
disagreement rec ws = cond (agrees rec ws) 0 2

-- proved by `constructors` of proofs/Constructors.antt
pub record Constructors : Type 0 where
  -- a tick over 2^52 - 1 is refused with 1
  pub tick : (n : ℕ) → tick_number (tick_made n) ≡ lowest ((ltb largest_tick n, 1) ∷ [])
  -- a timescale of 0, or over its limit, with 1
  pub timescale : (n : ℕ) → timescale_number (timescale_made n) ≡ lowest ((eqb n 0, 1) ∷ (ltb largest_timescale n, 1) ∷ [])
  -- milliseconds over their limit with 1 in a head, and with 10 as a clock
  pub millis : (n : ℕ) → millis_number (millis_made n) ≡ lowest ((ltb largest_millis n, 1) ∷ [])
  pub clock : (n : ℕ) → clock_number (millis_made n) ≡ lowest ((ltb largest_millis n, 10) ∷ [])
  -- a duration of 0, or over its limit, with 3
  pub span : (n : ℕ) → span_number (span_made n) ≡ lowest ((eqb n 0, 3) ∷ (ltb largest_span n, 3) ∷ [])
  -- a number over its limit with 1 as the first of a head, and with 13 where it is asked for
  pub first : (n : ℕ) → first_number (number_made n) ≡ lowest ((ltb largest_number n, 1) ∷ [])
  pub number : (n : ℕ) → asked_number (number_made n) ≡ lowest ((ltb largest_number n, 13) ∷ [])
  -- a head has the number of the first of its fields that is refused
  pub head : (f : HeadFields) →
      head_number (head_made f) ≡
      first_refusal
      (timescale_number (timescale_made f.timescale) ∷
      tick_number (tick_made f.offset) ∷
      millis_number (millis_made f.start) ∷
      millis_number (millis_made f.duration) ∷
      millis_number (millis_made f.depth) ∷
      first_number (number_made f.first) ∷
      millis_number (millis_made f.update) ∷
      [])
  -- an opening has that of the head, then that of the first tick
  pub opening : (f : HeadFields) (t : WideTick) →
      answer_number (open_answer (head_of f) (tick_of t)).outcome ≡ first_refusal (head_number (head_made f) ∷ tick_number (tick_made t.0) ∷ [])
  -- an append has 2, then that of its duration, which is one of 32 bits, 3 where its count is 0, that of how its start stands, and those from 6 on
  pub append : (rec : Record) (ws : List ℕ) (st : Standing) (d n : ℕ) → d ≤ largest_span →
      answer_number (append_answer rec ws st d n).outcome ≡
      first_refusal
      (disagreement rec ws ∷ span_number (span_made d) ∷ cond (eqb n 0) 3 0 ∷ standing_number st ∷ answer_number (fit_outcome rec ws d n) ∷ [])
  -- with a trim behind it, the clock's own comes before what is given
  pub append_trim : (rec : Record) (ws : List ℕ) (st : Standing) (d n : ℕ) (c : WideMillis) → d ≤ largest_span →
      answer_number (pair_answer rec ws st d n c).outcome ≡
      first_refusal
      (disagreement rec ws ∷ clock_number (millis_made c.0) ∷ span_number (span_made d) ∷ cond (eqb n 0) 3 0 ∷ standing_number st ∷
      answer_number (fit_outcome rec ws d n) ∷ [])
  -- at a clock: 2, then the clock's own
  pub trim : (rec : Record) (ws : List ℕ) (c : WideMillis) →
      answer_number (trim_answer rec ws c).outcome ≡ first_refusal (disagreement rec ws ∷ clock_number (millis_made c.0) ∷ [])
  -- and for a verdict 11 behind them
  pub verdict : (rec : Record) (ws : List ℕ) (c : WideMillis) →
      answer_number (verdict_at rec ws c) ≡
      first_refusal (disagreement rec ws ∷ clock_number (millis_made c.0) ∷ cond (ltb c.0 rec.clock.0) 11 0 ∷ [])
  -- availability of a number that is refused has the number of that: after 2, and at a clock after the clock's own
  pub availability : (rec : Record) (ws : List ℕ) (n : WideNumber) → number_made n.0 ≡ None →
      answer_number (availability_in rec ws n) ≡ first_refusal (disagreement rec ws ∷ asked_number (number_made n.0) ∷ [])
  pub available_at : (rec : Record) (ws : List ℕ) (n : WideNumber) (c : WideMillis) → number_made n.0 ≡ None →
      answer_number (available_in rec ws n c) ≡ first_refusal (disagreement rec ws ∷ clock_number (millis_made c.0) ∷ asked_number (number_made n.0) ∷ [])
