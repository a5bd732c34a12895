-- The full tick of a stamp is the right one. Within half a circle of the next tick there is one tick at most that shows the stamp, and
-- it is named wherever it lies within the limit of a tick, and nothing else is; so none is named exactly where there is none. It stands
-- to the next tick as the stamp does: an append by it joins, is a gap or is an overlap where one by the stamp is.
-- Paper: Append and trim (by stamp); Refusal numbers, 2; By hand.
use Rattle.std.specs.Prelude.{Err, None, Ok, Option, Result, Some, ℕ, ◌+◌, ◌^◌, ◌%◌, ◌≤◌, ◌<◌, ◌≡◌, true, false, List}
use Rattle.units.specs.declared.Stamp.{Stamp}
use Rattle.units.specs.declared.Tick.{Tick}
use Rattle.units.specs.Exactly.{ExactlyWhen}
use Rattle.units.specs.Limits.{largest_tick}
use Rattle.units.specs.Standing.{tick_standing, stamp_standing}
use Rattle.agreement.specs.declared.Record.{Record}
use Rattle.agreement.specs.declared.refusal.Refusal.{Refusal}
use Rattle.agreement.specs.declared.refusal.Refusal.TheVariants.{Disagreement}
use Rattle.agreement.specs.Agreement.{agrees}
use Rattle.lookups.specs.Stamps.{full_tick_in}
use Rattle.laws.specs.Calls.{State, opening}
use Rattle.laws.specs.ByHand.{tick, stamp, full, head_c, open_b, open_c}

-- a tick within the limit shows the stamp, and lies within half a circle of the next tick: behind it by 2^31 at most, ahead by less
pub record Shows (next : Tick) (s : Stamp) (t : Tick) : Type 0 where
  pub held : t.0 ≤ largest_tick
  pub low : t.0 % 2 ^ 32 ≡ s.0
  pub behind : next.0 ≤ t.0 + 2 ^ 31
  pub ahead : t.0 < next.0 + 2 ^ 31

-- the answer for a state and a stamp, given as numbers
abbrev pub full_of : State → ℕ → Result (Option Tick) Refusal
full_of x n = full_tick_in x.rec x.words (stamp n)

-- a timeline that was opened at the last tick of all
abbrev pub open_last : State
open_last = opening head_c (tick largest_tick) (full 3)

-- a stamp is one of 32 bits, as its type says
pub record FullTickRight : Type 0 where
  -- where record and table agree, a tick is named exactly where it shows the stamp so
  pub named : (rec : Record) (ws : List ℕ) (s : Stamp) (t : Tick) → s.0 < 2 ^ 32 → agrees rec ws ≡ true →
      ExactlyWhen (full_tick_in rec ws s ≡ Ok (Some t)) (Shows rec.next s t)
  -- and there is one at most
  pub one : (next : Tick) (s : Stamp) (t u : Tick) → Shows next s t → Shows next s u → t ≡ u
  -- none is named exactly where there is none
  pub nowhere : (rec : Record) (ws : List ℕ) (s : Stamp) → s.0 < 2 ^ 32 → agrees rec ws ≡ true →
      ExactlyWhen (full_tick_in rec ws s ≡ Ok None) ((t : Tick) → Shows rec.next s t → ⊥)
  -- it stands to the next tick as the stamp does
  pub stands : (rec : Record) (ws : List ℕ) (s : Stamp) (t : Tick) → s.0 < 2 ^ 32 → agrees rec ws ≡ true → full_tick_in rec ws s ≡ Ok (Some t) →
      tick_standing (record { 0 = t.0 }) rec.next ≡ stamp_standing s rec.next
  -- refused with 2, exactly where record and table disagree
  pub refused : (rec : Record) (ws : List ℕ) (s : Stamp) (why : Refusal) →
      ExactlyWhen (full_tick_in rec ws s ≡ Err why) ((agrees rec ws ≡ false) × (why ≡ Disagreement))
  -- C: the next tick is 4,294,970,000. The stamps around it, and the last one before the counter went round
  pub c_joins : full_of open_c 2704 ≡ Ok (Some (tick 4_294_970_000))
  pub c_gap : full_of open_c 2705 ≡ Ok (Some (tick 4_294_970_001))
  pub c_overlap : full_of open_c 2703 ≡ Ok (Some (tick 4_294_969_999))
  pub c_before_the_turn : full_of open_c 4_294_967_295 ≡ Ok (Some (tick 4_294_967_295))
  -- C: the last that lies ahead; and exactly 2^31 away, which lies behind
  pub c_last_gap : full_of open_c 2_147_486_351 ≡ Ok (Some (tick 6_442_453_647))
  pub c_half : full_of open_c 2_147_486_352 ≡ Ok (Some (tick 2_147_486_352))
  -- below 0 there is none: B opens at tick 0
  pub b_below : full_of open_b 4_294_967_295 ≡ Ok None
  pub b_half : full_of open_b 2_147_483_648 ≡ Ok None
  pub b_ahead : full_of open_b 2_147_483_647 ≡ Ok (Some (tick 2_147_483_647))
  -- nor over the limit: 2^52 - 1 is the last tick, and has the stamp 2^32 - 1
  pub last_joins : full_of open_last 4_294_967_295 ≡ Ok (Some (tick largest_tick))
  pub last_over : full_of open_last 0 ≡ Ok None
