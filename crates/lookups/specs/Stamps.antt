-- The full tick of a stamp by the next tick of a record, or none; refused with 2 where record and table disagree. Which tick that
-- is, is the rule of units/Full. Paper: Append and trim (by stamp); Refusal numbers, 2.
use Rattle.std.specs.Prelude.{Option, Result, Err, Ok, ℕ, List}
use Rattle.units.specs.declared.Stamp.{Stamp}
use Rattle.units.specs.declared.Tick.{Tick}
use Rattle.units.specs.Full.{full_tick}
use Rattle.agreement.specs.declared.Record.{Record}
use Rattle.agreement.specs.declared.refusal.Refusal.{Refusal}
use Rattle.agreement.specs.declared.refusal.Refusal.TheVariants.{Disagreement}
use Rattle.agreement.specs.Agreement.{agrees}
use Rattle.agreement.specs.Rows.{◌unless◌else◌}

abbrev pub full_tick_in : Record → List ℕ → Stamp → Result (Option Tick) Refusal
full_tick_in rec ws stamp =
    Err Disagreement unless agrees rec ws else
    Ok (full_tick stamp rec.next)
