-- The covered edge: the latest clock, within its limit, at which the window's upper edge is at or before the next tick's place.
-- So it is the limit itself where the next tick reaches a known period end, and there is none where the upper edge lies after
-- that place at clock 0 already. Refused with 2. It knows nothing of the lower edge: up to it a verdict may still be lacking, since
-- older references may be missing. And it may lie before the greatest clock, where a verdict is refused with 11.
-- Paper: Window, needed, spent; Refusal numbers.
use Rattle.std.specs.Prelude.{Option, Some, None, Result, Err, Ok, ℕ, zero, suc, Bool, cond, List}
use Rattle.std.specs.Int.Signed.{le_z}
use Rattle.units.specs.declared.Millis.{Millis}
use Rattle.units.specs.Limits.{largest_millis}
use Rattle.window.specs.declared.Head.{Head}
use Rattle.window.specs.Place.{place}
use Rattle.window.specs.Window.{high_edge}
use Rattle.agreement.specs.declared.Record.{Record}
use Rattle.agreement.specs.declared.refusal.Refusal.{Refusal}
use Rattle.agreement.specs.declared.refusal.Refusal.TheVariants.{Disagreement}
use Rattle.agreement.specs.Agreement.{agrees}
use Rattle.agreement.specs.Rows.{◌unless◌else◌}

-- whether the window's upper edge at clock c is at or before the place of tick k
abbrev pub at_or_before : Head → ℕ → ℕ → Bool
at_or_before h k c = le_z (high_edge h c) (place h k)

-- the latest clock up to n that passes a test, or none
unfoldable pub latest_upto : (ℕ → Bool) → ℕ → Option Millis
latest_upto p zero = cond (p zero) (Some (record { 0 = zero })) None
latest_upto p (suc n) = cond (p (suc n)) (Some (record { 0 = suc n })) (latest_upto p n)

-- of a head and its next tick
abbrev pub edge_of : Head → ℕ → Option Millis
edge_of h next = latest_upto (at_or_before h next) largest_millis

abbrev pub covered_edge : Record → List ℕ → Result (Option Millis) Refusal
covered_edge rec ws =
    Err Disagreement unless agrees rec ws else
    Ok (edge_of rec.head rec.next.0)
