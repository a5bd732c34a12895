-- When a reference is available: from the period start plus its end less the offset, up to that plus the depth and its own
-- duration, that point excluded, or for ever where no depth is given. Points are signed grains counted from
-- availabilityStartTime, and the period does not cut them. The first kept reference's number is the first number plus
-- dropped, and each other's is one more than that of the one before it. Refused with 2 or 13, and at a clock also with 10.
-- Paper: Verdict and availability; Record and table; Refusal numbers.
use Rattle.std.specs.Prelude.{Option, Some, None, Result, Err, Ok, ℕ, suc, ◌+◌, ◌*◌, Bool, true, cond, ◌&&◌, List, [], ◌∷◌, eqb, ℤ, pos, ◌+ℤ◌}
use Rattle.std.specs.Int.Signed.{le_z, lt_z}
use Rattle.units.specs.declared.WideMillis.{WideMillis}
use Rattle.units.specs.declared.WideNumber.{WideNumber}
use Rattle.units.specs.Limits.{clock_held}
use Rattle.window.specs.declared.Head.{Head}
use Rattle.window.specs.declared.Reference.{Reference}
use Rattle.window.specs.Place.{place}
use Rattle.window.specs.Window.{end_of}
use Rattle.agreement.specs.declared.Record.{Record}
use Rattle.agreement.specs.declared.refusal.Refusal.{Refusal}
use Rattle.agreement.specs.declared.refusal.Refusal.TheVariants.{Disagreement, ClockLimit, NotKept}
use Rattle.agreement.specs.Agreement.{agrees, kept}
use Rattle.agreement.specs.Rows.{◌unless◌else◌}
use Rattle.lookups.specs.declared.Availability.{Availability}
use Rattle.lookups.specs.declared.Availability.TheVariants.{Ends, NeverEnds}

-- the reference of a number, among references of which the first has number m
unfoldable pub numbered : ℕ → List Reference → ℕ → Option Reference
numbered m [] n = None
numbered m (r ∷ rs) n = cond (eqb m n) (Some r) (numbered (suc m) rs n)

-- the kept reference of a number
abbrev pub kept_number : Record → List ℕ → ℕ → Option Reference
kept_number rec ws n = numbered (rec.head.first.0 + rec.dropped) (kept rec ws) n

-- so many milliseconds in grains
abbrev pub lasting : Head → ℕ → ℤ
lasting h ms = pos (ms * h.timescale.0)

abbrev pub available_from : Head → Reference → ℤ
available_from h r = lasting h h.start.0 +ℤ place h (end_of r)

abbrev pub available_upto : Head → Reference → ℤ
available_upto h r = available_from h r +ℤ lasting h h.depth.0 +ℤ pos (r.span.0 * 1000)

abbrev pub availability_of : Head → Reference → Availability
availability_of h r =
    cond (eqb h.depth.0 0)
    (NeverEnds (record { 0 = available_from h r }))
    (Ends (record { 0 = available_from h r }) (record { 0 = available_upto h r }))

-- whether a reference is available at a clock
abbrev pub available : Head → Reference → ℕ → Bool
available h r c = le_z (available_from h r) (lasting h c) && cond (eqb h.depth.0 0) true (lt_z (lasting h c) (available_upto h r))

abbrev pub number_availability : Head → Option Reference → Result Availability Refusal
number_availability h None = Err NotKept
number_availability h (Some r) = Ok (availability_of h r)

abbrev pub number_available : Head → ℕ → Option Reference → Result Bool Refusal
number_available h c None = Err NotKept
number_available h c (Some r) = Ok (available h r c)

abbrev pub availability_in : Record → List ℕ → WideNumber → Result Availability Refusal
availability_in rec ws n =
    Err Disagreement unless agrees rec ws else
    number_availability rec.head (kept_number rec ws n.0)

abbrev pub available_in : Record → List ℕ → WideNumber → WideMillis → Result Bool Refusal
available_in rec ws n c =
    Err Disagreement unless agrees rec ws else
    Err ClockLimit unless clock_held c else
    number_available rec.head c.0 (kept_number rec ws n.0)
