-- What the inner step that passes over the used runs of any words finds, and when that is what the record says. It states no
-- rule of the paper: `agrees` does (Agreement).
use Rattle.std.specs.Prelude.{suc, ◌+◌, ◌*◌, ◌-◌, Bool, false, cond, ◌&&◌, not, eqb, List, [], ◌∷◌, length}
use Rattle.window.specs.declared.Reference.{Reference}
use Rattle.window.specs.Place.{before_end}
use Rattle.window.specs.Window.{end_of, passed}
use Rattle.runs.specs.declared.Run.{Run}
use Rattle.runs.specs.Ends.{Within}
use Rattle.agreement.specs.declared.Record.{Record}
use Rattle.runs.specs.Words.{references_of}
use Rattle.runs.specs.Shape.{runs_shaped}
use Rattle.agreement.specs.declared.Found.{Found}
use Rattle.agreement.specs.declared.Found.TheVariants.{Unshaped, Nothing, Kept}

-- the first and the last reference of a run
abbrev pub first_in : Run → Reference
first_in r = record { start = r.start; span = r.span }

abbrev pub last_in : Run → Reference
last_in r = record { start = record { 0 = r.start.0 + r.span.0 * (r.count - 1) }; span = r.span }

unfoldable pub last_of : Reference → List Reference → Reference
last_of r [] = r
last_of r (x ∷ xs) = last_of x xs

-- a list of references by its first, its last and its length
abbrev pub summary : List Reference → Found
summary [] = Nothing
summary (r ∷ rs) = Kept r (last_of r rs) (suc (length rs))

abbrev pub found : List Run → Found
found rs = cond (runs_shaped rs) (summary (references_of rs)) Unshaped

-- references within the limits of their units
abbrev pub Sized : Found → Type 0
Sized Unshaped = Unit {0}
Sized Nothing = Unit {0}
Sized (Kept f l n) = Within f × Within l

-- what is found is what the record says: as many references, the last ending at the next tick and starting before the period
-- end, the first not yet spent
abbrev pub found_right : Record → Found → Bool
found_right rec Unshaped = false
found_right rec Nothing = eqb 0 (rec.accepted - rec.dropped)
found_right rec (Kept f l n) =
    eqb n (rec.accepted - rec.dropped) && eqb (end_of l) rec.next.0 && not (passed rec.head (end_of f) rec.clock.0) &&
    before_end rec.head l.start.0
