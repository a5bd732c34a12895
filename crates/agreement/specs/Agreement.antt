-- When record and table agree. The table is shaped; every limit is held; dropped is at most accepted, and the two limits on
-- accepted are held; there are as many references as were accepted and not dropped; the last ends at the next tick; none is
-- spent at the greatest clock; each starts before the period end. Paper: Record and table; Refusal numbers, 2 and 7.
use Rattle.std.specs.Prelude.{ℕ, ◌+◌, ◌-◌, ◌^◌, Bool, true, ◌&&◌, not, List, [], ◌∷◌, eqb, leb, length}
use Rattle.units.specs.Limits.{largest_number, tick_held, millis_held}
use Rattle.window.specs.declared.Reference.{Reference}
use Rattle.window.specs.Limits.{head_held}
use Rattle.window.specs.Place.{before_end}
use Rattle.window.specs.Window.{end_of, passed}
use Rattle.runs.specs.Words.{kept_in}
use Rattle.runs.specs.Shape.{shaped}
use Rattle.runs.specs.Ends.{last_end}
use Rattle.agreement.specs.declared.Record.{Record}

-- the references that record and table keep, oldest first
abbrev pub kept : Record → List ℕ → List Reference
kept rec ws = kept_in rec.used ws

-- a test that every reference passes
unfoldable pub every : (Reference → Bool) → List Reference → Bool
every t [] = true
every t (r ∷ rs) = t r && every t rs

-- accepted references are at most 2^31, and their numbers at most 2^32 - 1
abbrev pub counts_held : ℕ → ℕ → Bool
counts_held first accepted = leb accepted (2 ^ 31) && leb (first + accepted) largest_number

abbrev pub record_held : Record → Bool
record_held rec =
    head_held rec.head && tick_held rec.next && millis_held rec.clock && leb rec.dropped rec.accepted &&
    counts_held rec.head.first.0 rec.accepted

-- what the table must keep, if it is shaped
abbrev pub kept_right : Record → List Reference → Bool
kept_right rec rs =
    eqb (length rs) (rec.accepted - rec.dropped) && eqb (last_end rec.next.0 rs) rec.next.0 &&
    every (λ r. not (passed rec.head (end_of r) rec.clock.0)) rs && every (λ r. before_end rec.head r.start.0) rs

unfoldable pub agrees : Record → List ℕ → Bool
agrees rec ws = record_held rec && shaped rec.used ws && kept_right rec (kept rec ws)
