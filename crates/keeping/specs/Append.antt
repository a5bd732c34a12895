-- An append that joins gives a duration and a count: references from the next tick on. It is refused with the lowest number
-- that applies, 6 to 9. Accepted, it counts all its references; of those kept and those new, what is not spent at the
-- greatest clock is kept, and the rest is counted as dropped. Paper: Append and trim; Refusal numbers, 6 to 9.
use Rattle.std.specs.Prelude.{Err, Ok, ℕ, ◌+◌, ◌*◌, List, ◌++◌, leb}
use Rattle.units.specs.Limits.{largest_tick}
use Rattle.window.specs.declared.Reference.{Reference}
use Rattle.window.specs.Place.{before_end}
use Rattle.runs.specs.Words.{repeated, capacity}
use Rattle.runs.specs.Encoding.{runs_for}
use Rattle.agreement.specs.declared.Record.{Record}
use Rattle.agreement.specs.declared.refusal.Refusal.TheVariants.{TickLimit, CountLimit, PastEnd, NoRunLeft}
use Rattle.agreement.specs.Agreement.{kept, every, counts_held}
use Rattle.agreement.specs.Rows.{◌unless◌else◌}
use Rattle.keeping.specs.Keeping.{Outcome}
use Rattle.keeping.specs.Keeping.{unspent, keeping}

-- n references of d ticks from the next tick on
abbrev pub given : Record → ℕ → ℕ → List Reference
given rec d n = repeated rec.next.0 d n

-- those kept followed by those given, and which of them are not spent
abbrev pub all_of : Record → List ℕ → ℕ → ℕ → List Reference
all_of rec ws d n = kept rec ws ++ given rec d n

abbrev pub unspent_of : Record → List ℕ → ℕ → ℕ → List Reference
unspent_of rec ws d n = unspent rec.head rec.clock.0 (all_of rec ws d n)

-- the record that has accepted them
abbrev pub counting : Record → ℕ → ℕ → Record
counting rec d n =
    record {
      head = rec.head;
      accepted = rec.accepted + n;
      dropped = rec.dropped;
      next = record { 0 = rec.next.0 + d * n };
      clock = rec.clock;
      used = rec.used;
    }

-- 9: the references that are not spent need more runs than the table has
unfoldable pub room_outcome : Record → List ℕ → ℕ → ℕ → Outcome
room_outcome rec ws d n = Err NoRunLeft unless leb (runs_for (unspent_of rec ws d n)) (capacity ws) else Ok tt

-- 6, 7, 8: all references of the append are judged, those spent at once too
unfoldable pub fit_outcome : Record → List ℕ → ℕ → ℕ → Outcome
fit_outcome rec ws d n =
    Err TickLimit unless leb (rec.next.0 + d * n) largest_tick else
    Err CountLimit unless counts_held rec.head.first.0 (rec.accepted + n) else
    Err PastEnd unless every (λ r. before_end rec.head r.start.0) (given rec d n) else
    room_outcome rec ws d n

-- the record after an accepted append
abbrev pub appended : Record → List ℕ → ℕ → ℕ → Record
appended rec ws d n = keeping (counting rec d n) (all_of rec ws d n) (unspent_of rec ws d n)
