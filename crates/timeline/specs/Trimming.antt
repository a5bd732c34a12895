-- A trim raises the greatest clock to the given one if that is larger, and drops what is spent. An earlier clock changes
-- nothing and is accepted. Paper: Append and trim; Refusal numbers, 2 and 10.
use Rattle.std.specs.Prelude.{Err, Ok, ℕ, max, List}
use Rattle.units.specs.declared.WideMillis.{WideMillis}
use Rattle.units.specs.Limits.{clock_held}
use Rattle.window.specs.declared.Reference.{Reference}
use Rattle.agreement.specs.declared.Record.{Record}
use Rattle.agreement.specs.declared.refusal.Refusal.TheVariants.{Disagreement, ClockLimit}
use Rattle.agreement.specs.Agreement.{kept, agrees}
use Rattle.agreement.specs.Rows.{◌unless◌else◌}
use Rattle.keeping.specs.Keeping.{Outcome}
use Rattle.keeping.specs.declared.Changed.{Changed}
use Rattle.keeping.specs.Keeping.{unspent, keeping, words_keeping, changed_by, words_by}

-- the record at the greater of its clock and c
abbrev pub clock_raised : Record → ℕ → Record
clock_raised rec c =
    record {
      head = rec.head;
      accepted = rec.accepted;
      dropped = rec.dropped;
      next = rec.next;
      clock = record { 0 = max rec.clock.0 c };
      used = rec.used;
    }

-- the kept references that are not spent then
abbrev pub unspent_at : Record → List ℕ → ℕ → List Reference
unspent_at rec ws c = unspent rec.head (max rec.clock.0 c) (kept rec ws)

unfoldable pub trim_outcome : Record → List ℕ → WideMillis → Outcome
trim_outcome rec ws c =
    Err Disagreement unless agrees rec ws else
    Err ClockLimit unless clock_held c else
    (Ok tt)

abbrev pub trimmed : Record → List ℕ → ℕ → Record
trimmed rec ws c = keeping (clock_raised rec c) (kept rec ws) (unspent_at rec ws c)

abbrev pub trim_answer : Record → List ℕ → WideMillis → Changed
trim_answer rec ws c = changed_by (trim_outcome rec ws c) (trimmed rec ws c.0) rec

abbrev pub trim_table : Record → List ℕ → WideMillis → List ℕ
trim_table rec ws c = words_by (trim_outcome rec ws c) (words_keeping ws (unspent_at rec ws c.0)) ws
