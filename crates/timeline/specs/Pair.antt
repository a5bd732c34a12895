-- One call for a segment: an append, and a trim behind it. It is refused with 2, then with 10 for a clock over its limit, then as the append
-- is; so the append's refusals, room among them, are judged before the trim and at the greatest clock before the call. Accepted, the record and
-- the table are those of the append and then of the trim; refused, they are as they came. Paper: Append and trim; Refusal numbers, 2 to 10;
-- document 02, W-208.
use Rattle.std.specs.Prelude.{Err, ℕ, List}
use Rattle.units.specs.declared.WideMillis.{WideMillis}
use Rattle.units.specs.declared.standing.Standing.{Standing}
use Rattle.units.specs.Limits.{clock_held}
use Rattle.agreement.specs.declared.Record.{Record}
use Rattle.agreement.specs.declared.refusal.Refusal.TheVariants.{Disagreement, ClockLimit}
use Rattle.agreement.specs.Agreement.{agrees}
use Rattle.agreement.specs.Rows.{◌unless◌else◌}
use Rattle.keeping.specs.Keeping.{Outcome}
use Rattle.keeping.specs.declared.Changed.{Changed}
use Rattle.keeping.specs.Keeping.{changed_by, words_by}
use Rattle.timeline.specs.Appending.{append_outcome, append_answer, append_table}
use Rattle.timeline.specs.Trimming.{trim_answer, trim_table}

unfoldable pub pair_outcome : Record → List ℕ → Standing → ℕ → ℕ → WideMillis → Outcome
pair_outcome rec ws st d n c =
    Err Disagreement unless agrees rec ws else
    Err ClockLimit unless clock_held c else
    append_outcome rec ws st d n

-- the append, and the trim of what it leaves
abbrev pub pair_record : Record → List ℕ → Standing → ℕ → ℕ → WideMillis → Record
pair_record rec ws st d n c = (trim_answer (append_answer rec ws st d n).rec (append_table rec ws st d n) c).rec

abbrev pub pair_words : Record → List ℕ → Standing → ℕ → ℕ → WideMillis → List ℕ
pair_words rec ws st d n c = trim_table (append_answer rec ws st d n).rec (append_table rec ws st d n) c

abbrev pub pair_answer : Record → List ℕ → Standing → ℕ → ℕ → WideMillis → Changed
pair_answer rec ws st d n c = changed_by (pair_outcome rec ws st d n c) (pair_record rec ws st d n c) rec

abbrev pub pair_table : Record → List ℕ → Standing → ℕ → ℕ → WideMillis → List ℕ
pair_table rec ws st d n c = words_by (pair_outcome rec ws st d n c) (pair_words rec ws st d n c) ws
