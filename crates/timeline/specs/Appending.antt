-- An append gives a start, a duration and a count. It is refused with the lowest number that applies: here 2 to 5, and where
-- it joins, 6 to 9 as in `keeping`'s Append. Accepted, the table is the canonical one of those kept and those new that are not
-- spent. Paper: Append and trim; Refusal numbers, 2 to 9.
use Rattle.std.specs.Prelude.{Err, ℕ, ◌||◌, List, eqb}
use Rattle.units.specs.declared.standing.Standing.{Standing}
use Rattle.units.specs.declared.standing.Standing.TheVariants.{Joins, Gap, Overlap}
use Rattle.agreement.specs.declared.Record.{Record}
use Rattle.agreement.specs.declared.refusal.Refusal.TheVariants as refusal
use Rattle.agreement.specs.Agreement.{agrees}
use Rattle.agreement.specs.Rows.{◌unless◌else◌, ◌when◌else◌}
use Rattle.keeping.specs.Keeping.{Outcome}
use Rattle.keeping.specs.declared.Changed.{Changed}
use Rattle.keeping.specs.Keeping.{words_keeping, changed_by, words_by}
use Rattle.keeping.specs.Append.{unspent_of, fit_outcome, appended}

infixr 1 unjoined◌else◌
-- 4 or 5, with the distance, where the start does not join, else what comes
abbrev pub unjoined◌else◌ : Standing → Outcome → Outcome
unjoined (Gap d) else next = Err (refusal.Gap d)
unjoined (Overlap d) else next = Err (refusal.Overlap d)
unjoined Joins else next = next

-- 2, 3, 4 or 5, then 6 to 9
unfoldable pub append_outcome : Record → List ℕ → Standing → ℕ → ℕ → Outcome
append_outcome rec ws st d n =
    Err refusal.Disagreement unless agrees rec ws else
    Err refusal.NothingGiven when eqb d 0 || eqb n 0 else
    unjoined st else
    fit_outcome rec ws d n

abbrev pub append_answer : Record → List ℕ → Standing → ℕ → ℕ → Changed
append_answer rec ws st d n = changed_by (append_outcome rec ws st d n) (appended rec ws d n) rec

abbrev pub append_table : Record → List ℕ → Standing → ℕ → ℕ → List ℕ
append_table rec ws st d n = words_by (append_outcome rec ws st d n) (words_keeping ws (unspent_of rec ws d n)) ws
