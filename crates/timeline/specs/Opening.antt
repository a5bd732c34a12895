-- Opening takes the head fields and a first tick, zeroes the table, and sets counts and clock to 0. It is refused where a
-- field or the first tick is over its limit: then the record is zero and the table as it came. Paper: Record and table;
-- Refusal numbers, 1.
use Rattle.std.specs.Prelude.{Err, Ok, ℕ, ◌&&◌, List, length, replicate}
use Rattle.units.specs.declared.Tick.{Tick}
use Rattle.units.specs.Limits.{tick_held}
use Rattle.window.specs.declared.Head.{Head}
use Rattle.window.specs.Limits.{head_held}
use Rattle.agreement.specs.declared.Record.{Record}
use Rattle.agreement.specs.declared.refusal.Refusal.TheVariants.{OverLimit}
use Rattle.agreement.specs.Rows.{◌unless◌else◌}
use Rattle.keeping.specs.Keeping.{Outcome}
use Rattle.keeping.specs.declared.Changed.{Changed}
use Rattle.keeping.specs.Keeping.{changed_by, words_by}

-- a record that has accepted nothing yet
abbrev pub fresh_record : Head → Tick → Record
fresh_record h t = record { head = h; accepted = 0; dropped = 0; next = t; clock = record { 0 = 0 }; used = 0 }

abbrev pub zero_record : Record
zero_record =
    fresh_record
    (record {
      timescale = record { 0 = 0 };
      offset = record { 0 = 0 };
      start = record { 0 = 0 };
      duration = record { 0 = 0 };
      depth = record { 0 = 0 };
      first = record { 0 = 0 };
      update = record { 0 = 0 };
    })
    (record { 0 = 0 })

unfoldable pub open_outcome : Head → Tick → Outcome
open_outcome h t = Err OverLimit unless head_held h && tick_held t else Ok tt

abbrev pub open_answer : Head → Tick → Changed
open_answer h t = changed_by (open_outcome h t) (fresh_record h t) zero_record

abbrev pub open_table : Head → Tick → List ℕ → List ℕ
open_table h t ws = words_by (open_outcome h t) (replicate (length ws) 0) ws
