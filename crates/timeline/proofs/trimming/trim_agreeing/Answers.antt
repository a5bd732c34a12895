-- `trim_agreeing` meets its contract: what is spent is dropped from the front and counted.
use Rattle.std.proofs.Common.{rules}
use Rattle.agreement.proofs.Agreeing.{agree_head, agree_shaped}
use Rattle.timeline.proofs.Trims.{trim_counts, trim_total, trim_greatest, trim_fits, trim_record, trim_table_lem}
use Rattle.timeline.proofs.trimming.trim_agreeing.Goals as goal

pub invariant_of-head : goal.invariant_of-head
invariant_of-head c = search (rules, agree_head)

pub passed_ends-passed-requires : goal.passed_ends-passed-requires
passed_ends-passed-requires c = search (rules, trim_greatest)

pub overflow_sub-rec : goal.overflow_sub-rec
overflow_sub-rec c = search (rules, trim_counts)

pub count_passed-spent-requires : goal.count_passed-spent-requires
count_passed-spent-requires c = search (rules, agree_shaped, trim_total)

pub drop_front-then-requires : goal.drop_front-then-requires
drop_front-then-requires c = search (rules, agree_shaped)

pub overflow_add-result : goal.overflow_add-result
overflow_add-result c = search (rules, trim_fits)

pub returns-clause-value : goal.returns-clause-value
returns-clause-value c = search (rules, trim_record)

pub returns-clause-table_after : goal.returns-clause-table_after
returns-clause-table_after c = search (rules, trim_table_lem)
