use Rattle.std.proofs.Common.{rules}
use Rattle.runs.proofs.Storing.{more_used, more_there, more_stored, longer_used, longer_fits, longer_stored}
use Rattle.runs.proofs.table.store.Goals as goal

pub put_run-requires : goal.put_run-requires
put_run-requires c = search (rules, more_there)

pub returns-then-needs_run-clause-value : goal.returns-then-needs_run-clause-value
returns-then-needs_run-clause-value c = search (rules, more_used)

pub returns-then-needs_run-clause-table_after : goal.returns-then-needs_run-clause-table_after
returns-then-needs_run-clause-table_after c = search (rules, more_stored)

pub overflow_add-count : goal.overflow_add-count
overflow_add-count c = search (rules, longer_fits)

pub returns-clause-value : goal.returns-clause-value
returns-clause-value c = search (rules, longer_used)

pub returns-clause-table_after : goal.returns-clause-table_after
returns-clause-table_after c = search (rules, longer_stored)
