use Rattle.std.proofs.Common.{rules}
use Rattle.runs.proofs.Dropping.{cut_within, emptied_used, emptied_table, first_within, first_ends, dropped_used, dropped_table}
use Rattle.runs.proofs.table.drop_front.Goals as goal

pub remove_runs-left-requires-clause-dropped_le_used : goal.remove_runs-left-requires-clause-dropped_le_used
remove_runs-left-requires-clause-dropped_le_used c = search (rules, cut_within)

pub returns-then-left-eq0-clause-value : goal.returns-then-left-eq0-clause-value
returns-then-left-eq0-clause-value c = search (rules, emptied_used)

pub returns-then-left-eq0-clause-table_after : goal.returns-then-left-eq0-clause-table_after
returns-then-left-eq0-clause-table_after c = search (rules, emptied_table)

pub less_first-requires : goal.less_first-requires
less_first-requires c = (search (rules, first_within), search (rules, first_ends))

pub returns-clause-value : goal.returns-clause-value
returns-clause-value c = search (rules, dropped_used)

pub returns-clause-table_after : goal.returns-clause-table_after
returns-clause-table_after c = search (rules, dropped_table)
