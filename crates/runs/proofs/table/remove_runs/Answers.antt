use Rattle.std.proofs.Common.{rules}
use Rattle.runs.proofs.Dropping.{removed_none, removed}
use Rattle.runs.proofs.table.remove_runs.Goals as goal

pub returns-then-dropped-eq0-clause-table_after : goal.returns-then-dropped-eq0-clause-table_after
returns-then-dropped-eq0-clause-table_after c = search (rules, removed_none)

pub returns-clause-table_after : goal.returns-clause-table_after
returns-clause-table_after c = search (rules, removed)
