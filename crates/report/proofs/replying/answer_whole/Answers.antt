-- The whole input is one piece.
use Rattle.std.proofs.Common.{rules}
use Rattle.report.proofs.Pieces.{whole_count, whole_bytes, whole_table}
use Rattle.report.proofs.replying.answer_whole.Goals as goal

pub returns-clause-value : goal.returns-clause-value
returns-clause-value c = search (rules, whole_count)

pub returns-clause-out_after : goal.returns-clause-out_after
returns-clause-out_after c = search (rules, whole_bytes)

pub returns-clause-table_after : goal.returns-clause-table_after
returns-clause-table_after c = search (rules, whole_table)
