use Rattle.std.proofs.Common.{rules}
use Rattle.runs.proofs.Moving.{run_put}
use Rattle.runs.proofs.table.put_run.Goals as goal

pub returns : goal.returns
returns c = search (rules, run_put)
