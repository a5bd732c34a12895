use Rattle.std.proofs.Common.{rules}
use Rattle.runs.proofs.Ends.{passed_quotient}
use Rattle.runs.proofs.Run.passed_by.Goals as goal

pub returns : goal.returns
returns c = search (rules, passed_quotient)
