use Rattle.std.proofs.Common.{rules}
use Rattle.runs.proofs.Walked.{runs_taken}
use Rattle.runs.proofs.walk.Runs.of.Goals as goal

pub returns : goal.returns
returns c = search (rules, runs_taken)
