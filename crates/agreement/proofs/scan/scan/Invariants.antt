-- What is left to walk, after the last run and the count so far, decides.
use Rattle.runs.specs.Words.{runs_of}
use Rattle.runs.specs.Walk.{runs_left}
use Rattle.agreement.proofs.Scanning.{Passing}
use Rattle.agreement.proofs.scan.scan.Given as goal

abbrev pub invariant-loop-run : goal.invariant-loop-run
invariant-loop-run l = Passing (runs_of l.used l.table) l.first l.last l.total (runs_left l.run-iterator)
