-- Among the references of the runs left, what is left to skip decides.
use Rattle.std.proofs.Common.{◌≡◌, true}
use Rattle.runs.specs.Words.{references_of, kept_in}
use Rattle.runs.specs.Shape.{runs_shaped}
use Rattle.runs.specs.Walk.{runs_left}
use Rattle.lookups.specs.Available.{numbered}
use Rattle.lookups.proofs.numbers.nth.Given as goal

abbrev pub invariant-loop-run : goal.invariant-loop-run
invariant-loop-run l = record {
  so_far : numbered 0 (references_of (runs_left l.run-iterator)) l.skip ≡ numbered 0 (kept_in l.used l.table) l.n;
  rest : runs_shaped (runs_left l.run-iterator) ≡ true;
}
