-- The references of the runs passed are counted, those of the runs left are not.
use Rattle.std.proofs.Common.{◌≡◌, true, ◌+◌}
use Rattle.runs.specs.Words.{references_of, kept_in}
use Rattle.runs.specs.Shape.{runs_shaped}
use Rattle.runs.specs.Steps.{passed_upto}
use Rattle.runs.specs.Walk.{runs_left}
use Rattle.runs.proofs.table.passed_upto.Given as goal

abbrev pub invariant-loop-run : goal.invariant-loop-run
invariant-loop-run l = record {
  so_far : l.passed + passed_upto l.t.0 (references_of (runs_left l.run-iterator)) ≡ passed_upto l.t.0 (kept_in l.used l.table);
  rest : runs_shaped (runs_left l.run-iterator) ≡ true;
}
