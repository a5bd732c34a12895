use Rattle.runs.proofs.Walking.{rest_shaped}
use Rattle.lookups.proofs.Numbering.{seek_missing, seek_found, seek_again}
use Rattle.lookups.proofs.Spanning.{left_held}
use Rattle.lookups.proofs.numbers.nth.Goals as goal

pub reference-requires-clause-held : goal.reference-requires-clause-held
reference-requires-clause-held c = left_held _ _ _ c.in-Some.ensures.steps c.loop-run.invariant.rest

pub returns-then-skip-run : goal.returns-then-skip-run
returns-then-skip-run c =
    seek_found _ _ _ c.loop-run.invariant.so_far _ _ c.in-Some.ensures.steps c.if-skip-run.true _ c.reference.ensures

pub loop-run-preserved : goal.loop-run-preserved
loop-run-preserved c = record {
  so_far = seek_again _ _ _ c.loop-run.invariant.so_far _ _ c.in-Some.ensures.steps c.if-skip-run.false;
  rest = rest_shaped _ c.loop-run.invariant.rest _ _ c.in-Some.ensures.steps;
}

pub returns : goal.returns
returns c = seek_missing _ _ _ c.loop-run.invariant.so_far c.in-None.ensures.steps.0
