use Rattle.std.proofs.Common.{rules}
use Rattle.runs.proofs.Walking.{span_lasts, rest_shaped, passed_fits, passed_more, passed_here, passed_whole}
use Rattle.runs.proofs.table.passed_upto.Goals as goal

pub passed_by-here-requires : goal.passed_by-here-requires
passed_by-here-requires c = search (rules, span_lasts)

pub overflow_add-result : goal.overflow_add-result
overflow_add-result c =
    passed_fits _ _ c.requires _ _ _
    (passed_more _ c.loop-run.invariant.rest _ _ c.in-Some.ensures.steps _ _ _ _ c.loop-run.invariant.so_far c.passed_by-here.ensures)

pub returns-then-here-run : goal.returns-then-here-run
returns-then-here-run c =
    passed_here _ c.loop-run.invariant.rest _ _ c.in-Some.ensures.steps _ _ _ _ c.loop-run.invariant.so_far c.passed_by-here.ensures c.if-here-run.true

pub overflow_add-passed : goal.overflow_add-passed
overflow_add-passed c =
    passed_fits _ _ c.requires _ _ _
    (passed_more _ c.loop-run.invariant.rest _ _ c.in-Some.ensures.steps _ _ _ _ c.loop-run.invariant.so_far c.passed_by-here.ensures)

pub loop-run-preserved : goal.loop-run-preserved
loop-run-preserved c = record {
  so_far = passed_more _ c.loop-run.invariant.rest _ _ c.in-Some.ensures.steps _ _ _ _ c.loop-run.invariant.so_far c.passed_by-here.ensures;
  rest = search (rules, rest_shaped);
}

pub returns : goal.returns
returns c = passed_whole _ _ _ _ c.loop-run.invariant.so_far c.in-None.ensures.steps.0
