use Rattle.std.proofs.Common.{ap, ◌∙◌, arith}
use mathlib.Core.Logic.{inl}
use Rattle.runs.proofs.Walking.{left_more, count_fits, cut_none, cut_more, cut_here, cut_all, first_fits, first_left}
use Rattle.runs.specs.Walk.{runs_left}
use Rattle.runs.proofs.table.cut_at.Goals as goal

pub loop-whole-init : goal.loop-whole-init
loop-whole-init c =
    let it = c.into_iter-whole-iterator.ensures.into_iter_gives in
    let count = ap (λ e. e.count) it ∙ c.enumerate-whole-items.ensures.count in
    let left = ap (λ e. runs_left e.iter) it ∙ ap runs_left c.enumerate-whole-items.ensures.source ∙ c.of.ensures in
    record {
      can = (tt, tt, inl (first_fits _ _ _ _ count left c.ranges.used));
      ends = tt;
      left = first_left _ _ _ _ count left;
      counted = cut_none _ _ _ count;
    }

pub loop-whole-preserved : goal.loop-whole-preserved
loop-whole-preserved c =
    let s = c.in-Some.ensures.steps in
    record {
      can = (tt, tt, inl (count_fits _ _ _ _ c.loop-whole.invariant.left _ _ s.0 _ s.2 c.ranges.used));
      ends = tt;
      left = left_more _ _ _ _ c.loop-whole.invariant.left _ _ s.0 _ s.2;
      counted = cut_more _ _ _ _ c.loop-whole.invariant.left _ _ s.0 _ _ c.loop-whole.invariant.counted _ s.2 (omega (arith, c.if-into-run.false));
    }

pub returns-then-into-run : goal.returns-then-into-run
returns-then-into-run c =
    let s = c.in-Some.ensures.steps in
    cut_here _ _ _ _ c.loop-whole.invariant.left _ _ s.0 _ _ c.loop-whole.invariant.counted _ s.1 c.if-into-run.true

pub returns : goal.returns
returns c = cut_all _ _ _ _ c.loop-whole.invariant.left _ _ c.loop-whole.invariant.counted c.in-None.ensures.steps.0.0
