use Rattle.std.proofs.Common.{ap, ◌∙◌}
use mathlib.Core.Logic.{inl}
use Rattle.runs.specs.Walk.{runs_left}
use Rattle.runs.proofs.Walking.{rest_shaped}
use Rattle.lookups.proofs.Spanning.{front_first, front_counted, front_fits, front_none, front_found, front_again, counted_more, left_held, used_shaped}
use Rattle.lookups.proofs.spans.before_first.Goals as goal

pub loop-before-init : goal.loop-before-init
loop-before-init c =
    let it = c.into_iter-before-iterator.ensures.into_iter_gives in
    let count = ap (λ e. e.count) it ∙ c.enumerate-before-items.ensures.count in
    let left = ap (λ e. runs_left e.iter) it ∙ ap runs_left c.enumerate-before-items.ensures.source ∙ c.of.ensures in
    let counted = front_counted _ _ _ _ count left in
    record {
      can = (tt, tt, inl (front_fits _ _ _ counted c.ranges.used));
      ends = tt;
      counted = counted;
      shape = used_shaped _ _ _ left c.requires.0;
      so_far = front_first _ _ _ _ count left _;
    }

pub run_touches-requires : goal.run_touches-requires
run_touches-requires c = (left_held _ _ _ c.in-Some.ensures.steps.0 c.loop-before.invariant.shape, c.requires.1)

pub returns-then-run_touches : goal.returns-then-run_touches
returns-then-run_touches c =
    let s = c.in-Some.ensures.steps in
    s.1 ∙ front_found _ _ _ _ c.loop-before.invariant.so_far _ _ s.0 _ c.run_touches.ensures c.if-run_touches.true

pub loop-before-preserved : goal.loop-before-preserved
loop-before-preserved c =
    let s = c.in-Some.ensures.steps in
    let i = c.loop-before.invariant in
    let counted = counted_more _ _ _ s.0 _ _ _ i.counted s.2 in
    record {
      can = (tt, tt, inl (front_fits _ _ _ counted c.ranges.used));
      ends = tt;
      counted = counted;
      shape = rest_shaped _ i.shape _ _ s.0;
      so_far = front_again _ _ _ _ i.so_far _ _ s.0 _ c.run_touches.ensures _ s.2 c.if-run_touches.false;
    }

pub returns : goal.returns
returns c = front_none _ _ _ _ c.loop-before.invariant.so_far _ c.loop-before.invariant.counted c.in-None.ensures.steps.0.0
