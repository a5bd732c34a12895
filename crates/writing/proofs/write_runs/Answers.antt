use Rattle.std.proofs.Common.{rules, refl, ap, ◌∙◌}
use mathlib.Core.Logic.{inl}
use Rattle.runs.specs.Walk.{runs_left}
use Rattle.writing.proofs.Output.{first_counted, next_counted, index_fits, placed, lined_first, room_first, lined_some, lined_asks, lined_fits, lined_more, room_more, lined_length, lined_all}
use Rattle.writing.proofs.write_runs.Goals as goal

pub loop-i-init : goal.loop-i-init
loop-i-init c =
    let it = c.into_iter-i-iterator.ensures.into_iter_gives in
    let count = ap (λ e. e.count) it ∙ c.enumerate-i-items.ensures.count in
    let left = ap (λ e. runs_left e.iter) it ∙ ap runs_left c.enumerate-i-items.ensures.source ∙ c.of.ensures in
    let counted = first_counted _ _ _ _ count left in
    record {
      can = (tt, tt, inl (index_fits _ _ _ counted c.ranges.used));
      ends = tt;
      counted = counted;
      lined = lined_first _ _ _ _ count left _ _ refl;
      room = room_first _ _ _ _ count left _ c.requires.0 c.requires.1 c.requires.2;
    }

pub s_frame-requires : goal.s_frame-requires
s_frame-requires c =
    let i = c.loop-i.invariant in lined_some _ _ _ _ _ _ i.lined i.room _ _ c.in-Some.ensures.steps.0

pub write_line-at-requires : goal.write_line-at-requires
write_line-at-requires c =
    let i = c.loop-i.invariant in
    let s = c.in-Some.ensures.steps in
    lined_asks _ _ _ _ _ _ i.lined i.room _ _ s.0 _ (placed _ _ _ _ c.s_frame.ensures s.1)

pub overflow_add-at : goal.overflow_add-at
overflow_add-at c =
    let i = c.loop-i.invariant in
    let s = c.in-Some.ensures.steps in
    lined_fits _ _ _ _ _ _ i.lined i.room _ _ s.0 _ (placed _ _ _ _ c.s_frame.ensures s.1) _ _ c.write_line-at.ensures (search rules)

pub loop-i-preserved : goal.loop-i-preserved
loop-i-preserved c =
    let i = c.loop-i.invariant in
    let s = c.in-Some.ensures.steps in
    let counted = next_counted _ _ _ s.0 _ _ _ i.counted s.2 in
    record {
      can = (tt, tt, inl (index_fits _ _ _ counted c.ranges.used));
      ends = tt;
      counted = counted;
      lined = lined_more _ _ _ _ _ _ i.lined i.room _ _ s.0 _ (placed _ _ _ _ c.s_frame.ensures s.1) _ _ c.write_line-at.ensures (search rules) _ s.2;
      room = room_more _ _ _ _ _ _ i.lined i.room _ _ s.0 _ s.2;
    }

pub returns : goal.returns
returns c =
    let i = c.loop-i.invariant in
    let none = c.in-None.ensures.steps.0.0 in
    (lined_length _ _ _ _ _ _ i.lined _ i.counted none, lined_all _ _ _ _ _ _ i.lined _ i.counted none)
