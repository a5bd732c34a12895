-- The runs passed do not touch, and those left decide.
use Rattle.std.proofs.Common.{◌≡◌, true, ◌+◌, length}
use Rattle.runs.specs.Words.{runs_of}
use Rattle.runs.specs.Shape.{runs_shaped}
use Rattle.runs.specs.Walk.{runs_left}
use Rattle.lookups.specs.Spans.{touches, before_first}
use Rattle.lookups.proofs.spans.before_first.Given as goal

abbrev pub invariant-loop-before : goal.invariant-loop-before
invariant-loop-before l = record {
  can : goal.iterator-loop-before.can_next l.before-iterator;
  ends : goal.iterator-loop-before.is_finite l.before-iterator;
  counted : l.before-iterator.count + length (runs_left l.before-iterator.iter) ≡ l.used;
  shape : runs_shaped (runs_left l.before-iterator.iter) ≡ true;
  so_far : l.before-iterator.count + before_first (touches l.a.0 l.b.0) (runs_left l.before-iterator.iter) ≡ before_first (touches l.a.0 l.b.0) (runs_of l.used l.table);
}
