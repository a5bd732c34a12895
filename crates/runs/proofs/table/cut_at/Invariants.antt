-- The runs passed hold all but `into` of the references that go.
use Rattle.std.proofs.Common.{◌≡◌, ◌+◌, length, take, drop}
use Rattle.runs.specs.Words.{runs_of, references_of}
use Rattle.runs.specs.Walk.{runs_left}
use Rattle.runs.proofs.table.cut_at.Given as goal

abbrev pub invariant-loop-whole : goal.invariant-loop-whole
invariant-loop-whole l = record {
  can : goal.iterator-loop-whole.can_next l.whole-iterator;
  ends : goal.iterator-loop-whole.is_finite l.whole-iterator;
  left : runs_left l.whole-iterator.iter ≡ drop l.whole-iterator.count (runs_of l.used l.table);
  counted : length (references_of (take l.whole-iterator.count (runs_of l.used l.table))) + l.into ≡ l.dropped;
}
