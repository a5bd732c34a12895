-- The lines of the runs passed stand in front, and those left find room.
use Rattle.std.proofs.Common.{◌≡◌, ◌+◌, length}
use Rattle.runs.specs.Words.{runs_of}
use Rattle.runs.specs.Walk.{runs_left}
use Rattle.writing.specs.Writing.{s_frames, bytes_of}
use Rattle.writing.proofs.Output.{Lined, Room}
use Rattle.writing.proofs.write_runs.Given as goal

abbrev pub invariant-loop-i : goal.invariant-loop-i
invariant-loop-i l = record {
  can : goal.iterator-loop-i.can_next l.i-iterator;
  ends : goal.iterator-loop-i.is_finite l.i-iterator;
  counted : l.i-iterator.count + length (runs_left l.i-iterator.iter) ≡ l.used;
  lined : Lined (bytes_of (s_frames (runs_of l.used l.table))) l.initial.out l.out l.at l.i-iterator.count (runs_left l.i-iterator.iter);
  room : Room (length l.initial.out) l.i-iterator.count (runs_left l.i-iterator.iter);
}
