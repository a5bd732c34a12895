-- `feed` meets its contract. The loop's invariant: what is left of the piece comes to the same. The measure is how much that is.
use lib.ListN.{length}
use Rattle.file.proofs.Turning.{Turned}
use Rattle.file.proofs.feeding.feed.Given as goal

abbrev pub invariant-loop-end : goal.invariant-loop-end
invariant-loop-end l = Turned (record { reading = l.initial.reading; line = l.initial.line }) l.initial.table l.initial.left l.table l.reading l.line l.left

abbrev pub decreases-loop-end : goal.decreases-loop-end
decreases-loop-end l = length l.left
