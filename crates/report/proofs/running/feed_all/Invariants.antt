-- At each turn desk and table stand where the pieces that came brought them.
use Rattle.report.proofs.Turns.{Turned}
use Rattle.report.proofs.running.feed_all.Given as goal

abbrev pub invariant-loop : goal.invariant-loop
invariant-loop g l = Turned (g.R.Read.remaining l.fn.input) (g.R.Read.remaining l.input) l.fn.table l.table l.buffer l.desk
