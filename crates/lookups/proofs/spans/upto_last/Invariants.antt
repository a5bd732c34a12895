-- The runs behind do not touch, and those before them decide.
use Rattle.std.proofs.Common.{◌≡◌}
use Rattle.runs.specs.Words.{runs_of}
use Rattle.lookups.specs.Spans.{touches, upto_last}
use Rattle.lookups.proofs.spans.upto_last.Given as goal

abbrev pub invariant-loop-j : goal.invariant-loop-j
invariant-loop-j l = upto_last (touches l.a.0 l.b.0) (runs_of l.j l.table) ≡ upto_last (touches l.a.0 l.b.0) (runs_of l.used l.table)
