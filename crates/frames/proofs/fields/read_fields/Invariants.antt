-- The loop of `fields::read_fields`: the values read, before those that the rest of the row reads from the rest of the line, are
-- those of the whole line.
use mathlib.Core.Path.{◌≡◌}
use mathlib.Core.List.{List, ◌++◌}
use Prim.Native.Nat.{ℕ, ◌≤◌}
use lib.ListN.{length, take, drop}
use Rattle.frames.specs.Fields.{digit_count, field_values, Narrow}
use Rattle.frames.proofs.fields.read_fields.Given as goal

pub record Read (line ws vs rest : List ℕ) (i : ℕ) : Type 0 where
  pub long : length vs ≡ length ws
  pub enough : digit_count (drop i ws) ≤ length rest
  pub narrow : Narrow (drop i ws)
  pub whole : take i vs ++ field_values (drop i ws) rest ≡ field_values ws line

abbrev pub invariant-loop-i : goal.invariant-loop-i
invariant-loop-i g l = Read l.line l.widths l.values l.rest l.i
