-- The loop of `counted`: what was added so far is whole times needed and what is left, which is less than needed.
use mathlib.Core.Path.{◌≡◌}
use Prim.Native.Nat.{ℕ, ◌+◌, ◌*◌, ◌≤◌, ◌<◌}
use Rattle.answers.proofs.shares.counted.Given as goal

pub record Parted (needed covered whole left turns : ℕ) : Type 0 where
  pub is : covered * turns ≡ whole * needed + left
  pub less : left < needed
  pub few : whole ≤ turns

abbrev pub invariant-loop : goal.invariant-loop
invariant-loop l = Parted l.needed l.covered l.whole l.left l.counter
