-- The loop of `number`: what is read so far, moved left by the digits to come, and what those mean make the whole number;
-- and it has at most as many digits as were read, so that it fits.
use mathlib.Core.Path.{◌≡◌}
use mathlib.Core.List.{List}
use Prim.Native.Nat.{ℕ, ◌+◌, ◌*◌, ◌^◌, ◌<◌}
use lib.ListN.{length, drop}
use Rattle.hexdigits.specs.Digits.{number_of}
use Rattle.hexdigits.proofs.number.Given as goal

pub record Read (s : List ℕ) (n i : ℕ) : Type 0 where
  pub small : n < 16 ^ i
  pub whole : n * 16 ^ length (drop i s) + number_of (drop i s) ≡ number_of s

abbrev pub invariant-loop-b : goal.invariant-loop-b
invariant-loop-b l = Read l.s l.n l.b-index
