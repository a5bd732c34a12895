-- The loop of `write_digits`: the digits of what is left of the number, before those written, are the digits of the number.
use mathlib.Core.Path.{◌≡◌}
use mathlib.Core.List.{◌++◌}
use lib.ListN.{length, drop}
use Rattle.hexdigits.specs.Digits.{digits_of}
use Rattle.hexdigits.proofs.write_digits.Given as goal

abbrev pub invariant-loop-at : goal.invariant-loop-at
invariant-loop-at l = digits_of l.at l.rest ++ drop l.at l.s ≡ digits_of (length l.initial.s) l.x
