-- The loop of `fields::write_fields`: what is written, before the digits of the fields to come, is the line, and what lies behind is
-- as it came.
use mathlib.Core.Path.{◌≡◌}
use mathlib.Core.List.{List, ◌++◌}
use Prim.Native.Nat.{ℕ, ◌+◌, ◌≤◌}
use lib.ListN.{length, take, drop}
use Rattle.frames.specs.Fields.{digit_count, field_digits}
use Rattle.frames.proofs.fields.write_fields.Given as goal

-- the widths and the values to come are us and xs
pub record Written (out₀ ws vs us xs out : List ℕ) (at : ℕ) : Type 0 where
  pub paired : length xs ≡ length us
  pub passed : at + digit_count us ≡ digit_count ws
  pub long : length out ≡ length out₀
  pub room : digit_count ws ≤ length out₀
  pub front : take at out ++ field_digits us xs ≡ field_digits ws vs
  pub behind : drop at out ≡ drop at out₀

abbrev pub invariant-loop-width : goal.invariant-loop-width
invariant-loop-width g l =
    Written l.initial.out l.widths l.values l.width-iterator.a.rest.now l.width-iterator.b.rest.now l.out l.at
