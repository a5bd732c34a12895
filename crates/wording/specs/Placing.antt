-- What the inner steps that write the line leave of the output. It states no rule of the paper.
use Rattle.std.specs.Prelude.{ℕ, ◌+◌, ◌≤◌, ◌≡◌, List, ◌++◌, length, take, drop}

-- a text stands in an output from a place on, and all else is as it came; next is the place behind the text
pub record Put (out : List ℕ) (at : ℕ) (text after : List ℕ) (next : ℕ) : Type 0 where
  pub place : next ≡ at + length text
  pub room : next ≤ length out
  pub long : length after ≡ length out
  pub bytes : after ≡ take at out ++ text ++ drop next out
