-- What the inner steps of a verdict ask and leave: ticks by ranges. It states no rule of the paper.
use Rattle.std.specs.Prelude.{Option, Some, None, ℕ, ◌≡◌, Bool, ◌&&◌, not, List, leb, ltb}
use Rattle.window.specs.declared.Reference.{Reference}
use Rattle.window.specs.declared.Ticks.{Ticks}
use Rattle.window.specs.References.{EndToStart}
use Rattle.runs.specs.Ends.{last_end}
use Rattle.answers.specs.declared.Verdict.{Verdict}
use Rattle.answers.specs.Counts.{count_below, least_below}
use Rattle.answers.specs.Judgement.{judged}

-- from a up to b, that one excluded
abbrev pub in_range : ℕ → ℕ → ℕ → Bool
in_range a b k = leb a k && ltb k b

-- the verdict where the ticks that are needed, and those that are covered, pass a test each, and all needed ones lie below n
unfoldable pub verdict_by : (ℕ → Bool) → (ℕ → Bool) → ℕ → Verdict
verdict_by p q n = judged (count_below p n) (count_below (λ k. p k && q k) n) (least_below (λ k. p k && not (q k)) n)

-- one past the last tick that an answer names
abbrev pub past_named : Option Ticks → ℕ
past_named None = 0
past_named (Some needed) = needed.end.0

-- references that join from tick t, and end at tick e
pub record Reach (t e : ℕ) (rs : List Reference) : Type 0 where
  pub joined : EndToStart t rs
  pub ends : last_end t rs ≡ e
