-- What the inner steps of an append and a trim ask and leave. It states no rule of the paper.
use Rattle.std.specs.Prelude.{ℕ, ◌+◌, ◌*◌, ◌≤◌, ◌≡◌, Bool, true, cond, List, ltb, length}
use Rattle.units.specs.declared.Span.{Span}
use Rattle.units.specs.Limits.{largest_tick, span_held}
use Rattle.window.specs.declared.Reference.{Reference}
use Rattle.window.specs.declared.Passed.{Passed}
use Rattle.window.specs.declared.Passed.TheVariants.{All, Upto}
use Rattle.runs.specs.Words.{capacity}
use Rattle.runs.specs.Steps.{passed_upto}
use Rattle.runs.specs.Encoding.{needs_run}
use Rattle.agreement.specs.declared.Record.{Record}
use Rattle.agreement.specs.Agreement.{counts_held, agrees}

-- how many references have an end that is passed
abbrev pub count_passed : Passed → List Reference → ℕ
count_passed All rs = length rs
count_passed (Upto t) rs = passed_upto t.0 rs

-- whether references of d ticks each find room behind those that a table keeps
abbrev pub room_for : ℕ → List ℕ → ℕ → Bool
room_for used ws d = cond (needs_run used ws d) (ltb used (capacity ws)) true

-- an append that is judged up to room: it joins, lasts, counts, and ends within the limits
pub record Fitting (rec : Record) (ws : List ℕ) (span : Span) (n : ℕ) : Type 0 where
  pub agreed : agrees rec ws ≡ true
  pub held : span_held span ≡ true
  pub some : 1 ≤ n
  pub ends : rec.next.0 + span.0 * n ≤ largest_tick
  pub counts : counts_held rec.head.first.0 (rec.accepted + n) ≡ true
