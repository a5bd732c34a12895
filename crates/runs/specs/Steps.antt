-- What the inner steps that count, drop and store references ask and leave. It states no rule of the paper.
use Rattle.std.specs.Prelude.{ℕ, suc, ◌+◌, ◌*◌, ◌≤◌, ◌<◌, ◌≡◌, true, cond, List, [], ◌∷◌, ◌++◌, leb, length, take, drop}
use Rattle.units.specs.declared.Tick.{Tick}
use Rattle.units.specs.declared.Span.{Span}
use Rattle.units.specs.Limits.{largest_tick, span_held}
use Rattle.window.specs.declared.Reference.{Reference}
use Rattle.window.specs.Window.{end_of}
use Rattle.runs.specs.declared.Run.{Run}
use Rattle.runs.specs.Words.{words_of, run_end, repeated, references_of, kept_in}
use Rattle.runs.specs.Shape.{shaped}
use Rattle.runs.specs.Ends.{last_end}

-- how many references end at or before a tick
unfoldable pub passed_upto : ℕ → List Reference → ℕ
passed_upto t [] = 0
passed_upto t (r ∷ rs) = cond (leb (end_of r) t) (suc (passed_upto t rs)) (passed_upto t rs)

-- words with those of a run in the place of the three from place i on
unfoldable pub with_run : List ℕ → ℕ → Run → List ℕ
with_run ws i r = take i ws ++ words_of (r ∷ []) ++ drop (i + 3) ws

-- r is the run x less its first n references: the same duration, the same end, and so many fewer
pub record Less (n : ℕ) (x r : Run) : Type 0 where
  pub span : r.span ≡ x.span
  pub ends : run_end r ≡ run_end x
  pub count : r.count + n ≡ x.count

-- fewer than the first of the runs has, if there is one
abbrev pub Inside : ℕ → List Run → Type 0
Inside n [] = Unit {0}
Inside n (r ∷ rs) = n < r.count

-- where a drop of so many references cuts the runs: so many whole runs go, and so many references of the run behind them
pub record CutAt (dropped : ℕ) (rs : List Run) (whole into : ℕ) : Type 0 where
  pub within : whole ≤ length rs
  pub counted : length (references_of (take whole rs)) + into ≡ dropped
  pub inside : Inside into (drop whole rs)

-- what a table keeps once references are stored behind those that it keeps
abbrev pub kept_with : ℕ → List ℕ → Tick → Span → ℕ → List Reference
kept_with used ws start span count = kept_in used ws ++ repeated start.0 span.0 count

-- references that may be stored: within the limits, from where the last kept one ends
pub record Storable (used : ℕ) (ws : List ℕ) (start : Tick) (span : Span) (count : ℕ) : Type 0 where
  pub table : shaped used ws ≡ true
  pub some : 1 ≤ count
  pub held : span_held span ≡ true
  pub ends : start.0 + span.0 * count ≤ largest_tick
  pub joins : last_end start.0 (kept_in used ws) ≡ start.0
