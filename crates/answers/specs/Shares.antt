-- Percent is covered times 100 by needed, rounded down, and there is none where nothing is needed. More covered than needed
-- is no verdict, and has no percent either. Paper: Verdict and availability.
use Rattle.std.specs.Prelude.{Option, Some, None, Result, Err, Ok, ℕ, ◌*◌, ◌/◌, Bool, false, cond, eqb, leb}
use Rattle.answers.specs.declared.Verdict.{Verdict}
use Rattle.answers.specs.declared.Verdict.TheVariants.{Nothing, Complete, Lacking}
use Rattle.agreement.specs.declared.refusal.Refusal.{Refusal}

abbrev pub percent_of : ℕ → ℕ → Option ℕ
percent_of needed covered = cond (eqb needed 0) None (cond (leb covered needed) (Some (covered * 100 / needed)) None)

-- the percent of a verdict, whoever made it
abbrev pub share_of : Verdict → Option ℕ
share_of Nothing = None
share_of (Complete needed) = percent_of needed needed
share_of (Lacking needed covered lowest) = percent_of needed covered

-- and of what a call answers: a refused one has none
abbrev pub verdict_percent : Result Verdict Refusal → Option ℕ
verdict_percent (Ok v) = share_of v
verdict_percent (Err r) = None

-- as a number: what has no percent shows 0
abbrev pub percent_number : Option ℕ → ℕ
percent_number (Some n) = n
percent_number None = 0

abbrev pub hundred : Option ℕ → Bool
hundred (Some n) = eqb n 100
hundred None = false
