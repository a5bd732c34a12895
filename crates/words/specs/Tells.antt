-- What an answer tells: the paper's number of it, 0 where it is not refused, and in the caller's out its words, with 0 for what does not apply; refused,
-- out stays as it came. Paper: Verdict and availability; Append and trim (by stamp); Refusal numbers.
use Rattle.std.specs.Prelude.{Option, Some, None, Result, Err, Ok, Bool, cond, ℕ, ◌||◌, List, [], ◌∷◌, eqb, ℤ, pos}
use Rattle.agreement.specs.declared.refusal.Refusal.{Refusal}
use Rattle.agreement.specs.Rows.{◌when◌else◌}
use Rattle.keeping.specs.Keeping.{Outcome}
use Rattle.agreement.specs.Numbers.{answer_distance, answer_number}
use Rattle.units.specs.declared.Millis.{Millis}
use Rattle.units.specs.declared.Tick.{Tick}
use Rattle.answers.specs.declared.Verdict.{Verdict}
use Rattle.answers.specs.declared.Verdict.TheVariants as verdict
use Rattle.answers.specs.Shares.{share_of, percent_number}
use Rattle.lookups.specs.declared.Availability.{Availability}
use Rattle.lookups.specs.declared.Availability.TheVariants as availability
use Rattle.lookups.specs.declared.Words.{Words}

-- the number, and the words of out
pub record Tells (A : Type 0) : Type 0 where
  pub number : ℕ
  pub out : List A

-- out has the words of an answer, and where it is refused it stays as it came
unfoldable pub told : {A B : Type 0} → (A → List B) → Result A Refusal → List B → List B
told shown (Ok answer) out = shown answer
told shown (Err why) out = out

unfoldable pub tells_by : {A B : Type 0} → (A → List B) → Result A Refusal → List B → Tells B
tells_by shown answer out = record { number = answer_number answer; out = told shown answer out }

-- kind (0 nothing needed, 1 complete, 2 lacking), needed, covered, lowest, percent
unfoldable pub words_of_verdict : Verdict → List ℕ
words_of_verdict verdict.Nothing = 0 ∷ 0 ∷ 0 ∷ 0 ∷ 0 ∷ []
words_of_verdict (verdict.Complete needed) = 1 ∷ needed ∷ needed ∷ 0 ∷ percent_number (share_of (verdict.Complete needed)) ∷ []
words_of_verdict (verdict.Lacking needed covered lowest) =
    2 ∷ needed ∷ covered ∷ lowest.0 ∷ percent_number (share_of (verdict.Lacking needed covered lowest)) ∷ []

-- kind (0 never ends, 1 ends), start, end in signed grains
unfoldable pub words_of_availability : Availability → List ℤ
words_of_availability (availability.NeverEnds from) = pos 0 ∷ from.0 ∷ pos 0 ∷ []
words_of_availability (availability.Ends from upto) = pos 1 ∷ from.0 ∷ upto.0 ∷ []

-- 1 where it is available at that clock, 0 where it is not
unfoldable pub words_of_available : Bool → List ℕ
words_of_available offered = cond offered 1 0 ∷ []

-- kind (0 none, 1 a tick), the full tick
unfoldable pub words_of_tick : Option Tick → List ℕ
words_of_tick (Some tick) = 1 ∷ tick.0 ∷ []
words_of_tick None = 0 ∷ 0 ∷ []

-- the first word of the touching runs, and the one past their last
unfoldable pub words_of_touching : Words → List ℕ
words_of_touching w = w.from ∷ w.to ∷ []

-- kind (0 none, 1 a clock), the clock
unfoldable pub words_of_edge : Option Millis → List ℕ
words_of_edge (Some clock) = 1 ∷ clock.0 ∷ []
words_of_edge None = 0 ∷ 0 ∷ []

-- the length written
unfoldable pub words_of_length : ℕ → List ℕ
words_of_length n = n ∷ []

-- the distance of a gap or an overlap; of every other outcome nothing is told
unfoldable pub distance_out : Outcome → List ℕ → List ℕ
distance_out o out = (answer_distance o ∷ []) when eqb (answer_number o) 4 || eqb (answer_number o) 5 else out
