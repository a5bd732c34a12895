-- A timeline's calls, run by the very definitions that the contracts of `timeline` cite: the opening, and then any list of
-- appends, trims, and pairs of the two in one call. Which appends they had accepted, which references those brought, and the
-- greatest clock that they had accepted. Paper: Record and table; Append and trim; document 02, W-208.
use Rattle.std.specs.Prelude.{Err, Ok, ℕ, ◌+◌, ◌*◌, ◌≤◌, max, List, [], ◌∷◌, ◌++◌}
use Rattle.units.specs.declared.WideMillis.{WideMillis}
use Rattle.units.specs.declared.Stamp.{Stamp}
use Rattle.units.specs.declared.Tick.{Tick}
use Rattle.units.specs.declared.WideTick.{WideTick}
use Rattle.units.specs.declared.standing.Standing.{Standing}
use Rattle.units.specs.Limits.{largest_span}
use Rattle.units.specs.Standing.{tick_standing, stamp_standing}
use Rattle.window.specs.declared.Head.{Head}
use Rattle.window.specs.declared.Reference.{Reference}
use Rattle.runs.specs.Words.{repeated}
use Rattle.agreement.specs.declared.Record.{Record}
use Rattle.keeping.specs.Keeping.{Outcome}
use Rattle.keeping.specs.Append.{given}
use Rattle.timeline.specs.Opening.{open_answer, open_table}
use Rattle.timeline.specs.Appending.{append_answer, append_table}
use Rattle.timeline.specs.Trimming.{trim_answer, trim_table}
use Rattle.timeline.specs.Pair.{pair_answer, pair_table}

-- an append by full tick or by stamp, each with a duration and a count; a trim; and an append by stamp with a trim behind it
pub data Call : Type 0 where
  by_tick : WideTick → ℕ → ℕ → Call
  by_stamp : Stamp → ℕ → ℕ → Call
  trim_at : WideMillis → Call
  pair_at : Stamp → ℕ → ℕ → WideMillis → Call

-- a duration is a 32-bit number
abbrev pub Plain : List Call → Type 0
Plain [] = Unit {0}
Plain (by_tick t d n ∷ cs) = (d ≤ largest_span) × Plain cs
Plain (by_stamp t d n ∷ cs) = (d ≤ largest_span) × Plain cs
Plain (trim_at c ∷ cs) = Plain cs
Plain (pair_at t d n c ∷ cs) = (d ≤ largest_span) × Plain cs

-- a record and its table
pub record State : Type 0 where
  pub rec : Record
  pub words : List ℕ

-- ---- what a call leaves

-- the opening call, over a table that came with these words
abbrev pub opening : Head → Tick → List ℕ → State
opening h t came = record { rec = (open_answer h t).rec; words = open_table h t came }

abbrev pub append_to : State → Standing → ℕ → ℕ → State
append_to s st d n = record { rec = (append_answer s.rec s.words st d n).rec; words = append_table s.rec s.words st d n }

abbrev pub after : State → Call → State
after s (by_tick t d n) = append_to s (tick_standing t s.rec.next) d n
after s (by_stamp t d n) = append_to s (stamp_standing t s.rec.next) d n
after s (trim_at c) = record { rec = (trim_answer s.rec s.words c).rec; words = trim_table s.rec s.words c }
after s (pair_at t d n c) =
    let st = stamp_standing t s.rec.next in
    record { rec = (pair_answer s.rec s.words st d n c).rec; words = pair_table s.rec s.words st d n c }

unfoldable pub after_calls : State → List Call → State
after_calls s [] = s
after_calls s (c ∷ cs) = after_calls (after s c) cs

-- ---- what was accepted

-- what a call answers
abbrev pub outcome_of : State → Call → Outcome
outcome_of s (by_tick t d n) = (append_answer s.rec s.words (tick_standing t s.rec.next) d n).outcome
outcome_of s (by_stamp t d n) = (append_answer s.rec s.words (stamp_standing t s.rec.next) d n).outcome
outcome_of s (trim_at c) = (trim_answer s.rec s.words c).outcome
outcome_of s (pair_at t d n c) = (pair_answer s.rec s.words (stamp_standing t s.rec.next) d n c).outcome

-- what an accepted call brings, and a refused one does not
abbrev pub if_accepted : {A : Type 0} → Outcome → List A → List A
if_accepted (Ok _) xs = xs
if_accepted (Err why) xs = []

-- the references of an append: so many from the next tick on
abbrev pub offered : State → Call → List Reference
offered s (by_tick t d n) = given s.rec d n
offered s (by_stamp t d n) = given s.rec d n
offered s (trim_at c) = []
offered s (pair_at t d n c) = given s.rec d n

abbrev pub brought : State → Call → List Reference
brought s c = if_accepted (outcome_of s c) (offered s c)

-- the accepted references of a list of calls, in order
unfoldable pub all_accepted : State → List Call → List Reference
all_accepted s [] = []
all_accepted s (c ∷ cs) = brought s c ++ all_accepted (after s c) cs

-- an append as its user has it: a duration and a count
pub record Append : Type 0 where
  pub duration : ℕ
  pub count : ℕ

abbrev pub appends_of : Call → List Append
appends_of (by_tick t d n) = record { duration = d; count = n } ∷ []
appends_of (by_stamp t d n) = record { duration = d; count = n } ∷ []
appends_of (trim_at c) = []
appends_of (pair_at t d n c) = record { duration = d; count = n } ∷ []

-- the accepted appends of a list of calls, in order
unfoldable pub accepted_appends : State → List Call → List Append
accepted_appends s [] = []
accepted_appends s (c ∷ cs) = if_accepted (outcome_of s c) (appends_of c) ++ accepted_appends (after s c) cs

-- the references of appends, laid end to start from tick t on
unfoldable pub laid_from : ℕ → List Append → List Reference
laid_from t [] = []
laid_from t (a ∷ rest) = repeated t a.duration a.count ++ laid_from (t + a.duration * a.count) rest

-- the clock of an accepted call that trims, and 0 elsewhere
abbrev pub clock_if : Outcome → ℕ → ℕ
clock_if (Ok _) c = c
clock_if (Err why) c = 0

abbrev pub clock_of : State → Call → ℕ
clock_of s (by_tick t d n) = 0
clock_of s (by_stamp t d n) = 0
clock_of s (trim_at c) = clock_if (outcome_of s (trim_at c)) c.0
clock_of s (pair_at t d n c) = clock_if (outcome_of s (pair_at t d n c)) c.0

-- the greatest accepted clock of a list of calls, 0 where no trim was accepted
unfoldable pub greatest : State → List Call → ℕ
greatest s [] = 0
greatest s (c ∷ cs) = max (clock_of s c) (greatest (after s c) cs)
