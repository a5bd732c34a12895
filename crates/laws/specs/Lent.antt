-- The record lent. A call over a lent record answers the outcome of the call by value, and leaves in the record and in the table what that
-- call answers and leaves: its contract asks nothing and says these three things and nothing else. So calls over one lent record end in the
-- record and the table of the same calls by value, and demand 3 holds of them. An older copy of a record is not always refused with 2: it
-- agrees wherever the words still fit it, and then it is taken for the record; three such copies of B stand at the end.
-- Paper: Record and table; Append and trim; What a statement must leave no room for; document 02, W-207.
use Rattle.std.specs.Prelude.{Err, Ok, ℕ, ◌≡◌, Bool, true, List, [], ◌∷◌, length}
use seplogic.Ra.Ura.{Ura}
use base.Logic.{SProp, sep, emp}
use prog.Memory.{Memory}
use prog.Routine.{Routine}
use types.Logic.{Logic}
use contract.Lifetimes.{Lfts}
use contract.Monad.{Fun, fact}
use Rattle.std.specs.Borrow.{MutBor}
use Rattle.units.specs.declared.Stamp.{Stamp}
use Rattle.units.specs.declared.Tick.{Tick}
use Rattle.units.specs.declared.WideMillis.{WideMillis}
use Rattle.units.specs.declared.WideTick.{WideTick}
use Rattle.units.specs.Standing.{stamp_standing}
use Rattle.window.specs.declared.Head.{Head}
use Rattle.agreement.specs.declared.Record.{Record}
use Rattle.agreement.specs.declared.refusal.Refusal.{Refusal}
use Rattle.agreement.specs.declared.refusal.Refusal.TheVariants.{Disagreement}
use Rattle.agreement.specs.Agreement.{agrees}
use Rattle.keeping.specs.Keeping.{Outcome}
use Rattle.agreement.specs.Numbers.{answer_number}
use Rattle.timeline.specs.Opening.{open_outcome}
use Rattle.held.specs.Following.{followed, followed_table}
use Rattle.lent.specs.contracts as lent
use Rattle.laws.specs.Calls.{Call, by_tick, by_stamp, trim_at, pair_at, Plain, State, opening, after, after_calls, outcome_of, all_accepted, accepted_appends, greatest}
use Rattle.laws.specs.History.{Holds, Mixings, kept_by}
use Rattle.laws.specs.Refusals.{lowest, append_tick_rows, append_stamp_rows, trim_rows, pair_rows}
use Rattle.laws.specs.ByHand.{state_of, appending, append_of, trimming, head_b, open_b, five_b, trim_b1, trim_b2}

-- ---- one call

-- what a call over a lent record answers and leaves
pub record Lent (s : State) (c : Call) (o : Outcome) (left : State) : Type 0 where
  pub outcome : o ≡ outcome_of s c
  pub rec : left.rec ≡ (after s c).rec
  pub words : left.words ≡ (after s c).words

-- The check makes of each contract what its `requires` asks and what its `ensures` says, as claims of its logic, over any model of it. The
-- functions of `lent` take a record and a table that are lent, and then what the call by value takes.
module _ {M : Type 1} {𝓤 : Ura M} (𝓛 : Logic 𝓤) (mem : Memory → SProp 𝓤) (run : Routine → Fun 𝓤) (κs : Lfts 2) (rec : MutBor Record) (table : MutBor (List ℕ)) where
  abbrev pub came : State
  came = record { rec = rec.now; words = table.now }

  -- it asks nothing: the claim that holds of anything
  pub record AsksNothing : Type 2 where
    pub append : (t : WideTick) (d n : ℕ) → (lent.append.clauses 𝓛 mem run κs (rec, (table, (t, (d, (n, tt)))))).requires tt ≡ emp 𝓤
    pub append_stamp : (x : Stamp) (d n : ℕ) → (lent.append_stamp.clauses 𝓛 mem run κs (rec, (table, (x, (d, (n, tt)))))).requires tt ≡ emp 𝓤
    pub trim : (c : WideMillis) → (lent.trim.clauses 𝓛 mem run κs (rec, (table, (c, tt)))).requires tt ≡ emp 𝓤
    pub append_trim : (x : Stamp) (d n : ℕ) (c : WideMillis) → (lent.append_trim.clauses 𝓛 mem run κs (rec, (table, (x, (d, (n, (c, tt))))))).requires tt ≡ emp 𝓤

  -- it says of its answer, and of the record and the table when it ends, what `Lent` does
  module _ (o : Outcome) (rec' : MutBor Record) (table' : MutBor (List ℕ)) where
    abbrev pub says : Call → SProp 𝓤
    says c = sep 𝓤 (fact 𝓤 (o ≡ outcome_of came c)) (sep 𝓤 (fact 𝓤 (rec'.now ≡ (after came c).rec)) (fact 𝓤 (table'.now ≡ (after came c).words)))

    pub record SaysJust : Type 2 where
      pub append : (t : WideTick) (d n : ℕ) →
          (lent.append.clauses 𝓛 mem run κs (rec, (table, (t, (d, (n, tt)))))).ensures tt o (rec', (table', (t, (d, (n, tt))))) ≡ says (by_tick t d n)
      pub append_stamp : (x : Stamp) (d n : ℕ) →
          (lent.append_stamp.clauses 𝓛 mem run κs (rec, (table, (x, (d, (n, tt)))))).ensures tt o (rec', (table', (x, (d, (n, tt))))) ≡ says (by_stamp x d n)
      pub trim : (c : WideMillis) →
          (lent.trim.clauses 𝓛 mem run κs (rec, (table, (c, tt)))).ensures tt o (rec', (table', (c, tt))) ≡ says (trim_at c)
      pub append_trim : (x : Stamp) (d n : ℕ) (c : WideMillis) →
          (lent.append_trim.clauses 𝓛 mem run κs (rec, (table, (x, (d, (n, (c, tt))))))).ensures tt o (rec', (table', (x, (d, (n, (c, tt)))))) ≡ says (pair_at x d n c)

-- the rows of a call's refusals
abbrev pub rows_of : State → Call → List (Bool × ℕ)
rows_of s (by_tick t d n) = append_tick_rows s.rec s.words t d n
rows_of s (by_stamp x d n) = append_stamp_rows s.rec s.words x d n
rows_of s (trim_at c) = trim_rows s.rec s.words c
rows_of s (pair_at x d n c) = pair_rows s.rec s.words x d n c

-- ---- calls in a row

-- each over the record and the table that the one before it left
pub data LentCalls : State → List Call → List Outcome → State → Type 0 where
  none : {s : State} → LentCalls s [] [] s
  more : {s between left : State} {c : Call} {cs : List Call} {o : Outcome} {os : List Outcome} →
      Lent s c o between → LentCalls between cs os left → LentCalls s (c ∷ cs) (o ∷ os) left

-- what the same calls answer by value
unfoldable pub outcomes_of : State → List Call → List Outcome
outcomes_of s [] = []
outcomes_of s (c ∷ cs) = outcome_of s c ∷ outcomes_of (after s c) cs

-- ---- an older copy

-- the record of an earlier state, with the words of a later one
abbrev pub older_over : State → State → State
older_over earlier later = record { rec = earlier.rec; words = later.words }

-- B trimmed at 30,000, at which all five are spent
abbrev pub empty_b : State
empty_b = trimming five_b 30_000

-- B trimmed at 30,000 before anything is appended
abbrev pub late_b : State
late_b = trimming open_b 30_000

pub record LentRight : Type 2 where
  -- the contracts, over any model
  pub asks : {M : Type 1} {𝓤 : Ura M} (𝓛 : Logic 𝓤) (mem : Memory → SProp 𝓤) (run : Routine → Fun 𝓤) (κs : Lfts 2) (rec : MutBor Record) (table : MutBor (List ℕ)) →
      AsksNothing 𝓛 mem run κs rec table
  pub just : {M : Type 1} {𝓤 : Ura M} (𝓛 : Logic 𝓤) (mem : Memory → SProp 𝓤) (run : Routine → Fun 𝓤) (κs : Lfts 2) (rec : MutBor Record) (table : MutBor (List ℕ))
      (o : Outcome) (rec' : MutBor Record) (table' : MutBor (List ℕ)) → SaysJust 𝓛 mem run κs rec table o rec' table'
  -- there is an outcome that they allow, and any two are equal
  pub one_there : (s : State) (c : Call) → Lent s c (outcome_of s c) (after s c)
  pub one_answer : (s : State) (c : Call) (o p : Outcome) (left other : State) → Lent s c o left → Lent s c p other → o ≡ p
  pub one_left : (s : State) (c : Call) (o p : Outcome) (left other : State) → Lent s c o left → Lent s c p other → left ≡ other
  -- its number is that of the first row that holds, 0 where none does
  pub number : (s : State) (c : Call) (o : Outcome) (left : State) → Plain (c ∷ []) → Lent s c o left → answer_number o ≡ lowest (rows_of s c)
  -- refused, every field of the record and every word is as it came
  pub refused : (s : State) (c : Call) (why : Refusal) (left : State) → Lent s c (Err why) left → left ≡ s
  -- calls over one lent record answer what the same calls answer by value, and end in the same record and table
  pub answers : (s : State) (cs : List Call) (os : List Outcome) (left : State) → LentCalls s cs os left → os ≡ outcomes_of s cs
  pub ends : (s : State) (cs : List Call) (os : List Outcome) (left : State) → LentCalls s cs os left → left ≡ after_calls s cs
  -- so demand 3 holds of them: what they hold from an accepted opening on, and that the mixing makes no difference
  pub holds : (h : Head) (t : Tick) (came : List ℕ) → open_outcome h t ≡ Ok tt → (cs : List Call) → Plain cs → (os : List Outcome) (left : State) →
      LentCalls (opening h t came) cs os left → Holds h t (length came) left (all_accepted (opening h t came) cs) (greatest (opening h t came) cs)
  pub same : (h : Head) (t : Tick) (came other : List ℕ) (cs ds : List Call) → Mixings h t came other cs ds →
      accepted_appends (opening h t came) cs ≡ accepted_appends (opening h t other) ds → (os ps : List Outcome) (left right : State) →
      LentCalls (opening h t came) cs os left → LentCalls (opening h t other) ds ps right → left ≡ right
  -- a segment that is followed is an append and a trim in a row
  pub follows : (s : State) (x : Stamp) (d n : ℕ) (c : WideMillis) →
      let segment = followed s.rec s.words (stamp_standing x s.rec.next) d n c in
      LentCalls s (by_stamp x d n ∷ trim_at c ∷ []) (segment.appended ∷ segment.trimmed ∷ [])
      (record { rec = segment.rec; words = followed_table s.rec s.words (stamp_standing x s.rec.next) d n c })
  -- an older copy is taken for the record wherever the words are still as they were
  pub unseen : (s : State) (cs : List Call) (c : Call) → (after_calls s cs).words ≡ s.words → outcome_of (older_over s (after_calls s cs)) c ≡ outcome_of s c
  -- and one that keeps nothing, the opening's own among them, wherever nothing is kept any more
  pub unseen_empty : (h : Head) (t : Tick) (came : List ℕ) → open_outcome h t ≡ Ok tt → (cs ds : List Call) → Plain cs → Plain ds →
      kept_by (after_calls (opening h t came) cs) ≡ [] → kept_by (after_calls (opening h t came) ds) ≡ [] →
      agrees (after_calls (opening h t came) cs).rec (after_calls (opening h t came) ds).words ≡ true
  -- B: where a trim dropped a reference, the copy from before it is 2
  pub b_told : append_of (older_over trim_b1 trim_b2) 20_000 4000 1 ≡ Err Disagreement
  -- B: where a trim only raised the clock, it is accepted, and the clock is lost
  pub b_raised : append_of (older_over five_b trim_b1) 20_000 4000 1 ≡ Ok tt
  pub b_clock_lost : appending (older_over five_b trim_b1) 20_000 4000 1 ≡ state_of head_b 6 0 24_000 0 1 (0 ∷ 4000 ∷ 6 ∷ [])
  -- B: behind an append that was spent at once, the same append is accepted again, under the same number
  pub b_spent : append_of (older_over late_b (appending late_b 0 4000 1)) 0 4000 1 ≡ Ok tt
  pub b_counted_once : appending (older_over late_b (appending late_b 0 4000 1)) 0 4000 1 ≡ state_of head_b 1 1 4000 30_000 0 (0 ∷ 0 ∷ 0 ∷ [])
  -- B: once all are dropped, the opening's own record accepts the first again, under its old number
  pub b_emptied : append_of (older_over open_b empty_b) 0 4000 5 ≡ Ok tt
  pub b_old_numbers : appending (older_over open_b empty_b) 0 4000 5 ≡ five_b
