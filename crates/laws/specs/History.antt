-- Demand 3. From an opening on, however appends and trims were mixed, by themselves or as pairs in one call, and whichever of
-- them were refused: the record counts just what was accepted, and the table holds, in order, with their first numbers and times,
-- exactly those accepted references that are needed at the greatest accepted clock or at some later whole millisecond. Two lists
-- of calls with the same accepted appends in the same order and the same greatest accepted clock end in the same record and table.
-- Paper: Record and table; Append and trim; What a statement must leave no room for.
use Rattle.std.specs.Prelude.{Err, Ok, ℕ, ◌+◌, ◌≤◌, ◌≡◌, true, List, [], ◌∷◌, length, drop}
use Rattle.units.specs.declared.Tick.{Tick}
use Rattle.window.specs.declared.Head.{Head}
use Rattle.window.specs.declared.Reference.{Reference}
use Rattle.window.specs.References.{EndToStart}
use Rattle.window.specs.Window.{needed}
use Rattle.runs.specs.Encoding.{runs_for, canonical}
use Rattle.runs.specs.Ends.{last_end}
use Rattle.agreement.specs.declared.refusal.Refusal.{Refusal}
use Rattle.agreement.specs.declared.refusal.Refusal.TheVariants.{Disagreement}
use Rattle.agreement.specs.Agreement.{kept, agrees}
use Rattle.timeline.specs.Opening.{zero_record, open_outcome}
use Rattle.laws.specs.Calls.{Call, Plain, State, opening, after_calls, outcome_of, all_accepted, accepted_appends, laid_from, greatest}

-- a reference is needed at a clock or at some later whole millisecond
abbrev pub StillNeeded : Head → ℕ → Reference → Type 0
StillNeeded h c r = (later : ℕ) × (c ≤ later) × (needed h r later ≡ true)

-- the second list has, in order, exactly those of the first of which P holds
pub data Picked (P : Reference → Type 0) : List Reference → List Reference → Type 0 where
  end : Picked P [] []
  kept_one : {r : Reference} {xs ys : List Reference} → P r → Picked P xs ys → Picked P (r ∷ xs) (r ∷ ys)
  left_out : {r : Reference} {xs ys : List Reference} → (P r → ⊥) → Picked P xs ys → Picked P (r ∷ xs) ys

-- what a state keeps
abbrev pub kept_by : State → List Reference
kept_by s = kept s.rec s.words

-- a record and a table of so many words that agree: what is kept says which runs are used, and every word
pub record Settled (s : State) (words : ℕ) : Type 0 where
  pub agreed : agrees s.rec s.words ≡ true
  pub long : length s.words ≡ words
  pub used : s.rec.used ≡ runs_for (kept_by s)
  pub table : s.words ≡ canonical words (kept_by s)

-- what a state has of an opening with head h and first tick t, of accepted references and of the greatest accepted clock c
pub record Holds (h : Head) (t : Tick) (words : ℕ) (s : State) (accepted : List Reference) (c : ℕ) : Type 0 where
  -- the head is that of the opening
  pub head : s.rec.head ≡ h
  -- accepted is the number of accepted references
  pub counted : s.rec.accepted ≡ length accepted
  -- each of them is kept, or counted as dropped
  pub dropped : s.rec.dropped + length (kept_by s) ≡ length accepted
  -- the next tick is where the last of them ends, or the first tick where there is none
  pub next : s.rec.next.0 ≡ last_end t.0 accepted
  -- the clock is the greatest accepted one
  pub clock : s.rec.clock.0 ≡ c
  -- record and table agree, and the table is as long as it came
  pub settled : Settled s words
  -- the accepted references join end to start, from the first tick on
  pub joined : EndToStart t.0 accepted
  -- those that are still needed are kept, in order, and no other
  pub exactly : Picked (StillNeeded h c) accepted (kept_by s)
  -- the first kept one is as many places behind the first accepted one as its number is above the first number
  pub numbered : kept_by s ≡ drop s.rec.dropped accepted

-- two lists of calls, each from an opening with head h and first tick t, over tables that came with one length
pub record Mixings (h : Head) (t : Tick) (came other : List ℕ) (cs ds : List Call) : Type 0 where
  pub opens : open_outcome h t ≡ Ok tt
  pub one_length : length came ≡ length other
  pub first : Plain cs
  pub second : Plain ds
  pub one_clock : greatest (opening h t came) cs ≡ greatest (opening h t other) ds

pub record Demand3 : Type 0 where
  -- what any list of calls holds from an accepted opening, whatever words the table came with
  pub holds : (h : Head) (t : Tick) (came : List ℕ) → open_outcome h t ≡ Ok tt → (cs : List Call) → Plain cs →
      Holds h t (length came) (after_calls (opening h t came) cs) (all_accepted (opening h t came) cs) (greatest (opening h t came) cs)
  -- the accepted references are those of the accepted appends, laid end to start from the first tick on
  pub laid : (h : Head) (t : Tick) (came : List ℕ) → open_outcome h t ≡ Ok tt → (cs : List Call) →
      all_accepted (opening h t came) cs ≡ laid_from t.0 (accepted_appends (opening h t came) cs)
  -- the same accepted appends in the same order, and the same greatest accepted clock: the same record and table
  pub same : (h : Head) (t : Tick) (came other : List ℕ) (cs ds : List Call) → Mixings h t came other cs ds →
      accepted_appends (opening h t came) cs ≡ accepted_appends (opening h t other) ds →
      after_calls (opening h t came) cs ≡ after_calls (opening h t other) ds
  -- how the accepted references were split into appends makes no difference
  pub split : (h : Head) (t : Tick) (came other : List ℕ) (cs ds : List Call) → Mixings h t came other cs ds →
      all_accepted (opening h t came) cs ≡ all_accepted (opening h t other) ds →
      after_calls (opening h t came) cs ≡ after_calls (opening h t other) ds
  -- a refused opening leaves a zero record and the words as they came; every call on these is refused with 2, and so they stay
  pub refused : (h : Head) (t : Tick) (came : List ℕ) (why : Refusal) → open_outcome h t ≡ Err why → (cs : List Call) →
      after_calls (opening h t came) cs ≡ record { rec = zero_record; words = came }
  pub never : (came : List ℕ) (c : Call) → outcome_of (record { rec = zero_record; words = came }) c ≡ Err Disagreement
