-- What a call answers and leaves, from any record and table: accepted, what its definition says; refused, all as it came. The
-- references of accepted appends lie end to start. After a refused opening every call is refused.
use mathlib.Core.Path.{◌≡◌, refl, sym, ap, ◌∙◌}
use mathlib.Core.Bool.{false, cond, ◌||◌}
use mathlib.Core.List.{List, [], ◌∷◌, ◌++◌}
use Prim.Native.Nat.{ℕ}
use lib.Dec.{eqb}
use Rattle.units.specs.declared.Stamp.{Stamp}
use Rattle.units.specs.declared.WideMillis.{WideMillis}
use Rattle.units.specs.declared.standing.Standing.{Standing}
use Rattle.units.specs.Limits.{clock_held}
use Rattle.units.specs.Standing.{tick_standing, stamp_standing}
use Rattle.window.specs.declared.Reference.{Reference}
use Rattle.agreement.specs.declared.Record.{Record}
use Rattle.agreement.specs.declared.refusal.Refusal.{Refusal}
use Rattle.agreement.specs.declared.refusal.Refusal.TheVariants.{Disagreement, NothingGiven, ClockLimit}
use Rattle.agreement.specs.Agreement.{agrees}
use Rattle.std.specs.Prelude.{Err, Ok}
use Rattle.keeping.specs.Keeping.{Outcome}
use Rattle.keeping.specs.Keeping.{words_keeping, changed_by, words_by}
use Rattle.keeping.specs.Append.{given, unspent_of, fit_outcome, appended}
use Rattle.keeping.proofs.Outcomes.{outcome_beside}
use Rattle.timeline.specs.Opening.{zero_record}
use Rattle.timeline.specs.Appending.{unjoined◌else◌, append_outcome}
use Rattle.timeline.specs.Trimming.{unspent_at, trim_outcome, trimmed}
use Rattle.timeline.specs.Pair.{pair_outcome}
use Rattle.timeline.proofs.Pairs.{pair_passed}
use Rattle.laws.specs.Calls.{Call, by_tick, by_stamp, trim_at, pair_at, State, append_to, after, after_calls, outcome_of, if_accepted, brought, all_accepted, Append, appends_of, accepted_appends, laid_from}

abbrev pub state_from : Record → List ℕ → State
state_from r ws = record { rec = r; words = ws }

-- ---- what a call leaves, by its test

-- a new state or the old one, by an outcome
abbrev left_by : Outcome → State → State → State
left_by o new old = state_from (changed_by o new.rec old.rec).rec (words_by o new.words old.words)

module _ (s : State) (st : Standing) (d n : ℕ) where
  abbrev pub append_leaves : State
  append_leaves = state_from (appended s.rec s.words d n) (words_keeping s.words (unspent_of s.rec s.words d n))

  pub append_done : append_outcome s.rec s.words st d n ≡ Ok tt → append_to s st d n ≡ append_leaves
  unfolding changed_by words_by
  append_done e = ap (λ o. left_by o append_leaves s) e

  pub append_refused : (why : Refusal) → append_outcome s.rec s.words st d n ≡ Err why → append_to s st d n ≡ s
  unfolding changed_by words_by
  append_refused why e = ap (λ o. left_by o append_leaves s) e

module _ (s : State) (m : WideMillis) where
  abbrev pub trim_leaves : State
  trim_leaves = state_from (trimmed s.rec s.words m.0) (words_keeping s.words (unspent_at s.rec s.words m.0))

  pub trim_done : trim_outcome s.rec s.words m ≡ Ok tt → after s (trim_at m) ≡ trim_leaves
  unfolding changed_by words_by
  trim_done e = ap (λ o. left_by o trim_leaves s) e

  pub trim_refused : (why : Refusal) → trim_outcome s.rec s.words m ≡ Err why → after s (trim_at m) ≡ s
  unfolding changed_by words_by
  trim_refused why e = ap (λ o. left_by o trim_leaves s) e

-- a pair is its two calls, one after the other, or nothing
module _ (s : State) (x : Stamp) (d n : ℕ) (m : WideMillis) where
  abbrev pair_tested : Outcome
  pair_tested = pair_outcome s.rec s.words (stamp_standing x s.rec.next) d n m

  abbrev pub pair_leaves : State
  pair_leaves = after (after s (by_stamp x d n)) (trim_at m)

  pub pair_done : pair_tested ≡ Ok tt → after s (pair_at x d n m) ≡ pair_leaves
  unfolding changed_by words_by
  pair_done e = ap (λ o. left_by o pair_leaves s) e

  pub pair_refused : (why : Refusal) → pair_tested ≡ Err why → after s (pair_at x d n m) ≡ s
  unfolding changed_by words_by
  pair_refused why e = ap (λ o. left_by o pair_leaves s) e

-- ---- what a call answers is what its test says

abbrev tested : State → Call → Outcome
tested s (by_tick x d n) = append_outcome s.rec s.words (tick_standing x s.rec.next) d n
tested s (by_stamp x d n) = append_outcome s.rec s.words (stamp_standing x s.rec.next) d n
tested s (trim_at m) = trim_outcome s.rec s.words m
tested s (pair_at x d n m) = pair_tested s x d n m

pub answered : (s : State) (c : Call) → tested s c ≡ outcome_of s c
answered s (by_tick x d n) = sym (outcome_beside (tested s (by_tick x d n)) (appended s.rec s.words d n) s.rec)
answered s (by_stamp x d n) = sym (outcome_beside (tested s (by_stamp x d n)) (appended s.rec s.words d n) s.rec)
answered s (trim_at m) = sym (outcome_beside (tested s (trim_at m)) (trimmed s.rec s.words m.0) s.rec)
answered s (pair_at x d n m) = sym (outcome_beside (tested s (pair_at x d n m)) (pair_leaves s x d n m).rec s.rec)

-- a refused call leaves the state as it came
pub refused_stays : (s : State) (c : Call) (why : Refusal) → outcome_of s c ≡ Err why → after s c ≡ s
refused_stays s (by_tick x d n) why e = append_refused s _ d n why (answered s (by_tick x d n) ∙ e)
refused_stays s (by_stamp x d n) why e = append_refused s _ d n why (answered s (by_stamp x d n) ∙ e)
refused_stays s (trim_at m) why e = trim_refused s m why (answered s (trim_at m) ∙ e)
refused_stays s (pair_at x d n m) why e = pair_refused s x d n m why (answered s (pair_at x d n m) ∙ e)

-- ---- the references of accepted appends

-- a trim, however it ends, leaves the next tick
trim_next : (s : State) (m : WideMillis) → (after s (trim_at m)).rec.next ≡ s.rec.next
trim_next s m = go (tested s (trim_at m)) refl
  where
    go : (o : Outcome) → trim_outcome s.rec s.words m ≡ o → (after s (trim_at m)).rec.next ≡ s.rec.next
    go (Ok _) e = ap (λ x. x.rec.next) (trim_done s m e)
    go (Err why) e = ap (λ x. x.rec.next) (trim_refused s m why e)

module _ (s : State) where
  -- references and appends of a call whose references lie from the next tick on, whatever follows them
  abbrev Laid : List Reference → State → List Append → Type 0
  Laid first new appends =
      (rest : List Append) (xs : List Reference) → xs ≡ laid_from new.rec.next.0 rest → first ++ xs ≡ laid_from s.rec.next.0 (appends ++ rest)

  laid_append : (st : Standing) (d n : ℕ) (o : Outcome) → append_outcome s.rec s.words st d n ≡ o →
      Laid (if_accepted o (given s.rec d n)) (append_to s st d n) (if_accepted o (record { duration = d; count = n } ∷ []))
  unfolding laid_from
  laid_append st d n (Ok _) e rest xs k = ap (λ ys. given s.rec d n ++ ys) (k ∙ ap (λ x. laid_from x.rec.next.0 rest) (append_done s st d n e))
  laid_append st d n (Err why) e rest xs k = k ∙ ap (λ x. laid_from x.rec.next.0 rest) (append_refused s st d n why e)

  laid_trim : (m : WideMillis) (o : Outcome) → trim_outcome s.rec s.words m ≡ o → Laid (if_accepted o []) (after s (trim_at m)) (if_accepted o [])
  laid_trim m (Ok _) e rest xs k = k ∙ ap (λ x. laid_from x.rec.next.0 rest) (trim_done s m e)
  laid_trim m (Err why) e rest xs k = k ∙ ap (λ x. laid_from x.rec.next.0 rest) (trim_refused s m why e)

  laid_pair : (x : Stamp) (d n : ℕ) (m : WideMillis) (o : Outcome) → pair_tested s x d n m ≡ o →
      Laid (if_accepted o (given s.rec d n)) (after s (pair_at x d n m)) (if_accepted o (record { duration = d; count = n } ∷ []))
  laid_pair x d n m (Ok _) e rest xs k =
      let st = stamp_standing x s.rec.next in
      laid_append st d n (Ok tt) (pair_passed s.rec s.words st d n m e).taken rest xs
      (k ∙ ap (λ y. laid_from y.rec.next.0 rest) (pair_done s x d n m e) ∙ ap (λ t. laid_from t.0 rest) (trim_next (append_to s st d n) m))
  laid_pair x d n m (Err why) e rest xs k = k ∙ ap (λ y. laid_from y.rec.next.0 rest) (pair_refused s x d n m why e)

  laid_call : (c : Call) → Laid (brought s c) (after s c) (if_accepted (outcome_of s c) (appends_of c))
  laid_call (by_tick x d n) = laid_append (tick_standing x s.rec.next) d n (outcome_of s (by_tick x d n)) (answered s (by_tick x d n))
  laid_call (by_stamp x d n) = laid_append (stamp_standing x s.rec.next) d n (outcome_of s (by_stamp x d n)) (answered s (by_stamp x d n))
  laid_call (trim_at m) = laid_trim m (outcome_of s (trim_at m)) (answered s (trim_at m))
  laid_call (pair_at x d n m) = laid_pair x d n m (outcome_of s (pair_at x d n m)) (answered s (pair_at x d n m))

pub laid_out : (s : State) (cs : List Call) → all_accepted s cs ≡ laid_from s.rec.next.0 (accepted_appends s cs)
unfolding all_accepted accepted_appends laid_from
laid_out s [] = refl
laid_out s (c ∷ cs) = laid_call s c (accepted_appends (after s c) cs) (all_accepted (after s c) cs) (laid_out (after s c) cs)

-- ---- after a refused opening

module _ (came : List ℕ) where
  abbrev zeroed : State
  zeroed = state_from zero_record came

  -- a timescale of 0 is over its limit
  zero_disagrees : agrees zero_record came ≡ false
  unfolding agrees
  zero_disagrees = refl

  no_append : (st : Standing) (d n : ℕ) → append_outcome zero_record came st d n ≡ Err Disagreement
  unfolding append_outcome
  no_append st d n =
      ap (λ b. cond b (cond (eqb d 0 || eqb n 0) (Err NothingGiven) (unjoined st else fit_outcome zero_record came d n)) (Err Disagreement)) zero_disagrees

  no_trim : (m : WideMillis) → trim_outcome zero_record came m ≡ Err Disagreement
  unfolding trim_outcome
  no_trim m = ap (λ b. cond b (cond (clock_held m) (Ok tt) (Err ClockLimit)) (Err Disagreement)) zero_disagrees

  no_pair : (st : Standing) (d n : ℕ) (m : WideMillis) → pair_outcome zero_record came st d n m ≡ Err Disagreement
  unfolding pair_outcome
  no_pair st d n m = ap (λ b. cond b (cond (clock_held m) (append_outcome zero_record came st d n) (Err ClockLimit)) (Err Disagreement)) zero_disagrees

  -- every call is refused, and leaves all as it came
  no_call : (c : Call) → (tested zeroed c ≡ Err Disagreement) × (after zeroed c ≡ zeroed)
  no_call (by_tick x d n) =
      let st = tick_standing x zero_record.next in (no_append st d n, append_refused zeroed st d n Disagreement (no_append st d n))
  no_call (by_stamp x d n) =
      let st = stamp_standing x zero_record.next in (no_append st d n, append_refused zeroed st d n Disagreement (no_append st d n))
  no_call (trim_at m) = (no_trim m, trim_refused zeroed m Disagreement (no_trim m))
  no_call (pair_at x d n m) =
      let st = stamp_standing x zero_record.next in (no_pair st d n m, pair_refused zeroed x d n m Disagreement (no_pair st d n m))

  pub never : (c : Call) → outcome_of zeroed c ≡ Err Disagreement
  never c = sym (answered zeroed c) ∙ (no_call c).0

  pub stay : (cs : List Call) → after_calls zeroed cs ≡ zeroed
  unfolding after_calls
  stay [] = refl
  stay (c ∷ cs) = ap (λ s. after_calls s cs) (no_call c).1 ∙ stay cs
