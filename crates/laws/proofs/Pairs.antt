-- A pair is its two calls where it is accepted, and nothing where it is refused; and so is a list of calls that holds pairs.
use mathlib.Core.Path.{◌≡◌, refl, sym, ap, ap₂, ◌∙◌}
use mathlib.Core.Bool.{true, cond}
use mathlib.Core.List.{List, [], ◌∷◌, ◌++◌, append-nil, append_assoc}
use Prim.Native.Nat.{ℕ, ◌≤◌, max}
use native.Mathlib.Nat.{zero-max}
use borrow.Author.Tests.{le-leb}
use Rattle.units.specs.declared.Stamp.{Stamp}
use Rattle.units.specs.declared.WideMillis.{WideMillis}
use Rattle.units.specs.Limits.{largest_span, largest_millis, clock_held}
use Rattle.units.specs.Standing.{stamp_standing, less32}
use Rattle.window.specs.Place.{place, moment, period_end}
use Rattle.window.specs.Window.{low_edge}
use Rattle.runs.specs.Words.{runs_of, words_of, repeated, references_of}
use Rattle.runs.specs.Shape.{runs_shaped, zeros}
use Rattle.runs.specs.Ends.{last_end}
use Rattle.runs.specs.Encoding.{push, encode, table_of}
use Rattle.agreement.specs.declared.refusal.Refusal.{Refusal}
use Rattle.agreement.specs.declared.refusal.Refusal.TheVariants.{Disagreement, ClockLimit}
use Rattle.agreement.specs.Agreement.{every, agrees}
use Rattle.std.specs.Prelude.{Err, Ok}
use Rattle.keeping.specs.Keeping.{Outcome}
use Rattle.keeping.specs.Keeping.{unspent, changed_by, words_by}
use Rattle.keeping.specs.Append.{given, room_outcome, fit_outcome}
use Rattle.timeline.specs.Opening.{open_outcome}
use Rattle.timeline.specs.Appending.{append_outcome}
use Rattle.timeline.specs.Trimming.{trim_outcome}
use Rattle.timeline.specs.Pair.{pair_outcome}
use Rattle.timeline.proofs.Kept.{taken, trim_passed}
use Rattle.timeline.proofs.Pairs.{pair_passed, pair_trim}
use Rattle.laws.specs.Calls.{Call, by_tick, by_stamp, trim_at, pair_at, Plain, State, after, after_calls, outcome_of, if_accepted, brought, all_accepted, appends_of, accepted_appends, clock_if, clock_of, greatest}
use Rattle.laws.specs.Pairs.{made_as, made_apart, NoPair, PairRight}
use Rattle.laws.proofs.Calling.{answered, pair_done, refused_stays}
use Rattle.laws.proofs.Histories.{max_assoc}

-- ---- one pair

module _ (s : State) (x : Stamp) (d n : ℕ) (c : WideMillis) where
  abbrev pair : Call
  pair = pair_at x d n c

  abbrev appended : State
  appended = after s (by_stamp x d n)

  -- behind 2 and 10 the append decides
  judged : agrees s.rec s.words ≡ true → clock_held c ≡ true → outcome_of s pair ≡ outcome_of s (by_stamp x d n)
  unfolding pair_outcome
  judged a h =
      sym (answered s pair) ∙
      ap₂ (λ t u. cond t (cond u (append_outcome s.rec s.words (stamp_standing x s.rec.next) d n) (Err ClockLimit)) (Err Disagreement)) a h ∙
      answered s (by_stamp x d n)

  both : d ≤ largest_span → outcome_of s pair ≡ Ok tt → (outcome_of s (by_stamp x d n) ≡ Ok tt) × (outcome_of appended (trim_at c) ≡ Ok tt)
  both narrow e =
      let o = answered s pair ∙ e in
      let st = stamp_standing x s.rec.next in (
        sym (answered s (by_stamp x d n)) ∙ (pair_passed s.rec s.words st d n c o).taken,
        sym (answered appended (trim_at c)) ∙ pair_trim s.rec s.words st d n c narrow o,
      )

  from_both : (outcome_of s (by_stamp x d n) ≡ Ok tt) × (outcome_of appended (trim_at c) ≡ Ok tt) → outcome_of s pair ≡ Ok tt
  from_both (e, f) =
      let a = (taken s.rec s.words _ d n (answered s (by_stamp x d n) ∙ e)).agreed in
      let h = le-leb c.0 largest_millis (trim_passed appended.rec appended.words c (answered appended (trim_at c) ∙ f)).1 in
      judged a h ∙ e

  pair_ends : outcome_of s pair ≡ Ok tt → after s pair ≡ after appended (trim_at c)
  pair_ends e = pair_done s x d n c (answered s pair ∙ e)

-- ---- each call made apart

none_in : (cs ds : List Call) → NoPair cs → NoPair ds → NoPair (cs ++ ds)
none_in [] ds n m = m
none_in (by_tick t d k ∷ cs) ds n m = none_in cs ds n m
none_in (by_stamp t d k ∷ cs) ds n m = none_in cs ds n m
none_in (trim_at c ∷ cs) ds n m = none_in cs ds n m
none_in (pair_at t d k c ∷ cs) ds n m = absurd n

none_made : (s : State) (c : Call) → NoPair (made_as s c)
none_made s (by_tick t d n) = tt
none_made s (by_stamp t d n) = tt
none_made s (trim_at c) = tt
none_made s (pair_at t d n c) = go (outcome_of s (pair_at t d n c))
  where
    go : (o : Outcome) → NoPair (if_accepted o (by_stamp t d n ∷ trim_at c ∷ []))
    go (Ok _) = tt
    go (Err why) = tt

none_left : (s : State) (cs : List Call) → NoPair (made_apart s cs)
unfolding made_apart
none_left s [] = tt
none_left s (c ∷ cs) = none_in (made_as s c) (made_apart (after s c) cs) (none_made s c) (none_left (after s c) cs)

ends : (s : State) (cs : List Call) → after_calls s (made_apart s cs) ≡ after_calls s cs
unfolding after_calls made_apart
ends s [] = refl
ends s (by_tick t d n ∷ cs) = ends (after s (by_tick t d n)) cs
ends s (by_stamp t d n ∷ cs) = ends (after s (by_stamp t d n)) cs
ends s (trim_at c ∷ cs) = ends (after s (trim_at c)) cs
ends s (pair_at t d n c ∷ cs) = go (outcome_of s (pair_at t d n c)) refl ∙ ends (after s (pair_at t d n c)) cs
  where
    rest : List Call
    rest = made_apart (after s (pair_at t d n c)) cs

    go : (o : Outcome) → outcome_of s (pair_at t d n c) ≡ o →
        after_calls s (if_accepted o (by_stamp t d n ∷ trim_at c ∷ []) ++ rest) ≡ after_calls (after s (pair_at t d n c)) rest
    go (Ok _) e = ap (λ x. after_calls x rest) (sym (pair_ends s t d n c e))
    go (Err why) e = ap (λ x. after_calls x rest) (sym (refused_stays s (pair_at t d n c) why e))

-- ---- what calls come to, one after the other

-- what is gathered of calls is the same of calls that are made apart, where a pair brings what its two calls bring, or nothing
record Gathers {A : Type 0} (join : A → A → A) (none : A) (each : State → Call → A) (all : State → List Call → A) : Type 0 where
  nothing : (s : State) → all s [] ≡ none
  first : (s : State) (c : Call) (cs : List Call) → all s (c ∷ cs) ≡ join (each s c) (all (after s c) cs)
  left : (x : A) → join none x ≡ x
  along : (x y z : A) → join (join x y) z ≡ join x (join y z)
  two : (s : State) (x : Stamp) (d n : ℕ) (c : WideMillis) → d ≤ largest_span → outcome_of s (pair_at x d n c) ≡ Ok tt →
      each s (pair_at x d n c) ≡ join (each s (by_stamp x d n)) (each (after s (by_stamp x d n)) (trim_at c))
  no_one : (s : State) (x : Stamp) (d n : ℕ) (c : WideMillis) (why : Refusal) → outcome_of s (pair_at x d n c) ≡ Err why → each s (pair_at x d n c) ≡ none

module _ {A : Type 0} {join : A → A → A} {none : A} {each : State → Call → A} {all : State → List Call → A} (g : Gathers join none each all) where
  one_more : (s : State) (c : Call) (cs ds : List Call) → all (after s c) cs ≡ all (after s c) ds → all s (c ∷ cs) ≡ all s (c ∷ ds)
  one_more s c cs ds e = g.first s c cs ∙ ap (join (each s c)) e ∙ sym (g.first s c ds)

  gathered : (s : State) (cs : List Call) → Plain cs → all s (made_apart s cs) ≡ all s cs
  unfolding made_apart
  gathered s [] p = refl
  gathered s (by_tick t d n ∷ cs) p = one_more s (by_tick t d n) _ cs (gathered (after s (by_tick t d n)) cs p.1)
  gathered s (by_stamp t d n ∷ cs) p = one_more s (by_stamp t d n) _ cs (gathered (after s (by_stamp t d n)) cs p.1)
  gathered s (trim_at c ∷ cs) p = one_more s (trim_at c) _ cs (gathered (after s (trim_at c)) cs p)
  gathered s (pair_at t d n c ∷ cs) p =
      go (outcome_of s pair') refl ∙ ap (join (each s pair')) (gathered (after s pair') cs p.1) ∙ sym (g.first s pair' cs)
    where
      pair' : Call
      pair' = pair_at t d n c

      rest : List Call
      rest = made_apart (after s pair') cs

      go : (o : Outcome) → outcome_of s pair' ≡ o →
          all s (if_accepted o (by_stamp t d n ∷ trim_at c ∷ []) ++ rest) ≡ join (each s pair') (all (after s pair') rest)
      go (Ok _) e =
          let a = after s (by_stamp t d n) in
          g.first s (by_stamp t d n) (trim_at c ∷ rest) ∙
          ap (join (each s (by_stamp t d n))) (g.first a (trim_at c) rest) ∙
          sym (g.along (each s (by_stamp t d n)) (each a (trim_at c)) (all (after a (trim_at c)) rest)) ∙
          ap₂ (λ x y. join x (all y rest)) (sym (g.two s t d n c p.0 e)) (sym (pair_ends s t d n c e))
      go (Err why) e =
          ap (λ x. all x rest) (sym (refused_stays s (pair_at t d n c) why e)) ∙
          sym (g.left (all (after s pair') rest)) ∙
          ap (λ x. join x (all (after s pair') rest)) (sym (g.no_one s t d n c why e))

-- a trim brings no append and no reference, however it ends
nothing_brought : {A : Type 0} (o : Outcome) → if_accepted {A = A} o [] ≡ []
nothing_brought (Ok _) = refl
nothing_brought (Err why) = refl

-- what is brought by the outcome, once by a pair and once by its append
brought_once : {A : Type 0} (xs : List A) (o p q : Outcome) → o ≡ Ok tt → p ≡ Ok tt → if_accepted o xs ≡ if_accepted p xs ++ if_accepted q []
brought_once xs o p q e f = ap (λ y. if_accepted y xs) (e ∙ sym f) ∙ sym (append-nil (if_accepted p xs)) ∙ ap (λ ys. if_accepted p xs ++ ys) (sym (nothing_brought q))

the_appends : Gathers ◌++◌ [] (λ s c. if_accepted (outcome_of s c) (appends_of c)) accepted_appends
unfolding accepted_appends
the_appends =
    record {
      nothing = λ s. refl;
      first = λ s c cs. refl;
      left = λ x. refl;
      along = append_assoc;
      two = λ s x d n c narrow e. brought_once _ _ _ (outcome_of (after s (by_stamp x d n)) (trim_at c)) e (both s x d n c narrow e).0;
      no_one = λ s x d n c why e. ap (λ o. if_accepted o (appends_of (pair_at x d n c))) e;
    }

the_references : Gathers ◌++◌ [] brought all_accepted
unfolding all_accepted
the_references =
    record {
      nothing = λ s. refl;
      first = λ s c cs. refl;
      left = λ x. refl;
      along = append_assoc;
      two = λ s x d n c narrow e. brought_once _ _ _ (outcome_of (after s (by_stamp x d n)) (trim_at c)) e (both s x d n c narrow e).0;
      no_one = λ s x d n c why e. ap (λ o. if_accepted o (given s.rec d n)) e;
    }

the_clock : Gathers max 0 clock_of greatest
unfolding greatest
the_clock =
    record {
      nothing = λ s. refl;
      first = λ s c cs. refl;
      left = zero-max;
      along = max_assoc;
      two = λ s x d n c narrow e.
          ap (λ o. clock_if o c.0) (e ∙ sym (both s x d n c narrow e).1) ∙ sym (zero-max (clock_of (after s (by_stamp x d n)) (trim_at c)));
      no_one = λ s x d n c why e. ap (λ o. clock_if o c.0) e;
    }

pub pair_right : PairRight
unfolding agrees runs_of words_of repeated references_of runs_shaped zeros last_end every place moment period_end low_edge push encode table_of unspent changed_by words_by open_outcome room_outcome fit_outcome append_outcome trim_outcome pair_outcome less32
pair_right =
    record {
      accepted = λ s x d n c narrow. record { only = both s x d n c narrow; if = from_both s x d n c };
      done = pair_ends;
      refused = λ s x d n c. refused_stays s (pair_at x d n c);
      append_decides = λ s x d n c a l. judged s x d n c a (le-leb c.0 largest_millis l);
      none_left = none_left;
      ends = ends;
      appends = gathered the_appends;
      references = gathered the_references;
      clock = gathered the_clock;
      b_both = refl;
      b_earlier = refl;
      b_gap = refl;
      b_gap_stays = refl;
      b_gap_as_two = refl;
      b_over = refl;
      b_over_stays = refl;
      b_over_as_two = refl;
      b_over_first = refl;
      b_room = refl;
      b_room_after = refl;
      b_none = refl;
      b_none_after = refl;
    }
