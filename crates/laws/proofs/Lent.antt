-- The record lent: the contracts are what they say by computation, and a row of calls is followed call by call.
use Rattle.agreement.specs.Numbers.{answer_number}
use Prim.Native.Nat.{ℕ}
use mathlib.Core.Path.{◌≡◌, refl, sym, ap, ap₂, subst, subst⁻¹, ◌∙◌}
use mathlib.Core.Bool.{true}
use mathlib.Core.List.{List, [], ◌∷◌}
use lib.ListN.{length}
use Rattle.units.specs.declared.Tick.{Tick}
use Rattle.window.specs.declared.Head.{Head}
use Rattle.window.specs.Place.{place, moment, period_end}
use Rattle.window.specs.Window.{low_edge}
use Rattle.runs.specs.Words.{runs_of, words_of, repeated, references_of}
use Rattle.runs.specs.Shape.{runs_shaped, zeros}
use Rattle.runs.specs.Ends.{last_end}
use Rattle.runs.specs.Encoding.{canonical, push, encode, table_of}
use Rattle.agreement.specs.Agreement.{every, agrees}
use Rattle.std.specs.Prelude.{Ok}
use Rattle.keeping.specs.Keeping.{Outcome}
use Rattle.keeping.specs.Keeping.{unspent, changed_by, words_by}
use Rattle.keeping.specs.Append.{room_outcome, fit_outcome}
use Rattle.timeline.specs.Opening.{open_outcome}
use Rattle.timeline.specs.Appending.{append_outcome}
use Rattle.timeline.specs.Trimming.{trim_outcome}
use Rattle.laws.specs.Calls.{Call, by_tick, by_stamp, trim_at, pair_at, Plain, State, opening, after, after_calls, outcome_of, all_accepted, greatest}
use Rattle.laws.specs.History.{Holds, kept_by}
use Rattle.laws.specs.Refusals.{lowest}
use Rattle.laws.specs.Lent.{Lent, rows_of, LentCalls, none, more, outcomes_of, LentRight}
use Rattle.laws.proofs.Calling.{refused_stays}
use Rattle.laws.proofs.Histories.{demand_3}
use Rattle.laws.proofs.Refusals.{refusals}

number : (s : State) (c : Call) → Plain (c ∷ []) → answer_number (outcome_of s c) ≡ lowest (rows_of s c)
number s (by_tick t d n) plain = refusals.append s.rec s.words t d n plain.0
number s (by_stamp x d n) plain = refusals.append_stamp s.rec s.words x d n plain.0
number s (trim_at c) plain = refusals.trim s.rec s.words c
number s (pair_at x d n c) plain = refusals.append_trim s.rec s.words x d n c plain.0

left_is : (s : State) (c : Call) (o : Outcome) (left : State) → Lent s c o left → left ≡ after s c
left_is s c o left l i = record { rec = l.rec i; words = l.words i }

ends : (s : State) (cs : List Call) (os : List Outcome) (left : State) → LentCalls s cs os left → left ≡ after_calls s cs
unfolding after_calls
ends s [] [] left none = refl
ends s [] (o ∷ os) left ls = elim ls [ ]
ends s (c ∷ cs) [] left ls = elim ls [ ]
ends s (c ∷ cs) (o ∷ os) left (more {between = between} l ls) = ends between cs os left ls ∙ ap (λ (x : State). after_calls x cs) (left_is s c o between l)

answers : (s : State) (cs : List Call) (os : List Outcome) (left : State) → LentCalls s cs os left → os ≡ outcomes_of s cs
unfolding outcomes_of
answers s [] [] left none = refl
answers s [] (o ∷ os) left ls = elim ls [ ]
answers s (c ∷ cs) [] left ls = elim ls [ ]
answers s (c ∷ cs) (o ∷ os) left (more {between = between} l ls) =
    ap₂ ◌∷◌ l.outcome (answers between cs os left ls ∙ ap (λ (x : State). outcomes_of x cs) (left_is s c o between l))

-- where nothing is kept every word is 0, so two such states have the same words
module _ (h : Head) (t : Tick) (came : List ℕ) (ok : open_outcome h t ≡ Ok tt) where
  abbrev left_by : List Call → State
  left_by cs = after_calls (opening h t came) cs

  emptied : (cs : List Call) → Plain cs → kept_by (left_by cs) ≡ [] → (left_by cs).words ≡ canonical (length came) []
  emptied cs plain e = (demand_3.holds h t came ok cs plain).settled.table ∙ ap (canonical (length came)) e

  unseen_empty : (cs ds : List Call) → Plain cs → Plain ds → kept_by (left_by cs) ≡ [] → kept_by (left_by ds) ≡ [] → agrees (left_by cs).rec (left_by ds).words ≡ true
  unseen_empty cs ds plain plain' e f =
      subst (λ (ws : List ℕ). agrees (left_by cs).rec ws ≡ true) (emptied cs plain e ∙ sym (emptied ds plain' f)) (demand_3.holds h t came ok cs plain).settled.agreed

pub lent_right : LentRight
unfolding agrees runs_of words_of repeated references_of runs_shaped zeros last_end every place moment period_end low_edge push encode table_of unspent changed_by words_by open_outcome room_outcome fit_outcome append_outcome trim_outcome
lent_right =
    record {
      asks = λ 𝓛 mem run κs rec table. record { append = λ t d n. refl; append_stamp = λ x d n. refl; trim = λ c. refl; append_trim = λ x d n c. refl };
      just = λ 𝓛 mem run κs rec table o rec' table'. record { append = λ t d n. refl; append_stamp = λ x d n. refl; trim = λ c. refl; append_trim = λ x d n c. refl };
      one_there = λ s c. record { outcome = refl; rec = refl; words = refl };
      one_answer = λ s c o p left other l m. l.outcome ∙ sym m.outcome;
      one_left = λ s c o p left other l m. left_is s c o left l ∙ sym (left_is s c p other m);
      number = λ s c o left plain l. ap answer_number l.outcome ∙ number s c plain;
      refused = λ s c why left l. left_is s c _ left l ∙ refused_stays s c why (sym l.outcome);
      answers = answers;
      ends = ends;
      holds = λ h t came ok cs plain os left ls.
          subst⁻¹ (λ (s : State). Holds h t (length came) s (all_accepted (opening h t came) cs) (greatest (opening h t came) cs)) (ends (opening h t came) cs os left ls) (demand_3.holds h t came ok cs plain);
      same = λ h t came other cs ds m e os ps left right ls rs.
          ends (opening h t came) cs os left ls ∙ demand_3.same h t came other cs ds m e ∙ sym (ends (opening h t other) ds ps right rs);
      follows = λ s x d n c. more (record { outcome = refl; rec = refl; words = refl }) (more (record { outcome = refl; rec = refl; words = refl }) none);
      unseen = λ s cs c e. ap (λ (ws : List ℕ). outcome_of (record { rec = s.rec; words = ws }) c) e;
      unseen_empty = unseen_empty;
      b_told = refl;
      b_raised = refl;
      b_clock_lost = refl;
      b_spent = refl;
      b_counted_once = refl;
      b_emptied = refl;
      b_old_numbers = refl;
    }
