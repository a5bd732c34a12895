-- Spent by division: the references of a run that have passed stand first, and are as many as the quotient says; and the cases by hand.
use mathlib.Core.Path.{◌≡◌, refl, ap, subst, subst⁻¹, ◌∙◌}
use mathlib.Core.Bool.{Bool, true, false, cond, not, ◌&&◌}
use mathlib.Core.List.{List, [], ◌∷◌}
use Prim.Native.Nat.{ℕ, suc, ◌+◌, ◌-◌, ◌/◌, ◌≤◌, min}
use native.Mathlib.Omega.{arith}
use borrow.Author.Tests.{leb-false, not-true}
use lib.Dec.{leb}
use lib.IntN.{pos, nat_abs}
use lib.ListN.{length, take, drop}
use lib.Signed.{le_z}
use Rattle.units.specs.declared.WideTick.{WideTick}
use Rattle.window.specs.declared.Head.{Head}
use Rattle.window.specs.declared.Reference.{Reference}
use Rattle.window.specs.declared.Passed.{Passed}
use Rattle.window.specs.declared.Passed.TheVariants.{All, Upto}
use Rattle.window.specs.Place.{place, moment, period_end, end_known, before_end}
use Rattle.window.specs.Window.{low_edge, end_of, passed, Spent}
use Rattle.window.specs.Ticks.{EndsPassed}
use Rattle.window.specs.Steps.{over_by}
use Rattle.window.specs.References.{EndToStart, Each, Sound}
use Rattle.window.proofs.Unsigned.{low_n, low_is}
use Rattle.window.proofs.Spending.{passed_spent, not_spent}
use Rattle.window.proofs.Division.{all_at, upto_at}
use Rattle.runs.specs.Words.{runs_of, words_of, repeated, references_of}
use Rattle.runs.specs.Shape.{runs_shaped, zeros}
use Rattle.runs.specs.Ends.{last_end}
use Rattle.runs.specs.Encoding.{push, encode, table_of}
use Rattle.runs.specs.Steps.{passed_upto}
use Rattle.runs.proofs.Opening.{repeated_length}
use Rattle.runs.proofs.EndToStart.{repeated_join, each_drop}
use Rattle.runs.proofs.Ends.{none_upto, passed_quotient}
use Rattle.agreement.specs.Agreement.{every, agrees}
use Rattle.keeping.specs.Keeping.{unspent, changed_by, words_by}
use Rattle.keeping.specs.Append.{room_outcome, fit_outcome}
use Rattle.keeping.specs.Steps.{count_passed}
use Rattle.keeping.proofs.Unspent.{unspent_is, unspent_coming, count_most}
use Rattle.timeline.specs.Opening.{open_outcome}
use Rattle.timeline.specs.Appending.{append_outcome}
use Rattle.timeline.specs.Trimming.{trim_outcome}
use Rattle.laws.specs.Calls.{State}
use Rattle.laws.specs.ByHand.{appending, trimming, state_of}
use Rattle.laws.specs.Division.{end_reached, edge_tick, spent_of, SpentFirst, head_e, open_e, three_e, SpentByDivision}
use Rattle.laws.proofs.Listed.{each_as, each_with, each_true, true_each}
use Rattle.laws.proofs.Leaving.{each_sound}

-- ---- those that have passed stand first

module _ (h : Head) (c : ℕ) where
  abbrev Gone : Reference → Type 0
  Gone r = passed h (end_of r) c ≡ true

  first_all : EndsPassed h c All → (rs : List Reference) → Each Gone (take (length rs) rs)
  first_all w [] = tt
  first_all w (r ∷ rs) = (w (end_of r), first_all w rs)

  first_upto : (t : WideTick) → EndsPassed h c (Upto t) → (s : ℕ) (rs : List Reference) → EndToStart s rs → Each Gone (take (passed_upto t.0 rs) rs)
  unfolding passed_upto
  first_upto t w s [] j = tt
  first_upto t w s (r ∷ rs) j = go (leb (end_of r) t.0) refl (first_upto t w (end_of r) rs j.1)
    where
      go : (b : Bool) → leb (end_of r) t.0 ≡ b → Each Gone (take (passed_upto t.0 rs) rs) →
          Each Gone (take (cond b (suc (passed_upto t.0 rs)) (passed_upto t.0 rs)) (r ∷ rs))
      go true e k = (w (end_of r) ∙ e, k)
      go false e k =
          subst⁻¹ (λ (n : ℕ). Each Gone (take n (r ∷ rs))) (none_upto t.0 (end_of r) rs j.1 (leb-false (end_of r) t.0 e)) tt

  first_passed : (p : Passed) → EndsPassed h c p → (s : ℕ) (rs : List Reference) → EndToStart s rs → Each Gone (take (count_passed p rs) rs)
  first_passed All w s rs j = first_all w rs
  first_passed (Upto t) w s rs j = first_upto t w s rs j

  -- ---- which have passed, by the lower edge

  abbrev passed_by : Bool → Passed
  passed_by t = cond t All (Upto (record { 0 = edge_tick h c }))

  ends : (t : Bool) → t ≡ over_by h (low_n h c) → EndsPassed h c (passed_by t)
  ends true e = all_at h c (low_n h c) refl true e refl
  ends false e =
      subst⁻¹ (λ z. EndsPassed h c (Upto (record { 0 = h.offset.0 + nat_abs z / 1000 }))) (low_is h c) (upto_at h c (low_n h c) refl false e refl)

  reached : end_reached h c ≡ over_by h (low_n h c)
  reached = ap (λ z. end_known h && le_z (period_end h) z) (low_is h c) ∙ go (end_known h) (le_z (period_end h) (pos (low_n h c)))
    where
      go : (a b : Bool) → (a && b) ≡ cond a b false
      go true b = refl
      go false b = refl

  module _ (s d n : ℕ) (some : 1 ≤ d) where
    counted : (t : Bool) → count_passed (passed_by t) (repeated s d n) ≡ cond t n (min n ((edge_tick h c - s) / d))
    counted true = repeated_length s d n
    counted false = passed_quotient (edge_tick h c) s d n some

    first : 1 ≤ h.timescale.0 → Each (λ r. before_end h r.start.0 ≡ true) (repeated s d n) → SpentFirst h c s d n (spent_of h c s d n)
    first rated begins =
        let rs = repeated s d n in
        let p = passed_by (end_reached h c) in
        let w : EndsPassed h c p = ends (end_reached h c) reached in
        let join = repeated_join s d n in
        let sound : Each (Sound h) rs = each_sound h d some s n (true_each (λ r. before_end h r.start.0) rs begins) in
        let left : every (λ r. not (passed h (end_of r) c)) (drop (count_passed p rs) rs) ≡ true =
        subst (λ xs. every (λ r. not (passed h (end_of r) c)) xs ≡ true) (unspent_is h c p w s rs join) (unspent_coming h c rs) in
        subst (SpentFirst h c s d n) (counted (end_reached h c))
        (record {
          most = omega (arith, count_most p rs, repeated_length s d n);
          spent = each_as Gone (λ r. Spent h r c) (λ r. passed_spent h r c) (take (count_passed p rs) rs) (first_passed p w s rs join);
          others =
              each_with (Sound h) (λ r. not (passed h (end_of r) c) ≡ true) (λ r. Spent h r c → ⊥)
              (λ r x e. not_spent h rated c r x (not-true (passed h (end_of r) c) e))
              (drop (count_passed p rs) rs) (each_drop (Sound h) (count_passed p rs) rs sound)
              (each_true (λ r. not (passed h (end_of r) c)) (drop (count_passed p rs) rs) left);
        })

-- ---- by hand

abbrev state_e : State
state_e = state_of head_e 3 0 12 0 1 (0 ∷ 4 ∷ 3 ∷ [])

record Worked : Type 0 where
  three : three_e ≡ state_e
  two : trimming state_e 10 ≡ state_of head_e 3 2 12 10 1 (8 ∷ 4 ∷ 1 ∷ [])
  all : trimming state_e 11 ≡ state_of head_e 3 3 12 11 0 (0 ∷ 0 ∷ 0 ∷ [])
  two_at_once : appending (trimming open_e 10) 0 4 3 ≡ state_of head_e 3 2 12 10 1 (8 ∷ 4 ∷ 1 ∷ [])
  all_at_once : appending (trimming open_e 11) 0 4 3 ≡ state_of head_e 3 3 12 11 0 (0 ∷ 0 ∷ 0 ∷ [])

worked : Worked
unfolding agrees runs_of words_of repeated references_of runs_shaped zeros last_end every place moment period_end low_edge push encode table_of unspent changed_by words_by open_outcome room_outcome fit_outcome append_outcome trim_outcome
worked = record { three = refl; two = refl; all = refl; two_at_once = refl; all_at_once = refl }

pub spent_by_division : SpentByDivision
unfolding moment period_end low_edge
spent_by_division =
    record {
      first = λ h c s d n rated some begins. first h c s d n some rated begins;
      e_two = ap (λ s. trimming s 10) worked.three ∙ worked.two;
      e_three = ap (λ s. trimming s 11) worked.three ∙ worked.all;
      e_two_at_once = worked.two_at_once;
      e_three_at_once = worked.all_at_once;
      none_yet = refl;
      feed_two = refl;
      feed_half = refl;
      feed_all = refl;
      most_less_one = refl;
      most_all = refl;
    }
