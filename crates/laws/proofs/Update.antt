-- The update period: it moves the upper edge and nothing else; and the cases by hand.
use mathlib.Core.Path.{◌≡◌, refl, sym, ap, ap₂, ◌∙◌}
use mathlib.Core.Bool.{true, cond}
use mathlib.Core.List.{[], ◌∷◌}
use Prim.Native.Nat.{ℕ, ◌+◌, ◌-◌, ◌*◌, ◌≤◌}
use native.Mathlib.Nat.{add-mul}
use native.Mathlib.Omega.{arith}
use borrow.Author.Tests.{eqb-false, eq-eqb, ne_eqb}
use lib.Dec.{lit<, lit≤}
use lib.IntN.{pos}
use Rattle.units.specs.Exactly.{ExactlyWhen}
use Rattle.window.specs.declared.Head.{Head}
use Rattle.window.specs.declared.Reference.{Reference}
use Rattle.std.specs.Prelude.{Ok, Some}
use Rattle.window.specs.Place.{place, moment, period_end, cut_to_end, before_end}
use Rattle.window.specs.Window.{low_edge, high_edge, window_at, end_of, passed, Spent}
use Rattle.window.proofs.Unsigned.{low_n, low_is}
use Rattle.window.proofs.Spending.{passed_spent, spent_is}
use Rattle.window.proofs.Division.{window_ticks}
use Rattle.runs.specs.Words.{runs_of, words_of, repeated, references_of}
use Rattle.runs.specs.Shape.{runs_shaped, zeros}
use Rattle.runs.specs.Ends.{last_end}
use Rattle.runs.specs.Encoding.{push, encode, table_of}
use Rattle.agreement.specs.Agreement.{every, agrees}
use Rattle.keeping.specs.Keeping.{unspent, changed_by, words_by}
use Rattle.keeping.specs.Append.{room_outcome, fit_outcome}
use Rattle.timeline.specs.Opening.{open_outcome}
use Rattle.timeline.specs.Appending.{append_outcome}
use Rattle.timeline.specs.Trimming.{trim_outcome}
use Rattle.answers.specs.declared.Verdict.{Verdict}
use Rattle.answers.specs.declared.Verdict.TheVariants.{Complete, Lacking}
use Rattle.answers.specs.Judgement.{verdict_at}
use Rattle.answers.specs.Edge.{covered_edge}
use Rattle.answers.proofs.Judging.{all_covered, end_lacking}
use Rattle.words.specs.Words.{head_with}
use Rattle.laws.specs.Calls.{State}
use Rattle.laws.specs.ByHand.{wide, millis, trimming, state_of}
use Rattle.laws.specs.Update.{with_update, with_depth, head_u, five_u, UpdateRight}
use Rattle.laws.proofs.ByHand.{by_clock, one_run}
use Rattle.laws.proofs.Edge.{asked, at_clock_lem}

-- ---- the window

module _ (h : Head) (c : ℕ) where
  lower : (u : ℕ) → low_edge (with_update u h) c ≡ low_edge h c
  unfolding low_edge moment
  lower u = refl

  -- the upper edge of a head without an update period, at the clock that is later by it
  same_upper : (g : Head) → ((n : ℕ) → cut_to_end g (moment g (pos n)) ≡ cut_to_end h (moment h (pos n))) → g.update.0 ≡ 0 →
      high_edge h c ≡ high_edge g (c + h.update.0)
  unfolding high_edge
  same_upper g s z =
      ap (λ (n : ℕ). cut_to_end h (moment h (pos n))) (omega arith) ∙ sym (s (c + h.update.0 + g.update.0))

  both : (g : Head) → low_edge h c ≡ low_edge g (c + h.update.0) → high_edge h c ≡ high_edge g (c + h.update.0) → window_at h c ≡ window_at g (c + h.update.0)
  both g l u = ap₂ (λ a b. record { from = a; to = b }) l u

  later : 1 ≤ h.depth.0 → window_at h c ≡ window_at (with_update 0 (with_depth (h.depth.0 + h.update.0) h)) (c + h.update.0)
  unfolding moment period_end
  later some =
      let u = h.update.0 in
      let g = with_update 0 (with_depth (h.depth.0 + u) h) in
      let rate = h.timescale.0 in
      let same : low_n h c ≡ low_n g (c + u) =
      ap (λ t. cond t 0 (c * rate - (h.depth.0 + h.start.0) * rate)) (ne_eqb h.depth.0 0 (λ z. let f : ⊥ = omega arith in f)) ∙
      omega (arith, add-mul c u rate, add-mul h.depth.0 h.start.0 rate, add-mul (h.depth.0 + u) h.start.0 rate, add-mul h.depth.0 u rate) ∙
      sym (ap (λ t. cond t 0 ((c + u) * rate - (h.depth.0 + u + h.start.0) * rate)) (ne_eqb (h.depth.0 + u) 0 (λ z. let f : ⊥ = omega arith in f)))
      in
      both g (low_is h c ∙ ap pos same ∙ sym (low_is g (c + u))) (same_upper g (λ n. refl) refl)

  later_open : h.depth.0 ≡ 0 → window_at h c ≡ window_at (with_update 0 h) (c + h.update.0)
  unfolding moment period_end
  later_open e =
      let u = h.update.0 in
      let g = with_update 0 h in
      let rate = h.timescale.0 in
      let zero : (m : ℕ) → low_n h m ≡ 0 = λ m. ap (λ t. cond t 0 (m * rate - (h.depth.0 + h.start.0) * rate)) (eq-eqb h.depth.0 0 e) in
      both g (low_is h c ∙ ap pos (zero c ∙ sym (zero (c + u))) ∙ sym (low_is g (c + u))) (same_upper g (λ n. refl) refl)

module _ (h : Head) (u : ℕ) (r : Reference) (c : ℕ) (rated : 1 ≤ h.timescale.0) (lasts : 1 ≤ r.span.0) (begins : before_end h r.start.0 ≡ true) where
  same_passed : passed (with_update u h) (end_of r) c ≡ passed h (end_of r) c
  unfolding place moment period_end low_edge
  same_passed = refl

  same_begins : before_end (with_update u h) r.start.0 ≡ true
  unfolding place period_end
  same_begins = begins

  spent : ExactlyWhen (Spent (with_update u h) r c) (Spent h r c)
  spent =
      record {
        only = λ s. passed_spent h r c (sym same_passed ∙ (spent_is (with_update u h) r c rated lasts same_begins).if s);
        if = λ s. passed_spent (with_update u h) r c (same_passed ∙ (spent_is h r c rated lasts begins).if s);
      }

-- ---- by hand

abbrev state_u : State
state_u = state_of head_u 5 0 20_000 0 1 (0 ∷ 4000 ∷ 5 ∷ [])

record Worked : Type 0 where
  five : five_u ≡ state_u
  agreed : agrees state_u.rec state_u.words ≡ true
  none : trimming state_u 13_999 ≡ state_of head_u 5 0 20_000 13_999 1 (0 ∷ 4000 ∷ 5 ∷ [])
  one : trimming state_u 14_000 ≡ state_of head_u 5 1 20_000 14_000 1 (4000 ∷ 4000 ∷ 4 ∷ [])
  two : trimming state_u 18_000 ≡ state_of head_u 5 2 20_000 18_000 1 (8000 ∷ 4000 ∷ 3 ∷ [])

worked : Worked
unfolding agrees runs_of words_of repeated references_of runs_shaped zeros last_end every place moment period_end low_edge push encode table_of unspent changed_by words_by open_outcome room_outcome fit_outcome append_outcome trim_outcome
worked = record { five = refl; agreed = refl; none = refl; one = refl; two = refl }

-- a verdict at a clock under U's head, where the window needs the ticks from a up to b
u_verdict : (c : ℕ) (v : Verdict) → verdict_at state_u.rec state_u.words (millis c) ≡ Ok v → verdict_at five_u.rec five_u.words (millis c) ≡ Ok v
u_verdict c v e = ap (λ s. verdict_at s.rec s.words (millis c)) worked.five ∙ e

pub update_right : UpdateRight
unfolding moment period_end low_edge high_edge
update_right =
    record {
      lower = λ h u c. lower h c u;
      spent = spent;
      later = later;
      later_open = later_open;
      u_0 =
          u_verdict 0 (Complete 2000)
          (by_clock state_u.rec state_u.words worked.agreed one_run (millis 0) refl refl (Some (record { first = wide 0; end = wide 2000 })) (Complete 2000)
          (window_ticks head_u 0 (lit< tt))
          (all_covered 0 2000 0 20_000 (lit< tt) 0 2000 refl refl refl));
      u_14000 =
          u_verdict 14_000 (Complete 12_000)
          (by_clock state_u.rec state_u.words worked.agreed one_run (millis 14_000) refl refl (Some (record { first = wide 4000; end = wide 16_000 })) (Complete 12_000)
          (window_ticks head_u 14_000 (lit< tt))
          (all_covered 4000 16_000 0 20_000 (lit< tt) 4000 16_000 refl refl refl));
      u_18000 =
          u_verdict 18_000 (Complete 12_000)
          (by_clock state_u.rec state_u.words worked.agreed one_run (millis 18_000) refl refl (Some (record { first = wide 8000; end = wide 20_000 })) (Complete 12_000)
          (window_ticks head_u 18_000 (lit< tt))
          (all_covered 8000 20_000 0 20_000 (lit< tt) 8000 20_000 refl refl refl));
      u_18001 =
          u_verdict 18_001 (Lacking 12_000 11_999 (wide 20_000))
          (by_clock state_u.rec state_u.words worked.agreed one_run (millis 18_001) refl refl (Some (record { first = wide 8001; end = wide 20_001 })) (Lacking 12_000 11_999 (wide 20_000))
          (window_ticks head_u 18_001 (lit< tt))
          (end_lacking 8001 20_001 0 20_000 (lit< tt) 8001 20_000 refl refl (eqb-false 11_999 12_000 refl) (lit< tt) (lit≤ tt)));
      u_edge =
          ap (λ s. covered_edge s.rec s.words) worked.five ∙ asked state_u.rec state_u.words worked.agreed ∙
          ap Ok (at_clock_lem head_u 20_000 18_000 refl (lit≤ tt) (lit≤ tt) (lit< tt));
      u_none = ap (λ s. trimming s 13_999) worked.five ∙ worked.none;
      u_one = ap (λ s. trimming s 14_000) worked.five ∙ worked.one;
      u_two = ap (λ s. trimming s 18_000) worked.five ∙ worked.two;
      before_start = window_ticks (head_with 1000 0 10 0 0 0 15) 0 (lit< tt);
      far = window_ticks (head_with 10_000_000 0 0 0 1 0 100_000_000_000) 100_000_000_000 (lit< tt);
    }
