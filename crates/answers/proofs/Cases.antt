-- A verdict by its cases: by its counts, and by what was asked. From what each case comes; and that what holds of every case
-- holds of the verdict.
use mathlib.Core.Path.{◌≡◌, refl, ap, ap₂, ◌∙◌}
use mathlib.Core.Bool.{Bool, true, false, cond}
use mathlib.Core.List.{List}
use Prim.Native.Nat.{ℕ, ◌≤◌}
use borrow.Author.Tests.{eqb-true, eqb-false, eq-eqb, ne_eqb}
use lib.Dec.{eqb, leb}
use Rattle.units.specs.declared.WideMillis.{WideMillis}
use Rattle.units.specs.Limits.{clock_held}
use Rattle.window.specs.Place.{end_known}
use Rattle.window.specs.Window.{window_at, whole_period}
use Rattle.agreement.specs.declared.Record.{Record}
use Rattle.std.specs.Prelude.{Result, Err, Ok}
use Rattle.agreement.specs.declared.refusal.Refusal.{Refusal}
use Rattle.agreement.specs.declared.refusal.Refusal.TheVariants.{Disagreement, ClockLimit, EarlierClock, EndUnknown}
use Rattle.agreement.specs.Agreement.{agrees, kept}
use Rattle.answers.specs.declared.Verdict.{Verdict}
use Rattle.answers.specs.declared.Verdict.TheVariants.{Nothing, Complete, Lacking}
use Rattle.answers.specs.Judgement.{judged, verdict_of, verdict_at, verdict_whole}
use Rattle.answers.proofs.Counting.{some_of, apart}

-- ---- by its counts: how much is needed, how much of it is covered, and the lowest tick that is not

module _ (n c l : ℕ) where
  pub to_complete : 1 ≤ n → c ≡ n → judged n c l ≡ Complete n
  to_complete some e =
      ap₂ (λ s t. cond s Nothing (cond t (Complete n) (Lacking n c (record { 0 = l })))) (ne_eqb n 0 (apart n some)) (eq-eqb c n e)

  pub to_lacking : 1 ≤ n → (c ≡ n → ⊥) → judged n c l ≡ Lacking n c (record { 0 = l })
  to_lacking some o =
      ap₂ (λ s t. cond s Nothing (cond t (Complete n) (Lacking n c (record { 0 = l })))) (ne_eqb n 0 (apart n some)) (ne_eqb c n o)

  pub by_count : (A : Verdict → Type 0) → (n ≡ 0 → A Nothing) → (1 ≤ n → c ≡ n → A (Complete n)) →
      (1 ≤ n → (c ≡ n → ⊥) → A (Lacking n c (record { 0 = l }))) → A (judged n c l)
  by_count A none all some = go (eqb n 0) refl (eqb c n) refl
    where
      go : (s : Bool) → eqb n 0 ≡ s → (t : Bool) → eqb c n ≡ t → A (cond s Nothing (cond t (Complete n) (Lacking n c (record { 0 = l }))))
      go true e t f = none (eqb-true n 0 e)
      go false e true f = all (some_of n e) (eqb-true c n f)
      go false e false f = some (some_of n e) (eqb-false c n f)

-- ---- by what was asked: it is refused, or it is that of its window

module _ (rec : Record) (ws : List ℕ) where
  module _ (c : WideMillis) where
    judged_at : Bool → Bool → Bool → Result Verdict Refusal
    judged_at s t u =
        cond s (cond t (cond u (Ok (verdict_of rec.head (window_at rec.head c.0) (kept rec ws))) (Err EarlierClock)) (Err ClockLimit)) (Err Disagreement)

    pub asked_at : agrees rec ws ≡ true → clock_held c ≡ true → leb rec.clock.0 c.0 ≡ true →
        verdict_at rec ws c ≡ Ok (verdict_of rec.head (window_at rec.head c.0) (kept rec ws))
    unfolding judged_at
    asked_at a m l = ap (λ s. judged_at s (clock_held c) (leb rec.clock.0 c.0)) a ∙ ap₂ (judged_at true) m l

    pub by_asked_at : (A : Result Verdict Refusal → Type 0) → (agrees rec ws ≡ false → A (Err Disagreement)) →
        (agrees rec ws ≡ true → clock_held c ≡ false → A (Err ClockLimit)) →
        (agrees rec ws ≡ true → clock_held c ≡ true → leb rec.clock.0 c.0 ≡ false → A (Err EarlierClock)) →
        (agrees rec ws ≡ true → clock_held c ≡ true → leb rec.clock.0 c.0 ≡ true → A (Ok (verdict_of rec.head (window_at rec.head c.0) (kept rec ws)))) →
        A (verdict_at rec ws c)
    unfolding judged_at
    by_asked_at A disagree over early asked = go (agrees rec ws) refl (clock_held c) refl (leb rec.clock.0 c.0) refl
      where
        go : (s : Bool) → agrees rec ws ≡ s → (t : Bool) → clock_held c ≡ t → (u : Bool) → leb rec.clock.0 c.0 ≡ u → A (judged_at s t u)
        go true a true m true l = asked a m l
        go true a true m false l = early a m l
        go true a false m u l = over a m
        go false a t m u l = disagree a

  judged_whole : Bool → Bool → Result Verdict Refusal
  judged_whole s t = cond s (cond t (Ok (verdict_of rec.head (whole_period rec.head) (kept rec ws))) (Err EndUnknown)) (Err Disagreement)

  pub asked_whole : agrees rec ws ≡ true → end_known rec.head ≡ true → verdict_whole rec ws ≡ Ok (verdict_of rec.head (whole_period rec.head) (kept rec ws))
  unfolding judged_whole
  asked_whole a k = ap₂ judged_whole a k

  pub by_asked_whole : (A : Result Verdict Refusal → Type 0) → (agrees rec ws ≡ false → A (Err Disagreement)) →
      (agrees rec ws ≡ true → end_known rec.head ≡ false → A (Err EndUnknown)) →
      (agrees rec ws ≡ true → end_known rec.head ≡ true → A (Ok (verdict_of rec.head (whole_period rec.head) (kept rec ws)))) → A (verdict_whole rec ws)
  unfolding judged_whole
  by_asked_whole A disagree unknown asked = go (agrees rec ws) refl (end_known rec.head) refl
    where
      go : (s : Bool) → agrees rec ws ≡ s → (t : Bool) → end_known rec.head ≡ t → A (judged_whole s t)
      go true a true k = asked a k
      go true a false k = unknown a k
      go false a t k = disagree a
