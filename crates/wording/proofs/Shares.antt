-- The percent that is shown is the right one, in every verdict that is asked.
use mathlib.Core.Path.{◌≡◌, refl, ap₂, ◌∙◌}
use mathlib.Core.Bool.{Bool, true, false, cond}
use mathlib.Core.List.{List}
use Prim.Native.Nat.{ℕ, ◌*◌, ◌/◌, ◌≤◌, ◌<◌}
use native.Mathlib.Nat.{mul-div_cancel_left}
use native.Mathlib.Omega.{arith}
use borrow.Author.Tests.{eqb-false, le-leb}
use lib.Dec.{eqb, leb}
use Rattle.units.specs.declared.WideMillis.{WideMillis}
use Rattle.units.specs.Limits.{clock_held}
use Rattle.window.specs.declared.Head.{Head}
use Rattle.window.specs.declared.Reference.{Reference}
use Rattle.window.specs.Place.{end_known}
use Rattle.window.specs.Window.{Stretch, window_at, whole_period, tick_needed}
use Rattle.agreement.specs.declared.Record.{Record}
use Rattle.agreement.specs.declared.refusal.Refusal.TheVariants.{Disagreement, ClockLimit, EarlierClock, EndUnknown}
use Rattle.agreement.specs.Agreement.{agrees, kept}
use Rattle.answers.specs.declared.Verdict.{Verdict}
use Rattle.answers.specs.declared.Verdict.TheVariants.{Nothing, Complete, Lacking}
use Rattle.std.specs.Prelude.{Err, Ok, None, Some}
use Rattle.answers.specs.Cover.{covered_by}
use Rattle.answers.specs.Counts.{beyond, needed_count, covered_count, lowest_lacking}
use Rattle.answers.specs.Judgement.{judged, verdict_of, verdict_at, verdict_whole}
use Rattle.answers.specs.Shares.{percent_of, percent_number}
use Rattle.answers.proofs.Counting.{count_less}
use Rattle.wording.specs.Text.{PercentRight}

-- of no more than is needed, where some is
shown : (n c : ℕ) → eqb n 0 ≡ false → c ≤ n → percent_number (percent_of n c) ≡ c * 100 / n
shown n c e l = ap₂ (λ s t. percent_number (cond s None (cond t (Some (c * 100 / n)) None))) e (le-leb c n l)

judged_right : (n c l : ℕ) → c ≤ n → PercentRight (Ok (judged n c l))
judged_right n c l m = go (eqb n 0) refl (eqb c n)
  where
    go : (s : Bool) → eqb n 0 ≡ s → (t : Bool) → PercentRight (Ok (cond s Nothing (cond t (Complete n) (Lacking n c (record { 0 = l })))))
    go true e t = tt
    go false e true =
        let apart : n ≡ 0 → ⊥ = eqb-false n 0 e in
        let some : 0 < n = omega arith in
        shown n n e (omega arith) ∙ mul-div_cancel_left 100 some
    go false e false = shown n c e m

verdict_right : (h : Head) (w : Stretch) (rs : List Reference) → PercentRight (Ok (verdict_of h w rs))
verdict_right h w rs =
    judged_right (needed_count h w) (covered_count h w rs) (lowest_lacking h w rs) (count_less (tick_needed h w) (covered_by rs) (beyond h w))

pub percent_right_at : (rec : Record) (ws : List ℕ) (c : WideMillis) → PercentRight (verdict_at rec ws c)
percent_right_at rec ws c = go (agrees rec ws) (clock_held c) (leb rec.clock.0 c.0)
  where
    v : Verdict
    v = verdict_of rec.head (window_at rec.head c.0) (kept rec ws)

    go : (s t u : Bool) → PercentRight (cond s (cond t (cond u (Ok v) (Err EarlierClock)) (Err ClockLimit)) (Err Disagreement))
    go true true true = verdict_right rec.head (window_at rec.head c.0) (kept rec ws)
    go true true false = tt
    go true false u = tt
    go false t u = tt

pub percent_right_whole : (rec : Record) (ws : List ℕ) → PercentRight (verdict_whole rec ws)
percent_right_whole rec ws = go (agrees rec ws) (end_known rec.head)
  where
    v : Verdict
    v = verdict_of rec.head (whole_period rec.head) (kept rec ws)

    go : (s t : Bool) → PercentRight (cond s (cond t (Ok v) (Err EndUnknown)) (Err Disagreement))
    go true true = verdict_right rec.head (whole_period rec.head) (kept rec ws)
    go true false = tt
    go false t = tt
