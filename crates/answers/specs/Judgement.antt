-- The verdict of a window: nothing is needed; or all that is needed is covered, and how much that is; or how much is needed,
-- how much of it is covered, and the lowest tick that is not. Only kept references cover. A verdict at a clock is refused
-- with 2, 10 or 11, one of the whole period with 2 or 19. Paper: Verdict and availability; Refusal numbers.
use Rattle.std.specs.Prelude.{Result, Err, Ok, ℕ, ◌<◌, ◌≡◌, Bool, true, false, List, eqb, leb}
use Rattle.units.specs.declared.WideMillis.{WideMillis}
use Rattle.units.specs.Limits.{clock_held}
use Rattle.window.specs.declared.Head.{Head}
use Rattle.window.specs.declared.Reference.{Reference}
use Rattle.window.specs.Place.{end_known}
use Rattle.window.specs.Window.{Stretch, window_at, whole_period, tick_needed}
use Rattle.agreement.specs.declared.Record.{Record}
use Rattle.agreement.specs.declared.refusal.Refusal.{Refusal}
use Rattle.agreement.specs.declared.refusal.Refusal.TheVariants.{Disagreement, ClockLimit, EarlierClock, EndUnknown}
use Rattle.agreement.specs.Agreement.{agrees, kept}
use Rattle.agreement.specs.Rows.{◌unless◌else◌, ◌when◌else◌}
use Rattle.answers.specs.declared.Verdict.{Verdict}
use Rattle.answers.specs.declared.Verdict.TheVariants.{Nothing, Complete, Lacking}
use Rattle.answers.specs.Cover.{covered_by}
use Rattle.answers.specs.Counts.{needed_count, covered_count, lowest_lacking}

-- by how much is needed, how much of it is covered, and the lowest tick that is not
abbrev pub judged : ℕ → ℕ → ℕ → Verdict
judged needed covered lowest =
    Nothing when eqb needed 0 else
    Complete needed when eqb covered needed else
    Lacking needed covered (record { 0 = lowest })

abbrev pub verdict_of : Head → Stretch → List Reference → Verdict
verdict_of h w rs = judged (needed_count h w) (covered_count h w rs) (lowest_lacking h w rs)

abbrev pub verdict_at : Record → List ℕ → WideMillis → Result Verdict Refusal
verdict_at rec ws c =
    Err Disagreement unless agrees rec ws else
    Err ClockLimit unless clock_held c else
    Err EarlierClock unless leb rec.clock.0 c.0 else
    Ok (verdict_of rec.head (window_at rec.head c.0) (kept rec ws))

abbrev pub verdict_whole : Record → List ℕ → Result Verdict Refusal
verdict_whole rec ws =
    Err Disagreement unless agrees rec ws else
    Err EndUnknown unless end_known rec.head else
    Ok (verdict_of rec.head (whole_period rec.head) (kept rec ws))

-- a refused verdict is not complete
abbrev pub complete : Result Verdict Refusal → Bool
complete (Ok Nothing) = false
complete (Ok (Complete n)) = true
complete (Ok (Lacking n m k)) = false
complete (Err r) = false

-- what complete is to mean: one tick at least is needed, and every needed tick lies in a reference
pub record Whole (h : Head) (w : Stretch) (rs : List Reference) : Type 0 where
  pub some : (k : ℕ) × (tick_needed h w k ≡ true)
  pub each : (k : ℕ) → tick_needed h w k ≡ true → covered_by rs k ≡ true

-- what the tick that a verdict names is to mean: it is needed, lies in no reference, and each earlier needed tick lies in one
pub record Lowest (h : Head) (w : Stretch) (rs : List Reference) (k : ℕ) : Type 0 where
  pub needed : tick_needed h w k ≡ true
  pub uncovered : covered_by rs k ≡ false
  pub first : (j : ℕ) → j < k → tick_needed h w j ≡ true → covered_by rs j ≡ true
