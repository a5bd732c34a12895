-- The covered edge is right, for any record and any table. It is the latest clock, within its limit, at which the window's upper edge
-- is at or before the next tick's place; there is none exactly where the upper edge lies after that place at clock 0 already; and it
-- is the limit where the next tick reaches a known period end. It is refused with 2 exactly where record and table disagree. What it
-- is for: at every later clock whose window is not empty the verdict is lacking, and so no verdict is complete later than the edge.
-- What it does not say: it knows nothing of the lower edge, so that up to it a verdict may be lacking too; and it may lie before the
-- greatest clock, where a verdict is refused with 11. Paper: Window, needed, spent; Verdict and availability; Refusal numbers.
use Rattle.std.specs.Prelude.{Some, None, Result, Err, Ok, ℕ, ◌≤◌, ◌<◌, ◌≡◌, true, false, List}
use Rattle.std.specs.Int.Signed.{lt_z}
use Rattle.units.specs.Exactly.{ExactlyWhen}
use Rattle.units.specs.Limits.{largest_millis}
use Rattle.units.specs.declared.Millis.{Millis}
use Rattle.units.specs.declared.WideMillis.{WideMillis}
use Rattle.units.specs.declared.WideTick.{WideTick}
use Rattle.window.specs.Window.{Stretch}
use Rattle.window.specs.Ticks.{reaches_end}
use Rattle.agreement.specs.declared.Record.{Record}
use Rattle.agreement.specs.declared.refusal.Refusal.{Refusal}
use Rattle.agreement.specs.declared.refusal.Refusal.TheVariants.{Disagreement}
use Rattle.agreement.specs.Agreement.{agrees}
use Rattle.answers.specs.declared.Verdict.{Verdict}
use Rattle.answers.specs.declared.Verdict.TheVariants.{Complete, Lacking}
use Rattle.answers.specs.Judgement.{verdict_at}
use Rattle.answers.specs.Edge.{at_or_before, covered_edge}
use Rattle.words.specs.Words.{head_with}
use Rattle.laws.specs.Calls.{State, opening}
use Rattle.laws.specs.Demand2.{MayAsk, at_clock}
use Rattle.laws.specs.ByHand.{tick, full, both_a, five_b, two_d}

-- clock m is the latest, within the limit, at which the upper edge is at or before the next tick's place
pub record LatestClock (rec : Record) (m : ℕ) : Type 0 where
  pub limit : m ≤ largest_millis
  pub there : at_or_before rec.head rec.next.0 m ≡ true
  pub later : (c : ℕ) → m < c → c ≤ largest_millis → at_or_before rec.head rec.next.0 c ≡ false

-- a window that is not empty: its lower edge lies before its upper one
abbrev pub NotEmpty : Stretch → Type 0
NotEmpty w = lt_z w.from w.to ≡ true

abbrev pub SaysLacking : Result Verdict Refusal → Type 0
SaysLacking v = (n : ℕ) × (m : ℕ) × (k : WideTick) × (v ≡ Ok (Lacking n m k))

abbrev pub clock : ℕ → Millis
clock n = record { 0 = n }

-- B's head with an offset of 5, opened at tick 0: the next tick stands before the period start
abbrev pub open_late : State
open_late = opening (head_with 1000 5 0 0 10_000 1 0) (tick 0) (full 3)

pub record EdgeRight : Type 0 where
  -- each answer exactly when
  pub at : (rec : Record) (ws : List ℕ) (m : Millis) →
      ExactlyWhen (covered_edge rec ws ≡ Ok (Some m)) ((agrees rec ws ≡ true) × LatestClock rec m.0)
  pub never : (rec : Record) (ws : List ℕ) →
      ExactlyWhen (covered_edge rec ws ≡ Ok None) ((agrees rec ws ≡ true) × (at_or_before rec.head rec.next.0 0 ≡ false))
  pub refused : (rec : Record) (ws : List ℕ) (why : Refusal) →
      ExactlyWhen (covered_edge rec ws ≡ Err why) ((agrees rec ws ≡ false) × (why ≡ Disagreement))
  -- the next tick reaches a known period end
  pub limit : (rec : Record) (ws : List ℕ) → agrees rec ws ≡ true → 1 ≤ rec.head.duration.0 →
      reaches_end rec.head rec.next.0 ≡ true → covered_edge rec ws ≡ Ok (Some (clock largest_millis))
  -- later than the edge, and at every clock where there is none, a verdict that may be asked is lacking if its window is not empty
  pub lacking_after : (rec : Record) (ws : List ℕ) (m : Millis) (c : WideMillis) → covered_edge rec ws ≡ Ok (Some m) → m.0 < c.0 →
      MayAsk rec ws c → NotEmpty (at_clock rec c) → SaysLacking (verdict_at rec ws c)
  pub lacking_ever : (rec : Record) (ws : List ℕ) (c : WideMillis) → covered_edge rec ws ≡ Ok None →
      MayAsk rec ws c → NotEmpty (at_clock rec c) → SaysLacking (verdict_at rec ws c)
  -- so where a verdict is complete there is an edge, and it is not earlier
  pub complete_upto : (rec : Record) (ws : List ℕ) (c : WideMillis) (n : ℕ) → verdict_at rec ws c ≡ Ok (Complete n) →
      (m : Millis) × (covered_edge rec ws ≡ Ok (Some m)) × (c.0 ≤ m.0)
  -- by hand: A ends at tick 161, 61 ticks of 100 ms past the period start at 30,000; B at tick 20,000 of 1 ms; D reaches its period end
  pub a_edge : covered_edge both_a.rec both_a.words ≡ Ok (Some (clock 36_100))
  pub b_edge : covered_edge five_b.rec five_b.words ≡ Ok (Some (clock 20_000))
  pub b_none : covered_edge open_late.rec open_late.words ≡ Ok None
  pub d_edge : covered_edge two_d.rec two_d.words ≡ Ok (Some (clock 100_000_000_000))
