-- The update period. A live manifest is fetched again after its update period, so the window reaches as far past the clock: its upper edge is the
-- earlier of the period end and the clock plus the update period. Nothing else moves: the lower edge does not, and so what is spent does not
-- either. What an update period of 0 gives is `OldAnswers`. Paper: Window, needed, spent.
use Rattle.std.specs.Prelude.{Ok, Some, ℕ, ◌+◌, ◌≤◌, ◌≡◌, true, [], ◌∷◌}
use Rattle.units.specs.Exactly.{ExactlyWhen}
use Rattle.window.specs.declared.Head.{Head}
use Rattle.window.specs.declared.Reference.{Reference}
use Rattle.window.specs.Place.{before_end}
use Rattle.window.specs.Window.{low_edge, window_at, Spent}
use Rattle.window.specs.Ticks.{NeededTicks}
use Rattle.answers.specs.declared.Verdict.TheVariants.{Complete, Lacking}
use Rattle.answers.specs.Judgement.{verdict_at}
use Rattle.answers.specs.Edge.{covered_edge}
use Rattle.words.specs.Words.{head_with}
use Rattle.laws.specs.Calls.{State, opening}
use Rattle.laws.specs.ByHand.{tick, wide, millis, full, appending, trimming, state_of}
use Rattle.laws.specs.Edge.{clock}

-- ---- heads that differ in one field

abbrev pub with_update : ℕ → Head → Head
with_update u h =
    record {
      timescale = h.timescale;
      offset = h.offset;
      start = h.start;
      duration = h.duration;
      depth = h.depth;
      first = h.first;
      update = record { 0 = u };
    }

abbrev pub with_depth : ℕ → Head → Head
with_depth d h =
    record {
      timescale = h.timescale;
      offset = h.offset;
      start = h.start;
      duration = h.duration;
      depth = record { 0 = d };
      first = h.first;
      update = h.update;
    }

-- ---- by hand

-- case B with an update period of 2 s
abbrev pub head_u : Head
head_u = head_with 1000 0 0 0 10_000 1 2000

abbrev pub five_u : State
five_u = appending (opening head_u (tick 0) (full 3)) 0 4000 5

pub record UpdateRight : Type 0 where
  -- whatever the update period, the lower edge is the same, and so is what is spent
  pub lower : (h : Head) (u c : ℕ) → low_edge (with_update u h) c ≡ low_edge h c
  pub spent : (h : Head) (u : ℕ) (r : Reference) (c : ℕ) → 1 ≤ h.timescale.0 → 1 ≤ r.span.0 → before_end h r.start.0 ≡ true →
      ExactlyWhen (Spent (with_update u h) r c) (Spent h r c)
  -- the window is that of a clock later by the update period with a depth larger by it; where no depth is given, that of the later clock.
  -- Both may pass the limits of their types here
  pub later : (h : Head) (c : ℕ) → 1 ≤ h.depth.0 →
      window_at h c ≡ window_at (with_update 0 (with_depth (h.depth.0 + h.update.0) h)) (c + h.update.0)
  pub later_open : (h : Head) (c : ℕ) → h.depth.0 ≡ 0 → window_at h c ≡ window_at (with_update 0 h) (c + h.update.0)
  -- B with 2 s: at 0 the first two seconds are needed; at 14,000 and 18,000 all is there up to 20,000; at 18,001 tick 20,000 is lacking
  pub u_0 : verdict_at five_u.rec five_u.words (millis 0) ≡ Ok (Complete 2000)
  pub u_14000 : verdict_at five_u.rec five_u.words (millis 14_000) ≡ Ok (Complete 12_000)
  pub u_18000 : verdict_at five_u.rec five_u.words (millis 18_000) ≡ Ok (Complete 12_000)
  pub u_18001 : verdict_at five_u.rec five_u.words (millis 18_001) ≡ Ok (Lacking 12_000 11_999 (wide 20_000))
  -- 18,000 is the latest clock at which the window ends at or before the next tick
  pub u_edge : covered_edge five_u.rec five_u.words ≡ Ok (Some (clock 18_000))
  -- the trims of case B stay: none at 13,999, one at 14,000, two at 18,000
  pub u_none : trimming five_u 13_999 ≡ state_of head_u 5 0 20_000 13_999 1 (0 ∷ 4000 ∷ 5 ∷ [])
  pub u_one : trimming five_u 14_000 ≡ state_of head_u 5 1 20_000 14_000 1 (4000 ∷ 4000 ∷ 4 ∷ [])
  pub u_two : trimming five_u 18_000 ≡ state_of head_u 5 2 20_000 18_000 1 (8000 ∷ 4000 ∷ 3 ∷ [])
  -- before the period start too: start 10, clock 0, update period 15 at a tick a millisecond need ticks 0 to 4
  pub before_start : NeededTicks (head_with 1000 0 10 0 0 0 15) (window_at (head_with 1000 0 10 0 0 0 15) 0) (Some (record { first = wide 0; end = wide 5 }))
  -- clock and update period at their limits, at the greatest timescale and a depth of 1: their sum is cut nowhere
  pub far : NeededTicks (head_with 10_000_000 0 0 0 1 0 100_000_000_000) (window_at (head_with 10_000_000 0 0 0 1 0 100_000_000_000) 100_000_000_000)
      (Some (record { first = wide 999_999_999_990_000; end = wide 2_000_000_000_000_000 }))
