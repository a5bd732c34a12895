-- Spent by division. Of a run of equal references the spent ones stand first, and how many they are is one quotient, whatever the run's
-- count: the ticks from its start to the window's lower edge, by its duration, and no more than it has. In two cases the quotient alone
-- would be wrong. A run that starts after the lower edge has none. And where the lower edge has reached the period end all are spent, the
-- last one too, which that end cuts. Paper: Window, needed, spent; Append and trim.
use Rattle.std.specs.Prelude.{ℕ, ◌+◌, ◌-◌, ◌/◌, ◌≤◌, min, ◌≡◌, Bool, true, cond, ◌&&◌, [], ◌∷◌, nat_abs, take, drop}
use Rattle.std.specs.Int.Signed.{le_z}
use Rattle.window.specs.declared.Head.{Head}
use Rattle.window.specs.Place.{end_known, period_end, before_end}
use Rattle.window.specs.Window.{low_edge, Spent}
use Rattle.window.specs.References.{Each}
use Rattle.runs.specs.Words.{repeated}
use Rattle.words.specs.Words.{head_with}
use Rattle.laws.specs.Calls.{State, opening}
use Rattle.laws.specs.ByHand.{tick, full, appending, trimming, state_of, head_b}

-- the lower edge has reached the period end
abbrev pub end_reached : Head → ℕ → Bool
end_reached h c = end_known h && le_z (period_end h) (low_edge h c)

-- the last tick that stands at or before the lower edge, which never lies before the period start
abbrev pub edge_tick : Head → ℕ → ℕ
edge_tick h c = h.offset.0 + nat_abs (low_edge h c) / 1000

-- how many of n references of d ticks from tick s on are spent at clock c; the difference is 0 where the run starts after the edge
abbrev pub spent_of : Head → ℕ → ℕ → ℕ → ℕ → ℕ
spent_of h c s d n = cond (end_reached h c) n (min n ((edge_tick h c - s) / d))

-- the first k of the run are spent, and no other is
pub record SpentFirst (h : Head) (c s d n k : ℕ) : Type 0 where
  pub most : k ≤ n
  pub spent : Each (λ r. Spent h r c) (take k (repeated s d n))
  pub others : Each (λ r. Spent h r c → ⊥) (drop k (repeated s d n))

-- three references of 4 ticks from tick 0 on, in a period of 10 ms whose end cuts the last; a tick is a millisecond, the depth is 1
abbrev pub head_e : Head
head_e = head_with 1000 0 0 10 1 0 0

abbrev pub open_e : State
open_e = opening head_e (tick 0) (full 3)

abbrev pub three_e : State
three_e = appending open_e 0 4 3

pub record SpentByDivision : Type 0 where
  -- for any run whose references last and start before the period end, as every kept one does and every one of an accepted append
  pub first : (h : Head) (c s d n : ℕ) → 1 ≤ h.timescale.0 → 1 ≤ d → Each (λ r. before_end h r.start.0 ≡ true) (repeated s d n) →
      SpentFirst h c s d n (spent_of h c s d n)
  -- by hand: at 10 the lower edge is 9 and two are spent; at 11 it is 10, the period end, and all three are, where the quotient is 2
  pub e_two : trimming three_e 10 ≡ state_of head_e 3 2 12 10 1 (8 ∷ 4 ∷ 1 ∷ [])
  pub e_three : trimming three_e 11 ≡ state_of head_e 3 3 12 11 0 (0 ∷ 0 ∷ 0 ∷ [])
  -- the same three where the clock stands there already: what is spent at once is counted and not stored
  pub e_two_at_once : appending (trimming open_e 10) 0 4 3 ≡ state_of head_e 3 2 12 10 1 (8 ∷ 4 ∷ 1 ∷ [])
  pub e_three_at_once : appending (trimming open_e 11) 0 4 3 ≡ state_of head_e 3 3 12 11 0 (0 ∷ 0 ∷ 0 ∷ [])
  -- under B's head, whose window is 10 s deep: of ten references from tick 4000 on none is spent while the edge is tick 2000
  pub none_yet : spent_of head_b 12_000 4000 2000 10 ≡ 0
  -- a radio feed of two million references of 2 s: two of them, half of them, all of them
  pub feed_two : spent_of head_b 14_000 0 2000 2_000_000 ≡ 2
  pub feed_half : spent_of head_b 2_000_010_000 0 2000 2_000_000 ≡ 1_000_000
  pub feed_all : spent_of head_b 4_000_010_000 0 2000 2_000_000 ≡ 2_000_000
  -- as many references as a timeline may have, of one tick: all but one, and a millisecond later all
  pub most_less_one : spent_of head_b 2_147_493_647 0 1 2_147_483_648 ≡ 2_147_483_647
  pub most_all : spent_of head_b 2_147_493_648 0 1 2_147_483_648 ≡ 2_147_483_648
