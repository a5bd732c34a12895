-- Trimming never costs coverage. Take any record and any table, whether calls have led there or not, and a trim: at every clock that is not before the
-- trim's the verdict, with its counts, its lowest tick and its percent, is the same with the trim and without it. For a reference in which a needed
-- tick lies is needed itself, and a trim leaves every reference that is needed at its clock or later. The same holds of any number of
-- trims, and of the five words that C sees. From an opening on, the verdict is that of all references which were ever accepted, as if none had
-- been dropped. What stays is available when it was. What is not so: at a clock before an accepted trim's a verdict is refused with 11, where without
-- the trim it may be given; of the whole period the verdict can change where there is a depth, since what was dropped no longer covers; and
-- a number that was dropped is refused with 13, though its reference may still be available.
-- Paper: Window, needed, spent; Append and trim; Verdict and availability; document 02, W-210.
use Rattle.std.specs.Prelude.{Result, Err, Ok, ℕ, ◌≤◌, ◌<◌, ◌≡◌, true, List, [], ◌∷◌}
use Rattle.units.specs.declared.Tick.{Tick}
use Rattle.units.specs.declared.WideMillis.{WideMillis}
use Rattle.units.specs.declared.WideNumber.{WideNumber}
use Rattle.units.specs.Limits.{largest_millis}
use Rattle.window.specs.declared.Head.{Head}
use Rattle.window.specs.Window.{window_at, tick_needed}
use Rattle.agreement.specs.declared.refusal.Refusal.{Refusal}
use Rattle.agreement.specs.declared.refusal.Refusal.TheVariants.{EarlierClock, NotKept}
use Rattle.agreement.specs.Agreement.{agrees}
use Rattle.timeline.specs.Opening.{open_outcome}
use Rattle.answers.specs.declared.Verdict.{Verdict}
use Rattle.answers.specs.declared.Verdict.TheVariants.{Complete, Lacking}
use Rattle.answers.specs.Cover.{covered_by}
use Rattle.answers.specs.Judgement.{verdict_of, verdict_at, verdict_whole}
use Rattle.answers.specs.Shares.{verdict_percent}
use Rattle.answers.specs.Edge.{covered_edge}
use Rattle.lookups.specs.Available.{availability_in, available_in}
use Rattle.words.specs.Words.{head_with}
use Rattle.flonterri.specs.Face.{trims, tells_verdict}
use Rattle.laws.specs.Calls.{Call, trim_at, Plain, State, opening, after, after_calls, outcome_of, all_accepted, greatest}
use Rattle.laws.specs.History.{kept_by}
use Rattle.laws.specs.Demand2.{first_kept, at_clock}
use Rattle.laws.specs.ByHand.{tick, wide, millis, number, full, appending, trimming, state_of, head_b, five_b}
use Rattle.laws.specs.Update.{five_u}

-- ---- trims

-- the state after a trim at a clock
abbrev pub trimmed_at : State → WideMillis → State
trimmed_at s c = after s (trim_at c)

-- and after one at each of these clocks, one after the other
unfoldable pub trimmed_at_each : State → List WideMillis → State
trimmed_at_each s [] = s
trimmed_at_each s (c ∷ cs) = trimmed_at_each (trimmed_at s c) cs

-- none of the clocks is after clock d
abbrev pub NoneAfter : WideMillis → List WideMillis → Type 0
NoneAfter d [] = Unit {0}
NoneAfter d (c ∷ cs) = (c.0 ≤ d.0) × NoneAfter d cs

-- ---- what is told

-- the verdict of a state at a clock
abbrev pub verdict_in : State → WideMillis → Result Verdict Refusal
verdict_in s d = verdict_at s.rec s.words d

-- two states have one verdict at a clock: its case, needed, covered and lowest tick, and so its percent
pub record SameVerdict (s then : State) (d : WideMillis) : Type 0 where
  pub verdict : verdict_in then d ≡ verdict_in s d
  pub percent : verdict_percent (verdict_in then d) ≡ verdict_percent (verdict_in s d)

-- two states tell the same of a number: when its reference is available, and whether it is so at a clock
pub record SameAvailable (s then : State) (n : WideNumber) : Type 0 where
  pub availability : availability_in then.rec then.words n ≡ availability_in s.rec s.words n
  pub at_clock_lem : (c : WideMillis) → available_in then.rec then.words n c ≡ available_in s.rec s.words n c

-- ---- C

-- the words of a record and of its table, as C holds them
pub record Memory : Type 0 where
  pub words : List ℕ
  pub table : List ℕ

-- after flonterri_trim at a clock, and at each of these clocks, one after the other
abbrev pub after_trim : Memory → WideMillis → Memory
after_trim m c = record { words = (trims m.words m.table c.0).words; table = (trims m.words m.table c.0).table }

unfoldable pub after_trims : Memory → List WideMillis → Memory
after_trims m [] = m
after_trims m (c ∷ cs) = after_trims (after_trim m c) cs

-- flonterri_verdict tells the same of both at a clock: the number, and every word of out, whatever it came with
abbrev pub TellsAlike : Memory → Memory → WideMillis → Type 0
TellsAlike m then d = (out : List ℕ) → tells_verdict then.words then.table d.0 out ≡ tells_verdict m.words m.table d.0 out

-- ---- by hand

-- B trimmed at 18,000, at 13,999, which is earlier and changes nothing, and at 24,000
abbrev pub thrice_b : State
thrice_b = trimmed_at_each five_b (millis 18_000 ∷ millis 13_999 ∷ millis 24_000 ∷ [])

-- three references of B from tick 0 on, and two counted as dropped: before tick 0 there is no room for those
abbrev pub unreached : State
unreached = state_of head_b 5 2 12_000 0 1 (0 ∷ 4000 ∷ 3 ∷ [])

-- B with a period of 20 s
abbrev pub head_e : Head
head_e = head_with 1000 0 0 20_000 10_000 1 0

abbrev pub five_e : State
five_e = appending (opening head_e (tick 0) (full 3)) 0 4000 5

-- ---- the theorem

-- Of record, table and trim nothing is asked: a trim that is refused changes nothing, and at a clock before the greatest both verdicts are 11
pub record CoverageStays : Type 0 where
  -- the reason: a tick that is needed at a clock, not before the trim's nor the greatest, lies in a reference that stays exactly where it lay in a kept one
  pub covered : (s : State) (c d : WideMillis) → c.0 ≤ d.0 → s.rec.clock.0 ≤ d.0 →
      (k : ℕ) → tick_needed s.rec.head (at_clock s.rec d) k ≡ true → covered_by (kept_by (trimmed_at s c)) k ≡ covered_by (kept_by s) k
  -- so the verdict is the same with the trim and without it
  pub trim : (s : State) (c d : WideMillis) → c.0 ≤ d.0 → SameVerdict s (trimmed_at s c) d
  -- and after any number of trims, accepted or refused, in any order
  pub trims : (s : State) (cs : List WideMillis) (d : WideMillis) → NoneAfter d cs → SameVerdict s (trimmed_at_each s cs) d
  -- from an opening on it is the verdict of all accepted references, dropped or not
  pub as_if_kept : (h : Head) (t : Tick) (came : List ℕ) → open_outcome h t ≡ Ok tt → (cs : List Call) → Plain cs →
      (d : WideMillis) → greatest (opening h t came) cs ≤ d.0 → d.0 ≤ largest_millis →
      verdict_in (after_calls (opening h t came) cs) d ≡ Ok (verdict_of h (window_at h d.0) (all_accepted (opening h t came) cs))
  -- the same from C, for any words: of one trim, and of any number
  pub c_trim : (m : Memory) (c d : WideMillis) → c.0 ≤ d.0 → TellsAlike m (after_trim m c) d
  pub c_trims : (m : Memory) (cs : List WideMillis) (d : WideMillis) → NoneAfter d cs → TellsAlike m (after_trims m cs) d
  -- availability of what stays: of every number from the first that is then kept on
  pub available : (s : State) (cs : List WideMillis) (n : WideNumber) → first_kept (trimmed_at_each s cs).rec ≤ n.0 →
      SameAvailable s (trimmed_at_each s cs) n
  -- the covered edge is the same
  pub edge : (s : State) (cs : List WideMillis) →
      covered_edge (trimmed_at_each s cs).rec (trimmed_at_each s cs).words ≡ covered_edge s.rec s.words
  -- B at 24,000 needs ticks 14,000 to 23,999 and has those up to 20,000: without trims, and after three that drop three of its references
  pub b_without : verdict_in five_b (millis 24_000) ≡ Ok (Lacking 10_000 6000 (wide 20_000))
  pub b_state : thrice_b ≡ state_of head_b 5 3 20_000 24_000 1 (12_000 ∷ 4000 ∷ 2 ∷ [])
  pub b_with : verdict_in thrice_b (millis 24_000) ≡ Ok (Lacking 10_000 6000 (wide 20_000))
  -- B with an update period of 2 s at 18,001, trimmed at 18,000: as without the trim
  pub u_with : verdict_in (trimming five_u 18_000) (millis 18_001) ≡ Ok (Lacking 12_000 11_999 (wide 20_000))
  -- record and table that agree, though no opening and no calls lead to them; at 14,000 without a trim there, and with one that drops a reference
  pub x_agrees : agrees unreached.rec unreached.words ≡ true
  pub x_unreached : (h : Head) (t : Tick) (came : List ℕ) → open_outcome h t ≡ Ok tt → (cs : List Call) → Plain cs →
      after_calls (opening h t came) cs ≡ unreached → ⊥
  pub x_without : verdict_in unreached (millis 14_000) ≡ Ok (Lacking 10_000 8000 (wide 12_000))
  pub x_state : trimming unreached 14_000 ≡ state_of head_b 5 3 12_000 14_000 1 (4000 ∷ 4000 ∷ 2 ∷ [])
  pub x_with : verdict_in (trimming unreached 14_000) (millis 14_000) ≡ Ok (Lacking 10_000 8000 (wide 12_000))
  -- NOT SO of a clock before an accepted trim's, within its limit as that is: 11. B at 13,999 is complete, and after a trim at 14,000 it is refused
  pub before : (s : State) (c d : WideMillis) → outcome_of s (trim_at c) ≡ Ok tt → d.0 < c.0 → verdict_in (trimmed_at s c) d ≡ Err EarlierClock
  pub b_earlier : verdict_in five_b (millis 13_999) ≡ Ok (Complete 10_000)
  pub b_refused : verdict_in (trimming five_b 14_000) (millis 13_999) ≡ Err EarlierClock
  -- NOT SO of the whole period: B with a period of 20 s is complete, and after a trim at 14,000 the first 4,000 ticks are lacking
  pub e_whole : verdict_whole five_e.rec five_e.words ≡ Ok (Complete 20_000)
  pub e_trimmed : verdict_whole (trimming five_e 14_000).rec (trimming five_e 14_000).words ≡ Ok (Lacking 20_000 16_000 (wide 0))
  -- but without a depth it stays too: nothing that the period needs is then ever dropped
  pub whole_without_depth : (s : State) (cs : List WideMillis) → s.rec.head.depth.0 ≡ 0 →
      verdict_whole (trimmed_at_each s cs).rec (trimmed_at_each s cs).words ≡ verdict_whole s.rec s.words
  -- NOT SO of a dropped number: B's number 1 is available at 14,000, up to 18,000, and after a trim at 14,000 it is refused with 13
  pub b_available : available_in five_b.rec five_b.words (number 1) (millis 14_000) ≡ Ok true
  pub b_dropped : available_in (trimming five_b 14_000).rec (trimming five_b 14_000).words (number 1) (millis 14_000) ≡ Err NotKept
