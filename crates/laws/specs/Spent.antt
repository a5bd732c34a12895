-- Only what is spent goes. For a reference that starts before the period end, spent is one comparison. Record and table agree
-- exactly when the paper's list of them holds, item by item. And for any record and table that agree, whether calls have led
-- there or not: of what is kept and what an append gives, exactly those references stay that are still needed at the greatest
-- clock, and the others are counted as dropped; a trim at an earlier clock changes nothing.
-- Paper: Units; Record and table; Window, needed, spent; Append and trim.
use Rattle.std.specs.Prelude.{Ok, ℕ, suc, ◌+◌, ◌-◌, ◌*◌, ◌^◌, ◌≤◌, ◌<◌, max, ◌≡◌, true, false, List, ◌++◌, length, get_or}
use Rattle.units.specs.Exactly.{ExactlyWhen}
use Rattle.units.specs.declared.WideMillis.{WideMillis}
use Rattle.units.specs.declared.standing.Standing.{Standing}
use Rattle.units.specs.Limits.{largest_tick, largest_millis, largest_span, largest_number}
use Rattle.window.specs.declared.Head.{Head}
use Rattle.window.specs.declared.Reference.{Reference}
use Rattle.window.specs.Limits.{Held}
use Rattle.window.specs.Place.{before_end}
use Rattle.window.specs.Window.{end_of, Spent, passed}
use Rattle.window.specs.References.{Each}
use Rattle.runs.specs.declared.Run.{Run}
use Rattle.runs.specs.Words.{run_at, last_run, capacity, run_end, runs_of, total_count}
use Rattle.agreement.specs.declared.Record.{Record}
use Rattle.agreement.specs.Agreement.{kept, agrees}
use Rattle.keeping.specs.Append.{given}
use Rattle.timeline.specs.Appending.{append_outcome}
use Rattle.timeline.specs.Trimming.{trim_outcome, trim_answer, trim_table}
use Rattle.laws.specs.Calls.{State, trim_at, append_to, after}
use Rattle.laws.specs.History.{StillNeeded, Picked, kept_by, Settled}

-- ---- agreement

-- used run i, counted from 0
abbrev pub used_run : List ℕ → ℕ → Run
used_run ws i = run_at ws (i * 3)

-- the paper's list
pub record Agreeing (rec : Record) (ws : List ℕ) : Type 0 where
  -- used runs are at most the capacity
  pub fits : rec.used ≤ capacity ws
  -- they join end to start
  pub joins : (i : ℕ) → suc i < rec.used → run_end (used_run ws i) ≡ (used_run ws (suc i)).start.0
  -- neighbours differ in duration
  pub differ : (i : ℕ) → suc i < rec.used → (used_run ws i).span.0 ≡ (used_run ws (suc i)).span.0 → ⊥
  -- all words after them are 0
  pub zeros : (i : ℕ) → 3 * rec.used ≤ i → i < length ws → get_or ws i 0 ≡ 0
  -- the limits of a head: timescale, offset, period start, duration, depth and first number
  pub head : Held rec.head
  -- next tick, and the start and end of every reference, are at most 2^52 - 1
  pub next : rec.next.0 ≤ largest_tick
  pub starts : Each (λ r. r.start.0 ≤ largest_tick) (kept rec ws)
  pub ends : Each (λ r. end_of r ≤ largest_tick) (kept rec ws)
  -- the greatest clock is at most 10^11
  pub clock : rec.clock.0 ≤ largest_millis
  -- each run has a duration of 1 to 2^32 - 1 and a count of 1 at least
  pub lasts : (i : ℕ) → i < rec.used → 1 ≤ (used_run ws i).span.0
  pub short : (i : ℕ) → i < rec.used → (used_run ws i).span.0 ≤ largest_span
  pub counts : (i : ℕ) → i < rec.used → 1 ≤ (used_run ws i).count
  -- dropped is at most accepted
  pub dropped : rec.dropped ≤ rec.accepted
  -- the total of counts is accepted less dropped
  pub total : total_count (runs_of rec.used ws) ≡ rec.accepted - rec.dropped
  -- the last end, if any, is the next tick
  pub last : 1 ≤ rec.used → run_end (last_run rec.used ws) ≡ rec.next.0
  -- no reference is spent at the greatest clock
  pub unspent : Each (λ r. Spent rec.head r rec.clock.0 → ⊥) (kept rec ws)
  -- every start lies before the period end
  pub begins : Each (λ r. before_end rec.head r.start.0 ≡ true) (kept rec ws)
  -- the two limits of refusal 7
  pub accepted : rec.accepted ≤ 2 ^ 31
  pub numbers : rec.head.first.0 + rec.accepted ≤ largest_number

-- ---- what a call keeps

-- a state after a call whose greatest clock is then c, and which had these references to keep
pub record Keeps (before then : State) (c : ℕ) (all : List Reference) : Type 0 where
  -- the head stays, and the clock is c
  pub head : then.rec.head ≡ before.rec.head
  pub clock : then.rec.clock.0 ≡ c
  -- those that are still needed are kept, in order, and no other
  pub exactly : Picked (StillNeeded before.rec.head c) all (kept_by then)
  -- the others are counted as dropped
  pub dropped : then.rec.dropped + length (kept_by then) ≡ before.rec.dropped + length all
  -- record and table agree again, and the table is as long as it was
  pub settled : Settled then (length before.words)

-- ---- the laws

pub record OnlySpent : Type 0 where
  -- spent is the comparison: the earlier of its end and the period end is at or before the window's lower edge
  pub compared : (h : Head) (r : Reference) (c : ℕ) → 1 ≤ h.timescale.0 → 1 ≤ r.span.0 → before_end h r.start.0 ≡ true →
      ExactlyWhen (Spent h r c) (passed h (end_of r) c ≡ true)
  -- a reference that starts at or after the period end is spent at every clock
  pub outside : (h : Head) (r : Reference) (c : ℕ) → before_end h r.start.0 ≡ false → Spent h r c
  -- not spent is still needed
  pub needed : (h : Head) (r : Reference) (c : ℕ) → 1 ≤ h.timescale.0 → 1 ≤ r.span.0 →
      ExactlyWhen (Spent h r c → ⊥) (StillNeeded h c r)
  -- record and table agree exactly when the paper's list holds
  pub agree : (rec : Record) (ws : List ℕ) → ExactlyWhen (agrees rec ws ≡ true) (Agreeing rec ws)
  -- an accepted trim: of what is kept, what is still needed at the greater clock. Accepted and the next tick stay
  pub trim : (s : State) (c : WideMillis) → trim_outcome s.rec s.words c ≡ Ok tt →
      Keeps s (after s (trim_at c)) (max s.rec.clock.0 c.0) (kept_by s)
  pub trim_counts : (s : State) (c : WideMillis) → trim_outcome s.rec s.words c ≡ Ok tt →
      ((after s (trim_at c)).rec.accepted ≡ s.rec.accepted) × ((after s (trim_at c)).rec.next ≡ s.rec.next)
  -- a trim at an earlier clock is accepted, and leaves the record and every word as they were
  pub trim_earlier : (rec : Record) (ws : List ℕ) (c : WideMillis) → agrees rec ws ≡ true → c.0 ≤ rec.clock.0 →
      (trim_answer rec ws c ≡ record { outcome = Ok tt; rec = rec }) × (trim_table rec ws c ≡ ws)
  -- an accepted append: of what is kept and what is given, what is still needed at the greatest clock. All that is given is
  -- counted as accepted, and the next tick is where it ends
  pub append : (s : State) (st : Standing) (d n : ℕ) → d ≤ largest_span → append_outcome s.rec s.words st d n ≡ Ok tt →
      Keeps s (append_to s st d n) s.rec.clock.0 (kept_by s ++ given s.rec d n)
  pub append_counts : (s : State) (st : Standing) (d n : ℕ) → append_outcome s.rec s.words st d n ≡ Ok tt →
      ((append_to s st d n).rec.accepted ≡ s.rec.accepted + n) × ((append_to s st d n).rec.next.0 ≡ s.rec.next.0 + d * n)
