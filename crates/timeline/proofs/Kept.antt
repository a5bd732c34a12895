-- Agreement is kept by every accepted call, from any agreeing record and table.
use mathlib.Core.Path.{◌≡◌, refl, sym, ap, ap₂, subst⁻¹, ◌∙◌}
use mathlib.Core.Bool.{Bool, true, false, cond, ◌&&◌, ◌||◌, and-eq-true_iff, true≢false}
use mathlib.Core.List.{List, [], append-nil, ◌++◌}
use Prim.Native.Nat.{ℕ, ◌+◌, ◌-◌, ◌*◌, ◌/◌, ◌≤◌}
use native.Mathlib.Nat.{max-le, sub-zero, le_trans, le-max_left}
use native.Mathlib.Omega.{arith}
use borrow.Author.Tests.{leb-true, le-leb, eqb-false}
use lib.Dec.{leb, eqb}
use lib.ListN.{length, get_or, replicate, length-append}
use Rattle.units.specs.declared.Tick.{Tick}
use Rattle.units.specs.declared.WideMillis.{WideMillis}
use Rattle.units.specs.declared.standing.Standing.{Standing}
use Rattle.units.specs.declared.standing.Standing.TheVariants.{Joins, Gap, Overlap}
use Rattle.units.specs.Limits.{largest_tick, largest_span, largest_millis, tick_held, clock_held}
use Rattle.window.specs.declared.Head.{Head}
use Rattle.window.specs.Limits.{head_held}
use Rattle.window.proofs.Limits.{held_is}
use Rattle.window.specs.Place.{before_end}
use Rattle.runs.specs.Words.{words_of, capacity}
use Rattle.runs.specs.Encoding.{encode, table_of, runs_for, canonical}
use Rattle.runs.specs.Ends.{last_end}
use Rattle.runs.proofs.Opening.{repeated_length}
use Rattle.runs.proofs.Tables.{canonical_is, runs_for_kept, used_fits}
use Rattle.runs.proofs.EndToStart.{kept_join, kept_within}
use Rattle.agreement.specs.declared.Record.{Record}
use Rattle.agreement.specs.Agreement.{kept, every, counts_held, record_held, agrees}
use Rattle.agreement.proofs.Judging.{record_held_lem}
use Rattle.agreement.proofs.Agreeing.{Agreeing, agreeing}
use Rattle.agreement.specs.declared.refusal.Refusal.TheVariants as refusal
use Rattle.agreement.specs.declared.refusal.Refusal.TheVariants.{OverLimit}
use Rattle.std.specs.Prelude.{Err, Ok}
use Rattle.keeping.specs.Keeping.{Outcome}
use Rattle.keeping.specs.Append.{given, all_of, unspent_of, room_outcome, fit_outcome, appended}
use Rattle.keeping.specs.Steps.{Fitting}
use Rattle.keeping.specs.Keeping.{unspent, words_keeping, changed_by, words_by}
use Rattle.keeping.proofs.Unspent.{unspent_append, unspent_every}
use Rattle.keeping.proofs.Kept.{step_agrees, left_runs, append_keeps}
use Rattle.keeping.proofs.Outcomes.{refused_not, past_if, past_unless}
use Rattle.timeline.specs.Opening.{fresh_record, open_outcome}
use Rattle.timeline.specs.Trimming.{clock_raised, unspent_at, trimmed, trim_outcome, trim_answer, trim_table}
use Rattle.timeline.specs.Appending.{unjoined◌else◌, append_outcome, append_answer, append_table}

-- ---- opening

module _ (h : Head) (t : Tick) (words : ℕ) (o : open_outcome h t ≡ Ok tt) where
  open_held : (head_held h ≡ true) × (tick_held t ≡ true)
  unfolding open_outcome
  open_held = (and-eq-true_iff (head_held h) (tick_held t)).0 (past_if (head_held h && tick_held t) (Ok tt) OverLimit o).0

  fresh_held : record_held (fresh_record h t) ≡ true
  fresh_held =
      let f = (held_is h).only open_held.0 in
      record_held_lem (fresh_record h t)
      (record {
        head = f;
        next = leb-true t.0 largest_tick open_held.1;
        clock = omega arith;
        dropped = omega arith;
        accepted = omega arith;
        numbers = omega (arith, f.first);
      })

  pub open_agrees : agrees (fresh_record h t) (replicate words 0) ≡ true
  unfolding unspent every last_end encode table_of words_of
  open_agrees =
      let none : agrees (fresh_record h t) (canonical words []) ≡ true =
      step_agrees (fresh_record h t) words 0 [] tt tt refl refl refl fresh_held (omega arith)
      in
      ap (λ (n : ℕ). agrees (fresh_record h t) (replicate n 0)) (sym (sub-zero words)) ∙ none

-- ---- trimming

module _ (rec : Record) (ws : List ℕ) (c : WideMillis) (a : agrees rec ws ≡ true) (small : c.0 ≤ largest_millis) where
  facts : Agreeing rec ws
  facts = agreeing rec ws a

  raised_held : record_held (clock_raised rec c.0) ≡ true
  raised_held =
      let f = facts.held in
      record_held_lem (clock_raised rec c.0)
      (record {
        head = f.head;
        next = f.next;
        clock = max-le f.clock small;
        dropped = f.dropped;
        accepted = f.accepted;
        numbers = f.numbers;
      })

  all_there : rec.dropped + length (kept rec ws) ≡ rec.accepted
  all_there = omega (arith, facts.total, facts.held.dropped)

  trim_room : runs_for (unspent_at rec ws c.0) ≤ length ws / 3
  trim_room =
      le_trans
      (left_runs (clock_raised rec c.0) (length ws) (get_or ws 0 0) (kept rec ws) (kept_join rec.used ws facts.table)
      (kept_within rec.used ws facts.table) facts.ends facts.begun all_there)
      (subst⁻¹ (λ (n : ℕ). n ≤ length ws / 3) (runs_for_kept rec.used ws facts.table) (used_fits rec.used ws facts.table))

  pub trim_keeps : agrees (trimmed rec ws c.0) (words_keeping ws (unspent_at rec ws c.0)) ≡ true
  trim_keeps =
      step_agrees (clock_raised rec c.0) (length ws) (get_or ws 0 0) (kept rec ws) (kept_join rec.used ws facts.table)
      (kept_within rec.used ws facts.table) facts.ends facts.begun all_there raised_held trim_room

  -- the greatest clock never falls
  pub trim_clock_grows : rec.clock.0 ≤ (trimmed rec ws c.0).clock.0
  trim_clock_grows = le-max_left rec.clock.0 c.0

-- what an accepted trim has passed
pub trim_passed : (rec : Record) (ws : List ℕ) (c : WideMillis) → trim_outcome rec ws c ≡ Ok tt → (agrees rec ws ≡ true) × (c.0 ≤ largest_millis)
unfolding trim_outcome
trim_passed rec ws c o =
    let a = past_if (agrees rec ws) (cond (clock_held c) (Ok tt) (Err refusal.ClockLimit)) refusal.Disagreement o in
    (a.0, leb-true c.0 largest_millis (past_if (clock_held c) (Ok tt) refusal.ClockLimit a.1).0)

-- accepted or refused, it leaves what agrees
pub trim_leaves_lem : (rec : Record) (ws : List ℕ) (c : WideMillis) → agrees rec ws ≡ true → agrees (trim_answer rec ws c).rec (trim_table rec ws c) ≡ true
unfolding changed_by words_by
trim_leaves_lem rec ws c a = go (trim_outcome rec ws c) refl
  where
    go : (o : Outcome) → trim_outcome rec ws c ≡ o →
        agrees (changed_by o (trimmed rec ws c.0) rec).rec (words_by o (words_keeping ws (unspent_at rec ws c.0)) ws) ≡ true
    go (Ok _) e = trim_keeps rec ws c a (trim_passed rec ws c e).1
    go (Err why) e = a

-- ---- an append that is accepted

past_standing : (st : Standing) (x : Outcome) → (unjoined st else x) ≡ Ok tt → (st ≡ Joins) × (x ≡ Ok tt)
past_standing Joins x e = (refl, e)
past_standing (Gap d) x e = absurd (refused_not (refusal.Gap d) e)
past_standing (Overlap d) x e = absurd (refused_not (refusal.Overlap d) e)

pub or_none : (a b : Bool) → (a || b) ≡ false → (a ≡ false) × (b ≡ false)
or_none true b e = absurd (true≢false e)
or_none false b e = (refl, e)

-- every condition that an accepted append has passed
pub record Taken (rec : Record) (ws : List ℕ) (st : Standing) (d n : ℕ) : Type 0 where
  pub agreed : agrees rec ws ≡ true
  pub lasts : d ≡ 0 → ⊥
  pub counts : n ≡ 0 → ⊥
  pub joins : st ≡ Joins
  pub ends : rec.next.0 + d * n ≤ largest_tick
  pub numbers : counts_held rec.head.first.0 (rec.accepted + n) ≡ true
  pub begins : every (λ r. before_end rec.head r.start.0) (given rec d n) ≡ true
  pub room : runs_for (unspent_of rec ws d n) ≤ capacity ws

pub taken : (rec : Record) (ws : List ℕ) (st : Standing) (d n : ℕ) → append_outcome rec ws st d n ≡ Ok tt → Taken rec ws st d n
unfolding append_outcome fit_outcome room_outcome
taken rec ws st d n o =
    let a = past_if (agrees rec ws) (cond (eqb d 0 || eqb n 0) (Err refusal.NothingGiven) (unjoined st else fit_outcome rec ws d n)) refusal.Disagreement o in
    let b = past_unless (eqb d 0 || eqb n 0) (unjoined st else fit_outcome rec ws d n) refusal.NothingGiven a.1 in
    let z = or_none (eqb d 0) (eqb n 0) b.0 in
    let j = past_standing st (fit_outcome rec ws d n) b.1 in
    let begins = every (λ r. before_end rec.head r.start.0) (given rec d n) in
    let counts = counts_held rec.head.first.0 (rec.accepted + n) in
    let e = past_if (leb (rec.next.0 + d * n) largest_tick)
    (cond counts (cond begins (room_outcome rec ws d n) (Err refusal.PastEnd)) (Err refusal.CountLimit)) refusal.TickLimit j.1 in
    let c = past_if counts (cond begins (room_outcome rec ws d n) (Err refusal.PastEnd)) refusal.CountLimit e.1 in
    let g = past_if begins (room_outcome rec ws d n) refusal.PastEnd c.1 in
    let r = past_if (leb (runs_for (unspent_of rec ws d n)) (capacity ws)) (Ok tt) refusal.NoRunLeft g.1 in
    record {
      agreed = a.0;
      lasts = eqb-false d 0 z.0;
      counts = eqb-false n 0 z.1;
      joins = j.0;
      ends = leb-true (rec.next.0 + d * n) largest_tick e.0;
      numbers = c.0;
      begins = g.0;
      room = leb-true (runs_for (unspent_of rec ws d n)) (capacity ws) r.0;
    }

module _ (rec : Record) (ws : List ℕ) (st : Standing) (d n : ℕ) (narrow : d ≤ largest_span) (o : append_outcome rec ws st d n ≡ Ok tt) where
  accepted_fits : Fitting rec ws (record { 0 = d }) n
  accepted_fits =
      let t = taken rec ws st d n o in
      record {
        agreed = t.agreed;
        held = ap₂ ◌&&◌ (le-leb 1 d (omega (arith, t.lasts))) (le-leb d largest_span narrow);
        some = omega (arith, t.counts);
        ends = t.ends;
        counts = t.numbers;
      }

  pub accepted_keeps : agrees (appended rec ws d n) (words_keeping ws (unspent_of rec ws d n)) ≡ true
  accepted_keeps =
      let t = taken rec ws st d n o in
      append_keeps rec ws (record { 0 = d }) n accepted_fits t.begins t.room

  -- an append of references that are all spent only counts: no word changes, and no run
  module _ (spent : unspent rec.head rec.clock.0 (given rec d n) ≡ []) where
    same_left : unspent_of rec ws d n ≡ kept rec ws
    same_left =
        let f = agreeing rec ws (taken rec ws st d n o).agreed in
        unspent_append rec.head rec.clock.0 (kept rec ws) (given rec d n) ∙
        ap₂ ◌++◌ (unspent_every rec.head rec.clock.0 (kept rec ws) f.coming) spent ∙
        append-nil (kept rec ws)

    pub spent_words : words_keeping ws (unspent_of rec ws d n) ≡ ws
    spent_words =
        let f = agreeing rec ws (taken rec ws st d n o).agreed in
        ap (words_keeping ws) same_left ∙ sym (canonical_is rec.used ws f.table)

    pub spent_counts : appended rec ws d n ≡
        record { head = rec.head; accepted = rec.accepted + n; dropped = rec.dropped + n; next = record { 0 = rec.next.0 + d * n }; clock = rec.clock; used = rec.used }
    spent_counts =
        let f = agreeing rec ws (taken rec ws st d n o).agreed in
        let out : length (all_of rec ws d n) - length (unspent_of rec ws d n) ≡ n =
        omega (arith, ap length same_left, length-append (kept rec ws) (given rec d n), repeated_length rec.next.0 d n)
        in
        ap₂ (λ (m u : ℕ). record { head = rec.head; accepted = rec.accepted + n; dropped = rec.dropped + m; next = record { 0 = rec.next.0 + d * n }; clock = rec.clock; used = u })
        out
        (ap runs_for same_left ∙ runs_for_kept rec.used ws f.table)

-- accepted or refused, an append leaves what agrees
pub append_leaves_lem : (rec : Record) (ws : List ℕ) (st : Standing) (d n : ℕ) → d ≤ largest_span → agrees rec ws ≡ true →
    agrees (append_answer rec ws st d n).rec (append_table rec ws st d n) ≡ true
unfolding changed_by words_by
append_leaves_lem rec ws st d n narrow a = go (append_outcome rec ws st d n) refl
  where
    go : (o : Outcome) → append_outcome rec ws st d n ≡ o →
        agrees (changed_by o (appended rec ws d n) rec).rec (words_by o (words_keeping ws (unspent_of rec ws d n)) ws) ≡ true
    go (Ok _) e = accepted_keeps rec ws st d n narrow e
    go (Err why) e = a

-- two agreeing tables of one length that keep the same references are the same words
pub same_table : (rec other : Record) (ws vs : List ℕ) → agrees rec ws ≡ true → agrees other vs ≡ true → length ws ≡ length vs → kept rec ws ≡ kept other vs → ws ≡ vs
same_table rec other ws vs a b l e =
    let f = agreeing rec ws a in
    let g = agreeing other vs b in
    canonical_is rec.used ws f.table ∙ ap₂ canonical l e ∙ sym (canonical_is other.used vs g.table)
