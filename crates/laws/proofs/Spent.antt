-- Only what is spent goes: from any record and table that agree, what a trim and an append keep.
use mathlib.Core.Path.{◌≡◌, refl, sym, ap, ap₂, subst⁻¹, ◌∙◌}
use mathlib.Core.Bool.{Bool, true, false, cond, true≢false}
use mathlib.Core.List.{List, [], ◌∷◌, ◌++◌}
use Prim.Native.Nat.{ℕ, ◌+◌, ◌-◌, ◌*◌, ◌/◌, ◌≤◌, min, max}
use native.Mathlib.Nat.{max-eq_left}
use native.Mathlib.Omega.{arith}
use borrow.Author.Tests.{le-leb, le-ltb, ltb-false}
use lib.Dec.{ltb}
use lib.ListN.{length, get_or}
use Rattle.units.specs.Exactly.{ExactlyWhen}
use Rattle.units.specs.declared.Millis.{Millis}
use Rattle.units.specs.declared.WideMillis.{WideMillis}
use Rattle.units.specs.declared.Tick.{Tick}
use Rattle.units.specs.declared.standing.Standing.{Standing}
use Rattle.units.specs.Limits.{largest_millis, largest_span}
use Rattle.window.specs.declared.Head.{Head}
use Rattle.window.specs.declared.Reference.{Reference}
use Rattle.window.specs.Place.{end_known, before_end}
use Rattle.window.specs.Window.{end_of, Spent, passed}
use Rattle.window.specs.References.{EndToStart, Each, Sound}
use Rattle.window.proofs.Spending.{passed_spent, yet_needed, spent_is}
use Rattle.window.proofs.Unsigned.{end_at, place_n, low_n, cut_n, high_n, needed_is, before_is}
use Rattle.runs.specs.Encoding.{runs_for}
use Rattle.runs.specs.Ends.{last_end}
use Rattle.runs.proofs.EndToStart.{join_append, each_append, repeated_join, kept_join, kept_within}
use Rattle.runs.proofs.Tables.{canonical_is, canonical_length, runs_for_kept}
use Rattle.agreement.specs.declared.Record.{Record}
use Rattle.agreement.specs.declared.refusal.Refusal.TheVariants.{Disagreement, ClockLimit}
use Rattle.agreement.specs.Agreement.{kept, agrees}
use Rattle.agreement.proofs.Agreeing as tests
use Rattle.std.specs.Prelude.{Err, Ok}
use Rattle.keeping.specs.Keeping.{unspent, words_keeping, changed_by, words_by}
use Rattle.keeping.specs.Append.{given}
use Rattle.keeping.proofs.Unspent.{unspent_every, unspent_few}
use Rattle.timeline.specs.Appending.{append_outcome}
use Rattle.timeline.specs.Trimming.{unspent_at, trim_outcome, trimmed, trim_answer, trim_table}
use Rattle.timeline.proofs.Kept.{trim_passed, trim_keeps, taken, accepted_keeps}
use Rattle.laws.specs.Calls.{State, trim_at, append_to, after}
use Rattle.laws.specs.History.{StillNeeded, Picked, kept_by}
use Rattle.laws.specs.Spent.{Keeps, OnlySpent}
use Rattle.laws.proofs.Calling.{state_from, append_done, trim_done}
use Rattle.laws.proofs.Leaving.{left_kept, trim_room, each_sound, still}
use Rattle.laws.proofs.Listed.{sound_kept, agree}

-- ---- spent

module _ (h : Head) (r : Reference) (c : ℕ) where
  compared : 1 ≤ h.timescale.0 → 1 ≤ r.span.0 → before_end h r.start.0 ≡ true → ExactlyWhen (Spent h r c) (passed h (end_of r) c ≡ true)
  compared l d b = let e = spent_is h r c l d b in record { only = e.if; if = e.only }

  outside : before_end h r.start.0 ≡ false → Spent h r c
  outside b later l =
      needed_is h r later ∙
      le-ltb (max (place_n h r.start.0) (low_n h later)) (min (cut_n h (place_n h (end_of r))) (high_n h later)) (go (end_known h) (sym (before_is h r.start.0) ∙ b))
    where
      go : (t : Bool) → cond t (ltb (r.start.0 * 1000) (h.offset.0 * 1000 + end_at h)) true ≡ false →
          min (cond t (min (end_at h) (place_n h (end_of r))) (place_n h (end_of r))) (high_n h later) ≤ max (place_n h r.start.0) (low_n h later)
      go true e = let m = ltb-false (r.start.0 * 1000) (h.offset.0 * 1000 + end_at h) e in omega arith
      go false e = absurd (true≢false e)

  still_needed : 1 ≤ h.timescale.0 → 1 ≤ r.span.0 → ExactlyWhen (Spent h r c → ⊥) (StillNeeded h c r)
  still_needed l d = record { only = λ n. go n (before_end h r.start.0) refl; if = λ w s. true≢false (sym w.2 ∙ s w.0 w.1) }
    where
      inside : (Spent h r c → ⊥) → before_end h r.start.0 ≡ true → (t : Bool) → passed h (end_of r) c ≡ t → StillNeeded h c r
      inside n b true e = absurd (n (passed_spent h r c e))
      inside n b false e = yet_needed h r c l d b e

      go : (Spent h r c → ⊥) → (t : Bool) → before_end h r.start.0 ≡ t → StillNeeded h c r
      go n true b = inside n b (passed h (end_of r) c) refl
      go n false b = absurd (n (outside b))

-- ---- what a call keeps of joined references

module _ (s : State) (t : ℕ) (all : List Reference) (joined : EndToStart t all) (rated : 1 ≤ s.rec.head.timescale.0) (sound : Each (Sound s.rec.head) all)
    (c : Millis) (accepted : ℕ) (next : Tick) where
  abbrev left : List Reference
  left = unspent s.rec.head c.0 all

  -- the state that keeps just what is not spent
  abbrev leaving : State
  leaving =
      state_from
      (record {
        head = s.rec.head;
        accepted = accepted;
        dropped = s.rec.dropped + (length all - length left);
        next = next;
        clock = c;
        used = runs_for left;
      })
      (words_keeping s.words left)

  keeps : agrees leaving.rec leaving.words ≡ true → runs_for left ≤ length s.words / 3 → Keeps s leaving c.0 all
  keeps agreed room =
      let kept_is : kept_by leaving ≡ left = left_kept s.rec.head c.0 t all joined (length s.words) in
      record {
        head = refl;
        clock = refl;
        exactly = subst⁻¹ (Picked (StillNeeded s.rec.head c.0) all) kept_is (still s.rec.head c.0 rated all sound);
        dropped = omega (arith, ap length kept_is, unspent_few s.rec.head c.0 all);
        settled =
            record {
              agreed = agreed;
              long = canonical_length (length s.words) left room;
              used = sym (ap runs_for kept_is);
              table = sym (ap (words_keeping s.words) kept_is);
            };
      }

-- ---- a trim

module _ (s : State) (c : WideMillis) (o : trim_outcome s.rec s.words c ≡ Ok tt) where
  trim_keeping : Keeps s (after s (trim_at c)) (max s.rec.clock.0 c.0) (kept_by s)
  trim_keeping =
      let p = trim_passed s.rec s.words c o in
      let f = tests.agreeing s.rec s.words p.0 in
      subst⁻¹ (λ x. Keeps s x (max s.rec.clock.0 c.0) (kept_by s)) (trim_done s c o)
      (keeps s (get_or s.words 0 0) (kept_by s) (kept_join s.rec.used s.words f.table) f.held.head.some
      (sound_kept s.rec.head (kept_by s) (kept_within s.rec.used s.words f.table) f.begun)
      (record { 0 = max s.rec.clock.0 c.0 }) s.rec.accepted s.rec.next
      (trim_keeps s.rec s.words c p.0 p.1)
      (trim_room s.rec s.words p.0 c.0))

  trim_counts : ((after s (trim_at c)).rec.accepted ≡ s.rec.accepted) × ((after s (trim_at c)).rec.next ≡ s.rec.next)
  trim_counts = (ap (λ x. x.rec.accepted) (trim_done s c o), ap (λ x. x.rec.next) (trim_done s c o))

module _ (rec : Record) (ws : List ℕ) (c : WideMillis) (a : agrees rec ws ≡ true) (l : c.0 ≤ rec.clock.0) where
  facts : tests.Agreeing rec ws
  facts = tests.agreeing rec ws a

  taken_up : trim_outcome rec ws c ≡ Ok tt
  unfolding trim_outcome
  taken_up =
      ap₂ (λ x y. cond x (cond y (Ok tt) (Err ClockLimit)) (Err Disagreement)) a
      (le-leb c.0 largest_millis (omega (arith, facts.held.clock)))

  none_spent : unspent_at rec ws c.0 ≡ kept rec ws
  none_spent =
      ap (λ (m : ℕ). unspent rec.head m (kept rec ws)) (max-eq_left l) ∙ unspent_every rec.head rec.clock.0 (kept rec ws) facts.coming

  same_record : trimmed rec ws c.0 ≡ rec
  same_record =
      ap₂ (λ (m : ℕ) xs. record { head = rec.head; accepted = rec.accepted; dropped = rec.dropped + (length (kept rec ws) - length xs); next = rec.next; clock = record { 0 = m }; used = runs_for xs })
      (max-eq_left l) none_spent ∙
      ap₂ (λ (d u : ℕ). record { head = rec.head; accepted = rec.accepted; dropped = d; next = rec.next; clock = rec.clock; used = u })
      (omega arith) (runs_for_kept rec.used ws facts.table)

  trim_earlier : (trim_answer rec ws c ≡ record { outcome = Ok tt; rec = rec }) × (trim_table rec ws c ≡ ws)
  unfolding changed_by words_by
  trim_earlier = (
    ap₂ (λ o r. changed_by o r rec) taken_up same_record,
    ap₂ (λ o rs. words_by o (words_keeping ws rs) ws) taken_up none_spent ∙ sym (canonical_is rec.used ws facts.table),
  )

-- ---- an append

-- references that join from the next tick on join behind what is kept
join_next : (t next : ℕ) (rs new : List Reference) → EndToStart t rs → last_end next rs ≡ next → EndToStart next new → (from : ℕ) × EndToStart from (rs ++ new)
unfolding last_end
join_next t next [] new j e k = (next, k)
join_next t next (r ∷ rs) new j e k = (t, join_append t (r ∷ rs) new j (subst⁻¹ (λ (m : ℕ). EndToStart m new) e k))

module _ (s : State) (st : Standing) (d n : ℕ) (o : append_outcome s.rec s.words st d n ≡ Ok tt) where
  append_keeping : d ≤ largest_span → Keeps s (append_to s st d n) s.rec.clock.0 (kept_by s ++ given s.rec d n)
  append_keeping narrow =
      let k = taken s.rec s.words st d n o in
      let f = tests.agreeing s.rec s.words k.agreed in
      let h = s.rec.head in
      let j = join_next (get_or s.words 0 0) s.rec.next.0 (kept_by s) (given s.rec d n) (kept_join s.rec.used s.words f.table) f.ends
      (repeated_join s.rec.next.0 d n) in
      subst⁻¹ (λ x. Keeps s x s.rec.clock.0 (kept_by s ++ given s.rec d n)) (append_done s st d n o)
      (keeps s j.0 (kept_by s ++ given s.rec d n) j.1 f.held.head.some
      (each_append (Sound h) (kept_by s) (given s.rec d n)
      (sound_kept h (kept_by s) (kept_within s.rec.used s.words f.table) f.begun)
      (each_sound h d (omega (arith, k.lasts)) s.rec.next.0 n k.begins))
      s.rec.clock (s.rec.accepted + n) (record { 0 = s.rec.next.0 + d * n })
      (accepted_keeps s.rec s.words st d n narrow o)
      k.room)

  append_counts : ((append_to s st d n).rec.accepted ≡ s.rec.accepted + n) × ((append_to s st d n).rec.next.0 ≡ s.rec.next.0 + d * n)
  append_counts = (ap (λ x. x.rec.accepted) (append_done s st d n o), ap (λ x. x.rec.next.0) (append_done s st d n o))

pub only_spent : OnlySpent
only_spent =
    record {
      compared = compared;
      outside = outside;
      needed = still_needed;
      agree = agree;
      trim = trim_keeping;
      trim_counts = trim_counts;
      trim_earlier = trim_earlier;
      append = λ s st d n l o. append_keeping s st d n o l;
      append_counts = append_counts;
    }
