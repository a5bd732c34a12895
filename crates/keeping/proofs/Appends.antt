-- An append that joins: what is kept stays, and of what is given only the first can be spent at once.
use mathlib.Core.Path.{◌≡◌, sym, ap, ap₂, subst, subst⁻¹, ◌∙◌}
use mathlib.Core.Bool.{Bool, true, false, cond, not, and-eq-true_iff}
use mathlib.Core.List.{List}
use Prim.Native.Nat.{ℕ, suc, ◌+◌, ◌-◌, ◌*◌, ◌^◌, ◌≤◌}
use native.Mathlib.Omega.{arith}
use borrow.Author.Tests.{leb-true, le-leb}
use lib.Dec.{leb}
use lib.ListN.{drop}
use mir.Syntax.{w64}
use mir.Val.{Fits}
use Rattle.units.specs.declared.Span.{Span}
use Rattle.units.specs.Limits.{largest_tick, largest_millis, largest_number}
use Rattle.units.proofs.Guards.{told, refused}
use Rattle.window.specs.declared.Head.{Head}
use Rattle.window.specs.declared.Passed.{Passed}
use Rattle.window.specs.Limits.{Held}
use Rattle.window.specs.Place.{before_end}
use Rattle.window.specs.Ticks.{EndsPassed}
use Rattle.runs.specs.Words.{repeated, capacity}
use Rattle.runs.specs.Encoding.{runs_for}
use Rattle.runs.specs.Steps.{kept_with, Storable}
use Rattle.runs.proofs.Opening.{repeated_length}
use Rattle.runs.proofs.Encoded.{span_limits, ref}
use Rattle.runs.proofs.EndToStart.{repeated_join}
use Rattle.runs.proofs.Tables.{used_fits, canonical_is}
use Rattle.agreement.specs.declared.Record.{Record}
use Rattle.agreement.specs.declared.refusal.Refusal.TheVariants as refusal
use Rattle.agreement.specs.Agreement.{kept, every}
use Rattle.agreement.proofs.Scanning.{last_repeated}
use Rattle.agreement.proofs.Judging.{all_begun, begun}
use Rattle.agreement.proofs.Agreeing.{Agreeing, agreeing}
use Rattle.std.specs.Prelude.{Err, Ok}
use Rattle.keeping.specs.Keeping.{unspent, words_keeping}
use Rattle.keeping.specs.Steps.{count_passed, room_for, Fitting}
use Rattle.keeping.specs.Append.{given, unspent_of, room_outcome, appended}
use Rattle.keeping.proofs.Unspent.{count_most, unspent_is}
use Rattle.keeping.proofs.Stored.{none_left, same_runs, given_left, left_out, split, storable, left_with, room_is}

-- ---- the limits

-- the last of the references given speaks for all
begin_last : (h : Head) (s d n : ℕ) → 1 ≤ n → every (λ r. before_end h r.start.0) (repeated s d n) ≡ before_end h (s + d * (n - 1))
unfolding repeated begun
begin_last h s d n l =
    let e : n ≡ suc (n - 1) = omega arith in
    ap (λ (m : ℕ). every (λ r. before_end h r.start.0) (repeated s d m)) e ∙
    all_begun h 0 s (ref s d) (repeated (s + d) d (n - 1)) (repeated_join s d (suc (n - 1))) ∙
    ap (λ r. before_end h r.start.0) (last_repeated s d (n - 1))

module _ (rec : Record) (d n : ℕ) (h : Held rec.head × (1 ≤ n) × (rec.next.0 + d * n ≤ largest_tick)) where
  pub begin_is : (b : Bool) → b ≡ before_end rec.head (rec.next.0 + d * (n - 1)) → b ≡ every (λ r. before_end rec.head r.start.0) (given rec d n)
  begin_is b e = e ∙ sym (begin_last rec.head rec.next.0 d n h.1)

-- ---- the step

module _ (rec : Record) (ws : List ℕ) (span : Span) (n : ℕ) (fit : Fitting rec ws span n) where
  facts : Agreeing rec ws
  facts = agreeing rec ws fit.agreed

  pub keep_asks : Held rec.head × (rec.clock.0 ≤ largest_millis)
  keep_asks = (facts.held.head, facts.held.clock)

  pub keep_lasts : 1 ≤ span.0
  keep_lasts = (span_limits span fit.held).0

  pub keep_counts : rec.accepted + n ≤ 2 ^ 31
  keep_counts =
      leb-true (rec.accepted + n) (2 ^ 31)
      ((and-eq-true_iff (leb (rec.accepted + n) (2 ^ 31)) (leb (rec.head.first.0 + (rec.accepted + n)) largest_number)).0 fit.counts).0

  module _ (p : Passed) (w : EndsPassed rec.head rec.clock.0 p) (spent : ℕ) (k : spent ≡ count_passed p (repeated rec.next.0 span.0 n)) where
    few : spent ≤ n
    few =
        subst⁻¹ (λ (m : ℕ). m ≤ n) k
        (subst (λ (m : ℕ). count_passed p (repeated rec.next.0 span.0 n) ≤ m) (repeated_length rec.next.0 span.0 n)
        (count_most p (repeated rec.next.0 span.0 n)))

    pub keep_dropped : rec.dropped + spent ≤ 2 ^ 31
    keep_dropped = omega (arith, few, keep_counts, facts.held.dropped)

    behind : unspent rec.head rec.clock.0 (given rec span.0 n) ≡ drop spent (given rec span.0 n)
    behind =
        unspent_is rec.head rec.clock.0 p w rec.next.0 (given rec span.0 n) (repeated_join rec.next.0 span.0 n) ∙
        ap (λ (m : ℕ). drop m (given rec span.0 n)) (sym k)

    -- the record, by the runs used then
    pub keep_record : (used : ℕ) → used ≡ runs_for (unspent_of rec ws span.0 n) → (r : Record) →
        r ≡ record { head = rec.head; accepted = rec.accepted + n; dropped = rec.dropped + spent; next = record { 0 = rec.next.0 + span.0 * n }; clock = rec.clock; used = used } →
        r ≡ appended rec ws span.0 n
    keep_record used u r e =
        e ∙
        ap₂ (λ (d m : ℕ). record { head = rec.head; accepted = rec.accepted + n; dropped = rec.dropped + d; next = record { 0 = rec.next.0 + span.0 * n }; clock = rec.clock; used = m }) (left_out rec ws span n fit spent few behind) u

    -- ---- all are spent

    module _ (all : spent ≡ n) where
      left_kept : unspent_of rec ws span.0 n ≡ kept rec ws
      unfolding repeated
      left_kept =
          let none : n - spent ≡ 0 = omega arith in
          none_left rec ws span n fit
          (given_left rec ws span n fit spent few behind ∙ ap (λ (m : ℕ). repeated (rec.next.0 + span.0 * spent) span.0 m) none)

      pub spent_used : rec.used ≡ runs_for (unspent_of rec ws span.0 n)
      spent_used = sym (same_runs rec ws span n fit left_kept)

      pub spent_room : room_outcome rec ws span.0 n ≡ Ok tt
      unfolding room_outcome
      spent_room =
          ap (λ (m : ℕ). cond (leb m (capacity ws)) (Ok tt) (Err refusal.NoRunLeft)) (sym spent_used) ∙
          ap (λ t. cond t (Ok tt) (Err refusal.NoRunLeft)) (le-leb rec.used (capacity ws) (used_fits rec.used ws facts.table))

      pub spent_table : ws ≡ words_keeping ws (unspent_of rec ws span.0 n)
      spent_table = canonical_is rec.used ws facts.table ∙ ap (words_keeping ws) (sym left_kept)

    -- ---- some are stored

    module _ (some : spent ≡ n → ⊥) where
      pub store_some : spent ≤ n
      store_some = few

      parts : span.0 * spent + span.0 * (n - spent) ≡ span.0 * n
      parts = split rec ws span n fit spent few behind some

      pub store_product : Fits w64 (span.0 * spent)
      store_product = record { fits = omega (arith, parts, fit.ends) }

      pub store_sum : Fits w64 (rec.next.0 + span.0 * spent)
      store_sum = record { fits = omega (arith, parts, fit.ends) }

      pub store_storable : Storable rec.used ws (record { 0 = rec.next.0 + span.0 * spent }) span (n - spent)
      store_storable = storable rec ws span n fit spent few behind some

      with_left : kept_with rec.used ws (record { 0 = rec.next.0 + span.0 * spent }) span (n - spent) ≡ unspent_of rec ws span.0 n
      with_left = left_with rec ws span n fit spent few behind some

      is_room : leb (runs_for (unspent_of rec ws span.0 n)) (capacity ws) ≡ room_for rec.used ws span.0
      is_room = room_is rec ws span n fit spent few behind some

      module _ (t : Bool) (e : t ≡ room_for rec.used ws span.0) where
        pub store_full : not t ≡ true → room_outcome rec ws span.0 n ≡ Err refusal.NoRunLeft
        unfolding room_outcome
        store_full m = sym (refused t _ _ _ (e ∙ sym is_room) m)

        module _ (m : not t ≡ false) where
          has_room_lem : leb (runs_for (unspent_of rec ws span.0 n)) (capacity ws) ≡ true
          has_room_lem = told t _ (e ∙ sym is_room) m

          pub store_accepted : room_outcome rec ws span.0 n ≡ Ok tt
          unfolding room_outcome
          store_accepted = ap (λ b. cond b (Ok tt) (Err refusal.NoRunLeft)) has_room_lem

          pub store_room : runs_for (kept_with rec.used ws (record { 0 = rec.next.0 + span.0 * spent }) span (n - spent)) ≤ capacity ws
          store_room = subst⁻¹ (λ rs. runs_for rs ≤ capacity ws) with_left (leb-true (runs_for (unspent_of rec ws span.0 n)) (capacity ws) has_room_lem)

          pub store_used : (used : ℕ) → used ≡ runs_for (kept_with rec.used ws (record { 0 = rec.next.0 + span.0 * spent }) span (n - spent)) → used ≡ runs_for (unspent_of rec ws span.0 n)
          store_used used u = u ∙ ap runs_for with_left

          pub store_table : (vs : List ℕ) → vs ≡ words_keeping ws (kept_with rec.used ws (record { 0 = rec.next.0 + span.0 * spent }) span (n - spent)) → vs ≡ words_keeping ws (unspent_of rec ws span.0 n)
          store_table vs v = v ∙ ap (words_keeping ws) with_left
