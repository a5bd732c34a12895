-- Of references given, those left at the greatest clock stand behind the first `spent` of them: what is kept then, and the runs that
-- it needs.
use mathlib.Core.Path.{◌≡◌, refl, sym, ap, ◌∙◌}
use mathlib.Core.Bool.{Bool, true, false, cond, not, ◌&&◌, and-eq-true_iff}
use mathlib.Core.List.{List, [], ◌∷◌, ◌++◌, append-nil}
use Prim.Native.Nat.{ℕ, ◌+◌, ◌-◌, ◌*◌, ◌≤◌}
use native.Mathlib.Nat.{mul-add, mul-zero}
use native.Mathlib.Numerals.{add-one}
use native.Mathlib.Omega.{arith}
use borrow.Author.Tests.{le-leb, lt-ltb, le-ltb, eqb-true, eqb-false, not-true}
use lib.Dec.{leb, ltb, eqb}
use lib.ListN.{length, drop, length-append, length-drop}
use Rattle.units.specs.declared.Span.{Span}
use Rattle.window.specs.declared.Head.{Head}
use Rattle.window.specs.declared.Reference.{Reference}
use Rattle.window.specs.Window.{end_of, passed}
use Rattle.runs.specs.Words.{repeated, capacity}
use Rattle.runs.specs.Encoding.{runs_for, needs_run}
use Rattle.runs.specs.Ends.{last_end}
use Rattle.runs.specs.Steps.{kept_with, Storable}
use Rattle.runs.proofs.Opening.{repeated_length}
use Rattle.runs.proofs.EndToStart.{repeated_join, repeated_drop}
use Rattle.runs.proofs.Tables.{used_fits, runs_for_kept}
use Rattle.runs.proofs.Storing.{runs_needed}
use Rattle.agreement.specs.declared.Record.{Record}
use Rattle.agreement.specs.Agreement.{kept, every}
use Rattle.agreement.proofs.Judging.{coming, none_passed}
use Rattle.agreement.proofs.Agreeing.{Agreeing, agreeing}
use Rattle.keeping.specs.Keeping.{unspent}
use Rattle.keeping.specs.Steps.{room_for, Fitting}
use Rattle.keeping.specs.Append.{given, all_of, unspent_of}
use Rattle.keeping.proofs.Unspent.{unspent_append, unspent_every, unspent_suffix}

-- what is kept is not spent, so its end is not passed
last_coming : (h : Head) (c t : ℕ) (r : Reference) (rs : List Reference) → every (λ x. not (passed h (end_of x) c)) (r ∷ rs) ≡ true →
    passed h (last_end t (r ∷ rs)) c ≡ false
unfolding every last_end
last_coming h c t r [] e = not-true (passed h (end_of r) c) ((and-eq-true_iff (not (passed h (end_of r) c)) true).0 e).0
last_coming h c t r (x ∷ xs) e =
    last_coming h c (end_of r) x xs ((and-eq-true_iff (not (passed h (end_of r) c)) (every (λ x. not (passed h (end_of x) c)) (x ∷ xs))).0 e).1

module _ (rec : Record) (ws : List ℕ) (span : Span) (n : ℕ) (fit : Fitting rec ws span n) where
  facts : Agreeing rec ws
  facts = agreeing rec ws fit.agreed

  -- what of the given is left stands behind what is kept
  left_both : unspent_of rec ws span.0 n ≡ kept rec ws ++ unspent rec.head rec.clock.0 (given rec span.0 n)
  left_both =
      unspent_append rec.head rec.clock.0 (kept rec ws) (given rec span.0 n) ∙
      ap (λ rs. rs ++ unspent rec.head rec.clock.0 (given rec span.0 n))
      (unspent_every rec.head rec.clock.0 (kept rec ws) facts.coming)

  -- and where none of it is left, the runs stay
  pub none_left : unspent rec.head rec.clock.0 (given rec span.0 n) ≡ [] → unspent_of rec ws span.0 n ≡ kept rec ws
  none_left e = left_both ∙ ap (λ rs. kept rec ws ++ rs) e ∙ append-nil (kept rec ws)

  pub same_runs : unspent_of rec ws span.0 n ≡ kept rec ws → runs_for (unspent_of rec ws span.0 n) ≡ rec.used
  same_runs e = ap runs_for e ∙ runs_for_kept rec.used ws facts.table

  -- behind a kept reference nothing given is spent
  all_left : (r : Reference) (rs : List Reference) → last_end rec.next.0 (r ∷ rs) ≡ rec.next.0 →
      every (λ x. not (passed rec.head (end_of x) rec.clock.0)) (r ∷ rs) ≡ true →
      unspent rec.head rec.clock.0 (given rec span.0 n) ≡ given rec span.0 n
  unfolding coming
  all_left r rs e c =
      unspent_every rec.head rec.clock.0 (given rec span.0 n)
      (none_passed rec.head rec.clock.0 rec.next.0 (given rec span.0 n) (repeated_join rec.next.0 span.0 n)
      (ap (λ (m : ℕ). passed rec.head m rec.clock.0) (sym e) ∙ last_coming rec.head rec.clock.0 rec.next.0 r rs c))

  module _ (spent : ℕ) (few : spent ≤ n) (behind : unspent rec.head rec.clock.0 (given rec span.0 n) ≡ drop spent (given rec span.0 n)) where
    pub given_left : unspent rec.head rec.clock.0 (given rec span.0 n) ≡ repeated (rec.next.0 + span.0 * spent) span.0 (n - spent)
    given_left = behind ∙ repeated_drop rec.next.0 span.0 n spent few

    left_is : unspent_of rec ws span.0 n ≡ kept rec ws ++ repeated (rec.next.0 + span.0 * spent) span.0 (n - spent)
    left_is = left_both ∙ ap (λ rs. kept rec ws ++ rs) given_left

    pub left_out : spent ≡ length (all_of rec ws span.0 n) - length (unspent_of rec ws span.0 n)
    left_out =
        omega (
          arith,
          few,
          length-append (kept rec ws) (given rec span.0 n),
          repeated_length rec.next.0 span.0 n,
          ap length left_is,
          length-append (kept rec ws) (repeated (rec.next.0 + span.0 * spent) span.0 (n - spent)),
          repeated_length (rec.next.0 + span.0 * spent) span.0 (n - spent),
        )

    module _ (some : spent ≡ n → ⊥) where
      pub split : span.0 * spent + span.0 * (n - spent) ≡ span.0 * n
      split = sym (mul-add span.0 spent (n - spent)) ∙ ap (λ (m : ℕ). span.0 * m) (omega (arith, few))

      joins : (rs : List Reference) → last_end rec.next.0 rs ≡ rec.next.0 → every (λ r. not (passed rec.head (end_of r) rec.clock.0)) rs ≡ true →
          last_end (rec.next.0 + span.0 * spent) rs ≡ rec.next.0 + span.0 * spent
      unfolding last_end
      joins [] e c = refl
      joins (r ∷ rs) e c =
          let zero_spent : spent ≡ 0 =
          omega (
            arith,
            few,
            fit.some,
            ap length (sym (all_left r rs e c) ∙ given_left),
            repeated_length rec.next.0 span.0 n,
            repeated_length (rec.next.0 + span.0 * spent) span.0 (n - spent),
          )
          in
          e ∙ omega (arith, ap (λ (m : ℕ). span.0 * m) zero_spent, mul-zero span.0)

      pub storable : Storable rec.used ws (record { 0 = rec.next.0 + span.0 * spent }) span (n - spent)
      storable =
          record {
            table = facts.table;
            some = omega (arith, few);
            held = fit.held;
            ends = omega (arith, split, fit.ends);
            joins = joins (kept rec ws) facts.ends facts.coming;
          }

      pub left_with : kept_with rec.used ws (record { 0 = rec.next.0 + span.0 * spent }) span (n - spent) ≡ unspent_of rec ws span.0 n
      left_with = sym left_is

      -- how many runs there are then, and whether there is room for them
      runs_left : runs_for (unspent_of rec ws span.0 n) ≡ cond (needs_run rec.used ws span.0) (rec.used + 1) rec.used
      runs_left = ap runs_for (sym left_with) ∙ runs_needed rec.used ws (record { 0 = rec.next.0 + span.0 * spent }) span (n - spent) storable

      pub room_is : leb (runs_for (unspent_of rec ws span.0 n)) (capacity ws) ≡ room_for rec.used ws span.0
      room_is = ap (λ (m : ℕ). leb m (capacity ws)) runs_left ∙ go (needs_run rec.used ws span.0)
        where
          go : (t : Bool) → leb (cond t (rec.used + 1) rec.used) (capacity ws) ≡ cond t (ltb rec.used (capacity ws)) true
          go true = ap (λ (m : ℕ). leb m (capacity ws)) (add-one rec.used)
          go false = le-leb rec.used (capacity ws) (used_fits rec.used ws facts.table)

  -- THE LAW OF 9, in the paper's words: there is no room exactly where something is stored, it needs a new run, and the used
  -- runs equal the capacity
  pub room_exactly : not (leb (runs_for (unspent_of rec ws span.0 n)) (capacity ws)) ≡
      (ltb 0 (length (unspent rec.head rec.clock.0 (given rec span.0 n))) && (needs_run rec.used ws span.0 && eqb rec.used (capacity ws)))
  room_exactly = go (unspent rec.head rec.clock.0 (given rec span.0 n)) refl
    where
      fits : rec.used ≤ capacity ws
      fits = used_fits rec.used ws facts.table

      full : Bool → Bool
      full needs = needs && eqb rec.used (capacity ws)

      no_room : (needs : Bool) → not (cond needs (ltb rec.used (capacity ws)) true) ≡ full needs
      no_room false = refl
      no_room true = by (eqb rec.used (capacity ws)) refl
        where
          by : (t : Bool) → eqb rec.used (capacity ws) ≡ t → not (ltb rec.used (capacity ws)) ≡ t
          by true e = ap not (le-ltb rec.used (capacity ws) (omega (arith, eqb-true rec.used (capacity ws) e)))
          by false e = ap not (lt-ltb rec.used (capacity ws) (omega (arith, fits, eqb-false rec.used (capacity ws) e)))

      go : (rs : List Reference) → unspent rec.head rec.clock.0 (given rec span.0 n) ≡ rs →
          not (leb (runs_for (unspent_of rec ws span.0 n)) (capacity ws)) ≡ (ltb 0 (length rs) && full (needs_run rec.used ws span.0))
      go [] e = ap (λ (m : ℕ). not (leb m (capacity ws))) (same_runs (none_left e)) ∙ ap not (le-leb rec.used (capacity ws) fits)
      go (r ∷ rs) e =
          let s = unspent_suffix rec.head rec.clock.0 rec.next.0 (given rec span.0 n) (repeated_join rec.next.0 span.0 n) in
          let short : length (r ∷ rs) ≡ n - s.0 =
          ap length (sym e ∙ s.1) ∙ length-drop s.0 (given rec span.0 n) ∙ ap (λ (m : ℕ). m - s.0) (repeated_length rec.next.0 span.0 n)
          in
          ap not (room_is s.0 (omega arith) s.1 (λ k. omega arith)) ∙
          no_room (needs_run rec.used ws span.0) ∙
          ap (λ t. t && full (needs_run rec.used ws span.0)) (sym (lt-ltb 0 (length (r ∷ rs)) (omega arith)))
