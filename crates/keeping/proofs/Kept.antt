-- Agreement is kept: of joined references, what is not spent makes an agreeing table, and so does an append that joins.
use mathlib.Core.Path.{◌≡◌, refl, ap, ap₂, subst⁻¹, ◌∙◌}
use mathlib.Core.Bool.{true, and-eq-true_iff, ◌&&◌}
use mathlib.Core.List.{List, [], ◌∷◌, ◌++◌}
use Prim.Native.Nat.{ℕ, zero, suc, ◌+◌, ◌-◌, ◌*◌, ◌/◌, ◌^◌, ◌≤◌}
use native.Mathlib.Omega.{arith}
use borrow.Author.Tests.{leb-true, eq-eqb}
use lib.Dec.{leb}
use lib.ListN.{length, get_or, take, drop, length-append}
use Rattle.units.specs.declared.Span.{Span}
use Rattle.units.specs.Limits.{largest_number}
use Rattle.window.specs.declared.Reference.{Reference}
use Rattle.window.specs.Place.{before_end}
use Rattle.window.specs.References.{EndToStart, Each}
use Rattle.runs.specs.Words.{capacity}
use Rattle.runs.specs.Encoding.{runs_for, canonical}
use Rattle.runs.specs.Ends.{last_end, Within}
use Rattle.runs.proofs.Opening.{repeated_length}
use Rattle.runs.proofs.Encoded.{span_limits, runs_drop}
use Rattle.runs.proofs.Tables.{canonical_kept, canonical_shaped}
use Rattle.runs.proofs.EndToStart.{kept_join, kept_within, join_append, each_append, join_drop, each_drop, repeated_join, repeated_within, repeated_end, end_append}
use Rattle.agreement.specs.declared.Record.{Record}
use Rattle.agreement.specs.Agreement.{kept, every, record_held, kept_right, agrees}
use Rattle.agreement.proofs.Judging.{record_facts, record_held_lem}
use Rattle.agreement.proofs.Agreeing.{Agreeing, agreeing, agrees_from}
use Rattle.keeping.specs.Append.{given, all_of, unspent_of, counting, appended}
use Rattle.keeping.specs.Steps.{Fitting}
use Rattle.keeping.specs.Keeping.{unspent, keeping, words_keeping}
use Rattle.keeping.proofs.Unspent.{unspent_few, unspent_suffix, unspent_coming, unspent_still, every_append}

-- ---- where the last ends

last_behind : (t : ℕ) (r : Reference) (rs : List Reference) → last_end t (r ∷ rs) ≡ t → last_end t rs ≡ t
unfolding last_end
last_behind t r [] e = refl
last_behind t r (x ∷ xs) e = e

pub last_drop : (t n : ℕ) (rs : List Reference) → last_end t rs ≡ t → last_end t (drop n rs) ≡ t
last_drop t zero rs e = e
last_drop t (suc n) [] e = e
last_drop t (suc n) (r ∷ rs) e = last_drop t n rs (last_behind t r rs e)

-- ---- the generic step: of joined references that end at the next tick, keep what is not spent

module _ (rec : Record) (words t : ℕ) (all : List Reference) (joined : EndToStart t all) (within : Each Within all)
    (ends : last_end rec.next.0 all ≡ rec.next.0) (begun : every (λ r. before_end rec.head r.start.0) all ≡ true)
    (total : rec.dropped + length all ≡ rec.accepted) where
  left : List Reference
  left = unspent rec.head rec.clock.0 all

  suffix : (n : ℕ) × (unspent rec.head rec.clock.0 all ≡ drop n all)
  suffix = unspent_suffix rec.head rec.clock.0 t all joined

  left_joined : EndToStart (last_end t (take suffix.0 all)) left
  unfolding left
  left_joined = subst⁻¹ (EndToStart (last_end t (take suffix.0 all))) suffix.1 (join_drop suffix.0 t all joined)

  left_within : Each Within left
  unfolding left
  left_within = subst⁻¹ (Each Within) suffix.1 (each_drop Within suffix.0 all within)

  pub left_runs : runs_for (unspent rec.head rec.clock.0 all) ≤ runs_for all
  left_runs = subst⁻¹ (λ rs. runs_for rs ≤ runs_for all) suffix.1 (runs_drop suffix.0 all)

  after : Record
  after = keeping rec all left

  right : kept_right after left ≡ true
  unfolding left after
  right =
      ap₂ ◌&&◌
      (ap₂ ◌&&◌
      (ap₂ ◌&&◌
      (eq-eqb (length left) (rec.accepted - (rec.dropped + (length all - length left))) (omega (arith, unspent_few rec.head rec.clock.0 all)))
      (eq-eqb (last_end rec.next.0 left) rec.next.0 (ap (last_end rec.next.0) suffix.1 ∙ last_drop rec.next.0 suffix.0 all ends)))
      (unspent_coming rec.head rec.clock.0 all))
      (unspent_still rec.head rec.clock.0 (λ r. before_end rec.head r.start.0) all begun)

  after_held : record_held rec ≡ true → record_held after ≡ true
  unfolding after left
  after_held h =
      let f = record_facts rec h in
      record_held_lem after
      (record {
        head = f.head;
        next = f.next;
        clock = f.clock;
        dropped = omega arith;
        accepted = f.accepted;
        numbers = f.numbers;
      })

  pub step_agrees : record_held rec ≡ true → runs_for (unspent rec.head rec.clock.0 all) ≤ words / 3 →
      agrees (keeping rec all (unspent rec.head rec.clock.0 all)) (canonical words (unspent rec.head rec.clock.0 all)) ≡ true
  unfolding left after
  step_agrees h room =
      agrees_from after (canonical words left) (after_held h)
      (canonical_shaped (last_end t (take suffix.0 all)) words left left_joined left_within room)
      (ap (kept_right after) (canonical_kept (last_end t (take suffix.0 all)) words left left_joined) ∙ right)

-- ---- appending

module _ (rec : Record) (ws : List ℕ) (span : Span) (n : ℕ) (fit : Fitting rec ws span n)
    (begins : every (λ r. before_end rec.head r.start.0) (given rec span.0 n) ≡ true) where
  known : Agreeing rec ws
  known = agreeing rec ws fit.agreed

  new_held : record_held (counting rec span.0 n) ≡ true
  new_held =
      let f = known.held in
      let k = (and-eq-true_iff (leb (rec.accepted + n) (2 ^ 31)) (leb (rec.head.first.0 + (rec.accepted + n)) largest_number)).0 fit.counts in
      record_held_lem (counting rec span.0 n)
      (record {
        head = f.head;
        next = fit.ends;
        clock = f.clock;
        dropped = omega (arith, f.dropped);
        accepted = leb-true (rec.accepted + n) (2 ^ 31) k.0;
        numbers = leb-true (rec.head.first.0 + (rec.accepted + n)) largest_number k.1;
      })

  joined_with : (s : ℕ) (rs : List Reference) → EndToStart s rs → last_end rec.next.0 rs ≡ rec.next.0 → (t : ℕ) × EndToStart t (rs ++ given rec span.0 n)
  unfolding last_end
  joined_with s [] j e = (rec.next.0, repeated_join rec.next.0 span.0 n)
  joined_with s (r ∷ rs) j e = (
    s,
    join_append s (r ∷ rs) (given rec span.0 n) j
        (subst⁻¹ (λ (t : ℕ). EndToStart t (given rec span.0 n)) e (repeated_join rec.next.0 span.0 n)),
  )

  all_joined : (t : ℕ) × EndToStart t (all_of rec ws span.0 n)
  all_joined = joined_with (get_or ws 0 0) (kept rec ws) (kept_join rec.used ws known.table) known.ends

  all_within : Each Within (all_of rec ws span.0 n)
  all_within =
      let l = span_limits span fit.held in
      each_append Within (kept rec ws) (given rec span.0 n) (kept_within rec.used ws known.table)
      (repeated_within rec.next.0 span.0 n l.0 l.1 fit.ends)

  all_ends : last_end (rec.next.0 + span.0 * n) (all_of rec ws span.0 n) ≡ rec.next.0 + span.0 * n
  all_ends =
      end_append (rec.next.0 + span.0 * n) (kept rec ws) (given rec span.0 n) ∙
      repeated_end (last_end (rec.next.0 + span.0 * n) (kept rec ws)) rec.next.0 span.0 n fit.some

  all_begun : every (λ r. before_end rec.head r.start.0) (all_of rec ws span.0 n) ≡ true
  all_begun = every_append (λ r. before_end rec.head r.start.0) (kept rec ws) (given rec span.0 n) ∙ ap₂ ◌&&◌ known.begun begins

  all_total : rec.dropped + length (all_of rec ws span.0 n) ≡ rec.accepted + n
  all_total =
      omega (
        arith,
        known.total,
        known.held.dropped,
        length-append (kept rec ws) (given rec span.0 n),
        repeated_length rec.next.0 span.0 n,
      )

  pub append_keeps : runs_for (unspent_of rec ws span.0 n) ≤ capacity ws → agrees (appended rec ws span.0 n) (words_keeping ws (unspent_of rec ws span.0 n)) ≡ true
  append_keeps room =
      step_agrees (counting rec span.0 n) (length ws) all_joined.0 (all_of rec ws span.0 n) all_joined.1 all_within all_ends all_begun all_total
      new_held room
