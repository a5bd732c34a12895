-- A trim of an agreeing record and table: what is spent stands in front, and the record counts it.
use mathlib.Core.Path.{◌≡◌, sym, ap, ap₂, subst, subst⁻¹, ◌∙◌}
use mathlib.Core.Bool.{Bool, true, false, not}
use mathlib.Core.List.{List}
use Prim.Native.Nat.{ℕ, ◌+◌, ◌-◌, ◌≤◌, max}
use native.Mathlib.Nat.{max-le}
use native.Mathlib.Omega.{arith}
use lib.ListN.{length, get_or, drop, length-drop}
use mir.Syntax.{w64}
use mir.Val.{Fits}
use Rattle.units.specs.declared.Millis.{Millis}
use Rattle.std.specs.Prelude.{Err, None, Ok, Option, Some}
use Rattle.units.specs.declared.WideMillis.{WideMillis}
use Rattle.units.specs.Limits.{largest_millis, millis_made}
use Rattle.window.specs.declared.Passed.{Passed}
use Rattle.window.specs.Ticks.{EndsPassed}
use Rattle.runs.specs.Encoding.{runs_for}
use Rattle.runs.proofs.EndToStart.{kept_join}
use Rattle.agreement.specs.declared.Record.{Record}
use Rattle.agreement.specs.declared.refusal.Refusal.TheVariants.{Disagreement, ClockLimit}
use Rattle.agreement.specs.Agreement.{kept, agrees}
use Rattle.agreement.proofs.Agreeing.{Agreeing, agreeing}
use Rattle.keeping.specs.Keeping.{words_keeping}
use Rattle.keeping.specs.Steps.{count_passed}
use Rattle.keeping.proofs.Unspent.{count_most, unspent_is}
use Rattle.timeline.specs.Trimming.{unspent_at, trimmed, trim_outcome}
use Rattle.timeline.proofs.Clocks.{clock_is, disagrees, over, within}

-- ---- the outcome

module _ (rec : Record) (ws : List ℕ) (c : WideMillis) (t : Bool) (e : t ≡ agrees rec ws) where
  pub trim_disagrees : not t ≡ true → trim_outcome rec ws c ≡ Err Disagreement
  unfolding trim_outcome
  trim_disagrees n = disagrees rec ws c (Ok tt) t e n

  module _ (n : not t ≡ false) (made : Option Millis) (k : made ≡ millis_made c.0) where
    pub trim_over : made ≡ None → trim_outcome rec ws c ≡ Err ClockLimit
    unfolding trim_outcome
    trim_over m = over rec ws c (Ok tt) t e n made k m

    module _ (at : Millis) (m : made ≡ Some at) where
      pub trim_accepted : trim_outcome rec ws c ≡ Ok tt
      unfolding trim_outcome
      trim_accepted = within rec ws c (Ok tt) t e n made k at m

      -- what was done at the clock that was made was done at the one given
      pub trim_made : (r : Record) → r ≡ trimmed rec ws at.0 → r ≡ trimmed rec ws c.0
      trim_made r f = f ∙ ap (λ (x : Millis). trimmed rec ws x.0) (clock_is c made k at m)

      pub trim_left : (vs : List ℕ) → vs ≡ words_keeping ws (unspent_at rec ws at.0) → vs ≡ words_keeping ws (unspent_at rec ws c.0)
      trim_left vs f = f ∙ ap (λ (x : Millis). words_keeping ws (unspent_at rec ws x.0)) (clock_is c made k at m)

-- ---- the step

module _ (rec : Record) (ws : List ℕ) (a : agrees rec ws ≡ true) where
  facts : Agreeing rec ws
  facts = agreeing rec ws a

  pub trim_counts : rec.dropped ≤ rec.accepted
  trim_counts = facts.held.dropped

  pub trim_total : rec.accepted - rec.dropped ≡ length (kept rec ws)
  trim_total = sym facts.total

  module _ (c : ℕ) (small : c ≤ largest_millis) (g : ℕ) (e : g ≡ max rec.clock.0 c) where
    pub trim_greatest : g ≤ largest_millis
    trim_greatest = subst⁻¹ (λ (n : ℕ). n ≤ largest_millis) e (max-le facts.held.clock small)

    module _ (p : Passed) (w : EndsPassed rec.head g p) (spent : ℕ) (k : spent ≡ count_passed p (kept rec ws)) where
      few : spent ≤ length (kept rec ws)
      few = subst⁻¹ (λ (n : ℕ). n ≤ length (kept rec ws)) k (count_most p (kept rec ws))

      left_is : unspent_at rec ws c ≡ drop spent (kept rec ws)
      left_is =
          unspent_is rec.head (max rec.clock.0 c) p (subst (λ (m : ℕ). EndsPassed rec.head m p) e w) (get_or ws 0 0) (kept rec ws)
          (kept_join rec.used ws facts.table) ∙
          ap (λ (n : ℕ). drop n (kept rec ws)) (sym k)

      pub trim_fits : Fits w64 (rec.dropped + spent)
      trim_fits = record { fits = omega (arith, few, facts.total, facts.held.accepted, facts.held.dropped) }

      counted : rec.dropped + spent ≡ rec.dropped + (length (kept rec ws) - length (unspent_at rec ws c))
      counted = omega (arith, few, ap length left_is, length-drop spent (kept rec ws))

      pub trim_record : (used : ℕ) → used ≡ runs_for (drop spent (kept rec ws)) →
          record { head = rec.head; accepted = rec.accepted; dropped = rec.dropped + spent; next = rec.next; clock = record { 0 = g }; used = used } ≡ trimmed rec ws c
      trim_record used u =
          ap₂ (λ (d x : ℕ). record { head = rec.head; accepted = rec.accepted; dropped = d; next = rec.next; clock = record { 0 = x }; used = used }) counted e ∙
          ap (λ (n : ℕ). record { head = rec.head; accepted = rec.accepted; dropped = rec.dropped + (length (kept rec ws) - length (unspent_at rec ws c)); next = rec.next; clock = record { 0 = max rec.clock.0 c }; used = n })
          (u ∙ ap runs_for (sym left_is))

      pub trim_table_lem : (vs : List ℕ) → vs ≡ words_keeping ws (drop spent (kept rec ws)) → vs ≡ words_keeping ws (unspent_at rec ws c)
      trim_table_lem vs v = v ∙ ap (words_keeping ws) (sym left_is)
