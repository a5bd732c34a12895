-- An S line that no row refuses stands for an append that is accepted, and the other way round.
use mathlib.Core.Path.{◌≡◌, refl, sym, ap, subst, subst⁻¹, ◌∙◌}
use mathlib.Core.Bool.{Bool, true, false, cond, true≢false, false≢true}
use Prim.Native.Nat.{ℕ, ◌+◌, ◌≤◌, ◌<◌}
use native.Mathlib.Omega.{arith}
use borrow.Author.Tests.{leb-true, leb-false, le-leb, lt-leb, ne_eqb, eqb-false}
use lib.Dec.{eqb, ltb}
use Rattle.units.specs.declared.WideTick.{WideTick}
use Rattle.units.specs.Limits.{largest_span}
use Rattle.agreement.specs.Agreement.{agrees}
use Rattle.std.specs.Prelude.{Ok}
use Rattle.agreement.specs.Numbers.{answer_number}
use Rattle.keeping.proofs.Outcomes.{number_accepted}
use Rattle.timeline.proofs.Kept.{or_none}
use Rattle.frames.specs.declared.SFields.{SFields}
use Rattle.window.specs.Ticks.{LeastCount}
use Rattle.file.specs.Least.{least_count}
use Rattle.file.specs.Judging.{first_negative}
use Rattle.file.proofs.Counts.{least_holds, least_is}
use Rattle.laws.specs.Calls.{Call, by_tick, State, outcome_of}
use Rattle.laws.specs.Refusals.{lowest, append_rows}
use Rattle.laws.specs.Lines.{start_of, negative, count_of, call_of, reach_rows, appended_rows}
use Rattle.laws.specs.Reading.{StandsFor}
use Rattle.laws.proofs.Changing.{append}
use Rattle.laws.proofs.NoRow.{append_none, reach_only, reach_if}

module _ (x : State) (s : SFields) (agreed : agrees x.rec x.words ≡ true) (narrow : s.d ≤ largest_span) where
  abbrev start : WideTick
  start = record { 0 = start_of x.rec.next.0 s }

  -- the rows and the count by the sign of r
  abbrev rows_by : Bool → ℕ → ℕ
  rows_by b n =
      lowest
      (cond b (reach_rows x start.0 s.d n)
      (append_rows x.rec x.words (ltb x.rec.next.0 start.0) (ltb start.0 x.rec.next.0) s.d n))

  abbrev to_end : ℕ
  to_end = least_count x.rec.head x.rec.next.0 s.d

  abbrev count_by : Bool → ℕ
  count_by b = cond b to_end (s.r + 1)

  least : eqb s.d 0 ≡ false → LeastCount x.rec.head x.rec.next.0 s.d to_end
  least z = least_holds x.rec.head x.rec.next.0 s.d (omega (arith, eqb-false s.d 0 z))

  not_below : negative s ≡ true → {A : Type 0} → s.r < first_negative → A
  not_below e l = absurd (false≢true (sym (lt-leb first_negative s.r l) ∙ e))

  not_above : negative s ≡ false → {A : Type 0} → first_negative ≤ s.r → A
  not_above e l = absurd (true≢false (sym (le-leb first_negative s.r l) ∙ e))

  pub s_only : lowest (appended_rows x s) ≡ 0 → StandsFor x s (call_of x s) × (outcome_of x (call_of x s) ≡ Ok tt)
  s_only zero = go (negative s) refl
    where
      go : (b : Bool) → negative s ≡ b → StandsFor x s (call_of x s) × (outcome_of x (call_of x s) ≡ Ok tt)
      go false e = (
        (count_of x s, record { more = λ l. ap count_by e; known = not_above e; least = not_above e }, refl),
        number_accepted (outcome_of x (call_of x s))
            (append x.rec x.words s.d (count_of x s) narrow start ∙ sym (ap (λ b. rows_by b (count_of x s)) e) ∙ zero),
      )
      go true e =
          let is : count_of x s ≡ to_end = ap count_by e in
          let r =
          reach_only x start s.d (count_of x s) agreed narrow (λ z. subst⁻¹ (λ (n : ℕ). 1 ≤ n) is (least z).some)
          (sym (ap (λ b. rows_by b (count_of x s)) e) ∙ zero)
          in (
            (
              count_of x s,
              record {
                more = not_below e;
                known = λ l. omega (arith, eqb-false x.rec.head.duration.0 0 r.known);
                least = λ l. subst⁻¹ (LeastCount x.rec.head x.rec.next.0 s.d) is (least r.lasts);
              },
              refl,
            ),
            r.taken,
          )

  pub s_if : (c : Call) → StandsFor x s c → outcome_of x c ≡ Ok tt → (c ≡ call_of x s) × (lowest (appended_rows x s) ≡ 0)
  s_if c (n, g, e) o = (e ∙ ap (by_tick start s.d) (count (negative s) refl), rows (negative s) refl)
    where
      taken : outcome_of x (by_tick start s.d n) ≡ Ok tt
      taken = subst (λ d. outcome_of x d ≡ Ok tt) e o

      lasts : 1 ≤ s.d
      lasts =
          let z = (or_none (eqb s.d 0) (eqb n 0) (append_none x start s.d n agreed narrow taken).1.0).0 in
          omega (arith, eqb-false s.d 0 z)

      count : (b : Bool) → negative s ≡ b → n ≡ count_of x s
      count false b = g.more (leb-false first_negative s.r b) ∙ sym (ap count_by b)
      count true b =
          least_is x.rec.head x.rec.next.0 s.d lasts n (g.least (leb-true first_negative s.r b)) ∙ sym (ap count_by b)

      counted : outcome_of x (call_of x s) ≡ Ok tt
      counted = subst (λ (m : ℕ). outcome_of x (by_tick start s.d m) ≡ Ok tt) (count (negative s) refl) taken

      rows : (b : Bool) → negative s ≡ b → lowest (appended_rows x s) ≡ 0
      rows false b =
          ap (λ t. rows_by t (count_of x s)) b ∙ sym (append x.rec x.words s.d (count_of x s) narrow start) ∙ ap answer_number counted
      rows true b =
          ap (λ t. rows_by t (count_of x s)) b ∙
          reach_if x start s.d (count_of x s) agreed narrow counted
          (ne_eqb x.rec.head.duration.0 0 (λ z. let w : ⊥ = omega (arith, g.known (leb-true first_negative s.r b)) in w))
