-- The refusals of an append up to 5, in their order, as the code meets them.
use mathlib.Core.Path.{◌≡◌, refl, sym, ap, ap₂, ◌∙◌}
use mathlib.Core.Bool.{Bool, true, false, cond, not, ◌||◌}
use mathlib.Core.List.{List}
use Prim.Native.Nat.{ℕ}
use native.Mathlib.Omega.{arith}
use borrow.Author.Tests.{eq-eqb, ne_eqb}
use lib.Dec.{eqb}
use mir.Syntax.{w32}
use mir.Val.{Fits}
use Rattle.units.specs.declared.standing.Standing.{Standing}
use Rattle.units.specs.declared.standing.Standing.TheVariants.{Joins, Gap, Overlap}
use Rattle.units.specs.declared.Distance.{Distance}
use Rattle.units.specs.declared.Span.{Span}
use Rattle.std.specs.Prelude.{Err, None, Option, Some}
use Rattle.units.specs.Limits.{span_made}
use Rattle.units.proofs.Choice.{chosen}
use Rattle.units.proofs.Guards.{refused}
use Rattle.units.proofs.Makers as makers
use Rattle.agreement.specs.declared.Record.{Record}
use Rattle.agreement.specs.declared.refusal.Refusal.TheVariants as refusal
use Rattle.agreement.specs.Agreement.{agrees}
use Rattle.keeping.specs.declared.Changed.{Changed}
use Rattle.keeping.specs.Keeping.{words_keeping, changed_by, words_by}
use Rattle.keeping.specs.Append.{unspent_of, fit_outcome, appended}
use Rattle.keeping.proofs.Outcomes.{words_refused}
use Rattle.timeline.specs.Appending.{unjoined◌else◌, append_outcome, append_answer, append_table}

module _ (rec : Record) (ws : List ℕ) (st : Standing) (d n : ℕ) where
  pub disagrees : (t : Bool) → t ≡ agrees rec ws → not t ≡ true → append_outcome rec ws st d n ≡ Err refusal.Disagreement
  unfolding append_outcome
  disagrees t e m = sym (refused t _ _ _ e m)

  module _ (a : agrees rec ws ≡ true) where
    given : (u v : Bool) → eqb d 0 ≡ u → eqb n 0 ≡ v → append_outcome rec ws st d n ≡ cond (u || v) (Err refusal.NothingGiven) (unjoined st else fit_outcome rec ws d n)
    unfolding append_outcome
    given u v k l =
        sym (chosen _ _ _ _ refl a) ∙
        ap₂ (λ x y. cond (x || y) (Err refusal.NothingGiven) (unjoined st else fit_outcome rec ws d n)) k l

    pub no_duration : d ≡ 0 → append_outcome rec ws st d n ≡ Err refusal.NothingGiven
    no_duration z = given true (eqb n 0) (eq-eqb d 0 z) refl

    module _ (i : d ≡ 0 → ⊥) where
      pub no_count : n ≡ 0 → append_outcome rec ws st d n ≡ Err refusal.NothingGiven
      no_count z = given false true (ne_eqb d 0 i) (eq-eqb n 0 z)

      module _ (j : n ≡ 0 → ⊥) where
        stands : append_outcome rec ws st d n ≡ (unjoined st else fit_outcome rec ws d n)
        stands = given false false (ne_eqb d 0 i) (ne_eqb n 0 j)

        pub stands_gap : (far : Distance) → st ≡ Gap far → append_outcome rec ws st d n ≡ Err (refusal.Gap far)
        stands_gap far e = stands ∙ ap (λ s. unjoined s else fit_outcome rec ws d n) e

        pub stands_overlap : (far : Distance) → st ≡ Overlap far → append_outcome rec ws st d n ≡ Err (refusal.Overlap far)
        stands_overlap far e = stands ∙ ap (λ s. unjoined s else fit_outcome rec ws d n) e

        pub stands_joins : st ≡ Joins → append_outcome rec ws st d n ≡ fit_outcome rec ws d n
        stands_joins e = stands ∙ ap (λ s. unjoined s else fit_outcome rec ws d n) e

-- the same by the span that the constructor made of the duration, which is one of 32 bits
module _ (rec : Record) (ws : List ℕ) (st : Standing) (d n : ℕ) (a : agrees rec ws ≡ true) (made : Option Span) (e : made ≡ span_made d) where
  pub no_span : Fits w32 d → made ≡ None → append_outcome rec ws st d n ≡ Err refusal.NothingGiven
  no_span f k = no_duration rec ws st d n a (makers.no_duration d made e (omega (arith, f.fits)) k)

  module _ (s : Span) (k : made ≡ Some s) where
    is : s ≡ record { 0 = d }
    is = makers.duration_is d made e s k

    lasts : d ≡ 0 → ⊥
    lasts = makers.duration_some d made e s k

    pub span_none : n ≡ 0 → append_outcome rec ws st d n ≡ Err refusal.NothingGiven
    span_none z = no_count rec ws st d n a lasts z

    module _ (j : n ≡ 0 → ⊥) where
      pub span_gap : (far : Distance) → st ≡ Gap far → append_outcome rec ws st d n ≡ Err (refusal.Gap far)
      span_gap far g = stands_gap rec ws st d n a lasts j far g

      pub span_overlap : (far : Distance) → st ≡ Overlap far → append_outcome rec ws st d n ≡ Err (refusal.Overlap far)
      span_overlap far g = stands_overlap rec ws st d n a lasts j far g

      -- a start that does not join changes no word
      pub gap_words : (far : Distance) → st ≡ Gap far → ws ≡ append_table rec ws st d n
      gap_words far g = words_refused _ _ _ (refusal.Gap far) (span_gap far g)

      pub overlap_words : (far : Distance) → st ≡ Overlap far → ws ≡ append_table rec ws st d n
      overlap_words far g = words_refused _ _ _ (refusal.Overlap far) (span_overlap far g)

      module _ (g : st ≡ Joins) where
        joins : fit_outcome rec ws d n ≡ append_outcome rec ws st d n
        joins = sym (stands_joins rec ws st d n a lasts j g)

        pub span_answer : (r : Changed) → r ≡ changed_by (fit_outcome rec ws s.0 n) (appended rec ws s.0 n) rec → r ≡ append_answer rec ws st d n
        span_answer r f =
            f ∙ ap (λ (x : Span). changed_by (fit_outcome rec ws x.0 n) (appended rec ws x.0 n) rec) is ∙
            ap (λ o. changed_by o (appended rec ws d n) rec) joins

        pub span_words : (vs : List ℕ) → vs ≡ words_by (fit_outcome rec ws s.0 n) (words_keeping ws (unspent_of rec ws s.0 n)) ws → vs ≡ append_table rec ws st d n
        span_words vs f =
            f ∙ ap (λ (x : Span). words_by (fit_outcome rec ws x.0 n) (words_keeping ws (unspent_of rec ws x.0 n)) ws) is ∙
            ap (λ o. words_by o (words_keeping ws (unspent_of rec ws d n)) ws) joins
