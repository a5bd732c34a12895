-- Demand 2 of availability: by the references themselves, each with its number.
use mathlib.Core.Path.{◌≡◌, refl, sym, ap, ap₂, ◌∙◌}
use mathlib.Core.Bool.{Bool, true, false, cond, and-eq-true_iff, ◌&&◌}
use mathlib.Core.List.{List, [], ◌∷◌, ◌++◌}
use Prim.Native.Nat.{ℕ, suc, ◌+◌, ◌*◌, ◌≤◌, ◌<◌}
use native.Mathlib.Omega.{arith}
use borrow.Author.Tests.{eq-eqb, ne_eqb, le-leb}
use lib.Dec.{eqb}
use lib.IntN.{pos}
use lib.ListN.{length}
use lib.Signed.{le_z, lt_z}
use Rattle.units.specs.Exactly.{ExactlyWhen}
use Rattle.units.specs.declared.WideMillis.{WideMillis}
use Rattle.units.specs.declared.WideNumber.{WideNumber}
use Rattle.units.specs.Limits.{largest_millis}
use Rattle.window.specs.declared.Reference.{Reference}
use Rattle.window.specs.Place.{place}
use Rattle.agreement.specs.declared.Record.{Record}
use Rattle.agreement.specs.declared.refusal.Refusal.TheVariants.{Disagreement, ClockLimit, NotKept}
use Rattle.agreement.specs.Agreement.{agrees, kept}
use Rattle.answers.proofs.Counting.{some_of}
use Rattle.lookups.specs.declared.Availability.TheVariants.{Ends, NeverEnds}
use Rattle.std.specs.Prelude.{Err, Ok, None, Option, Some}
use Rattle.lookups.specs.Available as available
use Rattle.lookups.specs.Available.{kept_number, availability_of, number_availability, availability_in, number_available, available_in}
use Rattle.lookups.proofs.Numbering as numbering
use Rattle.laws.specs.Demand2.{first_kept, wide_number, grain, starts_at, ends_at, Offered}

-- the reference behind `xs`
number_at : (m : ℕ) (xs ys : List Reference) (r : Reference) → available.numbered m (xs ++ r ∷ ys) (m + length xs) ≡ Some r
number_at m xs ys r = numbering.after m (m + length xs) xs (r ∷ ys) (omega arith) ∙ numbering.at (m + length xs) (m + length xs) r ys refl

-- a number that none has
number_none : (m n : ℕ) (rs : List Reference) → ((i : ℕ) → i < length rs → n ≡ m + i → ⊥) → available.numbered m rs n ≡ None
unfolding available.numbered
number_none m n [] o = refl
number_none m n (r ∷ rs) o =
    numbering.past m n r rs (λ e. o 0 (omega arith) (omega arith)) ∙ number_none (suc m) n rs (λ i l e. o (suc i) (omega arith) (omega arith))

module _ (rec : Record) (ws : List ℕ) where
  pub available_disagreed : (n : WideNumber) → agrees rec ws ≡ false → availability_in rec ws n ≡ Err Disagreement
  available_disagreed n e = ap (λ t. cond t (number_availability rec.head (kept_number rec ws n.0)) (Err Disagreement)) e

  module _ (a : agrees rec ws ≡ true) where
    by_number : (n : ℕ) (x : Option Reference) → kept_number rec ws n ≡ x → availability_in rec ws (wide_number n) ≡ number_availability rec.head x
    by_number n x e = ap₂ (λ t y. cond t (number_availability rec.head y) (Err Disagreement)) a e

    pub not_kept_lem : (n : ℕ) → ((i : ℕ) → i < length (kept rec ws) → n ≡ first_kept rec + i → ⊥) → availability_in rec ws (wide_number n) ≡ Err NotKept
    not_kept_lem n o = by_number n None (number_none (first_kept rec) n (kept rec ws) o)

    module _ (xs ys : List Reference) (r : Reference) (e : kept rec ws ≡ xs ++ r ∷ ys) where
      there : availability_in rec ws (wide_number (first_kept rec + length xs)) ≡ Ok (availability_of rec.head r)
      there =
          by_number (first_kept rec + length xs) (Some r)
          (ap (λ rs. available.numbered (first_kept rec) rs (first_kept rec + length xs)) e ∙ number_at (first_kept rec) xs ys r)

      pub available_ends : 1 ≤ rec.head.depth.0 →
          availability_in rec ws (wide_number (first_kept rec + length xs)) ≡ Ok (Ends (grain (starts_at rec.head r)) (grain (ends_at rec.head r)))
      unfolding place
      available_ends d =
          there ∙
          ap (λ t. Ok (cond t (NeverEnds (grain (starts_at rec.head r))) (Ends (grain (starts_at rec.head r)) (grain (ends_at rec.head r)))))
          (ne_eqb rec.head.depth.0 0 (λ z. let y : ⊥ = omega arith in y))

      pub available_ever : rec.head.depth.0 ≡ 0 → availability_in rec ws (wide_number (first_kept rec + length xs)) ≡ Ok (NeverEnds (grain (starts_at rec.head r)))
      unfolding place
      available_ever d =
          there ∙
          ap (λ t. Ok (cond t (NeverEnds (grain (starts_at rec.head r))) (Ends (grain (starts_at rec.head r)) (grain (ends_at rec.head r)))))
          (eq-eqb rec.head.depth.0 0 d)

      module _ (c : WideMillis) (l : c.0 ≤ largest_millis) where
        -- by the test
        by_test : available_in rec ws (wide_number (first_kept rec + length xs)) c ≡ Ok (available.available rec.head r c.0)
        by_test =
            ap₂ (λ t u. cond t (cond u (number_available rec.head c.0 (kept_number rec ws (first_kept rec + length xs))) (Err ClockLimit)) (Err Disagreement)) a
            (le-leb c.0 largest_millis l) ∙
            ap (number_available rec.head c.0)
            (ap (λ rs. available.numbered (first_kept rec) rs (first_kept rec + length xs)) e ∙ number_at (first_kept rec) xs ys r)

        offered : available.available rec.head r c.0 ≡ true → Offered rec.head r c
        unfolding place
        offered q =
            let both =
            (and-eq-true_iff (le_z (starts_at rec.head r) (pos (c.0 * rec.head.timescale.0)))
            (cond (eqb rec.head.depth.0 0) true (lt_z (pos (c.0 * rec.head.timescale.0)) (ends_at rec.head r)))).0 q
            in
            record {
              from = both.0;
              upto = λ d.
                  sym (ap (λ t. cond t true (lt_z (pos (c.0 * rec.head.timescale.0)) (ends_at rec.head r))) (ne_eqb rec.head.depth.0 0 (λ z. let y : ⊥ = omega arith in y))) ∙
                  both.1;
            }

        not_over : (t : Bool) → eqb rec.head.depth.0 0 ≡ t → Offered rec.head r c → cond t true (lt_z (pos (c.0 * rec.head.timescale.0)) (ends_at rec.head r)) ≡ true
        not_over true f o = refl
        not_over false f o = o.upto (some_of rec.head.depth.0 f)

        pub available_at : ExactlyWhen (available_in rec ws (wide_number (first_kept rec + length xs)) c ≡ Ok true) (Offered rec.head r c)
        unfolding place
        available_at =
            record {
              only = λ q. let yes : available.available rec.head r c.0 ≡ true = cc (sym by_test ∙ q) in offered yes;
              if = λ o.
                  by_test ∙
                  ap Ok (ap₂ ◌&&◌ o.from (not_over (eqb rec.head.depth.0 0) refl o));
            }
