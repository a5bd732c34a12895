-- A table of rows gives 0 exactly where none of its rows holds; and every refusal has a number above 0.
use mathlib.Core.Path.{◌≡◌, refl, sym, ap, ap₂, ◌∙◌}
use mathlib.Core.Bool.{Bool, true, false, cond, not, ◌||◌}
use mathlib.Core.List.{List, [], ◌∷◌}
use Prim.Native.Nat.{ℕ, ◌≤◌}
use native.Mathlib.Omega.{arith}
use borrow.Author.Tests.{ne_eqb}
use lib.Dec.{eqb, ltb}
use Rattle.units.specs.declared.WideTick.{WideTick}
use Rattle.units.specs.Limits.{largest_span}
use Rattle.units.specs.Standing.{tick_standing}
use Rattle.agreement.specs.declared.refusal.Refusal.{Refusal}
use Rattle.agreement.specs.Agreement.{agrees}
use Rattle.agreement.specs.Numbers.{refusal_number, answer_number}
use Rattle.agreement.proofs.Numbers.{refusal_some}
use Rattle.std.specs.Prelude.{Ok}
use Rattle.keeping.specs.Keeping.{Outcome}
use Rattle.keeping.proofs.Outcomes.{number_accepted}
use Rattle.timeline.specs.Appending.{append_answer}
use Rattle.timeline.proofs.Kept.{or_none}
use Rattle.laws.specs.Calls.{State}
use Rattle.laws.specs.Refusals.{lowest, starts_past, append_rows}
use Rattle.laws.specs.Lines.{reach_rows}
use Rattle.laws.proofs.Changing.{append}

abbrev pub NoneHolds : List (Bool × ℕ) → Type 0
NoneHolds [] = Unit {0}
NoneHolds (row ∷ rows) = (row.0 ≡ false) × NoneHolds rows

-- no row has the number 0
abbrev pub AllNumbered : List (Bool × ℕ) → Type 0
AllNumbered [] = Unit {0}
AllNumbered (row ∷ rows) = (1 ≤ row.1) × AllNumbered rows

pub none_holds : (rows : List (Bool × ℕ)) → AllNumbered rows → lowest rows ≡ 0 → NoneHolds rows
none_holds [] n e = tt
none_holds (row ∷ rows) n e = go row.0 refl (none_holds rows n.1) e
  where
    go : (b : Bool) → row.0 ≡ b → (lowest rows ≡ 0 → NoneHolds rows) → cond b row.1 (lowest rows) ≡ 0 → (row.0 ≡ false) × NoneHolds rows
    go true p on q = let z : ⊥ = omega (arith, n.0) in absurd z
    go false p on q = (p, on q)

pub no_row : (rows : List (Bool × ℕ)) → NoneHolds rows → lowest rows ≡ 0
no_row [] n = refl
no_row (row ∷ rows) n = ap (λ b. cond b row.1 (lowest rows)) n.0 ∙ no_row rows n.1

pub refused_number : (why : Refusal) (n : ℕ) → n ≡ refusal_number why → eqb n 0 ≡ false
refused_number why n e = ne_eqb n 0 (λ z. refusal_some why (sym e ∙ z))

-- ---- an append and a negative r: no row of the one holds exactly where no row of the other does

module _ (x : State) (start : WideTick) (d n : ℕ) (agreed : agrees x.rec x.words ≡ true) (narrow : d ≤ largest_span) where
  abbrev rows : List (Bool × ℕ)
  rows = append_rows x.rec x.words (ltb x.rec.next.0 start.0) (ltb start.0 x.rec.next.0) d n

  abbrev answered : Outcome
  answered = (append_answer x.rec x.words (tick_standing start x.rec.next) d n).outcome

  pub append_none : answered ≡ Ok tt → NoneHolds rows
  append_none e = none_holds rows (omega arith) (sym (append x.rec x.words d n narrow start) ∙ ap answer_number e)

  append_if : NoneHolds rows → answered ≡ Ok tt
  append_if e = number_accepted answered (append x.rec x.words d n narrow start ∙ no_row rows e)

  -- what a negative r that is not refused has passed
  pub record Reaches : Type 0 where
    pub taken : answered ≡ Ok tt
    pub lasts : eqb d 0 ≡ false
    pub known : eqb x.rec.head.duration.0 0 ≡ false
    pub begins : starts_past x.rec d n ≡ false

  -- the rows are found by what they ask, in whatever order they stand
  reach_rows_lem : (eqb d 0 ≡ false → 1 ≤ n) → NoneHolds (reach_rows x start.0 d n) → Reaches
  reach_rows_lem some r =
      let lasts : eqb d 0 ≡ false = search in
      record {
        taken = append_if (
          ap not agreed,
          (
            ap₂ ◌||◌ lasts (ne_eqb n 0 (λ z. let w : ⊥ = omega (arith, some lasts) in w)),
            (search, (search, (search, (search, (search, (search, tt)))))),
          ),
        );
        lasts = lasts;
        known = search;
        begins = search;
      }

  pub reach_only : (eqb d 0 ≡ false → 1 ≤ n) → lowest (reach_rows x start.0 d n) ≡ 0 → Reaches
  reach_only some e = reach_rows_lem some (none_holds (reach_rows x start.0 d n) (omega arith) e)

  append_rows_lem : NoneHolds rows → eqb x.rec.head.duration.0 0 ≡ false → NoneHolds (reach_rows x start.0 d n)
  append_rows_lem r known =
      let lasts : eqb d 0 ≡ false = (or_none (eqb d 0) (eqb n 0) r.1.0).0 in
      (search, (search, (search, (search, (search, (search, (search, (search, tt))))))))

  pub reach_if : answered ≡ Ok tt → eqb x.rec.head.duration.0 0 ≡ false → lowest (reach_rows x start.0 d n) ≡ 0
  reach_if e known = no_row (reach_rows x start.0 d n) (append_rows_lem (append_none e) known)
