-- References by their numbers: a number is found run by run, and a difference of numbers is a place in the list.
use mathlib.Core.Path.{◌≡◌, refl, sym, ap, ap₂, subst, ◌∙◌}
use mathlib.Core.Bool.{Bool, true, false, cond}
use mathlib.Core.List.{List, [], ◌∷◌, ◌++◌, append-nil}
use Prim.Native.Nat.{ℕ, zero, suc, ◌+◌, ◌-◌, ◌*◌, ◌≤◌, ◌<◌}
use native.Mathlib.Nat.{add-zero, add-suc, sub-zero}
use native.Mathlib.Omega.{arith}
use borrow.Author.Tests.{eqb-true, eqb-false, eq-eqb, ne_eqb, leb-false}
use lib.Dec.{eqb}
use lib.ListN.{length}
use mir.Syntax.{w64}
use mir.Val.{Fits}
use Rattle.units.specs.declared.Number.{Number}
use Rattle.std.specs.Prelude.{None, Option, Some}
use Rattle.std.proofs.lemmas.Option.{none-some}
use Rattle.units.specs.Limits.{largest_number, number_made}
use Rattle.units.proofs.Makers.{numbers}
use Rattle.window.specs.declared.Reference.{Reference}
use Rattle.window.specs.References.{Each}
use Rattle.runs.specs.declared.Run.{Run}
use Rattle.runs.specs.Words.{repeated, references_of, reference_behind}
use Rattle.runs.specs.Ends.{Within}
use Rattle.runs.proofs.Opening.{repeated_length, references_in}
use Rattle.runs.proofs.Encoded.{ref}
use Rattle.agreement.specs.declared.Record.{Record}
use Rattle.agreement.specs.Agreement.{agrees, kept}
use Rattle.agreement.proofs.Agreeing.{agreeing}
use Rattle.lookups.specs.Available.{numbered, kept_number}

-- ---- numbers and places

pub at : (m n : ℕ) (r : Reference) (rs : List Reference) → m ≡ n → numbered m (r ∷ rs) n ≡ Some r
unfolding numbered
at m n r rs e = ap (λ t. cond t (Some r) (numbered (suc m) rs n)) (eq-eqb m n e)

pub past : (m n : ℕ) (r : Reference) (rs : List Reference) → (m ≡ n → ⊥) → numbered m (r ∷ rs) n ≡ numbered (suc m) rs n
unfolding numbered
past m n r rs o = ap (λ t. cond t (Some r) (numbered (suc m) rs n)) (ne_eqb m n o)

-- a number below the first's is not there
under : (m n : ℕ) (rs : List Reference) → n < m → numbered m rs n ≡ None
unfolding numbered
under m n [] l = refl
under m n (r ∷ rs) l = past m n r rs (λ e. let z : ⊥ = omega arith in z) ∙ under (suc m) n rs (omega arith)

-- only the difference counts
moved : (a m n : ℕ) (rs : List Reference) → numbered (a + m) rs (a + n) ≡ numbered m rs n
unfolding numbered
moved a m n [] = refl
moved a m n (r ∷ rs) = go (eqb m n) refl (moved a (suc m) n rs)
  where
    go : (t : Bool) → eqb m n ≡ t → numbered (a + suc m) rs (a + n) ≡ numbered (suc m) rs n → numbered (a + m) (r ∷ rs) (a + n) ≡ cond t (Some r) (numbered (suc m) rs n)
    go true e f = at (a + m) (a + n) r rs (ap (λ (k : ℕ). a + k) (eqb-true m n e))
    go false e f =
        let apart : m ≡ n → ⊥ = eqb-false m n e in
        past (a + m) (a + n) r rs (λ g. apart (omega arith)) ∙ ap (λ (k : ℕ). numbered k rs (a + n)) (sym (add-suc a m)) ∙ f

-- behind the references that come first
pub after : (m n : ℕ) (xs ys : List Reference) → m + length xs ≤ n → numbered m (xs ++ ys) n ≡ numbered (m + length xs) ys n
after m n [] ys l = ap (λ (k : ℕ). numbered k ys n) (sym (add-zero m))
after m n (x ∷ xs) ys l =
    past m n x (xs ++ ys) (λ e. let z : ⊥ = omega arith in z) ∙
    after (suc m) n xs ys (omega arith) ∙
    ap (λ (k : ℕ). numbered k ys n) (omega arith)

-- among references of one duration
among : (m n s d c : ℕ) (ys : List Reference) → m ≤ n → n < m + c → numbered m (repeated s d c ++ ys) n ≡ Some (ref (s + d * (n - m)) d)
unfolding repeated
among m n s d zero ys l k = let z : ⊥ = omega arith in absurd z
among m n s d (suc c) ys l k = go (eqb m n) refl (among (suc m) n (s + d) d c ys)
  where
    go : (t : Bool) → eqb m n ≡ t → (suc m ≤ n → n < suc m + c → numbered (suc m) (repeated (s + d) d c ++ ys) n ≡ Some (ref (s + d + d * (n - suc m)) d)) →
        numbered m (ref s d ∷ (repeated (s + d) d c ++ ys)) n ≡ Some (ref (s + d * (n - m)) d)
    go true e ih =
        let same : m ≡ n = eqb-true m n e in
        let none : n - m ≡ 0 = omega arith in
        let here : s ≡ s + d * (n - m) = omega (arith, ap (λ (x : ℕ). d * x) none) in
        at m n (ref s d) (repeated (s + d) d c ++ ys) same ∙ ap (λ (x : ℕ). Some (ref x d)) here
    go false e ih =
        let apart : m ≡ n → ⊥ = eqb-false m n e in
        let one : n - m ≡ suc (n - suc m) = omega arith in
        let there : s + d + d * (n - suc m) ≡ s + d * (n - m) = omega (arith, ap (λ (x : ℕ). d * x) one) in
        past m n (ref s d) (repeated (s + d) d c ++ ys) apart ∙ ih (omega arith) (omega arith) ∙ ap (λ (x : ℕ). Some (ref x d)) there

-- what is found is one of them
pub found_within : (m n : ℕ) (rs : List Reference) (r : Reference) → Each Within rs → Some r ≡ numbered m rs n → Within r
unfolding numbered
found_within m n [] r w e = absurd (none-some r (sym e))
found_within m n (x ∷ xs) r w e = go (eqb m n) (found_within (suc m) n xs r w.1) e
  where
    go : (t : Bool) → (Some r ≡ numbered (suc m) xs n → Within r) → Some r ≡ cond t (Some x) (numbered (suc m) xs n) → Within r
    go true f e = let same : x ≡ r = cc in subst Within same w.0
    go false f e = f e

-- ---- the walk

module _ (left : List Run) (skip : ℕ) (found : Option Reference) (so_far : numbered 0 (references_of left) skip ≡ found) where
  pub seek_missing : left ≡ [] → None ≡ found
  unfolding references_of numbered
  seek_missing none = ap (λ rs. numbered 0 (references_of rs) skip) (sym none) ∙ so_far

  module _ (x : Run) (rest : List Run) (opened : left ≡ x ∷ rest) where
    behind_run : numbered 0 (references_in x ++ references_of rest) skip ≡ found
    unfolding references_of
    behind_run = ap (λ rs. numbered 0 (references_of rs) skip) (sym opened) ∙ so_far

    pub seek_found : skip < x.count → (r : Reference) → r ≡ reference_behind x skip → Some r ≡ found
    seek_found l r f =
        ap Some f ∙
        ap (λ (k : ℕ). Some (ref (x.start.0 + x.span.0 * k) x.span.0)) (sym (sub-zero skip)) ∙
        sym (among 0 skip x.start.0 x.span.0 x.count (references_of rest) (omega arith) (omega arith)) ∙
        behind_run

    pub seek_again : x.count ≤ skip → numbered 0 (references_of rest) (skip - x.count) ≡ found
    seek_again l =
        let xs = references_in x in
        let ys = references_of rest in
        let size : length xs ≡ x.count = repeated_length x.start.0 x.span.0 x.count in
        let from : 0 + length xs ≡ x.count + 0 = omega arith in
        let to : x.count + (skip - x.count) ≡ skip = omega arith in
        sym (moved x.count 0 (skip - x.count) ys) ∙ ap₂ (λ (a b : ℕ). numbered a ys b) (sym from) to ∙ sym (after 0 skip xs ys (omega arith)) ∙ behind_run

-- ---- the number of the first kept one

module _ (rec : Record) (ws : List ℕ) (a : agrees rec ws ≡ true) where
  pub first_fits : Fits w64 (rec.head.first.0 + rec.dropped)
  first_fits =
      let held = (agreeing rec ws a).held in
      record { fits = omega (arith, held.dropped, held.numbers) }

  pub number_under : (n : ℕ) → n < rec.head.first.0 + rec.dropped → None ≡ kept_number rec ws n
  number_under n l = sym (under (rec.head.first.0 + rec.dropped) n (kept rec ws) l)

  -- a number beyond the limit lies past the last kept one
  pub number_over : (n : ℕ) (m : Option Number) → m ≡ number_made n → m ≡ None → None ≡ kept_number rec ws n
  unfolding numbered
  number_over n m e k =
      let first : ℕ = rec.head.first.0 + rec.dropped in
      let facts = agreeing rec ws a in
      let over : largest_number < n = leb-false n largest_number (numbers.beyond n m e k) in
      sym
      (ap (λ rs. numbered first rs n) (sym (append-nil (kept rec ws))) ∙
      after first n (kept rec ws) [] (omega (arith, facts.total, facts.held.dropped, facts.held.numbers)))

  pub number_found : (n : ℕ) (x : Option Reference) → rec.head.first.0 + rec.dropped ≤ n → x ≡ numbered 0 (kept rec ws) (n - (rec.head.first.0 + rec.dropped)) → x ≡ kept_number rec ws n
  number_found n x l e =
      let first : ℕ = rec.head.first.0 + rec.dropped in
      let from : first + 0 ≡ first = omega arith in
      let to : first + (n - first) ≡ n = omega arith in
      e ∙ sym (moved first 0 (n - first) (kept rec ws)) ∙ ap₂ (λ (i j : ℕ). numbered i (kept rec ws) j) from to
