-- The desk's four lines: which verdict is told by which, and that a line has its figures from nowhere else.
use mathlib.Core.Path.{◌≡◌, refl, sym, ap, ap₂, ◌∙◌}
use mathlib.Core.Bool.{Bool, true, false, cond}
use mathlib.Core.List.{List, [], ◌∷◌, ◌++◌, append_assoc}
use Prim.Native.Nat.{ℕ, ◌*◌, ◌/◌}
use native.Mathlib.Omega.{arith}
use borrow.Author.Tests.{eqb-true}
use lib.Dec.{eqb}
use lib.ListN.{length, drop, get_or}
use lib.Seq.{drop-append_seam}
use Rattle.units.specs.declared.WideTick.{WideTick}
use Rattle.answers.specs.declared.Verdict.TheVariants as verdict
use Rattle.answers.specs.Shares.{percent_of, percent_number}
use Rattle.hexdigits.specs.Ascii.{ascii}
use Rattle.file.specs.Lines.{line_feed}
use Rattle.wording.specs.Text.{decimal_by, decimal, share_text, verdict_text, begins_with_digit, read_from}
use Rattle.wording.proofs.Figures.{figures}
use Rattle.laws.specs.Desk.{complete_line, lacking_line, by_distance, refused_line}

-- ---- two numbers, each in front of some bytes that are no digits

same_number : (m n : ℕ) (xs ys : List ℕ) → begins_with_digit xs ≡ false → begins_with_digit ys ≡ false → decimal m ++ xs ≡ decimal n ++ ys → (m ≡ n) × (xs ≡ ys)
same_number m n xs ys a b e =
    let k : m ≡ n = sym (figures.read m xs a) ∙ ap (read_from 0) e ∙ figures.read n ys b in (
      k,
      sym (drop-append_seam (decimal m) xs) ∙
          ap₂ (λ (j : ℕ) (l : List ℕ). drop j l) (ap (λ (j : ℕ). length (decimal j)) k) e ∙
          drop-append_seam (decimal n) ys,
    )

-- ---- complete

abbrev behind_complete : ℕ → List ℕ
behind_complete n = 47 ∷ (decimal n ++ (32 ∷ 49 ∷ 48 ∷ 48 ∷ 37 ∷ 10 ∷ []))

complete_is : (n : ℕ) → complete_line n ≡ ascii "complete " ++ (decimal n ++ behind_complete n)
unfolding ascii
complete_is n = simp append_assoc

pub one_complete : (m n : ℕ) → complete_line m ≡ complete_line n → m ≡ n
unfolding ascii
one_complete m n e =
    (same_number m n (behind_complete m) (behind_complete n) refl refl (ap (drop 9) (sym (complete_is m) ∙ e ∙ complete_is n))).0

pub complete_text : (n : ℕ) → percent_number (percent_of n n) ≡ 100 → verdict_text (verdict.Complete n) ≡ complete_line n
unfolding ascii verdict_text share_text decimal decimal_by
complete_text n p =
    ap (λ (q : ℕ). ascii "complete " ++ (decimal n ++ ascii "/" ++ decimal n ++ ascii " " ++ decimal q ++ ascii "%" ++ 10 ∷ [])) p ∙ simp append_assoc

-- ---- lacking

abbrev behind_needed : ℕ → ℕ → List ℕ
behind_needed n m = 32 ∷ (decimal (m * 100 / n) ++ (37 ∷ 10 ∷ []))

abbrev behind_covered : ℕ → ℕ → List ℕ
behind_covered n m = 47 ∷ (decimal n ++ behind_needed n m)

abbrev behind_lowest : ℕ → ℕ → List ℕ
behind_lowest n m = 32 ∷ (decimal m ++ behind_covered n m)

lacking_is : (n m k : ℕ) → lacking_line n m k ≡ ascii "lacking " ++ (decimal k ++ behind_lowest n m)
unfolding ascii
lacking_is n m k = simp append_assoc

pub one_lacking : (n m k n₁ m₁ k₁ : ℕ) → lacking_line n m k ≡ lacking_line n₁ m₁ k₁ → (n ≡ n₁) × (m ≡ m₁) × (k ≡ k₁)
unfolding ascii
one_lacking n m k n₁ m₁ k₁ e =
    let x = same_number k k₁ (behind_lowest n m) (behind_lowest n₁ m₁) refl refl (ap (drop 8) (sym (lacking_is n m k) ∙ e ∙ lacking_is n₁ m₁ k₁)) in
    let y = same_number m m₁ (behind_covered n m) (behind_covered n₁ m₁) refl refl (ap (drop 1) x.1) in
    let z = same_number n n₁ (behind_needed n m) (behind_needed n₁ m₁) refl refl (ap (drop 1) y.1) in
    (z.0, y.0, x.0)

pub lacking_text : (n m : ℕ) (k : WideTick) → percent_number (percent_of n m) ≡ m * 100 / n → verdict_text (verdict.Lacking n m k) ≡ lacking_line n m k.0
unfolding verdict_text share_text
lacking_text n m k p =
    ap (λ (q : ℕ). ascii "lacking " ++ decimal k.0 ++ ascii " " ++ (decimal m ++ ascii "/" ++ decimal n ++ ascii " " ++ decimal q ++ ascii "%" ++ line_feed ∷ [])) p ∙
    simp append_assoc

-- ---- refused

-- what stands behind a line is no digit, whether a distance is told or not
abbrev behind_line : ℕ → List ℕ
behind_line distance = by_distance distance ++ 10 ∷ []

no_digit : (distance : ℕ) → begins_with_digit (behind_line distance) ≡ false
unfolding ascii
no_digit distance = go (eqb distance 0)
  where
    go : (t : Bool) → begins_with_digit (cond t [] (ascii " by " ++ decimal distance) ++ 10 ∷ []) ≡ false
    go true = refl
    go false = refl

one_distance : (m n : ℕ) → behind_line m ≡ behind_line n → m ≡ n
unfolding ascii
one_distance m n = go (eqb m 0) refl (eqb n 0) refl
  where
    go : (s : Bool) → eqb m 0 ≡ s → (t : Bool) → eqb n 0 ≡ t →
        cond s [] (ascii " by " ++ decimal m) ++ 10 ∷ [] ≡ cond t [] (ascii " by " ++ decimal n) ++ 10 ∷ [] → m ≡ n
    go true p true q e = eqb-true m 0 p ∙ sym (eqb-true n 0 q)
    go true p false q e = let z : ◌≡◌ {A = ℕ} 10 32 = ap (λ (l : List ℕ). get_or l 0 0) e in let w : ⊥ = omega arith in absurd w
    go false p true q e = let z : ◌≡◌ {A = ℕ} 32 10 = ap (λ (l : List ℕ). get_or l 0 0) e in let w : ⊥ = omega arith in absurd w
    go false p false q e = (same_number m n (10 ∷ []) (10 ∷ []) refl refl (ap (drop 4) e)).0

abbrev behind_number : ℕ → ℕ → List ℕ
behind_number line distance = 32 ∷ 108 ∷ 105 ∷ 110 ∷ 101 ∷ 32 ∷ (decimal line ++ behind_line distance)

refused_is : (number line distance : ℕ) → refused_line number line distance ≡ ascii "refused " ++ (decimal number ++ behind_number line distance)
unfolding ascii
refused_is number line distance = simp append_assoc

pub one_refused : (number line distance number₁ line₁ distance₁ : ℕ) → refused_line number line distance ≡ refused_line number₁ line₁ distance₁ →
    (number ≡ number₁) × (line ≡ line₁) × (distance ≡ distance₁)
unfolding ascii
one_refused number line distance number₁ line₁ distance₁ e =
    let x =
    same_number number number₁ (behind_number line distance) (behind_number line₁ distance₁) refl refl
    (ap (drop 8) (sym (refused_is number line distance) ∙ e ∙ refused_is number₁ line₁ distance₁))
    in
    let y = same_number line line₁ (behind_line distance) (behind_line distance₁) (no_digit distance) (no_digit distance₁) (ap (drop 6) x.1) in
    (x.0, y.0, one_distance distance distance₁ y.1)
