-- The line of a reply is what its parts make, put one behind the other.
use mathlib.Core.Path.{◌≡◌, refl, sym, ap, ◌∙◌}
use mathlib.Core.Bool.{cond}
use mathlib.Core.List.{List, [], ◌∷◌, ◌++◌, append_assoc}
use Prim.Native.Nat.{ℕ}
use borrow.Author.Tests.{ne_eqb}
use Rattle.units.specs.declared.WideTick.{WideTick}
use Rattle.agreement.specs.Numbers.{refusal_number, refusal_distance}
use Rattle.answers.specs.declared.Verdict.TheVariants as verdict
use Rattle.std.specs.Prelude.{Option, Some, None, unwrap_or}
use Rattle.answers.specs.Shares.{percent_of, percent_number}
use Rattle.hexdigits.specs.Ascii.{ascii}
use Rattle.wording.specs.declared.RefusedLine.{RefusedLine}
use Rattle.wording.specs.Text.{decimal, distance_text, share_text, refused_text, verdict_text}
use Rattle.wording.specs.Placing.{Put}
use Rattle.wording.proofs.Placed.{put_put, put_as}

shown_percent : (p : Option ℕ) → unwrap_or p 0 ≡ percent_number p
shown_percent (Some n) = refl
shown_percent None = refl

pub share_put : (needed covered p : ℕ) (pc : Option ℕ) → pc ≡ percent_of needed covered → p ≡ unwrap_or pc 0 → {o o₁ o₂ o₃ o₄ o₅ o₆ : List ℕ} {a b c d e f g : ℕ} →
    Put o a (decimal covered) o₁ b → Put o₁ b (47 ∷ []) o₂ c → Put o₂ c (decimal needed) o₃ d → Put o₃ d (32 ∷ []) o₄ e → Put o₄ e (decimal p) o₅ f →
    Put o₅ f (37 ∷ 10 ∷ []) o₆ g → Put o a (share_text needed covered) o₆ g
unfolding share_text ascii
share_put needed covered p pc i j p₁ p₂ p₃ p₄ p₅ p₆ =
    let shown : decimal p ≡ decimal (percent_number (percent_of needed covered)) = ap decimal (j ∙ shown_percent pc ∙ ap percent_number i) in
    put_as (sym (append_assoc _ (37 ∷ []) (10 ∷ []))) (put_put (put_put (put_put (put_put (put_put p₁ p₂) p₃) p₄) (put_as shown p₅)) p₆)

-- ---- a refusal

pub distance_put : (distance : ℕ) → (distance ≡ 0 → ⊥) → {o o₁ o₂ : List ℕ} {a b c : ℕ} → Put o a (32 ∷ 98 ∷ 121 ∷ 32 ∷ []) o₁ b → Put o₁ b (decimal distance) o₂ c →
    Put o a (distance_text distance) o₂ c
unfolding distance_text ascii
distance_put distance z p q = put_as (sym (ap (λ t. cond t [] (ascii " by " ++ decimal distance)) (ne_eqb distance 0 z))) (put_put p q)

pub refused_put : (r : RefusedLine) (number distance : ℕ) {o o₁ o₂ o₃ o₄ o₅ o₆ : List ℕ} {a b c d e f g : ℕ} →
    Put o a (114 ∷ 101 ∷ 102 ∷ 117 ∷ 115 ∷ 101 ∷ 100 ∷ 32 ∷ []) o₁ b → Put o₁ b (decimal number) o₂ c → Put o₂ c (32 ∷ 108 ∷ 105 ∷ 110 ∷ 101 ∷ 32 ∷ []) o₃ d →
    Put o₃ d (decimal r.line) o₄ e → Put o₄ e (distance_text distance) o₅ f → Put o₅ f (10 ∷ []) o₆ g → number ≡ refusal_number r.why → distance ≡ refusal_distance r.why → Put o a (refused_text r) o₆ g
unfolding refused_text ascii
refused_put r number distance p₁ p₂ p₃ p₄ p₅ p₆ i j =
    put_put (put_put (put_put (put_put (put_put p₁ (put_as (ap decimal i) p₂)) p₃) p₄) (put_as (ap distance_text j) p₅)) p₆

-- ---- a verdict

pub complete_put : (needed : ℕ) {o o₁ o₂ : List ℕ} {a b c : ℕ} → Put o a (99 ∷ 111 ∷ 109 ∷ 112 ∷ 108 ∷ 101 ∷ 116 ∷ 101 ∷ 32 ∷ []) o₁ b →
    Put o₁ b (share_text needed needed) o₂ c → Put o a (verdict_text (verdict.Complete needed)) o₂ c
unfolding verdict_text ascii
complete_put needed p q = put_put p q

pub lacking_put : (needed covered : ℕ) (lowest : WideTick) {o o₁ o₂ o₃ o₄ : List ℕ} {a b c d e : ℕ} →
    Put o a (108 ∷ 97 ∷ 99 ∷ 107 ∷ 105 ∷ 110 ∷ 103 ∷ 32 ∷ []) o₁ b → Put o₁ b (decimal lowest.0) o₂ c → Put o₂ c (32 ∷ []) o₃ d → Put o₃ d (share_text needed covered) o₄ e →
    Put o a (verdict_text (verdict.Lacking needed covered lowest)) o₄ e
unfolding verdict_text ascii
lacking_put needed covered lowest p₁ p₂ p₃ p₄ = put_put (put_put (put_put p₁ p₂) p₃) p₄
