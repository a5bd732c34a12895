use mathlib.Core.Path.{◌≡◌, sym, ◌∙◌, ap, ap₂}
use mathlib.Core.List.{List, [], ◌∷◌, ◌++◌, append-nil}
use Prim.Native.Nat.{ℕ, zero, suc, ◌-◌, ◌/◌, ◌%◌, ◌≤◌, ◌<◌}
use native.Mathlib.Numerals.{unary_clauses}
use native.Mathlib.Omega.{arith}
use borrow.Author.Rules.{rules}
use lib.ListN.{length, drop, set}
use lib.Seq.{append_snoc, drop-cons, drop-length, drop-set-lt, get_or-set_same, lt-length-set}
use Rattle.hexdigits.specs.Digits.{digit_of, digits_of}
use Rattle.hexdigits.proofs.Widths.{digits_last}
use Rattle.hexdigits.proofs.write_digits.Goals as goal

begun : (s : List ℕ) (x : ℕ) → digits_of (length s) x ++ drop (length s) s ≡ digits_of (length s) x
begun s x = rw (drop-length s) (append-nil (digits_of (length s) x))

stored : (s : List ℕ) (j d : ℕ) → j < length s → drop j (set s j d) ≡ d ∷ drop (suc j) s
stored s j d h =
    drop-cons (set s j d) j 0 (lt-length-set s j d h) ∙
    ap₂ ◌∷◌ (get_or-set_same s j d 0 h) (drop-set-lt (suc j) s j d (omega arith))

-- the digit before those written is the remainder of what is left
turn : (s : List ℕ) (rest i d : ℕ) (ds : List ℕ) → 0 < i → i ≤ length s → d ≡ digit_of (rest % 16) → digits_of i rest ++ drop i s ≡ ds →
    digits_of (i - 1) (rest / 16) ++ drop (i - 1) (set s (i - 1) d) ≡ ds
turn s rest zero d ds h l e w = let z : ⊥ = omega arith in absurd z
turn s rest (suc j) d ds h l e w =
    simp unary_clauses
    (ap (λ (t : List ℕ). digits_of j (rest / 16) ++ t) (stored s j d (omega arith)) ∙
    sym (append_snoc (digits_of j (rest / 16)) d (drop (suc j) s)) ∙
    ap (λ (b : ℕ). (digits_of j (rest / 16) ++ (b ∷ [])) ++ drop (suc j) s) e ∙
    ap (λ (t : List ℕ). t ++ drop (suc j) s) (sym (digits_last j rest)) ∙
    w)

full : (s : List ℕ) (rest i : ℕ) (ds : List ℕ) → i ≤ 0 → digits_of i rest ++ drop i s ≡ ds → s ≡ ds
unfolding digits_of
full s rest zero ds h w = w
full s rest (suc i) ds h w = let z : ⊥ = omega arith in absurd z

pub loop-at-init : goal.loop-at-init
loop-at-init c = search (rules, begun)

pub loop-at-preserved : goal.loop-at-preserved
loop-at-preserved c = search (rules, turn)

pub returns : goal.returns
returns c = search (rules, full)
