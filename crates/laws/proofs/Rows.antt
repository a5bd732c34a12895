-- What a test of the definitions says where it fails, in the words of the paper's column.
use mathlib.Core.Path.{◌≡◌, refl, sym, ap₂, ◌∙◌}
use mathlib.Core.Bool.{Bool, true, false, not, ◌&&◌, ◌||◌}
use mathlib.Core.List.{List, [], ◌∷◌}
use Prim.Native.Nat.{ℕ}
use native.Mathlib.Omega.{arith}
use borrow.Author.Tests.{ltb-true, ltb-false, leb-true, leb-false, lt-ltb, le-ltb, le-leb, lt-leb, eq-eqb, ne_eqb}
use lib.Dec.{eqb, leb, ltb}
use Rattle.window.specs.declared.Reference.{Reference}
use Rattle.agreement.specs.Agreement.{every}
use Rattle.laws.specs.Refusals.{some}

-- that a test fails is, in the words of the column, this
pub record Fails (test : Bool) (words : Bool) : Type 0 where
  pub is : not test ≡ words

pub over : (a b : ℕ) → Fails (leb a b) (ltb b a)
over a b = record { is = go (leb a b) refl }
  where
    go : (t : Bool) → leb a b ≡ t → not t ≡ ltb b a
    go true e = sym (le-ltb b a (leb-true a b e))
    go false e = sym (lt-ltb b a (leb-false a b e))

pub under : (a b : ℕ) → Fails (ltb a b) (leb b a)
under a b = record { is = go (ltb a b) refl }
  where
    go : (t : Bool) → ltb a b ≡ t → not t ≡ leb b a
    go true e = sym (lt-leb b a (ltb-true a b e))
    go false e = sym (le-leb b a (ltb-false a b e))

pub none : (a : ℕ) → Fails (leb 1 a) (eqb a 0)
none a = record { is = go (leb 1 a) refl }
  where
    go : (t : Bool) → leb 1 a ≡ t → not t ≡ eqb a 0
    go true e = sym (ne_eqb a 0 (λ z. let l = leb-true 1 a e in let w : ⊥ = omega arith in w))
    go false e = sym (eq-eqb a 0 (omega (arith, leb-false 1 a e)))

nand : (a b : Bool) → not (a && b) ≡ (not a || not b)
nand true b = refl
nand false b = refl

-- a pair of tests of which one fails
pub either : {a b x y : Bool} → Fails a x → Fails b y → Fails (a && b) (x || y)
either {a = a} {b = b} e f = record { is = nand a b ∙ ap₂ ◌||◌ e.is f.is }

pub not_every : (t : Reference → Bool) (rs : List Reference) → Fails (every t rs) (some (λ r. not (t r)) rs)
unfolding every some
not_every t [] = record { is = refl }
not_every t (r ∷ rs) = either {a = t r} (record { is = refl }) (not_every t rs)
