-- A definition by tests, at the outcomes that the code's own tests had: each law passes one test.
use Rattle.std.proofs.Common.{◌≡◌, ℕ, ◌<◌, ◌≤◌, Bool, true, false, cond, not, eqb, ltb, leb, sym, ap, ◌∙◌, le-ltb, lt-ltb, eq-eqb, ne_eqb, le-leb}
use borrow.Author.Tests.{lt-leb, not-true, not-false}
use Rattle.units.proofs.Choice.{chosen, passed_over}

-- what a test of a call's answer says of the definition
pub told : (t b : Bool) → t ≡ b → not t ≡ false → b ≡ true
told t b e n = sym e ∙ not-false t n

module _ {A : Type 0} where
  pub refused : (t b : Bool) (x y : A) → t ≡ b → not t ≡ true → y ≡ cond b x y
  refused t b x y e n = passed_over t b x y e (not-true t n)

  pub allowed : (t b : Bool) (x y z : A) → t ≡ b → not t ≡ false → z ≡ x → z ≡ cond b x y
  allowed t b x y z e n f = f ∙ chosen t b x y e (not-false t n)

  pub at_most : (m n : ℕ) (x y z : A) → m ≤ n → z ≡ x → z ≡ cond (leb m n) x y
  at_most m n x y z l f = f ∙ sym (ap (λ t. cond t x y) (le-leb m n l))

  pub above : (m n : ℕ) (x y : A) → n < m → y ≡ cond (leb m n) x y
  above m n x y l = sym (ap (λ t. cond t x y) (lt-leb m n l))

  pub below : (m n : ℕ) (x y z : A) → m < n → z ≡ x → z ≡ cond (ltb m n) x y
  below m n x y z l f = f ∙ sym (ap (λ t. cond t x y) (lt-ltb m n l))

  pub at_least : (m n : ℕ) (x y : A) → n ≤ m → y ≡ cond (ltb m n) x y
  at_least m n x y l = sym (ap (λ t. cond t x y) (le-ltb m n l))

  pub same : (m n : ℕ) (x y : A) → m ≡ n → x ≡ cond (eqb m n) x y
  same m n x y e = sym (ap (λ t. cond t x y) (eq-eqb m n e))

  pub other : (m n : ℕ) (x y z : A) → (m ≡ n → ⊥) → z ≡ y → z ≡ cond (eqb m n) x y
  other m n x y z e f = f ∙ sym (ap (λ t. cond t x y) (ne_eqb m n e))

  pub unlike : (m n : ℕ) (x y z : A) → (m ≡ n → ⊥) → z ≡ x → z ≡ cond (not (eqb m n)) x y
  unlike m n x y z e f = f ∙ sym (ap (λ t. cond (not t) x y) (ne_eqb m n e))

  pub like : (m n : ℕ) (x y : A) → m ≡ n → y ≡ cond (not (eqb m n)) x y
  like m n x y e = sym (ap (λ t. cond (not t) x y) (eq-eqb m n e))
