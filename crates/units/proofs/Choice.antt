-- A definition by a test, at the outcome that the code's own test had; and when two tests are one.
use Rattle.std.proofs.Common.{◌≡◌, Bool, true, false, cond, sym, refl, ap, ◌∙◌}

pub chosen : {A : Type 0} (t b : Bool) (x y : A) → t ≡ b → t ≡ true → x ≡ cond b x y
chosen t b x y e h = ap (λ s. cond s x y) (sym h ∙ e)

pub passed_over : {A : Type 0} (t b : Bool) (x y : A) → t ≡ b → t ≡ false → y ≡ cond b x y
passed_over t b x y e h = ap (λ s. cond s x y) (sym h ∙ e)

-- a function of a choice is the choice of its values
pub through : {A B : Type 0} (f : A → B) (t : Bool) (x y : A) → f (cond t x y) ≡ cond t (f x) (f y)
through f true x y = refl
through f false x y = refl

pub either : {A : Type 0} (t : Bool) (x : A) → cond t x x ≡ x
either true x = refl
either false x = refl

-- two tests that are true together are one
pub same_test : (s t : Bool) → (s ≡ true → t ≡ true) → (t ≡ true → s ≡ true) → s ≡ t
same_test true t to back = sym (to refl)
same_test false true to back = back refl
same_test false false to back = refl
