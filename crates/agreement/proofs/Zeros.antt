-- Words that are all 0, and those that are so from a place on.
use mathlib.Core.Path.{◌≡◌, refl, sym, ap, ◌∙◌}
use mathlib.Core.Bool.{Bool, true, false, ◌&&◌}
use mathlib.Core.List.{List, [], ◌∷◌}
use Prim.Native.Nat.{ℕ, ◌+◌, ◌≤◌, ◌<◌}
use native.Mathlib.Numerals.{add-one}
use borrow.Author.Tests.{eq-eqb, ne_eqb}
use lib.Dec.{eqb}
use lib.ListN.{length, get_or, drop, drop_of_length-le}
use lib.Seq.{drop-cons}
use Rattle.std.specs.Prelude.{◌==◌}
use Rattle.std.specs.List.{list_all}
use Rattle.runs.specs.Shape.{zeros}

pub all_zeros : (ws : List ℕ) → list_all (λ w. w == 0) ws ≡ zeros ws
unfolding zeros
all_zeros [] = refl
all_zeros (w ∷ ws) = ap (λ t. w == 0 && t) (all_zeros ws)

module _ (ws : List ℕ) (i : ℕ) where
  here : i < length ws → zeros (drop i ws) ≡ (eqb (get_or ws i 0) 0 && zeros (drop (i + 1) ws))
  unfolding zeros
  here l = rw (add-one, drop-cons ws i 0)

  pub zero_here : i < length ws → get_or ws i 0 ≡ 0 → (b : Bool) → zeros (drop i ws) ≡ b → zeros (drop (i + 1) ws) ≡ b
  zero_here l e b z = ap (λ t. t && zeros (drop (i + 1) ws)) (sym (eq-eqb (get_or ws i 0) 0 e)) ∙ sym (here l) ∙ z

  pub not_zero : i < length ws → (get_or ws i 0 ≡ 0 → ⊥) → (b : Bool) → zeros (drop i ws) ≡ b → false ≡ b
  not_zero l n b z = ap (λ t. t && zeros (drop (i + 1) ws)) (sym (ne_eqb (get_or ws i 0) 0 n)) ∙ sym (here l) ∙ z

  pub no_more : length ws ≤ i → (b : Bool) → zeros (drop i ws) ≡ b → true ≡ b
  unfolding zeros
  no_more l b z = ap zeros (sym (drop_of_length-le ws l)) ∙ z
