-- Words read by threes are the runs that stand in them.
use Rattle.std.proofs.Common.{◌≡◌, ℕ, ◌*◌, ◌≤◌, List, [], ◌∷◌, length, take, refl, ap, ◌∙◌, arith}
use Prim.Native.Nat.{zero, suc}
use Rattle.runs.specs.Words.{runs_of}
use Rattle.runs.specs.Walk.{runs_in}

three_more : (n : ℕ) → 3 * suc n ≡ suc (suc (suc (3 * n)))
three_more n = omega arith

pub runs_taken : (n : ℕ) (ws : List ℕ) → 3 * n ≤ length ws → runs_in (take (3 * n) ws) ≡ runs_of n ws
unfolding runs_of
runs_taken zero ws l = refl
runs_taken (suc n) [] l = let z : ⊥ = omega arith in absurd z
runs_taken (suc n) (a ∷ []) l = let z : ⊥ = omega arith in absurd z
runs_taken (suc n) (a ∷ b ∷ []) l = let z : ⊥ = omega arith in absurd z
runs_taken (suc n) (a ∷ b ∷ c ∷ ws) l =
    ap (λ (k : ℕ). runs_in (take k (a ∷ b ∷ c ∷ ws))) (three_more n) ∙
    ap (λ rs. record { start = record { 0 = a }; span = record { 0 = b }; count = c } ∷ rs) (runs_taken n ws (omega arith))
