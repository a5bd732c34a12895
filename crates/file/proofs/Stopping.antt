-- Where a file stops: the outcome by what is left of it, and how many lines were taken.
use mathlib.Core.Path.{◌≡◌, refl, sym, ap, ◌∙◌}
use mathlib.Core.Bool.{Bool, false, cond, not}
use mathlib.Core.List.{List}
use Prim.Native.Nat.{ℕ, zero, suc, ◌≤◌, min}
use native.Mathlib.Omega.{arith}
use borrow.Author.Tests.{ne_eqb}
use lib.ListN.{length}
use Rattle.units.proofs.Guards.{told}
use Rattle.agreement.specs.declared.refusal.Refusal.TheVariants.{BadLine}
use Rattle.std.specs.Prelude.{Err, Ok}
use Rattle.file.specs.declared.Stage.{Stage}
use Rattle.file.specs.declared.Stage.TheVariants.{Nothing, Headed, Open, Filled, Ended, Refused}
use Rattle.file.specs.declared.Reader.{Reader}
use Rattle.file.specs.Judging.{stop_outcome}
use Rattle.file.specs.SoFar.{most_bytes}
use Rattle.file.specs.Feeding.{most_lines, belongs}
use Rattle.file.proofs.Sounding.{sound_few}
use Rattle.file.proofs.Turning.{belongs_sound}

-- the first bytes of the rest are none exactly where it is
pub stop_cut : (s : Stage) (n : ℕ) → stop_outcome s (min most_bytes n) ≡ stop_outcome s n
stop_cut Nothing n = refl
stop_cut Headed n = refl
stop_cut Open n = refl
stop_cut Filled n = refl
stop_cut Ended zero = refl
stop_cut Ended (suc n) =
    ap (λ t. cond t (Ok _) (Err BadLine)) (ne_eqb (min most_bytes (suc n)) 0 (λ z. let w : ⊥ = omega arith in w)) ∙
    ap (λ t. cond t (Ok _) (Err BadLine)) (sym (ne_eqb (suc n) 0 (λ z. let w : ⊥ = omega arith in w)))
stop_cut (Refused why) n = refl

-- ---- a reader that stops

pub stop_lines : (x : Reader) (ws : List ℕ) (b : Bool) → b ≡ belongs x ws → not b ≡ false → x.reading.lines ≤ most_lines
stop_lines x ws b k n = sound_few (length ws) (record { reading = x.reading; words = ws }) (belongs_sound x ws (told b _ k n), refl)
