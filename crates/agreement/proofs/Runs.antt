-- An end within a limit, and the sums of a run that is held.
use mathlib.Core.Path.{◌≡◌, refl, sym}
use mathlib.Core.Bool.{Bool, true, false}
use Prim.Native.Nat.{ℕ, ◌+◌, ◌-◌, ◌*◌, ◌/◌, ◌≤◌, ◌<◌}
use native.Mathlib.Nat.{le-div_iff_mul-le, div-lt_iff_lt-mul, mul_comm}
use native.Mathlib.Omega.{arith}
use borrow.Author.Tests.{leb-true, le-leb, lt-leb, leb-false}
use lib.Dec.{leb}
use mir.Syntax.{w64}
use mir.Val.{Fits}
use Rattle.runs.specs.declared.Run.{Run}
use Rattle.runs.specs.Shape.{run_held}
use Rattle.runs.proofs.Encoded.{run_facts}
use Rattle.runs.proofs.Moving.{part_fits, start_fits}

-- an end within a limit, by a division that cannot wrap
pub ends_by : (s d n most : ℕ) → 1 ≤ d → s ≤ most → leb n ((most - s) / d) ≡ leb (s + d * n) most
ends_by s d n most l m = go (leb n ((most - s) / d)) refl
  where
    go : (t : Bool) → leb n ((most - s) / d) ≡ t → t ≡ leb (s + d * n) most
    go true e =
        let k : n * d ≤ most - s = (le-div_iff_mul-le l).0 (leb-true n ((most - s) / d) e) in
        sym (le-leb (s + d * n) most (omega (arith, mul_comm n d)))
    go false e =
        let k : (most - s) / d < n = leb-false n ((most - s) / d) e in
        let j : most - s < n * d = (div-lt_iff_lt-mul l).0 k in
        sym (lt-leb (s + d * n) most (omega (arith, mul_comm n d)))

-- as many of a held run's references as it has, or fewer, end within the limit
module _ (r : Run) (held : run_held r ≡ true) (n : ℕ) (l : n ≤ r.count) where
  pub some_fit : Fits w64 (r.span.0 * n)
  some_fit = part_fits r.start.0 r.span.0 r.count n l (run_facts r held).ends

  pub some_sum_fits : Fits w64 (r.start.0 + r.span.0 * n)
  some_sum_fits = start_fits r.start.0 r.span.0 r.count n l (run_facts r held).ends
