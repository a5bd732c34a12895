-- How many ticks a window needs, how many of those lie in a reference, and the lowest that lies in none. Each is a count of
-- ticks, or the least of some: no tick that the window needs lies at or past its `beyond`. Paper: Verdict and availability.
use Rattle.std.specs.Prelude.{ℕ, zero, suc, ◌+◌, Bool, cond, ◌&&◌, not, List, eqb, nat_abs}
use Rattle.window.specs.declared.Head.{Head}
use Rattle.window.specs.declared.Reference.{Reference}
use Rattle.window.specs.Window.{Stretch, tick_needed}
use Rattle.answers.specs.Cover.{covered_by}

-- how many of the numbers below n pass a test
unfoldable pub count_below : (ℕ → Bool) → ℕ → ℕ
count_below p zero = 0
count_below p (suc n) = cond (p n) (suc (count_below p n)) (count_below p n)

-- the least of the numbers below n that pass a test, 0 where none does
unfoldable pub least_below : (ℕ → Bool) → ℕ → ℕ
least_below p zero = 0
least_below p (suc n) = cond (eqb (count_below p n) 0) (cond (p n) n 0) (least_below p n)

-- the offset's tick stands at the period start and a tick is no shorter than a grain: every needed tick lies below this
abbrev pub beyond : Head → Stretch → ℕ
beyond h w = h.offset.0 + nat_abs w.to

abbrev pub needed_count : Head → Stretch → ℕ
needed_count h w = count_below (tick_needed h w) (beyond h w)

abbrev pub covered_count : Head → Stretch → List Reference → ℕ
covered_count h w rs = count_below (λ k. tick_needed h w k && covered_by rs k) (beyond h w)

abbrev pub lowest_lacking : Head → Stretch → List Reference → ℕ
lowest_lacking h w rs = least_below (λ k. tick_needed h w k && not (covered_by rs k)) (beyond h w)
