-- A negative r stands for the least count of references whose end reaches or passes the period end, however large it is.
-- Paper: The file.
use Rattle.std.specs.Prelude.{Bool, cond, ℕ, zero, suc, ◌+◌, ◌*◌}
use Rattle.window.specs.declared.Head.{Head}
use Rattle.window.specs.Ticks.{reaches_end}

-- the least number from n on that passes a test, if one of so many does
unfoldable pub least_from : (ℕ → Bool) → ℕ → ℕ → ℕ
least_from t zero n = n
least_from t (suc k) n = cond (t n) n (least_from t k (suc n))

-- the grains of the whole period and of the offset: a reference lasts 1000 grains at least, so as many of them reach the end
abbrev pub enough : Head → ℕ
enough h = h.duration.0 * h.timescale.0 + h.offset.0 * 1000

-- whether n references of d ticks from tick s on reach or pass the period end
abbrev pub reaching : Head → ℕ → ℕ → ℕ → Bool
reaching h s d n = reaches_end h (s + d * n)

-- the least count, one at least, that does: `LeastCount` of `window` holds of it and of no other (`Demand2`: `least_count_lem`)
unfoldable pub least_count : Head → ℕ → ℕ → ℕ
least_count h s d = least_from (reaching h s d) (enough h) 1
