-- What the questions about a window are answered with, and when an answer is right. Paper: Window, needed, spent; The file
-- (negative r).
use Rattle.std.specs.Prelude.{ℕ, ◌+◌, ◌*◌, ◌≤◌, ◌<◌, ◌≡◌, Bool, true, false, ◌&&◌, Option, Some, None, leb, ltb}
use Rattle.std.specs.Int.Signed.{le_z}
use Rattle.window.specs.declared.Head.{Head}
use Rattle.window.specs.declared.Passed.{Passed}
use Rattle.window.specs.declared.Passed.TheVariants.{All, Upto}
use Rattle.window.specs.declared.Ticks.{Ticks}
use Rattle.window.specs.Place.{place, period_end}
use Rattle.window.specs.Window.{Stretch, passed, tick_needed}

-- the ends that an answer says are passed
abbrev pub is_passed : Passed → ℕ → Bool
is_passed All e = true
is_passed (Upto t) e = leb e t.0

-- it says so of exactly those that are passed at clock c
abbrev pub EndsPassed : Head → ℕ → Passed → Type 0
EndsPassed h c p = (e : ℕ) → passed h e c ≡ is_passed p e

-- the ticks that an answer names: from the first up to the second, that one excluded
abbrev pub named : Option Ticks → ℕ → Bool
named None k = false
named (Some t) k = leb t.first.0 k && ltb k t.end.0

-- an answer that names ticks names one at least
abbrev pub NamesSome : Option Ticks → Type 0
NamesSome None = Unit {0}
NamesSome (Some t) = t.first.0 < t.end.0

-- it names exactly the ticks that the window needs
pub record NeededTicks (h : Head) (w : Stretch) (n : Option Ticks) : Type 0 where
  pub some : NamesSome n
  pub each : (k : ℕ) → tick_needed h w k ≡ named n k

abbrev pub reaches_end : Head → ℕ → Bool
reaches_end h k = le_z (period_end h) (place h k)

-- n is the least count, one at least, of references of d ticks from tick s whose end reaches or passes the period end
pub record LeastCount (h : Head) (s d n : ℕ) : Type 0 where
  pub some : 1 ≤ n
  pub reaches : reaches_end h (s + d * n) ≡ true
  pub least : (m : ℕ) → 1 ≤ m → m < n → reaches_end h (s + d * m) ≡ false
