-- Lists of references that join end to start, as a table keeps them. Paper: Record and table.
use Rattle.std.specs.Prelude.{ℕ, ◌≤◌, ◌≡◌, true, List, [], ◌∷◌}
use Rattle.window.specs.declared.Head.{Head}
use Rattle.window.specs.declared.Reference.{Reference}
use Rattle.window.specs.Place.{before_end}
use Rattle.window.specs.Window.{end_of}

-- the first starts at tick t, and each other where the one before it ends
abbrev pub EndToStart : ℕ → List Reference → Type 0
EndToStart t [] = Unit {0}
EndToStart t (r ∷ rs) = (r.start.0 ≡ t) × EndToStart (end_of r) rs

abbrev pub Each : (Reference → Type 0) → List Reference → Type 0
Each P [] = Unit {0}
Each P (r ∷ rs) = P r × Each P rs

-- a reference that an append may bring: it lasts, and it starts before the period end
pub record Sound (h : Head) (r : Reference) : Type 0 where
  pub lasts : 1 ≤ r.span.0
  pub begins : before_end h r.start.0 ≡ true
