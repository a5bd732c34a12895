-- Which ticks references cover: a tick lies in a reference from its start up to its end, that one excluded.
-- Paper: Verdict and availability (covered).
use Rattle.std.specs.Prelude.{ℕ, Bool, false, ◌&&◌, ◌||◌, List, [], ◌∷◌, leb, ltb}
use Rattle.window.specs.declared.Reference.{Reference}
use Rattle.window.specs.Window.{end_of}

-- tick k lies in a reference
abbrev pub covers : Reference → ℕ → Bool
covers r k = leb r.start.0 k && ltb k (end_of r)

-- tick k lies in one of some references
unfoldable pub covered_by : List Reference → ℕ → Bool
covered_by [] k = false
covered_by (r ∷ rs) k = covers r k || covered_by rs k
