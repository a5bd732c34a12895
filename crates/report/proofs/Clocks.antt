-- For what a clock line asks its first bytes are enough.
use mathlib.Core.Path.{◌≡◌, ap, ◌∙◌}
use mathlib.Core.List.{List}
use Prim.Native.Nat.{ℕ}
use Rattle.frames.specs.Frames.{frame_of}
use Rattle.file.specs.SoFar.{so_far, first_bytes}
use Rattle.file.proofs.SoFar.{first_bytes_lem}
use Rattle.file.proofs.Cutting.{first_frame}
use Rattle.report.specs.Clock.{asked_by, asked_on}

pub first_asks : (come : List ℕ) → asked_on (first_bytes (so_far come)) ≡ asked_on come
unfolding asked_on
first_asks come = ap (λ (l : List ℕ). asked_by (frame_of l)) (first_bytes_lem come) ∙ ap asked_by (first_frame come)
