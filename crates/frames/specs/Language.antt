-- The language of a line, said without reading one. The lines that are frames are those of the frames that fit: the kind's two digits, then each field
-- over its own width. Every other line is no frame, and no two frames share a line. Paper: The file; Refusal numbers, 16.
use Rattle.std.specs.Prelude.{◌≡◌, ◌↔◌, true, Some, None, List, [], ◌∷◌, ℕ, ◌<◌, length, get_or}
use Rattle.hexdigits.specs.Digits.{are_digits}
use Rattle.frames.specs.Frames.{line_length, longest_line, kind_of, Fits, line_of, frame_of}
use Rattle.frames.specs.declared.Frame.{Frame}

-- every frame of a list can be written, each field over its width
abbrev pub AllFit : List Frame → Type 0
AllFit [] = Unit {0}
AllFit (f ∷ fs) = Fits f × AllFit fs

-- proved by `language` of proofs/Lines.antt
pub record Language : Type 0 where
  -- a line reads as a frame exactly where that frame fits and the line is its line
  pub exactly : (line : List ℕ) (f : Frame) → (frame_of line ≡ Some f) ↔ (Fits f × (line_of f ≡ line))
  -- it reads as no frame exactly where it is the line of none that fits
  pub bad_exactly : (line : List ℕ) → (frame_of line ≡ None) ↔ ((f : Frame) → Fits f → line_of f ≡ line → ⊥)
  -- two frames that fit and have one line are the same frame
  pub one_line : (f g : Frame) → Fits f → Fits g → line_of f ≡ line_of g → f ≡ g
  -- the line of a frame that fits has as many bytes as its kind says
  pub long : (f : Frame) → Fits f → length (line_of f) ≡ line_length (kind_of f)
  -- all of them are lower-case hexadecimal digits, so that none is a line feed
  pub digits : (f : Frame) → are_digits (line_of f) ≡ true
  pub no_feed : (f : Frame) (i : ℕ) → i < length (line_of f) → get_or (line_of f) i 0 ≡ 10 → ⊥
  -- a line that is longer than a head's is no frame
  pub too_long_lem : (line : List ℕ) → longest_line < length line → frame_of line ≡ None
