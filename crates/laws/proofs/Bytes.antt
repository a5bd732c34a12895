-- Bytes and frames: the lines of written frames are those frames again, and bytes whose lines are all frames, with nothing behind the last feed, are
-- the written ones of those frames.
use mathlib.Core.Path.{◌≡◌, refl, sym, ap, ap₂, ◌∙◌}
use mathlib.Core.List.{List, [], ◌∷◌, ◌++◌, map, append-nil}
use Prim.Native.Nat.{ℕ}
use Rattle.std.specs.Prelude.{Option, Some}
use Rattle.frames.specs.declared.Frame.{Frame}
use Rattle.frames.specs.Language.{AllFit}
use Rattle.frames.specs.Frames.{line_of, frame_of}
use Rattle.frames.proofs.Lines.{frame_written_read, line_read_written, read_fits}
use Rattle.file.specs.Lines.{line_feed, lines_from, lines_of, rest_of, ended}
use Rattle.file.specs.Sound.{Narrow}
use Rattle.file.proofs.Cutting.{line_next, lines_joined}
use Rattle.file.proofs.Places.{narrow}
use Rattle.writing.specs.Writing.{bytes_of}
use Rattle.writing.proofs.Back.{unended_line, ended_before}

pub frames_again : (fs : List Frame) → AllFit fs → map frame_of (lines_of (bytes_of fs)) ≡ map Some fs
unfolding bytes_of lines_from
frames_again [] a = refl
frames_again (f ∷ fs) a =
    ap (λ bs. map frame_of (lines_of bs)) (ended_before f (bytes_of fs)) ∙
    ap (map frame_of) (line_next [] (line_of f) (bytes_of fs) (unended_line f)) ∙
    ap₂ ◌∷◌ (frame_written_read f a.0) (frames_again fs a.1)

abbrev pub AllNarrow : List (Option Frame) → Type 0
AllNarrow [] = Unit {0}
AllNarrow (f ∷ fs) = Narrow f × AllNarrow fs

pub all_narrow : (ls : List (List ℕ)) → AllNarrow (map frame_of ls)
all_narrow [] = tt
all_narrow (l ∷ ls) = (narrow l (frame_of l) refl, all_narrow ls)

-- lines that are read as these frames are the written ones of them
lines_again : (ls : List (List ℕ)) (fs : List Frame) → map frame_of ls ≡ map Some fs → (ended ls ≡ bytes_of fs) × AllFit fs
unfolding bytes_of
lines_again [] [] e = (refl, tt)
lines_again [] (f ∷ fs) e = absurd (cc)
lines_again (l ∷ ls) [] e = absurd (cc)
lines_again (l ∷ ls) (f ∷ fs) e =
    let first : frame_of l ≡ Some f = cc in
    let others : map frame_of ls ≡ map Some fs = cc in
    let more = lines_again ls fs others in (
      ap₂ (λ b bs. b ++ line_feed ∷ bs) (sym (line_read_written l f first)) more.0 ∙ sym (ended_before f (bytes_of fs)),
      (read_fits l f first, more.1),
    )

pub bytes_again : (bytes : List ℕ) (fs : List Frame) → rest_of bytes ≡ [] → map frame_of (lines_of bytes) ≡ map Some fs →
    (bytes ≡ bytes_of fs) × AllFit fs
bytes_again bytes fs e k =
    let more = lines_again (lines_of bytes) fs k in
    (sym (lines_joined [] bytes) ∙ ap (λ bs. ended (lines_of bytes) ++ bs) e ∙ append-nil (ended (lines_of bytes)) ∙ more.0, more.1)
