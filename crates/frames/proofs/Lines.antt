-- A line and its frame: a fitting frame written then read is the same frame, a line that is a frame read then written is the
-- same line, and two fitting frames with one line are equal. They follow from the laws on rows of widths whatever the kinds
-- are.
use mathlib.Core.Path.{◌≡◌, refl, sym, ◌∙◌, ap, ap₂}
use mathlib.Core.Logic.{◌↔◌}
use mathlib.Core.Bool.{Bool, true, false, false≢true}
use mathlib.Core.List.{List, [], ◌∷◌}
use Prim.Native.Nat.{ℕ, ◌+◌, ◌≤◌, ◌<◌}
use native.Mathlib.Omega.{arith}
use borrow.Author.Tests.{eq-eqb, eqb-true}
use lib.Dec.{eqb}
use Rattle.std.specs.Prelude.{Option, Some, None}
use lib.ListN.{length, get_or, drop, length-append}
use Rattle.hexdigits.specs.Digits.{between, is_digit, are_digits}
use Rattle.hexdigits.proofs.Widths.{digit_at}
use Rattle.frames.specs.Fields.{field_digits, field_values, Fit}
use Rattle.frames.specs.Frames.{widths_of, line_widths, line_length, ended_length, longest_line, kind_of, values_of, frame_from, Fits, line_of, ended_line, kind_at, frame_as, frame_of}
use Rattle.frames.specs.Language.{Language}
use Rattle.frames.specs.declared.Frame.{Frame}
use Rattle.frames.proofs.Cases.{from_frame, kind_below, kind_from, length_within, values_from}
use Rattle.frames.proofs.Rows.{fit_length, length_values, length_fields, fields_are_digits, fields_read_fit, fields_written_read, fields_read_written}

line_digits : (f : Frame) → are_digits (line_of f) ≡ true
unfolding line_of
line_digits f = fields_are_digits (line_widths (kind_of f)) (kind_of f ∷ values_of f)

-- no line feed stands in a line
pub no_feed : (f : Frame) (i : ℕ) → i < length (line_of f) → get_or (line_of f) i 0 ≡ 10 → ⊥
unfolding is_digit between
no_feed f i h e = false≢true (ap is_digit (sym e) ∙ digit_at (line_of f) i (line_digits f) h)

module _ (f : Frame) (h : Fits f) where
  whole_fits : Fit (line_widths (kind_of f)) (kind_of f ∷ values_of f)
  whole_fits = (kind_below f, h.fields)

  pub length_line : length (line_of f) ≡ line_length (kind_of f)
  unfolding line_of
  length_line =
      length_fields (line_widths (kind_of f)) (kind_of f ∷ values_of f)
      (fit_length (line_widths (kind_of f)) (kind_of f ∷ values_of f) whole_fits)

  pub length_ended : length (ended_line f) ≡ ended_length (kind_of f)
  unfolding ended_line
  length_ended = length-append (line_of f) (10 ∷ []) ∙ ap (λ (n : ℕ). n + 1) length_line

  read_back_lem : kind_at (line_of f) ∷ field_values (widths_of (kind_of f)) (drop 2 (line_of f)) ≡ kind_of f ∷ values_of f
  unfolding line_of field_values
  read_back_lem = fields_written_read (line_widths (kind_of f)) (kind_of f ∷ values_of f) whole_fits

  same_kind : kind_at (line_of f) ≡ kind_of f
  same_kind = let e = read_back_lem in cc

  same_values : field_values (widths_of (kind_of f)) (drop 2 (line_of f)) ≡ values_of f
  same_values = let e = read_back_lem in cc

  -- written then read is the same frame
  pub frame_written_read : frame_of (line_of f) ≡ Some f
  unfolding frame_of frame_as
  frame_written_read =
      simp (
        line_digits f,
        eq-eqb (length (line_of f)) (line_length (kind_at (line_of f))) (length_line ∙ ap line_length (sym same_kind)),
      )
      (ap (λ (k : ℕ). frame_as k (line_of f)) same_kind ∙ ap (frame_from (kind_of f)) same_values ∙ from_frame f)

-- what is known of a line that is a frame
record IsLine (line : List ℕ) (f : Frame) : Type 0 where
  digits : are_digits line ≡ true
  long : length line ≡ line_length (kind_at line)
  frame : frame_as (kind_at line) line ≡ Some f

is_line : (line : List ℕ) (f : Frame) → frame_of line ≡ Some f → IsLine line f
unfolding frame_of
is_line line f h = go (are_digits line) refl (eqb (length line) (line_length (kind_at line))) refl
  where
    none : None ≡ Some f → IsLine line f
    none e = absurd (cc)

    go : (a : Bool) → are_digits line ≡ a → (b : Bool) → eqb (length line) (line_length (kind_at line)) ≡ b → IsLine line f
    go true d true l = record { digits = d; long = eqb-true (length line) (line_length (kind_at line)) l; frame = simp (d, l) at h }
    go true d false l = none (simp (d, l) at h)
    go false d b l = none (simp d at h)

-- the kind and the values that a line is read into are those of its frame
module _ (line : List ℕ) (f : Frame) (h : frame_of line ≡ Some f) where
  read_values : List ℕ
  read_values = field_values (widths_of (kind_at line)) (drop 2 line)

  made : frame_from (kind_at line) read_values ≡ Some f
  unfolding frame_as read_values
  made = (is_line line f h).frame

  kind_read : kind_of f ≡ kind_at line
  kind_read = kind_from (kind_at line) read_values f made

  values_read : values_of f ≡ read_values
  unfolding read_values
  values_read = values_from (kind_at line) read_values f made (length_values (widths_of (kind_at line)) (drop 2 line))

  length_read : length line ≤ longest_line
  length_read = omega (arith, (is_line line f h).long, length_within (kind_at line) read_values f made)

  -- read then written is the same line
  pub line_read_written : line_of f ≡ line
  unfolding line_of field_values read_values
  line_read_written =
      ap₂ (λ (k : ℕ) (vs : List ℕ). field_digits (line_widths k) (k ∷ vs)) kind_read values_read ∙
      fields_read_written (line_widths (kind_at line)) line (is_line line f h).digits (is_line line f h).long

  -- and the frame fits
  pub read_fits : Fits f
  unfolding read_values
  read_fits = record { fields = rw (kind_read, values_read) (fields_read_fit (widths_of (kind_at line)) (drop 2 line)) }

-- a line is the frame f exactly if f fits and this is its line
pub exactly : (line : List ℕ) (f : Frame) → (frame_of line ≡ Some f) ↔ (Fits f × (line_of f ≡ line))
exactly line f = (λ h. (read_fits line f h, line_read_written line f h), λ w. ap frame_of (sym w.1) ∙ frame_written_read f w.0)

-- a line is no frame exactly if no frame can be read from it
none_read : (line : List ℕ) → ((f : Frame) → frame_of line ≡ Some f → ⊥) → frame_of line ≡ None
none_read line n = go (frame_of line) refl
  where
    go : (o : Option Frame) → frame_of line ≡ o → frame_of line ≡ None
    go (Some f) e = absurd (n f e)
    go None e = e

-- a line longer than every kind's is no frame
pub too_long_lem : (line : List ℕ) → longest_line < length line → frame_of line ≡ None
too_long_lem line h = none_read line (λ f e. omega (arith, length_read line f e))

-- a line is no frame exactly if it is no fitting frame's
pub bad_exactly : (line : List ℕ) → (frame_of line ≡ None) ↔ ((f : Frame) → Fits f → line_of f ≡ line → ⊥)
bad_exactly line = (only, λ n. none_read line (λ f e. n f (read_fits line f e) (line_read_written line f e)))
  where
    only : frame_of line ≡ None → (f : Frame) → Fits f → line_of f ≡ line → ⊥
    only e f h l = let s : frame_of line ≡ Some f = (exactly line f).1 (h, l) in cc

-- two fitting frames with one line are equal
pub one_line : (f g : Frame) → Fits f → Fits g → line_of f ≡ line_of g → f ≡ g
one_line f g h k e = let s : Some f ≡ Some g = sym (frame_written_read f h) ∙ ap frame_of e ∙ frame_written_read g k in cc

-- ---- the statement

pub language : Language
language =
    record {
      exactly = exactly;
      bad_exactly = bad_exactly;
      one_line = one_line;
      long = length_line;
      digits = line_digits;
      no_feed = no_feed;
      too_long_lem = too_long_lem;
    }
