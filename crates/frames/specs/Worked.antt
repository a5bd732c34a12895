-- The whole file of case B after its trim at 18,000, line by line: each line is the frame that the paper means by it.
-- Paper: The file; By hand, B.
use Rattle.std.specs.Prelude.{◌≡◌, refl, ℕ, Some, None}
use Rattle.hexdigits.specs.Ascii.{ascii}
use Rattle.hexdigits.specs.Digits.{between, is_digit, value_of, are_digits, number_of}
use Rattle.window.specs.declared.HeadFields.{HeadFields}
use Rattle.frames.specs.Fields.{field_values}
use Rattle.frames.specs.Frames.{line_length, head_line, frame_as, frame_of}
use Rattle.frames.specs.declared.Frame.TheVariants.{Head as HeadFrame, S, End}

-- the head fields of case B, where the first reference has number n
abbrev pub fields_b : ℕ → HeadFields
fields_b n = record { timescale = 1000; offset = 0; start = 0; duration = 0; depth = 10_000; first = n; update = 0 }

pub record CaseB : Type 0 where
  pub head_length : line_length 1 ≡ 82
  pub update_length : line_length 5 ≡ 98
  pub head :
      frame_of (ascii "05000003e80000000000000000000000000000000000000000000000000000000000002710000000030000000000000000") ≡
      Some (HeadFrame (head_line (fields_b 3)))
  -- the same head without its update period: a frame of kind 01, whose fields are the same
  pub older :
      frame_of (ascii "01000003e8000000000000000000000000000000000000000000000000000000000000271000000003") ≡
      Some (HeadFrame (record { timescale = 1000; offset = 0; start = 0; duration = 0; depth = 10_000; first = 3; update = None }))
  -- a line of one kind with the length of the other is no frame
  pub older_long :
      frame_of (ascii "01000003e80000000000000000000000000000000000000000000000000000000000002710000000030000000000000000") ≡ None
  pub short :
      frame_of (ascii "05000003e8000000000000000000000000000000000000000000000000000000000000271000000003") ≡ None
  pub s :
      frame_of (ascii "020000000000001f4000000fa000000002") ≡
      Some (S (record { t = record { 0 = 8000 }; d = 4000; r = 2 }))
  pub end : frame_of (ascii "0300000001") ≡ Some (End 1)

pub case_b : CaseB
unfolding frame_of frame_as field_values are_digits number_of value_of is_digit between ascii
case_b = record { head_length = refl; update_length = refl; head = refl; older = refl; older_long = refl; short = refl; s = refl; end = refl }
