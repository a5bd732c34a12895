-- The whole file of case B after its trim at 18,000: it is the file of what is kept then, byte for byte. (The file; By hand, B)
use Rattle.std.specs.Prelude.{◌≡◌, refl, [], ◌∷◌, ◌++◌}
use Rattle.hexdigits.specs.Digits.{digits_of, digit_of}
use Rattle.hexdigits.specs.Ascii.{ascii}
use Rattle.window.specs.Limits.{head_of}
use Rattle.runs.specs.Words.{repeated}
use Rattle.runs.specs.Encoding.{push, encode}
use Rattle.frames.specs.Fields.{field_digits}
use Rattle.frames.specs.Frames.{line_of, ended_line}
use Rattle.frames.specs.Worked.{fields_b}
use Rattle.writing.specs.Writing.{later_frames, s_frames, bytes_of, file_of}

pub record CaseB : Type 0 where
  pub file :
      file_of (head_of (fields_b 3)) (repeated 8000 4000 3) ≡
      ascii "05000003e80000000000000000000000000000000000000000000000000000000000002710000000030000000000000000" ++
      10 ∷
      ascii "020000000000001f4000000fa000000002" ++
      10 ∷
      ascii "0300000001" ++
      10 ∷
      []

pub case_b : CaseB
unfolding file_of bytes_of s_frames later_frames encode push repeated ended_line line_of field_digits digits_of digit_of ascii
case_b = record { file = refl }
