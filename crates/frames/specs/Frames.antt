-- A line of the file is one frame: the byte of its kind, then the fields of that kind over the widths of the paper's table,
-- and a line feed after it. A line that is too short or too long for its kind, is not of lower-case hexadecimal digits, or is
-- of no known kind, is no frame. A head is of kind 01, without an update period, or of kind 05, with one. Paper: The file.
use Rattle.std.specs.Prelude.{◌≡◌, cond, List, [], ◌∷◌, ◌++◌, ℕ, ◌+◌, eqb, length, get_or, take, drop, Option, Some, None}
use Rattle.hexdigits.specs.Digits.{are_digits, number_of}
use Rattle.frames.specs.Fields.{digit_count, field_digits, field_values, Fit}
use Rattle.window.specs.declared.HeadFields.{HeadFields}
use Rattle.frames.specs.declared.HeadLine.{HeadLine}
use Rattle.frames.specs.declared.Frame.{Frame}
use Rattle.frames.specs.declared.Frame.TheVariants.{Head, S, End, Clock}
use Rattle.frames.specs.declared.kinds.Kind.{Kind}
use Rattle.frames.specs.declared.kinds.Kind.TheVariants.{OlderHead, Head as HeadKind, S as SKind, End as EndKind, Clock as ClockKind}

-- the table: the widths of the fields of each kind
abbrev pub widths_of : ℕ → List ℕ
widths_of k =
    cond (eqb k 1) (4 ∷ 8 ∷ 8 ∷ 8 ∷ 8 ∷ 4 ∷ [])
    (cond (eqb k 2)
    (8 ∷ 4 ∷ 4 ∷ [])
    (cond (eqb k 3) (4 ∷ []) (cond (eqb k 4) (8 ∷ []) (cond (eqb k 5) (4 ∷ 8 ∷ 8 ∷ 8 ∷ 8 ∷ 4 ∷ 8 ∷ []) []))))

-- the same with the byte of the kind itself in front, and how many digits a line of this kind has
abbrev pub line_widths : ℕ → List ℕ
line_widths k = 1 ∷ widths_of k

abbrev pub line_length : ℕ → ℕ
line_length k = digit_count (line_widths k)

-- and how many bytes, with its line feed
abbrev pub ended_length : ℕ → ℕ
ended_length k = line_length k + 1

-- no line of a known kind is longer than a head with an update period
abbrev pub longest_line : ℕ
longest_line = line_length 5

-- the byte of each kind, and the kind that a byte names
abbrev pub kind_number : Kind → ℕ
kind_number OlderHead = 1
kind_number SKind = 2
kind_number EndKind = 3
kind_number ClockKind = 4
kind_number HeadKind = 5

abbrev pub kind_numbered : ℕ → Option Kind
kind_numbered k =
    cond (eqb k 1)
    (Some OlderHead)
    (cond (eqb k 2) (Some SKind) (cond (eqb k 3) (Some EndKind) (cond (eqb k 4) (Some ClockKind) (cond (eqb k 5) (Some HeadKind) None))))

-- whether a head has its update period says its kind, and one field more
abbrev pub head_kind : Option ℕ → ℕ
head_kind None = 1
head_kind (Some u) = 5

abbrev pub update_values : Option ℕ → List ℕ
update_values None = []
update_values (Some u) = u ∷ []

-- the kind and the fields of a frame
abbrev pub kind_of : Frame → ℕ
kind_of (Head h) = head_kind h.update
kind_of (S s) = 2
kind_of (End n) = 3
kind_of (Clock c) = 4

abbrev pub values_of : Frame → List ℕ
values_of (Head h) = h.timescale ∷ h.offset ∷ h.start ∷ h.duration ∷ h.depth ∷ h.first ∷ update_values h.update
values_of (S s) = s.t.0 ∷ s.d ∷ s.r ∷ []
values_of (End n) = n ∷ []
values_of (Clock c) = c.0 ∷ []

abbrev pub head_from : List ℕ → Option ℕ → Frame
head_from vs u =
    Head
    (record {
      timescale = get_or vs 0 0;
      offset = get_or vs 1 0;
      start = get_or vs 2 0;
      duration = get_or vs 3 0;
      depth = get_or vs 4 0;
      first = get_or vs 5 0;
      update = u;
    })

-- the frame of a kind and its fields; there is none of an unknown kind
abbrev pub frame_from : ℕ → List ℕ → Option Frame
frame_from k vs =
    cond (eqb k 1)
    (Some (head_from vs None))
    (cond (eqb k 2)
    (Some (S (record { t = record { 0 = get_or vs 0 0 }; d = get_or vs 1 0; r = get_or vs 2 0 })))
    (cond (eqb k 3)
    (Some (End (get_or vs 0 0)))
    (cond (eqb k 4) (Some (Clock (record { 0 = get_or vs 0 0 }))) (cond (eqb k 5) (Some (head_from vs (Some (get_or vs 6 0)))) None))))

-- the fields of a head that a line has: an update period that is absent is 0
abbrev pub update_in : Option ℕ → ℕ
update_in None = 0
update_in (Some u) = u

abbrev pub fields_in : HeadLine → HeadFields
fields_in h =
    record {
      timescale = h.timescale;
      offset = h.offset;
      start = h.start;
      duration = h.duration;
      depth = h.depth;
      first = h.first;
      update = update_in h.update;
    }

-- and the line that is written of them: it always has the update period
abbrev pub head_line : HeadFields → HeadLine
head_line f =
    record {
      timescale = f.timescale;
      offset = f.offset;
      start = f.start;
      duration = f.duration;
      depth = f.depth;
      first = f.first;
      update = Some f.update;
    }

-- a frame whose fields can be written over their widths
pub record Fits (f : Frame) : Type 0 where
  pub fields : Fit (widths_of (kind_of f)) (values_of f)

-- the line of a frame, and with its line feed
unfoldable pub line_of : Frame → List ℕ
line_of f = field_digits (line_widths (kind_of f)) (kind_of f ∷ values_of f)

unfoldable pub ended_line : Frame → List ℕ
ended_line f = line_of f ++ (10 ∷ [])

-- what writing a frame leaves of an output: the line and its feed in front, the rest as it came; and the length written
pub record Written (f : Frame) (before after : List ℕ) (n : ℕ) : Type 0 where
  pub long : n ≡ ended_length (kind_of f)
  pub bytes : after ≡ ended_line f ++ drop (ended_length (kind_of f)) before

-- a line taken for one of kind k: the frame of the values after its first byte
unfoldable pub frame_as : ℕ → List ℕ → Option Frame
frame_as k line = frame_from k (field_values (widths_of k) (drop 2 line))

-- what frame a line is: its first byte says its kind, and the kind its length and its fields. So it is exactly the frame that
-- fits and has this line: `Language`
abbrev pub kind_at : List ℕ → ℕ
kind_at line = number_of (take 2 line)

unfoldable pub frame_of : List ℕ → Option Frame
frame_of line =
    cond (are_digits line)
    (cond (eqb (length line) (line_length (kind_at line))) (frame_as (kind_at line) line) None)
    None
