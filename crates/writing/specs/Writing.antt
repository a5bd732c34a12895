-- Writing gives the head, with its update period and with the number of the first kept reference, one S line for each used run with t on the first only, and the end with the
-- number of S lines. It is refused where record and table disagree, where no run is kept, and where the output is shorter than the whole file: then
-- no byte changes. Paper: The file; Refusal numbers, 2, 12 and 15.
use Rattle.std.specs.Prelude.{Result, Err, Ok, ℕ, ◌+◌, ◌-◌, List, [], ◌∷◌, ◌++◌, eqb, leb, length, drop}
use Rattle.window.specs.declared.Head.{Head}
use Rattle.window.specs.Limits.{fields_of}
use Rattle.window.specs.declared.Reference.{Reference}
use Rattle.runs.specs.declared.Run.{Run}
use Rattle.runs.specs.Encoding.{encode, runs_for}
use Rattle.agreement.specs.declared.Record.{Record}
use Rattle.agreement.specs.declared.refusal.Refusal.{Refusal}
use Rattle.agreement.specs.declared.refusal.Refusal.TheVariants.{Disagreement, NothingKept, ShortOutput}
use Rattle.agreement.specs.Agreement.{kept, agrees}
use Rattle.agreement.specs.Rows.{◌unless◌else◌, ◌when◌else◌}
use Rattle.frames.specs.declared.Frame.{Frame}
use Rattle.frames.specs.declared.Frame.TheVariants.{Head as HeadFrame, S, End}
use Rattle.frames.specs.Fields.{all_ones}
use Rattle.frames.specs.Frames.{head_line, ended_line}

-- a head whose first reference has another number
abbrev pub with_first : Head → ℕ → Head
with_first h n =
    record { timescale = h.timescale; offset = h.offset; start = h.start; duration = h.duration; depth = h.depth; first = record { 0 = n }; update = h.update }

-- the S line of a run: r is one less than its count
abbrev pub s_frame : ℕ → Run → Frame
s_frame t r = S (record { t = record { 0 = t }; d = r.span.0; r = r.count - 1 })

unfoldable pub later_frames : List Run → List Frame
later_frames [] = []
later_frames (r ∷ rs) = s_frame all_ones r ∷ later_frames rs

unfoldable pub s_frames : List Run → List Frame
s_frames [] = []
s_frames (r ∷ rs) = s_frame r.start.0 r ∷ later_frames rs

-- frames, each on a line of its own
unfoldable pub bytes_of : List Frame → List ℕ
bytes_of [] = []
bytes_of (f ∷ fs) = ended_line f ++ bytes_of fs

-- the head line that is written has the update period, also where a line without one was read
abbrev pub head_frame : Head → Frame
head_frame h = HeadFrame (head_line (fields_of h))

-- the file of references under a head, which has the number of the first
unfoldable pub file_of : Head → List Reference → List ℕ
file_of h rs = bytes_of (head_frame h ∷ s_frames (encode rs) ++ End (runs_for rs) ∷ [])

-- the file of what record and table keep: the first kept reference has the first number plus those dropped
abbrev pub kept_head : Record → Head
kept_head rec = with_first rec.head (rec.head.first.0 + rec.dropped)

abbrev pub file_for : Record → List ℕ → List ℕ
file_for rec ws = file_of (kept_head rec) (kept rec ws)

unfoldable pub write_answer : Record → List ℕ → ℕ → Result ℕ Refusal
write_answer rec ws room =
    Err Disagreement unless agrees rec ws else
    Err NothingKept when eqb rec.used 0 else
    Err ShortOutput unless leb (length (file_for rec ws)) room else
    Ok (length (file_for rec ws))

-- what stands behind the file stays as it came, and all of it where nothing is written
unfoldable pub output_by : Result ℕ Refusal → List ℕ → List ℕ → List ℕ
output_by (Ok n) bytes out = bytes ++ drop n out
output_by (Err why) bytes out = out

-- the record that a written file reads back as: the same references under the same numbers, none of them dropped, at clock 0
abbrev pub read_back : Record → List ℕ → Record
read_back rec ws =
    record {
      head = kept_head rec;
      accepted = length (kept rec ws);
      dropped = 0;
      next = rec.next;
      clock = record { 0 = 0 };
      used = rec.used;
    }
