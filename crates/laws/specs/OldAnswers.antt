-- The old answers stand. Before there was an update period the window ended at the clock, a head had six fields, and a head line was of kind 01. Below,
-- what each answer was then is stated once more. With an update period of 0 it is that still: what is needed and what is spent, the verdict, the covered
-- edge, and which heads are within their limits. A file in which no line is a head with an update period is read as it was. What is written differs
-- in its first line alone: that is of kind 05, and has the update period behind the older fields, so that a file takes 16 bytes more.
-- Paper: Window, needed, spent; The file; Refusal numbers, 15.
use Rattle.agreement.specs.Numbers.{answer_number}
use Rattle.std.specs.Prelude.{Err, Ok, Option, Result, Some, None, ℕ, ◌+◌, ◌≤◌, ◌≡◌, Bool, false, cond, ◌&&◌, List, [], ◌∷◌, ◌++◌, map, eqb, leb, pos, length, get_or, drop}
use Rattle.std.specs.Int.Signed.{le_z}
use Rattle.units.specs.Exactly.{ExactlyWhen}
use Rattle.units.specs.declared.WideMillis.{WideMillis}
use Rattle.units.specs.Limits.{largest_millis, tick_held, millis_held, timescale_held, number_held, clock_held}
use Rattle.hexdigits.specs.Ascii.{ascii}
use Rattle.hexdigits.specs.Digits.{are_digits}
use Rattle.window.specs.declared.Head.{Head}
use Rattle.window.specs.declared.Reference.{Reference}
use Rattle.window.specs.Limits.{head_held, fields_of}
use Rattle.window.specs.Place.{place, moment, cut_to_end}
use Rattle.window.specs.Window.{Stretch, overlaps, low_edge, window_at, cut_span, needed, Spent}
use Rattle.runs.specs.Encoding.{encode, runs_for}
use Rattle.agreement.specs.declared.Record.{Record}
use Rattle.agreement.specs.declared.refusal.Refusal.TheVariants.{Disagreement, ClockLimit, EarlierClock, NothingKept, ShortOutput}
use Rattle.agreement.specs.Agreement.{agrees, kept}
use Rattle.agreement.specs.Rows.{◌unless◌else◌, ◌when◌else◌}
use Rattle.answers.specs.declared.Verdict.{Verdict}
use Rattle.agreement.specs.declared.refusal.Refusal.{Refusal}
use Rattle.units.specs.declared.Millis.{Millis}
use Rattle.answers.specs.Judgement.{verdict_of, verdict_at}
use Rattle.answers.specs.Edge.{latest_upto, covered_edge}
use Rattle.frames.specs.declared.Frame.{Frame}
use Rattle.frames.specs.declared.Frame.TheVariants.{Head as HeadFrame, S, End, Clock}
use Rattle.frames.specs.Fields.{digit_count, field_values}
use Rattle.frames.specs.Frames.{head_from, kind_of, kind_at, line_of, ended_line, frame_of}
use Rattle.file.specs.Lines.{lines_of, rest_of}
use Rattle.writing.specs.Writing.{s_frames, bytes_of, head_frame, file_of, kept_head, write_answer}
use Rattle.laws.specs.ByHand.{full}
use Rattle.laws.specs.Lines.{FileResult, judged, beginning, judged_file}

-- ---- the window and what is told from it, as it was

-- the window that ends at the clock, or at the period end
abbrev pub old_window : Head → ℕ → Stretch
old_window h c = record { from = low_edge h c; to = cut_to_end h (moment h (pos c)) }

abbrev pub old_needed : Head → Reference → ℕ → Bool
old_needed h r c = overlaps (cut_span h r) (old_window h c)

abbrev pub OldSpent : Head → Reference → ℕ → Type 0
OldSpent h r c = (later_clock : ℕ) → c ≤ later_clock → old_needed h r later_clock ≡ false

abbrev pub old_verdict : Record → List ℕ → WideMillis → Result Verdict Refusal
old_verdict rec ws c =
    Err Disagreement unless agrees rec ws else
    Err ClockLimit unless clock_held c else
    Err EarlierClock unless leb rec.clock.0 c.0 else
    Ok (verdict_of rec.head (old_window rec.head c.0) (kept rec ws))

abbrev pub old_edge : Record → List ℕ → Result (Option Millis) Refusal
old_edge rec ws =
    Err Disagreement unless agrees rec ws else
    Ok (latest_upto (λ c. le_z (old_window rec.head c).to (place rec.head rec.next.0)) largest_millis)

-- the limits of the six fields
abbrev pub old_held : Head → Bool
old_held h =
    timescale_held h.timescale && tick_held h.offset && millis_held h.start && millis_held h.duration && millis_held h.depth &&
    number_held h.first

-- ---- a file, as it was

-- the four kinds of line, and the frame of a line by them
abbrev pub old_widths : ℕ → List ℕ
old_widths k =
    cond (eqb k 1)
    (4 ∷ 8 ∷ 8 ∷ 8 ∷ 8 ∷ 4 ∷ [])
    (cond (eqb k 2) (8 ∷ 4 ∷ 4 ∷ []) (cond (eqb k 3) (4 ∷ []) (cond (eqb k 4) (8 ∷ []) [])))

abbrev pub old_from : ℕ → List ℕ → Option Frame
old_from k vs =
    cond (eqb k 1)
    (Some (head_from vs None))
    (cond (eqb k 2)
    (Some (S (record { t = record { 0 = get_or vs 0 0 }; d = get_or vs 1 0; r = get_or vs 2 0 })))
    (cond (eqb k 3) (Some (End (get_or vs 0 0))) (cond (eqb k 4) (Some (Clock (record { 0 = get_or vs 0 0 }))) None)))

abbrev pub old_frame : List ℕ → Option Frame
old_frame line =
    let k = kind_at line in
    cond (are_digits line)
    (cond (eqb (length line) (digit_count (1 ∷ old_widths k))) (old_from k (field_values (old_widths k) (drop 2 line))) None)
    None

-- what reading came to: every line judged as in `Lines`, each being the frame that it was
abbrev pub old_file : List ℕ → List ℕ → FileResult
old_file bytes came = judged came (beginning came) 1 (map old_frame (lines_of bytes)) (rest_of bytes)

-- the kind of a line's frame; a line that is none has 0, which no kind has
abbrev pub kind_read : Option Frame → ℕ
kind_read (Some f) = kind_of f
kind_read None = 0

-- no line is a head with an update period
abbrev pub NoUpdate : List (List ℕ) → Type 0
NoUpdate [] = Unit {0}
NoUpdate (l ∷ ls) = (kind_read (frame_of l) ≡ 5 → ⊥) × NoUpdate ls

-- the file that was written: its head line had six fields
abbrev pub old_head_frame : Head → Frame
old_head_frame h =
    let f = fields_of h in
    HeadFrame
    (record {
      timescale = f.timescale;
      offset = f.offset;
      start = f.start;
      duration = f.duration;
      depth = f.depth;
      first = f.first;
      update = None;
    })

abbrev pub old_file_of : Head → List Reference → List ℕ
old_file_of h rs = bytes_of (old_head_frame h ∷ s_frames (encode rs) ++ End (runs_for rs) ∷ [])

abbrev pub old_written : Record → List ℕ → ℕ → Result ℕ Refusal
old_written rec ws room =
    let n = length (old_file_of (kept_head rec) (kept rec ws)) in
    Err Disagreement unless agrees rec ws else
    Err NothingKept when eqb rec.used 0 else
    Err ShortOutput unless leb n room else
    Ok n

-- a file that shows why a line of kind 05 is left out: such a line behind a head of kind 01
abbrev pub two_heads : List ℕ
two_heads =
    ascii "01000003e8000000000000000000000000000000000000000000000000000000000000271000000003" ++
    10 ∷
    ascii "05000003e80000000000000000000000000000000000000000000000000000000000002710000000030000000000000000" ++
    10 ∷
    []

pub record OldAnswersStand : Type 0 where
  -- an update period of 0
  pub window : (h : Head) (c : ℕ) → h.update.0 ≡ 0 → window_at h c ≡ old_window h c
  pub needs : (h : Head) (r : Reference) (c : ℕ) → h.update.0 ≡ 0 → needed h r c ≡ old_needed h r c
  pub spent : (h : Head) (r : Reference) (c : ℕ) → h.update.0 ≡ 0 → ExactlyWhen (Spent h r c) (OldSpent h r c)
  -- refused ones too: any record, any table, any clock
  pub verdict : (rec : Record) (ws : List ℕ) (c : WideMillis) → rec.head.update.0 ≡ 0 → verdict_at rec ws c ≡ old_verdict rec ws c
  pub edge : (rec : Record) (ws : List ℕ) → rec.head.update.0 ≡ 0 → covered_edge rec ws ≡ old_edge rec ws
  pub held : (h : Head) → h.update.0 ≡ 0 → head_held h ≡ old_held h
  -- a line that is no head with an update period, and a file of such lines: number, line, record and table (`ReadingRight`) are what they were
  pub line : (line : List ℕ) → (kind_read (frame_of line) ≡ 5 → ⊥) → frame_of line ≡ old_frame line
  pub file : (bytes came : List ℕ) → NoUpdate (lines_of bytes) → judged_file bytes came ≡ old_file bytes came
  -- where there is one it may be refused with another number: it was 16, no known kind, and is 17, a second head
  pub second_head : (judged_file two_heads (full 3)).number ≡ 17
  pub second_line : (judged_file two_heads (full 3)).line ≡ 2
  pub old_second_head : (old_file two_heads (full 3)).number ≡ 16
  pub old_second_line : (old_file two_heads (full 3)).line ≡ 2
  -- behind the head lines a written file is what it was
  pub written : (h : Head) (rs : List Reference) →
      (rest : List ℕ) × (file_of h rs ≡ ended_line (head_frame h) ++ rest) × (old_file_of h rs ≡ ended_line (old_head_frame h) ++ rest)
  -- the head line is of another kind and has the update period behind, which is 0 here
  pub head_line_lem : (h : Head) → h.update.0 ≡ 0 →
      line_of (head_frame h) ≡ ascii "05" ++ drop 2 (line_of (old_head_frame h)) ++ ascii "0000000000000000"
  -- so a file has 16 bytes more, and 15 is answered up to an output that is longer by so many
  pub longer : (h : Head) (rs : List Reference) → length (file_of h rs) ≡ length (old_file_of h rs) + 16
  pub short : (rec : Record) (ws : List ℕ) (room : ℕ) → answer_number (write_answer rec ws (room + 16)) ≡ answer_number (old_written rec ws room)
