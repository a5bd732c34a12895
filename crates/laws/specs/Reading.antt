-- Reading, apart from the reader. A file is accepted exactly when its bytes are the lines of one head, one or more S and one end with their number, a
-- negative r stands on the last S only, and the opening and every append that the S lines stand for are accepted. Reading is then just that opening
-- and those appends. In every case the number, the line, the distance, the record and the table are those that the rows of Lines give.
-- Paper: The file; Refusal numbers.
use Rattle.std.specs.Prelude.{Ok, ℕ, ◌+◌, ◌^◌, ◌≤◌, ◌<◌, ◌≡◌, List, [], ◌∷◌, ◌++◌, map, length}
use Rattle.units.specs.Exactly.{ExactlyWhen}
use Rattle.window.specs.Ticks.{LeastCount}
use Rattle.window.specs.declared.Head.{Head}
use Rattle.agreement.specs.Numbers.{answer_distance, answer_number}
use Rattle.timeline.specs.Opening.{open_answer}
use Rattle.frames.specs.declared.Frame.{Frame}
use Rattle.frames.specs.declared.Frame.TheVariants.{Head as HeadFrame, S, End}
use Rattle.frames.specs.declared.HeadLine.{HeadLine}
use Rattle.frames.specs.declared.SFields.{SFields}
use Rattle.frames.specs.Language.{AllFit}
use Rattle.file.specs.Judging.{head_in, read_answer, read_table}
use Rattle.writing.specs.Writing.{bytes_of}
use Rattle.laws.specs.Calls.{Call, by_tick, Plain, State, opening, after, after_calls, outcome_of, all_accepted}
use Rattle.laws.specs.History.{Holds}
use Rattle.laws.specs.Lines.{start_of, opening_tick, judged_file}

-- ---- the lines

-- one head, of kind 01 or 05, the S lines, one end with their number
abbrev pub file_frames : HeadLine → List SFields → List Frame
file_frames x ss = HeadFrame x ∷ map S ss ++ End (length ss) ∷ []

-- a negative r on the last S only
abbrev pub NegativeLast : List SFields → Type 0
NegativeLast [] = Unit {0}
NegativeLast (s ∷ []) = Unit {0}
NegativeLast (s ∷ t ∷ ss) = (s.r < 2 ^ 31) × NegativeLast (t ∷ ss)

-- ---- the appends

-- an S line gives n references to a timeline
pub record Gives (x : State) (s : SFields) (n : ℕ) : Type 0 where
  -- r of 0 or more means r + 1
  pub more : s.r < 2 ^ 31 → n ≡ s.r + 1
  -- a negative r asks for a known end
  pub known : 2 ^ 31 ≤ s.r → 1 ≤ x.rec.head.duration.0
  -- and means the least count, one at least, whose end reaches or passes it
  pub least : 2 ^ 31 ≤ s.r → LeastCount x.rec.head x.rec.next.0 s.d n

-- the append that it stands for: its duration, and its start or the previous end
abbrev pub StandsFor : State → SFields → Call → Type 0
StandsFor x s c = (n : ℕ) × Gives x s n × (c ≡ by_tick (record { 0 = start_of x.rec.next.0 s }) s.d n)

-- S lines and the calls that they stand for, each at the timeline that those before it left
abbrev pub StandFor : State → List SFields → List Call → Type 0
StandFor x [] [] = Unit {0}
StandFor x [] (c ∷ cs) = ⊥
StandFor x (s ∷ ss) [] = ⊥
StandFor x (s ∷ ss) (c ∷ cs) = StandsFor x s c × StandFor (after x c) ss cs

-- every call is accepted
abbrev pub AllAccepted : State → List Call → Type 0
AllAccepted x [] = Unit {0}
AllAccepted x (c ∷ cs) = (outcome_of x c ≡ Ok tt) × AllAccepted (after x c) cs

-- the timeline that a file opens, in a table that came with the words `came`: its first tick is where the first S starts
abbrev pub opening_of : Head → SFields → List ℕ → State
opening_of h s came = opening h (opening_tick s) came

-- bytes that are a file of a head line and S lines, of which s is the first, and that stand for these calls
pub record ReadsAs (bytes came : List ℕ) (x : HeadLine) (s : SFields) (ss : List SFields) (cs : List Call) : Type 0 where
  -- the bytes are those lines, each ended by a feed, and nothing else
  pub lines : bytes ≡ bytes_of (file_frames x (s ∷ ss))
  -- every field fits its width
  pub fit : AllFit (file_frames x (s ∷ ss))
  -- no S stands after a negative r
  pub last : NegativeLast (s ∷ ss)
  -- the opening at the first S is accepted
  pub opens : (open_answer (head_in x) (opening_tick s)).outcome ≡ Ok tt
  -- the S lines stand for these appends to it
  pub stand : StandFor (opening_of (head_in x) s came) (s ∷ ss) cs
  -- and each of them is accepted
  pub accepted : AllAccepted (opening_of (head_in x) s came) cs

-- there are such a head line, such S lines and such calls
abbrev pub IsFile : List ℕ → List ℕ → Type 0
IsFile bytes came = (x : HeadLine) × (s : SFields) × (ss : List SFields) × (cs : List Call) × ReadsAs bytes came x s ss cs

-- ---- the statement

pub record ReadingRight : Type 0 where
  -- bytes are accepted exactly when they are a file
  pub accepted : (bytes came : List ℕ) → ExactlyWhen ((read_answer bytes came).outcome ≡ Ok tt) (IsFile bytes came)
  -- reading is opening plus appends: the record is theirs, and the line is 0
  pub answer : (bytes came : List ℕ) (x : HeadLine) (s : SFields) (ss : List SFields) (cs : List Call) → ReadsAs bytes came x s ss cs →
      read_answer bytes came ≡ record { outcome = Ok tt; rec = (after_calls (opening_of (head_in x) s came) cs).rec; line = 0 }
  -- and so is the table
  pub table : (bytes came : List ℕ) (x : HeadLine) (s : SFields) (ss : List SFields) (cs : List Call) → ReadsAs bytes came x s ss cs →
      read_table bytes came ≡ (after_calls (opening_of (head_in x) s came) cs).words
  -- those appends are calls as any caller's, with durations of 32 bits: what is proved of all lists of calls holds of a file
  pub plain : (bytes came : List ℕ) (x : HeadLine) (s : SFields) (ss : List SFields) (cs : List Call) → ReadsAs bytes came x s ss cs → Plain cs
  -- and so demand 3 reaches a timeline that was read: its record and its table hold the accepted references of those appends, at clock 0
  pub holds : (bytes came : List ℕ) (x : HeadLine) (s : SFields) (ss : List SFields) (cs : List Call) → ReadsAs bytes came x s ss cs →
      Holds (head_in x) (opening_tick s) (length came) (record { rec = (read_answer bytes came).rec; words = read_table bytes came }) (all_accepted (opening_of (head_in x) s came) cs) 0
  -- for any bytes and any table the number is the one of the first refused line, by its rows, and 0 where none is
  pub number : (bytes came : List ℕ) → answer_number (read_answer bytes came).outcome ≡ (judged_file bytes came).number
  -- the line is that line, a missing one where the file stops, and 0 where the file is accepted
  pub line : (bytes came : List ℕ) → (read_answer bytes came).line ≡ (judged_file bytes came).line
  -- the distance is that of this line's start from the next tick, as it was then
  pub distance : (bytes came : List ℕ) → answer_distance (read_answer bytes came).outcome ≡ (judged_file bytes came).distance
  -- the record is zero where the file is refused
  pub rec : (bytes came : List ℕ) → (read_answer bytes came).rec ≡ (judged_file bytes came).rec
  -- and the table is zeroed then
  pub words : (bytes came : List ℕ) → read_table bytes came ≡ (judged_file bytes came).words
  -- no file is refused with 2
  pub never_two : (bytes came : List ℕ) → answer_number (read_answer bytes came).outcome ≡ 2 → ⊥
