-- What the desk's user reads. An input is a clock line and a file behind it; the program answers any input with one line, and this says of each kind of
-- line when it is written, and of each figure in it what it counts. Complete: the clock line asks for a clock within its limit, or for the whole period;
-- the file is accepted; one tick at least is needed, and every needed tick lies in a reference that was read and kept. Lacking and nothing needed in the
-- same way. Refused: the clock line at line 0, then a line of the file, with the distance of a gap or an overlap, then at line 0 a whole period whose
-- end is not known. So a verdict on a file that was just read is refused with 19 alone. Paper: The file (the program); Verdict and availability; Refusal numbers.
use Rattle.std.specs.Prelude.{Err, Ok, ℕ, ◌*◌, ◌/◌, ◌^◌, ◌≤◌, ◌<◌, ◌≡◌, true, List, [], ◌∷◌, ◌++◌, eqb, replicate}
use Rattle.units.specs.Exactly.{ExactlyWhen}
use Rattle.units.specs.Limits.{largest_millis}
use Rattle.window.specs.Window.{Stretch, window_at, whole_period}
use Rattle.agreement.specs.declared.Record.{Record}
use Rattle.agreement.specs.declared.refusal.Refusal.{Refusal}
use Rattle.agreement.specs.Agreement.{kept, agrees}
use Rattle.agreement.specs.Rows.{◌when◌else◌}
use Rattle.agreement.specs.Numbers.{refusal_number, refusal_distance}
use Rattle.timeline.specs.Opening.{zero_record}
use Rattle.frames.specs.declared.Frame.TheVariants.{Clock}
use Rattle.frames.specs.Frames.{line_of}
use Rattle.hexdigits.specs.Ascii.{ascii}
use Rattle.file.specs.Lines.{line_feed}
use Rattle.file.specs.Judging.{read_answer, read_table}
use Rattle.frames.specs.Fields.{all_ones}
use Rattle.wording.specs.Text.{decimal}
use Rattle.report.specs.Answer.{table_length, answer}
use Rattle.laws.specs.Demand2.{Completes, Lacks, NeedsNone}

-- ---- the input

-- it is the line of a clock, of eight bytes, ended by its line feed, and then a file
pub record Asks (input : List ℕ) (clock : ℕ) (file : List ℕ) : Type 0 where
  pub fits : clock < 2 ^ 64
  pub is : input ≡ line_of (Clock (record { 0 = clock })) ++ line_feed ∷ file

-- a clock that asks for a verdict: one within its limit, or all ones for the whole period
pub data Verdicts (clock : ℕ) : Type 0 where
  at_clock_lem : clock ≤ largest_millis → Verdicts clock
  of_whole : clock ≡ all_ones → Verdicts clock

-- the table that the file is read into: 3,072 words
unfoldable pub lent : List ℕ
lent = replicate table_length 0

-- the file is accepted, as this record and this table
pub record Accepts (file : List ℕ) (rec : Record) (ws : List ℕ) : Type 0 where
  pub answer : read_answer file lent ≡ record { outcome = Ok tt; rec = rec; line = 0 }
  pub table : read_table file lent ≡ ws

-- the window that a clock asks about: that of the clock, or the whole period, whose end must be known
pub data Window (clock : ℕ) (rec : Record) : Stretch → Type 0 where
  at : clock ≤ largest_millis → Window clock rec (window_at rec.head clock)
  whole : clock ≡ all_ones → 1 ≤ rec.head.duration.0 → Window clock rec (whole_period rec.head)

-- the clock line asks, the file is accepted, and what is asked about it can be told
pub record ReadAs (input : List ℕ) (rec : Record) (ws : List ℕ) (w : Stretch) : Type 0 where
  pub clock : ℕ
  pub file : List ℕ
  pub asks : Asks input clock file
  pub accepts : Accepts file rec ws
  pub window : Window clock rec w

-- ---- what is so

-- n ticks are needed, one at least, and each lies in a kept reference
pub record Completed (input : List ℕ) (n : ℕ) : Type 0 where
  pub rec : Record
  pub ws : List ℕ
  pub w : Stretch
  pub read : ReadAs input rec ws w
  pub completes : Completes rec.head w (kept rec ws) n

-- n ticks are needed, m of them lie in a kept reference, and k is the lowest that lies in none
pub record Lacked (input : List ℕ) (n m k : ℕ) : Type 0 where
  pub rec : Record
  pub ws : List ℕ
  pub w : Stretch
  pub read : ReadAs input rec ws w
  pub lacks : Lacks rec.head w (kept rec ws) n m k

-- no tick is needed
pub record Unneeded (input : List ℕ) : Type 0 where
  pub rec : Record
  pub ws : List ℕ
  pub w : Stretch
  pub read : ReadAs input rec ws w
  pub none : NeedsNone rec.head w

-- the input is refused, with a number, a line and a distance, which is 0 where none is told
pub data Refused (input : List ℕ) : ℕ → ℕ → ℕ → Type 0 where
  -- 16 at line 0: it does not begin with a clock line that is ended
  no_clock : ((clock : ℕ) (file : List ℕ) → Asks input clock file → ⊥) → Refused input 16 0 0
  -- 10 at line 0: the clock is over its limit, and not all ones
  over : (clock : ℕ) (file : List ℕ) → Asks input clock file → largest_millis < clock → (clock ≡ all_ones → ⊥) → Refused input 10 0 0
  -- the clock line asks, and a line of the file is the first to be refused: its own number, which line, and how far a start lies from the next tick
  bad_line : (clock : ℕ) (file : List ℕ) (why : Refusal) (line : ℕ) → Asks input clock file → Verdicts clock →
      read_answer file lent ≡ record { outcome = Err why; rec = zero_record; line = line } → Refused input (refusal_number why) line (refusal_distance why)
  -- 19 at line 0: the whole period is asked of a file that is accepted, and its end is not known
  no_end : (file : List ℕ) (rec : Record) (ws : List ℕ) → Asks input all_ones file → Accepts file rec ws → rec.head.duration.0 ≡ 0 → Refused input 19 0 0

-- ---- the lines

-- complete 10000/10000 100%
abbrev pub complete_line : ℕ → List ℕ
complete_line n = ascii "complete " ++ decimal n ++ ascii "/" ++ decimal n ++ ascii " 100%" ++ line_feed ∷ []

-- lacking 20000 9999/10000 99%, for n of 10000, m of 9999 and k of 20000: the percent is m x 100 / n, rounded down
abbrev pub lacking_line : ℕ → ℕ → ℕ → List ℕ
lacking_line n m k =
    ascii "lacking " ++ decimal k ++ ascii " " ++ decimal m ++ ascii "/" ++ decimal n ++ ascii " " ++ decimal (m * 100 / n) ++ ascii "%" ++ line_feed ∷ []

abbrev pub nothing_line : List ℕ
nothing_line = ascii "nothing needed" ++ line_feed ∷ []

-- by 9; nothing where the distance is 0
abbrev pub by_distance : ℕ → List ℕ
by_distance distance = [] when eqb distance 0 else (ascii " by " ++ decimal distance)

-- refused 16 line 2, and with a distance refused 4 line 3 by 9
abbrev pub refused_line : ℕ → ℕ → ℕ → List ℕ
refused_line number line distance = ascii "refused " ++ decimal number ++ ascii " line " ++ decimal line ++ by_distance distance ++ line_feed ∷ []

-- a line begins with a text
abbrev pub Begins : List ℕ → List ℕ → Type 0
Begins text line = (rest : List ℕ) × (line ≡ text ++ rest)

-- ---- the theorem

-- one of the four lines, where what it says is so
pub data Says (input : List ℕ) : List ℕ → Type 0 where
  complete : (n : ℕ) → Completed input n → Says input (complete_line n)
  lacking : (n m k : ℕ) → Lacked input n m k → Says input (lacking_line n m k)
  nothing : Unneeded input → Says input nothing_line
  refused : (number line distance : ℕ) → Refused input number line distance → Says input (refused_line number line distance)

-- proved by `desk_says` of proofs/Desk.antt
pub record DeskSays : Type 0 where
  -- any input is answered by one of the four lines, and what that says is so
  pub says : (input : List ℕ) → Says input (answer input)
  -- the line begins with the word exactly when it is so, for some figures
  pub complete : (input : List ℕ) → ExactlyWhen (Begins (ascii "complete") (answer input)) ((n : ℕ) × Completed input n)
  pub lacking : (input : List ℕ) → ExactlyWhen (Begins (ascii "lacking") (answer input)) ((n : ℕ) × (m : ℕ) × (k : ℕ) × Lacked input n m k)
  pub nothing : (input : List ℕ) → ExactlyWhen (Begins (ascii "nothing needed") (answer input)) (Unneeded input)
  pub refused : (input : List ℕ) → ExactlyWhen (Begins (ascii "refused") (answer input)) ((number : ℕ) × (line : ℕ) × (distance : ℕ) × Refused input number line distance)
  -- and it is the line with these figures exactly when it is so with these: no other count, percent, tick, number, line or distance is told
  pub complete_line_lem : (input : List ℕ) (n : ℕ) → ExactlyWhen (answer input ≡ complete_line n) (Completed input n)
  pub lacking_line_lem : (input : List ℕ) (n m k : ℕ) → ExactlyWhen (answer input ≡ lacking_line n m k) (Lacked input n m k)
  pub nothing_line_lem : (input : List ℕ) → ExactlyWhen (answer input ≡ nothing_line) (Unneeded input)
  pub refused_line_lem : (input : List ℕ) (number line distance : ℕ) →
      ExactlyWhen (answer input ≡ refused_line number line distance) (Refused input number line distance)
  -- what was read agrees, at clock 0: so no verdict on it is refused with 2 or 11, and none with 10, since the clock line is judged first
  pub agreed : (file : List ℕ) (rec : Record) (ws : List ℕ) → Accepts file rec ws → agrees rec ws ≡ true
  pub at_zero : (file : List ℕ) (rec : Record) (ws : List ℕ) → Accepts file rec ws → rec.clock.0 ≡ 0
  -- the lines of a file are numbered from 1, so that line 0 is the clock line or the verdict
  pub from_one : (file : List ℕ) (why : Refusal) (line : ℕ) →
      read_answer file lent ≡ record { outcome = Err why; rec = zero_record; line = line } → 1 ≤ line
