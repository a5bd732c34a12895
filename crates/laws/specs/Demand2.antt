-- Demand 2. Each answer that looks at a timeline is right, for any record, any table and any clock. A verdict says complete
-- exactly when it is not refused, one tick at least is needed, and every needed tick lies in a kept reference; the count it
-- names is how many ticks are needed. It says lacking, and nothing needed, exactly when that is so. The percent is 100
-- exactly when the verdict is complete. A kept reference is available from the period start plus its end less the offset, up
-- to that plus the depth and its own duration. A file that we write reads back as the same references under the same numbers,
-- and equal kept timelines give equal files. A negative r stands for the least count that reaches the period end.
-- Paper: Verdict and availability; The file; Refusal numbers; What a statement must leave no room for.
use Rattle.std.specs.Prelude.{Err, Ok, Some, ℕ, ◌+◌, ◌*◌, ◌≤◌, ◌<◌, ◌≡◌, Bool, true, false, ◌&&◌, List, ◌∷◌, ◌++◌, ℤ, pos, ◌+ℤ◌, ◌-ℤ◌, ◌*ℤ◌, length, take}
use Rattle.std.specs.Int.Signed.{le_z, lt_z}
use Rattle.units.specs.Exactly.{ExactlyWhen}
use Rattle.units.specs.declared.Grain.{Grain}
use Rattle.units.specs.declared.WideMillis.{WideMillis}
use Rattle.units.specs.declared.WideNumber.{WideNumber}
use Rattle.units.specs.declared.WideTick.{WideTick}
use Rattle.units.specs.declared.standing.Standing.TheVariants.{Joins}
use Rattle.units.specs.Limits.{largest_millis}
use Rattle.window.specs.declared.Head.{Head}
use Rattle.window.specs.declared.Reference.{Reference}
use Rattle.window.specs.Place.{before_end}
use Rattle.window.specs.Window.{Stretch, window_at, whole_period, tick_needed}
use Rattle.window.specs.Ticks.{LeastCount}
use Rattle.runs.specs.Words.{capacity}
use Rattle.agreement.specs.declared.Record.{Record}
use Rattle.agreement.specs.declared.refusal.Refusal.{Refusal}
use Rattle.agreement.specs.declared.refusal.Refusal.TheVariants as refusal
use Rattle.agreement.specs.Agreement.{kept, agrees}
use Rattle.keeping.specs.Keeping.{words_keeping}
use Rattle.keeping.specs.Append.{fit_outcome}
use Rattle.answers.specs.declared.Verdict.TheVariants as verdict
use Rattle.answers.specs.Cover.{covered_by}
use Rattle.answers.specs.Counts.{count_below}
use Rattle.answers.specs.Judgement.{verdict_at, verdict_whole, Whole, Lowest}
use Rattle.answers.specs.Shares.{verdict_percent}
use Rattle.lookups.specs.declared.Availability.TheVariants as availability
use Rattle.lookups.specs.Available.{availability_in, available_in}
use Rattle.frames.specs.declared.SFields.{SFields}
use Rattle.file.specs.declared.Reading.{Reading}
use Rattle.file.specs.declared.Stage.TheVariants.{Filled}
use Rattle.file.specs.Least.{least_count}
use Rattle.file.specs.Judging.{first_negative, appended_by, take_s, read_answer, read_table}
use Rattle.writing.specs.Writing.{file_for, write_answer, output_by, read_back}

-- ---- verdicts

-- n numbers pass a test: all that do lie below some bound, and n of those below it do
pub record Many (p : ℕ → Bool) (n : ℕ) : Type 0 where
  pub bound : ℕ
  pub below : (k : ℕ) → p k ≡ true → k < bound
  pub count : count_below p bound ≡ n

-- n ticks are needed, one at least, and each lies in a reference
pub record Completes (h : Head) (w : Stretch) (rs : List Reference) (n : ℕ) : Type 0 where
  pub needed : Many (tick_needed h w) n
  pub whole : Whole h w rs

-- n ticks are needed, m of them lie in a reference, and k is the lowest that lies in none
pub record Lacks (h : Head) (w : Stretch) (rs : List Reference) (n m k : ℕ) : Type 0 where
  pub needed : Many (tick_needed h w) n
  pub covered : Many (λ j. tick_needed h w j && covered_by rs j) m
  pub lowest : Lowest h w rs k

-- no tick is needed
abbrev pub NeedsNone : Head → Stretch → Type 0
NeedsNone h w = (k : ℕ) → tick_needed h w k ≡ false

-- a verdict at a clock may be asked: record and table agree, and the clock is within its limit and not before the greatest
pub record MayAsk (rec : Record) (ws : List ℕ) (c : WideMillis) : Type 0 where
  pub agreed : agrees rec ws ≡ true
  pub limit : c.0 ≤ largest_millis
  pub later : rec.clock.0 ≤ c.0

-- a verdict of the whole period may be asked: record and table agree, and the end is known
pub record MayAskWhole (rec : Record) (ws : List ℕ) : Type 0 where
  pub agreed : agrees rec ws ≡ true
  pub known : 1 ≤ rec.head.duration.0

-- why it may not: 2, then 10, then 11, and 2, then 19
pub data MayNotAsk (rec : Record) (ws : List ℕ) (c : WideMillis) : Refusal → Type 0 where
  disagree : agrees rec ws ≡ false → MayNotAsk rec ws c refusal.Disagreement
  over : agrees rec ws ≡ true → largest_millis < c.0 → MayNotAsk rec ws c refusal.ClockLimit
  early : agrees rec ws ≡ true → c.0 ≤ largest_millis → c.0 < rec.clock.0 → MayNotAsk rec ws c refusal.EarlierClock

pub data MayNotAskWhole (rec : Record) (ws : List ℕ) : Refusal → Type 0 where
  disagreeing : agrees rec ws ≡ false → MayNotAskWhole rec ws refusal.Disagreement
  unknown : agrees rec ws ≡ true → rec.head.duration.0 ≡ 0 → MayNotAskWhole rec ws refusal.EndUnknown

-- the window of a record at a clock, and its whole period
abbrev pub at_clock : Record → WideMillis → Stretch
at_clock rec c = window_at rec.head c.0

abbrev pub in_whole : Record → Stretch
in_whole rec = whole_period rec.head

-- ---- availability

-- the number of the first kept reference
abbrev pub first_kept : Record → ℕ
first_kept rec = rec.head.first.0 + rec.dropped

abbrev pub wide_number : ℕ → WideNumber
wide_number n = record { 0 = n }

abbrev pub grain : ℤ → Grain
grain z = record { 0 = z }

-- period start plus the reference's end less the offset: a millisecond is timescale grains, a tick 1000
abbrev pub starts_at : Head → Reference → ℤ
starts_at h r = pos (h.start.0 * h.timescale.0) +ℤ (pos (r.start.0 + r.span.0) -ℤ pos h.offset.0) *ℤ pos 1000

-- that plus the depth plus the reference's own duration
abbrev pub ends_at : Head → Reference → ℤ
ends_at h r = starts_at h r +ℤ pos (h.depth.0 * h.timescale.0) +ℤ pos (r.span.0 * 1000)

-- a reference is available at a clock: from its start on, and before its end where it has one
pub record Offered (h : Head) (r : Reference) (c : WideMillis) : Type 0 where
  pub from : le_z (starts_at h r) (pos (c.0 * h.timescale.0)) ≡ true
  pub upto : 1 ≤ h.depth.0 → lt_z (pos (c.0 * h.timescale.0)) (ends_at h r) ≡ true

-- ---- files

-- a file of n bytes may be written into an output of so many
pub record Writes (rec : Record) (ws : List ℕ) (room n : ℕ) : Type 0 where
  pub agreed : agrees rec ws ≡ true
  pub some : 1 ≤ rec.used
  pub long : n ≡ length (file_for rec ws)
  pub fits : n ≤ room

-- bytes that read, into a table that came with the words `came`, as what record and table keep: the record is exactly
-- `read_back`, the table keeps just the same references, and their numbers are the same
pub record ReadsBack (rec : Record) (ws came bytes : List ℕ) : Type 0 where
  pub answer : read_answer bytes came ≡ record { outcome = Ok tt; rec = read_back rec ws; line = 0 }
  pub table : read_table bytes came ≡ words_keeping came (kept rec ws)
  pub references : kept (read_back rec ws) (read_table bytes came) ≡ kept rec ws
  pub number : first_kept (read_back rec ws) ≡ first_kept rec
  -- in a table as long as the one that was written from, the words are the same too
  pub words : length came ≡ length ws → read_table bytes came ≡ ws

-- the bytes that writing leaves in an output
abbrev pub output : Record → List ℕ → List ℕ → List ℕ
output rec ws out = output_by (write_answer rec ws (length out)) (file_for rec ws) out

-- two kept timelines that are equal: the head, the number of the first kept reference, and the kept references
pub record SameKept (rec : Record) (ws : List ℕ) (other : Record) (vs : List ℕ) : Type 0 where
  pub timescale : rec.head.timescale ≡ other.head.timescale
  pub offset : rec.head.offset ≡ other.head.offset
  pub start : rec.head.start ≡ other.head.start
  pub duration : rec.head.duration ≡ other.head.duration
  pub depth : rec.head.depth ≡ other.head.depth
  pub update : rec.head.update ≡ other.head.update
  pub number : first_kept rec ≡ first_kept other
  pub references : kept rec ws ≡ kept other vs

-- ---- the demand

pub record Demand2 : Type 0 where
  -- a verdict at a clock, and of the whole period: each case exactly when
  pub complete_at : (rec : Record) (ws : List ℕ) (c : WideMillis) (n : ℕ) →
      ExactlyWhen (verdict_at rec ws c ≡ Ok (verdict.Complete n)) (MayAsk rec ws c × Completes rec.head (at_clock rec c) (kept rec ws) n)
  pub complete_whole : (rec : Record) (ws : List ℕ) (n : ℕ) →
      ExactlyWhen (verdict_whole rec ws ≡ Ok (verdict.Complete n)) (MayAskWhole rec ws × Completes rec.head (in_whole rec) (kept rec ws) n)
  pub lacking_at : (rec : Record) (ws : List ℕ) (c : WideMillis) (n m : ℕ) (k : WideTick) →
      ExactlyWhen (verdict_at rec ws c ≡ Ok (verdict.Lacking n m k)) (MayAsk rec ws c × Lacks rec.head (at_clock rec c) (kept rec ws) n m k.0)
  pub lacking_whole : (rec : Record) (ws : List ℕ) (n m : ℕ) (k : WideTick) →
      ExactlyWhen (verdict_whole rec ws ≡ Ok (verdict.Lacking n m k)) (MayAskWhole rec ws × Lacks rec.head (in_whole rec) (kept rec ws) n m k.0)
  pub nothing_at : (rec : Record) (ws : List ℕ) (c : WideMillis) →
      ExactlyWhen (verdict_at rec ws c ≡ Ok verdict.Nothing) (MayAsk rec ws c × NeedsNone rec.head (at_clock rec c))
  pub nothing_whole : (rec : Record) (ws : List ℕ) →
      ExactlyWhen (verdict_whole rec ws ≡ Ok verdict.Nothing) (MayAskWhole rec ws × NeedsNone rec.head (in_whole rec))
  pub refused_at_lem : (rec : Record) (ws : List ℕ) (c : WideMillis) (why : Refusal) →
      ExactlyWhen (verdict_at rec ws c ≡ Err why) (MayNotAsk rec ws c why)
  pub refused_whole : (rec : Record) (ws : List ℕ) (why : Refusal) →
      ExactlyWhen (verdict_whole rec ws ≡ Err why) (MayNotAskWhole rec ws why)
  -- a test is passed by one number of numbers, whatever the bound
  pub one_count : (p : ℕ → Bool) (m n : ℕ) → Many p m → Many p n → m ≡ n
  -- the percent is 100 exactly when the verdict is complete
  pub hundred_at : (rec : Record) (ws : List ℕ) (c : WideMillis) →
      ExactlyWhen (verdict_percent (verdict_at rec ws c) ≡ Some 100) ((n : ℕ) × (verdict_at rec ws c ≡ Ok (verdict.Complete n)))
  pub hundred_whole : (rec : Record) (ws : List ℕ) →
      ExactlyWhen (verdict_percent (verdict_whole rec ws) ≡ Some 100) ((n : ℕ) × (verdict_whole rec ws ≡ Ok (verdict.Complete n)))
  -- the kept reference behind `xs` has the number of the first kept one plus their count
  pub available_ends : (rec : Record) (ws : List ℕ) → agrees rec ws ≡ true → 1 ≤ rec.head.depth.0 →
      (xs ys : List Reference) (r : Reference) → kept rec ws ≡ xs ++ r ∷ ys →
      availability_in rec ws (wide_number (first_kept rec + length xs)) ≡ Ok (availability.Ends (grain (starts_at rec.head r)) (grain (ends_at rec.head r)))
  pub available_ever : (rec : Record) (ws : List ℕ) → agrees rec ws ≡ true → rec.head.depth.0 ≡ 0 →
      (xs ys : List Reference) (r : Reference) → kept rec ws ≡ xs ++ r ∷ ys →
      availability_in rec ws (wide_number (first_kept rec + length xs)) ≡ Ok (availability.NeverEnds (grain (starts_at rec.head r)))
  pub available_at : (rec : Record) (ws : List ℕ) → agrees rec ws ≡ true → (c : WideMillis) → c.0 ≤ largest_millis →
      (xs ys : List Reference) (r : Reference) → kept rec ws ≡ xs ++ r ∷ ys →
      ExactlyWhen (available_in rec ws (wide_number (first_kept rec + length xs)) c ≡ Ok true) (Offered rec.head r c)
  -- where record and table disagree every number is refused with 2, and else one that no kept reference has with 13
  pub available_disagreed : (rec : Record) (ws : List ℕ) (n : WideNumber) → agrees rec ws ≡ false →
      availability_in rec ws n ≡ Err refusal.Disagreement
  pub not_kept_lem : (rec : Record) (ws : List ℕ) → agrees rec ws ≡ true →
      (n : ℕ) → ((i : ℕ) → i < length (kept rec ws) → n ≡ first_kept rec + i → ⊥) →
      availability_in rec ws (wide_number n) ≡ Err refusal.NotKept
  -- a file is written exactly when record and table agree, a run is kept and the output has room for all of it
  pub written : (rec : Record) (ws : List ℕ) (room n : ℕ) →
      ExactlyWhen (write_answer rec ws room ≡ Ok n) (Writes rec ws room n)
  -- what was written into an output reads back, in any table with room for the used runs
  pub read_back_lem : (rec : Record) (ws out : List ℕ) (n : ℕ) → write_answer rec ws (length out) ≡ Ok n →
      (came : List ℕ) → rec.used ≤ capacity came → ReadsBack rec ws came (take n (output rec ws out))
  -- equal kept timelines give equal answers and equal bytes
  pub same_file : (rec other : Record) (ws vs : List ℕ) → agrees rec ws ≡ true → agrees other vs ≡ true → SameKept rec ws other vs →
      (out : List ℕ) → (write_answer rec ws (length out) ≡ write_answer other vs (length out)) × (output rec ws out ≡ output other vs out)
  -- a negative r on an S line that joins before a known end: so many references are appended, judged as any append from 6 on
  pub least_count_lem : (h : Head) (s d n : ℕ) → 1 ≤ d → ExactlyWhen (n ≡ least_count h s d) (LeastCount h s d n)
  pub negative_r : (r : Reading) (ws : List ℕ) (s : SFields) (n : ℕ) → first_negative ≤ s.r → 1 ≤ s.d → 1 ≤ r.rec.head.duration.0 →
      before_end r.rec.head r.rec.next.0 ≡ true → LeastCount r.rec.head r.rec.next.0 s.d n →
      take_s r ws Joins s ≡ appended_by (fit_outcome r.rec ws s.d n) Filled r ws s.d n
