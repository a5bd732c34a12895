-- Demand 1. Every entry point takes any input, and answers it with the paper's number: the first whose condition holds, 0 where none does
-- (the rows of Refusals, and for a file those of Lines). A refused call returns the record as it came and changes no word and no byte,
-- with these exceptions. A refused opening answers a zero record. A refused reading answers a zero record and the line, and zeroes the
-- table. With 4 and 5 an append, by itself or with a trim behind it, and a reading answer the distance, and C's append writes it to
-- out. The part that a span lookup hands back is empty. A verdict, an availability, a full tick and a covered edge give their number and
-- nothing else. Of each function this is said over the contract that the check itself makes of it (Unique says what its parts are,
-- and has the functions that never refuse). For C the lengths of record and out are judged first.
-- Paper: Refusal numbers; What a statement must leave no room for.
use Rattle.std.specs.Prelude.{Err, ℕ, ◌-◌, ◌^◌, ◌≤◌, ◌<◌, ◌≡◌, Bool, true, false, not, List, [], ◌∷◌, eqb, length, replicate}
use Rattle.units.specs.Limits.{largest_span, tick_of}
use Rattle.units.specs.Standing.{less32}
use Rattle.window.specs.declared.Head.{Head}
use Rattle.window.specs.Limits.{head_of}
use Rattle.agreement.specs.declared.Record.{Record}
use Rattle.agreement.specs.declared.refusal.Refusal.{Refusal}
use Rattle.agreement.specs.Rows.{◌when◌else◌}
use Rattle.keeping.specs.declared.Changed.{Changed}
use Rattle.agreement.specs.Numbers.{answer_distance, answer_number}
use Rattle.timeline.specs.Opening.{zero_record}
use Rattle.file.specs.declared.Reader.{Reader}
use Rattle.file.specs.declared.ReadAnswer.{ReadAnswer}
use Rattle.file.specs.Feeding.{belongs}
use Rattle.words.specs.Words.{record_words, head_with, record_of}
use Rattle.timeline.proofs as timeline
use Rattle.answers.proofs as answers
use Rattle.lookups.proofs as lookups
use Rattle.file.proofs as file
use Rattle.writing.proofs as writing
use Rattle.report.proofs as report
use Rattle.flonterri.proofs as c
use Rattle.laws.specs.Refusals.{lowest, is_apart, distance_with, open_rows, append_tick_rows, append_stamp_rows, pair_rows, trim_rows, verdict_rows, whole_rows, availability_rows, available_rows, touching_rows, write_rows, full_tick_rows, edge_rows}
use Rattle.laws.specs.Lines.{judged_file}
use Rattle.laws.specs.Unique.{AnyInput}

-- ---- what is said of an answer

-- its number is that of the first row that holds, and where that refuses, this is left
pub record GivesNumber (n : ℕ) (rows : List (Bool × ℕ)) (left : Type 0) : Type 0 where
  pub number : n ≡ lowest rows
  pub refused : (n ≡ 0 → ⊥) → left

-- a call that changes: refused, it answers this record and leaves these words
abbrev pub Changes : Changed → List ℕ → List (Bool × ℕ) → Record → List ℕ → Type 0
Changes x after rows rec ws = GivesNumber (answer_number x.outcome) rows ((x.rec ≡ rec) × (after ≡ ws))

-- an append, by itself or with a trim behind it: the same, and with 4 and 5 its distance, of a start that lies so far after the next tick or so far before it
pub record Appends (x : Changed) (after : List ℕ) (rows : List (Bool × ℕ)) (rec : Record) (ws : List ℕ) (ahead behind : ℕ) : Type 0 where
  pub changes : Changes x after rows rec ws
  pub distance : answer_distance x.outcome ≡ distance_with (answer_number x.outcome) ahead behind

-- an answer is a refusal and nothing else
abbrev pub Only : {A : Type 0} → (Refusal → A) → A → Type 0
Only refused x = (why : Refusal) × (x ≡ refused why)

-- a reading: accepted, it answers line 0; refused, a zero record and the line, which is 1 at least, and all words are 0
pub record Zeroes (x : ReadAnswer) (after before : List ℕ) : Type 0 where
  pub accepted : answer_number x.outcome ≡ 0 → x.line ≡ 0
  pub refused : (answer_number x.outcome ≡ 0 → ⊥) → (x.rec ≡ zero_record) × (1 ≤ x.line) × (after ≡ replicate (length before) 0)

-- of a whole file: its number, its line and its distance are those of the first refused line, by the rows of Lines
pub record Reads (bytes : List ℕ) (x : ReadAnswer) (after before : List ℕ) : Type 0 where
  pub number : answer_number x.outcome ≡ (judged_file bytes before).number
  pub line : x.line ≡ (judged_file bytes before).line
  pub distance : answer_distance x.outcome ≡ (judged_file bytes before).distance
  pub left : Zeroes x after before

-- a reader that is fed: where it and the table do not belong together, neither changes
abbrev pub Feeds : Reader → List ℕ → Reader → List ℕ → Type 0
Feeds reader before x after = belongs reader before ≡ false → (x ≡ reader) × (after ≡ before)

-- and its end: where they do not, it answers 2, a zero record and line 0, and no word changes; else it is a reading
pub record Finishes (reader : Reader) (before : List ℕ) (x : ReadAnswer) (after : List ℕ) : Type 0 where
  pub apart : belongs reader before ≡ false →
      (answer_number x.outcome ≡ 2) × (x.rec ≡ zero_record) × (x.line ≡ 0) × (after ≡ before)
  pub together : belongs reader before ≡ true → Zeroes x after before

-- ---- C: lengths first

-- 2: the record is not of 12 words
abbrev pub record_rows : List ℕ → List (Bool × ℕ) → List (Bool × ℕ)
record_rows ws rows = (not (eqb (length ws) record_words), 2) ∷ rows

-- 15: out is not as long as the call's answer
abbrev pub length_rows : {A : Type 0} → List ℕ → List A → ℕ → List (Bool × ℕ) → List (Bool × ℕ)
length_rows ws out size rows = record_rows ws ((not (eqb (length out) size), 15) ∷ rows)

-- a call that changes: refused, record and table as they came
abbrev pub ChangesFromC : ℕ → List ℕ → List ℕ → List ℕ → List ℕ → List (Bool × ℕ) → Type 0
ChangesFromC n ws ts ws_after ts_after rows = GivesNumber n (record_rows ws rows) ((ws_after ≡ ws) × (ts_after ≡ ts))

-- an append: refused, record and table as they came; out has the distance where the number is 4 or 5, and else is as it came
pub record AppendsFromC (n : ℕ) (ws ts out ws_after ts_after out_after : List ℕ) (rows : List (Bool × ℕ)) (ahead behind : ℕ) : Type 0 where
  pub number : n ≡ lowest (length_rows ws out 1 rows)
  pub refused : (n ≡ 0 → ⊥) → (ws_after ≡ ws) × (ts_after ≡ ts)
  pub distance : out_after ≡ ((distance_with n ahead behind ∷ []) when is_apart n else out)

-- an opening: a record of another length stays as it came, and one of 12 words is zeroed where a field is over its limit
pub record OpensFromC (n : ℕ) (ws ts : List ℕ) (h : Head) (tick : ℕ) (ws_after ts_after : List ℕ) : Type 0 where
  pub number : n ≡ lowest (record_rows ws (open_rows h (record { 0 = tick })))
  pub length : n ≡ 2 → (ws_after ≡ ws) × (ts_after ≡ ts)
  pub refused : n ≡ 1 → (ws_after ≡ replicate record_words 0) × (ts_after ≡ ts)

-- a call that looks: refused, out as it came
abbrev pub TellsC : {A : Type 0} → ℕ → List ℕ → ℕ → List (Bool × ℕ) → List A → List A → Type 0
TellsC n ws size rows out out_after = GivesNumber n (length_rows ws out size rows) (out_after ≡ out)

-- a reading: lengths that are not right leave all as it came; else number, line and distance are the file's, and a refused file leaves zeros
pub record ReadsFromC (bytes : List ℕ) (n : ℕ) (ws ts out ws_after ts_after out_after : List ℕ) : Type 0 where
  pub lengths : (lowest (length_rows ws out 2 []) ≡ 0 → ⊥) →
      (n ≡ lowest (length_rows ws out 2 [])) × (ws_after ≡ ws) × (ts_after ≡ ts) × (out_after ≡ out)
  pub number : lowest (length_rows ws out 2 []) ≡ 0 → n ≡ (judged_file bytes ts).number
  pub line : lowest (length_rows ws out 2 []) ≡ 0 → out_after ≡ (judged_file bytes ts).line ∷ (judged_file bytes ts).distance ∷ []
  pub refused : lowest (length_rows ws out 2 []) ≡ 0 → (n ≡ 0 → ⊥) → (ws_after ≡ replicate record_words 0) × (ts_after ≡ replicate (length ts) 0)

-- ---- any input gets an answer

-- a function takes any arguments, and its contract makes this of arguments, result, and what is lent when the call ends
pub record Answers {K A X E : Type 0} (asked : K → A → Type 0) (said : K → A → X → E → Type 0) (so : A → X → E → Type 0) : Type 0 where
  pub any : AnyInput asked
  pub right : (κs : K) (a : A) (x : X) (e : E) → said κs a x e → so a x e

-- Of each call, `λ (rec, (table, _)) x (_, (table', _)).` names the arguments in the order of the parameters, the result x, and those
-- parameters that are lent to change, as they are when the call ends, with a `'`.
pub record Demand1 : Type 0 where
  pub opening : Answers timeline.«open».Reads.Asked timeline.«open».Reads.Learnt
      (λ (fields, (first, (table, _))) x (_, (_, (table', _))).
      Changes x table'.now (open_rows (head_of fields) (tick_of first)) zero_record table.now)
  -- a duration and a stamp are of 32 bits, as their types say
  pub append : Answers timeline.append.Reads.Asked timeline.append.Reads.Learnt
      (λ (rec, (table, (start, (duration, (count, _))))) x (_, (table', _)). duration ≤ largest_span →
      Appends x table'.now (append_tick_rows rec table.now start duration count) rec table.now
      (start.0 - rec.next.0) (rec.next.0 - start.0))
  pub append_stamp : Answers timeline.append_stamp.Reads.Asked timeline.append_stamp.Reads.Learnt
      (λ (rec, (table, (stamp, (duration, (count, _))))) x (_, (table', _)). duration ≤ largest_span → stamp.0 < 2 ^ 32 →
      Appends x table'.now (append_stamp_rows rec table.now stamp duration count) rec table.now
      (less32 stamp.0 rec.next.0) (less32 rec.next.0 stamp.0))
  pub append_trim : Answers timeline.append_trim.Reads.Asked timeline.append_trim.Reads.Learnt
      (λ (rec, (table, (stamp, (duration, (count, (clock, _)))))) x (_, (table', _)). duration ≤ largest_span → stamp.0 < 2 ^ 32 →
      Appends x table'.now (pair_rows rec table.now stamp duration count clock) rec table.now
      (less32 stamp.0 rec.next.0) (less32 rec.next.0 stamp.0))
  pub trim : Answers timeline.trim.Reads.Asked timeline.trim.Reads.Learnt
      (λ (rec, (table, (clock, _))) x (_, (table', _)). Changes x table'.now (trim_rows rec table.now clock) rec table.now)
  -- the calls that look: no word of the table can change
  pub verdict : Answers answers.verdicts.verdict.Reads.Asked answers.verdicts.verdict.Reads.Learnt
      (λ (rec, (table, (clock, _))) x _. GivesNumber (answer_number x) (verdict_rows rec table.now clock) (Only Err x))
  pub verdict_whole_lem : Answers answers.verdicts.verdict_whole.Reads.Asked answers.verdicts.verdict_whole.Reads.Learnt
      (λ (rec, (table, _)) x _. GivesNumber (answer_number x) (whole_rows rec table.now) (Only Err x))
  pub availability : Answers lookups.times.availability.Reads.Asked lookups.times.availability.Reads.Learnt
      (λ (rec, (table, (number, _))) x _.
      GivesNumber (answer_number x) (availability_rows rec table.now number) (Only Err x))
  pub available_at : Answers lookups.times.available_at.Reads.Asked lookups.times.available_at.Reads.Learnt
      (λ (rec, (table, (number, (clock, _)))) x _.
      GivesNumber (answer_number x) (available_rows rec table.now number clock) (Only Err x))
  pub full_tick_lem : Answers lookups.stamps.full_tick.Reads.Asked lookups.stamps.full_tick.Reads.Learnt
      (λ (rec, (table, _)) x _. GivesNumber (answer_number x) (full_tick_rows rec table.now) (Only Err x))
  pub touching_words_lem : Answers lookups.spans.touching_words.Reads.Asked lookups.spans.touching_words.Reads.Learnt
      (λ (rec, (table, (from, (to, _)))) x _. GivesNumber (answer_number x) (touching_rows rec table.now from to) (Only Err x))
  -- the part of the table itself gives no number: it is empty where the span lookup refuses
  pub touching : Answers lookups.spans.touching.Reads.Asked lookups.spans.touching.Reads.Learnt
      (λ (rec, (table, (from, (to, _)))) x _. (lowest (touching_rows rec table.now from to) ≡ 0 → ⊥) → x.now ≡ [])
  pub covered_edge_lem : Answers answers.edges.covered_edge.Reads.Asked answers.edges.covered_edge.Reads.Learnt
      (λ (rec, (table, _)) x _. GivesNumber (answer_number x) (edge_rows rec table.now) (Only Err x))
  -- reading, at once and piece by piece
  pub read : Answers file.read.Reads.Asked file.read.Reads.Learnt
      (λ (bytes, (table, _)) x (_, (table', _)). Reads bytes.now x table'.now table.now)
  pub begins : AnyInput file.begin.Reads.Asked
  pub feed : Answers file.feed.Reads.Asked file.feed.Reads.Learnt
      (λ (reader, (table, _)) x (_, (table', _)). Feeds reader table.now x table'.now)
  pub finish : Answers file.finish.Reads.Asked file.finish.Reads.Learnt
      (λ (reader, (table, _)) x (_, (table', _)). Finishes reader table.now x table'.now)
  pub write : Answers writing.write.Reads.Asked writing.write.Reads.Learnt
      (λ (rec, (table, (out, _))) x (_, (_, (out', _))).
      GivesNumber (answer_number x) (write_rows rec table.now (length out.now)) (out'.now ≡ out.now))
  -- the program answers each input by a line
  pub desk_begins : AnyInput report.begin.Reads.Asked
  pub desk_feed : AnyInput report.feed.Reads.Asked
  pub desk_answer : AnyInput report.answer.Reads.Asked
  pub desk_whole : AnyInput report.answer_whole.Reads.Asked
  -- C, opening: refused with 1, the words of a zero record
  pub c_open : Answers c.flonterri_open.Reads.Asked c.flonterri_open.Reads.Learnt
      (λ (rec, (table, (timescale, (offset, (start, (duration, (depth, (number, (update, (first, _)))))))))) x (rec', (table', _)).
      OpensFromC x rec.now table.now (head_with timescale offset start duration depth number update) first rec'.now table'.now)
  -- C, appends and trim
  pub c_append : Answers c.flonterri_append.Reads.Asked c.flonterri_append.Reads.Learnt
      (λ (rec, (table, (start, (duration, (count, (out, _)))))) x (rec', (table', (_, (_, (_, (out', _)))))). duration ≤ largest_span →
      AppendsFromC x rec.now table.now out.now rec'.now table'.now out'.now
      (append_tick_rows (record_of rec.now) table.now (record { 0 = start }) duration count)
      (start - (record_of rec.now).next.0) ((record_of rec.now).next.0 - start))
  pub c_append_stamp : Answers c.flonterri_append_stamp.Reads.Asked c.flonterri_append_stamp.Reads.Learnt
      (λ (rec, (table, (stamp, (duration, (count, (out, _)))))) x (rec', (table', (_, (_, (_, (out', _)))))). duration ≤ largest_span → stamp < 2 ^ 32 →
      AppendsFromC x rec.now table.now out.now rec'.now table'.now out'.now
      (append_stamp_rows (record_of rec.now) table.now (record { 0 = stamp }) duration count)
      (less32 stamp (record_of rec.now).next.0) (less32 (record_of rec.now).next.0 stamp))
  pub c_append_trim : Answers c.flonterri_append_trim.Reads.Asked c.flonterri_append_trim.Reads.Learnt
      (λ (rec, (table, (stamp, (duration, (count, (clock, (out, _))))))) x (rec', (table', (_, (_, (_, (_, (out', _))))))). duration ≤ largest_span → stamp < 2 ^ 32 →
      AppendsFromC x rec.now table.now out.now rec'.now table'.now out'.now
      (pair_rows (record_of rec.now) table.now (record { 0 = stamp }) duration count (record { 0 = clock }))
      (less32 stamp (record_of rec.now).next.0) (less32 (record_of rec.now).next.0 stamp))
  pub c_trim : Answers c.flonterri_trim.Reads.Asked c.flonterri_trim.Reads.Learnt
      (λ (rec, (table, (clock, _))) x (rec', (table', _)).
      ChangesFromC x rec.now table.now rec'.now table'.now (trim_rows (record_of rec.now) table.now (record { 0 = clock })))
  -- C, the calls that look
  pub c_verdict : Answers c.flonterri_verdict.Reads.Asked c.flonterri_verdict.Reads.Learnt
      (λ (rec, (table, (clock, (out, _)))) x (_, (_, (_, (out', _)))).
      TellsC x rec.now 5 (verdict_rows (record_of rec.now) table.now (record { 0 = clock })) out.now out'.now)
  pub c_verdict_whole : Answers c.flonterri_verdict_whole.Reads.Asked c.flonterri_verdict_whole.Reads.Learnt
      (λ (rec, (table, (out, _))) x (_, (_, (out', _))).
      TellsC x rec.now 5 (whole_rows (record_of rec.now) table.now) out.now out'.now)
  pub c_availability : Answers c.flonterri_availability.Reads.Asked c.flonterri_availability.Reads.Learnt
      (λ (rec, (table, (number, (out, _)))) x (_, (_, (_, (out', _)))).
      TellsC x rec.now 3 (availability_rows (record_of rec.now) table.now (record { 0 = number })) out.now out'.now)
  pub c_available_at : Answers c.flonterri_available_at.Reads.Asked c.flonterri_available_at.Reads.Learnt
      (λ (rec, (table, (number, (clock, (out, _))))) x (_, (_, (_, (_, (out', _))))).
      TellsC x rec.now 1 (available_rows (record_of rec.now) table.now (record { 0 = number }) (record { 0 = clock })) out.now out'.now)
  pub c_full_tick : Answers c.flonterri_full_tick.Reads.Asked c.flonterri_full_tick.Reads.Learnt
      (λ (rec, (table, (_, (out, _)))) x (_, (_, (_, (out', _)))).
      TellsC x rec.now 2 (full_tick_rows (record_of rec.now) table.now) out.now out'.now)
  pub c_touching : Answers c.flonterri_touching.Reads.Asked c.flonterri_touching.Reads.Learnt
      (λ (rec, (table, (from, (to, (out, _))))) x (_, (_, (_, (_, (out', _))))).
      TellsC x rec.now 2 (touching_rows (record_of rec.now) table.now (record { 0 = from }) (record { 0 = to })) out.now out'.now)
  pub c_covered_edge : Answers c.flonterri_covered_edge.Reads.Asked c.flonterri_covered_edge.Reads.Learnt
      (λ (rec, (table, (out, _))) x (_, (_, (out', _))).
      TellsC x rec.now 2 (edge_rows (record_of rec.now) table.now) out.now out'.now)
  -- C, reading and writing
  pub c_read : Answers c.flonterri_read.Reads.Asked c.flonterri_read.Reads.Learnt
      (λ (bytes, (rec, (table, (out, _)))) x (_, (rec', (table', (out', _)))).
      ReadsFromC bytes.now x rec.now table.now out.now rec'.now table'.now out'.now)
  pub c_write : Answers c.flonterri_write.Reads.Asked c.flonterri_write.Reads.Learnt
      (λ (rec, (table, (bytes, (out, _)))) x (_, (_, (bytes', (out', _)))).
      GivesNumber x (length_rows rec.now out.now 1 (write_rows (record_of rec.now) table.now (length bytes.now)))
      ((bytes'.now ≡ bytes.now) × (out'.now ≡ out.now)))
