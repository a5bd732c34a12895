-- What C and Rust see of a call: the paper's refusal number, 0 where the call is accepted, and every word and byte lent to it when it returns.
-- Lengths are judged before all else, and where one is wrong all memory stays as it came. Behind the lengths each call is the one that Rattle
-- code makes, for the record that the words mean. In what follows ws are the record's words as they came, ts the table's. Paper: Refusal numbers.
use Rattle.std.specs.Prelude.{Result, ℕ, List, [], ◌∷◌, eqb, length, ℤ}
use Rattle.units.specs.Standing.{tick_standing, stamp_standing}
use Rattle.agreement.specs.Rows.{◌unless◌else◌}
use Rattle.agreement.specs.declared.Record.{Record}
use Rattle.keeping.specs.declared.Changed.{Changed}
use Rattle.keeping.specs.Keeping.{Outcome}
use Rattle.agreement.specs.Numbers.{answer_distance, answer_number}
use Rattle.timeline.specs.Opening.{open_answer, open_table}
use Rattle.timeline.specs.Appending.{append_answer, append_table}
use Rattle.timeline.specs.Trimming.{trim_answer, trim_table}
use Rattle.timeline.specs.Pair.{pair_answer, pair_table}
use Rattle.answers.specs.Judgement.{verdict_at, verdict_whole}
use Rattle.answers.specs.Edge.{covered_edge}
use Rattle.lookups.specs.Available.{availability_in, available_in}
use Rattle.lookups.specs.Stamps.{full_tick_in}
use Rattle.lookups.specs.Spans.{touching_words}
use Rattle.file.specs.declared.ReadAnswer.{ReadAnswer}
use Rattle.file.specs.Judging.{read_answer, read_table}
use Rattle.agreement.specs.declared.refusal.Refusal.{Refusal}
use Rattle.writing.specs.Writing.{write_answer, output_by, file_for}
use Rattle.words.specs.Words.{head_with, record_of, words_of}
use Rattle.words.specs.Lengths.{wrong_record, wrong_length}
use Rattle.words.specs.Tells.{Tells, tells_by, words_of_verdict, words_of_availability, words_of_touching, words_of_length, words_of_available, words_of_tick, words_of_edge, distance_out}

-- ---- guarded by lengths

-- by the number of the lengths: 0 and the call comes to what stands behind, else all is as it came
unfoldable pub guarded : {A : Type 0} → ℕ → (ℕ → A) → A → A
guarded wrong came call = came wrong unless eqb wrong 0 else call

-- ---- the calls that change

-- the number, the record's words and the table's
pub record Changes : Type 0 where
  pub number : ℕ
  pub words : List ℕ
  pub table : List ℕ

-- by what the call answers and the words that it leaves in the table: its record is as it came where it is refused, and zero where an opening is
unfoldable pub changes : List ℕ → List ℕ → Changed → List ℕ → Changes
changes ws ts x new =
    guarded (wrong_record (length ws)) (λ wrong. record { number = wrong; words = ws; table = ts })
    (record { number = answer_number x.outcome; words = words_of x.rec; table = new })

unfoldable pub opens : List ℕ → List ℕ → ℕ → ℕ → ℕ → ℕ → ℕ → ℕ → ℕ → ℕ → Changes
opens ws ts timescale offset start duration depth first update tick =
    let h = head_with timescale offset start duration depth first update in
    changes ws ts (open_answer h (record { 0 = tick })) (open_table h (record { 0 = tick }) ts)

unfoldable pub trims : List ℕ → List ℕ → ℕ → Changes
trims ws ts c = changes ws ts (trim_answer (record_of ws) ts (record { 0 = c })) (trim_table (record_of ws) ts (record { 0 = c }))

-- ---- the calls that change and tell

-- the number, the record's words, the table's, and out
pub record Leaves : Type 0 where
  pub number : ℕ
  pub words : List ℕ
  pub table : List ℕ
  pub out : List ℕ

-- by the outcome of the call, its record, the words that it leaves in the table, and what it tells in an out of n words
unfoldable pub leaves : List ℕ → List ℕ → List ℕ → ℕ → Outcome → Record → List ℕ → List ℕ → Leaves
leaves ws ts out n o rec new told =
    guarded (wrong_length (length ws) (length out) n) (λ wrong. record { number = wrong; words = ws; table = ts; out = out })
    (record { number = answer_number o; words = words_of rec; table = new; out = told })

-- an append, by itself or with a trim behind it, tells the distance where it is refused with 4 or 5, and else leaves out as it came
abbrev pub appends_by : List ℕ → List ℕ → List ℕ → Changed → List ℕ → Leaves
appends_by ws ts out x new = leaves ws ts out 1 x.outcome x.rec new (distance_out x.outcome out)

unfoldable pub appends : List ℕ → List ℕ → List ℕ → ℕ → ℕ → ℕ → Leaves
appends ws ts out start d n =
    let st = tick_standing (record { 0 = start }) (record_of ws).next in
    appends_by ws ts out (append_answer (record_of ws) ts st d n) (append_table (record_of ws) ts st d n)

unfoldable pub appends_stamp : List ℕ → List ℕ → List ℕ → ℕ → ℕ → ℕ → Leaves
appends_stamp ws ts out stamp d n =
    let st = stamp_standing (record { 0 = stamp }) (record_of ws).next in
    appends_by ws ts out (append_answer (record_of ws) ts st d n) (append_table (record_of ws) ts st d n)

unfoldable pub appends_trim : List ℕ → List ℕ → List ℕ → ℕ → ℕ → ℕ → ℕ → Leaves
appends_trim ws ts out stamp d n c =
    let st = stamp_standing (record { 0 = stamp }) (record_of ws).next in
    appends_by ws ts out (pair_answer (record_of ws) ts st d n (record { 0 = c })) (pair_table (record_of ws) ts st d n (record { 0 = c }))

-- ---- the calls that look

-- by what the call tells in an out of n words: refused, out is as it came
unfoldable pub tells : {A : Type 0} → List ℕ → ℕ → (List A → Tells A) → List A → Tells A
tells ws n call out = guarded (wrong_length (length ws) (length out) n) (λ wrong. record { number = wrong; out = out }) (call out)

unfoldable pub tells_verdict : List ℕ → List ℕ → ℕ → List ℕ → Tells ℕ
tells_verdict ws ts c out = tells ws 5 (tells_by words_of_verdict (verdict_at (record_of ws) ts (record { 0 = c }))) out

unfoldable pub tells_whole : List ℕ → List ℕ → List ℕ → Tells ℕ
tells_whole ws ts out = tells ws 5 (tells_by words_of_verdict (verdict_whole (record_of ws) ts)) out

unfoldable pub tells_availability : List ℕ → List ℕ → ℕ → List ℤ → Tells ℤ
tells_availability ws ts n out = tells ws 3 (tells_by words_of_availability (availability_in (record_of ws) ts (record { 0 = n }))) out

unfoldable pub tells_available : List ℕ → List ℕ → ℕ → ℕ → List ℕ → Tells ℕ
tells_available ws ts n c out = tells ws 1 (tells_by words_of_available (available_in (record_of ws) ts (record { 0 = n }) (record { 0 = c }))) out

unfoldable pub tells_full_tick : List ℕ → List ℕ → ℕ → List ℕ → Tells ℕ
tells_full_tick ws ts stamp out = tells ws 2 (tells_by words_of_tick (full_tick_in (record_of ws) ts (record { 0 = stamp }))) out

unfoldable pub tells_touching : List ℕ → List ℕ → ℕ → ℕ → List ℕ → Tells ℕ
tells_touching ws ts a b out = tells ws 2 (tells_by words_of_touching (touching_words (record_of ws) ts (record { 0 = a }) (record { 0 = b }))) out

unfoldable pub tells_edge : List ℕ → List ℕ → List ℕ → Tells ℕ
tells_edge ws ts out = tells ws 2 (tells_by words_of_edge (covered_edge (record_of ws) ts)) out

-- ---- the file

-- reading: refused, record and table are zero; out has the refused line, 0 where the file is accepted, and the distance, 0 where there is none
abbrev pub reads_by : List ℕ → List ℕ → List ℕ → ReadAnswer → List ℕ → Leaves
reads_by ws ts out x new = leaves ws ts out 2 x.outcome x.rec new (x.line ∷ answer_distance x.outcome ∷ [])

unfoldable pub reads : List ℕ → List ℕ → List ℕ → List ℕ → Leaves
reads bytes ws ts out = reads_by ws ts out (read_answer bytes ts) (read_table bytes ts)

-- writing: the number, the bytes, and out, which has the length
pub record Writes : Type 0 where
  pub number : ℕ
  pub bytes : List ℕ
  pub out : List ℕ

-- by what the writing answers and the bytes that it leaves
unfoldable pub writes_by : List ℕ → List ℕ → List ℕ → Result ℕ Refusal → List ℕ → Writes
writes_by ws bytes out x new =
    guarded (wrong_length (length ws) (length out) 1) (λ wrong. record { number = wrong; bytes = bytes; out = out })
    (record { number = (tells_by words_of_length x out).number; bytes = new; out = (tells_by words_of_length x out).out })

unfoldable pub writes : List ℕ → List ℕ → List ℕ → List ℕ → Writes
writes ws ts bytes out =
    let answer = write_answer (record_of ws) ts (length bytes) in
    writes_by ws bytes out answer (output_by answer (file_for (record_of ws) ts) bytes)
