-- The by_hand table holds. The calls compute: each state is the one before it after one call. Verdicts come from the closed
-- forms of the counts, and what speaks of every tick from the laws of the window.
use Rattle.agreement.specs.Numbers.{answer_number}
use Prim.Native.Nat.{ℕ, ◌≤◌, ◌<◌}
use mathlib.Core.Path.{◌≡◌, refl, sym, ap, ap₂, ◌∙◌}
use mathlib.Core.Bool.{true, cond}
use mathlib.Core.List.{List, [], ◌∷◌, ◌++◌}
use native.Mathlib.Omega.{arith}
use borrow.Author.Tests.{eqb-false, lt-leb}
use lib.Dec.{lit<, lit≤, leb}
use lib.ListN.{length, get_or, drop, replicate}
use Rattle.units.specs.Limits.{clock_held}
use Rattle.units.specs.Standing.{less32}
use Rattle.units.specs.declared.WideMillis.{WideMillis}
use Rattle.window.specs.Place.{place, moment, period_end, end_known}
use Rattle.window.specs.Window.{low_edge, high_edge, window_at, whole_period}
use Rattle.window.specs.Ticks.{named, NeededTicks}
use Rattle.window.specs.declared.Ticks.{Ticks}
use Rattle.window.proofs.Division.{ticks_needed, window_ticks, window_none, period_ticks}
use Rattle.runs.specs.Words.{runs_of, words_of, repeated, references_of}
use Rattle.runs.specs.Shape.{runs_shaped, zeros}
use Rattle.runs.specs.Ends.{last_end}
use Rattle.runs.specs.Encoding.{push, encode, table_of}
use Rattle.agreement.specs.declared.Record.{Record}
use Rattle.agreement.specs.declared.refusal.Refusal.TheVariants.{Disagreement, ClockLimit, EarlierClock, ShortOutput, EndUnknown}
use Rattle.agreement.specs.Agreement.{every, agrees, kept}
use Rattle.std.specs.Prelude.{Err, None, Option, Some, Ok}
use Rattle.keeping.specs.Keeping.{unspent, changed_by, words_by}
use Rattle.keeping.specs.Append.{room_outcome, fit_outcome}
use Rattle.timeline.specs.Opening.{open_outcome}
use Rattle.timeline.specs.Appending.{append_outcome}
use Rattle.timeline.specs.Trimming.{trim_outcome}
use Rattle.answers.specs.declared.Verdict.{Verdict}
use Rattle.answers.specs.declared.Verdict.TheVariants.{Nothing, Complete, Lacking}
use Rattle.answers.specs.Judgement.{verdict_of, verdict_at, verdict_whole}
use Rattle.answers.specs.Shares.{verdict_percent}
use Rattle.answers.specs.Ranges.{in_range, verdict_by, past_named}
use Rattle.answers.proofs.Agreed.{first_reach, agreed_verdict}
use Rattle.answers.proofs.Judging.{all_covered, first_lacking, end_lacking, judge_nothing}
use Rattle.lookups.specs.Available.{numbered, kept_number, number_availability, availability_in}
use Rattle.hexdigits.specs.Digits as hex
use Rattle.frames.specs.Fields as fields
use Rattle.frames.specs.Frames as frames
use Rattle.hexdigits.specs.Ascii.{ascii}
use Rattle.file.specs.Lines.{lines_from, rest_from}
use Rattle.file.specs.Least.{least_from, least_count}
use Rattle.file.specs.Judging as judging
use Rattle.file.specs.Judging.{read_answer, read_table}
use Rattle.writing.specs.Writing as writing
use Rattle.writing.specs.Writing.{file_for, write_answer, output_by}
use Rattle.laws.specs.Calls.{State}
use Rattle.laws.specs.ByHand.{ByHand, gap_by, wide, millis, number, head_a, head_b, head_d, appending, append_of, trimming, trim_of, both_a, five_b, trim_b1, trim_b2, trim_b3, head_line_b, file_b, one_d, two_d, file_d, state_of}
use Rattle.laws.specs.Demand2.{output}
use Rattle.laws.proofs.Files.{written}

-- ---- the states that the calls leave

abbrev pub state_a : State
state_a = state_of head_a 2 0 161 0 2 (111 ∷ 40 ∷ 1 ∷ 151 ∷ 10 ∷ 1 ∷ [])

abbrev pub state_b : State
state_b = state_of head_b 5 0 20_000 0 1 (0 ∷ 4000 ∷ 5 ∷ [])

abbrev state_b1 : State
state_b1 = state_of head_b 5 0 20_000 13_999 1 (0 ∷ 4000 ∷ 5 ∷ [])

abbrev pub state_b2 : State
state_b2 = state_of head_b 5 1 20_000 14_000 1 (4000 ∷ 4000 ∷ 4 ∷ [])

abbrev state_b3 : State
state_b3 = state_of head_b 5 2 20_000 18_000 1 (8000 ∷ 4000 ∷ 3 ∷ [])

abbrev state_d1 : State
state_d1 = state_of head_d 1 0 1 0 1 (0 ∷ 1 ∷ 1 ∷ [])

abbrev pub state_d2 : State
state_d2 = state_of head_d 2 0 2 0 1 (0 ∷ 1 ∷ 2 ∷ [])

-- each call from the state that stands before it
record Steps : Type 0 where
  a : both_a ≡ state_a
  a_gap : append_of state_a 170 10 1 ≡ gap_by 9
  b : five_b ≡ state_b
  b_13999 : trim_of state_b 13_999 ≡ Ok tt
  b_none : trimming state_b 13_999 ≡ state_b1
  b_14000 : trim_of state_b1 14_000 ≡ Ok tt
  b_one : trimming state_b1 14_000 ≡ state_b2
  b_18000 : trim_of state_b2 18_000 ≡ Ok tt
  b_two : trimming state_b2 18_000 ≡ state_b3
  b_14000_alone : trimming state_b 14_000 ≡ state_b2
  b_14001_alone : trimming state_b 14_001 ≡ state_of head_b 5 1 20_000 14_001 1 (4000 ∷ 4000 ∷ 4 ∷ [])
  b_18000_alone : trimming state_b 18_000 ≡ state_b3
  d_one : one_d ≡ state_d1
  d_first : append_of state_d1 1 1 1 ≡ Ok tt
  d_two : appending state_d1 1 1 1 ≡ state_d2
  d_past : answer_number (append_of state_d2 2 1 1) ≡ 8

steps : Steps
unfolding agrees runs_of words_of repeated references_of runs_shaped zeros last_end every place moment period_end low_edge push encode table_of unspent changed_by words_by open_outcome room_outcome fit_outcome append_outcome trim_outcome
steps =
    record {
      a = refl;
      a_gap = refl;
      b = refl;
      b_13999 = refl;
      b_none = refl;
      b_14000 = refl;
      b_one = refl;
      b_18000 = refl;
      b_two = refl;
      b_14000_alone = refl;
      b_14001_alone = refl;
      b_18000_alone = refl;
      d_one = refl;
      d_first = refl;
      d_two = refl;
      d_past = refl;
    }

b_none : trim_b1 ≡ state_b1
b_none = ap (λ s. trimming s 13_999) steps.b ∙ steps.b_none

b_one : trim_b2 ≡ state_b2
b_one = ap (λ s. trimming s 14_000) b_none ∙ steps.b_one

b_two : trim_b3 ≡ state_b3
b_two = ap (λ s. trimming s 18_000) b_one ∙ steps.b_two

d_two : two_d ≡ state_d2
d_two = ap (λ s. appending s 1 1 1) steps.d_one ∙ steps.d_two

pub record Agree : Type 0 where
  pub a : agrees state_a.rec state_a.words ≡ true
  pub b : agrees state_b.rec state_b.words ≡ true
  pub b_after : agrees state_b3.rec state_b3.words ≡ true
  pub d_one : agrees state_d1.rec state_d1.words ≡ true
  pub d_two : agrees state_d2.rec state_d2.words ≡ true

pub agreed : Agree
unfolding agrees runs_of repeated references_of runs_shaped zeros last_end every place moment period_end low_edge
agreed = record { a = refl; b = refl; b_after = refl; d_one = refl; d_two = refl }

-- ---- the file of case B

record Wrote : Type 0 where
  bytes : file_for state_b3.rec state_b3.words ≡ file_b
  long : length file_b ≡ 145
  head_line_lem : length head_line_b ≡ 98

wrote : Wrote
unfolding runs_of repeated references_of push encode writing.file_of writing.s_frames writing.later_frames writing.bytes_of frames.ended_line frames.line_of fields.field_digits hex.digits_of hex.digit_of ascii
wrote = record { bytes = refl; long = refl; head_line_lem = refl }

b_written : (room : ℕ) → 145 ≤ room → write_answer state_b3.rec state_b3.words room ≡ Ok 145
b_written room l =
    (written state_b3.rec state_b3.words room 145).if
    (record { agreed = agreed.b_after; some = lit≤ tt; long = sym (ap length wrote.bytes ∙ wrote.long); fits = l })

b_output : (out : List ℕ) → 145 ≤ length out → output state_b3.rec state_b3.words out ≡ file_b ++ drop 145 out
unfolding output_by
b_output out l = ap₂ (λ y bytes. output_by y bytes out) (b_written (length out) l) wrote.bytes

b_short : (room : ℕ) → room < 145 → answer_number (write_answer state_b3.rec state_b3.words room) ≡ 15
unfolding write_answer
b_short room l =
    ap (λ x. answer_number {A = ℕ} (cond x (cond (leb (length (file_for state_b3.rec state_b3.words)) room) (Ok (length (file_for state_b3.rec state_b3.words))) (Err ShortOutput)) (Err Disagreement)))
    agreed.b_after ∙
    ap (λ (n : ℕ). answer_number {A = ℕ} (cond (leb n room) (Ok n) (Err ShortOutput))) (ap length wrote.bytes ∙ wrote.long) ∙
    ap (λ x. answer_number {A = ℕ} (cond x (Ok 145) (Err ShortOutput))) (lt-leb 145 room l)

-- ---- a verdict by its ranges

module _ (rec : Record) (ws : List ℕ) (a : agrees rec ws ≡ true) (o : rec.used ≡ 0 → ⊥) where
  pub by_clock : (c : WideMillis) → clock_held c ≡ true → leb rec.clock.0 c.0 ≡ true → (x : Option Ticks) (v : Verdict) → NeededTicks rec.head (window_at rec.head c.0) x →
      v ≡ verdict_by (named x) (in_range (get_or ws 0 0) rec.next.0) (past_named x) → verdict_at rec ws c ≡ Ok v
  by_clock c m l x v n e =
      let u : Verdict = verdict_of rec.head (window_at rec.head c.0) (kept rec ws) in
      ap (λ s. cond s (cond (clock_held c) (cond (leb rec.clock.0 c.0) (Ok u) (Err EarlierClock)) (Err ClockLimit)) (Err Disagreement)) a ∙
      ap₂ (λ s t. cond s (cond t (Ok u) (Err EarlierClock)) (Err ClockLimit)) m l ∙
      ap Ok (sym (agreed_verdict rec ws a (window_at rec.head c.0) x (get_or ws 0 0) v n (first_reach rec ws a o) e))

  pub by_period : end_known rec.head ≡ true → (x : Option Ticks) (v : Verdict) → NeededTicks rec.head (whole_period rec.head) x →
      v ≡ verdict_by (named x) (in_range (get_or ws 0 0) rec.next.0) (past_named x) → verdict_whole rec ws ≡ Ok v
  by_period k x v n e =
      let u : Verdict = verdict_of rec.head (whole_period rec.head) (kept rec ws) in
      ap₂ (λ s t. cond s (cond t (Ok u) (Err EndUnknown)) (Err Disagreement)) a k ∙
      ap Ok (sym (agreed_verdict rec ws a (whole_period rec.head) x (get_or ws 0 0) v n (first_reach rec ws a o) e))

two_runs : ◌≡◌ {A = ℕ} 2 0 → ⊥
two_runs = eqb-false 2 0 refl

pub one_run : ◌≡◌ {A = ℕ} 1 0 → ⊥
one_run = eqb-false 1 0 refl

b_lacking : verdict_at five_b.rec five_b.words (millis 20_001) ≡ Ok (Lacking 10_000 9_999 (wide 20_000))
b_lacking =
    ap (λ s. verdict_at s.rec s.words (millis 20_001)) steps.b ∙
    by_clock state_b.rec state_b.words agreed.b one_run (millis 20_001) refl refl (Some (record { first = wide 10_001; end = wide 20_001 })) (Lacking 10_000 9_999 (wide 20_000))
    (window_ticks head_b 20_001 (lit< tt))
    (end_lacking 10_001 20_001 0 20_000 (lit< tt) 10_001 20_000 refl refl (eqb-false 9_999 10_000 refl) (lit< tt) (lit≤ tt))

record File : Type 0 where
  answer : read_answer file_d (replicate 3 0) ≡ record { outcome = Ok tt; rec = state_d2.rec; line = 0 }
  table : read_table file_d (replicate 3 0) ≡ state_d2.words

file : File
unfolding agrees runs_of words_of repeated references_of runs_shaped zeros last_end every place moment period_end low_edge push encode table_of unspent changed_by words_by open_outcome room_outcome fit_outcome append_outcome trim_outcome hex.between hex.is_digit hex.value_of hex.are_digits hex.number_of fields.field_values frames.frame_as frames.frame_of ascii lines_from rest_from least_from least_count judging.settled_reading judging.reach_outcome judging.reaches_by judging.take_s judging.take_first_s judging.take_head judging.take_end judging.on_nothing judging.on_headed judging.on_open judging.on_filled judging.take_line judging.take_lines judging.read_lines judging.read_outcome judging.read_answer judging.read_table
file = record { answer = refl; table = refl }

-- ---- the table

pub by_hand : ByHand
unfolding agrees runs_of words_of repeated references_of runs_shaped zeros last_end every place moment period_end low_edge push encode table_of unspent changed_by words_by open_outcome room_outcome fit_outcome append_outcome trim_outcome less32 high_edge numbered
by_hand =
    record {
      a_open = refl;
      a_first = refl;
      a_second = refl;
      a_next = refl;
      a_state = steps.a;
      a_gap = ap (λ s. append_of s 170 10 1) steps.a ∙ steps.a_gap;
      a_available =
          ap (λ s. availability_in s.rec s.words (number 0)) steps.a ∙
          ap (λ t. cond t (number_availability head_a (kept_number state_a.rec state_a.words 0)) (Err Disagreement)) agreed.a;
      a_whole =
          ap (λ s. verdict_whole s.rec s.words) steps.a ∙
          by_period state_a.rec state_a.words agreed.a two_runs refl (Some (record { first = wide 100; end = wide 200 })) (Lacking 100 50 (wide 100))
          (period_ticks head_a (lit< tt))
          (first_lacking 100 200 111 161 (lit< tt) 111 161 refl refl (eqb-false 50 100 refl) (lit< tt));
      b_open = refl;
      b_append = refl;
      b_state = steps.b;
      b_13999 = ap (λ s. trim_of s 13_999) steps.b ∙ steps.b_13999;
      b_none = b_none;
      b_14000 = ap (λ s. trim_of s 14_000) b_none ∙ steps.b_14000;
      b_one = b_one;
      b_18000 = ap (λ s. trim_of s 18_000) b_one ∙ steps.b_18000;
      b_two = b_two;
      b_14000_alone = ap (λ s. trimming s 14_000) steps.b ∙ steps.b_14000_alone;
      b_14001_alone = ap (λ s. trimming s 14_001) steps.b ∙ steps.b_14001_alone;
      b_18000_alone = ap (λ s. trimming s 18_000) steps.b ∙ steps.b_18000_alone;
      b_complete =
          ap (λ s. verdict_at s.rec s.words (millis 14_000)) steps.b ∙
          by_clock state_b.rec state_b.words agreed.b one_run (millis 14_000) refl refl (Some (record { first = wide 4_000; end = wide 14_000 })) (Complete 10_000)
          (window_ticks head_b 14_000 (lit< tt))
          (all_covered 4_000 14_000 0 20_000 (lit< tt) 4_000 14_000 refl refl refl);
      b_lacking = b_lacking;
      b_percent = ap verdict_percent b_lacking;
      b_nothing =
          ap (λ s. verdict_at s.rec s.words (millis 0)) steps.b ∙
          by_clock state_b.rec state_b.words agreed.b one_run (millis 0) refl refl None Nothing (window_none head_b 0 (lit≤ tt))
          (judge_nothing None (in_range 0 20_000) refl);
      b_available =
          ap (λ s. availability_in s.rec s.words (number 3)) steps.b ∙
          ap (λ t. cond t (number_availability head_b (kept_number state_b.rec state_b.words 3)) (Err Disagreement)) agreed.b;
      b_available_after =
          ap (λ s. availability_in s.rec s.words (number 3)) b_two ∙
          ap (λ t. cond t (number_availability head_b (kept_number state_b3.rec state_b3.words 3)) (Err Disagreement)) agreed.b_after;
      b_head_line = wrote.head_line_lem;
      b_written = λ out l. ap (λ s. write_answer s.rec s.words (length out)) b_two ∙ b_written (length out) l;
      b_file = λ out l. ap (λ s. output s.rec s.words out) b_two ∙ b_output out l;
      b_short = λ room l. ap (λ s. answer_number (write_answer s.rec s.words room)) b_two ∙ b_short room l;
      c_joins = refl;
      c_gap = refl;
      c_overlap = refl;
      c_last_gap = refl;
      c_first_overlap = refl;
      c_open = refl;
      c_2704 = refl;
      c_2705 = refl;
      c_2703 = refl;
      c_2147486351 = refl;
      c_2147486352 = refl;
      c_state = refl;
      d_open = refl;
      d_needed = ticks_needed head_d 0 1500 (omega arith);
      d_one = refl;
      d_lacking =
          ap (λ s. verdict_whole s.rec s.words) steps.d_one ∙
          by_period state_d1.rec state_d1.words agreed.d_one one_run refl (Some (record { first = wide 0; end = wide 2 })) (Lacking 2 1 (wide 1))
          (period_ticks head_d (lit< tt))
          (end_lacking 0 2 0 1 (lit< tt) 0 1 refl refl (eqb-false 1 2 refl) (lit< tt) (lit≤ tt));
      d_read = file.answer ∙ ap (λ s. record { outcome = Ok tt; rec = s.rec; line = 0 }) (sym d_two);
      d_table = file.table ∙ ap (λ s. s.words) (sym d_two);
      d_two = ap (λ s. append_of s 1 1 1) steps.d_one ∙ steps.d_first;
      d_state = d_two;
      d_complete =
          ap (λ s. verdict_whole s.rec s.words) d_two ∙
          by_period state_d2.rec state_d2.words agreed.d_two one_run refl (Some (record { first = wide 0; end = wide 2 })) (Complete 2)
          (period_ticks head_d (lit< tt))
          (all_covered 0 2 0 2 (lit< tt) 0 2 refl refl refl);
      d_past = ap (λ s. answer_number (append_of s 2 1 1)) d_two ∙ steps.d_past;
    }
