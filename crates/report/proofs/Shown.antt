-- The paper's lines are what the definition answers: the tests compute, and the verdicts are those of the worked cases.
use mathlib.Core.Path.{◌≡◌, refl, sym, ap, ap₂, ◌∙◌}
use mathlib.Core.Bool.{true, cond}
use mathlib.Core.List.{List, [], ◌∷◌, ◌++◌}
use Prim.Native.Nat.{ℕ}
use borrow.Author.Tests.{eqb-false}
use lib.Dec.{lit<, lit≤, leb}
use lib.ListN.{replicate}
use Rattle.units.specs.declared.Millis.{Millis}
use Rattle.units.specs.declared.WideMillis.{WideMillis}
use Rattle.units.specs.Limits.{clock_held}
use Rattle.window.specs.Limits.{head_of}
use Rattle.units.specs.declared.WideTick.{WideTick}
use Rattle.report.specs.Clock.{ClockLine}
use Rattle.window.specs.declared.Ticks.{Ticks}
use Rattle.window.specs.Place.{place, moment, period_end}
use Rattle.window.specs.Window.{low_edge, window_at}
use Rattle.window.specs.Ticks.{named, NeededTicks}
use Rattle.window.proofs.Division.{window_ticks, window_none}
use Rattle.runs.specs.Words.{runs_of, words_of, repeated, references_of}
use Rattle.runs.specs.Shape.{runs_shaped, zeros}
use Rattle.runs.specs.Ends.{last_end}
use Rattle.runs.specs.Encoding.{push, encode, table_of}
use Rattle.agreement.specs.declared.Record.{Record}
use Rattle.agreement.specs.declared.refusal.Refusal.{Refusal}
use Rattle.agreement.specs.declared.refusal.Refusal.TheVariants.{Disagreement, ClockLimit, EarlierClock, EndUnknown}
use Rattle.agreement.specs.Agreement.{agrees, every, kept}
use Rattle.std.specs.Prelude.{Err, None, Option, Some, Ok, Result}
use Rattle.keeping.specs.Keeping.{unspent, words_by}
use Rattle.keeping.specs.Append.{fit_outcome, room_outcome}
use Rattle.timeline.specs.Opening.{open_outcome}
use Rattle.timeline.specs.Appending.{append_outcome}
use Rattle.answers.specs.declared.Verdict.{Verdict}
use Rattle.answers.specs.declared.Verdict.TheVariants as verdict
use Rattle.answers.specs.Judgement.{verdict_of, verdict_at, verdict_whole}
use Rattle.answers.specs.Ranges.{in_range, verdict_by, past_named}
use Rattle.answers.proofs.Agreed.{first_reach, agreed_verdict}
use Rattle.answers.proofs.Judging.{all_covered, end_lacking, judge_nothing}
use Rattle.file.specs.declared.ReadAnswer.{ReadAnswer}
use Rattle.file.specs.Lines.{lines_from, rest_from, has_feed, first_line, behind_first}
use Rattle.file.specs.Judging.{settled_reading, on_nothing, on_headed, on_open, take_head, take_first_s, take_s, take_end, take_line, take_lines, read_lines, read_outcome, read_answer, read_table}
use Rattle.hexdigits.specs.Digits.{between, is_digit, value_of, are_digits, number_of}
use Rattle.frames.specs.Fields.{field_values}
use Rattle.frames.specs.Frames.{frame_as, frame_of}
use Rattle.hexdigits.specs.Ascii.{ascii}
use Rattle.frames.specs.Worked.{fields_b}
use Rattle.wording.specs.Text.{decimal_by, decimal, distance_text, share_text, refused_text, verdict_text, text_of}
use Rattle.report.specs.declared.Asked.TheVariants.{At, Whole}
use Rattle.report.specs.Clock.{asked_on}
use Rattle.report.specs.Answer.{asked_in, judged, reply_on, reply_in, table_length, answer}
use Rattle.report.specs.Worked.{head_line, s_line, file_b, file_gap, Lines}

-- ---- what is refused

empty : answer [] ≡ ascii "refused 16 line 0" ++ 10 ∷ []
unfolding reply_in reply_on asked_in has_feed text_of refused_text distance_text decimal decimal_by ascii
empty = refl

alone : answer (ascii "0400000000000036b0" ++ 10 ∷ []) ≡ ascii "refused 16 line 1" ++ 10 ∷ []
unfolding reply_in reply_on has_feed first_line behind_first asked_in asked_on frame_of frame_as field_values are_digits number_of value_of is_digit between ascii text_of refused_text distance_text decimal decimal_by read_answer read_outcome read_lines take_lines lines_from rest_from
alone = refl

over : answer (ascii "04000000174876e801" ++ 10 ∷ file_b) ≡ ascii "refused 10 line 0" ++ 10 ∷ []
unfolding reply_in reply_on has_feed first_line behind_first asked_in asked_on frame_of frame_as field_values are_digits number_of value_of is_digit between ascii text_of refused_text distance_text decimal decimal_by
over = refl

unended : answer (ascii "0400000000000036b0" ++ 10 ∷ head_line ++ 10 ∷ s_line) ≡ ascii "refused 16 line 2" ++ 10 ∷ []
unfolding reply_in reply_on has_feed first_line behind_first asked_in asked_on frame_of frame_as field_values are_digits number_of value_of is_digit between ascii text_of refused_text distance_text decimal decimal_by read_answer read_outcome read_lines take_lines lines_from rest_from take_line on_nothing take_head
unended = refl

gap : answer (ascii "04ffffffffffffffff" ++ 10 ∷ file_gap) ≡ ascii "refused 4 line 3 by 9" ++ 10 ∷ []
unfolding reply_in reply_on has_feed first_line behind_first asked_in asked_on frame_of frame_as field_values are_digits number_of value_of is_digit between ascii text_of refused_text distance_text decimal decimal_by read_answer read_table read_outcome read_lines take_lines lines_from rest_from take_line on_nothing take_head on_headed take_first_s open_outcome take_s settled_reading append_outcome fit_outcome room_outcome agrees unspent every push encode words_of table_of words_by repeated runs_of references_of runs_shaped zeros last_end place moment period_end low_edge on_open
gap = refl

-- ---- the file of case B, read into the program's table

abbrev record_b : Record
record_b =
    record {
      head = head_of (fields_b 1);
      accepted = 5;
      dropped = 0;
      next = record { 0 = 20_000 };
      clock = record { 0 = 0 };
      used = 1;
    }

abbrev table_wide : List ℕ
table_wide = 0 ∷ 4000 ∷ 5 ∷ replicate 3069 0

read_b : read_answer file_b (replicate table_length 0) ≡ record { outcome = Ok tt; rec = record_b; line = 0 }
unfolding frame_of frame_as field_values are_digits number_of value_of is_digit between ascii read_answer read_table read_outcome read_lines take_lines lines_from rest_from take_line on_nothing take_head on_headed take_first_s open_outcome take_s settled_reading append_outcome fit_outcome room_outcome agrees unspent every push encode words_of table_of words_by repeated runs_of references_of runs_shaped zeros last_end place moment period_end low_edge on_open take_end
read_b = refl

words_b : read_table file_b (replicate table_length 0) ≡ table_wide
unfolding frame_of frame_as field_values are_digits number_of value_of is_digit between ascii read_answer read_table read_outcome read_lines take_lines lines_from rest_from take_line on_nothing take_head on_headed take_first_s open_outcome take_s settled_reading append_outcome fit_outcome room_outcome agrees unspent every push encode words_of table_of words_by repeated runs_of references_of runs_shaped zeros last_end place moment period_end low_edge on_open take_end
words_b = refl

agrees_b : agrees record_b table_wide ≡ true
unfolding agrees every repeated runs_of references_of runs_shaped zeros last_end place moment period_end low_edge
agrees_b = refl

-- ---- its verdicts

by_clock : (c : WideMillis) → clock_held c ≡ true → leb 0 c.0 ≡ true → (x : Option Ticks) (v : Verdict) → NeededTicks record_b.head (window_at record_b.head c.0) x →
    v ≡ verdict_by (named x) (in_range 0 20_000) (past_named x) → verdict_at record_b table_wide c ≡ Ok v
by_clock c m l x v n e =
    let u : Verdict = verdict_of record_b.head (window_at record_b.head c.0) (kept record_b table_wide) in
    ap (λ s. cond s (cond (clock_held c) (cond (leb 0 c.0) (Ok u) (Err EarlierClock)) (Err ClockLimit)) (Err Disagreement)) agrees_b ∙
    ap₂ (λ s t. cond s (cond t (Ok u) (Err EarlierClock)) (Err ClockLimit)) m l ∙
    ap Ok (sym (agreed_verdict record_b table_wide agrees_b (window_at record_b.head c.0) x 0 v n (first_reach record_b table_wide agrees_b (eqb-false 1 0 refl)) e))

abbrev tick : ℕ → WideTick
tick n = record { 0 = n }

complete_b : verdict_at record_b table_wide (record { 0 = 14_000 }) ≡ Ok (verdict.Complete 10_000)
complete_b =
    by_clock (record { 0 = 14_000 }) refl refl (Some (record { first = (tick 4_000); end = (tick 14_000) })) (verdict.Complete 10_000)
    (window_ticks record_b.head 14_000 (lit< tt))
    (all_covered 4_000 14_000 0 20_000 (lit< tt) 4_000 14_000 refl refl refl)

lacking_b : verdict_at record_b table_wide (record { 0 = 20_001 }) ≡ Ok (verdict.Lacking 10_000 9_999 (tick 20_000))
lacking_b =
    by_clock (record { 0 = 20_001 }) refl refl (Some (record { first = (tick 10_001); end = (tick 20_001) })) (verdict.Lacking 10_000 9_999 (tick 20_000))
    (window_ticks record_b.head 20_001 (lit< tt))
    (end_lacking 10_001 20_001 0 20_000 (lit< tt) 10_001 20_000 refl refl (eqb-false 9_999 10_000 refl) (lit< tt) (lit≤ tt))

nothing_b : verdict_at record_b table_wide (record { 0 = 0 }) ≡ Ok verdict.Nothing
nothing_b =
    by_clock (record { 0 = 0 }) refl refl None verdict.Nothing (window_none record_b.head 0 (lit≤ tt)) (judge_nothing None (in_range 0 20_000) refl)

whole_b : verdict_whole record_b table_wide ≡ Err EndUnknown
whole_b = ap (λ s. cond s (Err EndUnknown) (Err Disagreement)) agrees_b

-- ---- the answers to it

module _ (input : List ℕ) (file : behind_first input ≡ file_b) (a : ClockLine) (e : asked_in input ≡ a) where
  of_file : answer input ≡ text_of (reply_on a (record { outcome = Ok tt; rec = record_b; line = 0 }) table_wide)
  unfolding reply_in
  of_file =
      ap₂ (λ (x : ClockLine) (f : List ℕ). text_of (reply_on x (read_answer f (replicate table_length 0)) (read_table f (replicate table_length 0)))) e file ∙
      ap₂ (λ (x : ReadAnswer) (ws : List ℕ). text_of (reply_on a x ws)) read_b words_b

at_clock_lem : (input : List ℕ) → behind_first input ≡ file_b → (c : Millis) → asked_in input ≡ Some (Ok (At c)) → (v : Verdict) → verdict_at record_b table_wide (record { 0 = c.0 }) ≡ Ok v → answer input ≡ verdict_text v
unfolding reply_on text_of
at_clock_lem input file c e v k = of_file input file (Some (Ok (At c))) e ∙ ap (λ (x : Result Verdict Refusal). text_of (judged x)) k

of_period : (input : List ℕ) → behind_first input ≡ file_b → asked_in input ≡ Some (Ok Whole) → answer input ≡ refused_text (record { why = EndUnknown; line = 0 })
unfolding reply_on text_of
of_period input file e = of_file input file (Some (Ok Whole)) e ∙ ap (λ (x : Result Verdict Refusal). text_of (judged x)) whole_b

-- ---- the lines

pub lines : Lines
unfolding has_feed first_line behind_first asked_in asked_on frame_of frame_as field_values are_digits number_of value_of is_digit between ascii verdict_text share_text refused_text distance_text decimal decimal_by
lines =
    record {
      complete = at_clock_lem (ascii "0400000000000036b0" ++ 10 ∷ file_b) refl (record { 0 = 14_000 }) refl (verdict.Complete 10_000) complete_b;
      lacking =
          at_clock_lem (ascii "040000000000004e21" ++ 10 ∷ file_b) refl (record { 0 = 20_001 }) refl (verdict.Lacking 10_000 9_999 (record { 0 = 20_000 }))
          lacking_b;
      nothing = at_clock_lem (ascii "040000000000000000" ++ 10 ∷ file_b) refl (record { 0 = 0 }) refl verdict.Nothing nothing_b;
      gap = gap;
      whole = of_period (ascii "04ffffffffffffffff" ++ 10 ∷ file_b) refl refl;
      over = over;
      unended = unended;
      alone = alone;
      empty = empty;
    }
