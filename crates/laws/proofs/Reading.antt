-- Reading is right: the number, the line, the record and the table are those of the rows; a file is accepted exactly when it is one; and it is then
-- the opening and the appends that it stands for.
use mathlib.Core.Path.{◌≡◌, refl, sym, ap, ap₂, subst, subst⁻¹, ◌∙◌}
use mathlib.Core.List.{List, [], ◌∷◌, ◌++◌, map}
use Prim.Native.Nat.{ℕ, max}
use lib.Dec.{ltb}
use lib.ListN.{length}
use Rattle.window.specs.declared.Head.{Head}
use Rattle.agreement.specs.declared.Record.{Record}
use Rattle.std.specs.Prelude.{Some, Err, Ok}
use Rattle.keeping.specs.Keeping.{Outcome}
use Rattle.agreement.specs.Numbers.{answer_distance, answer_number}
use Rattle.keeping.proofs.Outcomes.{outcome_beside as told, number_accepted}
use Rattle.timeline.specs.Opening.{open_outcome}
use Rattle.frames.specs.declared.Frame.{Frame}
use Rattle.frames.specs.declared.Frame.TheVariants.{S, End}
use Rattle.frames.specs.declared.HeadLine.{HeadLine}
use Rattle.frames.specs.declared.SFields.{SFields}
use Rattle.frames.specs.Language.{AllFit}
use Rattle.frames.specs.Frames.{line_of, frame_of}
use Rattle.frames.proofs.Lines.{frame_written_read}
use Rattle.file.specs.declared.Reading.{Reading as Read}
use Rattle.file.specs.declared.ReadAnswer.{ReadAnswer}
use Rattle.file.specs.Lines.{lines_of, rest_of}
use Rattle.file.specs.Judging.{head_in, read_lines, read_outcome, answered_by, read_answer, read_table}
use Rattle.file.proofs.Never.{never_disagrees}
use Rattle.file.proofs.Places.{narrow}
use Rattle.writing.proofs.Back.{rest_of_frames}
use Rattle.laws.specs.Calls.{Call, Plain, State, after, after_calls, all_accepted, clock_of, greatest}
use Rattle.laws.specs.History.{Holds}
use Rattle.laws.specs.Refusals.{is_apart}
use Rattle.laws.specs.Lines.{opening_tick, FileResult, accepted, judged, beginning, judged_file}
use Rattle.laws.specs.Reading.{file_frames, StandFor, opening_of, ReadsAs, IsFile, ReadingRight}
use Rattle.laws.proofs.Histories.{demand_3}
use Rattle.laws.proofs.LineByLine.{read_result, none, same_way, all_sure}
use Rattle.laws.proofs.Bytes.{frames_again, AllNarrow, all_narrow, bytes_again}
use Rattle.laws.proofs.WholeFile.{Whole, whole_only, whole_if}

-- ---- by the rows

module _ (bytes came : List ℕ) where
  outcome_is : (o : Outcome) (r : Read) → (answered_by o r).outcome ≡ o
  outcome_is (Ok _) r = refl
  outcome_is (Err why) r = refl

  -- what the reader answers, put together
  result_is : read_result came (read_lines bytes came) (rest_of bytes) ≡ judged_file bytes came
  unfolding read_lines
  result_is = same_way came (lines_of bytes) (rest_of bytes) (beginning came) 0 none

  number_is : answer_number (read_answer bytes came).outcome ≡ (judged_file bytes came).number
  unfolding read_answer read_outcome
  number_is = ap answer_number (outcome_is (read_outcome bytes came) (read_lines bytes came).reading) ∙ ap (λ (r : FileResult). r.number) result_is

  distance_is : answer_distance (read_answer bytes came).outcome ≡ (judged_file bytes came).distance
  unfolding read_answer read_outcome
  distance_is = ap answer_distance (outcome_is (read_outcome bytes came) (read_lines bytes came).reading) ∙ ap (λ (r : FileResult). r.distance) result_is

  -- a distance comes with 4 and 5, and with no other number
  pub distance_sure : ltb 0 (answer_distance (read_answer bytes came).outcome) ≡ is_apart (answer_number (read_answer bytes came).outcome)
  distance_sure = ap (ltb 0) distance_is ∙ all_sure came (lines_of bytes) (rest_of bytes) (beginning came) 0 none ∙ ap is_apart (sym number_is)

  line_is : (read_answer bytes came).line ≡ (judged_file bytes came).line
  unfolding read_answer read_outcome
  line_is = ap (λ (r : FileResult). r.line) result_is

  record_is : (read_answer bytes came).rec ≡ (judged_file bytes came).rec
  unfolding read_answer read_outcome
  record_is = ap (λ (r : FileResult). r.rec) result_is

  words_are : read_table bytes came ≡ (judged_file bytes came).words
  unfolding read_table read_outcome
  words_are = ap (λ (r : FileResult). r.words) result_is

-- ---- the lines of a file

-- durations of 32 bits
fit_narrow : (fs : List Frame) → AllFit fs → AllNarrow (map Some fs)
fit_narrow [] a = tt
fit_narrow (f ∷ fs) a = (narrow (line_of f) (Some f) (sym (frame_written_read f a.0)), fit_narrow fs a.1)

front : (ss : List SFields) (fs : List Frame) → AllNarrow (map Some (map S ss ++ fs)) → AllNarrow (map Some (map S ss))
front [] fs w = tt
front (s ∷ ss) fs w = (w.0, front ss fs w.1)

plain : (x : State) (ss : List SFields) (cs : List Call) → AllNarrow (map Some (map S ss)) → StandFor x ss cs → Plain cs
plain x [] [] w st = tt
plain x [] (c ∷ cs) w st = absurd st
plain x (s ∷ ss) [] w st = absurd st
plain x (s ∷ ss) (c ∷ cs) w st = subst⁻¹ (λ d. Plain (d ∷ cs)) st.0.2 (w.0, plain (after x c) ss cs w.1 st.1)

-- no S line stands for a trim, so that no clock is raised
no_clock : (x : State) (ss : List SFields) (cs : List Call) → StandFor x ss cs → greatest x cs ≡ 0
unfolding greatest
no_clock x [] [] st = refl
no_clock x [] (c ∷ cs) st = absurd st
no_clock x (s ∷ ss) [] st = absurd st
no_clock x (s ∷ ss) (c ∷ cs) st = ap₂ max (ap (clock_of x) st.0.2) (no_clock (after x c) ss cs st.1)

-- ---- a file

module _ (bytes came : List ℕ) (x : HeadLine) (s : SFields) (ss : List SFields) (cs : List Call) (f : ReadsAs bytes came x s ss cs) where
  abbrev h : Head
  h = head_in x

  narrowed : AllNarrow (map Some (map S (s ∷ ss)))
  narrowed = front (s ∷ ss) (End (length (s ∷ ss)) ∷ []) (fit_narrow (file_frames x (s ∷ ss)) f.fit).1

  judged_as : judged_file bytes came ≡ accepted (after_calls (opening_of h s came) cs)
  judged_as =
      ap (λ b. judged_file b came) f.lines ∙
      ap₂ (judged came (beginning came) 1) (frames_again (file_frames x (s ∷ ss)) f.fit) (rest_of_frames (file_frames x (s ∷ ss))) ∙
      whole_if came x s ss cs narrowed f.last (sym (told (open_outcome h (opening_tick s)) _ _) ∙ f.opens) f.stand f.accepted

  file_accepted : (read_answer bytes came).outcome ≡ Ok tt
  file_accepted = number_accepted (read_answer bytes came).outcome (number_is bytes came ∙ ap (λ (r : FileResult). r.number) judged_as)

  file_answer : read_answer bytes came ≡ record { outcome = Ok tt; rec = (after_calls (opening_of h s came) cs).rec; line = 0 }
  file_answer =
      ◌∙◌ {b = record { outcome = Ok tt; rec = (read_answer bytes came).rec; line = (read_answer bytes came).line }}
      (ap (λ o. record { outcome = o; rec = (read_answer bytes came).rec; line = (read_answer bytes came).line }) file_accepted)
      (ap₂ (λ (r : Record) (n : ℕ). record { outcome = Ok tt; rec = r; line = n })
      (record_is bytes came ∙ ap (λ (r : FileResult). r.rec) judged_as)
      (line_is bytes came ∙ ap (λ (r : FileResult). r.line) judged_as))

  file_table : read_table bytes came ≡ (after_calls (opening_of h s came) cs).words
  file_table = words_are bytes came ∙ ap (λ (r : FileResult). r.words) judged_as

  file_plain : Plain cs
  file_plain = plain (opening_of h s came) (s ∷ ss) cs narrowed f.stand

  file_holds : Holds h (opening_tick s) (length came) (record { rec = (read_answer bytes came).rec; words = read_table bytes came }) (all_accepted (opening_of h s came) cs) 0
  file_holds =
      subst (λ (n : ℕ). Holds h (opening_tick s) (length came) (record { rec = (read_answer bytes came).rec; words = read_table bytes came }) (all_accepted (opening_of h s came) cs) n)
      (no_clock (opening_of h s came) (s ∷ ss) cs f.stand)
      (subst⁻¹ (λ x. Holds h (opening_tick s) (length came) x (all_accepted (opening_of h s came) cs) (greatest (opening_of h s came) cs))
      (ap₂ (λ (r : Record) ws. record { rec = r; words = ws }) (ap (λ (a : ReadAnswer). a.rec) file_answer) file_table)
      (demand_3.holds h (opening_tick s) came (sym (told (open_outcome h (opening_tick s)) _ _) ∙ f.opens) cs file_plain))

module _ (bytes came : List ℕ) (o : (read_answer bytes came).outcome ≡ Ok tt) where
  whole : Whole came (map frame_of (lines_of bytes)) (rest_of bytes)
  whole =
      whole_only came (rest_of bytes) (map frame_of (lines_of bytes)) (all_narrow (lines_of bytes)) (sym (number_is bytes came) ∙ ap answer_number o)

  is_file : IsFile bytes came
  is_file =
      let w = whole in
      let again = bytes_again bytes (file_frames w.line (w.s ∷ w.ss)) w.done w.frames in (
        w.line,
        w.s,
        w.ss,
        w.cs,
        record {
          lines = again.0;
          fit = again.1;
          last = w.last;
          opens = told (open_outcome (head_in w.line) (opening_tick w.s)) _ _ ∙ w.opens;
          stand = w.stand;
          accepted = w.accepted;
        },
      )

pub reading_right : ReadingRight
reading_right =
    record {
      accepted = λ bytes came.
          record { only = is_file bytes came; if = λ f. file_accepted bytes came f.0 f.1 f.2 f.3 f.4 };
      answer = file_answer;
      table = file_table;
      plain = file_plain;
      holds = file_holds;
      number = number_is;
      line = line_is;
      distance = distance_is;
      rec = record_is;
      words = words_are;
      never_two = never_disagrees;
    }
