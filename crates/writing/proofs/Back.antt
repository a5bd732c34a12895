-- Reading what was written: line by line the frames come back, and each S line takes its run.
use mathlib.Core.Path.{◌≡◌, refl, sym, ap, ap₂, subst, ◌∙◌}
use mathlib.Core.Bool.{true, cond, ◌&&◌}
use mathlib.Core.List.{List, [], ◌∷◌, ◌++◌, append_assoc, append-nil}
use Prim.Native.Nat.{ℕ, suc, ◌+◌, ◌-◌, ◌^◌, ◌≤◌, ◌<◌}
use native.Mathlib.Nat.{sub-zero}
use native.Mathlib.Omega.{arith}
use borrow.Author.Tests.{eq-eqb, ne_eqb, le-leb, lt-ltb}
use lib.ListN.{length, get_or, replicate, length-append}
use Rattle.units.specs.Limits.{largest_tick, largest_span, tick_of}
use Rattle.units.specs.Standing.{tick_standing}
use Rattle.units.specs.declared.standing.Standing.TheVariants.{Joins}
use Rattle.window.specs.declared.Head.{Head}
use Rattle.runs.specs.declared.Run.{Run}
use Rattle.runs.specs.Words.{words_of, references_of}
use Rattle.runs.specs.Shape.{runs_shaped}
use Rattle.runs.specs.Ends.{last_end}
use Rattle.runs.specs.Encoding.{table_of}
use Rattle.runs.proofs.Encoded.{leads}
use Rattle.agreement.specs.declared.Record.{Record}
use Rattle.agreement.specs.declared.refusal.Refusal.TheVariants as refusal
use Rattle.agreement.specs.Agreement.{agrees}
use Rattle.std.specs.Prelude.{Err, Ok, Some}
use Rattle.keeping.specs.Keeping.{Outcome}
use Rattle.keeping.specs.Keeping.{words_by}
use Rattle.timeline.specs.Opening.{fresh_record, open_outcome}
use Rattle.timeline.specs.Appending.{append_outcome}
use Rattle.timeline.proofs.Kept.{open_agrees, accepted_keeps}
use Rattle.frames.specs.Fields.{all_ones}
use Rattle.frames.specs.declared.Frame.{Frame}
use Rattle.frames.specs.declared.Frame.TheVariants.{End}
use Rattle.frames.specs.declared.SFields.{SFields}
use Rattle.frames.specs.Language.{AllFit}
use Rattle.frames.specs.Frames.{line_of, ended_line}
use Rattle.frames.proofs.Lines.{no_feed, frame_written_read}
use Rattle.file.specs.declared.Stage.{Stage}
use Rattle.file.specs.declared.Stage.TheVariants.{Nothing, Headed, Open, Ended}
use Rattle.file.specs.declared.Reading.{Reading}
use Rattle.file.specs.Lines.{line_feed, lines_from, rest_from, Unended}
use Rattle.file.specs.Judging.{File, taken, refused, settled_reading, first_tick, first_negative, appended_by, reaches_by, take_s, opened_by, take_first_s, take_head, take_end, on_nothing, on_headed, on_open, on_frame, take_line, take_lines, begun}
use Rattle.file.proofs.Cutting.{line_next, rest_next}
use Rattle.writing.specs.Writing.{head_frame, s_frame, later_frames, s_frames, bytes_of}
use Rattle.writing.proofs.Output.{run_few}
use Rattle.writing.proofs.Again.{record_of, Takeable, step_accepted, step_record, step_words}

-- ---- the lines of written frames

unended : (l : List ℕ) → ((i : ℕ) → i < length l → get_or l i 0 ≡ line_feed → ⊥) → Unended l
unended [] u = tt
unended (b ∷ bs) u = (u 0 (omega arith), unended bs (λ i h e. u (suc i) (omega arith) e))

pub unended_line : (f : Frame) → Unended (line_of f)
unended_line f = unended (line_of f) (no_feed f)

-- frames taken one after another
abbrev take_frames : File → List Frame → File
take_frames x [] = x
take_frames x (f ∷ fs) = take_frames (on_frame x.reading.stage x.reading x.words (Some f)) fs

pub ended_before : (f : Frame) (bs : List ℕ) → ended_line f ++ bs ≡ line_of f ++ line_feed ∷ bs
unfolding ended_line
ended_before f bs = append_assoc (line_of f) (10 ∷ []) bs

pub lines_of_frames : (fs : List Frame) → AllFit fs → (x : File) → take_lines x (lines_from [] (bytes_of fs)) ≡ take_frames x fs
unfolding bytes_of lines_from take_lines take_line
lines_of_frames [] a x = refl
lines_of_frames (f ∷ fs) a x =
    ap (λ bs. take_lines x (lines_from [] bs)) (ended_before f (bytes_of fs)) ∙
    ap (take_lines x) (line_next [] (line_of f) (bytes_of fs) (unended_line f)) ∙
    ap (λ g. take_lines (on_frame x.reading.stage x.reading x.words g) (lines_from [] (bytes_of fs))) (frame_written_read f a.0) ∙
    lines_of_frames fs a.1 (on_frame x.reading.stage x.reading x.words (Some f))

pub rest_of_frames : (fs : List Frame) → rest_from [] (bytes_of fs) ≡ []
unfolding bytes_of rest_from
rest_of_frames [] = refl
rest_of_frames (f ∷ fs) = ap (rest_from []) (ended_before f (bytes_of fs)) ∙ rest_next [] (line_of f) (bytes_of fs) (unended_line f) ∙ rest_of_frames fs

-- ---- an S line takes its run

-- how far a file is read when these runs are taken
abbrev runs_taken : Head → ℕ → ℕ → List Run → Stage → ℕ → File
runs_taken h t words rs s lines = record { reading = record { stage = s; lines = lines; rec = record_of h t rs }; words = table_of words rs }

module _ (h : Head) (t words : ℕ) (xs : List Run) (x : Run) (ys : List Run) (k : Takeable h t words (xs ++ x ∷ ys))
    (a : agrees (record_of h t xs) (table_of words xs) ≡ true) where
  few : (1 ≤ x.count) × (x.count ≤ 2 ^ 31)
  few = (some xs k.shape, omega (arith, at xs, k.few))
    where
      some : (zs : List Run) → runs_shaped (zs ++ x ∷ ys) ≡ true → 1 ≤ x.count
      some [] s = (leads x ys s).some
      some (z ∷ zs) s = some zs (leads z (zs ++ x ∷ ys) s).rest

      there : (zs : List Run) → get_or (zs ++ x ∷ ys) (length zs) x ≡ x
      there [] = refl
      there (z ∷ zs) = there zs

      at : (zs : List Run) → x.count ≤ length (references_of (zs ++ x ∷ ys))
      at zs =
          subst (λ (r : Run). r.count ≤ length (references_of (zs ++ x ∷ ys))) (there zs)
          (run_few (zs ++ x ∷ ys) (length zs) x (omega (arith, length-append zs (x ∷ ys))))

  small : x.span.0 ≤ largest_span
  small = go xs k.shape
    where
      go : (zs : List Run) → runs_shaped (zs ++ x ∷ ys) ≡ true → x.span.0 ≤ largest_span
      go [] s = (leads x ys s).short
      go (z ∷ zs) s = go zs (leads z (zs ++ x ∷ ys) s).rest

  more_agrees : agrees (record_of h t (xs ++ x ∷ [])) (table_of words (xs ++ x ∷ [])) ≡ true
  more_agrees =
      sym (ap₂ agrees (step_record h t words xs x ys k a) (step_words h t words xs x ys k a)) ∙
      accepted_keeps (record_of h t xs) (table_of words xs) Joins x.span.0 x.count small (step_accepted h t words xs x ys k a)

  run_taken : (st : Stage) (lines time : ℕ) →
      take_s (record { stage = st; lines = lines; rec = record_of h t xs }) (table_of words xs) Joins (record { t = record { 0 = time }; d = x.span.0; r = x.count - 1 }) ≡
      runs_taken h t words (xs ++ x ∷ []) Open (lines + 1)
  unfolding take_s settled_reading words_by
  run_taken st lines time =
      let rec = record_of h t xs in
      let ws = table_of words xs in
      let d = x.span.0 in
      let r : Reading = record { stage = st; lines = lines; rec = rec } in
      let again : x.count - 1 + 1 ≡ x.count = omega (arith, few.0) in
      ap (λ b. cond b (appended_by (append_outcome rec ws Joins d (x.count - 1 + 1)) Open r ws d (x.count - 1 + 1)) (reaches_by r ws Joins d))
      (lt-ltb (x.count - 1) first_negative (omega (arith, few.0, few.1))) ∙
      ap (λ (n : ℕ). appended_by (append_outcome rec ws Joins d n) Open r ws d n) again ∙
      ap (λ (o : Outcome). appended_by o Open r ws d x.count) (step_accepted h t words xs x ys k a) ∙
      ap₂ (λ (y : Record) (vs : List ℕ). record { reading = record { stage = Open; lines = lines + 1; rec = y }; words = vs }) (step_record h t words xs x ys k a)
      (step_words h t words xs x ys k a)

-- ---- the later S lines

later_taken : (h : Head) (t words : ℕ) (ys xs : List Run) → Takeable h t words (xs ++ ys) → agrees (record_of h t xs) (table_of words xs) ≡ true →
    (lines : ℕ) (fs : List Frame) → take_frames (runs_taken h t words xs Open lines) (later_frames ys ++ fs) ≡ take_frames (runs_taken h t words (xs ++ ys) Open (lines + length ys)) fs
unfolding later_frames on_open
later_taken h t words [] xs k a lines fs =
    ap₂ (λ (rs : List Run) (n : ℕ). take_frames (runs_taken h t words rs Open n) fs) (sym (append-nil xs)) (omega arith)
later_taken h t words (y ∷ ys) xs k a lines fs =
    ap (λ st. take_frames (take_s (record { stage = Open; lines = lines; rec = record_of h t xs }) (table_of words xs) st (record { t = record { 0 = all_ones }; d = y.span.0; r = y.count - 1 })) (later_frames ys ++ fs))
    (ap (λ b. cond b Joins (tick_standing (record { 0 = all_ones }) (record_of h t xs).next)) (eq-eqb all_ones all_ones refl)) ∙
    ap (λ z. take_frames z (later_frames ys ++ fs)) (run_taken h t words xs y ys k a Open lines all_ones) ∙
    later_taken h t words ys (xs ++ y ∷ []) (subst (Takeable h t words) (sym (append_assoc xs (y ∷ []) ys)) k) (more_agrees h t words xs y ys k a) (lines + 1) fs ∙
    ap₂ (λ (rs : List Run) (n : ℕ). take_frames (runs_taken h t words rs Open n) fs) (append_assoc xs (y ∷ []) ys) (omega arith)

-- ---- the whole file

module _ (h : Head) (words : ℕ) (x : Run) (ys : List Run) (k : Takeable h x.start.0 words (x ∷ ys)) (came : List ℕ) (long : length came ≡ words) where
  tick_small : x.start.0 ≤ largest_tick
  tick_small = omega (arith, (leads x ys k.shape).ends)

  opens : open_outcome h (record { 0 = x.start.0 }) ≡ Ok tt
  unfolding open_outcome
  opens = ap₂ (λ a b. cond (a && b) (Ok tt) (Err refusal.OverLimit)) k.held (le-leb x.start.0 largest_tick tick_small)

  fresh_is : fresh_record h (record { 0 = x.start.0 }) ≡ record_of h x.start.0 []
  unfolding references_of last_end
  fresh_is = refl

  zeros_are : replicate (length came) 0 ≡ table_of words []
  unfolding table_of words_of
  zeros_are = ap (λ (n : ℕ). replicate n 0) (long ∙ sym (sub-zero words))

  fresh_agrees : agrees (record_of h x.start.0 []) (table_of words []) ≡ true
  fresh_agrees = sym (ap₂ agrees fresh_is zeros_are) ∙ open_agrees h (record { 0 = x.start.0 }) (length came) opens

  headed : Reading
  headed = record { stage = Headed; lines = 0 + 1; rec = fresh_record h (record { 0 = 0 }) }

  head_taken : on_frame Nothing (begun came).reading came (Some (head_frame h)) ≡ record { reading = headed; words = came }
  unfolding on_nothing take_head headed
  head_taken = ap (λ b. cond b (taken Headed (begun came).reading (fresh_record h (record { 0 = 0 })) came) (refused refusal.OverLimit (begun came).reading came)) k.held

  first_taken : on_frame Headed headed came (Some (s_frame x.start.0 x)) ≡ runs_taken h x.start.0 words (x ∷ []) Open 2
  unfolding on_headed take_first_s headed
  first_taken =
      let s : SFields = record { t = record { 0 = x.start.0 }; d = x.span.0; r = x.count - 1 } in
      let there : first_tick s.t ≡ record { 0 = x.start.0 } =
      ap (λ b. cond b (record { 0 = 0 }) s.t) (ne_eqb x.start.0 all_ones (λ z. let f : ⊥ = omega (arith, tick_small) in f))
      in
      ap (λ o. opened_by o headed came s) (ap (λ t. open_outcome h (tick_of t)) there ∙ opens) ∙
      ap₂ (λ (y : Record) (vs : List ℕ). take_s (record { stage = Headed; lines = 0 + 1; rec = y }) vs Joins s) (ap (λ t. fresh_record h (tick_of t)) there ∙ fresh_is) zeros_are ∙
      run_taken h x.start.0 words [] x ys k fresh_agrees Headed (0 + 1) x.start.0

  pub frames_taken : take_frames (begun came) (head_frame h ∷ s_frames (x ∷ ys) ++ End (length (x ∷ ys)) ∷ []) ≡
      runs_taken h x.start.0 words (x ∷ ys) Ended (2 + length ys + 1)
  unfolding s_frames on_open take_end headed
  frames_taken =
      let end = End (length (x ∷ ys)) ∷ [] in
      ap (λ z. take_frames z (s_frame x.start.0 x ∷ later_frames ys ++ end)) head_taken ∙
      ap (λ z. take_frames z (later_frames ys ++ end)) first_taken ∙
      later_taken h x.start.0 words ys (x ∷ []) k (more_agrees h x.start.0 words [] x ys k fresh_agrees) 2 end ∙
      ap
      (λ b. cond b (runs_taken h x.start.0 words (x ∷ ys) Ended (2 + length ys + 1))
      (refused refusal.BadOrder (record { stage = Open; lines = 2 + length ys; rec = record_of h x.start.0 (x ∷ ys) }) (table_of words (x ∷ ys))))
      (eq-eqb (length (x ∷ ys)) (2 + length ys - 1) (omega arith))
