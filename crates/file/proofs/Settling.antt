-- A reading that is settled: it is refused as it stands, and with whatever stands behind it for the same reason at the same line.
use mathlib.Core.Path.{◌≡◌, refl, sym, ap, ap₂, ◌∙◌}
use mathlib.Core.Bool.{Bool, true, false, cond, false≢true}
use mathlib.Core.List.{List, [], ◌∷◌, ◌++◌}
use Prim.Native.Nat.{ℕ, ◌≤◌, min}
use native.Mathlib.Omega.{arith}
use borrow.Author.Tests.{ne_eqb, leb-true}
use lib.Dec.{leb}
use lib.ListN.{length, length-append}
use Rattle.agreement.specs.declared.refusal.Refusal.{Refusal}
use Rattle.agreement.specs.declared.refusal.Refusal.TheVariants.{BadLine}
use Rattle.std.specs.Prelude.{Err, None, Ok, Option}
use Rattle.keeping.specs.Keeping.{Outcome}
use Rattle.keeping.specs.Keeping.{words_by}
use Rattle.timeline.specs.Opening.{zero_record}
use Rattle.frames.specs.declared.Frame.{Frame}
use Rattle.frames.specs.Frames.{frame_of}
use Rattle.frames.proofs.Lines.{too_long_lem}
use Rattle.file.specs.declared.Stage.{Stage}
use Rattle.file.specs.declared.Stage.TheVariants.{Nothing, Headed, Open, Filled, Ended, Refused}
use Rattle.file.specs.declared.Reading.{Reading}
use Rattle.file.specs.declared.ReadAnswer.{ReadAnswer}
use Rattle.file.specs.Lines.{has_feed, first_line, behind_first, lines_from, rest_from, rest_of}
use Rattle.file.specs.Judging.{File, refused, on_nothing, on_headed, on_open, on_filled, on_frame, take_line, take_lines, read_lines, stop_outcome, read_outcome, answered_by, read_answer, zeroed, read_table}
use Rattle.file.specs.SoFar.{most_bytes, so_far}
use Rattle.file.specs.Feeding.{reader_after}
use Rattle.file.specs.Settled.{stage_settled, reader_settled, SettledFile}
use Rattle.file.proofs.Cutting.{no_line, lines_first, unfed_unended, rest_append, read_append}

-- ---- what is refused stays so

refused_stays : (f : File) (why : Refusal) → f.reading.stage ≡ Refused why → (ls : List (List ℕ)) → take_lines f ls ≡ f
unfolding take_lines take_line
refused_stays f why e [] = refl
refused_stays f why e (l ∷ ls) =
    ap (λ (g : File). take_lines g ls) (ap (λ (s : Stage). on_frame s f.reading f.words (frame_of l)) e) ∙ refused_stays f why e ls

-- a file that is refused as it stands, and with more behind it, for the same reason at the same line
record Alike (f : File) (rest : List ℕ) (g : File) (left : List ℕ) : Type 0 where
  why : Refusal
  here : stop_outcome f.reading.stage (length rest) ≡ Err why
  there : stop_outcome g.reading.stage (length left) ≡ Err why
  lines : g.reading.lines ≡ f.reading.lines

module _ (f : File) (rest more : List ℕ) where
  alike_refused : (why : Refusal) → f.reading.stage ≡ Refused why → Alike f rest (take_lines f (lines_from rest more)) (rest_from rest more)
  alike_refused why e =
      let same = refused_stays f why e (lines_from rest more) in
      record {
        why = why;
        here = ap (λ (s : Stage). stop_outcome s (length rest)) e;
        there = ap (λ (g : File). stop_outcome g.reading.stage (length (rest_from rest more))) same ∙ ap (λ (s : Stage). stop_outcome s (length (rest_from rest more))) e;
        lines = ap (λ (g : File). g.reading.lines) same;
      }

  -- the line that is not ended is refused with 16, whether it is ended or not
  module _ (some : 1 ≤ length rest) (stops : (n : ℕ) → 1 ≤ n → stop_outcome f.reading.stage n ≡ Err BadLine)
      (bad : take_line f (rest ++ first_line more) ≡ refused BadLine f.reading f.words) where
    alike_bad : Alike f rest (take_lines f (lines_from rest more)) (rest_from rest more)
    unfolding take_lines
    alike_bad = go (has_feed more) refl
      where
        go : (t : Bool) → has_feed more ≡ t → Alike f rest (take_lines f (lines_from rest more)) (rest_from rest more)
        go true h =
            let same : take_lines f (lines_from rest more) ≡ refused BadLine f.reading f.words =
            ap (take_lines f) (lines_first rest more h) ∙
            ap (λ (g : File). take_lines g (lines_from [] (behind_first more))) bad ∙
            refused_stays (refused BadLine f.reading f.words) BadLine refl (lines_from [] (behind_first more))
            in
            record {
              why = BadLine;
              here = stops (length rest) some;
              there = ap (λ (g : File). stop_outcome g.reading.stage (length (rest_from rest more))) same;
              lines = ap (λ (g : File). g.reading.lines) same;
            }
        go false h =
            let bare = no_line rest more (unfed_unended more h) in
            record {
              why = BadLine;
              here = stops (length rest) some;
              there =
                  ap₂ (λ (ls : List (List ℕ)) (bs : List ℕ). stop_outcome (take_lines f ls).reading.stage (length bs)) bare.0 bare.1 ∙
                  stops (length (rest ++ more)) (omega (arith, length-append rest more));
              lines = ap (λ (ls : List (List ℕ)). (take_lines f ls).reading.lines) bare.0;
            }

-- ---- by the stage

-- a line that is no frame, where no line was refused
bad_here : (s : Stage) → ((why : Refusal) → s ≡ Refused why → ⊥) → (r : Reading) (ws : List ℕ) → on_frame s r ws None ≡ refused BadLine r ws
unfolding on_nothing on_headed on_open on_filled
bad_here Nothing n r ws = refl
bad_here Headed n r ws = refl
bad_here Open n r ws = refl
bad_here Filled n r ws = refl
bad_here Ended n r ws = refl
bad_here (Refused why) n r ws = absurd (n why refl)

stops_here : (s : Stage) → ((why : Refusal) → s ≡ Refused why → ⊥) → (n : ℕ) → 1 ≤ n → stop_outcome s n ≡ Err BadLine
stops_here Nothing m n l = refl
stops_here Headed m n l = refl
stops_here Open m n l = refl
stops_here Filled m n l = refl
stops_here Ended m n l = ap (λ t. cond t (Ok tt) (Err BadLine)) (ne_eqb n 0 (λ z. let w : ⊥ = omega arith in w))
stops_here (Refused why) m n l = absurd (m why refl)

-- two stages that differ
apart : (s : Stage) (why : Refusal) → (s ≡ Refused why → ◌≡◌ {A = ℕ} 0 1) → s ≡ Refused why → ⊥
apart s why f e = let z = f e in omega arith

module _ (f : File) (rest more : List ℕ) where
  abbrev Same : Type 0
  Same = Alike f rest (take_lines f (lines_from rest more)) (rest_from rest more)

  -- the line has more bytes than any frame
  alike_long : most_bytes ≤ length rest → (s : Stage) → f.reading.stage ≡ s → Same
  unfolding take_line
  alike_long l s e = go s e
    where
      frame_bad : frame_of (rest ++ first_line more) ≡ None
      frame_bad = too_long_lem (rest ++ first_line more) (omega (arith, length-append rest (first_line more)))

      by : ((why : Refusal) → s ≡ Refused why → ⊥) → Same
      by n =
          alike_bad f rest more (omega arith)
          (λ k m. ap (λ (y : Stage). stop_outcome y k) e ∙ stops_here s n k m)
          (ap₂ (λ (y : Stage) (x : Option Frame). on_frame y f.reading f.words x) e frame_bad ∙ bad_here s n f.reading f.words)

      go : (y : Stage) → f.reading.stage ≡ y → Same
      go Nothing k = by (λ why. apart s why (λ z. let w = sym e ∙ k in cc))
      go Headed k = by (λ why. apart s why (λ z. let w = sym e ∙ k in cc))
      go Open k = by (λ why. apart s why (λ z. let w = sym e ∙ k in cc))
      go Filled k = by (λ why. apart s why (λ z. let w = sym e ∙ k in cc))
      go Ended k = by (λ why. apart s why (λ z. let w = sym e ∙ k in cc))
      go (Refused why) k = alike_refused f rest more why k

  -- a line is refused, or a byte stands behind the end
  alike_stage : (s : Stage) → f.reading.stage ≡ s → stage_settled s (min most_bytes (length rest)) ≡ true → Same
  unfolding take_line
  alike_stage Nothing e h = absurd (false≢true h)
  alike_stage Headed e h = absurd (false≢true h)
  alike_stage Open e h = absurd (false≢true h)
  alike_stage Filled e h = absurd (false≢true h)
  alike_stage Ended e h =
      let some = leb-true 1 (min most_bytes (length rest)) h in
      alike_bad f rest more (omega arith)
      (λ k m. ap (λ (y : Stage). stop_outcome y k) e ∙ stops_here Ended (λ why. apart Ended why (λ z. cc)) k m)
      (ap (λ (y : Stage). on_frame y f.reading f.words (frame_of (rest ++ first_line more))) e)
  alike_stage (Refused why) e h = alike_refused f rest more why e

-- ---- the file

module _ (came fed more : List ℕ) (h : reader_settled (reader_after fed came) ≡ true) where
  alike : Alike (read_lines fed came) (rest_of fed) (take_lines (read_lines fed came) (lines_from (rest_of fed) more)) (rest_from (rest_of fed) more)
  unfolding reader_settled reader_after so_far
  alike = go (leb most_bytes (min most_bytes (length (rest_of fed)))) refl h
    where
      f : File
      f = read_lines fed came

      go : (t : Bool) → leb most_bytes (min most_bytes (length (rest_of fed))) ≡ t →
          cond t true (stage_settled f.reading.stage (min most_bytes (length (rest_of fed)))) ≡ true → Alike f (rest_of fed) (take_lines f (lines_from (rest_of fed) more)) (rest_from (rest_of fed) more)
      go true e k =
          let long = leb-true most_bytes (min most_bytes (length (rest_of fed))) e in
          alike_long f (rest_of fed) more (omega arith) f.reading.stage refl
      go false e k = alike_stage f (rest_of fed) more f.reading.stage refl k

  -- the whole, by what was read and what is left
  on : read_lines (fed ++ more) came ≡ take_lines (read_lines fed came) (lines_from (rest_of fed) more)
  on = read_append fed more came

  outcome_here : read_outcome fed came ≡ Err alike.why
  unfolding read_outcome
  outcome_here = alike.here

  outcome_there : read_outcome (fed ++ more) came ≡ Err alike.why
  unfolding read_outcome
  outcome_there =
      ap₂ (λ (g : File) (bs : List ℕ). stop_outcome g.reading.stage (length bs)) on (rest_append [] fed more) ∙ alike.there

  lines_same : (read_lines (fed ++ more) came).reading.lines ≡ (read_lines fed came).reading.lines
  lines_same = ap (λ (g : File). g.reading.lines) on ∙ alike.lines

  abbrev refused_at : ℕ → ReadAnswer
  refused_at n = answered_by (Err alike.why) (record { stage = Nothing; lines = n; rec = zero_record })

  same_answer : read_answer (fed ++ more) came ≡ read_answer fed came
  unfolding read_answer
  same_answer =
      ap (λ (o : Outcome). answered_by o (read_lines (fed ++ more) came).reading) outcome_there ∙
      ap refused_at lines_same ∙
      sym (ap (λ (o : Outcome). answered_by o (read_lines fed came).reading) outcome_here)

  same_table : read_table (fed ++ more) came ≡ read_table fed came
  unfolding read_table words_by
  same_table =
      ap (λ (o : Outcome). words_by o (read_lines (fed ++ more) came).words (zeroed came)) outcome_there ∙
      sym (ap (λ (o : Outcome). words_by o (read_lines fed came).words (zeroed came)) outcome_here)

pub settled_file : SettledFile
settled_file = record { answer = same_answer; table = same_table }
