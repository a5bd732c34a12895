-- What a lent table holds when it comes plays no part, its length alone: opening zeroes it, and a refused file leaves zeros.
use mathlib.Core.Path.{◌≡◌, refl, ap, ap₂, subst, subst⁻¹, ◌∙◌}
use mathlib.Core.Bool.{Bool, true, false, cond}
use mathlib.Core.List.{List, [], ◌∷◌}
use Prim.Native.Nat.{ℕ}
use lib.Dec.{eqb}
use lib.ListN.{length, replicate}
use Rattle.units.specs.declared.standing.Standing.TheVariants.{Joins}
use Rattle.window.specs.declared.Head.{Head}
use Rattle.units.specs.Limits.{tick_of}
use Rattle.window.specs.Limits.{head_held}
use Rattle.agreement.specs.declared.refusal.Refusal.TheVariants.{OverLimit, BadLine}
use Rattle.std.specs.Prelude.{Err, Ok, Option, Some, None}
use Rattle.keeping.specs.Keeping.{Outcome}
use Rattle.keeping.specs.Keeping.{words_by}
use Rattle.timeline.specs.Opening.{fresh_record, open_outcome}
use Rattle.frames.specs.declared.Frame.{Frame}
use Rattle.frames.specs.declared.Frame.TheVariants.{Head as HeadFrame, S, End, Clock}
use Rattle.frames.specs.declared.SFields.{SFields}
use Rattle.frames.specs.Frames.{frame_of}
use Rattle.file.specs.declared.Stage.{Stage}
use Rattle.file.specs.declared.Stage.TheVariants.{Nothing, Headed, Open, Filled, Ended, Refused}
use Rattle.file.specs.declared.Reading.{Reading}
use Rattle.file.specs.declared.ReadAnswer.{ReadAnswer}
use Rattle.file.specs.Lines.{behind_first, lines_of, rest_of}
use Rattle.file.specs.Judging.{head_in, File, refused, taken, first_tick, take_s, opened_by, take_first_s, take_head, on_nothing, on_headed, on_frame, take_line, take_lines, begun, read_lines, stop_outcome, read_outcome, answered_by, read_answer, zeroed, read_table}
use Rattle.report.specs.Answer.{asked_in, reply_on, reply_in}

-- from the first S line on the words are the same; before it, and once a line is refused, only their number is
abbrev Alike : Stage → List ℕ → List ℕ → Type 0
Alike Nothing u v = length u ≡ length v
Alike Headed u v = length u ≡ length v
Alike Open u v = u ≡ v
Alike Filled u v = u ≡ v
Alike Ended u v = u ≡ v
Alike (Refused why) u v = length u ≡ length v

alike_same : (s : Stage) (u v : List ℕ) → u ≡ v → Alike s u v
alike_same Nothing u v e = ap length e
alike_same Headed u v e = ap length e
alike_same Open u v e = e
alike_same Filled u v e = e
alike_same Ended u v e = e
alike_same (Refused why) u v e = ap length e

record Same (x y : File) : Type 0 where
  reading : x.reading ≡ y.reading
  words : Alike x.reading.stage x.words y.words

-- equal files are so
equal : (x y : File) → x ≡ y → Same x y
equal x y e =
    record { reading = ap (λ (z : File). z.reading) e; words = alike_same x.reading.stage x.words y.words (ap (λ (z : File). z.words) e) }

module _ (r : Reading) (u v : List ℕ) (l : length u ≡ length v) where
  head_same : (h : Head) → Same (take_head r u h) (take_head r v h)
  unfolding take_head
  head_same h = go (head_held h)
    where
      go : (t : Bool) →
          Same (cond t (taken Headed r (fresh_record h (record { 0 = 0 })) u) (refused OverLimit r u))
          (cond t (taken Headed r (fresh_record h (record { 0 = 0 })) v) (refused OverLimit r v))
      go true = record { reading = refl; words = l }
      go false = record { reading = refl; words = l }

  nothing_same : (f : Option Frame) → Same (on_nothing r u f) (on_nothing r v f)
  unfolding on_nothing
  nothing_same (Some (HeadFrame f)) = head_same (head_in f)
  nothing_same (Some (S s)) = record { reading = refl; words = l }
  nothing_same (Some (End n)) = record { reading = refl; words = l }
  nothing_same (Some (Clock c)) = record { reading = refl; words = l }
  nothing_same None = record { reading = refl; words = l }

  opened_same : (o : Outcome) (s : SFields) → Same (opened_by o r u s) (opened_by o r v s)
  opened_same (Ok _) s =
      equal _ _
      (ap (λ (n : ℕ). take_s (record { stage = Headed; lines = r.lines; rec = fresh_record r.rec.head (tick_of (first_tick s.t)) }) (replicate n 0) Joins s) l)
  opened_same (Err why) s = record { reading = refl; words = l }

  headed_same : (f : Option Frame) → Same (on_headed r u f) (on_headed r v f)
  unfolding on_headed take_first_s
  headed_same (Some (HeadFrame h)) = record { reading = refl; words = l }
  headed_same (Some (S s)) = opened_same (open_outcome r.rec.head (tick_of (first_tick s.t))) s
  headed_same (Some (End n)) = record { reading = refl; words = l }
  headed_same (Some (Clock c)) = record { reading = refl; words = l }
  headed_same None = record { reading = refl; words = l }

frame_same : (s : Stage) (r : Reading) → r.stage ≡ s → (u v : List ℕ) → Alike s u v → (f : Option Frame) → Same (on_frame s r u f) (on_frame s r v f)
frame_same Nothing r e u v a f = nothing_same r u v a f
frame_same Headed r e u v a f = headed_same r u v a f
frame_same Open r e u v a f = equal _ _ (ap (λ (ws : List ℕ). on_frame Open r ws f) a)
frame_same Filled r e u v a f = equal _ _ (ap (λ (ws : List ℕ). on_frame Filled r ws f) a)
frame_same Ended r e u v a f = equal _ _ (ap (λ (ws : List ℕ). on_frame Ended r ws f) a)
frame_same (Refused why) r e u v a f = record { reading = refl; words = subst⁻¹ (λ (s : Stage). Alike s u v) e a }

line_same : (x y : File) → Same x y → (line : List ℕ) → Same (take_line x line) (take_line y line)
unfolding take_line
line_same x y w line =
    subst (λ (r : Reading). Same (on_frame x.reading.stage x.reading x.words (frame_of line)) (on_frame r.stage r y.words (frame_of line))) w.reading
    (frame_same x.reading.stage x.reading refl x.words y.words w.words (frame_of line))

lines_same : (x y : File) → Same x y → (ls : List (List ℕ)) → Same (take_lines x ls) (take_lines y ls)
unfolding take_lines
lines_same x y w [] = w
lines_same x y w (l ∷ ls) = lines_same (take_line x l) (take_line y l) (line_same x y w l) ls

module _ (u v : List ℕ) (l : length u ≡ length v) (bytes : List ℕ) where
  read_same : Same (read_lines bytes u) (read_lines bytes v)
  unfolding read_lines
  read_same = lines_same (begun u) (begun v) (record { reading = refl; words = l }) (lines_of bytes)

  outcome_same : read_outcome bytes u ≡ read_outcome bytes v
  unfolding read_outcome
  outcome_same = ap (λ (r : Reading). stop_outcome r.stage (length (rest_of bytes))) read_same.reading

  answer_same : read_answer bytes u ≡ read_answer bytes v
  unfolding read_answer
  answer_same = ap₂ answered_by outcome_same read_same.reading

  stopped_same : (s : Stage) (n : ℕ) (a b : List ℕ) → Alike s a b → words_by (stop_outcome s n) a (zeroed u) ≡ words_by (stop_outcome s n) b (zeroed v)
  unfolding words_by
  stopped_same s n a b w = go s w
    where
      zeros_same : zeroed u ≡ zeroed v
      zeros_same = ap (λ (k : ℕ). replicate k 0) l

      ended : (t : Bool) → a ≡ b → words_by (cond t (Ok tt) (Err BadLine)) a (zeroed u) ≡ words_by (cond t (Ok tt) (Err BadLine)) b (zeroed v)
      ended true e = e
      ended false e = zeros_same

      go : (s : Stage) → Alike s a b → words_by (stop_outcome s n) a (zeroed u) ≡ words_by (stop_outcome s n) b (zeroed v)
      go Nothing w = zeros_same
      go Headed w = zeros_same
      go Open w = zeros_same
      go Filled w = zeros_same
      go Ended w = ended (eqb n 0) w
      go (Refused why) w = zeros_same

  table_same : read_table bytes u ≡ read_table bytes v
  unfolding read_table read_outcome
  table_same =
      stopped_same (read_lines bytes u).reading.stage (length (rest_of bytes)) (read_lines bytes u).words (read_lines bytes v).words read_same.words ∙
      ap (λ (r : Reading). words_by (stop_outcome r.stage (length (rest_of bytes))) (read_lines bytes v).words (zeroed v)) read_same.reading

pub same_reply : (came other input : List ℕ) → length came ≡ length other → reply_in came input ≡ reply_in other input
unfolding reply_in
same_reply came other input l =
    ap₂ (λ (x : ReadAnswer) (ws : List ℕ). reply_on (asked_in input) x ws) (answer_same came other l (behind_first input)) (table_same came other l (behind_first input))
