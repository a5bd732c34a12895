-- Reading happens at clock 0: no line raises the greatest clock, so a file that was read has 0 for it.
use mathlib.Core.Path.{◌≡◌, refl}
use mathlib.Core.Bool.{Bool, true, false, cond}
use mathlib.Core.List.{List, [], ◌∷◌}
use Prim.Native.Nat.{ℕ, ◌+◌}
use lib.Dec.{eqb, ltb}
use lib.ListN.{length, replicate}
use Rattle.units.specs.declared.standing.Standing.{Standing}
use Rattle.units.specs.declared.standing.Standing.TheVariants.{Joins}
use Rattle.units.specs.Limits.{tick_of}
use Rattle.window.specs.declared.Head.{Head}
use Rattle.window.specs.Limits.{head_held}
use Rattle.agreement.specs.declared.Record.{Record}
use Rattle.agreement.specs.declared.refusal.Refusal.TheVariants.{OverLimit, BadOrder}
use Rattle.std.specs.Prelude.{Err, None, Ok, Option, Some}
use Rattle.keeping.specs.Keeping.{Outcome}
use Rattle.keeping.specs.Append.{appended}
use Rattle.timeline.specs.Opening.{fresh_record, open_outcome}
use Rattle.timeline.specs.Appending.{append_outcome}
use Rattle.frames.specs.declared.Frame.{Frame}
use Rattle.frames.specs.declared.Frame.TheVariants.{Head as HeadFrame, S, End, Clock}
use Rattle.frames.specs.declared.SFields.{SFields}
use Rattle.frames.specs.Frames.{frame_of}
use Rattle.file.specs.declared.Stage.{Stage}
use Rattle.file.specs.declared.Stage.TheVariants.{Nothing, Headed, Open, Filled, Ended, Refused}
use Rattle.file.specs.declared.Reading.{Reading}
use Rattle.file.specs.Lines.{lines_of}
use Rattle.file.specs.Least.{least_count}
use Rattle.file.specs.Judging.{head_in, File, refused, taken, settled_reading, first_tick, later_standing, first_negative, reach_outcome, reaches_by, appended_by, take_s, opened_by, take_first_s, s_lines, take_head, take_end, on_nothing, on_headed, on_open, on_filled, on_frame, take_line, take_lines, begun, read_lines, read_outcome, answered_by, read_answer}

abbrev AtZero : File → Type 0
AtZero x = x.reading.rec.clock.0 ≡ 0

settled_zero : (o : Outcome) (s : Stage) (r : Reading) (rec : Record) → r.rec.clock.0 ≡ 0 → rec.clock.0 ≡ 0 → (settled_reading o s r rec).rec.clock.0 ≡ 0
unfolding settled_reading
settled_zero (Ok _) s r rec z y = y
settled_zero (Err why) s r rec z y = z

module _ (r : Reading) (ws : List ℕ) (z : r.rec.clock.0 ≡ 0) where
  s_zero : (st : Standing) (s : SFields) → AtZero (take_s r ws st s)
  unfolding take_s reaches_by
  s_zero st s = go (ltb s.r first_negative)
    where
      go : (t : Bool) →
          AtZero
          (cond t (appended_by (append_outcome r.rec ws st s.d (s.r + 1)) Open r ws s.d (s.r + 1)) (reaches_by r ws st s.d))
      go true = settled_zero (append_outcome r.rec ws st s.d (s.r + 1)) Open r (appended r.rec ws s.d (s.r + 1)) z z
      go false =
          let n = least_count r.rec.head r.rec.next.0 s.d in
          settled_zero (reach_outcome r.rec ws st s.d n) Filled r (appended r.rec ws s.d n) z z

  end_zero : (n : ℕ) → AtZero (take_end r ws n)
  unfolding take_end
  end_zero n = go (eqb n (s_lines r))
    where
      go : (t : Bool) → AtZero (cond t (taken Ended r r.rec ws) (refused BadOrder r ws))
      go true = z
      go false = z

  head_zero : (h : Head) → AtZero (take_head r ws h)
  unfolding take_head
  head_zero h = go (head_held h)
    where
      go : (t : Bool) → AtZero (cond t (taken Headed r (fresh_record h (record { 0 = 0 })) ws) (refused OverLimit r ws))
      go true = refl
      go false = z

module _ (r : Reading) (ws : List ℕ) (z : r.rec.clock.0 ≡ 0) where
  first_zero : (s : SFields) → AtZero (take_first_s r ws s)
  unfolding take_first_s
  first_zero s = go (open_outcome r.rec.head (tick_of (first_tick s.t)))
    where
      go : (o : Outcome) → AtZero (opened_by o r ws s)
      go (Ok _) =
          s_zero (record { stage = Headed; lines = r.lines; rec = fresh_record r.rec.head (tick_of (first_tick s.t)) }) (replicate (length ws) 0) refl Joins s
      go (Err why) = z

  frame_zero : (st : Stage) (f : Option Frame) → AtZero (on_frame st r ws f)
  unfolding on_nothing on_headed on_open on_filled
  frame_zero Nothing (Some (HeadFrame f)) = head_zero r ws z (head_in f)
  frame_zero Nothing (Some (S s)) = z
  frame_zero Nothing (Some (End m)) = z
  frame_zero Nothing (Some (Clock c)) = z
  frame_zero Nothing None = z
  frame_zero Headed (Some (HeadFrame h)) = z
  frame_zero Headed (Some (S s)) = first_zero s
  frame_zero Headed (Some (End m)) = z
  frame_zero Headed (Some (Clock c)) = z
  frame_zero Headed None = z
  frame_zero Open (Some (HeadFrame h)) = z
  frame_zero Open (Some (S s)) = s_zero r ws z (later_standing s.t r.rec.next) s
  frame_zero Open (Some (End m)) = end_zero r ws z m
  frame_zero Open (Some (Clock c)) = z
  frame_zero Open None = z
  frame_zero Filled (Some (HeadFrame h)) = z
  frame_zero Filled (Some (S s)) = z
  frame_zero Filled (Some (End m)) = end_zero r ws z m
  frame_zero Filled (Some (Clock c)) = z
  frame_zero Filled None = z
  frame_zero Ended f = z
  frame_zero (Refused why) f = z

lines_zero : (x : File) (ls : List (List ℕ)) → AtZero x → AtZero (take_lines x ls)
unfolding take_lines take_line
lines_zero x [] z = z
lines_zero x (l ∷ ls) z = lines_zero (take_line x l) ls (frame_zero x.reading x.words z x.reading.stage (frame_of l))

pub read_clock : (bytes came : List ℕ) → (read_answer bytes came).rec.clock.0 ≡ 0
unfolding read_answer read_lines
read_clock bytes came = go (read_outcome bytes came)
  where
    go : (o : Outcome) → (answered_by o (read_lines bytes came).reading).rec.clock.0 ≡ 0
    go (Ok _) = lines_zero (begun came) (lines_of bytes) refl
    go (Err why) = refl
