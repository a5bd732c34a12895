-- No file is refused with 2: reading opens its own timeline, and record and table agree at every append.
use mathlib.Core.Path.{◌≡◌, refl, subst⁻¹}
use mathlib.Core.Bool.{Bool, true, false, cond, ◌&&◌, ◌||◌}
use mathlib.Core.List.{List, [], ◌∷◌}
use Prim.Native.Nat.{ℕ, ◌+◌, ◌*◌}
use native.Mathlib.Omega.{arith}
use borrow.Author.Tests.{eqb-false}
use lib.Dec.{eqb, ltb, leb}
use lib.ListN.{length, replicate}
use Rattle.units.specs.declared.standing.Standing.{Standing}
use Rattle.units.specs.declared.standing.Standing.TheVariants.{Joins, Gap, Overlap}
use Rattle.units.specs.Limits.{largest_tick, tick_held, tick_of}
use Rattle.window.specs.declared.Head.{Head}
use Rattle.window.specs.Limits.{head_held}
use Rattle.window.specs.Place.{end_known, before_end}
use Rattle.runs.specs.Words.{capacity}
use Rattle.runs.specs.Encoding.{runs_for}
use Rattle.agreement.specs.declared.Record.{Record}
use Rattle.agreement.specs.declared.refusal.Refusal.{Refusal}
use Rattle.agreement.specs.declared.refusal.Refusal.TheVariants as refusal
use Rattle.agreement.specs.Agreement.{every, counts_held, agrees}
use Rattle.agreement.specs.Numbers.{refusal_number, answer_number}
use Rattle.std.specs.Prelude.{Err, None, Ok, Option, Some}
use Rattle.keeping.specs.Keeping.{Outcome}
use Rattle.keeping.specs.Append.{given, unspent_of, room_outcome, fit_outcome, appended}
use Rattle.timeline.specs.Opening.{fresh_record, open_outcome}
use Rattle.timeline.specs.Appending.{unjoined◌else◌, append_outcome}
use Rattle.timeline.proofs.Kept.{open_agrees}
use Rattle.frames.specs.declared.Frame.{Frame}
use Rattle.frames.specs.declared.Frame.TheVariants.{Head as HeadFrame, S, End, Clock}
use Rattle.frames.specs.declared.SFields.{SFields}
use Rattle.frames.specs.Frames.{frame_of}
use Rattle.file.specs.declared.Stage.{Stage}
use Rattle.file.specs.declared.Stage.TheVariants.{Nothing, Headed, Open, Filled, Ended, Refused}
use Rattle.file.specs.declared.Reading.{Reading}
use Rattle.file.specs.Lines.{lines_of, rest_of}
use Rattle.file.specs.Least.{least_count}
use Rattle.file.specs.Judging.{head_in, File, refused, taken, settled_reading, first_tick, later_standing, first_negative, reach_outcome, reaches_by, appended_by, take_s, opened_by, take_first_s, s_lines, take_head, take_end, on_nothing, on_headed, on_open, on_filled, on_frame, take_line, take_lines, begun, read_lines, stop_outcome, read_outcome, answered_by, read_answer}
use Rattle.file.specs.Sound.{Sound}
use Rattle.file.proofs.Sounding.{SoundFile, line_sound}

-- an outcome other than a refusal with 2, and a stage
data Other : Outcome → Type 0 where
  accepted : Other (Ok tt)
  other : (why : Refusal) → eqb (refusal_number why) 2 ≡ false → Other (Err why)

abbrev OtherStage : Stage → Type 0
OtherStage Nothing = Unit {0}
OtherStage Headed = Unit {0}
OtherStage Open = Unit {0}
OtherStage Filled = Unit {0}
OtherStage Ended = Unit {0}
OtherStage (Refused why) = Other (Err why)

-- ---- outcomes

either : (b : Bool) {x y : Outcome} → Other x → Other y → Other (cond b x y)
either true p q = p
either false p q = q

joins : (st : Standing) {x : Outcome} → Other x → Other (unjoined st else x)
joins Joins p = p
joins (Gap d) p = other (refusal.Gap d) refl
joins (Overlap d) p = other (refusal.Overlap d) refl

module _ (rec : Record) (ws : List ℕ) (d n : ℕ) where
  fits : Other (fit_outcome rec ws d n)
  unfolding fit_outcome room_outcome
  fits =
      either (leb (rec.next.0 + d * n) largest_tick)
      (either (counts_held rec.head.first.0 (rec.accepted + n))
      (either (every (λ r. before_end rec.head r.start.0) (given rec d n))
      (either (leb (runs_for (unspent_of rec ws d n)) (capacity ws)) accepted (other refusal.NoRunLeft refl))
      (other refusal.PastEnd refl))
      (other refusal.CountLimit refl))
      (other refusal.TickLimit refl)

  module _ (st : Standing) where
    appends : agrees rec ws ≡ true → Other (append_outcome rec ws st d n)
    unfolding append_outcome
    appends a =
        subst⁻¹ (λ t. Other (cond t (cond (eqb d 0 || eqb n 0) (Err refusal.NothingGiven) (unjoined st else fit_outcome rec ws d n)) (Err refusal.Disagreement))) a
        (either (eqb d 0 || eqb n 0) (other refusal.NothingGiven refl) (joins st fits))

    reaches : Other (reach_outcome rec ws st d n)
    unfolding reach_outcome
    reaches =
        either (eqb d 0) (other refusal.NothingGiven refl)
        (joins st
        (either (end_known rec.head) (either (before_end rec.head rec.next.0) fits (other refusal.PastEnd refl)) (other refusal.NoEndToReach refl)))

-- ---- one line

module _ (r : Reading) (ws : List ℕ) where
  settles : (o : Outcome) (s : Stage) (rec : Record) → OtherStage s → Other o → OtherStage (settled_reading o s r rec).stage
  unfolding settled_reading
  settles (Ok _) s rec k p = k
  settles (Err why) s rec k p = p

  takes_s : (st : Standing) (s : SFields) → agrees r.rec ws ≡ true → OtherStage (take_s r ws st s).reading.stage
  unfolding take_s reaches_by
  takes_s st s a = go (ltb s.r first_negative)
    where
      go : (t : Bool) →
          OtherStage
          (cond t (appended_by (append_outcome r.rec ws st s.d (s.r + 1)) Open r ws s.d (s.r + 1))
          (appended_by (reach_outcome r.rec ws st s.d (least_count r.rec.head r.rec.next.0 s.d)) Filled r ws s.d
          (least_count r.rec.head r.rec.next.0 s.d))
          ).reading.stage
      go true =
          settles (append_outcome r.rec ws st s.d (s.r + 1)) Open (appended r.rec ws s.d (s.r + 1)) tt (appends r.rec ws s.d (s.r + 1) st a)
      go false =
          let n = least_count r.rec.head r.rec.next.0 s.d in
          settles (reach_outcome r.rec ws st s.d n) Filled (appended r.rec ws s.d n) tt (reaches r.rec ws s.d n st)

  takes_end : (n : ℕ) → OtherStage (take_end r ws n).reading.stage
  unfolding take_end
  takes_end n = go (eqb n (s_lines r))
    where
      go : (t : Bool) → OtherStage (cond t (taken Ended r r.rec ws) (refused refusal.BadOrder r ws)).reading.stage
      go true = tt
      go false = other refusal.BadOrder refl

  takes_head : (h : Head) → OtherStage (take_head r ws h).reading.stage
  unfolding take_head
  takes_head h = go (head_held h)
    where
      go : (t : Bool) → OtherStage (cond t (taken Headed r (fresh_record h (record { 0 = 0 })) ws) (refused refusal.OverLimit r ws)).reading.stage
      go true = tt
      go false = other refusal.OverLimit refl

module _ (r : Reading) (ws : List ℕ) where
  takes_first : (s : SFields) → OtherStage (take_first_s r ws s).reading.stage
  unfolding take_first_s open_outcome
  takes_first s = go (open_outcome r.rec.head (tick_of (first_tick s.t))) refl opens
    where
      opens : Other (open_outcome r.rec.head (tick_of (first_tick s.t)))
      opens = either (head_held r.rec.head && tick_held (tick_of (first_tick s.t))) accepted (other refusal.OverLimit refl)

      go : (o : Outcome) → open_outcome r.rec.head (tick_of (first_tick s.t)) ≡ o → Other o → OtherStage (opened_by o r ws s).reading.stage
      go (Ok _) e p =
          takes_s (record { stage = Headed; lines = r.lines; rec = fresh_record r.rec.head (tick_of (first_tick s.t)) }) (replicate (length ws) 0) Joins s
          (open_agrees r.rec.head (tick_of (first_tick s.t)) (length ws) e)
      go (Err why) e p = p

  frame_other : (st : Stage) (f : Option Frame) → Sound st r ws → r.stage ≡ st → OtherStage st → OtherStage (on_frame st r ws f).reading.stage
  unfolding Sound on_nothing on_headed on_open on_filled
  frame_other Nothing (Some (HeadFrame f)) k e p = takes_head r ws (head_in f)
  frame_other Nothing (Some (S s)) k e p = other refusal.BadOrder refl
  frame_other Nothing (Some (End m)) k e p = other refusal.BadOrder refl
  frame_other Nothing (Some (Clock c)) k e p = other refusal.BadLine refl
  frame_other Nothing None k e p = other refusal.BadLine refl
  frame_other Headed (Some (HeadFrame h)) k e p = other refusal.BadOrder refl
  frame_other Headed (Some (S s)) k e p = takes_first s
  frame_other Headed (Some (End m)) k e p = other refusal.BadOrder refl
  frame_other Headed (Some (Clock c)) k e p = other refusal.BadLine refl
  frame_other Headed None k e p = other refusal.BadLine refl
  frame_other Open (Some (HeadFrame h)) k e p = other refusal.BadOrder refl
  frame_other Open (Some (S s)) k e p = takes_s r ws (later_standing s.t r.rec.next) s k.agreed
  frame_other Open (Some (End m)) k e p = takes_end r ws m
  frame_other Open (Some (Clock c)) k e p = other refusal.BadLine refl
  frame_other Open None k e p = other refusal.BadLine refl
  frame_other Filled (Some (HeadFrame h)) k e p = other refusal.BadOrder refl
  frame_other Filled (Some (S s)) k e p = other refusal.BadOrder refl
  frame_other Filled (Some (End m)) k e p = takes_end r ws m
  frame_other Filled (Some (Clock c)) k e p = other refusal.BadLine refl
  frame_other Filled None k e p = other refusal.BadLine refl
  frame_other Ended f k e p = other refusal.BadLine refl
  frame_other (Refused why) f k e p = subst⁻¹ OtherStage e p

lines_other : (words : ℕ) (x : File) (ls : List (List ℕ)) → SoundFile words x → OtherStage x.reading.stage → OtherStage (take_lines x ls).reading.stage
unfolding take_lines take_line
lines_other words x [] h p = p
lines_other words x (l ∷ ls) h p =
    lines_other words (take_line x l) ls (line_sound words x l h)
    (frame_other x.reading x.words x.reading.stage (frame_of l) h.0 refl p)

-- ---- the whole file

stops : (s : Stage) (n : ℕ) → OtherStage s → Other (stop_outcome s n)
stops Nothing n p = other refusal.BadLine refl
stops Headed n p = other refusal.BadLine refl
stops Open n p = other refusal.BadLine refl
stops Filled n p = other refusal.BadLine refl
stops Ended n p = either (eqb n 0) accepted (other refusal.BadLine refl)
stops (Refused why) n p = p

pub never_disagrees : (bytes came : List ℕ) → answer_number (read_answer bytes came).outcome ≡ 2 → ⊥
unfolding read_lines read_outcome read_answer Sound
never_disagrees bytes came =
    go (read_outcome bytes came)
    (stops (read_lines bytes came).reading.stage (length (rest_of bytes)) (lines_other (length came) (begun came) (lines_of bytes) (refl, refl) tt))
  where
    go : (o : Outcome) → Other o → answer_number (answered_by o (read_lines bytes came).reading).outcome ≡ 2 → ⊥
    go (Ok _) accepted e = let z : ⊥ = omega arith in z
    go (Err why) (other _ k) e = eqb-false (refusal_number why) 2 k e
