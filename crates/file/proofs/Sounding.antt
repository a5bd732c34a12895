-- What holds of a reading at its stage still holds after the next line: record and table agree from the first S line on.
use mathlib.Core.Path.{◌≡◌, refl, ap₂, subst⁻¹, ◌∙◌}
use mathlib.Core.Bool.{Bool, true, false, cond, ◌&&◌, and-eq-true_iff}
use mathlib.Core.List.{List, [], ◌∷◌}
use Prim.Native.Nat.{ℕ, ◌+◌, ◌≤◌}
use native.Mathlib.Omega.{arith}
use borrow.Author.Tests.{eqb-true, eqb-false, eq-eqb, leb-true, le-leb}
use lib.Dec.{eqb, leb, ltb}
use lib.ListN.{length, replicate, length-replicate}
use Rattle.units.specs.declared.standing.Standing.{Standing}
use Rattle.units.specs.declared.standing.Standing.TheVariants.{Joins, Gap, Overlap}
use Rattle.units.specs.Exactly.{ExactlyWhen}
use Rattle.units.specs.Limits.{largest_span, tick_of}
use Rattle.window.specs.declared.Head.{Head}
use Rattle.window.specs.Limits.{head_held}
use Rattle.window.specs.Place.{end_known, before_end}
use Rattle.runs.proofs.Tables.{canonical_length}
use Rattle.agreement.specs.declared.Record.{Record}
use Rattle.agreement.specs.declared.refusal.Refusal.{Refusal}
use Rattle.agreement.specs.declared.refusal.Refusal.TheVariants as refusal
use Rattle.agreement.specs.Agreement.{agrees}
use Rattle.std.specs.Prelude.{Err, None, Ok, Option, Some}
use Rattle.keeping.specs.Keeping.{Outcome}
use Rattle.keeping.specs.Keeping.{words_keeping, words_by}
use Rattle.keeping.specs.Append.{unspent_of, fit_outcome, appended}
use Rattle.keeping.proofs.Outcomes.{refused_not}
use Rattle.timeline.specs.Opening.{fresh_record, open_outcome}
use Rattle.timeline.specs.Appending.{unjoined◌else◌, append_outcome}
use Rattle.timeline.proofs.Judged.{stands_joins}
use Rattle.timeline.proofs.Kept.{open_agrees, taken, accepted_keeps}
use Rattle.frames.specs.declared.Frame.{Frame}
use Rattle.frames.specs.declared.Frame.TheVariants.{Head as HeadFrame, S, End, Clock}
use Rattle.frames.specs.declared.SFields.{SFields}
use Rattle.frames.specs.Frames.{frame_of}
use Rattle.file.specs.declared.Stage.{Stage}
use Rattle.file.specs.declared.Stage.TheVariants.{Nothing, Headed, Open, Filled, Ended, Refused}
use Rattle.file.specs.declared.Reading.{Reading}
use Rattle.file.specs.Judging.{head_in, File, settled_reading, refused, taken as takes, first_tick, later_standing, first_negative, reach_outcome, reaches_by, appended_by, take_s, opened_by, take_first_s, take_head, s_lines, take_end, on_nothing, on_headed, on_open, on_filled, on_frame, take_line, take_lines, begun, read_lines}
use Rattle.file.specs.Lines.{lines_of}
use Rattle.file.specs.Least.{least_count}
use Rattle.file.specs.Feeding.{most_lines, lines_held, stage_held}
use Rattle.file.specs.Sound.{Running, Begins, Counted, Narrow, Sound}
use Rattle.file.proofs.Counts.{least_holds}
use Rattle.file.proofs.Places.{narrow, running_lines}

-- and the table has as many words as it came with
abbrev pub SoundFile : ℕ → File → Type 0
SoundFile words x = Sound x.reading.stage x.reading x.words × (length x.words ≡ words)

-- ---- the test at a stage says just what holds there

module _ (r : Reading) (ws : List ℕ) where
  running_is : ExactlyWhen (lines_held r ws ≡ true) (Running r ws)
  running_is =
      record {
        only = λ t.
            let a = (and-eq-true_iff (agrees r.rec ws && leb 1 r.lines) (leb (s_lines r) r.rec.accepted)).0 t in
            let b = (and-eq-true_iff (agrees r.rec ws) (leb 1 r.lines)).0 a.0 in
            let most = leb-true (s_lines r) r.rec.accepted a.1 in
            record { agreed = b.0; some = leb-true 1 r.lines b.1; few = omega arith };
        if = λ h.
            ap₂ ◌&&◌ (ap₂ ◌&&◌ h.agreed (le-leb 1 r.lines h.some))
            (le-leb (s_lines r) r.rec.accepted (omega (arith, h.some, h.few)));
      }

  few_is : ExactlyWhen (leb r.lines most_lines ≡ true) (Counted r)
  few_is = record { only = λ t. record { few = leb-true r.lines most_lines t }; if = λ h. le-leb r.lines most_lines h.few }

  pub stage_is : (s : Stage) → ExactlyWhen (stage_held s r ws ≡ true) (Sound s r ws)
  unfolding stage_held Sound
  stage_is Nothing = record { only = eqb-true r.lines 0; if = eq-eqb r.lines 0 }
  stage_is Headed =
      record {
        only = λ t.
            let a = (and-eq-true_iff (head_held r.rec.head) (eqb r.lines 1)).0 t in
            record { held = a.0; one = eqb-true r.lines 1 a.1 };
        if = λ h. ap₂ ◌&&◌ h.held (eq-eqb r.lines 1 h.one);
      }
  stage_is Open = running_is
  stage_is Filled = running_is
  stage_is Ended =
      record {
        only = λ t.
            let a = (and-eq-true_iff (agrees r.rec ws) (leb r.lines most_lines)).0 t in
            record { agreed = a.0; few = leb-true r.lines most_lines a.1 };
        if = λ h. ap₂ ◌&&◌ h.agreed (le-leb r.lines most_lines h.few);
      }
  stage_is (Refused why) = few_is

-- ---- the outcome of a negative r that is accepted

-- it is the outcome of an append of the least count
reach_accepted : (rec : Record) (ws : List ℕ) (st : Standing) (d n : ℕ) → agrees rec ws ≡ true → (n ≡ least_count rec.head rec.next.0 d) →
    reach_outcome rec ws st d n ≡ Ok tt → append_outcome rec ws st d n ≡ Ok tt
unfolding reach_outcome
reach_accepted rec ws st d n a l o = go (eqb d 0) refl st refl (end_known rec.head) refl (before_end rec.head rec.next.0) refl o
  where
    some : (d ≡ 0 → ⊥) → n ≡ 0 → ⊥
    some i z =
        let lasts : 1 ≤ d = omega arith in
        let f : ⊥ = omega (arith, l, (least_holds rec.head rec.next.0 d lasts).some) in
        f

    go : (t : Bool) → eqb d 0 ≡ t → (k : Standing) → st ≡ k → (u : Bool) → end_known rec.head ≡ u → (v : Bool) → before_end rec.head rec.next.0 ≡ v →
        cond t (Err refusal.NothingGiven)
        (unjoined k else cond u (cond v (fit_outcome rec ws d n) (Err refusal.PastEnd)) (Err refusal.NoEndToReach)) ≡
        (Ok tt) →
        append_outcome rec ws st d n ≡ Ok tt
    go true e k j u p v q o = absurd (refused_not refusal.NothingGiven o)
    go false e (Gap d) j u p v q o = absurd (refused_not (refusal.Gap d) o)
    go false e (Overlap d) j u p v q o = absurd (refused_not (refusal.Overlap d) o)
    go false e Joins j false p v q o = absurd (refused_not refusal.NoEndToReach o)
    go false e Joins j true p false q o = absurd (refused_not refusal.PastEnd o)
    go false e Joins j true p true q o = stands_joins rec ws st d n a (eqb-false d 0 e) (some (eqb-false d 0 e)) j ∙ o

-- ---- one line

module _ (words : ℕ) (r : Reading) (ws : List ℕ) (long : length ws ≡ words) where
  refused_sound : (why : Refusal) → r.lines ≤ most_lines → SoundFile words (refused why r ws)
  unfolding Sound
  refused_sound why f = (record { few = f }, long)

  running_few : Running r ws → r.lines ≤ most_lines
  running_few h = omega (arith, (running_lines r ws h).1)

  appended_running : (d n : ℕ) (st : Standing) (s : Stage) → Running r ws → d ≤ largest_span → append_outcome r.rec ws st d n ≡ Ok tt →
      Running (record { stage = s; lines = r.lines + 1; rec = appended r.rec ws d n }) (words_keeping ws (unspent_of r.rec ws d n)) ×
      (length (words_keeping ws (unspent_of r.rec ws d n)) ≡ words)
  appended_running d n st s h small o = (
    record {
      agreed = accepted_keeps r.rec ws st d n small o;
      some = omega arith;
      few = omega (arith, h.few, (taken r.rec ws st d n o).counts);
    },
    canonical_length (length ws) (unspent_of r.rec ws d n) (taken r.rec ws st d n o).room ∙ long,
  )

  s_sound : (st : Standing) (s : SFields) → Running r ws → s.d ≤ largest_span → SoundFile words (take_s r ws st s)
  unfolding take_s reaches_by Sound settled_reading words_by
  s_sound st s h small =
      go (ltb s.r first_negative) (append_outcome r.rec ws st s.d (s.r + 1)) refl
      (reach_outcome r.rec ws st s.d (least_count r.rec.head r.rec.next.0 s.d))
      refl
    where
      go : (t : Bool) (o : Outcome) → append_outcome r.rec ws st s.d (s.r + 1) ≡ o →
          (p : Outcome) → reach_outcome r.rec ws st s.d (least_count r.rec.head r.rec.next.0 s.d) ≡ p →
          SoundFile words
          (cond t (appended_by o Open r ws s.d (s.r + 1)) (appended_by p Filled r ws s.d (least_count r.rec.head r.rec.next.0 s.d)))
      go true (Ok _) e p f = appended_running s.d (s.r + 1) st Open h small e
      go true (Err why) e p f = (record { few = running_few h }, long)
      go false o e (Ok _) f =
          let n = least_count r.rec.head r.rec.next.0 s.d in
          appended_running s.d n st Filled h small (reach_accepted r.rec ws st s.d n h.agreed refl f)
      go false o e (Err why) f = (record { few = running_few h }, long)

  end_sound : (n : ℕ) → Running r ws → SoundFile words (take_end r ws n)
  unfolding take_end Sound
  end_sound n h = go (eqb n (s_lines r))
    where
      go : (t : Bool) → SoundFile words (cond t (takes Ended r r.rec ws) (refused refusal.BadOrder r ws))
      go true = (record { agreed = h.agreed; few = omega (arith, (running_lines r ws h).1) }, long)
      go false = (record { few = running_few h }, long)

  head_sound : (h : Head) → r.lines ≡ 0 → SoundFile words (take_head r ws h)
  unfolding take_head Sound
  head_sound h z = go (head_held h) refl
    where
      go : (t : Bool) → head_held h ≡ t → SoundFile words (cond t (takes Headed r (fresh_record h (record { 0 = 0 })) ws) (refused refusal.OverLimit r ws))
      go true e = (record { held = e; one = omega arith }, long)
      go false e = (record { few = omega arith }, long)

module _ (words : ℕ) (r : Reading) (ws : List ℕ) (long : length ws ≡ words) where
  first_sound : (s : SFields) → Begins r → s.d ≤ largest_span → SoundFile words (take_first_s r ws s)
  unfolding take_first_s
  first_sound s b small = go (open_outcome r.rec.head (tick_of (first_tick s.t))) refl
    where
      go : (o : Outcome) → open_outcome r.rec.head (tick_of (first_tick s.t)) ≡ o → SoundFile words (opened_by o r ws s)
      go (Ok _) e =
          s_sound words (record { stage = Headed; lines = r.lines; rec = fresh_record r.rec.head (tick_of (first_tick s.t)) }) (replicate (length ws) 0)
          (length-replicate (length ws) 0 ∙ long) Joins s
          (record { agreed = open_agrees r.rec.head (tick_of (first_tick s.t)) (length ws) e; some = omega (arith, b.one); few = omega (arith, b.one) })
          small
      go (Err why) e = refused_sound words r ws long why (omega (arith, b.one))

  few : (st : Stage) → Sound st r ws → r.lines ≤ most_lines
  unfolding Sound
  few Nothing k = omega arith
  few Headed k = omega (arith, k.one)
  few Open k = running_few words r ws long k
  few Filled k = running_few words r ws long k
  few Ended k = k.few
  few (Refused why) k = k.few

  frame_sound : (st : Stage) (f : Option Frame) → Sound st r ws → r.stage ≡ st → Narrow f → SoundFile words (on_frame st r ws f)
  unfolding Sound on_nothing on_headed on_open on_filled
  frame_sound Nothing (Some (HeadFrame f)) k e n = head_sound words r ws long (head_in f) k
  frame_sound Nothing (Some (S s)) k e n = refused_sound words r ws long refusal.BadOrder (few Nothing k)
  frame_sound Nothing (Some (End m)) k e n = refused_sound words r ws long refusal.BadOrder (few Nothing k)
  frame_sound Nothing (Some (Clock c)) k e n = refused_sound words r ws long refusal.BadLine (few Nothing k)
  frame_sound Nothing None k e n = refused_sound words r ws long refusal.BadLine (few Nothing k)
  frame_sound Headed (Some (HeadFrame h)) k e n = refused_sound words r ws long refusal.BadOrder (few Headed k)
  frame_sound Headed (Some (S s)) k e n = first_sound s k n
  frame_sound Headed (Some (End m)) k e n = refused_sound words r ws long refusal.BadOrder (few Headed k)
  frame_sound Headed (Some (Clock c)) k e n = refused_sound words r ws long refusal.BadLine (few Headed k)
  frame_sound Headed None k e n = refused_sound words r ws long refusal.BadLine (few Headed k)
  frame_sound Open (Some (HeadFrame h)) k e n = refused_sound words r ws long refusal.BadOrder (few Open k)
  frame_sound Open (Some (S s)) k e n = s_sound words r ws long (later_standing s.t r.rec.next) s k n
  frame_sound Open (Some (End m)) k e n = end_sound words r ws long m k
  frame_sound Open (Some (Clock c)) k e n = refused_sound words r ws long refusal.BadLine (few Open k)
  frame_sound Open None k e n = refused_sound words r ws long refusal.BadLine (few Open k)
  frame_sound Filled (Some (HeadFrame h)) k e n = refused_sound words r ws long refusal.BadOrder (few Filled k)
  frame_sound Filled (Some (S s)) k e n = refused_sound words r ws long refusal.BadOrder (few Filled k)
  frame_sound Filled (Some (End m)) k e n = end_sound words r ws long m k
  frame_sound Filled (Some (Clock c)) k e n = refused_sound words r ws long refusal.BadLine (few Filled k)
  frame_sound Filled None k e n = refused_sound words r ws long refusal.BadLine (few Filled k)
  frame_sound Ended f k e n = refused_sound words r ws long refusal.BadLine k.few
  frame_sound (Refused why) f k e n = (subst⁻¹ (λ y. Sound y r ws) e k, long)

pub sound_few : (words : ℕ) (x : File) → SoundFile words x → x.reading.lines ≤ most_lines
sound_few words x h = few words x.reading x.words h.1 x.reading.stage h.0

pub line_sound : (words : ℕ) (x : File) (line : List ℕ) → SoundFile words x → SoundFile words (take_line x line)
unfolding take_line
line_sound words x line h =
    frame_sound words x.reading x.words h.1 x.reading.stage (frame_of line) h.0 refl (narrow line (frame_of line) refl)

lines_sound : (words : ℕ) (x : File) (ls : List (List ℕ)) → SoundFile words x → SoundFile words (take_lines x ls)
unfolding take_lines
lines_sound words x [] h = h
lines_sound words x (l ∷ ls) h = lines_sound words (take_line x l) ls (line_sound words x l h)

pub read_sound : (fed came : List ℕ) → SoundFile (length came) (read_lines fed came)
unfolding read_lines Sound
read_sound fed came = lines_sound (length came) (begun came) (lines_of fed) (refl, refl)
