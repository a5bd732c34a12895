-- Which frames may stand at a stage, what each stage asks of the next line, as the code meets it, and what a line that is no
-- frame comes to.
use mathlib.Core.Path.{◌≡◌, refl, sym, ap, ap₂, subst, ◌∙◌}
use mathlib.Core.List.{List}
use Prim.Native.Nat.{ℕ, ◌+◌, ◌^◌, ◌≤◌}
use native.Mathlib.Omega.{arith}
use Rattle.std.specs.Prelude.{None, Option, Some}
use Rattle.units.specs.Limits.{largest_span}
use Rattle.agreement.specs.declared.refusal.Refusal.{Refusal}
use Rattle.agreement.specs.declared.refusal.Refusal.TheVariants as refusal
use Rattle.agreement.proofs.Agreeing.{agreeing}
use Rattle.frames.specs.declared.Frame.{Frame}
use Rattle.frames.specs.declared.Frame.TheVariants.{Head as HeadFrame, S, End, Clock}
use Rattle.frames.specs.declared.HeadLine.{HeadLine}
use Rattle.frames.specs.declared.SFields.{SFields}
use Rattle.frames.specs.Frames.{Fits, frame_of}
use Rattle.frames.proofs.Lines.{read_fits}
use Rattle.file.specs.declared.Stage.{Stage}
use Rattle.file.specs.declared.Stage.TheVariants.{Nothing, Headed, Open, Filled, Ended, Refused}
use Rattle.file.specs.declared.Reading.{Reading}
use Rattle.file.specs.Judging.{File, refused, misplaced, take_first_s, on_nothing, on_headed, on_open, on_filled, on_frame, take_line}
use Rattle.file.specs.Sound.{Running, Begins, Narrow, Sound}

-- ---- a frame that may not stand at the stage, and a line that is none

module _ (r : Reading) (ws : List ℕ) where
  not_head : (o : Option Frame) → ((h : HeadLine) → o ≡ Some (HeadFrame h) → ⊥) → refused (misplaced o) r ws ≡ on_nothing r ws o
  unfolding on_nothing
  not_head (Some (HeadFrame h)) k = absurd (k h refl)
  not_head (Some (S s)) k = refl
  not_head (Some (End n)) k = refl
  not_head (Some (Clock c)) k = refl
  not_head None k = refl

  not_s : (o : Option Frame) → ((s : SFields) → o ≡ Some (S s) → ⊥) → refused (misplaced o) r ws ≡ on_headed r ws o
  unfolding on_headed
  not_s (Some (HeadFrame h)) k = refl
  not_s (Some (S s)) k = absurd (k s refl)
  not_s (Some (End n)) k = refl
  not_s (Some (Clock c)) k = refl
  not_s None k = refl

  not_s_end : (o : Option Frame) → ((s : SFields) → o ≡ Some (S s) → ⊥) → ((n : ℕ) → o ≡ Some (End n) → ⊥) → refused (misplaced o) r ws ≡ on_open r ws o
  unfolding on_open
  not_s_end (Some (HeadFrame h)) k l = refl
  not_s_end (Some (S s)) k l = absurd (k s refl)
  not_s_end (Some (End n)) k l = absurd (l n refl)
  not_s_end (Some (Clock c)) k l = refl
  not_s_end None k l = refl

  not_end : (o : Option Frame) → ((n : ℕ) → o ≡ Some (End n) → ⊥) → refused (misplaced o) r ws ≡ on_filled r ws o
  unfolding on_filled
  not_end (Some (HeadFrame h)) k = refl
  not_end (Some (S s)) k = refl
  not_end (Some (End n)) k = absurd (k n refl)
  not_end (Some (Clock c)) k = refl
  not_end None k = refl

module _ (r : Reading) (o : Option Frame) (why : Refusal) (e : why ≡ misplaced o) (x : Reading) (k : x ≡ record { stage = Refused why; lines = r.lines; rec = r.rec }) where
  refused_so : (ws : List ℕ) → ◌≡◌ {A = File} (record { reading = x; words = ws }) (refused (misplaced o) r ws)
  refused_so ws = ap (λ y. record { reading = y; words = ws }) k ∙ ap (λ y. refused y r ws) e

  pub nothing_misplaced : ((h : HeadLine) → o ≡ Some (HeadFrame h) → ⊥) → (ws : List ℕ) → ◌≡◌ {A = File} (record { reading = x; words = ws }) (on_nothing r ws o)
  nothing_misplaced n ws = refused_so ws ∙ not_head r ws o n

  pub headed_misplaced : (ws : List ℕ) → ((s : SFields) → o ≡ Some (S s) → ⊥) → ◌≡◌ {A = File} (record { reading = x; words = ws }) (on_headed r ws o)
  headed_misplaced ws n = refused_so ws ∙ not_s r ws o n

  pub open_misplaced : (ws : List ℕ) → ((s : SFields) → o ≡ Some (S s) → ⊥) → ((n : ℕ) → o ≡ Some (End n) → ⊥) → ◌≡◌ {A = File} (record { reading = x; words = ws }) (on_open r ws o)
  open_misplaced ws n p = refused_so ws ∙ not_s_end r ws o n p

  pub filled_misplaced : ((n : ℕ) → o ≡ Some (End n) → ⊥) → (ws : List ℕ) → ◌≡◌ {A = File} (record { reading = x; words = ws }) (on_filled r ws o)
  filled_misplaced n ws = refused_so ws ∙ not_end r ws o n

-- ---- an S line

module _ (r : Reading) (ws : List ℕ) (f : Frame) (s : SFields) (e : f ≡ S s) where
  narrow_s : Narrow (Some f) → s.d ≤ largest_span
  narrow_s n = subst (λ g. Narrow (Some g)) e n

  pub headed_asks : Begins r × Narrow (Some f) → Begins r × (s.d ≤ largest_span)
  headed_asks h = (h.0, narrow_s h.1)

  pub headed_s : (x : Reading) (vs : List ℕ) → ◌≡◌ {A = File} (record { reading = x; words = vs }) (take_first_s r ws s) →
      ◌≡◌ {A = File} (record { reading = x; words = vs }) (on_headed r ws (Some f))
  unfolding on_headed
  headed_s x vs k = k ∙ sym (ap (λ g. on_headed r ws (Some g)) e)

pub running_lines : (r : Reading) (ws : List ℕ) → Running r ws → (1 ≤ r.lines) × (r.lines ≤ 2 ^ 31 + 1)
running_lines r ws h = (h.some, omega (arith, h.few, (agreeing r.rec ws h.agreed).held.accepted))

-- ---- the line as a frame

-- every S line has a duration of 32 bits
pub narrow : (line : List ℕ) (f : Option Frame) → f ≡ frame_of line → Narrow f
narrow line None e = tt
narrow line (Some f) e = go f (read_fits line f (sym e))
  where
    go : (g : Frame) → Fits g → Narrow (Some g)
    go (HeadFrame h) k = tt
    go (S s) k = let fit = k.fields.1.0 in omega arith
    go (End n) k = tt
    go (Clock c) k = tt

module _ (r : Reading) (ws : List ℕ) (h : Sound r.stage r ws) where
  at : (s : Stage) → r.stage ≡ s → Sound s r ws
  at s e = subst (λ y. Sound y r ws) e h

  module _ (line : List ℕ) (o : Option Frame) (k : o ≡ frame_of line) (f : Frame) (is : o ≡ Some f) where
    pub at_headed : r.stage ≡ Headed → Begins r × Narrow (Some f)
    unfolding Sound
    at_headed e = (at Headed e, narrow line (Some f) (sym is ∙ k))

    pub at_open : r.stage ≡ Open → Running r ws × Narrow (Some f)
    unfolding Sound
    at_open e = (at Open e, narrow line (Some f) (sym is ∙ k))

module _ (r : Reading) (ws line : List ℕ) (o : Option Frame) (k : o ≡ frame_of line) where
  -- what a stage does with a frame, or with none, is what the line comes to
  line_by : (s : Stage) → r.stage ≡ s → (f : Option Frame) → o ≡ f → on_frame s r ws f ≡ take_line (record { reading = r; words = ws }) line
  unfolding take_line
  line_by s e f is = ap₂ (λ y g. on_frame y r ws g) (sym e) (sym is ∙ k)

  -- a line that is no frame is refused wherever it stands
  pub line_bad : ((why : Refusal) → r.stage ≡ Refused why → ⊥) → o ≡ None → refused refusal.BadLine r ws ≡ take_line (record { reading = r; words = ws }) line
  unfolding on_nothing on_headed on_open on_filled
  line_bad n is = go r.stage refl
    where
      go : (s : Stage) → r.stage ≡ s → refused refusal.BadLine r ws ≡ take_line (record { reading = r; words = ws }) line
      go Nothing e = line_by Nothing e None is
      go Headed e = line_by Headed e None is
      go Open e = line_by Open e None is
      go Filled e = line_by Filled e None is
      go Ended e = line_by Ended e None is
      go (Refused why) e = absurd (n why e)
