-- The old answers stand: the window at an update period of 0, the frames of lines that are no head with one, and what is written behind the head line.
use Rattle.agreement.specs.Numbers.{answer_number}
use mathlib.Core.Path.{◌≡◌, refl, sym, ap, ap₂, subst⁻¹, ◌∙◌}
use mathlib.Core.Bool.{Bool, true, false, cond, ◌&&◌}
use mathlib.Core.List.{List, [], ◌∷◌, ◌++◌, map}
use Prim.Native.Nat.{ℕ, zero, suc, ◌+◌}
use native.Mathlib.Omega.{arith}
use borrow.Author.Tests.{eqb-true, le-leb, lt-leb, leb-true, leb-false}
use lib.Dec.{eqb, leb}
use lib.IntN.{pos}
use lib.Signed.{le_z}
use lib.ListN.{length, drop, length-append}
use Rattle.units.specs.Exactly.{ExactlyWhen}
use Rattle.units.specs.declared.Millis.{Millis}
use Rattle.units.specs.declared.WideMillis.{WideMillis}
use Rattle.units.specs.Limits.{largest_millis, clock_held}
use Rattle.hexdigits.specs.Ascii.{ascii}
use Rattle.hexdigits.specs.Digits as hex
use Rattle.hexdigits.specs.Digits.{are_digits, digits_of, digit_of}
use Rattle.window.specs.declared.Head.{Head}
use Rattle.window.specs.declared.Reference.{Reference}
use Rattle.window.specs.Limits.{head_held}
use Rattle.window.specs.Place.{place, moment, cut_to_end}
use Rattle.window.specs.Window.{overlaps, low_edge, high_edge, window_at, cut_span, needed, Spent}
use Rattle.runs.specs.Encoding.{encode, runs_for}
use Rattle.agreement.specs.declared.Record.{Record}
use Rattle.agreement.specs.declared.refusal.Refusal.TheVariants.{Disagreement, ClockLimit, EarlierClock, NothingKept, ShortOutput}
use Rattle.agreement.specs.Agreement.{agrees, kept}
use Rattle.agreement.specs.Rows.{◌unless◌else◌, ◌when◌else◌}
use Rattle.std.specs.Prelude.{Err, None, Ok, Option, Some}
use Rattle.answers.specs.Judgement.{verdict_of, verdict_at}
use Rattle.answers.specs.Edge.{at_or_before, latest_upto, covered_edge}
use Rattle.frames.specs.declared.Frame.{Frame}
use Rattle.frames.specs.declared.Frame.TheVariants.{End}
use Rattle.frames.specs.Fields.{digit_count, field_digits, field_values}
use Rattle.frames.specs.Frames.{line_length, ended_length, kind_at, line_of, ended_line, frame_as, frame_of}
use Rattle.frames.proofs.Rows.{length_fields}
use Rattle.file.specs.Lines.{lines_from, rest_from, lines_of, rest_of}
use Rattle.writing.specs.Writing.{bytes_of, s_frames, head_frame, file_of, kept_head, write_answer}
use Rattle.laws.specs.ByHand.{full}
use Rattle.laws.specs.Lines.{judged, beginning, judged_file}
use Rattle.laws.specs.Update.{with_update}
use Rattle.laws.specs.OldAnswers.{old_window, old_needed, OldSpent, old_verdict, old_edge, old_held, old_widths, old_from, old_frame, old_file, kind_read, NoUpdate, old_head_frame, old_file_of, old_written, two_heads, OldAnswersStand}

-- ---- the window, and what is told from it

module _ (h : Head) (z : h.update.0 ≡ 0) where
  pub window : (c : ℕ) → window_at h c ≡ old_window h c
  unfolding high_edge
  window c = ap (λ (n : ℕ). record { from = low_edge h c; to = cut_to_end h (moment h (pos n)) }) (omega arith)

  needs : (r : Reference) (c : ℕ) → needed h r c ≡ old_needed h r c
  needs r c = ap (overlaps (cut_span h r)) (window c)

  spent : (r : Reference) (c : ℕ) → ExactlyWhen (Spent h r c) (OldSpent h r c)
  spent r c = record { only = λ s later l. sym (needs r later) ∙ s later l; if = λ s later l. needs r later ∙ s later l }

-- two tests that agree have one latest clock
same_latest : (p q : ℕ → Bool) → ((c : ℕ) → p c ≡ q c) → (n : ℕ) → latest_upto p n ≡ latest_upto q n
unfolding latest_upto
same_latest p q e zero = ap (λ b. cond {A = Option Millis} b (Some (record { 0 = zero })) None) (e zero)
same_latest p q e (suc n) = ap₂ (λ b m. cond {A = Option Millis} b (Some (record { 0 = suc n })) m) (e (suc n)) (same_latest p q e n)

module _ (rec : Record) (ws : List ℕ) (z : rec.head.update.0 ≡ 0) where
  verdict_is : (c : WideMillis) → verdict_at rec ws c ≡ old_verdict rec ws c
  verdict_is c =
      ap
      (λ w.
      Err Disagreement unless agrees rec ws else
      Err ClockLimit unless clock_held c else
      Err EarlierClock unless leb rec.clock.0 c.0 else
      Ok (verdict_of rec.head w (kept rec ws)))
      (window rec.head z c.0)

  edge_is : covered_edge rec ws ≡ old_edge rec ws
  edge_is =
      ap (λ (e : Option Millis). Err Disagreement unless agrees rec ws else Ok e)
      (same_latest (at_or_before rec.head rec.next.0) (λ c. le_z (old_window rec.head c).to (place rec.head rec.next.0))
      (λ c. ap (λ w. le_z w.to (place rec.head rec.next.0)) (window rec.head z c))
      largest_millis)

held : (h : Head) → h.update.0 ≡ 0 → head_held h ≡ old_held h
held h z = ap (λ (u : ℕ). head_held (with_update u h)) z ∙ and-true (old_held h)
  where
    and-true : (b : Bool) → b && true ≡ b
    and-true true = refl
    and-true false = refl

-- ---- lines and files

module _ (line : List ℕ) where
  -- the frame of a line that is taken for one of kind k
  abbrev new_at : ℕ → Option Frame
  new_at k = cond (are_digits line) (cond (eqb (length line) (line_length k)) (frame_as k line) None) None

  abbrev old_at : ℕ → Option Frame
  old_at k = cond (are_digits line) (cond (eqb (length line) (digit_count (1 ∷ old_widths k))) (old_from k (field_values (old_widths k) (drop 2 line))) None) None

  -- of kind 05 only a head is a frame
  at_five : (d l m : Bool) → (kind_read (cond d (cond l (frame_as 5 line) None) None) ≡ 5 → ⊥) → cond d (cond l (frame_as 5 line) None) None ≡ cond d (cond m None None) None
  unfolding frame_as
  at_five false l m n = refl
  at_five true true m n = absurd (n refl)
  at_five true false true n = refl
  at_five true false false n = refl

  line_is : (kind_read (frame_of line) ≡ 5 → ⊥) → frame_of line ≡ old_frame line
  unfolding frame_of frame_as
  line_is n = go (eqb (kind_at line) 5) refl
    where
      go : (b : Bool) → eqb (kind_at line) 5 ≡ b → new_at (kind_at line) ≡ old_at (kind_at line)
      go true e =
          subst⁻¹ (λ (k : ℕ). (kind_read (new_at k) ≡ 5 → ⊥) → new_at k ≡ old_at k) (eqb-true (kind_at line) 5 e)
          (at_five (are_digits line) (eqb (length line) (line_length 5)) (eqb (length line) 2))
          n
      go false e = simp (e)

lines_are : (ls : List (List ℕ)) → NoUpdate ls → map frame_of ls ≡ map old_frame ls
lines_are [] n = refl
lines_are (l ∷ ls) n = ap₂ ◌∷◌ (line_is l n.0) (lines_are ls n.1)

file_is : (bytes came : List ℕ) → NoUpdate (lines_of bytes) → judged_file bytes came ≡ old_file bytes came
file_is bytes came n = ap (λ fs. judged came (beginning came) 1 fs (rest_of bytes)) (lines_are (lines_of bytes) n)

-- a second head, of kind 05
record Second : Type 0 where
  number : (judged_file two_heads (full 3)).number ≡ 17
  line : (judged_file two_heads (full 3)).line ≡ 2
  old_number : (old_file two_heads (full 3)).number ≡ 16
  old_line : (old_file two_heads (full 3)).line ≡ 2

second : Second
unfolding hex.between hex.is_digit hex.value_of hex.are_digits hex.number_of field_values frame_as frame_of ascii lines_from rest_from judged
second = record { number = refl; line = refl; old_number = refl; old_line = refl }

-- ---- what is written

module _ (h : Head) where
  abbrev six : List ℕ
  six = h.timescale.0 ∷ h.offset.0 ∷ h.start.0 ∷ h.duration.0 ∷ h.depth.0 ∷ h.first.0 ∷ []

  head_line_lem : h.update.0 ≡ 0 → line_of (head_frame h) ≡ ascii "05" ++ drop 2 (line_of (old_head_frame h)) ++ ascii "0000000000000000"
  unfolding line_of field_digits digits_of digit_of ascii
  head_line_lem z = ap (λ (u : ℕ). line_of (head_frame (with_update u h))) z

  head_long : length (ended_line (head_frame h)) ≡ ended_length 5
  unfolding ended_line line_of
  head_long = length-append (line_of (head_frame h)) (10 ∷ []) ∙ ap (λ (n : ℕ). n + 1) (length_fields (1 ∷ 4 ∷ 8 ∷ 8 ∷ 8 ∷ 8 ∷ 4 ∷ 8 ∷ []) (5 ∷ six ++ h.update.0 ∷ []) refl)

  old_long : length (ended_line (old_head_frame h)) ≡ ended_length 1
  unfolding ended_line line_of
  old_long = length-append (line_of (old_head_frame h)) (10 ∷ []) ∙ ap (λ (n : ℕ). n + 1) (length_fields (1 ∷ old_widths 1) (1 ∷ six) refl)

  module _ (rs : List Reference) where
    abbrev rest : List ℕ
    rest = bytes_of (s_frames (encode rs) ++ End (runs_for rs) ∷ [])

    new_file : file_of h rs ≡ ended_line (head_frame h) ++ rest
    unfolding file_of bytes_of
    new_file = refl

    old_file_lem : old_file_of h rs ≡ ended_line (old_head_frame h) ++ rest
    unfolding bytes_of
    old_file_lem = refl

    longer : length (file_of h rs) ≡ length (old_file_of h rs) + 16
    longer =
        omega (
          arith,
          ap length new_file,
          ap length old_file_lem,
          length-append (ended_line (head_frame h)) rest,
          length-append (ended_line (old_head_frame h)) rest,
          head_long,
          old_long,
        )

-- the limit moves by as much as the length
moved : (m n room : ℕ) → m ≡ n + 16 → leb m (room + 16) ≡ leb n room
moved m n room e = go (leb n room) refl
  where
    go : (b : Bool) → leb n room ≡ b → leb m (room + 16) ≡ b
    go true l = le-leb m (room + 16) (omega (arith, leb-true n room l))
    go false l = lt-leb m (room + 16) (omega (arith, leb-false n room l))

short : (rec : Record) (ws : List ℕ) (room : ℕ) → answer_number (write_answer rec ws (room + 16)) ≡ answer_number (old_written rec ws room)
unfolding write_answer
short rec ws room =
    go (agrees rec ws) (eqb rec.used 0) (leb m (room + 16)) (leb n room) (moved m n room (longer (kept_head rec) (kept rec ws)))
  where
    m : ℕ
    m = length (file_of (kept_head rec) (kept rec ws))

    n : ℕ
    n = length (old_file_of (kept_head rec) (kept rec ws))

    go : (a u x y : Bool) → x ≡ y →
        answer_number (Err Disagreement unless a else Err NothingKept when u else Err ShortOutput unless x else Ok m) ≡
        answer_number (Err Disagreement unless a else Err NothingKept when u else Err ShortOutput unless y else Ok n)
    go false u x y e = refl
    go true true x y e = refl
    go true false x true e = ap (λ b. answer_number (cond b (Ok m) (Err ShortOutput))) e
    go true false x false e = ap (λ b. answer_number (cond b (Ok m) (Err ShortOutput))) e

pub old_answers_stand : OldAnswersStand
old_answers_stand =
    record {
      window = λ h c z. window h z c;
      needs = λ h r c z. needs h z r c;
      spent = λ h r c z. spent h z r c;
      verdict = λ rec ws c z. verdict_is rec ws z c;
      edge = edge_is;
      held = held;
      line = line_is;
      file = file_is;
      second_head = second.number;
      second_line = second.line;
      old_second_head = second.old_number;
      old_second_line = second.old_line;
      written = λ h rs. (rest h rs, new_file h rs, old_file_lem h rs);
      head_line_lem = head_line_lem;
      longer = longer;
      short = short;
    }
