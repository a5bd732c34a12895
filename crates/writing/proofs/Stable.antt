-- Files and timelines: what is written reads back as the same references under the same numbers; equal kept timelines have equal files;
-- and reading, writing and reading again changes nothing more.
use mathlib.Core.Path.{◌≡◌, refl, sym, ap, ap₂, subst, subst⁻¹, ◌∙◌}
use mathlib.Core.Bool.{Bool, true, false, not, and-eq-true_iff, true≢false, ◌&&◌}
use mathlib.Core.List.{List, [], ◌∷◌, ◌++◌}
use Prim.Native.Nat.{ℕ, zero, suc, ◌+◌, ◌/◌, ◌^◌, ◌≤◌}
use native.Mathlib.Omega.{arith}
use borrow.Author.Tests.{not-true}
use lib.ListN.{length, length-append}
use Rattle.window.specs.declared.Head.{Head}
use Rattle.window.specs.declared.Reference.{Reference}
use Rattle.window.specs.Place.{place, moment, period_end, before_end}
use Rattle.window.specs.Window.{low_edge, end_of, passed}
use Rattle.window.proofs.Limits.{held_is}
use Rattle.window.proofs.Spending.{passed_later}
use Rattle.runs.specs.declared.Run.{Run}
use Rattle.runs.specs.Words.{runs_of, repeated, references_of, capacity}
use Rattle.runs.specs.Shape.{runs_shaped}
use Rattle.runs.specs.Ends.{last_end}
use Rattle.runs.specs.Encoding.{table_of, canonical}
use Rattle.runs.proofs.Opening.{references_in, repeated_length, runs_length}
use Rattle.runs.proofs.Encoded.{leads, encoded}
use Rattle.runs.proofs.Tables.{used_fits, runs_shaped_lem, runs_for_kept, canonical_is}
use Rattle.agreement.specs.declared.Record.{Record}
use Rattle.agreement.specs.Agreement.{kept, every, agrees}
use Rattle.agreement.proofs.Agreeing.{Agreeing, agreeing}
use Rattle.std.specs.Prelude.{Ok}
use Rattle.keeping.specs.Keeping.{words_keeping, words_by}
use Rattle.frames.specs.Fields.{all_ones}
use Rattle.frames.specs.declared.Frame.{Frame}
use Rattle.frames.specs.declared.Frame.TheVariants.{End}
use Rattle.frames.specs.Language.{AllFit}
use Rattle.frames.specs.Frames.{Fits}
use Rattle.file.specs.declared.Stage.TheVariants.{Ended}
use Rattle.file.specs.Lines.{rest_of}
use Rattle.file.specs.Judging.{File, begun, read_lines, stop_outcome, read_outcome, answered_by, read_answer, zeroed, read_table}
use Rattle.file.proofs.Accepted.{read_agrees, read_length}
use Rattle.writing.specs.Writing.{head_frame, with_first, later_frames, s_frames, bytes_of, file_of, kept_head, file_for, read_back}
use Rattle.writing.proofs.Output.{s_fits}
use Rattle.writing.proofs.Whole.{kept_few, head_fits, end_fits}
use Rattle.writing.proofs.Again.{record_of, Takeable}
use Rattle.writing.proofs.Back.{lines_of_frames, rest_of_frames, frames_taken}

-- ---- the number of the first changes no rule of time

same_passed : (h : Head) (n e c : ℕ) → passed (with_first h n) e c ≡ passed h e c
unfolding place moment period_end low_edge
same_passed h n e c = refl

same_before : (h : Head) (n k : ℕ) → before_end (with_first h n) k ≡ before_end h k
unfolding place period_end
same_before h n k = refl

every_as : (t u : Reference → Bool) → ((r : Reference) → t r ≡ true → u r ≡ true) → (rs : List Reference) → every t rs ≡ true → every u rs ≡ true
unfolding every
every_as t u f [] e = refl
every_as t u f (r ∷ rs) e = let b = (and-eq-true_iff (t r) (every t rs)).0 e in ap₂ ◌&&◌ (f r b.0) (every_as t u f rs b.1)

-- what is not spent at a clock is not spent at clock 0
coming_first : (h : Head) (n c : ℕ) (r : Reference) → not (passed h (end_of r) c) ≡ true → not (passed (with_first h n) (end_of r) 0) ≡ true
coming_first h n c r e = ap not (same_passed h n (end_of r) 0) ∙ go (passed h (end_of r) 0) refl
  where
    go : (t : Bool) → passed h (end_of r) 0 ≡ t → not t ≡ true
    go true p = absurd (true≢false (sym (passed_later h (end_of r) 0 c (omega arith) p) ∙ not-true (passed h (end_of r) c) e))
    go false p = refl

-- ---- the frames of a written file fit

later_fit : (rs : List Run) (fs : List Frame) → runs_shaped rs ≡ true → length (references_of rs) ≤ 2 ^ 31 → AllFit fs → AllFit (later_frames rs ++ fs)
unfolding later_frames references_of
later_fit [] fs s n a = a
later_fit (r ∷ rs) fs s n a =
    let l = leads r rs s in
    let many = length-append (references_in r) (references_of rs) in
    let here = repeated_length r.start.0 r.span.0 r.count in
    (s_fits all_ones r (omega arith) l.short (omega arith), later_fit rs fs l.rest (omega arith) a)

all_fit : (r : Run) (rs : List Run) (fs : List Frame) → runs_shaped (r ∷ rs) ≡ true → length (references_of (r ∷ rs)) ≤ 2 ^ 31 → AllFit fs → AllFit (s_frames (r ∷ rs) ++ fs)
unfolding s_frames references_of
all_fit r rs fs s n a =
    let l = leads r rs s in
    let many = length-append (references_in r) (references_of rs) in
    let here = repeated_length r.start.0 r.span.0 r.count in
    (s_fits r.start.0 r (omega (arith, l.ends)) l.short (omega arith), later_fit rs fs l.rest (omega arith) a)

-- ---- what is written reads back

module _ (rec : Record) (ws : List ℕ) (a : agrees rec ws ≡ true) (came : List ℕ) (room : rec.used ≤ capacity came) where
  facts : Agreeing rec ws
  facts = agreeing rec ws a

  module _ (x : Run) (ys : List Run) (e : runs_of rec.used ws ≡ x ∷ ys) where
    head : Head
    head = kept_head rec

    refs : references_of (x ∷ ys) ≡ kept rec ws
    refs = ap references_of (sym e)

    shape : runs_shaped (x ∷ ys) ≡ true
    shape = subst (λ rs. runs_shaped rs ≡ true) e (runs_shaped_lem rec.used ws facts.table)

    many : length (x ∷ ys) ≡ rec.used
    many = ap length (sym e) ∙ runs_length rec.used ws

    takeable : Takeable head x.start.0 (length came) (x ∷ ys)
    unfolding head
    takeable =
        let h = facts.held.head in
        let d = facts.held in
        record {
          held =
              (held_is (kept_head rec)).if
              (record {
                some = h.some;
                timescale = h.timescale;
                offset = h.offset;
                start = h.start;
                duration = h.duration;
                depth = h.depth;
                first = omega (arith, d.numbers, d.dropped);
                update = d.head.update;
              });
          shape = shape;
          start = refl;
          few = subst⁻¹ (λ rs. length rs ≤ 2 ^ 31) refs (kept_few rec ws a);
          numbers = omega (arith, ap length refs, facts.total, d.numbers, d.dropped);
          coming =
              ap (every (λ r. not (passed (kept_head rec) (end_of r) 0))) refs ∙
              every_as (λ r. not (passed rec.head (end_of r) rec.clock.0)) (λ r. not (passed (kept_head rec) (end_of r) 0))
              (coming_first rec.head (rec.head.first.0 + rec.dropped) rec.clock.0)
              (kept rec ws)
              facts.coming;
          begun =
              ap (every (λ r. before_end (kept_head rec) r.start.0)) refs ∙
              every_as (λ r. before_end rec.head r.start.0) (λ r. before_end (kept_head rec) r.start.0)
              (λ r b. same_before rec.head (rec.head.first.0 + rec.dropped) r.start.0 ∙ b)
              (kept rec ws)
              facts.begun;
          room = subst⁻¹ (λ (n : ℕ). n ≤ capacity came) many room;
        }

    frames : List Frame
    frames = head_frame head ∷ s_frames (x ∷ ys) ++ End (length (x ∷ ys)) ∷ []

    file_is : file_for rec ws ≡ bytes_of frames
    unfolding file_of frames head
    file_is =
        ap₂ (λ (rs : List Run) (n : ℕ). bytes_of (head_frame (kept_head rec) ∷ s_frames rs ++ End n ∷ []))
        (encoded (runs_of rec.used ws) (runs_shaped_lem rec.used ws facts.table) ∙ e)
        (runs_for_kept rec.used ws facts.table ∙ sym many)

    fit : AllFit frames
    unfolding frames head
    fit = (
      head_fits rec ws a,
      all_fit x ys (End (length (x ∷ ys)) ∷ []) shape (subst⁻¹ (λ rs. length rs ≤ 2 ^ 31) refs (kept_few rec ws a))
          (subst⁻¹ (λ (n : ℕ). Fits (End n)) many (end_fits rec ws a), tt),
    )

    come : File
    come = record { reading = record { stage = Ended; lines = 2 + length ys + 1; rec = record_of head x.start.0 (x ∷ ys) }; words = table_of (length came) (x ∷ ys) }

    lines_are : read_lines (file_for rec ws) came ≡ come
    unfolding read_lines frames come
    lines_are =
        ap (λ bytes. read_lines bytes came) file_is ∙
        lines_of_frames frames fit (begun came) ∙
        frames_taken head (length came) x ys takeable came refl

    ends : read_outcome (file_for rec ws) came ≡ Ok tt
    unfolding read_outcome come
    ends =
        ap₂ (λ (y : File) (n : ℕ). stop_outcome y.reading.stage n) lines_are
        (ap length (ap rest_of file_is ∙ rest_of_frames frames))

    -- where the references end, whatever tick they are counted from
    last_is : last_end x.start.0 (references_of (x ∷ ys)) ≡ rec.next.0
    unfolding references_of repeated last_end
    last_is = go x.count (leads x ys shape).some ∙ ap (last_end rec.next.0) refs ∙ facts.ends
      where
        go : (n : ℕ) → 1 ≤ n → last_end x.start.0 (repeated x.start.0 x.span.0 n ++ references_of ys) ≡
            last_end rec.next.0 (repeated x.start.0 x.span.0 n ++ references_of ys)
        go zero l = let z : ⊥ = omega arith in absurd z
        go (suc n) l = refl

    record_is : record_of head x.start.0 (x ∷ ys) ≡ read_back rec ws
    unfolding head
    record_is =
        ap₂ (λ (n l : ℕ). record { head = kept_head rec; accepted = n; dropped = 0; next = record { 0 = l }; clock = record { 0 = 0 }; used = length (x ∷ ys) })
        (ap length refs)
        last_is ∙
        ap (λ (u : ℕ). record { head = kept_head rec; accepted = length (kept rec ws); dropped = 0; next = rec.next; clock = record { 0 = 0 }; used = u }) many

    answer_is : read_answer (file_for rec ws) came ≡ record { outcome = Ok tt; rec = read_back rec ws; line = 0 }
    unfolding read_answer come
    answer_is =
        ap₂ answered_by ends (ap (λ (y : File). y.reading) lines_are) ∙
        ap (λ (y : Record). record { outcome = Ok tt; rec = y; line = 0 }) record_is

    table_is : read_table (file_for rec ws) came ≡ words_keeping came (kept rec ws)
    unfolding read_table words_by come
    table_is =
        ap₂ (λ o vs. words_by o vs (zeroed came)) ends (ap (λ (y : File). y.words) lines_are) ∙
        ap (table_of (length came)) (sym (encoded (runs_of rec.used ws) (runs_shaped_lem rec.used ws facts.table) ∙ e))

  module _ (some : rec.used ≡ 0 → ⊥) where
    -- a file that we write reads back: the same references under the same numbers, in a table with room for their runs
    pub read_back_lem : (read_answer (file_for rec ws) came ≡ record { outcome = Ok tt; rec = read_back rec ws; line = 0 }) ×
        (read_table (file_for rec ws) came ≡ words_keeping came (kept rec ws))
    read_back_lem = go (runs_of rec.used ws) refl
      where
        go : (rs : List Run) → runs_of rec.used ws ≡ rs →
            (read_answer (file_for rec ws) came ≡ record { outcome = Ok tt; rec = read_back rec ws; line = 0 }) ×
            (read_table (file_for rec ws) came ≡ words_keeping came (kept rec ws))
        go [] e = absurd (some (sym (runs_length rec.used ws) ∙ ap length e))
        go (x ∷ ys) e = (answer_is x ys e, table_is x ys e)

    -- in a table of the same length they are the same words
    pub same_words : length came ≡ length ws → read_table (file_for rec ws) came ≡ ws
    same_words l = read_back_lem.1 ∙ ap (λ (n : ℕ). canonical n (kept rec ws)) l ∙ sym (canonical_is rec.used ws facts.table)

-- ---- equal kept timelines have equal files

pub same_file : (rec other : Record) (ws vs : List ℕ) → kept_head rec ≡ kept_head other → kept rec ws ≡ kept other vs → file_for rec ws ≡ file_for other vs
same_file rec other ws vs h k = ap₂ file_of h k

-- ---- an accepted reading

module _ (bytes came : List ℕ) (o : read_outcome bytes came ≡ Ok tt) where
  -- reading what was written from it gives the same words, and writing that gives the same file
  module _ (some : (read_answer bytes came).rec.used ≡ 0 → ⊥) where
    rec : Record
    rec = (read_answer bytes came).rec

    ws : List ℕ
    ws = read_table bytes came

    holds : rec.used ≤ capacity came
    unfolding rec ws
    holds = subst (λ (n : ℕ). rec.used ≤ n / 3) (read_length bytes came o) (used_fits rec.used ws (agreeing rec ws (read_agrees bytes came o)).table)

    pub read_again : (read_answer (file_for (read_answer bytes came).rec (read_table bytes came)) came ≡
        record { outcome = Ok tt; rec = read_back (read_answer bytes came).rec (read_table bytes came); line = 0 }) ×
        (read_table (file_for (read_answer bytes came).rec (read_table bytes came)) came ≡ read_table bytes came)
    unfolding rec ws
    read_again =
        let a = read_agrees bytes came o in
        ((read_back_lem rec ws a came holds some).0, same_words rec ws a came holds some (sym (read_length bytes came o)))

-- a record that was read back and its table have the file that they were read from
pub file_again : (rec : Record) (ws : List ℕ) → file_for (read_back rec ws) ws ≡ file_for rec ws
file_again rec ws = ap (λ (n : ℕ). file_of (with_first rec.head n) (kept rec ws)) (omega arith)
