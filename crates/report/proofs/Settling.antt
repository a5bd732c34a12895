-- A desk that is settled: the answer is the same, whatever stands behind the bytes that brought it there.
use mathlib.Core.Path.{◌≡◌, refl, sym, ap, ap₂, ◌∙◌}
use mathlib.Core.Bool.{Bool, true, false, cond}
use mathlib.Core.List.{List, ◌++◌, flatten as all_bytes}
use Prim.Native.Nat.{ℕ, ◌≤◌, min}
use native.Mathlib.Omega.{arith}
use borrow.Author.Tests.{leb-true}
use lib.ListN.{length, replicate, length-append, length-replicate}
use Rattle.agreement.specs.declared.refusal.Refusal.TheVariants.{BadLine}
use Rattle.frames.proofs.Lines.{too_long_lem}
use Rattle.file.specs.declared.ReadAnswer.{ReadAnswer}
use Rattle.file.specs.Lines.{has_feed, first_line, behind_first}
use Rattle.file.specs.Judging.{read_answer, read_table}
use Rattle.file.specs.SoFar.{most_bytes, so_far, too_long}
use Rattle.file.specs.Feeding.{begun_reader, reader_after}
use Rattle.file.proofs.Cuts.{unfed_line, fed_line, fed_has, fed_behind}
use Rattle.file.proofs.Settling.{settled_file}
use Rattle.std.specs.Prelude.{Err, None, Ok, Some}
use Rattle.wording.specs.Text.{text_of}
use Rattle.report.specs.Clock.{ClockLine, asked_by, asked_on}
use Rattle.report.specs.Answer.{asked_in, file_read, reply_on, reply_in, table_length}
use Rattle.report.specs.Feeding.{DeskAndTable, after_all}
use Rattle.report.specs.Settled.{settled_by, settled, AnyMore}
use Rattle.report.proofs.Lent.{same_reply}
use Rattle.report.proofs.Pieces.{asks_on, desk_at, after, stands}

-- ---- a clock line of more bytes than any frame

long_asks : (line : List ℕ) → most_bytes ≤ length line → asked_on line ≡ Err BadLine
unfolding asked_on
long_asks line l = ap asked_by (too_long_lem line (omega arith))

module _ (came input more : List ℕ) where
  asks : (xs : List ℕ) (t : Bool) → has_feed xs ≡ t → asked_in xs ≡ cond t (asks_on (first_line xs)) None
  unfolding asked_in
  asks xs t e = ap (λ u. cond u (asks_on (first_line xs)) None) e

  -- it is refused with 16 at line 0, whether it is ended or not
  long_reply : (xs : List ℕ) → most_bytes ≤ length (first_line xs) → reply_in came xs ≡ Err (record { why = BadLine; line = 0 })
  unfolding reply_in reply_on
  long_reply xs l =
      let read : ReadAnswer = read_answer (behind_first xs) came in
      let ws : List ℕ = read_table (behind_first xs) came in
      go (has_feed xs) refl read ws
    where
      go : (t : Bool) → has_feed xs ≡ t → (read : ReadAnswer) (ws : List ℕ) → reply_on (asked_in xs) read ws ≡ Err (record { why = BadLine; line = 0 })
      go true e read ws = ap (λ (a : ClockLine). reply_on a read ws) (asks xs true e ∙ ap Some (long_asks (first_line xs) l))
      go false e read ws = ap (λ (a : ClockLine). reply_on a read ws) (asks xs false e)

  -- the file is read, and settled
  by_line : (a : ClockLine) (line file : List ℕ) → settled_by a (desk_at a line (cond (file_read a) (reader_after file came) begun_reader)) ≡ true →
      reply_on a (read_answer (file ++ more) came) (read_table (file ++ more) came) ≡ reply_on a (read_answer file came) (read_table file came)
  unfolding reply_on
  by_line None line file h = refl
  by_line (Some (Ok asked)) line file h =
      ap₂ (λ (x : ReadAnswer) (ws : List ℕ). reply_on (Some (Ok asked)) x ws) (settled_file.answer came file more h) (settled_file.table came file more h)
  by_line (Some (Err why)) line file h = refl

  long_both : has_feed input ≡ false → (line : List ℕ) → first_line input ≡ line → too_long (so_far line) ≡ true → reply_in came (input ++ more) ≡ reply_in came input
  unfolding so_far
  long_both e line k t =
      let long = leb-true most_bytes (min most_bytes (length line)) t in
      long_reply (input ++ more) (omega (arith, ap length (unfed_line input more e), length-append (first_line input) (first_line more), ap length k)) ∙
      sym (long_reply input (omega (arith, ap length k)))

  same_more : settled (after came input).desk ≡ true → reply_in came (input ++ more) ≡ reply_in came input
  unfolding settled reply_in
  same_more h = go (has_feed input) refl
    where
      unended : has_feed input ≡ false → settled_by None (desk_at None (first_line input) begun_reader) ≡ true
      unended e =
          sym (ap (λ (a : ClockLine). settled_by a (desk_at a (first_line input) (cond (file_read a) (reader_after (behind_first input) came) begun_reader))) (asks input false e)) ∙ h

      go : (t : Bool) → has_feed input ≡ t → reply_in came (input ++ more) ≡ reply_in came input
      go true e =
          let a : asked_in (input ++ more) ≡ asked_in input =
          asks (input ++ more) true (fed_has input more e) ∙ ap asks_on (fed_line input more e) ∙ sym (asks input true e)
          in
          ap₂ (λ (x : ClockLine) (bs : List ℕ). reply_on x (read_answer bs came) (read_table bs came)) a (fed_behind input more e) ∙
          by_line (asked_in input) (first_line input) (behind_first input) h
      go false e = long_both e (first_line input) refl (unended e)

-- ---- the statement

pub any_more : AnyMore
any_more = record { same = same }
  where
    same : (came : List ℕ) (pieces : List (List ℕ)) → length came ≡ table_length → settled (after_all came pieces).desk ≡ true → (more : List ℕ) →
        text_of (reply_in (replicate table_length 0) (all_bytes pieces ++ more)) ≡ text_of (reply_in (replicate table_length 0) (all_bytes pieces))
    same came pieces l h more =
        let zeros = length-replicate {A = ℕ} table_length 0 in
        let input = all_bytes pieces in
        let there = ap (λ (s : DeskAndTable). settled s.desk) (sym (stands came pieces)) ∙ h in
        ap text_of
        (same_reply (replicate table_length 0) came (input ++ more) (zeros ∙ sym l) ∙
        same_more came input more there ∙
        same_reply came (replicate table_length 0) input (l ∙ sym zeros))
