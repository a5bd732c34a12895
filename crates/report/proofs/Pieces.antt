-- THE THEOREM: in whatever pieces an input comes, desk and table stand where the whole of it brings them, and the reply is the reply to the whole.
use mathlib.Core.Path.{◌≡◌, refl, sym, ap, ap₂, ◌∙◌}
use mathlib.Core.Bool.{Bool, true, false, cond}
use mathlib.Core.List.{List, [], ◌∷◌, ◌++◌, flatten as all_bytes, append_assoc, append-nil}
use Prim.Native.Nat.{ℕ}
use lib.ListN.{length, replicate, length-replicate}
use Rattle.file.specs.declared.LineSoFar.{LineSoFar}
use Rattle.file.specs.declared.Reader.{Reader}
use Rattle.file.specs.declared.ReadAnswer.{ReadAnswer}
use Rattle.file.specs.Lines.{has_feed, first_line, behind_first}
use Rattle.file.specs.SoFar.{so_far}
use Rattle.file.specs.Judging.{read_answer, read_table}
use Rattle.file.specs.Feeding.{begun_reader, fed_reader, fed_table, reader_after, table_after}
use Rattle.file.proofs.SoFar.{goes_on_lem}
use Rattle.file.proofs.Pieces.{fed_begun_reader, fed_begun_table, fed_on_reader, fed_on_table, fed_finish_answer, fed_finish_table}
use Rattle.std.specs.Prelude.{Err, None, Ok, Some, Result}
use Rattle.agreement.specs.declared.refusal.Refusal.{Refusal}
use Rattle.wording.specs.Text.{Reply, text_of, over}
use Rattle.report.specs.declared.Asked.{Asked}
use Rattle.report.specs.declared.Desk.{Desk}
use Rattle.report.specs.Clock.{ClockLine, asked_on}
use Rattle.report.specs.Answer.{asked_in, file_read, reply_on, reply_in, table_in, answer_in, table_length}
use Rattle.report.specs.Feeding.{DeskAndTable, with_more, with_end, begun_desk, read_on, line_on, fed, reply_by, table_by, fed_all, after_all, AnyPieces}
use Rattle.report.proofs.Clocks.{first_asks}
use Rattle.file.proofs.Cuts.{unfed_line, unfed_has, unfed_behind, fed_line, fed_has, fed_behind}
use Rattle.report.proofs.Lent.{same_reply}

-- ---- the reader, from nothing

module _ (came piece : List ℕ) where
  first_reader : fed_reader begun_reader came piece ≡ reader_after piece came
  first_reader = ap₂ (λ (x : Reader) (ws : List ℕ). fed_reader x ws piece) (fed_begun_reader came) (fed_begun_table came) ∙ fed_on_reader [] came piece

  first_table : fed_table begun_reader came piece ≡ table_after piece came
  first_table = ap₂ (λ (x : Reader) (ws : List ℕ). fed_table x ws piece) (fed_begun_reader came) (fed_begun_table came) ∙ fed_on_table [] came piece

-- ---- where desk and table stand: by what is asked, the clock line, and what came of the file

abbrev pub desk_at : ClockLine → List ℕ → Reader → Desk
desk_at a line r = record { asked = a; line = so_far line; reader = r }

abbrev pub stand : ClockLine → List ℕ → List ℕ → List ℕ → DeskAndTable
stand a line file came =
    record { desk = desk_at a line (cond (file_read a) (reader_after file came) begun_reader); words = cond (file_read a) (table_after file came) came }

-- a piece of the file more
read_more : (a : Result Asked Refusal) (line file came piece : List ℕ) →
    fed (stand (Some a) line file came).desk (stand (Some a) line file came).words piece ≡ stand (Some a) line (file ++ piece) came
unfolding fed read_on
read_more (Ok asked) line file came piece =
    ap₂ (λ (r : Reader) (ws : List ℕ). record { desk = desk_at (Some (Ok asked)) line r; words = ws }) (fed_on_reader file came piece) (fed_on_table file came piece)
read_more (Err why) line file came piece = refl

-- the first piece of the file
read_first : (a : Result Asked Refusal) (line came piece : List ℕ) → read_on (desk_at (Some a) line begun_reader) came piece ≡ stand (Some a) line piece came
unfolding read_on
read_first (Ok asked) line came piece =
    ap₂ (λ (r : Reader) (ws : List ℕ). record { desk = desk_at (Some (Ok asked)) line r; words = ws }) (first_reader came piece) (first_table came piece)
read_first (Err why) line came piece = refl

-- ---- the clock line goes on

module _ (a : ClockLine) (line : List ℕ) (r : Reader) where
  with_more_lem : (part : List ℕ) → with_more (desk_at a line r) part ≡ desk_at a (line ++ part) r
  with_more_lem part = ap (λ (l : LineSoFar). record { asked = a; line = l; reader = r }) (goes_on_lem line part)

  with_end_lem : with_end (desk_at a line r) ≡ desk_at (Some (asked_on line)) line r
  with_end_lem = ap (λ (x : Result Asked Refusal). record { asked = Some x; line = so_far line; reader = r }) (first_asks line)

line_more : (line came piece : List ℕ) →
    line_on (desk_at None line begun_reader) came piece ≡
    cond (has_feed piece) (stand (Some (asked_on (line ++ first_line piece))) (line ++ first_line piece) (behind_first piece) came) (stand None (line ++ first_line piece) [] came)
unfolding line_on
line_more line came piece =
    ap (λ (d : Desk). cond (has_feed piece) (read_on (with_end d) came (behind_first piece)) (record { desk = d; words = came })) (with_more_lem None line begun_reader (first_line piece)) ∙
    ap (λ (s : DeskAndTable). cond (has_feed piece) s (stand None (line ++ first_line piece) [] came))
    (ap (λ (d : Desk). read_on d came (behind_first piece)) (with_end_lem None (line ++ first_line piece) begun_reader) ∙
    read_first (asked_on (line ++ first_line piece)) (line ++ first_line piece) came (behind_first piece))

-- ---- a piece more of the input

-- of a line that is ended
abbrev pub asks_on : List ℕ → ClockLine
asks_on line = Some (asked_on line)

abbrev pub after : List ℕ → List ℕ → DeskAndTable
after came input = stand (asked_in input) (first_line input) (behind_first input) came

after_none : (came : List ℕ) → record { desk = begun_desk; words = came } ≡ after came []
unfolding asked_in has_feed first_line
after_none came = refl

module _ (came : List ℕ) where
  same_stand : (a b : ClockLine) (l m f g : List ℕ) → a ≡ b → l ≡ m → f ≡ g → stand a l f came ≡ stand b m g came
  same_stand a b l m f g i j k =
      ap (λ (x : ClockLine). stand x l f came) i ∙ ap₂ (λ (x y : List ℕ). stand b x y came) j k

  after_more : (input piece : List ℕ) → fed (after came input).desk (after came input).words piece ≡ after came (input ++ piece)
  unfolding asked_in fed
  after_more input piece = go (has_feed input) refl
    where
      asks : (xs : List ℕ) (t : Bool) → has_feed xs ≡ t → asked_in xs ≡ cond t (Some (asked_on (first_line xs))) None
      asks xs t e = ap (λ u. cond u (Some (asked_on (first_line xs))) None) e

      behind : (t : Bool) → has_feed piece ≡ t → has_feed input ≡ false →
          cond t (stand (Some (asked_on (first_line input ++ first_line piece))) (first_line input ++ first_line piece) (behind_first piece) came)
          (stand None (first_line input ++ first_line piece) [] came) ≡
          after came (input ++ piece)
      behind true h e =
          let l = unfed_line input piece e in
          same_stand (Some (asked_on (first_line input ++ first_line piece))) (asked_in (input ++ piece)) _ _ _ _
          (ap asks_on (sym l) ∙ sym (asks (input ++ piece) true (unfed_has input piece e ∙ h)))
          (sym l)
          (sym (unfed_behind input piece e))
      behind false h e =
          same_stand None (asked_in (input ++ piece)) (first_line input ++ first_line piece) (first_line (input ++ piece)) (behind_first (input ++ piece)) (behind_first (input ++ piece))
          (sym (asks (input ++ piece) false (unfed_has input piece e ∙ h)))
          (sym (unfed_line input piece e))
          refl

      go : (t : Bool) → has_feed input ≡ t → fed (after came input).desk (after came input).words piece ≡ after came (input ++ piece)
      go true e =
          ap (λ (a : ClockLine). fed (stand a (first_line input) (behind_first input) came).desk (stand a (first_line input) (behind_first input) came).words piece) (asks input true e) ∙
          read_more (asked_on (first_line input)) (first_line input) (behind_first input) came piece ∙
          same_stand (asks_on (first_line input)) (asked_in (input ++ piece)) _ _ _ _
          (ap asks_on (sym (fed_line input piece e)) ∙ sym (asks (input ++ piece) true (fed_has input piece e)))
          (sym (fed_line input piece e))
          (sym (fed_behind input piece e))
      go false e =
          ap (λ (a : ClockLine). fed (stand a (first_line input) (behind_first input) came).desk (stand a (first_line input) (behind_first input) came).words piece) (asks input false e) ∙
          line_more (first_line input) came piece ∙
          behind (has_feed piece) refl e

  after_all_lem : (input : List ℕ) (pieces : List (List ℕ)) → fed_all (after came input) pieces ≡ after came (input ++ all_bytes pieces)
  unfolding fed_all all_bytes
  after_all_lem input [] = ap (after came) (sym (append-nil input))
  after_all_lem input (piece ∷ pieces) =
      ap (λ (s : DeskAndTable). fed_all s pieces) (after_more input piece) ∙
      after_all_lem (input ++ piece) pieces ∙
      ap (after came) (append_assoc input piece (all_bytes pieces))

  pub stands : (pieces : List (List ℕ)) → after_all came pieces ≡ after came (all_bytes pieces)
  stands pieces = ap (λ (s : DeskAndTable). fed_all s pieces) (after_none came) ∙ after_all_lem [] pieces

-- ---- the reply there

reply_at_lem : (a : ClockLine) (line file came : List ℕ) →
    reply_by (stand a line file came).desk (stand a line file came).words ≡ reply_on a (read_answer file came) (read_table file came)
unfolding reply_by reply_on
reply_at_lem None line file came = refl
reply_at_lem (Some (Ok asked)) line file came =
    ap₂ (λ (x : ReadAnswer) (ws : List ℕ). reply_on (Some (Ok asked)) x ws) (fed_finish_answer file came) (fed_finish_table file came)
reply_at_lem (Some (Err why)) line file came = refl

table_at : (a : ClockLine) (line file came : List ℕ) → table_by (stand a line file came).desk (stand a line file came).words ≡ cond (file_read a) (read_table file came) came
unfolding table_by
table_at None line file came = refl
table_at (Some (Ok asked)) line file came = fed_finish_table file came
table_at (Some (Err why)) line file came = refl

module _ (came : List ℕ) (pieces : List (List ℕ)) where
  pub pieces_reply : reply_by (after_all came pieces).desk (after_all came pieces).words ≡ reply_in came (all_bytes pieces)
  unfolding reply_in
  pieces_reply =
      ap (λ (s : DeskAndTable). reply_by s.desk s.words) (stands came pieces) ∙
      reply_at_lem (asked_in (all_bytes pieces)) (first_line (all_bytes pieces)) (behind_first (all_bytes pieces)) came

  pub pieces_table : table_by (after_all came pieces).desk (after_all came pieces).words ≡ table_in came (all_bytes pieces)
  unfolding table_in
  pieces_table =
      ap (λ (s : DeskAndTable). table_by s.desk s.words) (stands came pieces) ∙
      table_at (asked_in (all_bytes pieces)) (first_line (all_bytes pieces)) (behind_first (all_bytes pieces)) came

-- ---- one piece

module _ (came input : List ℕ) (d : Desk) (e : d ≡ begun_desk) (x : Desk) (ws : List ℕ) (j : x ≡ (fed d came input).desk) (k : ws ≡ (fed d came input).words) where
  one_piece : record { desk = x; words = ws } ≡ after_all came (input ∷ [])
  unfolding fed_all
  one_piece =
      ap₂ (λ (y : Desk) (vs : List ℕ). record { desk = y; words = vs }) j k ∙ ap (λ (y : Desk). fed y came input) e

  whole_input : all_bytes (input ∷ []) ≡ input
  unfolding all_bytes
  whole_input = append-nil input

  whole_reply : reply_by x ws ≡ reply_in came input
  whole_reply =
      ap (λ (s : DeskAndTable). reply_by s.desk s.words) one_piece ∙ pieces_reply came (input ∷ []) ∙ ap (reply_in came) whole_input

  pub whole_count : (n : ℕ) → n ≡ length (text_of (reply_by x ws)) → n ≡ length (answer_in came input)
  whole_count n l = l ∙ ap (λ (r : Reply). length (text_of r)) whole_reply

  pub whole_bytes : (out told : List ℕ) → told ≡ over (text_of (reply_by x ws)) out → told ≡ over (answer_in came input) out
  whole_bytes out told l = l ∙ ap (λ (r : Reply). over (text_of r) out) whole_reply

  pub whole_table : (vs : List ℕ) → vs ≡ table_by x ws → vs ≡ table_in came input
  whole_table vs l =
      l ∙
      ap (λ (s : DeskAndTable). table_by s.desk s.words) one_piece ∙
      pieces_table came (input ∷ []) ∙
      ap (table_in came) whole_input

-- ---- the statement

pub any_pieces : AnyPieces
any_pieces =
    record {
      text = λ came pieces l. ap text_of (pieces_reply came pieces ∙ same_reply came (replicate table_length 0) (all_bytes pieces) (l ∙ sym (length-replicate {A = ℕ} table_length 0)));
      table = pieces_table;
    }
