-- Feeding is reading: a caller that begins a reader, feeds it pieces and finishes has, after each call, the reader and the table of the bytes fed so
-- far, and at the end the answer and the table of reading them at once. One law for each call and each of the two, then the same over a list of pieces.
use mathlib.Core.Path.{◌≡◌, refl, sym, ap, ap₂, ◌∙◌}
use mathlib.Core.Bool.{true, cond, ◌&&◌}
use mathlib.Core.List.{List, [], ◌∷◌, ◌++◌, flatten, append_assoc, append-nil}
use Prim.Native.Nat.{ℕ}
use lib.ListN.{length, take, replicate}
use lib.Seq.{take-take}
use native.Mathlib.Nat.{le_refl}
use Rattle.agreement.specs.declared.refusal.Refusal.TheVariants.{Disagreement}
use Rattle.std.specs.Prelude.{Err}
use Rattle.keeping.specs.Keeping.{words_by}
use Rattle.timeline.specs.Opening.{zero_record}
use Rattle.file.specs.declared.LineSoFar.{LineSoFar}
use Rattle.file.specs.declared.Reader.{Reader}
use Rattle.file.specs.declared.ReadAnswer.{ReadAnswer}
use Rattle.file.specs.Lines.{lines_from, rest_from, rest_of}
use Rattle.file.specs.Judging.{File, take_lines, read_lines, read_outcome, answered_by, read_answer, zeroed, read_table}
use Rattle.file.specs.SoFar.{most_bytes, so_far, first_bytes}
use Rattle.file.specs.Feeding.{stage_held, belongs, begun_reader, fed_file, fed_reader, fed_table, finish_outcome, finish_answer, finish_table, reader_after, table_after, Fed, fed_on, fed_pieces, AnyCut}
use Rattle.file.proofs.Cutting.{rest_append, read_append, same_lines, same_rest}
use Rattle.file.proofs.SoFar.{same_line, first_bytes_lem, is_proper}
use Rattle.file.proofs.Sounding.{stage_is, read_sound}
use Rattle.file.proofs.Stopping.{stop_cut}

-- ---- begin

pub fed_begun_reader : (came : List ℕ) → begun_reader ≡ reader_after [] came
unfolding begun_reader reader_after read_lines rest_from lines_from take_lines
fed_begun_reader came = refl

pub fed_begun_table : (came : List ℕ) → came ≡ table_after [] came
unfolding table_after read_lines lines_from take_lines
fed_begun_table came = refl

-- ---- feed

module _ (fed came : List ℕ) where
  pub fed_belongs : belongs (reader_after fed came) (table_after fed came) ≡ true
  unfolding reader_after table_after belongs
  fed_belongs =
      let f = read_lines fed came in
      ap (λ t. t && stage_held f.reading.stage f.reading f.words) (is_proper (rest_of fed)) ∙
      (stage_is f.reading f.words f.reading.stage).if (read_sound fed came).0

  -- the first bytes of the rest decide as the rest does
  first_same : take most_bytes (first_bytes (reader_after fed came).line) ≡ take most_bytes (rest_of fed)
  unfolding reader_after
  first_same = ap (take most_bytes) (first_bytes_lem (rest_of fed)) ∙ take-take most_bytes most_bytes (rest_of fed) (le_refl most_bytes)

  module _ (piece : List ℕ) where
    file_on : fed_file (reader_after fed came) (table_after fed came) piece ≡ read_lines (fed ++ piece) came
    unfolding reader_after table_after
    file_on =
        same_lines (read_lines fed came) (first_bytes (reader_after fed came).line) (rest_of fed) piece first_same ∙
        sym (read_append fed piece came)

    rest_on : so_far (rest_from (first_bytes (reader_after fed came).line) piece) ≡ so_far (rest_of (fed ++ piece))
    rest_on =
        same_line (rest_from (first_bytes (reader_after fed came).line) piece) (rest_of (fed ++ piece))
        (same_rest (first_bytes (reader_after fed came).line) (rest_of fed) piece first_same ∙ ap (take most_bytes) (sym (rest_append [] fed piece)))

    pub fed_on_reader : fed_reader (reader_after fed came) (table_after fed came) piece ≡ reader_after (fed ++ piece) came
    unfolding fed_reader reader_after
    fed_on_reader =
        let x = reader_after fed came in
        let ws = table_after fed came in
        ap (λ t. cond t (record { reading = (fed_file x ws piece).reading; line = so_far (rest_from (first_bytes x.line) piece) }) x) fed_belongs ∙
        ap₂ (λ (f : File) (l : LineSoFar). record { reading = f.reading; line = l }) file_on rest_on

    pub fed_on_table : fed_table (reader_after fed came) (table_after fed came) piece ≡ table_after (fed ++ piece) came
    unfolding fed_table table_after
    fed_on_table =
        let x = reader_after fed came in
        let ws = table_after fed came in
        ap (λ t. cond t (fed_file x ws piece).words ws) fed_belongs ∙ ap (λ (f : File). f.words) file_on

  -- ---- finish

  outcome_is : finish_outcome (reader_after fed came) ≡ read_outcome fed came
  unfolding reader_after so_far read_outcome
  outcome_is = stop_cut (read_lines fed came).reading.stage (length (rest_of fed))

  pub fed_finish_answer : finish_answer (reader_after fed came) (table_after fed came) ≡ read_answer fed came
  unfolding finish_answer reader_after read_answer
  fed_finish_answer =
      let x = reader_after fed came in
      ap (λ t. cond t (answered_by (finish_outcome x) x.reading) (record { outcome = Err Disagreement; rec = zero_record; line = 0 })) fed_belongs ∙
      ap (λ o. answered_by o (read_lines fed came).reading) outcome_is

  pub fed_finish_table : finish_table (reader_after fed came) (table_after fed came) ≡ read_table fed came
  unfolding finish_table table_after read_table
  fed_finish_table =
      let x = reader_after fed came in
      let ws = table_after fed came in
      ap (λ t. cond t (words_by (finish_outcome x) ws (zeroed ws)) ws) fed_belongs ∙
      ap₂ (λ o (n : ℕ). words_by o (read_lines fed came).words (replicate n 0)) outcome_is (read_sound fed came).1

-- ---- the whole file as one piece

module _ (bytes came : List ℕ) (x y : Reader) (b : x ≡ begun_reader) (ws : List ℕ) (f : y ≡ fed_reader x came bytes) (t : ws ≡ fed_table x came bytes) where
  whole_reader : y ≡ reader_after bytes came
  whole_reader = f ∙ ap₂ (λ z vs. fed_reader z vs bytes) (b ∙ fed_begun_reader came) (fed_begun_table came) ∙ fed_on_reader [] came bytes

  whole_words : ws ≡ table_after bytes came
  whole_words = t ∙ ap₂ (λ z vs. fed_table z vs bytes) (b ∙ fed_begun_reader came) (fed_begun_table came) ∙ fed_on_table [] came bytes

  pub whole_answer : (a : ReadAnswer) → a ≡ finish_answer y ws → a ≡ read_answer bytes came
  whole_answer a k = k ∙ ap₂ finish_answer whole_reader whole_words ∙ fed_finish_answer bytes came

  pub whole_table : (vs : List ℕ) → vs ≡ finish_table y ws → vs ≡ read_table bytes came
  whole_table vs k = k ∙ ap₂ finish_table whole_reader whole_words ∙ fed_finish_table bytes came

-- ---- over a list of pieces

fed_pieces_lem : (fed came : List ℕ) (pieces : List (List ℕ)) →
    fed_on (record { reader = reader_after fed came; words = table_after fed came }) pieces ≡
    record { reader = reader_after (fed ++ flatten pieces) came; words = table_after (fed ++ flatten pieces) came }
unfolding fed_on flatten
fed_pieces_lem fed came [] = ap (λ bytes. record { reader = reader_after bytes came; words = table_after bytes came }) (sym (append-nil fed))
fed_pieces_lem fed came (piece ∷ pieces) =
    ap₂ (λ (x : Reader) (ws : List ℕ). fed_on (record { reader = x; words = ws }) pieces) (fed_on_reader fed came piece) (fed_on_table fed came piece) ∙
    fed_pieces_lem (fed ++ piece) came pieces ∙
    ap (λ bytes. record { reader = reader_after bytes came; words = table_after bytes came }) (append_assoc fed piece (flatten pieces))

module _ (came : List ℕ) (pieces : List (List ℕ)) where
  -- begin, then a feed for each piece, wherever the bytes are cut
  pieces_stand : fed_pieces came pieces ≡ record { reader = reader_after (flatten pieces) came; words = table_after (flatten pieces) came }
  pieces_stand =
      ap₂ (λ (x : Reader) (ws : List ℕ). fed_on (record { reader = x; words = ws }) pieces) (fed_begun_reader came) (fed_begun_table came) ∙
      fed_pieces_lem [] came pieces

  pieces_belong : belongs (fed_pieces came pieces).reader (fed_pieces came pieces).words ≡ true
  pieces_belong = ap (λ (f : Fed). belongs f.reader f.words) pieces_stand ∙ fed_belongs (flatten pieces) came

  -- and then finish: the answer and the table of reading all the bytes at once
  pieces_answer : finish_answer (fed_pieces came pieces).reader (fed_pieces came pieces).words ≡ read_answer (flatten pieces) came
  pieces_answer = ap (λ (f : Fed). finish_answer f.reader f.words) pieces_stand ∙ fed_finish_answer (flatten pieces) came

  pieces_table : finish_table (fed_pieces came pieces).reader (fed_pieces came pieces).words ≡ read_table (flatten pieces) came
  pieces_table = ap (λ (f : Fed). finish_table f.reader f.words) pieces_stand ∙ fed_finish_table (flatten pieces) came

pub any_cut : AnyCut
any_cut = record { answer = pieces_answer; table = pieces_table; between = pieces_stand; together = pieces_belong }
