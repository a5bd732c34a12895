-- What a refused call leaves, by its outcome; and the number that C sees, by rows behind those of the lengths.
use mathlib.Core.Path.{◌≡◌, refl, sym, ap, ap₂, ◌∙◌}
use mathlib.Core.Bool.{Bool, true, false, cond, not}
use mathlib.Core.List.{List, [], ◌∷◌}
use Prim.Native.Nat.{ℕ, ◌+◌, ◌≤◌}
use native.Mathlib.Omega.{arith}
use borrow.Author.Tests.{eqb-true}
use lib.Dec.{eqb}
use lib.ListN.{length}
use Rattle.units.proofs.Choice.{chosen, passed_over}
use Rattle.agreement.specs.declared.Record.{Record}
use Rattle.agreement.specs.declared.refusal.Refusal.TheVariants as refusal
use Rattle.agreement.specs.Rows.{◌when◌else◌}
use Rattle.std.specs.Prelude.{Result, Err, Ok}
use Rattle.keeping.specs.Keeping.{Outcome}
use Rattle.keeping.specs.declared.Changed.{Changed}
use Rattle.keeping.specs.Keeping.{changed_by, words_by}
use Rattle.timeline.specs.Opening.{zero_record}
use Rattle.agreement.specs.declared.refusal.Refusal.{Refusal}
use Rattle.lookups.specs.declared.Words.{Words}
use Rattle.agreement.specs.Numbers.{answer_distance, answer_number}
use Rattle.lookups.specs.Spans.{part_of}
use Rattle.file.specs.declared.Reader.{Reader}
use Rattle.file.specs.declared.Reading.{Reading}
use Rattle.file.specs.declared.ReadAnswer.{ReadAnswer}
use Rattle.file.specs.Lines.{rest_from}
use Rattle.file.specs.Judging.{read_lines, read_outcome, answered_by, read_answer, read_table, zeroed}
use Rattle.file.specs.SoFar.{so_far, first_bytes}
use Rattle.file.specs.Feeding.{belongs, fed_file, fed_reader, fed_table, finish_outcome, finish_answer, finish_table}
use Rattle.writing.specs.Writing.{output_by}
use Rattle.words.specs.Words.{record_words, words_of}
use Rattle.words.specs.Lengths.{wrong_record, wrong_length}
use Rattle.words.specs.Tells.{Tells, tells_by, words_of_length}
use Rattle.words.proofs.Lengths.{both_right}
use Rattle.flonterri.specs.Face.{guarded, changes, tells, leaves, reads, writes_by, Changes as Seen, Leaves as Left, Writes as Wrote}
use Rattle.flonterri.proofs.Facing.{unguarded}
use Rattle.flonterri.proofs.Refusing.{read_refused}
use Rattle.agreement.proofs.Numbers.{refusal_some}
use Rattle.laws.specs.Refusals.{lowest, is_apart, distance_with}
use Rattle.laws.specs.Demand1.{GivesNumber, Changes, Only, Zeroes, Reads, Feeds, Finishes, record_rows, length_rows, ChangesFromC, AppendsFromC, TellsC, ReadsFromC}
use Rattle.laws.proofs.Reading.{reading_right}

-- ---- Rattle's calls

pub changing : (o : Outcome) (new old : Record) (words ws : List ℕ) (rows : List (Bool × ℕ)) → answer_number (changed_by o new old).outcome ≡ lowest rows →
    (x : Changed) (after : List ℕ) → x ≡ changed_by o new old → after ≡ words_by o words ws → Changes x after rows old ws
unfolding changed_by words_by
changing o new old words ws rows number x after e f =
    record { number = ap (λ y. answer_number y.outcome) e ∙ number; refused = go o e f }
  where
    go : (o : Outcome) → x ≡ changed_by o new old → after ≡ words_by o words ws → (answer_number x.outcome ≡ 0 → ⊥) → (x.rec ≡ old) × (after ≡ ws)
    go (Ok _) e f k = absurd (k (ap (λ y. answer_number y.outcome) e))
    go (Err why) e f k = (ap (λ y. y.rec) e, f)

-- an answer gives a number of its own only where it is refused
pub only_refused : {A : Type 0} (v : Result A Refusal) → (answer_number v ≡ 0 → ⊥) → Only Err v
only_refused (Ok x) k = absurd (k refl)
only_refused (Err why) k = (why, refl)

pub no_part : (v : Result Words Refusal) (ws : List ℕ) → (answer_number v ≡ 0 → ⊥) → part_of v ws ≡ []
no_part (Ok w) ws k = absurd (k refl)
no_part (Err why) ws k = refl

pub write_leaves : (v : Result ℕ Refusal) (bytes out : List ℕ) → (answer_number v ≡ 0 → ⊥) → output_by v bytes out ≡ out
unfolding output_by
write_leaves (Ok n) bytes out k = absurd (k refl)
write_leaves (Err why) bytes out k = refl

-- ---- readings

-- by its outcome, from a reading that has come so far
pub answered : (o : Outcome) (r : Reading) (new before : List ℕ) (x : ReadAnswer) (after : List ℕ) → x ≡ answered_by o r → after ≡ words_by o new (zeroed before) → Zeroes x after before
unfolding words_by
answered (Ok _) r new before x after e f =
    record { accepted = λ k. ap (λ y. y.line) e; refused = λ k. absurd (k (ap (λ y. answer_number y.outcome) e)) }
answered (Err why) r new before x after e f =
    record {
      accepted = λ k. absurd (refusal_some why (sym (ap (λ y. answer_number y.outcome) e) ∙ k));
      refused = λ k. (ap (λ y. y.rec) e, some r.lines x.line (ap (λ y. y.line) e), f);
    }
  where
    some : (m l : ℕ) → l ≡ m + 1 → 1 ≤ l
    some m l e = omega arith

pub reading : (bytes before : List ℕ) (x : ReadAnswer) (after : List ℕ) → x ≡ read_answer bytes before → after ≡ read_table bytes before → Reads bytes x after before
unfolding read_answer read_table
reading bytes before x after e f =
    record {
      number = ap (λ y. answer_number y.outcome) e ∙ reading_right.number bytes before;
      line = ap (λ y. y.line) e ∙ reading_right.line bytes before;
      distance = ap (λ y. answer_distance y.outcome) e ∙ reading_right.distance bytes before;
      left = answered (read_outcome bytes before) (read_lines bytes before).reading (read_lines bytes before).words before x after e f;
    }

module _ (reader : Reader) (before : List ℕ) where
  pub feeding : (piece : List ℕ) (x : Reader) (after : List ℕ) → x ≡ fed_reader reader before piece → after ≡ fed_table reader before piece → Feeds reader before x after
  unfolding fed_reader fed_table
  feeding piece x after e f k = (
    e ∙ sym (passed_over (belongs reader before) (belongs reader before) (record { reading = (fed_file reader before piece).reading; line = so_far (rest_from (first_bytes reader.line) piece) }) reader refl k),
    f ∙ sym (passed_over (belongs reader before) (belongs reader before) (fed_file reader before piece).words before refl k),
  )

  pub finishing : (x : ReadAnswer) (after : List ℕ) → x ≡ finish_answer reader before → after ≡ finish_table reader before → Finishes reader before x after
  unfolding finish_answer finish_table
  finishing x after e f =
      let b = belongs reader before in
      let here = answered_by (finish_outcome reader) reader.reading in
      let there = words_by (finish_outcome reader) before (zeroed before) in
      let apart : ReadAnswer = record { outcome = Err refusal.Disagreement; rec = zero_record; line = 0 } in
      record {
        apart = λ k.
            let y = e ∙ sym (passed_over b b here apart refl k) in
            (ap (λ z. answer_number z.outcome) y, ap (λ z. z.rec) y, ap (λ z. z.line) y, f ∙ sym (passed_over b b there before refl k));
        together = λ k.
            answered (finish_outcome reader) reader.reading before before x after (e ∙ sym (chosen b b here apart refl k))
            (f ∙ sym (chosen b b there before refl k));
      }

-- ---- C: what stands behind the lengths

pub changes_number : (ws ts : List ℕ) (x : Changed) (new : List ℕ) (rows : List (Bool × ℕ)) → answer_number x.outcome ≡ lowest rows →
    (changes ws ts x new).number ≡ lowest (record_rows ws rows)
unfolding changes guarded wrong_record
changes_number ws ts x new rows e = go (eqb (length ws) record_words)
  where
    go : (t : Bool) → (cond {A = Seen} (eqb (cond t 0 2) 0) (record { number = answer_number x.outcome; words = words_of x.rec; table = new })
        (record { number = cond t 0 2; words = ws; table = ts })).number ≡ lowest ((not t, 2) ∷ rows)
    go true = e
    go false = refl

pub tells_number : {A : Type 0} (ws : List ℕ) (size : ℕ) (call : List A → Tells A) (out : List A) (rows : List (Bool × ℕ)) → (call out).number ≡ lowest rows →
    (tells ws size call out).number ≡ lowest (length_rows ws out size rows)
unfolding tells guarded wrong_length
tells_number ws size call out rows e = go (eqb (length ws) record_words) (eqb (length out) size)
  where
    go : (s t : Bool) → (cond (eqb (cond s (cond t 0 15) 2) 0) (call out) (record { number = cond s (cond t 0 15) 2; out = out })).number ≡
        lowest ((not s, 2) ∷ (not t, 15) ∷ rows)
    go true true = e
    go true false = refl
    go false t = refl

pub told_number : {A B : Type 0} (shown : A → List B) (v : Result A Refusal) (out : List B) → (tells_by shown v out).number ≡ answer_number v
unfolding tells_by
told_number shown v out = refl

pub writes_number : (ws bytes out : List ℕ) (v : Result ℕ Refusal) (new : List ℕ) (rows : List (Bool × ℕ)) → answer_number v ≡ lowest rows →
    (writes_by ws bytes out v new).number ≡ lowest (length_rows ws out 1 rows)
unfolding writes_by guarded wrong_length
writes_number ws bytes out v new rows e = go (eqb (length ws) record_words) (eqb (length out) 1)
  where
    go : (s t : Bool) → (cond {A = Wrote} (eqb (cond s (cond t 0 15) 2) 0) (record { number = (tells_by words_of_length v out).number; bytes = new; out = (tells_by words_of_length v out).out })
        (record { number = cond s (cond t 0 15) 2; bytes = bytes; out = out })).number ≡
        lowest ((not s, 2) ∷ (not t, 15) ∷ rows)
    go true true = told_number words_of_length v out ∙ e
    go true false = refl
    go false t = refl

-- ---- C: what a call leaves

module _ (ws ts : List ℕ) (rows : List (Bool × ℕ)) (seen : Seen) (number : seen.number ≡ lowest (record_rows ws rows)) where
  pub changes_c : ((seen.number ≡ 0 → ⊥) → (seen.words ≡ ws) × (seen.table ≡ ts)) →
      (x : ℕ) (words table : List ℕ) → x ≡ seen.number → words ≡ seen.words → table ≡ seen.table → ChangesFromC x ws ts words table rows
  changes_c leaves x words table e f g =
      record {
        number = e ∙ number;
        refused = λ k. let l = leaves (λ z. k (e ∙ z)) in (f ∙ l.0, g ∙ l.1);
      }

pub tells_c : {A : Type 0} (ws : List ℕ) (size : ℕ) (rows : List (Bool × ℕ)) (out : List A) (told : Tells A) → told.number ≡ lowest (length_rows ws out size rows) →
    ((told.number ≡ 0 → ⊥) → told.out ≡ out) → (x : ℕ) (after : List A) → x ≡ told.number → after ≡ told.out → TellsC x ws size rows out after
tells_c ws size rows out told number leaves x after e f = record { number = e ∙ number; refused = λ k. f ∙ leaves (λ z. k (e ∙ z)) }

-- a call whose own number is never 2 gives 2 for the record's length alone
pub length_alone : (ws ts : List ℕ) (x : Changed) (new : List ℕ) → (answer_number x.outcome ≡ 2 → ⊥) → (changes ws ts x new).number ≡ 2 →
    ((changes ws ts x new).words ≡ ws) × ((changes ws ts x new).table ≡ ts)
unfolding changes guarded wrong_record
length_alone ws ts x new never = go (eqb (length ws) record_words)
  where
    at : Bool → Seen
    at t =
        cond (eqb (cond t 0 2) 0) (record { number = answer_number x.outcome; words = words_of x.rec; table = new })
        (record { number = cond t 0 2; words = ws; table = ts })

    go : (t : Bool) → (at t).number ≡ 2 → ((at t).words ≡ ws) × ((at t).table ≡ ts)
    go true e = absurd (never e)
    go false e = (refl, refl)

-- ---- C: the calls that change and tell

module _ (ws ts out : List ℕ) (size : ℕ) (o : Outcome) (rec : Record) (new told : List ℕ) where
  -- by the lengths
  abbrev left : Bool → Bool → Left
  left s t =
      cond (eqb (cond s (cond t 0 15) 2) 0)
      (record { number = answer_number o; words = words_of rec; table = new; out = told })
      (record { number = cond s (cond t 0 15) 2; words = ws; table = ts; out = out })

  pub leaves_number : (rows : List (Bool × ℕ)) → answer_number o ≡ lowest rows → (leaves ws ts out size o rec new told).number ≡ lowest (length_rows ws out size rows)
  unfolding leaves guarded wrong_length
  leaves_number rows e = go (eqb (length ws) record_words) (eqb (length out) size)
    where
      go : (s t : Bool) → (left s t).number ≡ lowest ((not s, 2) ∷ (not t, 15) ∷ rows)
      go true true = e
      go true false = refl
      go false t = refl

  -- lengths that are not right leave all as it came
  lengths_wrong : (lowest (length_rows ws out size []) ≡ 0 → ⊥) →
      let x = leaves ws ts out size o rec new told in
      (x.number ≡ lowest (length_rows ws out size [])) × (x.words ≡ ws) × (x.table ≡ ts) × (x.out ≡ out)
  unfolding leaves guarded wrong_length
  lengths_wrong = go (eqb (length ws) record_words) (eqb (length out) size)
    where
      go : (s t : Bool) → (lowest ((not s, 2) ∷ (not t, 15) ∷ []) ≡ 0 → ⊥) →
          ((left s t).number ≡ lowest ((not s, 2) ∷ (not t, 15) ∷ [])) × ((left s t).words ≡ ws) × ((left s t).table ≡ ts) × ((left s t).out ≡ out)
      go true true k = absurd (k refl)
      go true false k = (refl, refl, refl, refl)
      go false t k = (refl, refl, refl, refl)

  lengths_right : lowest (length_rows ws out size []) ≡ 0 → (length ws ≡ record_words) × (length out ≡ size)
  lengths_right e = let r = go (eqb (length ws) record_words) (eqb (length out) size) e in (eqb-true _ _ r.0, eqb-true _ _ r.1)
    where
      go : (s t : Bool) → lowest ((not s, 2) ∷ (not t, 15) ∷ []) ≡ 0 → (s ≡ true) × (t ≡ true)
      go true true e = (refl, refl)
      go true false e = let z : ⊥ = omega arith in absurd z
      go false t e = let z : ⊥ = omega arith in absurd z

  lengths_passed : lowest (length_rows ws out size []) ≡ 0 →
      let x = leaves ws ts out size o rec new told in
      (x.number ≡ answer_number o) × (x.out ≡ told)
  unfolding leaves
  lengths_passed e =
      let l = lengths_right e in
      let r = sym (unguarded _ _ _ (both_right _ _ size l.0 l.1)) in (ap (λ (y : Left). y.number) r, ap (λ (y : Left). y.out) r)

pub appends_c : (ws ts out : List ℕ) (rows : List (Bool × ℕ)) (ahead behind : ℕ) (left : Left) → left.number ≡ lowest (length_rows ws out 1 rows) →
    ((left.number ≡ 0 → ⊥) → (left.words ≡ ws) × (left.table ≡ ts)) →
    left.out ≡ ((distance_with left.number ahead behind ∷ []) when is_apart left.number else out) →
    (x : ℕ) (words table told : List ℕ) → x ≡ left.number → words ≡ left.words → table ≡ left.table → told ≡ left.out →
    AppendsFromC x ws ts out words table told rows ahead behind
appends_c ws ts out rows ahead behind left number leaves distance x words table told e f g h =
    record {
      number = e ∙ number;
      refused = λ k. let l = leaves (λ z. k (e ∙ z)) in (f ∙ l.0, g ∙ l.1);
      distance = h ∙ distance ∙ ap (λ (n : ℕ). (distance_with n ahead behind ∷ []) when is_apart n else out) (sym e);
    }

module _ (bytes ws ts out : List ℕ) where
  abbrev answer : ReadAnswer
  answer = read_answer bytes ts

  abbrev said : List ℕ
  said = answer.line ∷ answer_distance answer.outcome ∷ []

  pub reads_c : (x : ℕ) (words table told : List ℕ) → x ≡ (reads bytes ws ts out).number → words ≡ (reads bytes ws ts out).words →
      table ≡ (reads bytes ws ts out).table → told ≡ (reads bytes ws ts out).out → ReadsFromC bytes x ws ts out words table told
  unfolding reads
  reads_c x words table told e f g h =
      record {
        lengths = λ k. let l = lengths_wrong ws ts out 2 answer.outcome answer.rec (read_table bytes ts) said k in (e ∙ l.0, f ∙ l.1, g ∙ l.2, h ∙ l.3);
        number = λ z. e ∙ (lengths_passed ws ts out 2 answer.outcome answer.rec (read_table bytes ts) said z).0 ∙ reading_right.number bytes ts;
        line = λ z.
            h ∙ (lengths_passed ws ts out 2 answer.outcome answer.rec (read_table bytes ts) said z).1 ∙
            ap₂ (λ (n m : ℕ). n ∷ m ∷ []) (reading_right.line bytes ts) (reading_right.distance bytes ts);
        refused = λ z k.
            let l = lengths_right ws ts out 2 answer.outcome answer.rec (read_table bytes ts) said z in
            let r = read_refused bytes ws ts out l.0 l.1 (λ n. k (e ∙ n)) in (f ∙ r.0, g ∙ r.1);
      }

pub writes_c : (ws bytes out : List ℕ) (rows : List (Bool × ℕ)) (wrote : Wrote) → wrote.number ≡ lowest (length_rows ws out 1 rows) →
    ((wrote.number ≡ 0 → ⊥) → (wrote.bytes ≡ bytes) × (wrote.out ≡ out)) →
    (x : ℕ) (after line : List ℕ) → x ≡ wrote.number → after ≡ wrote.bytes → line ≡ wrote.out →
    GivesNumber x (length_rows ws out 1 rows) ((after ≡ bytes) × (line ≡ out))
writes_c ws bytes out rows wrote number leaves x after line e f g =
    record { number = e ∙ number; refused = λ k. let l = leaves (λ z. k (e ∙ z)) in (f ∙ l.0, g ∙ l.1) }
