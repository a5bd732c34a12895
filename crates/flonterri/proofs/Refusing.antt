-- What a refused call leaves: all memory as it came, but for the zero record of a refused opening, and for the zeros and the
-- line of a refused reading. And what a complete verdict says: all covered, and 100 percent.
use mathlib.Core.Path.{◌≡◌, refl, sym, ap, ◌∙◌}
use mathlib.Core.Bool.{Bool, true, false, cond, ◌||◌, false≢true}
use mathlib.Core.List.{List, [], ◌∷◌}
use Prim.Native.Nat.{ℕ}
use native.Mathlib.Omega.{arith}
use borrow.Author.Tests.{eqb-true}
use lib.Dec.{eqb}
use lib.IntN.{ℤ}
use lib.ListN.{length, replicate}
use Rattle.units.specs.declared.WideMillis.{WideMillis}
use Rattle.agreement.specs.declared.Record.{Record}
use Rattle.agreement.specs.Numbers.{refusal_number, answer_distance, answer_number}
use Rattle.agreement.specs.Rows.{◌when◌else◌}
use Rattle.std.specs.Prelude.{Result, Err, None, Ok, Option, Some}
use Rattle.keeping.specs.Keeping.{Outcome}
use Rattle.keeping.specs.Keeping.{changed_by, words_by}
use Rattle.timeline.specs.Opening.{fresh_record, zero_record, open_outcome}
use Rattle.timeline.specs.Trimming.{trim_outcome}
use Rattle.answers.specs.declared.Verdict.{Verdict}
use Rattle.answers.specs.declared.Verdict.TheVariants as verdict
use Rattle.agreement.specs.declared.refusal.Refusal.{Refusal}
use Rattle.answers.specs.Judgement.{verdict_at, verdict_whole, complete}
use Rattle.answers.specs.Shares.{verdict_percent, percent_number, hundred}
use Rattle.answers.proofs.Completeness.{percent_at, percent_whole}
use Rattle.file.specs.Judging.{read_lines, read_outcome, answered_by, read_answer, read_table, zeroed}
use Rattle.writing.specs.Writing.{write_answer, output_by, file_for}
use Rattle.words.specs.Words.{record_words, record_of, words_of, head_with}
use Rattle.words.specs.Lengths.{wrong_record, wrong_length}
use Rattle.words.specs.Tells.{Tells, told, words_of_verdict, tells_by, words_of_length, distance_out}
use Rattle.words.proofs.Words.{words_record}
use Rattle.words.proofs.Lengths.{both_right}
use Rattle.flonterri.specs.Face.{guarded, Changes, changes, opens, trims, Leaves, leaves, tells, tells_verdict, tells_whole, tells_availability, tells_touching, reads, Writes, writes_by, writes, tells_available, tells_full_tick, tells_edge}
use Rattle.flonterri.proofs.Facing.{unguarded}

-- ---- the calls that change

-- a call that leaves record and table as they came where it is refused
module _ (ws ts : List ℕ) (new : Record) (left : List ℕ) where
  abbrev after : Outcome → Changes
  after o = changes ws ts (changed_by o new (record_of ws)) (words_by o left ts)

  pub refused_leaves : (o : Outcome) → ((after o).number ≡ 0 → ⊥) → ((after o).words ≡ ws) × ((after o).table ≡ ts)
  unfolding changes guarded wrong_record changed_by words_by
  refused_leaves o k = go (eqb (length ws) record_words) refl o k
    where
      at : Bool → Outcome → Changes
      at t o =
          cond (eqb (cond t 0 2) 0)
          (record { number = answer_number (changed_by o new (record_of ws)).outcome; words = words_of (changed_by o new (record_of ws)).rec; table = words_by o left ts })
          (record { number = cond t 0 2; words = ws; table = ts })

      go : (t : Bool) → eqb (length ws) record_words ≡ t → (o : Outcome) → ((at t o).number ≡ 0 → ⊥) → ((at t o).words ≡ ws) × ((at t o).table ≡ ts)
      go false e o k = (refl, refl)
      go true e (Ok _) k = absurd (k refl)
      go true e (Err why) k = (words_record ws (eqb-true _ _ e), refl)

module _ (ws ts : List ℕ) where
  pub trim_refused : (c : ℕ) → ((trims ws ts c).number ≡ 0 → ⊥) → ((trims ws ts c).words ≡ ws) × ((trims ws ts c).table ≡ ts)
  unfolding trims
  trim_refused c k = refused_leaves ws ts _ _ (trim_outcome (record_of ws) ts (record { 0 = c })) k

  -- a refused opening zeroes the record
  module _ (a b c d e f u t : ℕ) where
    pub open_refused : (opens ws ts a b c d e f u t).number ≡ 1 → ((opens ws ts a b c d e f u t).words ≡ replicate record_words 0) × ((opens ws ts a b c d e f u t).table ≡ ts)
    unfolding opens changes guarded wrong_record changed_by words_by words_of
    open_refused n = go (eqb (length ws) record_words) (open_outcome (head_with a b c d e f u) (record { 0 = t })) n
      where
        at : Bool → Outcome → Changes
        at s o =
            cond (eqb (cond s 0 2) 0)
            (record {
              number = answer_number (changed_by o (fresh_record (head_with a b c d e f u) (record { 0 = t })) zero_record).outcome;
              words = words_of (changed_by o (fresh_record (head_with a b c d e f u) (record { 0 = t })) zero_record).rec;
              table = words_by o (replicate (length ts) 0) ts;
            })
            (record { number = cond s 0 2; words = ws; table = ts })

        go : (s : Bool) (o : Outcome) → (at s o).number ≡ 1 → ((at s o).words ≡ replicate record_words 0) × ((at s o).table ≡ ts)
        go false o n = let z : ⊥ = omega arith in absurd z
        go true (Ok _) n = let z : ⊥ = omega arith in absurd z
        go true (Err why) n = (refl, refl)

-- ---- appends

-- record and table as they came where the call is refused; out has the distance of a gap or an overlap, and else it is as it came
module _ (ws ts out : List ℕ) (new : Record) (left : List ℕ) where
  abbrev appended_by : Outcome → Leaves
  appended_by o =
      let x = changed_by o new (record_of ws) in
      leaves ws ts out 1 x.outcome x.rec (words_by o left ts) (distance_out x.outcome out)

  -- by what the lengths and the outcome are
  abbrev seen : Bool → Bool → Outcome → Leaves
  seen s t o =
      let x = changed_by o new (record_of ws) in
      cond (eqb (cond s (cond t 0 15) 2) 0)
      (record { number = answer_number x.outcome; words = words_of x.rec; table = words_by o left ts; out = distance_out x.outcome out })
      (record { number = cond s (cond t 0 15) 2; words = ws; table = ts; out = out })

  pub refused_appends : (o : Outcome) → ((appended_by o).number ≡ 0 → ⊥) → ((appended_by o).words ≡ ws) × ((appended_by o).table ≡ ts)
  unfolding leaves guarded wrong_length changed_by words_by
  refused_appends o k = go (eqb (length ws) record_words) (eqb (length out) 1) refl o k
    where
      go : (s t : Bool) → eqb (length ws) record_words ≡ s → (o : Outcome) → ((seen s t o).number ≡ 0 → ⊥) → ((seen s t o).words ≡ ws) × ((seen s t o).table ≡ ts)
      go false t e o k = (refl, refl)
      go true false e o k = (refl, refl)
      go true true e (Ok _) k = absurd (k refl)
      go true true e (Err why) k = (words_record ws (eqb-true _ _ e), refl)

  -- 4 and 5 tell the distance, which goes by the number, and no other number tells anything
  pub distance_told : (far : ℕ → ℕ) (o : Outcome) → answer_distance o ≡ far (answer_number o) →
      (appended_by o).out ≡ ((far (appended_by o).number ∷ []) when eqb (appended_by o).number 4 || eqb (appended_by o).number 5 else out)
  unfolding leaves guarded wrong_length changed_by words_by distance_out
  distance_told far o e = go (eqb (length ws) record_words) (eqb (length out) 1) o e
    where
      go : (s t : Bool) (o : Outcome) → answer_distance o ≡ far (answer_number o) →
          (seen s t o).out ≡ ((far (seen s t o).number ∷ []) when eqb (seen s t o).number 4 || eqb (seen s t o).number 5 else out)
      go false t o e = refl
      go true false o e = refl
      go true true (Ok _) e = refl
      go true true (Err why) e = ap (λ (m : ℕ). (m ∷ []) when eqb (refusal_number why) 4 || eqb (refusal_number why) 5 else out) e

-- ---- the calls that look

-- what an answer that is refused tells: nothing
pub silent : {A B : Type 0} (shown : A → List B) (v : Result A Refusal) (out : List B) → ((tells_by shown v out).number ≡ 0 → ⊥) → (tells_by shown v out).out ≡ out
unfolding tells_by told
silent shown (Ok x) out k = absurd (k refl)
silent shown (Err why) out k = refl

-- and so a refused call that looks leaves out as it came
pub refused_tells :
    {A : Type 0} (ws : List ℕ) (size : ℕ) (call : List A → Tells A) (out : List A)
    → (((call out).number ≡ 0 → ⊥) → (call out).out ≡ out)
    → ((tells ws size call out).number ≡ 0 → ⊥)
    → (tells ws size call out).out ≡ out
unfolding tells guarded
refused_tells {A} ws size call out silent k = go (eqb (wrong_length (length ws) (length out) size) 0) k
  where
    at : Bool → Tells A
    at t = cond t (call out) (record { number = wrong_length (length ws) (length out) size; out = out })

    go : (t : Bool) → ((at t).number ≡ 0 → ⊥) → (at t).out ≡ out
    go true k = silent k
    go false k = refl

module _ (ws ts : List ℕ) where
  pub verdict_refused : (c : ℕ) (out : List ℕ) → ((tells_verdict ws ts c out).number ≡ 0 → ⊥) → (tells_verdict ws ts c out).out ≡ out
  unfolding tells_verdict
  verdict_refused c out k = refused_tells ws 5 (tells_by words_of_verdict (verdict_at (record_of ws) ts (record { 0 = c }))) out (silent _ _ out) k

  pub whole_refused : (out : List ℕ) → ((tells_whole ws ts out).number ≡ 0 → ⊥) → (tells_whole ws ts out).out ≡ out
  unfolding tells_whole
  whole_refused out k = refused_tells ws 5 (tells_by words_of_verdict (verdict_whole (record_of ws) ts)) out (silent _ _ out) k

  pub availability_refused : (n : ℕ) (out : List ℤ) → ((tells_availability ws ts n out).number ≡ 0 → ⊥) → (tells_availability ws ts n out).out ≡ out
  unfolding tells_availability
  availability_refused n out k = refused_tells ws 3 _ out (silent _ _ out) k

  pub available_refused : (n c : ℕ) (out : List ℕ) → ((tells_available ws ts n c out).number ≡ 0 → ⊥) → (tells_available ws ts n c out).out ≡ out
  unfolding tells_available
  available_refused n c out k = refused_tells ws 1 _ out (silent _ _ out) k

  pub full_refused : (stamp : ℕ) (out : List ℕ) → ((tells_full_tick ws ts stamp out).number ≡ 0 → ⊥) → (tells_full_tick ws ts stamp out).out ≡ out
  unfolding tells_full_tick
  full_refused stamp out k = refused_tells ws 2 _ out (silent _ _ out) k

  pub touching_refused : (a b : ℕ) (out : List ℕ) → ((tells_touching ws ts a b out).number ≡ 0 → ⊥) → (tells_touching ws ts a b out).out ≡ out
  unfolding tells_touching
  touching_refused a b out k = refused_tells ws 2 _ out (silent _ _ out) k

  pub edge_refused : (out : List ℕ) → ((tells_edge ws ts out).number ≡ 0 → ⊥) → (tells_edge ws ts out).out ≡ out
  unfolding tells_edge
  edge_refused out k = refused_tells ws 2 _ out (silent _ _ out) k

-- ---- the file

-- a refused reading zeroes record and table
module _ (bytes ws ts out : List ℕ) (l : length ws ≡ record_words) (m : length out ≡ 2) where
  abbrev read_by : Outcome → Leaves
  read_by o =
      let answer = answered_by o (read_lines bytes ts).reading in
      record {
        number = answer_number answer.outcome;
        words = words_of answer.rec;
        table = words_by o (read_lines bytes ts).words (zeroed ts);
        out = answer.line ∷ answer_distance answer.outcome ∷ [];
      }

  is_read : read_by (read_outcome bytes ts) ≡ reads bytes ws ts out
  unfolding reads leaves read_answer read_table
  is_read = unguarded _ _ _ (both_right _ _ 2 l m)

  pub read_refused :
      ((reads bytes ws ts out).number ≡ 0 → ⊥) → ((reads bytes ws ts out).words ≡ replicate record_words 0) × ((reads bytes ws ts out).table ≡ replicate (length ts) 0)
  unfolding words_by words_of
  read_refused k = go (read_outcome bytes ts) is_read
    where
      go : (o : Outcome) → read_by o ≡ reads bytes ws ts out →
          ((reads bytes ws ts out).words ≡ replicate record_words 0) × ((reads bytes ws ts out).table ≡ replicate (length ts) 0)
      go (Ok _) e = absurd (k (ap (λ (y : Leaves). y.number) (sym e)))
      go (Err why) e = (ap (λ (y : Leaves). y.words) (sym e), ap (λ (y : Leaves). y.table) (sym e))

-- a refused writing changes no byte
pub write_refused :
    (ws ts bytes out : List ℕ)
    → ((writes ws ts bytes out).number ≡ 0 → ⊥)
    → ((writes ws ts bytes out).bytes ≡ bytes) × ((writes ws ts bytes out).out ≡ out)
unfolding writes writes_by guarded output_by tells_by told words_of_length
write_refused ws ts bytes out k = go (eqb (wrong_length (length ws) (length out) 1) 0) (write_answer (record_of ws) ts (length bytes)) k
  where
    at : Bool → Result ℕ Refusal → Writes
    at t x =
        cond t
        (record { number = (tells_by words_of_length x out).number; bytes = output_by x (file_for (record_of ws) ts) bytes; out = (tells_by words_of_length x out).out })
        (record { number = wrong_length (length ws) (length out) 1; bytes = bytes; out = out })

    go : (t : Bool) (x : Result ℕ Refusal) → ((at t x).number ≡ 0 → ⊥) → ((at t x).bytes ≡ bytes) × ((at t x).out ≡ out)
    go false x k = (refl, refl)
    go true (Ok n) k = absurd (k refl)
    go true (Err why) k = (refl, refl)

-- ---- a complete verdict

hundred_word : (p : Option ℕ) → hundred p ≡ true → percent_number p ≡ 100
hundred_word (Some n) e = eqb-true n 100 e
hundred_word None e = absurd (false≢true e)

complete_words : (v : Result Verdict Refusal) (n : ℕ) (out : List ℕ) → hundred (verdict_percent v) ≡ complete v → v ≡ Ok (verdict.Complete n) → (tells_by words_of_verdict v out).out ≡ 1 ∷ n ∷ n ∷ 0 ∷ 100 ∷ []
unfolding tells_by told words_of_verdict
complete_words v n out h e =
    ap (λ y. (tells_by words_of_verdict y out).out) e ∙ ap (λ p. 1 ∷ n ∷ n ∷ 0 ∷ p ∷ []) (hundred_word (verdict_percent (Ok (verdict.Complete n))) (ap (λ y. hundred (verdict_percent y)) (sym e) ∙ h ∙ ap complete e))

pub complete_at :
    (rec : Record) (ts : List ℕ) (c : WideMillis) (n : ℕ) (out : List ℕ)
    → verdict_at rec ts c ≡ Ok (verdict.Complete n)
    → (tells_by words_of_verdict (verdict_at rec ts c) out).out ≡ 1 ∷ n ∷ n ∷ 0 ∷ 100 ∷ []
complete_at rec ts c n out e = complete_words (verdict_at rec ts c) n out (percent_at rec ts c) e

pub complete_whole :
    (rec : Record) (ts : List ℕ) (n : ℕ) (out : List ℕ)
    → verdict_whole rec ts ≡ Ok (verdict.Complete n)
    → (tells_by words_of_verdict (verdict_whole rec ts) out).out ≡ 1 ∷ n ∷ n ∷ 0 ∷ 100 ∷ []
complete_whole rec ts n out e = complete_words (verdict_whole rec ts) n out (percent_whole rec ts) e
