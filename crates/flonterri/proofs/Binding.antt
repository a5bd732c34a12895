-- What a binding relies on: accepted calls leave words that agree, a call that looks tells whether words agree, a wide number is not kept, the
-- full tick of a stamp is refused for disagreement alone, and zeros behind a table leave agreement as it is.
use mathlib.Core.Path.{◌≡◌, refl, sym, ap, ap₂, ◌∙◌}
use mathlib.Core.Bool.{Bool, true, false, cond, ◌&&◌}
use mathlib.Core.List.{List, [], ◌++◌, append_assoc, append-nil}
use Prim.Native.Nat.{ℕ, ◌+◌, ◌-◌, ◌*◌, ◌/◌, ◌≤◌, ◌<◌}
use native.Mathlib.Omega.{arith}
use borrow.Author.Tests.{eqb-false, le-leb}
use lib.Dec.{eqb}
use lib.IntN.{ℤ}
use lib.ListN.{length, drop, replicate, length-append, replicate-append-replicate}
use lib.Seq.{drop_at}
use Rattle.units.specs.declared.Stamp.{Stamp}
use Rattle.std.specs.Prelude.{Err, None, Ok, Option, Some}
use Rattle.keeping.specs.Keeping.{Outcome}
use Rattle.units.specs.declared.Tick.{Tick}
use Rattle.units.specs.declared.standing.Standing.{Standing}
use Rattle.units.specs.Full.{full_tick}
use Rattle.units.specs.Limits.{largest_span, largest_millis, largest_number}
use Rattle.units.specs.Standing.{tick_standing, stamp_standing}
use Rattle.runs.specs.Words.{runs_of, words_of as run_words, references_of}
use Rattle.runs.specs.Encoding.{table_of}
use Rattle.runs.specs.Shape.{runs_shaped, zeros, shaped}
use Rattle.runs.proofs.Opening.{runs_length, words_length}
use Rattle.runs.proofs.Tables.{are_zeros, used_fits, used_words, runs_shaped_lem, table_is, table_runs}
use Rattle.agreement.specs.declared.Record.{Record}
use Rattle.agreement.specs.declared.refusal.Refusal.TheVariants as refusal
use Rattle.agreement.specs.Agreement.{kept, record_held, kept_right, agrees}
use Rattle.agreement.proofs.Agreeing.{agreeing, agree_shaped}
use Rattle.agreement.proofs.Numbers.{refusal_some}
use Rattle.keeping.specs.declared.Changed.{Changed}
use Rattle.keeping.specs.Keeping.{changed_by, words_by}
use Rattle.keeping.proofs.Outcomes.{outcome_beside, number_accepted}
use Rattle.timeline.specs.Opening.{open_outcome}
use Rattle.timeline.specs.Appending.{append_outcome, append_answer, append_table}
use Rattle.timeline.specs.Trimming.{trim_outcome}
use Rattle.timeline.specs.Pair.{pair_outcome}
use Rattle.timeline.proofs.Kept.{open_agrees, trim_passed, trim_keeps, taken, append_leaves_lem}
use Rattle.timeline.proofs.Pairs.{pair_passed, pair_leaves_lem}
use Rattle.lookups.specs.Available.{numbered, kept_number, number_availability, availability_in, number_available, available_in}
use Rattle.agreement.specs.Numbers.{answer_number}
use Rattle.lookups.specs.Stamps.{full_tick_in}
use Rattle.lookups.specs.Spans.{touched_words, touching_words}
use Rattle.lookups.proofs.Numbering.{after}
use Rattle.file.specs.declared.Reading.{Reading}
use Rattle.file.specs.Judging.{read_outcome, read_answer, answered_by, read_lines}
use Rattle.file.proofs.Accepted.{read_agrees}
use Rattle.words.specs.Words.{record_words, record_of, words_of, head_with}
use Rattle.words.specs.Lengths.{wrong_record, wrong_length}
use Rattle.words.specs.Tells.{Tells, tells_by, words_of_availability, words_of_touching, words_of_available, words_of_tick}
use Rattle.words.proofs.Words.{record_words_lem}
use Rattle.words.proofs.Lengths.{both_right}
use Rattle.flonterri.specs.Face.{guarded, Changes, changes, opens, appends_by, appends, appends_stamp, appends_trim, trims, tells, tells_touching, tells_availability, Leaves, leaves, reads}
use Rattle.flonterri.specs.Face.{tells_available, tells_full_tick}
use Rattle.flonterri.specs.Binding.{agreed, LeavesAgreed, TellsAgreed, Binding}
use Rattle.flonterri.proofs.Facing.{unguarded}

-- ---- the calls that change

-- a call that leaves a new record and new words where it is accepted, and these agree then
module _ (ws ts : List ℕ) (new old : Record) (left : List ℕ) where
  leaves_agreed : (o : Outcome) → (o ≡ Ok tt → agrees new left ≡ true) → LeavesAgreed (changes ws ts (changed_by o new old) (words_by o left ts))
  unfolding changes guarded wrong_record changed_by words_by
  leaves_agreed o k = go (eqb (length ws) record_words) o k
    where
      at : Bool → Outcome → Changes
      at t o =
          cond (eqb (cond t 0 2) 0)
          (record { number = answer_number (changed_by o new old).outcome; words = words_of (changed_by o new old).rec; table = words_by o left ts })
          (record { number = cond t 0 2; words = ws; table = ts })

      go : (t : Bool) (o : Outcome) → (o ≡ Ok tt → agrees new left ≡ true) → LeavesAgreed (at t o)
      go false o k z = let y : ⊥ = omega arith in absurd y
      go true (Ok _) k z = ap (λ r. agrees r left) (record_words_lem new) ∙ k refl
      go true (Err why) k z = absurd (refusal_some why z)

opening_agreed : (ws ts : List ℕ) (timescale offset start duration depth first update tick : ℕ) → LeavesAgreed (opens ws ts timescale offset start duration depth first update tick)
unfolding opens
opening_agreed ws ts timescale offset start duration depth first update tick =
    let h = head_with timescale offset start duration depth first update in
    leaves_agreed ws ts _ _ _ (open_outcome h (record { 0 = tick })) (open_agrees h (record { 0 = tick }) (length ts))

trim_agreed : (ws ts : List ℕ) (c : ℕ) → LeavesAgreed (trims ws ts c)
unfolding trims
trim_agreed ws ts c =
    leaves_agreed ws ts _ _ _ (trim_outcome (record_of ws) ts (record { 0 = c }))
    (λ o. let p = trim_passed (record_of ws) ts (record { 0 = c }) o in trim_keeps (record_of ws) ts (record { 0 = c }) p.0 p.1)

-- ---- the calls that change and tell

-- a call whose record and words agree where its number is 0
tells_agreed : (ws ts out : List ℕ) (size : ℕ) (o : Outcome) (rec : Record) (new told : List ℕ) → (answer_number o ≡ 0 → agrees rec new ≡ true) →
    TellsAgreed (leaves ws ts out size o rec new told)
unfolding leaves guarded
tells_agreed ws ts out size o rec new told k = go (eqb (wrong_length (length ws) (length out) size) 0) refl
  where
    at : Bool → Leaves
    at t =
        cond t
        (record { number = answer_number o; words = words_of rec; table = new; out = told })
        (record { number = wrong_length (length ws) (length out) size; words = ws; table = ts; out = out })

    go : (t : Bool) → eqb (wrong_length (length ws) (length out) size) 0 ≡ t → TellsAgreed (at t)
    go true e z = ap (λ r. agrees r new) (record_words_lem rec) ∙ k z
    go false e z = absurd (eqb-false (wrong_length (length ws) (length out) size) 0 e z)

-- an append, by itself or with a trim behind it, whose answer and words agree where it is accepted
appends_agreed : (ws ts out : List ℕ) (x : Changed) (new : List ℕ) → (x.outcome ≡ Ok tt → agrees x.rec new ≡ true) → TellsAgreed (appends_by ws ts out x new)
appends_agreed ws ts out x new k = tells_agreed ws ts out 1 _ _ _ _ (λ z. k (number_accepted x.outcome z))

append_left : (ws ts out : List ℕ) (st : Standing) (d n : ℕ) → d ≤ largest_span →
    TellsAgreed (appends_by ws ts out (append_answer (record_of ws) ts st d n) (append_table (record_of ws) ts st d n))
append_left ws ts out st d n small =
    appends_agreed ws ts out _ _
    (λ z. append_leaves_lem (record_of ws) ts st d n small
    (taken (record_of ws) ts st d n (sym (outcome_beside (append_outcome (record_of ws) ts st d n) _ _) ∙ z)).agreed)

append_agreed : (ws ts out : List ℕ) (start d n : ℕ) → d ≤ largest_span → TellsAgreed (appends ws ts out start d n)
unfolding appends
append_agreed ws ts out start d n small =
    append_left ws ts out (tick_standing (record { 0 = start }) (record_of ws).next) d n small

stamp_agreed : (ws ts out : List ℕ) (stamp d n : ℕ) → d ≤ largest_span → TellsAgreed (appends_stamp ws ts out stamp d n)
unfolding appends_stamp
stamp_agreed ws ts out stamp d n small =
    append_left ws ts out (stamp_standing (record { 0 = stamp }) (record_of ws).next) d n small

pair_agreed : (ws ts out : List ℕ) (stamp d n c : ℕ) → d ≤ largest_span → TellsAgreed (appends_trim ws ts out stamp d n c)
unfolding appends_trim
pair_agreed ws ts out stamp d n c small =
    let st = stamp_standing (record { 0 = stamp }) (record_of ws).next in
    appends_agreed ws ts out _ _
    (λ z. pair_leaves_lem (record_of ws) ts st d n (record { 0 = c }) small
    (pair_passed (record_of ws) ts st d n (record { 0 = c }) (sym (outcome_beside (pair_outcome (record_of ws) ts st d n (record { 0 = c })) _ _) ∙ z)).agreed)

-- a reading whose number is 0 is accepted
read_accepted : (o : Outcome) (r : Reading) → answer_number (answered_by o r).outcome ≡ 0 → o ≡ Ok tt
read_accepted (Ok _) r z = refl
read_accepted (Err why) r z = absurd (refusal_some why z)

read_agreed : (bytes ws ts out : List ℕ) → TellsAgreed (reads bytes ws ts out)
unfolding reads read_answer
read_agreed bytes ws ts out =
    tells_agreed ws ts out 2 _ _ _ _ (λ z. read_agrees bytes ts (read_accepted (read_outcome bytes ts) (read_lines bytes ts).reading z))

-- ---- the calls that look

-- behind right lengths
told_number : {A : Type 0} (ws : List ℕ) (size : ℕ) (call : List A → Tells A) (out : List A) → length ws ≡ record_words → length out ≡ size → (tells ws size call out).number ≡ (call out).number
unfolding tells
told_number {A} ws size call out l m = sym (ap (λ (t : Tells A). t.number) (unguarded _ _ (call out) (both_right _ _ size l m)))

-- asked from 0 up to 1, words are told or disagreement is
touching_number_lem : (rec : Record) (ts out : List ℕ) → (tells_by words_of_touching (touching_words rec ts (record { 0 = 0 }) (record { 0 = 1 })) out).number ≡ cond (agrees rec ts) 0 2
unfolding tells_by
touching_number_lem rec ts out = go (agrees rec ts)
  where
    go : (t : Bool) → (tells_by words_of_touching (cond t (Ok (touched_words 0 1 (runs_of rec.used ts))) (Err refusal.Disagreement)) out).number ≡ cond t 0 2
    go true = refl
    go false = refl

touching_told : (ws ts out : List ℕ) → length ws ≡ record_words → length out ≡ 2 → (tells_touching ws ts 0 1 out).number ≡ cond (agreed ws ts) 0 2
unfolding tells_touching
touching_told ws ts out l m =
    told_number ws 2 (tells_by words_of_touching (touching_words (record_of ws) ts (record { 0 = 0 }) (record { 0 = 1 }))) out l m ∙
    touching_number_lem (record_of ws) ts out

wide_missing : (rec : Record) (ts : List ℕ) (n : ℕ) → agrees rec ts ≡ true → largest_number < n → kept_number rec ts n ≡ None
unfolding numbered
wide_missing rec ts n a w =
    let f = agreeing rec ts a in
    let first : ℕ = rec.head.first.0 + rec.dropped in
    ap (λ rs. numbered first rs n) (sym (append-nil (kept rec ts))) ∙
    after first n (kept rec ts) [] (omega (arith, f.total, f.held.dropped, f.held.numbers))

wide_told : (ws ts : List ℕ) (n : ℕ) (out : List ℤ) → length ws ≡ record_words → length out ≡ 3 → agreed ws ts ≡ true → largest_number < n → (tells_availability ws ts n out).number ≡ 13
unfolding tells_availability tells_by
wide_told ws ts n out l m a w =
    told_number ws 3 (tells_by words_of_availability (availability_in (record_of ws) ts (record { 0 = n }))) out l m ∙
    ap (λ t. (tells_by words_of_availability (cond t (number_availability (record_of ws).head (kept_number (record_of ws) ts n)) (Err refusal.Disagreement)) out).number) a ∙
    ap (λ x. (tells_by words_of_availability (number_availability (record_of ws).head x) out).number) (wide_missing (record_of ws) ts n a w)

wide_told_at : (ws ts : List ℕ) (n c : ℕ) (out : List ℕ) → length ws ≡ record_words → length out ≡ 1 → agreed ws ts ≡ true → c ≤ largest_millis → largest_number < n →
    (tells_available ws ts n c out).number ≡ 13
unfolding tells_available tells_by
wide_told_at ws ts n c out l m a b w =
    told_number ws 1 (tells_by words_of_available (available_in (record_of ws) ts (record { 0 = n }) (record { 0 = c }))) out l m ∙
    ap₂ (λ s t. answer_number (cond s (cond t (number_available (record_of ws).head c (kept_number (record_of ws) ts n)) (Err refusal.ClockLimit)) (Err refusal.Disagreement)))
    a (le-leb c largest_millis b) ∙
    ap (λ x. answer_number (number_available (record_of ws).head c x)) (wide_missing (record_of ws) ts n a w)

-- a full tick that is asked for is told, or that there is none
full_number : (rec : Record) (ts : List ℕ) (stamp : Stamp) → answer_number (full_tick_in rec ts stamp) ≡ cond (agrees rec ts) 0 2
full_number rec ts stamp = go (agrees rec ts) (full_tick stamp rec.next)
  where
    go : (t : Bool) (x : Option Tick) → answer_number (cond t (Ok x) (Err refusal.Disagreement)) ≡ cond t 0 2
    go true (Some tick) = refl
    go true None = refl
    go false x = refl

full_told : (ws ts : List ℕ) (stamp : ℕ) (out : List ℕ) → length ws ≡ record_words → length out ≡ 2 → (tells_full_tick ws ts stamp out).number ≡ cond (agreed ws ts) 0 2
unfolding tells_full_tick tells_by
full_told ws ts stamp out l m =
    told_number ws 2 (tells_by words_of_tick (full_tick_in (record_of ws) ts (record { 0 = stamp }))) out l m ∙ full_number (record_of ws) ts (record { 0 = stamp })

-- ---- more room

-- a shaped table with zeros behind it is the longer table of its own runs
module _ (used : ℕ) (ts : List ℕ) (n : ℕ) (s : shaped used ts ≡ true) where
  more_left : length ts - 3 * length (runs_of used ts) + n ≡ length ts + n - 3 * length (runs_of used ts)
  more_left = omega (arith, used_words used ts s, runs_length used ts)

  longer_is : ts ++ replicate n 0 ≡ table_of (length ts + n) (runs_of used ts)
  unfolding table_of
  longer_is =
      let rs = runs_of used ts in
      let left : ℕ = length ts - 3 * length rs in
      ap (λ vs. vs ++ replicate n 0) (table_is used ts s) ∙
      append_assoc (run_words rs) (replicate left 0) (replicate n 0) ∙
      ap (λ vs. run_words rs ++ vs) (replicate-append-replicate left n 0 ∙ ap (λ (k : ℕ). replicate k 0) more_left)

  longer_runs : runs_of used (ts ++ replicate n 0) ≡ runs_of used ts
  longer_runs = ap₂ runs_of (sym (runs_length used ts)) longer_is ∙ table_runs (length ts + n) (runs_of used ts)

  longer_zeros : zeros (drop (3 * used) (ts ++ replicate n 0)) ≡ true
  unfolding table_of
  longer_zeros =
      let rs = runs_of used ts in
      let left : ℕ = length ts + n - 3 * length rs in
      ap (λ vs. zeros (drop (3 * used) vs)) longer_is ∙
      ap zeros (drop_at (run_words rs) (replicate left 0) (3 * used) (words_length rs ∙ ap (λ (k : ℕ). 3 * k) (runs_length used ts))) ∙
      are_zeros left

  longer_shaped : shaped used (ts ++ replicate n 0) ≡ true
  longer_shaped =
      ap₂ ◌&&◌
      (ap₂ ◌&&◌
      (le-leb used (length (ts ++ replicate n 0) / 3) (omega (arith, length-append ts (replicate n 0), used_fits used ts s)))
      (ap runs_shaped longer_runs ∙ runs_shaped_lem used ts s))
      longer_zeros

grown_agreed : (ws ts : List ℕ) (n : ℕ) → agreed ws ts ≡ true →
    (agreed ws (ts ++ replicate n 0) ≡ true) × (kept (record_of ws) (ts ++ replicate n 0) ≡ kept (record_of ws) ts)
unfolding agrees
grown_agreed ws ts n a =
    let rec = record_of ws in
    let s = agree_shaped rec ts a in
    let same = ap references_of (longer_runs rec.used ts n s) in
    (ap₂ (λ t rs. record_held rec && t && kept_right rec rs) (longer_shaped rec.used ts n s ∙ sym s) same ∙ a, same)

pub binding : Binding
binding =
    record {
      opening = opening_agreed;
      append = append_agreed;
      append_stamp = stamp_agreed;
      append_trim = pair_agreed;
      trim = trim_agreed;
      read = read_agreed;
      touching = touching_told;
      wide_number_lem = wide_told;
      wide_number_at = wide_told_at;
      full_tick_lem = full_told;
      grown = grown_agreed;
    }
