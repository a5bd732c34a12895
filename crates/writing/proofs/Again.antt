-- A file that is written reads back: its lines are its frames again, and each S line appends its run, so that the same references are kept under
-- the same numbers in the same words.
use mathlib.Core.Path.{◌≡◌, refl, sym, ap, ap₂, subst, subst⁻¹, ◌∙◌}
use mathlib.Core.Bool.{Bool, true, not, and-eq-true_iff, ◌&&◌}
use mathlib.Core.List.{List, [], ◌∷◌, ◌++◌, append_assoc}
use Prim.Native.Nat.{ℕ, zero, suc, ◌+◌, ◌-◌, ◌*◌, ◌/◌, ◌^◌, ◌≤◌}
use native.Mathlib.Omega.{arith}
use borrow.Author.Tests.{le-leb}
use lib.ListN.{length, length-append}
use Rattle.units.specs.Limits.{largest_tick, largest_number}
use Rattle.units.specs.declared.standing.Standing.TheVariants.{Joins}
use Rattle.window.specs.declared.Head.{Head}
use Rattle.window.specs.declared.Reference.{Reference}
use Rattle.window.specs.Limits.{head_held}
use Rattle.window.specs.Place.{before_end}
use Rattle.window.specs.Window.{end_of, passed}
use Rattle.window.specs.References.{EndToStart}
use Rattle.runs.specs.declared.Run.{Run}
use Rattle.runs.specs.Words.{repeated, references_of, capacity}
use Rattle.runs.specs.Shape.{runs_shaped}
use Rattle.runs.specs.Ends.{last_end}
use Rattle.runs.specs.Encoding.{encode, runs_for, table_of}
use Rattle.runs.proofs.Opening.{references_in, repeated_length}
use Rattle.runs.proofs.Encoded.{leads, shaped_front, shaped_last, Starts, encoded}
use Rattle.runs.proofs.EndToStart.{join_back, references_append, references_of_run, references_join, references_end}
use Rattle.runs.proofs.Tables.{table_runs, table_length_lem}
use Rattle.agreement.specs.declared.Record.{Record}
use Rattle.agreement.specs.Agreement.{kept, every, counts_held, agrees}
use Rattle.std.specs.Prelude.{Ok}
use Rattle.keeping.specs.Keeping.{unspent, words_keeping}
use Rattle.keeping.specs.Append.{given, all_of, unspent_of, room_outcome, fit_outcome, appended}
use Rattle.keeping.proofs.Unspent.{unspent_every, every_append}
use Rattle.timeline.specs.Appending.{append_outcome}
use Rattle.timeline.proofs.Judged.{stands_joins}

-- ---- parts of a list that passes a test

module _ (t : Reference → Bool) (xs ys : List Reference) (e : every t (xs ++ ys) ≡ true) where
  every_parts : (every t xs ≡ true) × (every t ys ≡ true)
  every_parts = (and-eq-true_iff (every t xs) (every t ys)).0 (sym (every_append t xs ys) ∙ e)

-- ---- an append that meets every condition is accepted

fit_accepted : (rec : Record) (ws : List ℕ) (d n : ℕ) → rec.next.0 + d * n ≤ largest_tick → counts_held rec.head.first.0 (rec.accepted + n) ≡ true →
    every (λ r. before_end rec.head r.start.0) (given rec d n) ≡ true → runs_for (unspent_of rec ws d n) ≤ capacity ws → fit_outcome rec ws d n ≡ Ok tt
unfolding fit_outcome room_outcome
fit_accepted rec ws d n e c b r =
    simp (le-leb (rec.next.0 + d * n) largest_tick e, c, b, le-leb (runs_for (unspent_of rec ws d n)) (capacity ws) r)

-- ---- runs that are appended one after another

-- the record that has accepted just the references of these runs
abbrev pub record_of : Head → ℕ → List Run → Record
record_of h t rs =
    record {
      head = h;
      accepted = length (references_of rs);
      dropped = 0;
      next = record { 0 = last_end t (references_of rs) };
      clock = record { 0 = 0 };
      used = length rs;
    }

-- runs that a table of so many words can take from a fresh opening at tick t
pub record Takeable (h : Head) (t words : ℕ) (rs : List Run) : Type 0 where
  pub held : head_held h ≡ true
  pub shape : runs_shaped rs ≡ true
  pub start : Starts t rs
  pub few : length (references_of rs) ≤ 2 ^ 31
  pub numbers : h.first.0 + length (references_of rs) ≤ largest_number
  pub coming : every (λ r. not (passed h (end_of r) 0)) (references_of rs) ≡ true
  pub begun : every (λ r. before_end h r.start.0) (references_of rs) ≡ true
  pub room : length rs ≤ words / 3

module _ (h : Head) (t words : ℕ) (xs : List Run) (x : Run) (ys : List Run) (k : Takeable h t words (xs ++ x ∷ ys))
    (a : agrees (record_of h t xs) (table_of words xs) ≡ true) where
  rec : Record
  rec = record_of h t xs

  ws : List ℕ
  ws = table_of words xs

  more : List Run
  more = xs ++ x ∷ []

  rejoined : xs ++ x ∷ ys ≡ more ++ ys
  unfolding more
  rejoined = sym (append_assoc xs (x ∷ []) ys)

  more_shaped : runs_shaped more ≡ true
  more_shaped = shaped_front more ys (subst (λ rs. runs_shaped rs ≡ true) rejoined k.shape)

  lead : runs_shaped (x ∷ []) ≡ true
  unfolding more
  lead = shaped_last xs x more_shaped

  whole : references_of (xs ++ x ∷ ys) ≡ references_of more ++ references_of ys
  whole = ap references_of rejoined ∙ references_append more ys

  more_are : references_of more ≡ references_of xs ++ references_in x
  unfolding more
  more_are = references_append xs (x ∷ []) ∙ ap (λ rs. references_of xs ++ rs) (references_of_run x)

  -- it starts where those before it end
  joins : x.start.0 ≡ last_end t (references_of xs)
  unfolding references_of repeated
  joins = go x.count (leads x [] lead).some (join_back t (references_of xs) (references_of (x ∷ ys)) all_joined)
    where
      all_joined : EndToStart t (references_of xs ++ references_of (x ∷ ys))
      all_joined = subst (EndToStart t) (references_append xs (x ∷ ys)) (references_join t (xs ++ x ∷ ys) k.shape k.start)

      go : (n : ℕ) → 1 ≤ n → EndToStart (last_end t (references_of xs)) (repeated x.start.0 x.span.0 n ++ references_of ys) → x.start.0 ≡ last_end t (references_of xs)
      go zero l j = let z : ⊥ = omega arith in absurd z
      go (suc n) l j = j.0

  kept_are : kept rec ws ≡ references_of xs
  unfolding rec ws
  kept_are = ap references_of (table_runs words xs)

  given_are : given rec x.span.0 x.count ≡ references_in x
  unfolding rec
  given_are = ap (λ (s : ℕ). repeated s x.span.0 x.count) (sym joins)

  all_are : all_of rec ws x.span.0 x.count ≡ references_of more
  all_are = ap₂ ◌++◌ kept_are given_are ∙ sym more_are

  left_are : unspent_of rec ws x.span.0 x.count ≡ references_of more
  unfolding rec
  left_are =
      ap (unspent h 0) all_are ∙
      unspent_every h 0 (references_of more)
      (every_parts (λ r. not (passed h (end_of r) 0)) (references_of more) (references_of ys) (subst (λ rs. every (λ r. not (passed h (end_of r) 0)) rs ≡ true) whole k.coming)).0

  runs_are : runs_for (unspent_of rec ws x.span.0 x.count) ≡ length more
  runs_are = ap runs_for left_are ∙ ap length (encoded more more_shaped)

  more_long : length more ≤ words / 3
  more_long = omega (arith, ap length rejoined, length-append more ys, k.room)

  words_long : length ws ≡ words
  unfolding ws more
  words_long = table_length_lem words xs (omega (arith, more_long, length-append xs (x ∷ [])))

  count_is : length (references_of xs) + x.count ≡ length (references_of more)
  count_is =
      sym (ap length more_are ∙ length-append (references_of xs) (references_in x) ∙ ap (λ (n : ℕ). length (references_of xs) + n) (repeated_length x.start.0 x.span.0 x.count))

  most : length (references_of more) ≤ length (references_of (xs ++ x ∷ ys))
  most = omega (arith, ap length whole, length-append (references_of more) (references_of ys))

  end_is : last_end t (references_of xs) + x.span.0 * x.count ≡ last_end t (references_of more)
  unfolding more
  end_is = ap (λ (s : ℕ). s + x.span.0 * x.count) (sym joins) ∙ sym (references_end t xs x (leads x [] lead).some)

  pub step_accepted : append_outcome (record_of h t xs) (table_of words xs) Joins x.span.0 x.count ≡ Ok tt
  unfolding rec ws
  step_accepted =
      let l = leads x [] lead in
      stands_joins rec ws Joins x.span.0 x.count a (λ z. let f : ⊥ = omega (arith, l.lasts) in f) (λ z. let f : ⊥ = omega (arith, l.some) in f) refl ∙
      fit_accepted rec ws x.span.0 x.count
      (omega (arith, l.ends, joins))
      (ap₂ ◌&&◌
      (le-leb (length (references_of xs) + x.count) (2 ^ 31) (omega (arith, count_is, most, k.few)))
      (le-leb (h.first.0 + (length (references_of xs) + x.count)) largest_number (omega (arith, count_is, most, k.numbers))))
      (ap (every (λ r. before_end h r.start.0)) given_are ∙
      (every_parts (λ r. before_end h r.start.0) (references_of xs) (references_in x)
      (every_parts (λ r. before_end h r.start.0) (references_of xs ++ references_in x) (references_of ys)
      (subst (λ rs. every (λ r. before_end h r.start.0) rs ≡ true) (whole ∙ ap (λ rs. rs ++ references_of ys) more_are) k.begun)).0).1)
      (subst⁻¹ (λ (n : ℕ). n ≤ capacity ws) runs_are (subst⁻¹ (λ (n : ℕ). length more ≤ n / 3) words_long more_long))

  -- a record with this head that has been read, by what it counts and its next tick
  counted : ℕ → ℕ → ℕ → ℕ → Record
  counted n m e u = record { head = h; accepted = n; dropped = m; next = record { 0 = e }; clock = record { 0 = 0 }; used = u }

  pub step_record : appended (record_of h t xs) (table_of words xs) x.span.0 x.count ≡ record_of h t (xs ++ x ∷ [])
  unfolding rec ws more counted
  step_record =
      let gone : 0 + (length (all_of rec ws x.span.0 x.count) - length (unspent_of rec ws x.span.0 x.count)) ≡ 0 =
      omega (arith, ap length all_are, ap length left_are)
      in
      ◌∙◌ {b = counted (length (references_of xs) + x.count) 0 (last_end t (references_of xs) + x.span.0 * x.count) (length more)}
      (ap₂ (λ (m u : ℕ). counted (length (references_of xs) + x.count) m (last_end t (references_of xs) + x.span.0 * x.count) u) gone runs_are)
      (ap₂ (λ (n e : ℕ). counted n 0 e (length more)) count_is end_is)

  pub step_words : words_keeping (table_of words xs) (unspent_of (record_of h t xs) (table_of words xs) x.span.0 x.count) ≡ table_of words (xs ++ x ∷ [])
  unfolding rec ws more
  step_words = ap₂ (λ (n : ℕ) (rs : List Run). table_of n rs) words_long (ap encode left_are ∙ encoded more more_shaped)
