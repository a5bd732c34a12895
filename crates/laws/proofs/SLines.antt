-- An S line, judged by the reader: it is taken exactly where no row holds, and then it leaves what its append leaves; else the first row tells why.
use mathlib.Core.Path.{◌≡◌, refl, sym, ap, ap₂, subst, ◌∙◌}
use mathlib.Core.Bool.{Bool, true, false, cond}
use mathlib.Core.List.{List}
use Prim.Native.Nat.{ℕ, ◌+◌, ◌-◌, ◌≤◌}
use native.Mathlib.Omega.{arith}
use borrow.Author.Tests.{leb-true, leb-false, lt-ltb, le-ltb, eq-eqb, eqb-false}
use lib.Dec.{eqb, ltb}
use lib.ListN.{length}
use Rattle.units.specs.declared.WideTick.{WideTick}
use Rattle.units.specs.declared.Tick.{Tick}
use Rattle.units.specs.declared.standing.Standing.{Standing}
use Rattle.units.specs.declared.standing.Standing.TheVariants.{Joins}
use Rattle.units.specs.Limits.{largest_span, tick_of}
use Rattle.units.specs.Standing.{standing_by, tick_standing}
use Rattle.runs.proofs.Tables.{canonical_length}
use Rattle.agreement.specs.declared.refusal.Refusal.{Refusal}
use Rattle.agreement.specs.Agreement.{agrees}
use Rattle.agreement.specs.Numbers.{refusal_number, answer_number}
use Rattle.std.specs.Prelude.{Err, Ok}
use Rattle.keeping.specs.Keeping.{Outcome}
use Rattle.keeping.specs.Keeping.{words_keeping, changed_by, words_by}
use Rattle.keeping.specs.Append.{unspent_of, appended}
use Rattle.keeping.proofs.Outcomes.{outcome_beside as told}
use Rattle.timeline.specs.Appending.{append_outcome}
use Rattle.timeline.proofs.Kept.{taken, accepted_keeps}
use Rattle.frames.specs.Fields.{all_ones}
use Rattle.frames.specs.declared.SFields.{SFields}
use Rattle.file.specs.declared.Stage.{Stage}
use Rattle.file.specs.declared.Stage.TheVariants.{Open, Filled, Refused}
use Rattle.file.specs.declared.Reading.{Reading}
use Rattle.file.specs.Least.{least_count}
use Rattle.file.proofs.Counts.{least_holds}
use Rattle.file.specs.Judging.{File, settled_reading, first_tick, later_standing, first_negative, reach_outcome, appended_by, reaches_by, take_s}
use Rattle.laws.specs.Calls.{State, by_tick, after}
use Rattle.laws.specs.Refusals.{lowest, append_rows}
use Rattle.laws.specs.Lines.{start_of, opening_tick, negative, count_of, call_of, reach_rows, appended_rows}
use Rattle.laws.proofs.Changing.{append}
use Rattle.laws.proofs.Distances.{Told, tick_far, append_told, reach_told}
use Rattle.laws.proofs.Reach.{reach_number}
use Rattle.laws.proofs.NoRow.{Reaches, reach_only}

-- ---- where it starts

-- a t that is absent joins
pub later_stands : (s : SFields) (next : Tick) → later_standing s.t next ≡ tick_standing (record { 0 = start_of next.0 s }) next
later_stands s next = go (eqb s.t.0 all_ones)
  where
    go : (b : Bool) → cond b Joins (tick_standing s.t next) ≡ tick_standing (record { 0 = cond b next.0 s.t.0 }) next
    go true = sym (ap (λ b. standing_by b (ltb next.0 next.0) (next.0 - next.0) (next.0 - next.0)) (eq-eqb next.0 next.0 refl))
    go false = refl

pub first_is : (s : SFields) → tick_of (first_tick s.t) ≡ opening_tick s
first_is s = go (eqb s.t.0 all_ones)
  where
    go : (b : Bool) → ◌≡◌ {A = Tick} (tick_of (cond b (record { 0 = 0 }) s.t)) (record { 0 = cond b 0 s.t.0 })
    go true = refl
    go false = refl

-- the first S joins the timeline that it opens
pub first_stands : (s : SFields) → Joins ≡ tick_standing (record { 0 = start_of (opening_tick s).0 s }) (opening_tick s)
first_stands s = go (eqb s.t.0 all_ones)
  where
    same : (n : ℕ) → Joins ≡ tick_standing (record { 0 = n }) (record { 0 = n })
    same n = sym (ap (λ b. standing_by b (ltb n n) (n - n) (n - n)) (eq-eqb n n refl))

    go : (b : Bool) → Joins ≡ tick_standing (record { 0 = cond b (cond b 0 s.t.0) s.t.0 }) (record { 0 = cond b 0 s.t.0 })
    go true = same 0
    go false = same s.t.0

-- ---- one line

-- what taking an S line comes to, where so many lines were taken before
pub data Taken (x : State) (s : SFields) (n : ℕ) (z : File) : Type 0 where
  on : lowest (appended_rows x s) ≡ 0 →
      z ≡ record { reading = record { stage = cond (negative s) Filled Open; lines = n + 1; rec = (after x (call_of x s)).rec }; words = (after x (call_of x s)).words } →
      agrees (after x (call_of x s)).rec (after x (call_of x s)).words ≡ true → length (after x (call_of x s)).words ≡ length x.words → Taken x s n z
  off : (why : Refusal) → z.reading.stage ≡ Refused why → z.reading.lines ≡ n → lowest (appended_rows x s) ≡ refusal_number why →
      Told (Err why) (start_of x.rec.next.0 s - x.rec.next.0) (x.rec.next.0 - start_of x.rec.next.0 s) → Taken x s n z

module _ (x : State) (s : SFields) (n : ℕ) (st : Stage) (agreed : agrees x.rec x.words ≡ true) (narrow : s.d ≤ largest_span) where
  abbrev start : WideTick
  start = record { 0 = start_of x.rec.next.0 s }

  abbrev standing : Standing
  standing = tick_standing start x.rec.next

  abbrev before : Reading
  before = record { stage = st; lines = n; rec = x.rec }

  -- what is left where m references are appended
  left_is : (m : ℕ) → append_outcome x.rec x.words standing s.d m ≡ Ok tt →
      after x (by_tick start s.d m) ≡
      record { rec = appended x.rec x.words s.d m; words = words_keeping x.words (unspent_of x.rec x.words s.d m) }
  unfolding changed_by words_by
  left_is m e =
      ap
      (λ o. record {
        rec = (changed_by o (appended x.rec x.words s.d m) x.rec).rec;
        words = words_by o (words_keeping x.words (unspent_of x.rec x.words s.d m)) x.words;
      })
      e

  -- by an outcome that is the rows', with m references of which the append is accepted where that is
  by_outcome : (o : Outcome) (goal : Stage) (m : ℕ) → lowest (appended_rows x s) ≡ answer_number o → Told o (start.0 - x.rec.next.0) (x.rec.next.0 - start.0) →
      cond (negative s) Filled Open ≡ goal →
      (o ≡ Ok tt → (count_of x s ≡ m) × (append_outcome x.rec x.words standing s.d m ≡ Ok tt)) →
      Taken x s n (appended_by o goal before x.words s.d m)
  unfolding settled_reading words_by
  by_outcome (Ok _) goal m e t g f =
      let d = s.d in
      let o = (f refl).1 in
      let is : after x (call_of x s) ≡ record { rec = appended x.rec x.words d m; words = words_keeping x.words (unspent_of x.rec x.words d m) } =
      ap (λ (k : ℕ). after x (by_tick start d k)) (f refl).0 ∙ left_is m o
      in
      on e
      (ap₂ (λ (u : Stage) (y : State). record { reading = record { stage = u; lines = n + 1; rec = y.rec }; words = y.words }) (sym g) (sym is))
      (ap (λ (y : State). agrees y.rec y.words) is ∙ accepted_keeps x.rec x.words standing d m narrow o)
      (ap (λ (y : State). length y.words) is ∙
      canonical_length (length x.words) (unspent_of x.rec x.words d m) (taken x.rec x.words standing d m o).room)
  by_outcome (Err why) goal m e t g f = off why refl refl e t

  -- the rows by the sign of r, with the count that goes with it
  abbrev count_by : Bool → ℕ
  count_by b = cond b (least_count x.rec.head x.rec.next.0 s.d) (s.r + 1)

  abbrev rows_by : Bool → List (Bool × ℕ)
  rows_by b =
      cond b (reach_rows x start.0 s.d (count_by b))
      (append_rows x.rec x.words (ltb x.rec.next.0 start.0) (ltb start.0 x.rec.next.0) s.d (count_by b))

  -- the count that the reader looks for
  abbrev searched : ℕ
  searched = least_count x.rec.head x.rec.next.0 s.d

  plain_number : negative s ≡ false → lowest (appended_rows x s) ≡ answer_number (append_outcome x.rec x.words standing s.d (s.r + 1))
  plain_number e =
      ap (λ b. lowest (rows_by b)) e ∙
      sym (append x.rec x.words s.d (s.r + 1) narrow start) ∙
      ap answer_number (told (append_outcome x.rec x.words standing s.d (s.r + 1)) _ _)

  module _ (e : negative s ≡ true) where
    negative_number : lowest (appended_rows x s) ≡ answer_number (reach_outcome x.rec x.words standing s.d searched)
    negative_number = ap (λ b. lowest (rows_by b)) e ∙ sym (reach_number x start s.d agreed narrow)

    -- accepted, it is an append of the count that the rows have
    negative_taken : reach_outcome x.rec x.words standing s.d searched ≡ Ok tt →
        (count_of x s ≡ searched) × (append_outcome x.rec x.words standing s.d searched ≡ Ok tt)
    negative_taken o = (ap count_by e, sym (told (append_outcome x.rec x.words standing s.d searched) _ _) ∙ passed.taken)
      where
        passed : Reaches x start s.d searched agreed narrow
        passed =
            reach_only x start s.d searched agreed narrow
            (λ z. (least_holds x.rec.head x.rec.next.0 s.d (omega (arith, eqb-false s.d 0 z))).some)
            (sym (reach_number x start s.d agreed narrow) ∙ ap answer_number o)

  -- the line by the sign of r
  by_sign : (c : Bool) → ltb s.r first_negative ≡ c →
      cond c (appended_by (append_outcome x.rec x.words standing s.d (s.r + 1)) Open before x.words s.d (s.r + 1))
      (appended_by (reach_outcome x.rec x.words standing s.d searched) Filled before x.words s.d searched) ≡
      take_s before x.words standing s
  unfolding take_s reaches_by
  by_sign c e =
      ap
      (λ b. cond b (appended_by (append_outcome x.rec x.words standing s.d (s.r + 1)) Open before x.words s.d (s.r + 1))
      (appended_by (reach_outcome x.rec x.words standing s.d searched) Filled before x.words s.d searched))
      (sym e)

  pub s_taken : Taken x s n (take_s before x.words standing s)
  s_taken = go (negative s) refl
    where
      go : (b : Bool) → negative s ≡ b → Taken x s n (take_s before x.words standing s)
      go false e =
          subst (Taken x s n) (by_sign true (lt-ltb s.r first_negative (leb-false first_negative s.r e)))
          (by_outcome (append_outcome x.rec x.words standing s.d (s.r + 1)) Open (s.r + 1) (plain_number e)
          (append_told _ _ x.rec x.words standing s.d (s.r + 1) (tick_far start x.rec.next)) (ap (λ b. cond b Filled Open) e)
          (λ o. (ap count_by e, o)))
      go true e =
          subst (Taken x s n) (by_sign false (le-ltb s.r first_negative (leb-true first_negative s.r e)))
          (by_outcome (reach_outcome x.rec x.words standing s.d searched) Filled searched (negative_number e)
          (reach_told _ _ x.rec x.words standing s.d searched (tick_far start x.rec.next)) (ap (λ b. cond b Filled Open) e)
          (negative_taken e))
