-- The constructors refuse exactly when, and the calls with the number of the constructor that refuses.
use Prim.Native.Nat.{ℕ, ◌≤◌}
use mathlib.Core.Path.{◌≡◌, refl, sym, ap, ap₂, ◌∙◌}
use mathlib.Core.Bool.{Bool, true, false, cond, not, ◌&&◌, ◌||◌}
use mathlib.Core.List.{List, [], ◌∷◌}
use borrow.Author.Tests.{eqb-true, le-ltb}
use lib.Dec.{eqb, leb, ltb}
use Rattle.units.specs.declared.WideTick.{WideTick}
use Rattle.units.specs.declared.WideMillis.{WideMillis}
use Rattle.units.specs.declared.WideNumber.{WideNumber}
use Rattle.std.specs.Prelude.{Err, None, Ok, Some}
use Rattle.keeping.specs.Keeping.{Outcome}
use Rattle.units.specs.declared.standing.Standing.{Standing}
use Rattle.units.specs.declared.standing.Standing.TheVariants.{Joins, Gap, Overlap}
use Rattle.units.specs.Limits.{largest_tick, largest_millis, largest_timescale, largest_span, largest_number, tick_made, millis_made, timescale_made, span_made, number_made, tick_of}
use Rattle.units.specs.Limits.{tick_held, millis_held, timescale_held, number_held}
use Rattle.units.specs.Limits.{tick_number, millis_number, clock_number, timescale_number, span_number, first_number, asked_number}
use Rattle.units.specs.Standing.{standing_number}
use Rattle.window.specs.declared.HeadFields.{HeadFields}
use Rattle.window.specs.Limits.{head_held, head_of, head_made, head_number}
use Rattle.agreement.specs.declared.Record.{Record}
use Rattle.agreement.specs.declared.refusal.Refusal.TheVariants as refusal
use Rattle.agreement.specs.Agreement.{agrees}
use Rattle.agreement.specs.Numbers.{answer_number}
use Rattle.keeping.specs.Append.{fit_outcome}
use Rattle.keeping.proofs.Outcomes.{outcome_beside as told}
use Rattle.timeline.specs.Opening.{open_outcome, open_answer}
use Rattle.timeline.specs.Appending.{unjoined◌else◌, append_outcome, append_answer}
use Rattle.timeline.specs.Trimming.{trim_answer}
use Rattle.timeline.specs.Pair.{pair_outcome, pair_answer}
use Rattle.answers.specs.Judgement.{verdict_at}
use Rattle.lookups.specs.Available.{kept_number, number_availability, number_available, availability_in, available_in}
use Rattle.lookups.proofs.Numbering.{number_over}
use Rattle.laws.specs.Refusals.{lowest}
use Rattle.laws.specs.Constructors.{Constructors, first_refusal, disagreement}
use Rattle.laws.proofs.Rows.{over, none}
use Rattle.laws.proofs.Refusals.{refusals}

-- ---- one constructor

ticks : (n : ℕ) → tick_number (tick_made n) ≡ lowest ((ltb largest_tick n, 1) ∷ [])
ticks n = by (leb n largest_tick) ∙ ap (λ b. lowest ((b, 1) ∷ [])) (over n largest_tick).is
  where
    by : (b : Bool) → tick_number (cond b (Some (record { 0 = n })) None) ≡ cond (not b) 1 0
    by true = refl
    by false = refl

timescales : (n : ℕ) → timescale_number (timescale_made n) ≡ lowest ((eqb n 0, 1) ∷ (ltb largest_timescale n, 1) ∷ [])
timescales n =
    by (leb 1 n) (leb n largest_timescale) ∙ ap₂ (λ a b. lowest ((a, 1) ∷ (b, 1) ∷ [])) (none n).is (over n largest_timescale).is
  where
    by : (a b : Bool) → timescale_number (cond (a && b) (Some (record { 0 = n })) None) ≡ cond (not a) 1 (cond (not b) 1 0)
    by true true = refl
    by true false = refl
    by false b = refl

heads : (n : ℕ) → millis_number (millis_made n) ≡ lowest ((ltb largest_millis n, 1) ∷ [])
heads n = by (leb n largest_millis) ∙ ap (λ b. lowest ((b, 1) ∷ [])) (over n largest_millis).is
  where
    by : (b : Bool) → millis_number (cond b (Some (record { 0 = n })) None) ≡ cond (not b) 1 0
    by true = refl
    by false = refl

clocks : (n : ℕ) → clock_number (millis_made n) ≡ lowest ((ltb largest_millis n, 10) ∷ [])
clocks n = by (leb n largest_millis) ∙ ap (λ b. lowest ((b, 10) ∷ [])) (over n largest_millis).is
  where
    by : (b : Bool) → clock_number (cond b (Some (record { 0 = n })) None) ≡ cond (not b) 10 0
    by true = refl
    by false = refl

spans : (n : ℕ) → span_number (span_made n) ≡ lowest ((eqb n 0, 3) ∷ (ltb largest_span n, 3) ∷ [])
spans n = by (leb 1 n) (leb n largest_span) ∙ ap₂ (λ a b. lowest ((a, 3) ∷ (b, 3) ∷ [])) (none n).is (over n largest_span).is
  where
    by : (a b : Bool) → span_number (cond (a && b) (Some (record { 0 = n })) None) ≡ cond (not a) 3 (cond (not b) 3 0)
    by true true = refl
    by true false = refl
    by false b = refl

firsts : (n : ℕ) → first_number (number_made n) ≡ lowest ((ltb largest_number n, 1) ∷ [])
firsts n = by (leb n largest_number) ∙ ap (λ b. lowest ((b, 1) ∷ [])) (over n largest_number).is
  where
    by : (b : Bool) → first_number (cond b (Some (record { 0 = n })) None) ≡ cond (not b) 1 0
    by true = refl
    by false = refl

numbers : (n : ℕ) → asked_number (number_made n) ≡ lowest ((ltb largest_number n, 13) ∷ [])
numbers n = by (leb n largest_number) ∙ ap (λ b. lowest ((b, 13) ∷ [])) (over n largest_number).is
  where
    by : (b : Bool) → asked_number (cond b (Some (record { 0 = n })) None) ≡ cond (not b) 13 0
    by true = refl
    by false = refl

-- ---- a head and an opening

fields : (f : HeadFields) →
    head_number (head_made f) ≡
    first_refusal
    (timescale_number (timescale_made f.timescale) ∷ tick_number (tick_made f.offset) ∷ millis_number (millis_made f.start) ∷ millis_number (millis_made f.duration) ∷ millis_number (millis_made f.depth) ∷ first_number (number_made f.first) ∷ millis_number (millis_made f.update) ∷ [])
fields f =
    by (timescale_held (head_of f).timescale) (tick_held (head_of f).offset) (millis_held (head_of f).start) (millis_held (head_of f).duration) (millis_held (head_of f).depth)
    (number_held (head_of f).first) (millis_held (head_of f).update)
  where
    by : (t o s d p n u : Bool) →
        head_number (cond (t && o && s && d && p && n && u) (Some (head_of f)) None) ≡
        first_refusal
        (timescale_number (cond t (Some (head_of f).timescale) None) ∷
        tick_number (cond o (Some (head_of f).offset) None) ∷
        millis_number (cond s (Some (head_of f).start) None) ∷
        millis_number (cond d (Some (head_of f).duration) None) ∷
        millis_number (cond p (Some (head_of f).depth) None) ∷
        first_number (cond n (Some (head_of f).first) None) ∷
        millis_number (cond u (Some (head_of f).update) None) ∷
        [])
    by false o s d p n u = refl
    by true false s d p n u = refl
    by true true false d p n u = refl
    by true true true false p n u = refl
    by true true true true false n u = refl
    by true true true true true false u = refl
    by true true true true true true false = refl
    by true true true true true true true = refl

opens : (f : HeadFields) (t : WideTick) →
    answer_number (open_answer (head_of f) (tick_of t)).outcome ≡ first_refusal (head_number (head_made f) ∷ tick_number (tick_made t.0) ∷ [])
unfolding open_outcome
opens f t = ap answer_number (told (open_outcome (head_of f) (tick_of t)) _ _) ∙ by (head_held (head_of f)) (tick_held (tick_of t))
  where
    by : (b c : Bool) → answer_number (cond {A = Outcome} (b && c) (Ok tt) (Err refusal.OverLimit)) ≡
        first_refusal (head_number (cond b (Some (head_of f)) None) ∷ tick_number (cond c (Some (tick_of t)) None) ∷ [])
    by true true = refl
    by true false = refl
    by false c = refl

-- ---- an append

-- the last number is the first that refuses, or 0
last : (n : ℕ) → n ≡ first_refusal (n ∷ [])
last n = go (eqb n 0) refl
  where
    go : (t : Bool) → eqb n 0 ≡ t → n ≡ cond t 0 n
    go true e = eqb-true n 0 e
    go false e = refl

appends : (rec : Record) (ws : List ℕ) (st : Standing) (d n : ℕ) → d ≤ largest_span →
    answer_number (append_answer rec ws st d n).outcome ≡
    first_refusal (disagreement rec ws ∷ span_number (span_made d) ∷ cond (eqb n 0) 3 0 ∷ standing_number st ∷ answer_number (fit_outcome rec ws d n) ∷ [])
unfolding append_outcome
appends rec ws st d n l =
    ap answer_number (told (append_outcome rec ws st d n) _ _) ∙
    by (agrees rec ws) (eqb d 0) (eqb n 0) st (fit_outcome rec ws d n) ∙
    ap (λ (k : ℕ). first_refusal (disagreement rec ws ∷ k ∷ cond (eqb n 0) 3 0 ∷ standing_number st ∷ answer_number (fit_outcome rec ws d n) ∷ []))
    (sym (spans d ∙ ap (λ b. lowest ((eqb d 0, 3) ∷ (b, 3) ∷ [])) (le-ltb largest_span d l)))
  where
    by : (a y z : Bool) (st : Standing) (o : Outcome) →
        answer_number (cond a (cond (y || z) (Err refusal.NothingGiven) (unjoined st else o)) (Err refusal.Disagreement)) ≡
        first_refusal (cond a 0 2 ∷ cond y 3 0 ∷ cond z 3 0 ∷ standing_number st ∷ answer_number o ∷ [])
    by false y z st o = refl
    by true true z st o = refl
    by true false true st o = refl
    by true false false Joins o = last (answer_number o)
    by true false false (Gap d) o = refl
    by true false false (Overlap d) o = refl

-- ---- at a clock

pairs : (rec : Record) (ws : List ℕ) (st : Standing) (d n : ℕ) (c : WideMillis) → d ≤ largest_span →
    answer_number (pair_answer rec ws st d n c).outcome ≡
    first_refusal
    (disagreement rec ws ∷ clock_number (millis_made c.0) ∷ span_number (span_made d) ∷ cond (eqb n 0) 3 0 ∷ standing_number st ∷
    answer_number (fit_outcome rec ws d n) ∷ [])
unfolding pair_outcome
pairs rec ws st d n c l = ap answer_number (told (pair_outcome rec ws st d n c) _ _) ∙ go (agrees rec ws) refl (leb c.0 largest_millis)
  where
    rest : List ℕ
    rest = span_number (span_made d) ∷ cond (eqb n 0) 3 0 ∷ standing_number st ∷ answer_number (fit_outcome rec ws d n) ∷ []

    go : (a : Bool) → agrees rec ws ≡ a → (b : Bool) →
        answer_number (cond a (cond b (append_outcome rec ws st d n) (Err refusal.ClockLimit)) (Err refusal.Disagreement)) ≡
        first_refusal (cond a 0 2 ∷ clock_number (cond b (Some (record { 0 = c.0 })) None) ∷ rest)
    go false e b = refl
    go true e false = refl
    go true e true =
        sym (ap answer_number (told (append_outcome rec ws st d n) _ _)) ∙ appends rec ws st d n l ∙ ap (λ a. first_refusal (cond a 0 2 ∷ rest)) e

trims : (rec : Record) (ws : List ℕ) (c : WideMillis) →
    answer_number (trim_answer rec ws c).outcome ≡ first_refusal (disagreement rec ws ∷ clock_number (millis_made c.0) ∷ [])
trims rec ws c =
    refusals.trim rec ws c ∙
    by (agrees rec ws) (ltb largest_millis c.0) ∙
    ap (λ (n : ℕ). first_refusal (disagreement rec ws ∷ n ∷ [])) (sym (clocks c.0))
  where
    by : (a b : Bool) → lowest ((not a, 2) ∷ (b, 10) ∷ []) ≡ first_refusal (cond a 0 2 ∷ cond b 10 0 ∷ [])
    by false b = refl
    by true true = refl
    by true false = refl

verdicts : (rec : Record) (ws : List ℕ) (c : WideMillis) →
    answer_number (verdict_at rec ws c) ≡ first_refusal (disagreement rec ws ∷ clock_number (millis_made c.0) ∷ cond (ltb c.0 rec.clock.0) 11 0 ∷ [])
verdicts rec ws c =
    refusals.verdict rec ws c ∙
    by (agrees rec ws) (ltb largest_millis c.0) (ltb c.0 rec.clock.0) ∙
    ap (λ (n : ℕ). first_refusal (disagreement rec ws ∷ n ∷ cond (ltb c.0 rec.clock.0) 11 0 ∷ [])) (sym (clocks c.0))
  where
    by : (a b e : Bool) → lowest ((not a, 2) ∷ (b, 10) ∷ (e, 11) ∷ []) ≡ first_refusal (cond a 0 2 ∷ cond b 10 0 ∷ cond e 11 0 ∷ [])
    by false b e = refl
    by true true e = refl
    by true false true = refl
    by true false false = refl

-- ---- of a number that is refused

module _ (rec : Record) (ws : List ℕ) (n : WideNumber) (k : number_made n.0 ≡ None) where
  missing : agrees rec ws ≡ true → kept_number rec ws n.0 ≡ None
  missing a = sym (number_over rec ws a n.0 (number_made n.0) refl k)

  availabilities : answer_number (availability_in rec ws n) ≡ first_refusal (disagreement rec ws ∷ asked_number (number_made n.0) ∷ [])
  availabilities = go (agrees rec ws) refl ∙ ap (λ (m : ℕ). first_refusal (disagreement rec ws ∷ m ∷ [])) (sym (ap asked_number k))
    where
      go : (a : Bool) → agrees rec ws ≡ a →
          answer_number (cond a (number_availability rec.head (kept_number rec ws n.0)) (Err refusal.Disagreement)) ≡ first_refusal (cond a 0 2 ∷ 13 ∷ [])
      go true e = ap (λ x. answer_number (number_availability rec.head x)) (missing e)
      go false e = refl

  availables : (c : WideMillis) →
      answer_number (available_in rec ws n c) ≡ first_refusal (disagreement rec ws ∷ clock_number (millis_made c.0) ∷ asked_number (number_made n.0) ∷ [])
  availables c =
      go (agrees rec ws) refl (leb c.0 largest_millis) ∙
      ap (λ (m : ℕ). first_refusal (disagreement rec ws ∷ clock_number (millis_made c.0) ∷ m ∷ [])) (sym (ap asked_number k))
    where
      go : (a : Bool) → agrees rec ws ≡ a → (l : Bool) →
          answer_number
          (cond a (cond l (number_available rec.head c.0 (kept_number rec ws n.0)) (Err refusal.ClockLimit)) (Err refusal.Disagreement)) ≡
          first_refusal (cond a 0 2 ∷ clock_number (cond l (Some (record { 0 = c.0 })) None) ∷ 13 ∷ [])
      go true e true = ap (λ x. answer_number (number_available rec.head c.0 x)) (missing e)
      go true e false = refl
      go false e l = refl

pub constructors : Constructors
constructors =
    record {
      tick = ticks;
      timescale = timescales;
      millis = heads;
      clock = clocks;
      span = spans;
      first = firsts;
      number = numbers;
      head = fields;
      opening = opens;
      append = appends;
      append_trim = pairs;
      trim = trims;
      verdict = verdicts;
      availability = availabilities;
      available_at = λ rec ws n c k. availables rec ws n k c;
    }
