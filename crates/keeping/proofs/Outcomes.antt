-- What a call leaves, by its outcome, and what an accepted outcome has passed.
use Rattle.agreement.specs.Numbers.{answer_number}
use mathlib.Core.Path.{◌≡◌, sym, ap, ◌∙◌, refl}
use mathlib.Core.Bool.{Bool, true, false, cond}
use mathlib.Core.List.{List}
use Prim.Native.Nat.{ℕ}
use Rattle.agreement.specs.declared.Record.{Record}
use Rattle.agreement.specs.declared.refusal.Refusal.{Refusal}
use Rattle.agreement.proofs.Numbers.{refusal_some}
use Rattle.std.specs.Prelude.{Err, Ok}
use Rattle.keeping.specs.Keeping.{Outcome}
use Rattle.keeping.specs.declared.Changed.{Changed}
use Rattle.keeping.specs.Keeping.{changed_by, words_by}
use native.Mathlib.Nat.{suc-ne-zero}

module _ (o : Outcome) (new old : Record) where
  -- a refused call answers the record as it came
  pub answer_refused : (why : Refusal) → o ≡ Err why → (z : Record) → z ≡ old → (r : Changed) → r ≡ record { outcome = Err why; rec = z } → r ≡ changed_by o new old
  unfolding changed_by
  answer_refused why e z k r f = f ∙ ap (λ x. record { outcome = Err why; rec = x }) k ∙ sym (ap (λ x. changed_by x new old) e)

  pub answer_accepted : o ≡ Ok tt → (z : Record) → z ≡ new → (r : Changed) → r ≡ record { outcome = Ok tt; rec = z } → r ≡ changed_by o new old
  unfolding changed_by
  answer_accepted e z k r f = f ∙ ap (λ x. record { outcome = Ok tt; rec = x }) k ∙ sym (ap (λ x. changed_by x new old) e)

-- what a refused call answered is what another call that it stops answers
pub answer_stops : (x : Changed) (new : Record) (why : Refusal) → x.outcome ≡ Err why → x ≡ changed_by x.outcome new x.rec
unfolding changed_by
answer_stops x new why e = ap (λ o. record { outcome = o; rec = x.rec }) e ∙ sym (ap (λ o. changed_by o new x.rec) e)

module _ (o : Outcome) (new old : List ℕ) where
  -- and changes no word
  pub words_refused : (why : Refusal) → o ≡ Err why → old ≡ words_by o new old
  unfolding words_by
  words_refused why e = sym (ap (λ x. words_by x new old) e)

  pub words_accepted : o ≡ Ok tt → (z : List ℕ) → z ≡ new → z ≡ words_by o new old
  unfolding words_by
  words_accepted e z k = k ∙ sym (ap (λ x. words_by x new old) e)

-- the outcome beside a record is the outcome
pub outcome_beside : (o : Outcome) (new old : Record) → (changed_by o new old).outcome ≡ o
unfolding changed_by
outcome_beside (Ok _) new old = refl
outcome_beside (Err why) new old = refl

-- ---- one outcome for another

module _ (o other : Outcome) (e : o ≡ other) where
  pub answer_as : (new old : Record) (r : Changed) → r ≡ changed_by other new old → r ≡ changed_by o new old
  answer_as new old r k = k ∙ ap (λ x. changed_by x new old) (sym e)

  pub words_as : (new old vs : List ℕ) → vs ≡ words_by other new old → vs ≡ words_by o new old
  words_as new old vs k = k ∙ ap (λ x. words_by x new old) (sym e)

-- ---- what an accepted call has passed

pub refused_not : (why : Refusal) → ◌≡◌ {A = Outcome} (Err why) (Ok tt) → ⊥
refused_not why e = let z : ◌≡◌ {A = ℕ} 0 1 = cc in suc-ne-zero 0 (sym z)

pub number_accepted : (o : Outcome) → answer_number o ≡ 0 → o ≡ Ok tt
number_accepted (Ok _) e = refl
number_accepted (Err why) e = absurd (refusal_some why e)

-- past a test that refuses where it fails, and past one that refuses where it passes
pub past_if : (b : Bool) (x : Outcome) (why : Refusal) → cond b x (Err why) ≡ Ok tt → (b ≡ true) × (x ≡ Ok tt)
past_if true x why e = (refl, e)
past_if false x why e = absurd (refused_not why e)

pub past_unless : (b : Bool) (x : Outcome) (why : Refusal) → cond b (Err why) x ≡ Ok tt → (b ≡ false) × (x ≡ Ok tt)
past_unless true x why e = absurd (refused_not why e)
past_unless false x why e = (refl, e)
