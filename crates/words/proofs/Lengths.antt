-- The lengths: what the record that lent words mean, or the refusal for a length, says of the number that a call is guarded by.
use mathlib.Core.Path.{◌≡◌, refl, sym, ap, ◌∙◌}
use mathlib.Core.Bool.{Bool, true, false, cond}
use mathlib.Core.List.{List}
use Prim.Native.Nat.{ℕ}
use borrow.Author.Tests.{eqb-true, eq-eqb}
use lib.Dec.{eqb}
use lib.ListN.{length}
use Rattle.std.specs.Prelude.{Result, Ok, Err}
use Rattle.agreement.specs.declared.Record.{Record}
use Rattle.agreement.specs.declared.refusal.Refusal.{Refusal}
use Rattle.agreement.specs.declared.refusal.Refusal.TheVariants.{Disagreement, ShortOutput}
use Rattle.agreement.specs.Numbers.{refusal_number}
use Rattle.words.specs.Words.{record_words, record_of}
use Rattle.words.specs.Lengths.{wrong_record, wrong_length, record_in, record_beside}

-- right lengths give the record that the words mean, and wrong ones the refusal that has the number
pub record Guards (r : Result Record Refusal) (wrong : ℕ) (ws : List ℕ) : Type 0 where
  pub right : (rec : Record) → r ≡ Ok rec → (rec ≡ record_of ws) × (length ws ≡ record_words) × (0 ≡ wrong)
  pub stopped : (why : Refusal) → r ≡ Err why → refusal_number why ≡ wrong

pub guards_in : (ws : List ℕ) → Guards (record_in ws) (wrong_record (length ws)) ws
unfolding record_in wrong_record
guards_in ws = go (eqb (length ws) record_words) refl
  where
    go : (t : Bool) → eqb (length ws) record_words ≡ t → Guards (cond t (Ok (record_of ws)) (Err Disagreement)) (cond t 0 (refusal_number Disagreement)) ws
    go true e = record { right = λ rec k. (cc, eqb-true (length ws) record_words e, refl); stopped = λ why k. cc }
    go false e = record { right = λ rec k. cc; stopped = λ why k. cc }

pub guards_beside : (ws : List ℕ) (out size : ℕ) → Guards (record_beside ws out size) (wrong_length (length ws) out size) ws
unfolding record_beside wrong_length
guards_beside ws out size = go (eqb (length ws) record_words) refl (eqb out size)
  where
    go : (t : Bool) → eqb (length ws) record_words ≡ t → (u : Bool) →
        Guards (cond t (cond u (Ok (record_of ws)) (Err ShortOutput)) (Err Disagreement)) (cond t (cond u 0 (refusal_number ShortOutput)) (refusal_number Disagreement)) ws
    go true e true = record { right = λ rec k. (cc, eqb-true (length ws) record_words e, refl); stopped = λ why k. cc }
    go true e false = record { right = λ rec k. cc; stopped = λ why k. cc }
    go false e u = record { right = λ rec k. cc; stopped = λ why k. cc }

-- and out has its size
pub beside_size : (ws : List ℕ) (out size : ℕ) (rec : Record) → record_beside ws out size ≡ Ok rec → out ≡ size
unfolding record_beside
beside_size ws out size rec k = go (eqb (length ws) record_words) (eqb out size) refl k
  where
    go : (t u : Bool) → eqb out size ≡ u → cond t (cond u (Ok (record_of ws)) (Err ShortOutput)) (Err Disagreement) ≡ Ok rec → out ≡ size
    go true true e k = eqb-true out size e
    go true false e k = cc
    go false u e k = cc

-- right lengths are guarded by 0
pub both_right : (l m size : ℕ) → l ≡ record_words → m ≡ size → 0 ≡ wrong_length l m size
unfolding wrong_length
both_right l m size e f = sym (ap (λ t. cond t (cond (eqb m size) 0 15) 2) (eq-eqb l record_words e) ∙ ap (λ t. cond t 0 15) (eq-eqb m size f))
