-- What a writing answers lies within the output.
use Rattle.std.proofs.Common.{◌≡◌, refl, sym, subst, ◌∙◌, ℕ, ◌≤◌, Bool, true, false, cond, List, length, eqb, leb, arith}
use Rattle.std.proofs.lemmas.Bool.{leb-true}
use Rattle.agreement.specs.declared.Record.{Record}
use Rattle.agreement.specs.declared.refusal.Refusal.TheVariants.{Disagreement, NothingKept, ShortOutput}
use Rattle.agreement.specs.Agreement.{agrees}
use Rattle.std.specs.Prelude.{Result, Ok, Err}
use Rattle.agreement.specs.declared.refusal.Refusal.{Refusal}
use Rattle.writing.specs.Writing.{file_for, write_answer}

-- the length in an answer, 0 where nothing is written
abbrev length_in : Result ℕ Refusal → ℕ
length_in (Ok n) = n
length_in (Err why) = 0

answered_within : (rec : Record) (ws : List ℕ) (room : ℕ) → length_in (write_answer rec ws room) ≤ room
unfolding write_answer
answered_within rec ws room = go (agrees rec ws) (eqb rec.used 0) (leb (length (file_for rec ws)) room) refl
  where
    go : (t u v : Bool) → leb (length (file_for rec ws)) room ≡ v →
        length_in (cond t (cond u (Err NothingKept) (cond v (Ok (length (file_for rec ws))) (Err ShortOutput))) (Err Disagreement)) ≤ room
    go false u v e = omega arith
    go true true v e = omega arith
    go true false false e = omega arith
    go true false true e = leb-true (length (file_for rec ws)) room e

pub written_within : (rec : Record) (ws : List ℕ) (room n : ℕ) (w : Result ℕ Refusal) → w ≡ write_answer rec ws room → w ≡ Ok n → n ≤ room
written_within rec ws room n w e k = subst (λ (x : Result ℕ Refusal). length_in x ≤ room) (sym e ∙ k) (answered_within rec ws room)
