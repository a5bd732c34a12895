-- Texts put into an output one behind the other: a text put behind another puts both.
use mathlib.Core.Path.{◌≡◌, sym, ap, ap₂, subst, ◌∙◌}
use mathlib.Core.List.{List, ◌++◌, append_assoc}
use Prim.Native.Nat.{ℕ, ◌+◌}
use native.Mathlib.Omega.{arith}
use lib.ListN.{length, take, drop, length-append}
use lib.Seq.{length_paste_head, take_at, drop_at, take_all, drop-drop}
use Rattle.wording.specs.Placing.{Put}

module _ {out : List ℕ} {at : ℕ} {s out₁ : List ℕ} {n : ℕ} (p : Put out at s out₁ n) where
  front_long : length (take at out ++ s) ≡ n
  front_long =
      ap (λ (r : List ℕ). length (take at out ++ r)) (sym (take_all (length s) s (omega arith))) ∙
      length_paste_head out at s (length s) (omega (arith, p.place, p.room)) (omega arith) ∙
      sym p.place

  pub put_put : {t out₂ : List ℕ} {m : ℕ} → Put out₁ n t out₂ m → Put out at (s ++ t) out₂ m
  put_put {t} {out₂} {m} q =
      let further : m ≡ n + length t = q.place in
      record {
        place = omega (arith, p.place, length-append s t);
        room = omega (arith, q.room, p.long);
        long = q.long ∙ p.long;
        bytes =
            q.bytes ∙
            ap₂ (λ (f r : List ℕ). f ++ t ++ r)
            (ap (take n) p.bytes ∙ take_at (take at out ++ s) (drop n out) n front_long)
            (ap (drop m) p.bytes ∙
            ap (λ (k : ℕ). drop k ((take at out ++ s) ++ drop n out)) further ∙
            sym (drop-drop (length t) n ((take at out ++ s) ++ drop n out)) ∙
            ap (drop (length t)) (drop_at (take at out ++ s) (drop n out) n front_long) ∙
            drop-drop (length t) n out ∙
            ap (λ (k : ℕ). drop k out) (sym further)) ∙
            ap (λ (f : List ℕ). f ++ drop m out) (append_assoc (take at out) s t);
      }

-- a text put is any equal text put
pub put_as : {out : List ℕ} {at : ℕ} {s t after : List ℕ} {n : ℕ} → s ≡ t → Put out at s after n → Put out at t after n
put_as {out} {at} {s} {t} {after} {n} e p = subst (λ (x : List ℕ). Put out at x after n) e p
