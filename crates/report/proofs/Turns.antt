-- The loop of reads: at each turn desk and table stand where some pieces brought them, whose bytes are those that a reader of known bytes has given. What is
-- told in the end.
use mathlib.Core.Path.{◌≡◌, refl, sym, ap, ap₂, subst, ◌∙◌}
use mathlib.Core.Bool.{Bool, true}
use mathlib.Core.List.{List, [], ◌∷◌, ◌++◌, flatten as all_bytes, append_assoc, append-nil}
use Prim.Native.Nat.{ℕ, ◌≤◌}
use native.Mathlib.Omega.{arith}
use lib.ListN.{length, take, drop, length-append}
use lib.Seq.{take_at}
use Rattle.std.specs.Prelude.{None, Some, IfSome, Result, Ok, Err, OnErr}
use Rattle.std.specs.declared.option.Option.{Option}
use Rattle.std.specs.Io.KnownBytes.{Consumes, IsAtEnd}
use Rattle.wording.specs.Text.{text_of, over}
use Rattle.report.specs.declared.Desk.{Desk}
use Rattle.report.specs.declared.Stopped.{Stopped}
use Rattle.report.specs.declared.Stopped.TheVariants.{Ended, Settled}
use Rattle.report.specs.declared.Fed.{Fed}
use Rattle.report.specs.Answer.{table_length, answer}
use Rattle.report.specs.Feeding.{DeskAndTable, begun_desk, fed, reply_by, fed_all}
use Rattle.report.specs.Settled.{settled}
use Rattle.report.specs.Running.{Brought, Reads, ReadsKnown, Left, Tells, Answered, AnswersKnown}
use Rattle.report.proofs.Pieces.{any_pieces}
use Rattle.report.proofs.Settling.{any_more}

-- ---- why reads stop

ended_settled : Ended ≡ Settled → ⊥
ended_settled e = let z : ◌≡◌ {A = ℕ} 0 1 = cc in omega arith

settled_ended : Settled ≡ Ended → ⊥
settled_ended e = ended_settled (sym e)

-- ---- some pieces, and one more

fed_last : (s : DeskAndTable) (pieces : List (List ℕ)) (piece : List ℕ) →
    fed_all s (pieces ++ piece ∷ []) ≡ fed (fed_all s pieces).desk (fed_all s pieces).words piece
unfolding fed_all
fed_last s [] piece = refl
fed_last s (p ∷ ps) piece = fed_last (fed s.desk s.words p) ps piece

pub brought_none : (came : List ℕ) (d : Desk) → d ≡ begun_desk → Brought came d came
unfolding fed_all
brought_none came d e = record { pieces = []; so = ap (λ (x : Desk). record { desk = x; words = came }) e }

pub brought_more : (came : List ℕ) (d : Desk) (ws : List ℕ) → Brought came d ws → (piece : List ℕ) (x : Desk) (vs : List ℕ) → x ≡ (fed d ws piece).desk → vs ≡ (fed d ws piece).words →
    Brought came x vs
brought_more came d ws h piece x vs j k =
    record {
      pieces = h.pieces ++ piece ∷ [];
      so =
          ap₂ (λ (y : Desk) (zs : List ℕ). record { desk = y; words = zs }) j k ∙
          ap (λ (s : DeskAndTable). fed s.desk s.words piece) h.so ∙
          sym (fed_last (record { desk = begun_desk; words = came }) h.pieces piece);
    }

-- ---- what a reader has given, where its bytes are known

given_none : (known : Option (List ℕ)) → Consumes known known []
given_none None = tt
given_none (Some xs) = refl

given_more : (first mid last : Option (List ℕ)) (xs ys : List ℕ) → Consumes first mid xs → Consumes mid last ys → Consumes first last (xs ++ ys)
given_more None mid last xs ys h k = tt
given_more (Some gs) None last xs ys h k = absurd h
given_more (Some gs) (Some bs) None xs ys h k = absurd k
given_more (Some gs) (Some bs) (Some cs) xs ys h k = h ∙ ap (λ (zs : List ℕ). xs ++ zs) k ∙ sym (append_assoc xs ys cs)

bytes_last : (pieces : List (List ℕ)) (piece : List ℕ) → all_bytes (pieces ++ piece ∷ []) ≡ all_bytes pieces ++ piece
unfolding all_bytes
bytes_last [] piece = append-nil piece
bytes_last (p ∷ ps) piece = ap (λ (xs : List ℕ). p ++ xs) (bytes_last ps piece) ∙ sym (append_assoc p (all_bytes ps) piece)

-- at a turn: what the reader has given since the first one is the bytes of the pieces
pub record Turned (first now : Option (List ℕ)) (came table buffer : List ℕ) (d : Desk) : Type 0 where
  pub long : 65536 ≡ length buffer
  pub same : length table ≡ length came
  pub brought : Brought came d table
  pub gave : Consumes first now (all_bytes brought.pieces)

pub turned_none : (known : Option (List ℕ)) (came buffer : List ℕ) (d : Desk) → 65536 ≡ length buffer → d ≡ begun_desk → Turned known known came came buffer d
unfolding all_bytes brought_none
turned_none known came buffer d l e = record { long = l; same = refl; brought = brought_none came d e; gave = given_none known }

module _ (first now : Option (List ℕ)) (came table buffer : List ℕ) (d : Desk) (h : Turned first now came table buffer d) where
  -- a read that fails leaves the table where it stood, and so do turns that are used up
  pub left : Left came table
  left = record { desk = d; brought = h.brought }

  -- the bytes of the pieces, once one more has come
  gave_more : (next : Option (List ℕ)) (piece : List ℕ) → Consumes now next piece → Consumes first next (all_bytes (h.brought.pieces ++ piece ∷ []))
  gave_more next piece k =
      subst
      (λ (xs : List ℕ). Consumes first next xs)
      (sym (bytes_last h.brought.pieces piece))
      (given_more first now next (all_bytes h.brought.pieces) piece h.gave k)

  pub turned_more : (next : Option (List ℕ)) (piece bytes : List ℕ) (x : Desk) (vs : List ℕ) → Consumes now next piece → length bytes ≡ length buffer → length vs ≡ length table → x ≡ (fed d table piece).desk → vs ≡ (fed d table piece).words →
      Turned first next came vs bytes x
  unfolding brought_more
  turned_more next piece bytes x vs g l m j k =
      record { long = h.long ∙ sym l; same = m ∙ h.same; brought = brought_more came d table h.brought piece x vs j k; gave = gave_more next piece g }

  -- the reads stop
  pub reads_ended : Reads came (record { desk = d; stopped = Ended }) table
  reads_ended = record { brought = h.brought; settles = λ e. absurd (ended_settled e) }

  pub reads_settled : (piece : List ℕ) (x : Desk) (vs : List ℕ) → x ≡ (fed d table piece).desk → vs ≡ (fed d table piece).words → (t : Bool) → t ≡ settled x → t ≡ true →
      Reads came (record { desk = x; stopped = Settled }) vs
  reads_settled piece x vs j k t m n = record { brought = brought_more came d table h.brought piece x vs j k; settles = λ e. sym m ∙ n }

-- what holds anyhow holds of a failure
pub on_failure : {A E P : Type 0} → (r : Result A E) → P → OnErr r P
on_failure (Ok x) p = tt
on_failure (Err e) p = p

-- of a reader whose bytes are known
pub known_ended : (first now next : Option (List ℕ)) (came table buffer none : List ℕ) (d : Desk) → Turned first now came table buffer d → none ≡ [] → Consumes now next none → IsAtEnd next →
    IfSome first (λ known. ReadsKnown known came (record { desk = d; stopped = Ended }) table)
known_ended None now next came table buffer none d h e k z = tt
known_ended (Some gs) now next came table buffer none d h e k z =
    record { brought = h.brought; ends = λ _. all next (given_more (Some gs) now next (all_bytes h.brought.pieces) none h.gave k) z; settles = λ w. absurd (ended_settled w) }
  where
    all : (y : Option (List ℕ)) → Consumes (Some gs) y (all_bytes h.brought.pieces ++ none) → IsAtEnd y → all_bytes h.brought.pieces ≡ gs
    all None c w = absurd c
    all (Some ys) c w =
        sym
        (c ∙
        ap₂ (λ (us vs : List ℕ). (all_bytes h.brought.pieces ++ us) ++ vs) e w ∙
        append-nil (all_bytes h.brought.pieces ++ []) ∙
        append-nil (all_bytes h.brought.pieces))

pub known_settled : (first now next : Option (List ℕ)) (came table buffer : List ℕ) (d : Desk) (h : Turned first now came table buffer d) (piece : List ℕ) (x : Desk) (vs : List ℕ) → Consumes now next piece →
    x ≡ (fed d table piece).desk → vs ≡ (fed d table piece).words → (t : Bool) → t ≡ settled x → t ≡ true →
    IfSome first (λ known. ReadsKnown known came (record { desk = x; stopped = Settled }) vs)
unfolding brought_more
known_settled None now next came table buffer d h piece x vs g j k t m n = tt
known_settled (Some gs) now next came table buffer d h piece x vs g j k t m n =
    record { brought = brought_more came d table h.brought piece x vs j k; ends = λ w. absurd (settled_ended w); settles = λ _. let (r, front) = rest next (gave_more (Some gs) now came table buffer d h next piece g) in (sym m ∙ n, r, front) }
  where
    rest : (y : Option (List ℕ)) → Consumes (Some gs) y (all_bytes (h.brought.pieces ++ piece ∷ [])) → (r : List ℕ) × (gs ≡ all_bytes (h.brought.pieces ++ piece ∷ []) ++ r)
    rest None c = absurd c
    rest (Some ys) c = (ys, c)

-- ---- the line that is told

-- a text over the front of an output stands there
module _ (text out after : List ℕ) (n : ℕ) (e : n ≡ length text) (f : after ≡ over text out) where
  told_there : take n after ≡ text
  told_there = ap (take n) f ∙ take_at text (drop (length text) out) n (sym e)

  told_within : n ≤ length after
  told_within = omega (arith, ap length f, length-append text (drop (length text) out))

pub tells : (d : Desk) (ws out after : List ℕ) (n : ℕ) → n ≡ length (text_of (reply_by d ws)) → after ≡ over (text_of (reply_by d ws)) out → Tells d ws after n
tells d ws out after n e f = record { within = told_within (text_of (reply_by d ws)) out after n e f; line = line; any = any }
  where
    line : (came : List ℕ) → length came ≡ table_length → (b : Brought came d ws) → take n after ≡ answer (all_bytes b.pieces)
    line came l b =
        told_there (text_of (reply_by d ws)) out after n e f ∙
        ap (λ (s : DeskAndTable). text_of (reply_by s.desk s.words)) b.so ∙
        any_pieces.text came b.pieces l

    any : (came : List ℕ) → length came ≡ table_length → (b : Brought came d ws) → settled d ≡ true → (more : List ℕ) → take n after ≡ answer (all_bytes b.pieces ++ more)
    any came l b t more =
        line came l b ∙ sym (any_more.same came b.pieces l (ap (λ (s : DeskAndTable). settled s.desk) (sym b.so) ∙ t) more)

pub answered : (came : List ℕ) (f : Fed) (ws out : List ℕ) (n : ℕ) → length came ≡ table_length → Reads came f ws → Tells f.desk ws out n → Answered f.stopped out n
answered came f ws out n l r t =
    let b = r.brought in
    record { within = t.within; pieces = b.pieces; line = t.line came l b; any = λ e more. t.any came l b (r.settles e) more }

pub answered_known : (first : Option (List ℕ)) (came : List ℕ) (f : Fed) (ws out : List ℕ) (n : ℕ) → length came ≡ table_length → IfSome first (λ known. ReadsKnown known came f ws) → Tells f.desk ws out n →
    IfSome first (λ known. AnswersKnown known out n)
answered_known None came f ws out n l r t = tt
answered_known (Some known) came f ws out n l r t = why f.stopped refl
  where
    why : (w : Stopped) → f.stopped ≡ w → take n out ≡ answer known
    why Ended e = t.line came l r.brought ∙ ap answer (r.ends e)
    why Settled e = let (s, rest, front) = r.settles e in t.any came l r.brought s rest ∙ ap answer (sym front)
