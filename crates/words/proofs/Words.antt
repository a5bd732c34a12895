-- Records and lists of 12 words are one to one, and stores over all of a list leave what was stored.
use mathlib.Core.Path.{◌≡◌, refl, sym, ap, ◌∙◌}
use mathlib.Core.List.{List, [], ◌∷◌, ◌++◌, append-nil}
use Prim.Native.Nat.{ℕ, zero, suc, ◌+◌}
use native.Mathlib.Omega.{arith}
use lib.ListN.{length, get_or, drop, drop_of_length-le}
use lib.Seq.{sets, sets-eq, drop-cons}
use Rattle.window.specs.declared.Head.{Head}
use Rattle.agreement.specs.declared.Record.{Record}
use Rattle.words.specs.Words.{record_words, head_with, record_of, words_of}

pub all_set : {A : Type 0} (l vs : List A) → length l ≡ length vs → sets l 0 vs ≡ vs
all_set l vs e =
    sets-eq vs l 0 (omega arith) ∙ ap (λ r. vs ++ r) (drop_of_length-le l {i = 0 + length vs} (omega arith)) ∙ append-nil vs

-- so many words from a place on
abbrev words_from : ℕ → ℕ → List ℕ → List ℕ
words_from zero i ws = []
words_from (suc n) i ws = get_or ws i 0 ∷ words_from n (suc i) ws

all_from : (ws : List ℕ) (n i : ℕ) → i + n ≡ length ws → words_from n i ws ≡ drop i ws
all_from ws zero i e = sym (drop_of_length-le ws {i = i} (omega arith))
all_from ws (suc n) i e = ap (λ r. get_or ws i 0 ∷ r) (all_from ws n (suc i) (omega arith)) ∙ sym (drop-cons ws i 0 (omega arith))

-- the words of the record that 12 words mean are those words
pub words_record : (ws : List ℕ) → length ws ≡ record_words → words_of (record_of ws) ≡ ws
unfolding words_of record_of
words_record ws e = all_from ws 12 0 (sym e)

-- and the record that its words mean is that record
pub record_words_lem : (rec : Record) → record_of (words_of rec) ≡ rec
unfolding words_of record_of
record_words_lem rec = refl

-- the record of 12 words, once their head is made
abbrev record_on : List ℕ → Head → Record
record_on ws h =
    record {
      head = h;
      accepted = get_or ws 7 0;
      dropped = get_or ws 8 0;
      next = record { 0 = get_or ws 9 0 };
      clock = record { 0 = get_or ws 10 0 };
      used = get_or ws 11 0;
    }

pub record_with : (ws : List ℕ) (h : Head) → h ≡ head_with (get_or ws 0 0) (get_or ws 1 0) (get_or ws 2 0) (get_or ws 3 0) (get_or ws 4 0) (get_or ws 5 0) (get_or ws 6 0) → record_on ws h ≡ record_of ws
unfolding record_of
record_with ws h e = ap (record_on ws) e
