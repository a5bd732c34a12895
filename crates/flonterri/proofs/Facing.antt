-- What an exported call comes to: all as it came where a length is wrong, else what the call behind it answers for the record
-- that the words mean.
use mathlib.Core.Path.{◌≡◌, sym, ap, ◌∙◌}
use mathlib.Core.Bool.{cond}
use mathlib.Core.List.{List, [], ◌∷◌}
use Prim.Native.Nat.{ℕ}
use borrow.Author.Tests.{ne_eqb}
use lib.Dec.{eqb}
use lib.ListN.{length}
use Rattle.std.specs.Prelude.{Result, Ok, Err, IfOk}
use Rattle.agreement.specs.declared.Record.{Record}
use Rattle.agreement.specs.declared.refusal.Refusal.{Refusal}
use Rattle.agreement.specs.Numbers.{refusal_number, answer_distance, answer_number}
use Rattle.agreement.proofs.Numbers.{refusal_some}
use Rattle.keeping.specs.declared.Changed.{Changed}
use Rattle.file.specs.declared.ReadAnswer.{ReadAnswer}
use Rattle.words.specs.Words.{record_words, record_of, words_of}
use Rattle.words.specs.Lengths.{wrong_length, record_in, record_beside}
use Rattle.words.specs.Tells.{Tells, told, tells_by, words_of_length, distance_out}
use Rattle.words.proofs.Lengths.{Guards, guards_in, guards_beside, beside_size}
use Rattle.flonterri.specs.Face.{guarded, Changes, changes, tells, Leaves, leaves, appends_by, reads_by, Writes, writes_by}

-- ---- behind the lengths

pub unguarded : {A : Type 0} (wrong : ℕ) (came : ℕ → A) (call : A) → 0 ≡ wrong → call ≡ guarded wrong came call
unfolding guarded
unguarded wrong came call e = ap (λ (n : ℕ). cond (eqb n 0) call (came n)) e

module _ {A : Type 0} (r : Result Record Refusal) (wrong : ℕ) (ws : List ℕ) (g : Guards r wrong ws) (came : ℕ → A) (call : A) where
  pub stopped : (why : Refusal) → r ≡ Err why → came (refusal_number why) ≡ guarded wrong came call
  unfolding guarded
  stopped why e =
      sym (ap (λ t. cond t call (came (refusal_number why))) (ne_eqb (refusal_number why) 0 (refusal_some why))) ∙
      ap (λ (n : ℕ). cond (eqb n 0) call (came n)) (g.stopped why e)

  pub behind : (rec : Record) → r ≡ Ok rec → call ≡ guarded wrong came call
  behind rec e = unguarded wrong came call (g.right rec e).2

-- ---- the record alone: its length is right, and the call is made for the record that it means

module _ (ws : List ℕ) (r : Result Record Refusal) (i : r ≡ record_in ws) where
  pub in_long : (rec : Record) → r ≡ Ok rec → length ws ≡ record_words
  in_long rec e = ((guards_in ws).right rec (sym i ∙ e)).1

  -- a call that changes, where the length is wrong
  module _ (ts : List ℕ) (why : Refusal) (e : r ≡ Err why) (x : Changed) (new : List ℕ) where
    as_it_came : record { number = refusal_number why; words = ws; table = ts } ≡ changes ws ts x new
    unfolding changes
    as_it_came = stopped _ _ _ (guards_in ws) _ _ why (sym i ∙ e)

    pub stops_number : (n : ℕ) → n ≡ refusal_number why → n ≡ (changes ws ts x new).number
    stops_number n p = p ∙ ap (λ (t : Changes). t.number) as_it_came

    pub stops_words : ws ≡ (changes ws ts x new).words
    stops_words = ap (λ (t : Changes). t.words) as_it_came

    pub stops_table : ts ≡ (changes ws ts x new).table
    stops_table = ap (λ (t : Changes). t.table) as_it_came

  -- and where it is right
  module _ (ts : List ℕ) (rec : Record) (e : r ≡ Ok rec) (f : Record → Changed) (table : Record → List ℕ) (x : Changed) (a : x ≡ f rec) where
    same : x ≡ f (record_of ws)
    same = a ∙ ap f ((guards_in ws).right rec (sym i ∙ e)).0

    made : record { number = answer_number (f (record_of ws)).outcome; words = words_of (f (record_of ws)).rec; table = table (record_of ws) } ≡
        changes ws ts (f (record_of ws)) (table (record_of ws))
    unfolding changes
    made = behind _ _ _ (guards_in ws) _ _ rec (sym i ∙ e)

    pub makes_number : (n : ℕ) → n ≡ answer_number x.outcome → n ≡ (changes ws ts (f (record_of ws)) (table (record_of ws))).number
    makes_number n p = p ∙ ap (λ y. answer_number y.outcome) same ∙ ap (λ (t : Changes). t.number) made

    pub makes_words : (us : List ℕ) → us ≡ words_of x.rec → us ≡ (changes ws ts (f (record_of ws)) (table (record_of ws))).words
    makes_words us p = p ∙ ap (λ y. words_of y.rec) same ∙ ap (λ (t : Changes). t.words) made

    pub makes_table : (vs : List ℕ) → vs ≡ table rec → vs ≡ (changes ws ts (f (record_of ws)) (table (record_of ws))).table
    makes_table vs p = p ∙ ap table ((guards_in ws).right rec (sym i ∙ e)).0 ∙ ap (λ (t : Changes). t.table) made

-- ---- the record and out

module _ {A : Type 0} (ws : List ℕ) (out : List A) (size : ℕ) (r : Result Record Refusal) (i : r ≡ record_beside ws (length out) size) where
  guards : Guards r (wrong_length (length ws) (length out) size) ws
  guards = record { right = λ rec e. (guards_beside ws (length out) size).right rec (sym i ∙ e); stopped = λ why e. (guards_beside ws (length out) size).stopped why (sym i ∙ e) }

  module _ (rec : Record) (e : r ≡ Ok rec) where
    pub beside_long : length ws ≡ record_words
    beside_long = (guards.right rec e).1

    pub beside_out : length out ≡ size
    beside_out = beside_size ws (length out) size rec (sym i ∙ e)

    pub room_told : {B : Type 0} (v : Result B Refusal) → IfOk v (λ _. length out ≡ size)
    room_told (Ok x) = beside_out
    room_told (Err why) = tt

  -- a call that looks
  module _ {B : Type 0} (shown : B → List A) where
    module _ (why : Refusal) (e : r ≡ Err why) (v : Result B Refusal) where
      silent : record { number = refusal_number why; out = out } ≡ tells ws size (tells_by shown v) out
      unfolding tells
      silent = stopped _ _ _ guards _ _ why e

      pub silent_number : (n : ℕ) → n ≡ refusal_number why → n ≡ (tells ws size (tells_by shown v) out).number
      silent_number n p = p ∙ ap (λ (t : Tells A). t.number) silent

      pub silent_out : out ≡ (tells ws size (tells_by shown v) out).out
      silent_out = ap (λ (t : Tells A). t.out) silent

    module _ (rec : Record) (e : r ≡ Ok rec) (f : Record → Result B Refusal) (v : Result B Refusal) (a : v ≡ f rec) where
      looked : tells_by shown v out ≡ tells ws size (tells_by shown (f (record_of ws))) out
      unfolding tells
      looked = ap (λ y. tells_by shown y out) (a ∙ ap f (guards.right rec e).0) ∙ behind _ _ _ guards _ _ rec e

      pub looks_number : (n : ℕ) → n ≡ answer_number v → n ≡ (tells ws size (tells_by shown (f (record_of ws))) out).number
      unfolding tells_by
      looks_number n p = p ∙ ap (λ (t : Tells A). t.number) looked

      pub looks_out : (os : List A) → os ≡ told shown v out → os ≡ (tells ws size (tells_by shown (f (record_of ws))) out).out
      unfolding tells_by
      looks_out os p = p ∙ ap (λ (t : Tells A). t.out) looked

module _ (ws out : List ℕ) (size : ℕ) (r : Result Record Refusal) (i : r ≡ record_beside ws (length out) size) where
  -- a call that changes and tells, where a length is wrong
  module _ (ts : List ℕ) (why : Refusal) (e : r ≡ Err why) (o : Result (Unit {0}) Refusal) (rec : Record) (new told : List ℕ) where
    left : record { number = refusal_number why; words = ws; table = ts; out = out } ≡ leaves ws ts out size o rec new told
    unfolding leaves
    left = stopped _ _ _ (guards ws out size r i) _ _ why e

    pub left_number : (n : ℕ) → n ≡ refusal_number why → n ≡ (leaves ws ts out size o rec new told).number
    left_number n p = p ∙ ap (λ (t : Leaves). t.number) left

    pub left_words : ws ≡ (leaves ws ts out size o rec new told).words
    left_words = ap (λ (t : Leaves). t.words) left

    pub left_table : ts ≡ (leaves ws ts out size o rec new told).table
    left_table = ap (λ (t : Leaves). t.table) left

    pub left_out : out ≡ (leaves ws ts out size o rec new told).out
    left_out = ap (λ (t : Leaves). t.out) left

  -- and where they are right
  module _ (ts : List ℕ) (rec : Record) (e : r ≡ Ok rec) (o : Result (Unit {0}) Refusal) (new : Record) (vs told : List ℕ) where
    done : record { number = answer_number o; words = words_of new; table = vs; out = told } ≡ leaves ws ts out size o new vs told
    unfolding leaves
    done = behind _ _ _ (guards ws out size r i) _ _ rec e

    pub done_number : answer_number o ≡ (leaves ws ts out size o new vs told).number
    done_number = ap (λ (t : Leaves). t.number) done

    pub done_words : words_of new ≡ (leaves ws ts out size o new vs told).words
    done_words = ap (λ (t : Leaves). t.words) done

    pub done_table : vs ≡ (leaves ws ts out size o new vs told).table
    done_table = ap (λ (t : Leaves). t.table) done

    pub done_out : told ≡ (leaves ws ts out size o new vs told).out
    done_out = ap (λ (t : Leaves). t.out) done

-- an append, by itself or with a trim behind it: one law a part, whose proofs name no call, so that another call in its place is
-- refused for what it answers
module _ (ws ts out : List ℕ) (r : Result Record Refusal) (i : r ≡ record_beside ws (length out) 1) (rec : Record) (e : r ≡ Ok rec) (f : Record → Changed) (g : Record → List ℕ)
    (x : Changed) (a : x ≡ f rec) where
  abbrev seen : Leaves
  seen = appends_by ws ts out (f (record_of ws)) (g (record_of ws))

  meant : rec ≡ record_of ws
  meant = ((guards ws out 1 r i).right rec e).0

  pub append_number : (k : ℕ) → k ≡ answer_number x.outcome → k ≡ seen.number
  append_number k p = p ∙ ap (λ y. answer_number y.outcome) (a ∙ ap f meant) ∙ done_number ws out 1 r i ts rec e _ _ _ _

  pub append_words : (us : List ℕ) → us ≡ words_of x.rec → us ≡ seen.words
  append_words us p = p ∙ ap (λ y. words_of y.rec) (a ∙ ap f meant) ∙ done_words ws out 1 r i ts rec e _ _ _ _

  pub append_table_lem : (new : List ℕ) → new ≡ g rec → new ≡ seen.table
  append_table_lem new b = b ∙ ap g meant ∙ done_table ws out 1 r i ts rec e _ _ _ _

  pub append_out : (os : List ℕ) → os ≡ distance_out x.outcome out → os ≡ seen.out
  append_out os p = p ∙ ap (λ y. distance_out y.outcome out) (a ∙ ap f meant) ∙ done_out ws out 1 r i ts rec e _ _ _ _

-- ---- the file

-- reading
module _ (ws ts out : List ℕ) (r : Result Record Refusal) (i : r ≡ record_beside ws (length out) 2) (rec : Record) (e : r ≡ Ok rec) (answer : ReadAnswer) (new : List ℕ)
    (x : ReadAnswer) (a : x ≡ answer) where
  abbrev read : Leaves
  read = reads_by ws ts out answer new

  pub read_number : (k : ℕ) → k ≡ answer_number x.outcome → k ≡ read.number
  read_number k p = p ∙ ap (λ y. answer_number y.outcome) a ∙ done_number ws out 2 r i ts rec e _ _ _ _

  pub read_words : (us : List ℕ) → us ≡ words_of x.rec → us ≡ read.words
  read_words us p = p ∙ ap (λ y. words_of y.rec) a ∙ done_words ws out 2 r i ts rec e _ _ _ _

  pub read_table_lem : (vs : List ℕ) → vs ≡ new → vs ≡ read.table
  read_table_lem vs b = b ∙ done_table ws out 2 r i ts rec e _ _ _ _

  pub read_out : (os : List ℕ) → os ≡ x.line ∷ answer_distance x.outcome ∷ [] → os ≡ read.out
  read_out os p = p ∙ ap (λ y. y.line ∷ answer_distance y.outcome ∷ []) a ∙ done_out ws out 2 r i ts rec e _ _ _ _

-- writing
module _ (ws bytes out : List ℕ) (r : Result Record Refusal) (i : r ≡ record_beside ws (length out) 1) where
  module _ (why : Refusal) (e : r ≡ Err why) (answer : Result ℕ Refusal) (new : List ℕ) where
    unwritten : record { number = refusal_number why; bytes = bytes; out = out } ≡ writes_by ws bytes out answer new
    unfolding writes_by
    unwritten = stopped _ _ _ (guards ws out 1 r i) _ _ why e

    pub unwritten_number : (n : ℕ) → n ≡ refusal_number why → n ≡ (writes_by ws bytes out answer new).number
    unwritten_number n p = p ∙ ap (λ (t : Writes). t.number) unwritten

    pub unwritten_bytes : bytes ≡ (writes_by ws bytes out answer new).bytes
    unwritten_bytes = ap (λ (t : Writes). t.bytes) unwritten

    pub unwritten_out : out ≡ (writes_by ws bytes out answer new).out
    unwritten_out = ap (λ (t : Writes). t.out) unwritten

  module _ (rec : Record) (e : r ≡ Ok rec) (f : Record → Result ℕ Refusal) (g : Record → List ℕ) (x : Result ℕ Refusal) (a : x ≡ f rec) where
    abbrev file : Writes
    file = writes_by ws bytes out (f (record_of ws)) (g (record_of ws))

    wrote : record { number = answer_number x; bytes = g rec; out = told words_of_length x out } ≡ file
    unfolding writes_by tells_by
    wrote =
        let meant : rec ≡ record_of ws = ((guards ws out 1 r i).right rec e).0 in
        ap (λ (y : Result ℕ Refusal). record { number = answer_number y; bytes = g rec; out = told words_of_length y out }) (a ∙ ap f meant) ∙
        ap (λ (y : Record). record { number = answer_number (f (record_of ws)); bytes = g y; out = told words_of_length (f (record_of ws)) out }) meant ∙
        behind _ _ _ (guards ws out 1 r i) _ _ rec e

    pub wrote_number : (n : ℕ) → n ≡ answer_number x → n ≡ file.number
    wrote_number n p = p ∙ ap (λ (t : Writes). t.number) wrote

    pub wrote_bytes : (bs : List ℕ) → bs ≡ g rec → bs ≡ file.bytes
    wrote_bytes bs p = p ∙ ap (λ (t : Writes). t.bytes) wrote

    pub wrote_out : (os : List ℕ) → os ≡ told words_of_length x out → os ≡ file.out
    wrote_out os p = p ∙ ap (λ (t : Writes). t.out) wrote
