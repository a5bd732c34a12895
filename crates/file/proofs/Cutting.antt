-- Bytes cut into lines: whatever pieces they come in, the lines are the same; put together again they are the bytes; no line has a feed in it; and of a
-- line the first bytes decide.
use mathlib.Core.Path.{◌≡◌, refl, sym, ap, ap₂, ◌∙◌}
use mathlib.Core.Bool.{Bool, true, false, cond, true≢false, false≢true}
use mathlib.Core.List.{List, [], ◌∷◌, ◌++◌, append_assoc, append-nil}
use Prim.Native.Nat.{ℕ}
use native.Mathlib.Omega.{arith}
use borrow.Author.Tests.{ne_eqb, eqb-true, eqb-false, leb-true, leb-false}
use lib.Dec.{eqb, leb}
use lib.ListN.{length, take, length-take}
use lib.Seq.{take_all}
use Rattle.frames.specs.Frames.{frame_of}
use Rattle.frames.proofs.Lines.{too_long_lem}
use Rattle.file.specs.Lines.{line_feed, has_feed, first_line, behind_first, lines_from, rest_from, lines_of, rest_of, Unended, AllUnended, ended, Cut}
use Rattle.file.specs.Judging.{File, on_frame, take_line, take_lines, begun, read_lines}
use Rattle.file.specs.SoFar.{most_bytes}
use Rattle.file.proofs.SoFar.{first_more}

-- ---- one byte

module _ (b : List ℕ) (y : ℕ) (ys : List ℕ) (n : y ≡ line_feed → ⊥) where
  lines_on : lines_from b (y ∷ ys) ≡ lines_from (b ++ y ∷ []) ys
  unfolding lines_from
  lines_on = ap (λ t. cond t (b ∷ lines_from [] ys) (lines_from (b ++ y ∷ []) ys)) (ne_eqb y line_feed n)

  rest_on : rest_from b (y ∷ ys) ≡ rest_from (b ++ y ∷ []) ys
  unfolding rest_from
  rest_on = ap (λ t. cond t (rest_from [] ys) (rest_from (b ++ y ∷ []) ys)) (ne_eqb y line_feed n)

-- ---- pieces

lines_append : (b xs ys : List ℕ) → lines_from b (xs ++ ys) ≡ lines_from b xs ++ lines_from (rest_from b xs) ys
unfolding lines_from rest_from
lines_append b [] ys = refl
lines_append b (x ∷ xs) ys = go (eqb x line_feed) (lines_append [] xs ys) (lines_append (b ++ x ∷ []) xs ys)
  where
    go : (t : Bool) → lines_from [] (xs ++ ys) ≡ lines_from [] xs ++ lines_from (rest_from [] xs) ys →
        lines_from (b ++ x ∷ []) (xs ++ ys) ≡ lines_from (b ++ x ∷ []) xs ++ lines_from (rest_from (b ++ x ∷ []) xs) ys →
        cond t (b ∷ lines_from [] (xs ++ ys)) (lines_from (b ++ x ∷ []) (xs ++ ys)) ≡
        cond t (b ∷ lines_from [] xs) (lines_from (b ++ x ∷ []) xs) ++ lines_from (cond t (rest_from [] xs) (rest_from (b ++ x ∷ []) xs)) ys
    go true e f = ap (λ ls. b ∷ ls) e
    go false e f = f

pub rest_append : (b xs ys : List ℕ) → rest_from b (xs ++ ys) ≡ rest_from (rest_from b xs) ys
unfolding rest_from
rest_append b [] ys = refl
rest_append b (x ∷ xs) ys = go (eqb x line_feed) (rest_append [] xs ys) (rest_append (b ++ x ∷ []) xs ys)
  where
    go : (t : Bool) → rest_from [] (xs ++ ys) ≡ rest_from (rest_from [] xs) ys → rest_from (b ++ x ∷ []) (xs ++ ys) ≡ rest_from (rest_from (b ++ x ∷ []) xs) ys →
        cond t (rest_from [] (xs ++ ys)) (rest_from (b ++ x ∷ []) (xs ++ ys)) ≡ rest_from (cond t (rest_from [] xs) (rest_from (b ++ x ∷ []) xs)) ys
    go true e f = e
    go false e f = f

-- lines and rest put together are the bytes
pub lines_joined : (b xs : List ℕ) → ended (lines_from b xs) ++ rest_from b xs ≡ b ++ xs
unfolding lines_from rest_from
lines_joined b [] = sym (append-nil b)
lines_joined b (x ∷ xs) = go (eqb x line_feed) refl (lines_joined [] xs) (lines_joined (b ++ x ∷ []) xs)
  where
    go : (t : Bool) → eqb x line_feed ≡ t → ended (lines_from [] xs) ++ rest_from [] xs ≡ xs →
        ended (lines_from (b ++ x ∷ []) xs) ++ rest_from (b ++ x ∷ []) xs ≡ (b ++ x ∷ []) ++ xs →
        ended (cond t (b ∷ lines_from [] xs) (lines_from (b ++ x ∷ []) xs)) ++ cond t (rest_from [] xs) (rest_from (b ++ x ∷ []) xs) ≡ b ++ x ∷ xs
    go true k e f =
        append_assoc b (line_feed ∷ ended (lines_from [] xs)) (rest_from [] xs) ∙
        ap₂ (λ y l. b ++ y ∷ l) (sym (eqb-true x line_feed k)) e
    go false k e f = f ∙ append_assoc b (x ∷ []) xs

unended_more : (b : List ℕ) (x : ℕ) → Unended b → (x ≡ line_feed → ⊥) → Unended (b ++ x ∷ [])
unended_more [] x u n = (n, tt)
unended_more (y ∷ ys) x u n = (u.0, unended_more ys x u.1 n)

-- no line holds a feed, and the rest none
pub lines_unended : (b xs : List ℕ) → Unended b → AllUnended (lines_from b xs) × Unended (rest_from b xs)
unfolding lines_from rest_from
lines_unended b [] u = (tt, u)
lines_unended b (x ∷ xs) u = go (eqb x line_feed) refl (lines_unended [] xs tt) (λ n. lines_unended (b ++ x ∷ []) xs (unended_more b x u n))
  where
    go : (t : Bool) → eqb x line_feed ≡ t → AllUnended (lines_from [] xs) × Unended (rest_from [] xs) →
        ((x ≡ line_feed → ⊥) → AllUnended (lines_from (b ++ x ∷ []) xs) × Unended (rest_from (b ++ x ∷ []) xs)) →
        AllUnended (cond t (b ∷ lines_from [] xs) (lines_from (b ++ x ∷ []) xs)) × Unended (cond t (rest_from [] xs) (rest_from (b ++ x ∷ []) xs))
    go true k e f = ((u, e.0), e.1)
    go false k e f = f (eqb-false x line_feed k)

-- a line that holds no feed, with a feed behind it, is the next line
pub line_next : (b l xs : List ℕ) → Unended l → lines_from b (l ++ line_feed ∷ xs) ≡ (b ++ l) ∷ lines_from [] xs
unfolding lines_from
line_next b [] xs u = ap (λ y. y ∷ lines_from [] xs) (sym (append-nil b))
line_next b (y ∷ ys) xs u =
    lines_on b y (ys ++ line_feed ∷ xs) u.0 ∙
    line_next (b ++ y ∷ []) ys xs u.1 ∙
    ap (λ z. z ∷ lines_from [] xs) (append_assoc b (y ∷ []) ys)

pub rest_next : (b l xs : List ℕ) → Unended l → rest_from b (l ++ line_feed ∷ xs) ≡ rest_from [] xs
unfolding rest_from
rest_next b [] xs u = refl
rest_next b (y ∷ ys) xs u = rest_on b y (ys ++ line_feed ∷ xs) u.0 ∙ rest_next (b ++ y ∷ []) ys xs u.1

-- bytes without a feed end no line
pub no_line : (b r : List ℕ) → Unended r → (lines_from b r ≡ []) × (rest_from b r ≡ b ++ r)
unfolding lines_from rest_from
no_line b [] u = (refl, sym (append-nil b))
no_line b (y ∷ ys) u =
    let k = no_line (b ++ y ∷ []) ys u.1 in (lines_on b y ys u.0 ∙ k.0, rest_on b y ys u.0 ∙ k.1 ∙ append_assoc b (y ∷ []) ys)

one_cut : (ls : List (List ℕ)) (r : List ℕ) → AllUnended ls → Unended r → (lines_of (ended ls ++ r) ≡ ls) × (rest_of (ended ls ++ r) ≡ r)
one_cut [] r a u = no_line [] r u
one_cut (l ∷ ls) r a u =
    let again = append_assoc l (line_feed ∷ ended ls) r in
    let k = one_cut ls r a.1 u in (
      ap lines_of again ∙ line_next [] l (ended ls ++ r) a.0 ∙ ap (λ x. l ∷ x) k.0,
      ap rest_of again ∙ rest_next [] l (ended ls ++ r) a.0 ∙ k.1,
    )

-- ---- the next line, by the first feed

next_line : (b : List ℕ) (x : ℕ) (xs : List ℕ) → ((c : List ℕ) → has_feed xs ≡ true → lines_from c xs ≡ (c ++ first_line xs) ∷ lines_from [] (behind_first xs)) → (t : Bool) →
    cond t true (has_feed xs) ≡ true →
    cond t (b ∷ lines_from [] xs) (lines_from (b ++ x ∷ []) xs) ≡ (b ++ cond t [] (x ∷ first_line xs)) ∷ lines_from [] (cond t xs (behind_first xs))
next_line b x xs f true h = ap (λ l. l ∷ lines_from [] xs) (sym (append-nil b))
next_line b x xs f false h = f (b ++ x ∷ []) h ∙ ap (λ l. l ∷ lines_from [] (behind_first xs)) (append_assoc b (x ∷ []) (first_line xs))

pub lines_first : (b bytes : List ℕ) → has_feed bytes ≡ true → lines_from b bytes ≡ (b ++ first_line bytes) ∷ lines_from [] (behind_first bytes)
unfolding lines_from has_feed first_line behind_first
lines_first b [] h = absurd (false≢true h)
lines_first b (x ∷ xs) h = next_line b x xs (λ c k. lines_first c xs k) (eqb x line_feed) h

pub rest_first : (b bytes : List ℕ) → has_feed bytes ≡ true → rest_from b bytes ≡ rest_from [] (behind_first bytes)
unfolding rest_from has_feed behind_first
rest_first b [] h = absurd (false≢true h)
rest_first b (x ∷ xs) h = go (eqb x line_feed) h (λ k. rest_first (b ++ x ∷ []) xs k)
  where
    go : (t : Bool) → cond t true (has_feed xs) ≡ true → (has_feed xs ≡ true → rest_from (b ++ x ∷ []) xs ≡ rest_from [] (behind_first xs)) →
        cond t (rest_from [] xs) (rest_from (b ++ x ∷ []) xs) ≡ rest_from [] (cond t xs (behind_first xs))
    go true k f = refl
    go false k f = f k

-- bytes without a feed
pub unfed_unended : (bytes : List ℕ) → has_feed bytes ≡ false → Unended bytes
unfolding has_feed
unfed_unended [] h = tt
unfed_unended (x ∷ xs) h = go (eqb x line_feed) refl h (unfed_unended xs)
  where
    go : (t : Bool) → eqb x line_feed ≡ t → cond t true (has_feed xs) ≡ false → (has_feed xs ≡ false → Unended xs) → Unended (x ∷ xs)
    go true k h f = absurd (true≢false h)
    go false k h f = (eqb-false x line_feed k, f h)

pub cut : Cut
cut =
    record {
      lines = λ bytes. (lines_unended [] bytes tt).0;
      rest = λ bytes. (lines_unended [] bytes tt).1;
      whole = lines_joined [];
      only = one_cut;
    }

-- ---- lines taken one after another

lines_taken : (x : File) (ls ks : List (List ℕ)) → take_lines x (ls ++ ks) ≡ take_lines (take_lines x ls) ks
unfolding take_lines
lines_taken x [] ks = refl
lines_taken x (l ∷ ls) ks = lines_taken (take_line x l) ls ks

pub read_append : (fed piece came : List ℕ) → read_lines (fed ++ piece) came ≡ take_lines (read_lines fed came) (lines_from (rest_of fed) piece)
unfolding read_lines
read_append fed piece came =
    ap (take_lines (begun came)) (lines_append [] fed piece) ∙ lines_taken (begun came) (lines_of fed) (lines_from (rest_of fed) piece)

-- ---- of a line the first bytes are enough, since one that is longer is no frame

pub first_frame : (line : List ℕ) → frame_of (take most_bytes line) ≡ frame_of line
first_frame line = go (leb (length line) most_bytes) refl
  where
    go : (t : Bool) → leb (length line) most_bytes ≡ t → frame_of (take most_bytes line) ≡ frame_of line
    go true e = ap frame_of (take_all most_bytes line (leb-true (length line) most_bytes e))
    go false e =
        let long = leb-false (length line) most_bytes e in
        too_long_lem (take most_bytes line) (omega (arith, length-take most_bytes line)) ∙ sym (too_long_lem line (omega arith))

pub first_line_lem : (x : File) (line : List ℕ) → take_line x (take most_bytes line) ≡ take_line x line
unfolding take_line
first_line_lem x line = ap (on_frame x.reading.stage x.reading x.words) (first_frame line)

same_more : (b c ys : List ℕ) → take most_bytes b ≡ take most_bytes c → take most_bytes (b ++ ys) ≡ take most_bytes (c ++ ys)
same_more b c ys e = sym (first_more most_bytes b ys) ∙ ap (λ l. take most_bytes (l ++ ys)) e ∙ first_more most_bytes c ys

pub same_lines : (x : File) (b c bytes : List ℕ) → take most_bytes b ≡ take most_bytes c → take_lines x (lines_from b bytes) ≡ take_lines x (lines_from c bytes)
unfolding take_lines lines_from
same_lines x b c [] e = refl
same_lines x b c (y ∷ ys) e = go (eqb y line_feed) (same_lines x (b ++ y ∷ []) (c ++ y ∷ []) ys (same_more b c (y ∷ []) e))
  where
    go : (t : Bool) → take_lines x (lines_from (b ++ y ∷ []) ys) ≡ take_lines x (lines_from (c ++ y ∷ []) ys) →
        take_lines x (cond t (b ∷ lines_from [] ys) (lines_from (b ++ y ∷ []) ys)) ≡ take_lines x (cond t (c ∷ lines_from [] ys) (lines_from (c ++ y ∷ []) ys))
    go true f = ap (λ z. take_lines z (lines_from [] ys)) (sym (first_line_lem x b) ∙ ap (take_line x) e ∙ first_line_lem x c)
    go false f = f

pub same_rest : (b c bytes : List ℕ) → take most_bytes b ≡ take most_bytes c → take most_bytes (rest_from b bytes) ≡ take most_bytes (rest_from c bytes)
unfolding rest_from
same_rest b c [] e = e
same_rest b c (y ∷ ys) e = go (eqb y line_feed) (same_rest (b ++ y ∷ []) (c ++ y ∷ []) ys (same_more b c (y ∷ []) e))
  where
    go : (t : Bool) → take most_bytes (rest_from (b ++ y ∷ []) ys) ≡ take most_bytes (rest_from (c ++ y ∷ []) ys) →
        take most_bytes (cond t (rest_from [] ys) (rest_from (b ++ y ∷ []) ys)) ≡ take most_bytes (cond t (rest_from [] ys) (rest_from (c ++ y ∷ []) ys))
    go true f = refl
    go false f = f
