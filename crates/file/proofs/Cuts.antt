-- Bytes cut at the first line feed: where the feed stands, and how pieces are cut that come one behind the other.
use mathlib.Core.Path.{◌≡◌, refl, sym, ap, ◌∙◌}
use mathlib.Core.Bool.{Bool, true, false, cond, true≢false, false≢true}
use mathlib.Core.List.{List, [], ◌∷◌, ◌++◌}
use Prim.Native.Nat.{ℕ, suc, ◌+◌, ◌≤◌, ◌<◌}
use native.Mathlib.Omega.{arith}
use borrow.Author.Tests.{ltb-true, ltb-false}
use lib.Dec.{eqb, ltb}
use lib.ListN.{length, take, drop}
use Rattle.std.specs.Prelude.{Option, Some, None}
use Rattle.std.specs.Option.{unwrap_or}
use Rattle.std.specs.List.{position_or_len}
use Rattle.std.proofs.lemmas.List.Recursion.{is_position_or_len}
use Rattle.file.specs.Lines.{line_feed, has_feed, first_line, behind_first, feed_at}

-- ---- the feed sought from the front: none stands before i

-- ---- the first line and what stands behind it, by the place of the feed

pub line_within : (bytes : List ℕ) → length (first_line bytes) ≤ length bytes
unfolding first_line
line_within [] = omega arith
line_within (b ∷ bs) = go (eqb b line_feed) (line_within bs)
  where
    go : (t : Bool) → length (first_line bs) ≤ length bs → length (cond t [] (b ∷ first_line bs)) ≤ length (b ∷ bs)
    go true l = omega arith
    go false l = omega arith

pub line_is : (bytes : List ℕ) → take (length (first_line bytes)) bytes ≡ first_line bytes
unfolding first_line
line_is [] = refl
line_is (b ∷ bs) = go (eqb b line_feed) (line_is bs)
  where
    go : (t : Bool) → take (length (first_line bs)) bs ≡ first_line bs → take (length (cond t [] (b ∷ first_line bs))) (b ∷ bs) ≡ cond t [] (b ∷ first_line bs)
    go true e = refl
    go false e = ap (λ l. b ∷ l) e

pub unfed : (bytes : List ℕ) → length (first_line bytes) ≡ length bytes → has_feed bytes ≡ false
unfolding first_line has_feed
unfed [] e = refl
unfed (b ∷ bs) e = go (eqb b line_feed) e (unfed bs)
  where
    go : (t : Bool) → length (cond t [] (b ∷ first_line bs)) ≡ length (b ∷ bs) → (length (first_line bs) ≡ length bs → has_feed bs ≡ false) → cond t true (has_feed bs) ≡ false
    go true k h = let z : ⊥ = omega arith in absurd z
    go false k h = h (omega arith)

-- bytes without a feed are a first line
pub whole : (bytes : List ℕ) → has_feed bytes ≡ false → first_line bytes ≡ bytes
unfolding first_line has_feed
whole [] h = refl
whole (b ∷ bs) h = go (eqb b line_feed) h (whole bs)
  where
    go : (t : Bool) → cond t true (has_feed bs) ≡ false → (has_feed bs ≡ false → first_line bs ≡ bs) → cond t [] (b ∷ first_line bs) ≡ b ∷ bs
    go true k h = absurd (true≢false k)
    go false k h = ap (λ l. b ∷ l) (h k)

pub fed : (bytes : List ℕ) → (length (first_line bytes) ≡ length bytes → ⊥) → has_feed bytes ≡ true
unfolding first_line has_feed
fed [] n = absurd (n refl)
fed (b ∷ bs) n = go (eqb b line_feed) n (fed bs)
  where
    go : (t : Bool) → (length (cond t [] (b ∷ first_line bs)) ≡ length (b ∷ bs) → ⊥) → ((length (first_line bs) ≡ length bs → ⊥) → has_feed bs ≡ true) → cond t true (has_feed bs) ≡ true
    go true k h = refl
    go false k h = h (λ e. k (omega arith))

pub behind_less : (bytes : List ℕ) → has_feed bytes ≡ true → length (first_line bytes) < length bytes
unfolding first_line has_feed
behind_less [] h = absurd (false≢true h)
behind_less (b ∷ bs) h = go (eqb b line_feed) h (behind_less bs)
  where
    go : (t : Bool) → cond t true (has_feed bs) ≡ true → (has_feed bs ≡ true → length (first_line bs) < length bs) → length (cond t [] (b ∷ first_line bs)) < length (b ∷ bs)
    go true k l = omega arith
    go false k l = omega (arith, l k)

pub behind_is : (bytes : List ℕ) → has_feed bytes ≡ true → drop (length (first_line bytes) + 1) bytes ≡ behind_first bytes
unfolding first_line has_feed behind_first
behind_is [] h = absurd (false≢true h)
behind_is (b ∷ bs) h = go (eqb b line_feed) h (behind_is bs)
  where
    go : (t : Bool) → cond t true (has_feed bs) ≡ true → (has_feed bs ≡ true → drop (length (first_line bs) + 1) bs ≡ behind_first bs) →
        drop (length (cond t [] (b ∷ first_line bs)) + 1) (b ∷ bs) ≡ cond t bs (behind_first bs)
    go true k e = refl
    go false k e =
        let next : suc (length (first_line bs)) + 1 ≡ suc (length (first_line bs) + 1) = omega arith in
        ap (λ (n : ℕ). drop n (b ∷ bs)) next ∙ e k

-- ---- the place of the first feed

abbrev pub is_feed : ℕ → Bool
is_feed b = eqb b line_feed

place_is : (bytes : List ℕ) → length (first_line bytes) ≡ position_or_len is_feed bytes
unfolding first_line
place_is bytes = is_position_or_len (λ bs. length (first_line bs)) is_feed refl step bytes
  where
    step : (b : ℕ) (bs : List ℕ) → length (first_line (b ∷ bs)) ≡ cond (is_feed b) 0 (1 + length (first_line bs))
    step b bs = go (is_feed b)
      where
        go : (t : Bool) → length (cond t [] (b ∷ first_line bs)) ≡ cond t 0 (1 + length (first_line bs))
        go true = refl
        go false = omega arith

-- as the code finds it
pub feed_found : (bytes : List ℕ) → cond (ltb (position_or_len is_feed bytes) (length bytes)) (Some (position_or_len is_feed bytes)) None ≡ feed_at bytes
unfolding feed_at
feed_found bytes = go (ltb (position_or_len is_feed bytes) (length bytes)) refl
  where
    place : length (first_line bytes) ≡ position_or_len is_feed bytes
    place = place_is bytes

    go : (t : Bool) → ltb (position_or_len is_feed bytes) (length bytes) ≡ t →
        cond t (Some (position_or_len is_feed bytes)) None ≡ cond (has_feed bytes) (Some (length (first_line bytes))) None
    go true e =
        let less = ltb-true (position_or_len is_feed bytes) (length bytes) e in
        let there : has_feed bytes ≡ true = fed bytes (λ k. let z : ⊥ = omega (arith, place) in z) in
        ap Some (sym place) ∙ ap (λ t. cond t (Some (length (first_line bytes))) None) (sym there)
    go false e =
        let more = ltb-false (position_or_len is_feed bytes) (length bytes) e in
        let none : has_feed bytes ≡ false = unfed bytes (omega (arith, place, line_within bytes)) in
        ap (λ t. cond t (Some (length (first_line bytes))) None) (sym none)

module _ (bytes : List ℕ) (at : Option ℕ) (e : at ≡ feed_at bytes) where
  pub feed_none : at ≡ None → has_feed bytes ≡ false
  unfolding feed_at
  feed_none k = go (has_feed bytes) (sym e ∙ k)
    where
      go : (t : Bool) → cond t (Some (length (first_line bytes))) None ≡ None → t ≡ false
      go true j = absurd (cc)
      go false j = refl

  pub feed_some : (n : ℕ) → at ≡ Some n → (has_feed bytes ≡ true) × (n ≡ length (first_line bytes))
  unfolding feed_at
  feed_some n k = go (has_feed bytes) (sym e ∙ k)
    where
      go : (t : Bool) → cond t (Some (length (first_line bytes))) None ≡ Some n → (t ≡ true) × (n ≡ length (first_line bytes))
      go true j = (refl, cc)
      go false j = absurd (cc)

-- where a line ends
pub end_is : (bytes : List ℕ) (at : Option ℕ) → at ≡ feed_at bytes → unwrap_or at (length bytes) ≡ length (first_line bytes)
end_is bytes None e = sym (ap length (whole bytes (feed_none bytes None e refl)))
end_is bytes (Some n) e = (feed_some bytes (Some n) e n refl).1

-- ---- pieces one behind the other

pub unfed_line : (xs ys : List ℕ) → has_feed xs ≡ false → first_line (xs ++ ys) ≡ first_line xs ++ first_line ys
unfolding first_line has_feed
unfed_line [] ys h = refl
unfed_line (x ∷ xs) ys h = go (eqb x line_feed) h (unfed_line xs ys)
  where
    go : (t : Bool) → cond t true (has_feed xs) ≡ false → (has_feed xs ≡ false → first_line (xs ++ ys) ≡ first_line xs ++ first_line ys) →
        cond t [] (x ∷ first_line (xs ++ ys)) ≡ cond t [] (x ∷ first_line xs) ++ first_line ys
    go true k e = absurd (true≢false k)
    go false k e = ap (λ l. x ∷ l) (e k)

pub unfed_has : (xs ys : List ℕ) → has_feed xs ≡ false → has_feed (xs ++ ys) ≡ has_feed ys
unfolding has_feed
unfed_has [] ys h = refl
unfed_has (x ∷ xs) ys h = go (eqb x line_feed) h (unfed_has xs ys)
  where
    go : (t : Bool) → cond t true (has_feed xs) ≡ false → (has_feed xs ≡ false → has_feed (xs ++ ys) ≡ has_feed ys) → cond t true (has_feed (xs ++ ys)) ≡ has_feed ys
    go true k e = absurd (true≢false k)
    go false k e = e k

pub unfed_behind : (xs ys : List ℕ) → has_feed xs ≡ false → behind_first (xs ++ ys) ≡ behind_first ys
unfolding has_feed behind_first
unfed_behind [] ys h = refl
unfed_behind (x ∷ xs) ys h = go (eqb x line_feed) h (unfed_behind xs ys)
  where
    go : (t : Bool) → cond t true (has_feed xs) ≡ false → (has_feed xs ≡ false → behind_first (xs ++ ys) ≡ behind_first ys) →
        cond t (xs ++ ys) (behind_first (xs ++ ys)) ≡ behind_first ys
    go true k e = absurd (true≢false k)
    go false k e = e k

pub fed_line : (xs ys : List ℕ) → has_feed xs ≡ true → first_line (xs ++ ys) ≡ first_line xs
unfolding first_line has_feed
fed_line [] ys h = absurd (false≢true h)
fed_line (x ∷ xs) ys h = go (eqb x line_feed) h (fed_line xs ys)
  where
    go : (t : Bool) → cond t true (has_feed xs) ≡ true → (has_feed xs ≡ true → first_line (xs ++ ys) ≡ first_line xs) →
        cond t [] (x ∷ first_line (xs ++ ys)) ≡ cond t [] (x ∷ first_line xs)
    go true k e = refl
    go false k e = ap (λ l. x ∷ l) (e k)

pub fed_has : (xs ys : List ℕ) → has_feed xs ≡ true → has_feed (xs ++ ys) ≡ true
unfolding has_feed
fed_has [] ys h = absurd (false≢true h)
fed_has (x ∷ xs) ys h = go (eqb x line_feed) h (fed_has xs ys)
  where
    go : (t : Bool) → cond t true (has_feed xs) ≡ true → (has_feed xs ≡ true → has_feed (xs ++ ys) ≡ true) → cond t true (has_feed (xs ++ ys)) ≡ true
    go true k e = refl
    go false k e = e k

pub fed_behind : (xs ys : List ℕ) → has_feed xs ≡ true → behind_first (xs ++ ys) ≡ behind_first xs ++ ys
unfolding has_feed behind_first
fed_behind [] ys h = absurd (false≢true h)
fed_behind (x ∷ xs) ys h = go (eqb x line_feed) h (fed_behind xs ys)
  where
    go : (t : Bool) → cond t true (has_feed xs) ≡ true → (has_feed xs ≡ true → behind_first (xs ++ ys) ≡ behind_first xs ++ ys) →
        cond t (xs ++ ys) (behind_first (xs ++ ys)) ≡ cond t xs (behind_first xs) ++ ys
    go true k e = refl
    go false k e = e k
