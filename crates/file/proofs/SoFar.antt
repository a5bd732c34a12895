-- A line so far: it is told by its first bytes, it goes on as the bytes do, and one byte behind it is one more.
use mathlib.Core.Path.{◌≡◌, refl, sym, ap, ap₂, ◌∙◌}
use mathlib.Core.Bool.{Bool, true, false, ◌&&◌}
use mathlib.Core.List.{List, [], ◌∷◌, ◌++◌, append_assoc, append-nil}
use Prim.Native.Nat.{ℕ, zero, suc, ◌+◌, ◌-◌, ◌≤◌, min}
use native.Mathlib.Omega.{arith}
use borrow.Author.Tests.{le-leb, leb-true, leb-false}
use lib.Dec.{eqb, leb}
use lib.ListN.{length, take, drop, replicate, take-append-drop, length-append, length-take, length-drop}
use lib.Seq.{take_all, take_at, drop_at, length-take-le}
use Rattle.std.proofs.Math.Seq.{take-append-add}
use Rattle.std.proofs.lemmas.List.{drop-replicate, take_min, take-append-le}
use Rattle.std.specs.List.{list_all}
use Rattle.runs.specs.Shape.{zeros}
use Rattle.runs.proofs.Tables.{zeros_are, are_zeros}
use Rattle.file.specs.declared.LineSoFar.{LineSoFar}
use Rattle.file.specs.SoFar.{most_bytes, so_far, first_bytes, goes_on, proper}

-- ---- the first n of some bytes

pub first_more : (n : ℕ) (b ys : List ℕ) → take n (take n b ++ ys) ≡ take n (b ++ ys)
first_more zero b ys = refl
first_more (suc n) [] ys = refl
first_more (suc n) (x ∷ b) ys = ap (λ l. x ∷ l) (first_more n b ys)

-- ---- lines of the same first bytes are the same

abbrev line : List ℕ → ℕ → LineSoFar
line bytes count = record { bytes = bytes; count = count }

module _ (a b : List ℕ) (e : take most_bytes a ≡ take most_bytes b) where
  same_count : min most_bytes (length a) ≡ min most_bytes (length b)
  same_count = sym (length-take most_bytes a) ∙ ap length e ∙ length-take most_bytes b

  same_bytes : take most_bytes a ++ replicate (most_bytes - length a) 0 ≡ take most_bytes b ++ replicate (most_bytes - length b) 0
  same_bytes =
      let room : most_bytes - length a ≡ most_bytes - length b = omega (arith, same_count) in
      ap₂ ◌++◌ e (ap (λ (m : ℕ). replicate m 0) room)

  pub same_line : so_far a ≡ so_far b
  unfolding so_far
  same_line = ap₂ line same_bytes same_count

-- a line has the first of the bytes that have come
pub first_bytes_lem : (come : List ℕ) → first_bytes (so_far come) ≡ take most_bytes come
unfolding so_far
first_bytes_lem come = take_at (take most_bytes come) (replicate (most_bytes - length come) 0) (min most_bytes (length come)) (length-take most_bytes come)

-- THE LAW: it goes on as the bytes do
pub goes_on_lem : (come part : List ℕ) → goes_on (so_far come) part ≡ so_far (come ++ part)
goes_on_lem come part =
    same_line (first_bytes (so_far come) ++ part) (come ++ part)
    (ap (λ (l : List ℕ). take most_bytes (l ++ part)) (first_bytes_lem come) ∙ first_more most_bytes come part)

-- ---- a proper line is the line of its first bytes

abbrev pub is_zero : ℕ → Bool
is_zero b = eqb b 0

-- as the code tests it
pub zeros_all : (bs : List ℕ) → list_all is_zero bs ≡ zeros bs
unfolding zeros
zeros_all [] = refl
zeros_all (b ∷ bs) = ap (λ (t : Bool). is_zero b && t) (zeros_all bs)

pub rest_whole : (l : LineSoFar) → length l.bytes ≡ most_bytes → take (most_bytes - l.count) (drop l.count l.bytes) ≡ drop l.count l.bytes
rest_whole l long = take_all (most_bytes - l.count) (drop l.count l.bytes) (omega (arith, length-drop l.count l.bytes))

pub is_proper : (come : List ℕ) → proper (so_far come) ≡ true
unfolding so_far
is_proper come =
    let n : ℕ = most_bytes - length come in
    ap₂ ◌&&◌
    (le-leb (min most_bytes (length come)) most_bytes (omega arith))
    (ap zeros (drop_at (take most_bytes come) (replicate n 0) (min most_bytes (length come)) (length-take most_bytes come)) ∙ are_zeros n)

module _ (l : LineSoFar) (long : length l.bytes ≡ most_bytes) (short : l.count ≤ most_bytes) (clear : zeros (drop l.count l.bytes) ≡ true) where
  counted : length (first_bytes l) ≡ l.count
  counted = length-take-le l.count l.bytes (omega arith)

  pub of_first : l ≡ so_far (first_bytes l)
  unfolding so_far
  of_first =
      let few : l.count ≡ min most_bytes (length (first_bytes l)) = omega (arith, counted) in
      let room : length (drop l.count l.bytes) ≡ most_bytes - length (first_bytes l) = length-drop l.count l.bytes ∙ omega (arith, counted) in
      ap₂ line
      (sym (take-append-drop l.count l.bytes) ∙
      ap₂ ◌++◌ (sym (take_all most_bytes (first_bytes l) (omega (arith, counted)))) (zeros_are (drop l.count l.bytes) clear ∙ ap (λ (m : ℕ). replicate m 0) room))
      few

-- ---- a part behind a line of which `come` has come, as much of it as there is room for

module _ (l : LineSoFar) (come : List ℕ) (e : l ≡ so_far come) where
  count_is : l.count ≡ min most_bytes (length come)
  unfolding so_far
  count_is = ap (λ (x : LineSoFar). x.count) e

  bytes_are : l.bytes ≡ take most_bytes come ++ replicate (most_bytes - length come) 0
  unfolding so_far
  bytes_are = ap (λ (x : LineSoFar). x.bytes) e

  module _ (n : ℕ) (m : n ≡ min l.count most_bytes) (part : List ℕ) (k : ℕ) (f : k ≡ min (length part) (most_bytes - n)) where
    long : length (take most_bytes come) ≡ n
    long = length-take most_bytes come ∙ omega (arith, count_is)

    front : take n l.bytes ≡ take most_bytes come
    front = ap (take n) bytes_are ∙ take_at (take most_bytes come) (replicate (most_bytes - length come) 0) n long

    behind : (j : ℕ) → drop j (drop n l.bytes) ≡ replicate (most_bytes - length come - j) 0
    behind j =
        ap (λ (bs : List ℕ). drop j (drop n bs)) bytes_are ∙
        ap (drop j) (drop_at (take most_bytes come) (replicate (most_bytes - length come) 0) n long) ∙
        drop-replicate j (most_bytes - length come) 0

    joined : take most_bytes (come ++ part) ≡ take most_bytes come ++ take k part
    joined = go (leb (length come) most_bytes) refl
      where
        go : (t : Bool) → leb (length come) most_bytes ≡ t → take most_bytes (come ++ part) ≡ take most_bytes come ++ take k part
        go true b =
            let short = leb-true (length come) most_bytes b in
            let whole : most_bytes ≡ length come + (most_bytes - length come) = omega arith in
            let room : min (most_bytes - length come) (length part) ≡ k = omega (arith, count_is) in
            ap (λ (i : ℕ). take i (come ++ part)) whole ∙
            take-append-add come part (most_bytes - length come) ∙
            ap₂ ◌++◌ (sym (take_all most_bytes come short))
            (sym (take_min (most_bytes - length come) part) ∙ ap (λ (i : ℕ). take i part) room)
        go false b =
            let more = leb-false (length come) most_bytes b in
            let none : 0 ≡ k = omega (arith, count_is) in
            take-append-le most_bytes come part (omega arith) ∙
            sym (append-nil (take most_bytes come)) ∙
            ap (λ (i : ℕ). take most_bytes come ++ take i part) none

    pub with_is : (mid : List ℕ) → mid ≡ take (n + k - n) part →
        line (take n l.bytes ++ (mid ++ drop (n + k - n) (drop n l.bytes))) (n + k) ≡ so_far (come ++ part)
    unfolding so_far
    with_is mid i =
        let some : n + k - n ≡ k = omega arith in
        let left : most_bytes - length come - (n + k - n) ≡ most_bytes - length (come ++ part) = omega (arith, count_is, length-append come part) in
        let few : n + k ≡ min most_bytes (length (come ++ part)) = omega (arith, count_is, length-append come part) in
        ap₂ line
        (ap₂ (λ (a b : List ℕ). a ++ (mid ++ b)) front (behind (n + k - n)) ∙
        sym (append_assoc (take most_bytes come) mid (replicate (most_bytes - length come - (n + k - n)) 0)) ∙
        ap₂ ◌++◌
        (ap (λ (b : List ℕ). take most_bytes come ++ b) (i ∙ ap (λ (h : ℕ). take h part) some) ∙ sym joined)
        (ap (λ (h : ℕ). replicate h 0) left))
        few

-- ---- a part behind a line of any fields

pub more_is : (l z f r : LineSoFar) (part first : List ℕ) → z ≡ so_far [] → first ≡ first_bytes l → ((come : List ℕ) → z ≡ so_far come → f ≡ so_far (come ++ first)) →
    ((come : List ℕ) → f ≡ so_far come → r ≡ so_far (come ++ part)) → r ≡ goes_on l part
more_is l z f r part first a e b c = c (first_bytes l) (b [] a ∙ ap so_far e)
