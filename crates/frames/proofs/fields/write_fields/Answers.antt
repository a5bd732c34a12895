use mathlib.Core.Path.{◌≡◌, refl, sym, ◌∙◌, ap, ap₂}
use mathlib.Core.List.{List, [], ◌∷◌, ◌++◌, append-nil, append_assoc}
use mathlib.Core.Logic.{◌⊎◌, inl, inr}
use Prim.Native.Nat.{ℕ, ◌+◌, ◌-◌, ◌*◌, ◌≤◌, ◌<◌}
use native.Mathlib.Nat.{le_trans, add-sub_cancel_left, zero-add}
use native.Mathlib.Numerals.{add-one}
use native.Mathlib.Omega.{arith}
use lib.ListN.{length, take, drop, set, length-append}
use lib.Seq.{drop-drop, take_at, set_split, length-take-le}
use borrow.Rule.Slice.PartMut.{put_mid, same_len_mid, mid_len, drop_put}
use Rattle.hexdigits.specs.Digits.{digits_of}
use Rattle.hexdigits.proofs.Widths.{length_digits}
use Rattle.frames.specs.Fields.{digit_count, field_digits}
use Rattle.frames.proofs.fields.write_fields.Invariants.{Written}
use Rattle.frames.proofs.fields.write_fields.Goals as goal

begun : (out ws vs us xs : List ℕ) → digit_count ws < length out → length vs ≡ length ws → us ≡ ws → xs ≡ vs → Written out ws vs us xs out 0
begun out ws vs us xs h l e f =
    record { paired = ap length f ∙ l ∙ sym (ap length e); passed = rw e (zero-add (digit_count ws)); long = refl; room = omega arith; front = rw (e, f); behind = refl }

-- what lies before the end of a part that has come back
take_through : (a e : ℕ) (xs ys : List ℕ) → a ≤ e → e ≤ length xs → length ys ≡ e - a → take e (put_mid a (e - a) xs ys) ≡ take a xs ++ ys
take_through a e xs ys h g l =
    ap (take e) (sym (append_assoc (take a xs) ys (drop (e - a) (drop a xs)))) ∙
    take_at (take a xs ++ ys) (drop (e - a) (drop a xs)) e
    (length-append (take a xs) ys ∙ rw (length-take-le a xs (le_trans h g)) (omega arith))

module _ (out₀ ws vs us xs out : List ℕ) (at : ℕ) (t : Written out₀ ws vs us xs out at) where
  still_behind : (n : ℕ) → drop (at + n) out ≡ drop (at + n) out₀
  still_behind n = sym (drop-drop n at out) ∙ ap (drop n) t.behind ∙ drop-drop n at out₀

  module _ (w v : ℕ) (us' xs' : List ℕ) (eu : us ≡ w ∷ us') (ex : xs ≡ v ∷ xs') where
    -- a field ends within the row
    part_within : at + 2 * w ≤ length out
    part_within = omega (arith, t.long, t.room, rw eu at t.passed)

    turn : (ys : List ℕ) → ys ≡ digits_of (length (take ((at + 2 * w) - at) (drop at out))) v
        → Written out₀ ws vs us' xs' (put_mid at ((at + 2 * w) - at) out ys) (at + 2 * w)
    unfolding field_digits
    turn ys e =
        let n = 2 * w in
        let within : at + n ≤ length out = part_within in
        let start : at ≤ at + n = omega arith in
        let lent = mid_len at (at + n) out within in
        let digits : ys ≡ digits_of n v = e ∙ ap (λ (m : ℕ). digits_of m v) (lent ∙ add-sub_cancel_left at n) in
        let many : length ys ≡ (at + n) - at = ap length digits ∙ length_digits n v ∙ sym (add-sub_cancel_left at n) in
        let later = field_digits us' xs' in
        let pairs : length (v ∷ xs') ≡ length (w ∷ us') = rw (eu, ex) at t.paired in
        let came : at + (2 * w + digit_count us') ≡ digit_count ws = rw eu at t.passed in
        record {
          paired = omega arith;
          passed = omega arith;
          long = same_len_mid at ((at + n) - at) out ys (many ∙ sym lent) ∙ t.long;
          room = t.room;
          front =
              ap (λ (s : List ℕ). s ++ later) (take_through at (at + n) out ys start within many) ∙
              append_assoc (take at out) ys later ∙
              ap (λ (s : List ℕ). take at out ++ (s ++ later)) digits ∙
              (rw (eu, ex) at t.front);
          behind = drop_put at (at + n) out ys start within many ∙ still_behind n;
        }

  module _ (eu : us ≡ []) where
    row_passed : at ≡ digit_count ws
    row_passed = omega (arith, rw eu at t.passed)

    done : digit_count ws < length out₀ → set out at 10 ≡ field_digits ws vs ++ 10 ∷ drop (digit_count ws + 1) out₀
    unfolding field_digits
    done r =
        set_split out at 10 (omega (arith, t.long, row_passed)) ∙
        ap₂ (λ (a b : List ℕ). a ++ 10 ∷ b)
        (sym (append-nil (take at out)) ∙ (rw eu at t.front))
        (ap (λ (m : ℕ). drop m out) (sym (add-one at)) ∙
        still_behind 1 ∙
        ap (λ (m : ℕ). drop (m + 1) out₀) row_passed)

-- a pair of iterators stops where one of them is at its end
none_left : {X Y : Type 0} {P : X → Type 0} {Q : Y → Type 0} (us xs : List ℕ) → length xs ≡ length us →
    ((x : X) × ((length us ≡ 0) × P x)) ⊎ ((y : Y) × ((length xs ≡ 0) × Q y)) → us ≡ []
none_left [] xs l e = refl
none_left (u ∷ us) xs l (inl e) = let h = e.1.0 in let z : ⊥ = omega arith in absurd z
none_left (u ∷ us) xs l (inr e) = let h = e.1.0 in let z : ⊥ = omega arith in absurd z

pub loop-width-init : goal.loop-width-init
loop-width-init g c =
    begun _ _ _ _ _ c.requires (c.told-values ∙ sym c.told-widths)
    (cc (c.into_iter-width-iterator.ensures.into_iter_gives, c.zip-width-items.ensures.first, c.iter.ensures.rest))
    (cc (c.into_iter-width-iterator.ensures.into_iter_gives, c.zip-width-items.ensures.second.0))

pub overflow_mul-end : goal.overflow_mul-end
overflow_mul-end g c =
    let s = c.in-Some.ensures.steps in
    omega (arith, part_within _ _ _ _ _ _ _ c.loop-width.invariant _ _ _ _ s.0 s.1)

pub overflow_add-end : goal.overflow_add-end
overflow_add-end g c =
    let s = c.in-Some.ensures.steps in
    omega (arith, part_within _ _ _ _ _ _ _ c.loop-width.invariant _ _ _ _ s.0 s.1)

pub slice_bounds-write_digits-end : goal.slice_bounds-write_digits-end
slice_bounds-write_digits-end g c =
    let s = c.in-Some.ensures.steps in
    part_within _ _ _ _ _ _ _ c.loop-width.invariant _ _ _ _ s.0 s.1

pub loop-width-preserved : goal.loop-width-preserved
loop-width-preserved g c =
    let s = c.in-Some.ensures.steps in
    turn _ _ _ _ _ _ _ c.loop-width.invariant _ _ _ _ s.0 s.1 _ c.write_digits.ensures

pub returns : goal.returns
returns g c =
    let t = c.loop-width.invariant in
    let e = none_left _ _ t.paired c.in-None.ensures.steps in
    (ap (λ (n : ℕ). n + 1) (row_passed _ _ _ _ _ _ _ t e), done _ _ _ _ _ _ _ t e c.requires)
