-- The runs that touch a span: the first from the front, the last from the back, and between them every one.
use mathlib.Core.Path.{◌≡◌, refl, sym, ap, ap₂, subst⁻¹, ◌∙◌}
use mathlib.Core.Bool.{Bool, true, false, cond}
use mathlib.Core.List.{List, [], ◌∷◌, ◌++◌}
use Prim.Native.Nat.{ℕ, zero, suc, ◌+◌, ◌*◌, ◌^◌, ◌≤◌, ◌<◌, min, max}
use native.Mathlib.Nat.{add-zero, not-suc-le-zero, le_of_suc-le-suc}
use native.Mathlib.Omega.{arith}
use borrow.Author.Tests.{ltb-true, ltb-false, lt-ltb, le-ltb, eqb-false, ne_eqb}
use lib.Dec.{ltb, eqb}
use lib.ListN.{length, take, drop, take-append-drop, drop_of_length-le}
use mir.Syntax.{w64}
use mir.Val.{Fits}
use Rattle.units.specs.declared.WideTick.{WideTick}
use Rattle.runs.specs.declared.Run.{Run}
use Rattle.runs.specs.Words.{run_at, runs_of, run_end}
use Rattle.runs.specs.Shape.{run_held, runs_shaped, shaped}
use Rattle.runs.proofs.Opening.{runs_length, runs_from}
use Rattle.runs.proofs.Encoded.{run_facts, run_grows, first_held, shaped_drop}
use Rattle.runs.proofs.Tables.{used_words, runs_shaped_lem}
use Rattle.agreement.specs.declared.Record.{Record}
use Rattle.agreement.specs.declared.refusal.Refusal.TheVariants.{Disagreement, EmptySpan}
use Rattle.agreement.specs.Agreement.{agrees}
use Rattle.agreement.proofs.Agreeing.{agree_shaped}
use Rattle.std.specs.Prelude.{Err, Ok, Result}
use Rattle.agreement.specs.declared.refusal.Refusal.{Refusal}
use Rattle.lookups.specs.declared.Words.{Words}
use Rattle.lookups.specs.Spans.{touches, before_first, upto_last, touched_words, touching_words}
use Rattle.lookups.specs.Steps.{InTable}

-- ---- one run

-- a held run that starts before b touches exactly where it ends after a, if a lies before b
module _ (r : Run) (a b : ℕ) (held : run_held r ≡ true) (l : a < b) where
  run_some : r.start.0 < run_end r
  run_some = let f = run_facts r held in run_grows r f.lasts f.some

  pub touch_is : r.start.0 < b → (end : ℕ) → end ≡ run_end r → ltb a end ≡ touches a b r
  touch_is m end e = ap (ltb a) e ∙ go (ltb a (run_end r)) refl
    where
      go : (t : Bool) → ltb a (run_end r) ≡ t → t ≡ touches a b r
      go true e = let k : a < run_end r = ltb-true a (run_end r) e in sym (lt-ltb (max r.start.0 a) (min (run_end r) b) (omega (arith, run_some)))
      go false e = let k : run_end r ≤ a = ltb-false a (run_end r) e in sym (le-ltb (max r.start.0 a) (min (run_end r) b) (omega arith))

-- ---- the first and the last of a list

module _ (t : Run → Bool) where
  before_most : (rs : List Run) → before_first t rs ≤ length rs
  unfolding before_first
  before_most [] = omega arith
  before_most (r ∷ rs) = go (t r) (before_most rs)
    where
      go : (u : Bool) → before_first t rs ≤ length rs → cond u 0 (suc (before_first t rs)) ≤ suc (length rs)
      go true l = omega arith
      go false l = omega arith

  pub upto_most : (rs : List Run) → upto_last t rs ≤ length rs
  unfolding upto_last
  upto_most [] = omega arith
  upto_most (r ∷ rs) = go (eqb (upto_last t rs) 0) (t r) (upto_most rs)
    where
      go : (s u : Bool) → upto_last t rs ≤ length rs → cond s (cond u 1 0) (suc (upto_last t rs)) ≤ suc (length rs)
      go true true l = omega arith
      go true false l = omega arith
      go false u l = omega arith

  -- the first that touches stands before the last, or is it
  pub before_upto : (rs : List Run) → (upto_last t rs ≡ 0 → ⊥) → before_first t rs < upto_last t rs
  unfolding before_first upto_last
  before_upto [] o = absurd (o refl)
  before_upto (r ∷ rs) o = go (eqb (upto_last t rs) 0) refl (t r) o (before_upto rs)
    where
      go : (s : Bool) → eqb (upto_last t rs) 0 ≡ s → (u : Bool) → (cond s (cond u 1 0) (suc (upto_last t rs)) ≡ 0 → ⊥) → ((upto_last t rs ≡ 0 → ⊥) → before_first t rs < upto_last t rs) →
          cond u 0 (suc (before_first t rs)) < cond s (cond u 1 0) (suc (upto_last t rs))
      go true e true n ih = omega arith
      go true e false n ih = absurd (n refl)
      go false e true n ih = omega arith
      go false e false n ih = omega (arith, ih (eqb-false (upto_last t rs) 0 e))

  upto_end : (rs : List Run) (r : Run) → upto_last t (rs ++ r ∷ []) ≡ cond (t r) (suc (length rs)) (upto_last t rs)
  unfolding upto_last
  upto_end [] r = refl
  upto_end (x ∷ xs) r = go (t r) (upto_end xs r)
    where
      go : (u : Bool) → upto_last t (xs ++ r ∷ []) ≡ cond u (suc (length xs)) (upto_last t xs) →
          cond (eqb (upto_last t (xs ++ r ∷ [])) 0) (cond (t x) 1 0) (suc (upto_last t (xs ++ r ∷ []))) ≡
          cond u (suc (suc (length xs))) (cond (eqb (upto_last t xs) 0) (cond (t x) 1 0) (suc (upto_last t xs)))
      go true e =
          ap (λ (n : ℕ). cond (eqb n 0) (cond (t x) 1 0) (suc n)) e ∙
          ap (λ s. cond s (cond (t x) 1 0) (suc (suc (length xs)))) (ne_eqb (suc (length xs)) 0 (λ z. let y : ⊥ = omega arith in y))
      go false e = ap (λ (n : ℕ). cond (eqb n 0) (cond (t x) 1 0) (suc n)) e

-- ---- runs of a table

pub first_runs : (n m : ℕ) (ws : List ℕ) → n ≤ m → take n (runs_of m ws) ≡ runs_of n ws
unfolding runs_of
first_runs zero m ws l = refl
first_runs (suc n) zero ws l = absurd (not-suc-le-zero l)
first_runs (suc n) (suc m) ws l = ap (λ rs. run_at ws 0 ∷ rs) (first_runs n m (drop 3 ws) (le_of_suc-le-suc l))

run_end_lem : (n : ℕ) (ws : List ℕ) → runs_of (suc n) ws ≡ runs_of n ws ++ run_at ws (n * 3) ∷ []
run_end_lem n ws =
    let all : length (runs_of (suc n) ws) ≤ n + 1 = omega (arith, runs_length (suc n) ws) in
    let none : drop (n + 1) (runs_of (suc n) ws) ≡ [] = drop_of_length-le (runs_of (suc n) ws) all in
    sym (take-append-drop n (runs_of (suc n) ws)) ∙
    ap₂ ◌++◌ (first_runs n (suc n) ws (omega arith)) (runs_from (suc n) n ws (omega arith) ∙ ap (λ rs. run_at ws (n * 3) ∷ rs) none)

-- ---- the walk from the front, before the first run

module _ (used : ℕ) (ws : List ℕ) (before : ℕ) (left : List Run) (z : before ≡ 0) (e : left ≡ runs_of used ws) where
  pub front_counted : before + length left ≡ used
  front_counted = omega (arith, ap length e, runs_length used ws)

  pub front_first : (t : Run → Bool) → before + before_first t left ≡ before_first t (runs_of used ws)
  front_first t = omega (arith, ap (before_first t) e)

pub used_shaped : (used : ℕ) (ws : List ℕ) (left : List Run) → left ≡ runs_of used ws → shaped used ws ≡ true → runs_shaped left ≡ true
used_shaped used ws left e shape = ap runs_shaped e ∙ runs_shaped_lem used ws shape

pub front_fits : (before long used : ℕ) → before + long ≡ used → Fits w64 used → before + long < 2 ^ 64
front_fits before long used counted fits = omega (arith, fits.fits)

-- ---- at a run, the first of those that are left

module _ (t : Run → Bool) (before all : ℕ) (left : List Run) (so_far : before + before_first t left ≡ all) where
  pub front_none : (used : ℕ) → before + length left ≡ used → left ≡ [] → used ≡ all
  unfolding before_first
  front_none used counted none =
      let long : length left ≡ 0 = ap length none in
      let first : before_first t left ≡ 0 = ap (before_first t) none in
      omega arith

  module _ (r : Run) (rest : List Run) (opened : left ≡ r ∷ rest) (u : Bool) (f : u ≡ t r) where
    front_opens : before + cond u 0 (suc (before_first t rest)) ≡ all
    unfolding before_first
    front_opens = ap (λ v. before + cond v 0 (suc (before_first t rest))) f ∙ ap (λ rs. before + before_first t rs) (sym opened) ∙ so_far

    pub front_found : u ≡ true → before ≡ all
    front_found y = sym (add-zero before) ∙ ap (λ v. before + cond v 0 (suc (before_first t rest))) (sym y) ∙ front_opens

    pub front_again : (next : ℕ) → next ≡ before + 1 → u ≡ false → next + before_first t rest ≡ all
    front_again next e n =
        let one : before + suc (before_first t rest) ≡ all = ap (λ v. before + cond v 0 (suc (before_first t rest))) (sym n) ∙ front_opens in
        omega arith

pub counted_more : (left : List Run) (r : Run) (rest : List Run) → left ≡ r ∷ rest → (before next used : ℕ) → before + length left ≡ used → next ≡ before + 1 → next + length rest ≡ used
counted_more left r rest opened before next used counted e = omega (arith, ap length opened)

pub left_held : (left : List Run) (r : Run) (rest : List Run) → left ≡ r ∷ rest → runs_shaped left ≡ true → run_held r ≡ true
left_held left r rest opened shape = first_held r rest (ap runs_shaped (sym opened) ∙ shape)

-- ---- the walk from the back

pub used_held : (used : ℕ) (ws : List ℕ) → shaped used ws ≡ true → (j : ℕ) (x : Run) → j < used → x ≡ run_at ws (j * 3) → run_held x ≡ true
used_held used ws shape j x l e =
    ap run_held e ∙
    first_held (run_at ws (j * 3)) (drop (j + 1) (runs_of used ws))
    (ap runs_shaped (sym (runs_from used j ws l)) ∙ shaped_drop j (runs_of used ws) (runs_shaped_lem used ws shape))

module _ (t : Run → Bool) (ws : List ℕ) (used left j : ℕ) (so_far : upto_last t (runs_of left ws) ≡ upto_last t (runs_of used ws)) (one : j + 1 ≡ left) where
  module _ (x : Run) (e : x ≡ run_at ws (j * 3)) (u : Bool) (f : u ≡ t x) where
    back_opens : cond u (j + 1) (upto_last t (runs_of j ws)) ≡ upto_last t (runs_of used ws)
    back_opens =
        let size : j + 1 ≡ suc (length (runs_of j ws)) = omega (arith, runs_length j ws) in
        let next : suc j ≡ left = omega arith in
        ap₂ (λ v (n : ℕ). cond v n (upto_last t (runs_of j ws))) (f ∙ ap t e) size ∙
        sym (upto_end t (runs_of j ws) (run_at ws (j * 3))) ∙
        ap (upto_last t) (sym (run_end_lem j ws)) ∙
        ap (λ (n : ℕ). upto_last t (runs_of n ws)) next ∙
        so_far

    pub back_found : u ≡ true → j + 1 ≡ upto_last t (runs_of used ws)
    back_found y = ap (λ v. cond v (j + 1) (upto_last t (runs_of j ws))) (sym y) ∙ back_opens

    pub back_again : u ≡ false → upto_last t (runs_of j ws) ≡ upto_last t (runs_of used ws)
    back_again n = ap (λ v. cond v (j + 1) (upto_last t (runs_of j ws))) (sym n) ∙ back_opens

pub back_none : (t : Run → Bool) (ws : List ℕ) (used left : ℕ) → upto_last t (runs_of left ws) ≡ upto_last t (runs_of used ws) → left ≡ 0 → 0 ≡ upto_last t (runs_of used ws)
unfolding upto_last runs_of
back_none t ws used left so_far none = ap (λ (n : ℕ). upto_last t (runs_of n ws)) (sym none) ∙ so_far

-- ---- the words

module _ (a b : ℕ) (ws : List ℕ) (used : ℕ) where
  module _ (upto : ℕ) (e : upto ≡ upto_last (touches a b) (runs_of used ws)) where
    pub upto_fits : shaped used ws ≡ true → length ws < 2 ^ 64 → Fits w64 (3 * upto)
    upto_fits sh l =
        record { fits = omega (arith, e, upto_most (touches a b) (runs_of used ws), runs_length used ws, used_words used ws sh) }

  pub from_fits : (from : ℕ) → from ≡ before_first (touches a b) (runs_of used ws) → shaped used ws ≡ true → length ws < 2 ^ 64 → Fits w64 (3 * from)
  from_fits from f sh l =
      record { fits = omega (arith, f, before_most (touches a b) (runs_of used ws), runs_length used ws, used_words used ws sh) }

  words_inside : shaped used ws ≡ true → InTable (length ws) (Ok (touched_words a b (runs_of used ws)))
  words_inside sh = go (eqb (upto_last (touches a b) (runs_of used ws)) 0) refl
    where
      go : (s : Bool) → eqb (upto_last (touches a b) (runs_of used ws)) 0 ≡ s →
          InTable (length ws) (Ok (cond s (record { from = 0; to = 0 }) (record { from = 3 * before_first (touches a b) (runs_of used ws); to = 3 * upto_last (touches a b) (runs_of used ws) })))
      go true e = (omega arith, omega arith)
      go false e =
          let l : before_first (touches a b) (runs_of used ws) < upto_last (touches a b) (runs_of used ws) = before_upto (touches a b) (runs_of used ws) (eqb-false (upto_last (touches a b) (runs_of used ws)) 0 e) in
          (omega arith, omega (arith, upto_most (touches a b) (runs_of used ws), runs_length used ws, used_words used ws sh))

-- ---- the part

module _ (rec : Record) (ws : List ℕ) (a b : WideTick) where
  span_inside : InTable (length ws) (touching_words rec ws a b)
  span_inside = go (agrees rec ws) refl (ltb a.0 b.0)
    where
      go : (s : Bool) → agrees rec ws ≡ s → (t : Bool) → InTable (length ws) (cond s (cond t (Ok (touched_words a.0 b.0 (runs_of rec.used ws))) (Err EmptySpan)) (Err Disagreement))
      go true e true = words_inside a.0 b.0 ws rec.used (agree_shaped rec ws e)
      go true e false = tt
      go false e t = tt

  pub part_inside : (x : Result Words Refusal) → x ≡ touching_words rec ws a b → InTable (length ws) x
  part_inside x e = subst⁻¹ (InTable (length ws)) e span_inside
