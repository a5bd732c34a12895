-- A walk over the runs of a shaped table: what is known at each run, how many references have passed, where a drop cuts.
use mathlib.Core.Path.{◌≡◌, sym, ap, subst, ◌∙◌}
use mathlib.Core.Bool.{true}
use Prim.Native.Nat.{ℕ, ◌+◌, ◌-◌, ◌*◌, ◌^◌, ◌≤◌, ◌<◌}
use native.Mathlib.Nat.{add-zero, le_of_lt, le_refl}
use native.Mathlib.Numerals.{add-one}
use native.Mathlib.Omega.{arith}
use mathlib.Core.List.{List, [], ◌∷◌, ◌++◌}
use lib.ListN.{length, take, drop, get_or, length-append, length-drop, drop_of_length-le}
use lib.Seq.{take-suc, take_all}
use mir.Syntax.{w64}
use mir.Val.{Fits}
use Rattle.runs.specs.declared.Run.{Run}
use Rattle.runs.specs.Words.{run_at, runs_of, run_end, references_of, kept_in}
use Rattle.runs.specs.Shape.{shaped, runs_shaped}
use Rattle.runs.specs.Steps.{passed_upto, CutAt}
use Rattle.runs.proofs.Opening.{runs_length, run_counted, runs_from, repeated_length, references_in}
use Rattle.runs.proofs.Encoded.{Leads, leads, starts}
use Rattle.runs.proofs.Tables.{used_words}
use Rattle.runs.proofs.EndToStart.{references_append, references_of_run, references_join, kept_few}
use Rattle.runs.proofs.Ends.{passed_append, passed_most, none_upto, ends_past}

pub place_there : (used : ℕ) (ws : List ℕ) → shaped used ws ≡ true → (j : ℕ) → j < used → j * 3 + 2 < length ws
place_there used ws shape j l = omega (arith, used_words used ws shape)

-- ---- at a run, the first of those that are left

module _ (left : List Run) (good : runs_shaped left ≡ true) (r : Run) (rest : List Run) (opened : left ≡ r ∷ rest) where
  leading : Leads r rest
  leading = leads r rest (ap runs_shaped (sym opened) ∙ good)

  pub span_lasts : 1 ≤ r.span.0
  span_lasts = leading.lasts

  pub rest_shaped : runs_shaped rest ≡ true
  rest_shaped = leading.rest

  -- how many have passed by tick t, of the runs before this one and of this one
  module _ (t passed here all : ℕ) (so_far : passed + passed_upto t (references_of left) ≡ all) (h : here ≡ passed_upto t (references_in r)) where
    pub passed_more : passed + here + passed_upto t (references_of rest) ≡ all
    unfolding references_of
    passed_more =
        let split : passed_upto t (references_of left) ≡ here + passed_upto t (references_of rest) =
        ap (λ rs. passed_upto t (references_of rs)) opened ∙
        passed_append t (references_in r) (references_of rest) ∙
        ap (λ n. n + passed_upto t (references_of rest)) (sym h) in
        omega arith

    -- a run that has not passed whole: none behind it has passed
    pub passed_here : here < r.count → passed + here ≡ all
    passed_here m =
        let past : t < run_end r = ends_past t r.start.0 r.span.0 r.count span_lasts (rw h at m) in
        let none : passed_upto t (references_of rest) ≡ 0 =
        none_upto t (run_end r) (references_of rest) (references_join (run_end r) rest leading.rest (starts r rest leading.next)) past in
        omega (arith, passed_more)

pub passed_whole : (left : List Run) (t passed all : ℕ) → passed + passed_upto t (references_of left) ≡ all → left ≡ [] → passed ≡ all
unfolding references_of passed_upto
passed_whole left t passed all e none = sym (add-zero passed) ∙ ap (λ rs. passed + passed_upto t (references_of rs)) (sym none) ∙ e

-- no more references are kept than there are ticks
pub passed_fits : (used : ℕ) (ws : List ℕ) → shaped used ws ≡ true → (t n more : ℕ) → n + more ≡ passed_upto t (kept_in used ws) → Fits w64 n
passed_fits used ws shape t n more e = record { fits = omega (arith, passed_most t (kept_in used ws), kept_few used ws shape) }

-- ---- where a drop cuts

module _ (used : ℕ) (ws : List ℕ) (j : ℕ) (left : List Run) (so_far : left ≡ drop j (runs_of used ws)) where
  behind : length left ≡ used - j
  behind = ap length so_far ∙ length-drop j (runs_of used ws) ∙ ap (λ n. n - j) (runs_length used ws)

  module _ (r : Run) (rest : List Run) (opened : left ≡ r ∷ rest) where
    there : j < used
    there = let some : length left ≡ length rest + 1 = ap length opened ∙ sym (add-one (length rest)) in omega (arith, behind)

    -- the run at the front of what is left, and what is left behind it
    parts : r ∷ rest ≡ run_at ws (j * 3) ∷ drop (j + 1) (runs_of used ws)
    parts = sym opened ∙ so_far ∙ runs_from used j ws there

    module _ (k : ℕ) (next : k ≡ j + 1) where
      pub left_more : rest ≡ drop k (runs_of used ws)
      left_more = ap (drop 1) parts ∙ ap (λ n. drop n (runs_of used ws)) (sym next)

      -- the count of the runs passed and those that are left fits
      pub count_fits : Fits w64 used → k + length rest < 2 ^ 64
      count_fits fits = omega (arith, fits.fits, there, ap length left_more, length-drop k (runs_of used ws), runs_length used ws)

    module _ (dropped into : ℕ) (so_many : length (references_of (take j (runs_of used ws))) + into ≡ dropped) where
      pub cut_more : (k : ℕ) → k ≡ j + 1 → r.count ≤ into → length (references_of (take k (runs_of used ws))) + (into - r.count) ≡ dropped
      cut_more k next m =
          let rs : List Run = runs_of used ws in
          let e : run_at ws (j * 3) ≡ r = ap (λ xs. get_or xs 0 r) (sym parts) in
          let one_more : take k rs ≡ take j rs ++ r ∷ [] =
          ap (λ n. take n rs) (next ∙ add-one j) ∙
          take-suc rs j r (rw runs_length there) ∙
          ap (λ x. take j rs ++ x ∷ []) (run_counted used ws j r there ∙ e) in
          let long : length (references_of (take k rs)) ≡ length (references_of (take j rs)) + r.count =
          ap (λ xs. length (references_of xs)) one_more ∙
          ap length (references_append (take j rs) (r ∷ [])) ∙
          length-append (references_of (take j rs)) (references_of (r ∷ [])) ∙
          ap (λ xs. length (references_of (take j rs)) + length xs) (references_of_run r) ∙
          ap (λ n. length (references_of (take j rs)) + n) (repeated_length r.start.0 r.span.0 r.count) in
          omega arith

      pub cut_here : (i : ℕ) → i ≡ j → into < r.count → CutAt dropped (runs_of used ws) i into
      cut_here i is m =
          let inside : CutAt dropped (runs_of used ws) j into =
          record { within = rw runs_length (le_of_lt there); counted = so_many; inside = rw (sym so_far ∙ opened) m } in
          subst (λ n. CutAt dropped (runs_of used ws) n into) (sym is) inside

  pub cut_all : (dropped into : ℕ) → length (references_of (take j (runs_of used ws))) + into ≡ dropped → left ≡ [] → CutAt dropped (runs_of used ws) used into
  cut_all dropped into e none =
      let rs : List Run = runs_of used ws in
      let none_left : length left ≡ 0 = ap length none in
      let long : used ≤ j = omega (arith, behind) in
      let same : take used rs ≡ take j rs = take_all used rs (rw runs_length (le_refl used)) ∙ sym (take_all j rs (rw runs_length long)) in
      record {
        within = rw runs_length (le_refl used);
        counted = ap (λ xs. length (references_of xs) + into) same ∙ e;
        inside = rw (drop_of_length-le rs {i = used} (rw runs_length (le_refl used))) tt;
      }

-- ---- before the first run

module _ (used : ℕ) (ws : List ℕ) (count : ℕ) (left : List Run) (z : count ≡ 0) (e : left ≡ runs_of used ws) where
  pub first_fits : Fits w64 used → count + length left < 2 ^ 64
  first_fits fits = omega (arith, fits.fits, ap length e, runs_length used ws)

  pub first_left : left ≡ drop count (runs_of used ws)
  first_left = e ∙ ap (λ n. drop n (runs_of used ws)) (sym z)

pub cut_none : (rs : List Run) (count dropped : ℕ) → count ≡ 0 → length (references_of (take count rs)) + dropped ≡ dropped
unfolding references_of
cut_none rs count dropped z =
    let none : length (references_of (take count rs)) ≡ 0 = ap (λ n. length (references_of (take n rs))) z in
    omega arith
