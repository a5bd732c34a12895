-- Words opened as runs, run by run, and runs written back as words.
use mathlib.Core.Path.{◌≡◌, refl, sym, ap, ap₂, ◌∙◌}
use Prim.Native.Nat.{ℕ, zero, suc, ◌+◌, ◌-◌, ◌*◌, ◌≤◌, ◌<◌}
use native.Mathlib.Nat.{add_assoc, add-zero, not-suc-le-zero, le_of_suc-le-suc, le_refl}
use native.Mathlib.Numerals.{add-one, sub-one}
use native.Mathlib.Omega.{arith}
use mathlib.Core.List.{List, [], ◌∷◌, ◌++◌}
use lib.ListN.{length, get_or, take, drop, length-append}
use lib.Seq.{get_or-drop, drop-drop, drop-cons, take-suc, take_all}
use Rattle.window.specs.declared.Reference.{Reference}
use Rattle.runs.specs.declared.Run.{Run}
use Rattle.runs.specs.Words.{run_at, last_run, runs_of, words_of, repeated, references_of, total_count}

-- ---- lengths

pub runs_length : (n : ℕ) (ws : List ℕ) → length (runs_of n ws) ≡ n
unfolding runs_of
runs_length zero ws = refl
runs_length (suc n) ws = ap suc (runs_length n (drop 3 ws))

pub words_length : (rs : List Run) → length (words_of rs) ≡ 3 * length rs
unfolding words_of
words_length [] = refl
words_length (r ∷ rs) = omega (arith, words_length rs)

pub repeated_length : (s d n : ℕ) → length (repeated s d n) ≡ n
unfolding repeated
repeated_length s d zero = refl
repeated_length s d (suc n) = ap suc (repeated_length (s + d) d n)

-- the references of one run
abbrev pub references_in : Run → List Reference
references_in r = repeated r.start.0 r.span.0 r.count

pub references_length : (rs : List Run) → length (references_of rs) ≡ total_count rs
unfolding references_of total_count
references_length [] = refl
references_length (r ∷ rs) =
    length-append (references_in r) (references_of rs) ∙
    ap₂ ◌+◌ (repeated_length r.start.0 r.span.0 r.count) (references_length rs)

-- ---- a run at a place

run_behind : (n i : ℕ) (ws : List ℕ) → run_at (drop n ws) i ≡ run_at ws (n + i)
run_behind n i ws = simp (get_or-drop, add_assoc)

pub run_opens : (l i : ℕ) (ws : List ℕ) → 0 < l → runs_of l (drop i ws) ≡ run_at ws i ∷ runs_of (l - 1) (drop (i + 3) ws)
unfolding runs_of
run_opens zero i ws some = absurd (not-suc-le-zero some)
run_opens (suc l) i ws some = ap₂ ◌∷◌ (run_behind i 0 ws ∙ ap (run_at ws) (add-zero i)) (ap₂ runs_of (sym (sub-one (suc l))) (drop-drop 3 i ws))

pub run_counted : (n : ℕ) (ws : List ℕ) (j : ℕ) (other : Run) → j < n → get_or (runs_of n ws) j other ≡ run_at ws (j * 3)
unfolding runs_of
run_counted zero ws j other l = absurd (not-suc-le-zero l)
run_counted (suc n) ws zero other l = refl
run_counted (suc n) ws (suc j) other l = run_counted n (drop 3 ws) j other (le_of_suc-le-suc l) ∙ run_behind 3 (j * 3) ws ∙ ap (run_at ws) (omega arith)

-- the runs from one on: that run, and those from the next on
pub runs_from : (n j : ℕ) (ws : List ℕ) → j < n → drop j (runs_of n ws) ≡ run_at ws (j * 3) ∷ drop (j + 1) (runs_of n ws)
runs_from n j ws l =
    drop-cons (runs_of n ws) j (run_at ws 0) (rw runs_length l) ∙
    ap₂ (λ r k. r ∷ drop k (runs_of n ws)) (run_counted n ws j (run_at ws 0) l) (sym (add-one j))

-- the runs up to the last, and the last
pub last_opens : (n : ℕ) (ws : List ℕ) → (n ≡ 0 → ⊥) → runs_of n ws ≡ take (n - 1) (runs_of n ws) ++ last_run n ws ∷ []
last_opens n ws some =
    let all : suc (n - 1) ≡ n = omega arith in
    let place : (n - 1) * 3 ≡ n * 3 - 3 = omega arith in
    sym (take_all n (runs_of n ws) (rw runs_length (le_refl n))) ∙
    ap (λ k. take k (runs_of n ws)) (sym all) ∙
    take-suc (runs_of n ws) (n - 1) (run_at ws 0) (rw runs_length (omega arith)) ∙
    ap (λ r. take (n - 1) (runs_of n ws) ++ r ∷ []) (run_counted n ws (n - 1) (run_at ws 0) (omega arith) ∙ ap (run_at ws) place)

-- ---- words, written back

three_more : (n : ℕ) → suc (suc (suc (3 * n))) ≡ 3 * suc n
three_more n = omega arith

pub words_taken : (n : ℕ) (ws : List ℕ) → 3 * n ≤ length ws → words_of (runs_of n ws) ≡ take (3 * n) ws
unfolding runs_of words_of
words_taken zero ws l = refl
words_taken (suc n) [] l = let z : ⊥ = omega arith in absurd z
words_taken (suc n) (a ∷ []) l = let z : ⊥ = omega arith in absurd z
words_taken (suc n) (a ∷ b ∷ []) l = let z : ⊥ = omega arith in absurd z
words_taken (suc n) (a ∷ b ∷ c ∷ ws) l =
    ap (λ (t : List ℕ). a ∷ b ∷ c ∷ t) (words_taken n ws (omega arith)) ∙
    ap (λ (k : ℕ). take k (a ∷ b ∷ c ∷ ws)) (three_more n)
