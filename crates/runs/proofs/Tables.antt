-- A shaped table is the canonical table of its own references, and the canonical table of joined references within the
-- limits is shaped and keeps just them.
use mathlib.Core.Path.{◌≡◌, refl, sym, ap, ap₂, ◌∙◌}
use mathlib.Core.Bool.{true, ◌&&◌, and-eq-true_iff}
use Prim.Native.Nat.{ℕ, zero, suc, ◌-◌, ◌*◌, ◌/◌, ◌≤◌}
use native.Mathlib.Omega.{arith}
use mathlib.Core.List.{List, [], ◌∷◌, ◌++◌}
use lib.Dec.{eqb, leb}
use lib.ListN.{length, drop, replicate, length-append, length-drop, length-replicate, take-append-drop}
use lib.Seq.{drop_at}
use borrow.Author.Tests.{leb-true, le-leb, eqb-true}
use Rattle.window.specs.declared.Reference.{Reference}
use Rattle.window.specs.References.{EndToStart, Each}
use Rattle.runs.specs.declared.Run.{Run}
use Rattle.runs.specs.Words.{runs_of, words_of, capacity, references_of, kept_in}
use Rattle.runs.specs.Encoding.{encode, runs_for, table_of, canonical}
use Rattle.runs.specs.Shape.{runs_shaped, zeros, shaped}
use Rattle.runs.specs.Ends.{Within}
use Rattle.runs.proofs.Opening.{runs_length, words_length, words_taken}
use Rattle.runs.proofs.Encoded.{encoded, references_back, shaped_encode}

-- ---- zeros

pub zeros_are : (ws : List ℕ) → zeros ws ≡ true → ws ≡ replicate (length ws) 0
unfolding zeros
zeros_are [] t = refl
zeros_are (w ∷ ws) t =
    let b = (and-eq-true_iff (eqb w 0) (zeros ws)).0 t in
    ap₂ ◌∷◌ (eqb-true w 0 b.0) (zeros_are ws b.1)

pub are_zeros : (n : ℕ) → zeros (replicate n 0) ≡ true
unfolding zeros
are_zeros zero = refl
are_zeros (suc n) = are_zeros n

-- ---- what a shaped table says

module _ (used : ℕ) (ws : List ℕ) (t : shaped used ws ≡ true) where
  parts : (leb used (capacity ws) && runs_shaped (runs_of used ws) ≡ true) × (zeros (drop (3 * used) ws) ≡ true)
  parts = (and-eq-true_iff (leb used (capacity ws) && runs_shaped (runs_of used ws)) (zeros (drop (3 * used) ws))).0 t

  pub used_fits : used ≤ capacity ws
  used_fits = leb-true used (capacity ws) ((and-eq-true_iff (leb used (capacity ws)) (runs_shaped (runs_of used ws))).0 parts.0).0

  pub used_words : 3 * used ≤ length ws
  used_words = omega (arith, used_fits)

  pub runs_shaped_lem : runs_shaped (runs_of used ws) ≡ true
  runs_shaped_lem = ((and-eq-true_iff (leb used (capacity ws)) (runs_shaped (runs_of used ws))).0 parts.0).1

  pub table_is : ws ≡ table_of (length ws) (runs_of used ws)
  unfolding table_of
  table_is =
      sym (take-append-drop (3 * used) ws) ∙
      ap₂ ◌++◌ (sym (words_taken used ws used_words))
      (zeros_are (drop (3 * used) ws) parts.1 ∙
      ap (λ (n : ℕ). replicate n 0) (length-drop (3 * used) ws ∙ ap (λ (n : ℕ). length ws - 3 * n) (sym (runs_length used ws))))

  kept_runs : encode (kept_in used ws) ≡ runs_of used ws
  kept_runs = encoded (runs_of used ws) runs_shaped_lem

  -- THE LAW: a shaped table is the canonical table of its own references
  pub canonical_is : ws ≡ canonical (length ws) (kept_in used ws)
  canonical_is = table_is ∙ ap (table_of (length ws)) (sym kept_runs)

  pub runs_for_kept : runs_for (kept_in used ws) ≡ used
  runs_for_kept = ap length kept_runs ∙ runs_length used ws

-- equal references in shaped tables of one length are equal words
pub same_words : (used other : ℕ) (ws vs : List ℕ) → shaped used ws ≡ true → shaped other vs ≡ true → kept_in used ws ≡ kept_in other vs →
    length ws ≡ length vs → ws ≡ vs
same_words used other ws vs t u same e = canonical_is used ws t ∙ ap₂ canonical e same ∙ sym (canonical_is other vs u)

-- ---- the table of runs

runs_back : (rs : List Run) (zs : List ℕ) → runs_of (length rs) (words_of rs ++ zs) ≡ rs
unfolding runs_of words_of
runs_back [] zs = refl
runs_back (r ∷ rs) zs = ap (λ xs. r ∷ xs) (runs_back rs zs)

pub table_runs : (n : ℕ) (rs : List Run) → runs_of (length rs) (table_of n rs) ≡ rs
unfolding table_of
table_runs n rs = runs_back rs (replicate (n - 3 * length rs) 0)

pub table_length_lem : (n : ℕ) (rs : List Run) → 3 * length rs ≤ n → length (table_of n rs) ≡ n
unfolding table_of
table_length_lem n rs l = simp (length-append, words_length, length-replicate) (omega arith)

pub table_shaped : (n : ℕ) (rs : List Run) → runs_shaped rs ≡ true → length rs ≤ n / 3 → shaped (length rs) (table_of n rs) ≡ true
unfolding table_of
table_shaped n rs t l =
    ap₂ ◌&&◌
    (ap₂ ◌&&◌
    (le-leb (length rs) (length (table_of n rs) / 3) (rw (table_length_lem n rs (omega arith)) l))
    (ap runs_shaped (table_runs n rs) ∙ t))
    (ap zeros (drop_at (words_of rs) (replicate (n - 3 * length rs) 0) (3 * length rs) (words_length rs)) ∙ are_zeros (n - 3 * length rs))

-- ---- the canonical table of references that join

pub canonical_length : (n : ℕ) (rs : List Reference) → runs_for rs ≤ n / 3 → length (canonical n rs) ≡ n
canonical_length n rs room = table_length_lem n (encode rs) (omega arith)

module _ (t n : ℕ) (rs : List Reference) (joined : EndToStart t rs) where
  pub canonical_kept : kept_in (runs_for rs) (canonical n rs) ≡ rs
  canonical_kept = ap references_of (table_runs n (encode rs)) ∙ references_back t rs joined

  pub canonical_shaped : Each Within rs → runs_for rs ≤ n / 3 → shaped (runs_for rs) (canonical n rs) ≡ true
  canonical_shaped within room = table_shaped n (encode rs) (shaped_encode t rs joined within) room
