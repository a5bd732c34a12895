-- References dropped from the front: whole runs are removed, and the run at the cut is shortened.
use mathlib.Core.Path.{◌≡◌, refl, sym, ap, ap₂, ◌∙◌}
use mathlib.Core.Bool.{true}
use Prim.Native.Nat.{ℕ, zero, suc, ◌+◌, ◌-◌, ◌*◌, ◌≤◌, ◌<◌}
use native.Mathlib.Nat.{le_of_lt}
use native.Mathlib.Omega.{arith}
use mathlib.Core.List.{List, [], ◌∷◌, ◌++◌}
use lib.ListN.{length, take, drop, replicate, length-append, length-drop, take-append-drop, replicate-append-replicate}
use lib.Seq.{take_at, drop_at, drop-append-add, drop-append-le, drop-drop, drop-nil}
use borrow.Rule.Slice.PartMut.{mid_of, put_mid, Post-is, mid_len}
use Rattle.units.specs.declared.Span.{Span}
use Rattle.units.specs.Limits.{largest_tick}
use Rattle.runs.specs.declared.Run.{Run}
use Rattle.runs.specs.Words.{run_at, runs_of, words_of, run_end, repeated, references_of, kept_in}
use Rattle.runs.specs.Encoding.{encode, runs_for, table_of, canonical}
use Rattle.runs.specs.Shape.{shaped, runs_shaped}
use Rattle.runs.specs.Steps.{with_run, Less, CutAt}
use Rattle.runs.proofs.Opening.{runs_length, words_length, repeated_length, references_in}
use Rattle.runs.proofs.Encoded.{leads, led, fresh, starts, follow, encoded, shaped_drop}
use Rattle.runs.proofs.Tables.{used_words, runs_shaped_lem, table_is}
use Rattle.runs.proofs.EndToStart.{references_append, repeated_drop}

-- ---- whole runs

words_drop : (n : ℕ) (rs : List Run) → drop (n * 3) (words_of rs) ≡ words_of (drop n rs)
unfolding words_of
words_drop zero rs = refl
words_drop (suc n) [] = drop-nil (suc n * 3)
words_drop (suc n) (r ∷ rs) =
    let three_more : suc n * 3 ≡ suc (suc (suc (n * 3))) = omega arith in
    ap (λ k. drop k (r.start.0 ∷ r.span.0 ∷ r.count ∷ words_of rs)) three_more ∙ words_drop n rs

-- words moved down over the b before them, and as many cleared behind them: what stood behind all these stays
shifted : (words rest moved part : List ℕ) (n b e : ℕ) → n + b ≡ e → length words ≡ e →
    moved ≡ take n (drop b (words ++ rest)) ++ drop n (words ++ rest) → part ≡ replicate (length (mid_of n (e - n) moved)) 0 →
    put_mid n (e - n) moved part ≡ drop b words ++ (replicate b 0 ++ rest)
shifted words rest moved part n b e sum long m p =
    let front_long : length (drop b words) ≡ n = length-drop b words ∙ omega arith in
    let front : take n (drop b (words ++ rest)) ≡ drop b words =
    ap (take n) (drop-append-le b words rest (omega arith)) ∙ take_at (drop b words) rest n front_long in
    let is : moved ≡ drop b words ++ drop n (words ++ rest) = m ∙ ap (λ t. t ++ drop n (words ++ rest)) front in
    let enough : e ≤ length moved = rw is (simp (length-append, length-drop) (omega arith)) in
    let cut : e ≡ length (drop b words) + b = omega arith in
    let behind : drop e moved ≡ rest =
    ap₂ drop cut is ∙
    drop-append-add (drop b words) (drop n (words ++ rest)) b ∙
    drop-drop b n (words ++ rest) ∙
    drop_at words rest (n + b) (long ∙ sym sum) in
    let many : length (mid_of n (e - n) moved) ≡ b = mid_len n e moved enough ∙ omega arith in
    let cleared : part ≡ replicate b 0 = p ∙ ap (λ k. replicate k 0) many in
    ap₂ (λ t u. t ++ u) (ap (take n) is ∙ take_at (drop b words) (drop n (words ++ rest)) n front_long)
    (ap₂ (λ t u. t ++ u) cleared (Post-is n e moved (omega arith) ∙ behind))

module _ (used dropped : ℕ) (ws : List ℕ) (shape : shaped used ws ≡ true) where
  pub removed_none : dropped ≡ 0 → ws ≡ table_of (length ws) (drop dropped (runs_of used ws))
  removed_none e = table_is used ws shape ∙ ap (λ n. table_of (length ws) (drop n (runs_of used ws))) (sym e)

  module _ (l : dropped ≤ used) where
    -- the words after the move and the clearing, as the code leaves them
    module _ (moved : List ℕ) (m : moved ≡ take ((used - dropped) * 3) (drop (dropped * 3) ws) ++ drop ((used - dropped) * 3) ws) where
      pub removed : (part : List ℕ) → part ≡ replicate (length (mid_of ((used - dropped) * 3) (used * 3 - (used - dropped) * 3) moved)) 0 →
          put_mid ((used - dropped) * 3) (used * 3 - (used - dropped) * 3) moved part ≡ table_of (length ws) (drop dropped (runs_of used ws))
      unfolding table_of
      removed part p =
          let rs : List Run = runs_of used ws in
          let rest : ℕ = length ws - 3 * length rs in
          let n : ℕ = (used - dropped) * 3 in
          let is : ws ≡ words_of rs ++ replicate rest 0 = table_is used ws shape in
          let left : dropped * 3 + rest ≡ length ws - 3 * length (drop dropped rs) =
          simp (length-drop, runs_length) (omega (arith, used_words used ws shape)) in
          shifted (words_of rs) (replicate rest 0) moved part n (dropped * 3) (used * 3) (omega arith) (words_length rs ∙ rw runs_length (omega arith))
          (m ∙ ap (λ t. take n (drop (dropped * 3) t) ++ drop n t) is)
          p ∙
          ap₂ (λ t u. t ++ u) (words_drop dropped rs) (replicate-append-replicate (dropped * 3) rest 0 ∙ ap (λ k. replicate k 0) left)

-- ---- a run less its first references

less_shaped : (n : ℕ) (x r : Run) (xs : List Run) → Less n x r → n < x.count → runs_shaped (x ∷ xs) ≡ true → runs_shaped (r ∷ xs) ≡ true
less_shaped n x r xs f l t =
    let o = leads x xs t in
    led r xs
    (record {
      lasts = rw f.span o.lasts;
      short = rw f.span o.short;
      some = omega (arith, f.count);
      ends = rw f.ends o.ends;
      next = follow r xs (rw f.span (fresh x xs o.next)) (rw f.ends (starts x xs o.next));
      rest = o.rest;
    })

less_references : (n : ℕ) (x r : Run) (xs : List Run) → Less n x r → references_of (r ∷ xs) ≡ drop n (references_of (x ∷ xs))
unfolding references_of
less_references n x r xs f =
    let l : n ≤ x.count = omega (arith, f.count) in
    let d : r.span.0 ≡ x.span.0 = ap (λ (k : Span). k.0) f.span in
    let many : r.count ≡ x.count - n = omega (arith, f.count) in
    let from : r.start.0 ≡ x.start.0 + x.span.0 * n =
    omega (arith, f.ends, ap (λ k. k * r.count) d, ap (λ k. x.span.0 * k) f.count) in
    ap (λ rs. rs ++ references_of xs)
    (ap₂ (λ a k. repeated a k r.count) from d ∙
    ap (repeated (x.start.0 + x.span.0 * n) x.span.0) many ∙
    sym (repeated_drop x.start.0 x.span.0 x.count n l)) ∙
    sym (drop-append-le n (references_in x) (references_of xs) (rw repeated_length l))

-- ---- the references left are those behind the cut

pub cut_left : (dropped whole into : ℕ) (rs : List Run) → CutAt dropped rs whole into → drop into (references_of (drop whole rs)) ≡ drop dropped (references_of rs)
cut_left dropped whole into rs c =
    sym
    (ap (λ n. drop n (references_of rs)) (sym c.counted) ∙
    ap (λ xs. drop (length (references_of (take whole rs)) + into) (references_of xs)) (sym (take-append-drop whole rs)) ∙
    ap (drop (length (references_of (take whole rs)) + into)) (references_append (take whole rs) (drop whole rs)) ∙
    drop-append-add (references_of (take whole rs)) (references_of (drop whole rs)) into)

-- ---- the table that a drop leaves, step by step as the code has it

pub cut_within : (used dropped whole into : ℕ) (ws : List ℕ) → CutAt dropped (runs_of used ws) whole into → whole ≤ used
cut_within used dropped whole into ws c = rw runs_length at c.within

module _ (used dropped whole into left : ℕ) (ws table : List ℕ) (shape : shaped used ws ≡ true) (cut : CutAt dropped (runs_of used ws) whole into)
    (l : left ≡ used - whole) (is : table ≡ table_of (length ws) (drop whole (runs_of used ws))) where
  behind : List Run
  behind = drop whole (runs_of used ws)

  behind_length : length behind ≡ left
  unfolding behind
  behind_length = length-drop whole (runs_of used ws) ∙ ap (λ n. n - whole) (runs_length used ws) ∙ sym l

  behind_shaped : runs_shaped behind ≡ true
  unfolding behind
  behind_shaped = shaped_drop whole (runs_of used ws) (runs_shaped_lem used ws shape)

  -- ---- all runs are dropped

  module _ (none : left ≡ 0) where
    no_runs : encode (drop dropped (kept_in used ws)) ≡ []
    unfolding behind encode references_of
    no_runs = ap encode (sym (cut_left dropped whole into (runs_of used ws) cut) ∙ go behind (behind_length ∙ none))
      where
        go : (rs : List Run) → length rs ≡ 0 → drop into (references_of rs) ≡ []
        go [] e = drop-nil into
        go (r ∷ rs) e = let z : ⊥ = omega arith in absurd z

    pub emptied_used : 0 ≡ runs_for (drop dropped (kept_in used ws))
    emptied_used = sym (ap length no_runs)

    pub emptied_table : table ≡ canonical (length ws) (drop dropped (kept_in used ws))
    unfolding behind
    emptied_table = is ∙ ap (table_of (length ws)) (go behind (behind_length ∙ none) ∙ sym no_runs)
      where
        go : (rs : List Run) → length rs ≡ 0 → rs ≡ []
        go [] e = refl
        go (r ∷ rs) e = let z : ⊥ = omega arith in absurd z

  -- ---- the first run left is shortened

  module _ (some : left ≡ 0 → ⊥) where
    module _ (first : Run) (f : first ≡ run_at table 0) where
      opens : behind ≡ first ∷ drop 1 behind
      unfolding behind table_of words_of
      opens = go behind refl
        where
          go : (rs : List Run) → behind ≡ rs → behind ≡ first ∷ drop 1 behind
          go [] e = absurd (some (sym behind_length ∙ ap length e))
          go (x ∷ xs) e = e ∙ ap₂ ◌∷◌ (sym (f ∙ ap (λ t. run_at t 0) (is ∙ ap (table_of (length ws)) e))) (sym (ap (drop 1) e))

      opens_shaped : runs_shaped (first ∷ drop 1 behind) ≡ true
      opens_shaped = ap runs_shaped (sym opens) ∙ behind_shaped

      inside : into < first.count
      unfolding behind
      inside = rw opens at cut.inside

      pub first_within : into ≤ first.count
      first_within = le_of_lt inside

      pub first_ends : run_end first ≤ largest_tick
      first_ends = (leads first (drop 1 behind) opens_shaped).ends

      module _ (r : Run) (less : Less into first r) where
        left_runs : encode (drop dropped (kept_in used ws)) ≡ r ∷ drop 1 behind
        unfolding behind
        left_runs =
            ap encode
            (sym (cut_left dropped whole into (runs_of used ws) cut) ∙
            ap (λ rs. drop into (references_of rs)) opens ∙
            sym (less_references into first r (drop 1 behind) less)) ∙
            encoded (r ∷ drop 1 behind) (less_shaped into first r (drop 1 behind) less inside opens_shaped)

        pub dropped_used : left ≡ runs_for (drop dropped (kept_in used ws))
        dropped_used = sym behind_length ∙ ap length opens ∙ sym (ap length left_runs)

        pub dropped_table : (after : List ℕ) → after ≡ with_run table 0 r → after ≡ canonical (length ws) (drop dropped (kept_in used ws))
        unfolding behind with_run table_of words_of
        dropped_table after e =
            e ∙
            ap (λ t. with_run t 0 r) (is ∙ ap (table_of (length ws)) opens) ∙
            ap (table_of (length ws)) (sym left_runs)
