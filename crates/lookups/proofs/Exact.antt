-- The part of a table that is handed back holds exactly the runs that touch: each touching run lies in it, and each run of it
-- touches; and it is their words.
use mathlib.Core.Path.{◌≡◌, refl, sym, ap, ap₂, ◌∙◌}
use mathlib.Core.Logic.{◌↔◌}
use mathlib.Core.Bool.{Bool, true, false, cond, true≢false, false≢true}
use mathlib.Core.List.{List, [], ◌∷◌, ◌++◌, append_assoc}
use Prim.Native.Nat.{ℕ, zero, suc, ◌+◌, ◌-◌, ◌*◌, ◌≤◌, ◌<◌, min, max}
use native.Mathlib.Nat.{not-suc-le-zero}
use native.Mathlib.Omega.{arith}
use borrow.Author.Tests.{ltb-true, lt-ltb, eqb-true, eqb-false, ne_eqb}
use lib.Dec.{eqb, ltb}
use lib.ListN.{length, take, drop, length-drop, take-append-drop}
use lib.Seq.{drop-drop}
use Rattle.units.specs.declared.WideTick.{WideTick}
use Rattle.runs.specs.declared.Run.{Run}
use Rattle.runs.specs.Words.{run_at, runs_of, words_of, run_end}
use Rattle.runs.specs.Shape.{runs_shaped, shaped}
use Rattle.runs.proofs.Opening.{runs_length, runs_from, words_taken}
use Rattle.runs.proofs.Encoded.{run_grows, leads, Starts, starts}
use Rattle.runs.proofs.Tables.{used_words, runs_shaped_lem}
use Rattle.agreement.specs.declared.Record.{Record}
use Rattle.agreement.specs.declared.refusal.Refusal.{Refusal}
use Rattle.agreement.specs.declared.refusal.Refusal.TheVariants.{Disagreement, EmptySpan}
use Rattle.agreement.specs.Agreement.{agrees}
use Rattle.agreement.proofs.Agreeing.{agree_shaped}
use Rattle.std.specs.Prelude.{Err, Ok, Result}
use Rattle.lookups.specs.declared.Words.{Words}
use Rattle.lookups.specs.Spans.{touches, before_first, upto_last, touched_words, touching_words, part_of, passing, TouchingPart}
use Rattle.lookups.proofs.Spanning.{first_runs, upto_most, before_upto}

-- ---- the first and the last of a list, and a run of it

module _ (t : Run → Bool) where
  -- a run behind the first stands up to the last that passes only where it does so among the rest
  behind_upto : (r : Run) (rs : List Run) (j : ℕ) → suc j < upto_last t (r ∷ rs) → j < upto_last t rs
  unfolding upto_last
  behind_upto r rs j = go (eqb (upto_last t rs) 0) (t r)
    where
      go : (s u : Bool) → suc j < cond s (cond u 1 0) (suc (upto_last t rs)) → j < upto_last t rs
      go true true l = let z : ⊥ = omega arith in absurd z
      go true false l = let z : ⊥ = omega arith in absurd z
      go false u l = omega arith

  upto_behind : (r : Run) (rs : List Run) (j : ℕ) → j < upto_last t rs → suc j < upto_last t (r ∷ rs)
  unfolding upto_last
  upto_behind r rs j l =
      let e : eqb (upto_last t rs) 0 ≡ false = ne_eqb (upto_last t rs) 0 (λ z. let y : ⊥ = omega arith in y) in
      rw e (omega arith)

  passes_inside : (rs : List Run) (j : ℕ) (x : Run) (xs : List Run) → drop j rs ≡ x ∷ xs → t x ≡ true → (before_first t rs ≤ j) × (j < upto_last t rs)
  unfolding before_first upto_last
  passes_inside [] zero x xs e p = let z : ◌≡◌ {A = ℕ} 0 1 = cc in let y : ⊥ = omega arith in absurd y
  passes_inside [] (suc j) x xs e p = let z : ◌≡◌ {A = ℕ} 0 1 = cc in let y : ⊥ = omega arith in absurd y
  passes_inside (r ∷ rs) zero x xs e p =
      let same : r ≡ x = cc in
      let here : t r ≡ true = ap t same ∙ p in
      (rw here (omega arith), first_upto (eqb (upto_last t rs) 0) (t r) here)
    where
      first_upto : (s u : Bool) → u ≡ true → 0 < cond s (cond u 1 0) (suc (upto_last t rs))
      first_upto true true h = omega arith
      first_upto true false h = absurd (false≢true h)
      first_upto false u h = omega arith
  passes_inside (r ∷ rs) (suc j) x xs e p =
      let ih = passes_inside rs j x xs e p in
      (go (t r) ih.0, upto_behind r rs j ih.1)
    where
      go : (u : Bool) → before_first t rs ≤ j → cond u 0 (suc (before_first t rs)) ≤ suc j
      go true l = omega arith
      go false l = omega arith

  before_behind : (r : Run) (rs : List Run) (j : ℕ) → before_first t rs ≤ j → before_first t (r ∷ rs) ≤ suc j
  unfolding before_first
  before_behind r rs j l = go (t r)
    where
      go : (u : Bool) → cond u 0 (suc (before_first t rs)) ≤ suc j
      go true = omega arith
      go false = omega arith

  -- ---- those that pass, where every one from the first to the last does

  none_pass : (rs : List Run) → upto_last t rs ≡ 0 → passing t rs ≡ []
  unfolding upto_last passing
  none_pass [] e = refl
  none_pass (r ∷ rs) e = go (t r) (eqb (upto_last t rs) 0) refl e (none_pass rs)
    where
      go : (w v : Bool) → eqb (upto_last t rs) 0 ≡ v → cond v (cond w 1 0) (suc (upto_last t rs)) ≡ 0 → (upto_last t rs ≡ 0 → passing t rs ≡ []) →
          cond w (r ∷ passing t rs) (passing t rs) ≡ []
      go true true f e ih = let z : ⊥ = omega arith in absurd z
      go false true f e ih = ih (eqb-true (upto_last t rs) 0 f)
      go w false f e ih = let z : ⊥ = omega arith in absurd z

  front_pass : (rs : List Run) → ((j : ℕ) (x : Run) (xs : List Run) → drop j rs ≡ x ∷ xs → j < upto_last t rs → t x ≡ true) → passing t rs ≡ take (upto_last t rs) rs
  unfolding upto_last passing
  front_pass [] h = refl
  front_pass (r ∷ rs) h =
      go (t r) refl (eqb (upto_last t rs) 0) refl (λ l. h 0 r rs refl l)
      (front_pass rs (λ j x xs e l. h (suc j) x xs e (upto_behind r rs j l)))
    where
      go : (w : Bool) → t r ≡ w → (v : Bool) → eqb (upto_last t rs) 0 ≡ v → (0 < cond v (cond w 1 0) (suc (upto_last t rs)) → w ≡ true) →
          passing t rs ≡ take (upto_last t rs) rs →
          cond w (r ∷ passing t rs) (passing t rs) ≡ take (cond v (cond w 1 0) (suc (upto_last t rs))) (r ∷ rs)
      go true e true f k ih = ap (λ (xs : List Run). r ∷ xs) (none_pass rs (eqb-true (upto_last t rs) 0 f))
      go true e false f k ih = ap (λ (xs : List Run). r ∷ xs) ih
      go false e true f k ih = none_pass rs (eqb-true (upto_last t rs) 0 f)
      go false e false f k ih = absurd (false≢true (k (omega arith)))

  between_pass : (rs : List Run) → ((j : ℕ) (x : Run) (xs : List Run) → drop j rs ≡ x ∷ xs → before_first t rs ≤ j → j < upto_last t rs → t x ≡ true) →
      passing t rs ≡ take (upto_last t rs - before_first t rs) (drop (before_first t rs) rs)
  unfolding before_first upto_last passing
  between_pass [] h = refl
  between_pass (r ∷ rs) h =
      go (t r) refl (eqb (upto_last t rs) 0) refl
      (λ j x xs e m l. h (suc j) x xs e m (upto_behind r rs j l))
      (between_pass rs (λ j x xs e m l. h (suc j) x xs e (before_behind r rs j m) (upto_behind r rs j l)))
    where
      go : (w : Bool) → t r ≡ w → (v : Bool) → eqb (upto_last t rs) 0 ≡ v →
          ((j : ℕ) (x : Run) (xs : List Run) → drop j rs ≡ x ∷ xs → cond w 0 (suc (before_first t rs)) ≤ suc j → j < upto_last t rs → t x ≡ true) →
          passing t rs ≡ take (upto_last t rs - before_first t rs) (drop (before_first t rs) rs) →
          cond w (r ∷ passing t rs) (passing t rs) ≡
          take (cond v (cond w 1 0) (suc (upto_last t rs)) - cond w 0 (suc (before_first t rs))) (drop (cond w 0 (suc (before_first t rs))) (r ∷ rs))
      go true e true f k ih = ap (λ (xs : List Run). r ∷ xs) (none_pass rs (eqb-true (upto_last t rs) 0 f))
      go true e false f k ih =
          let n : suc (upto_last t rs) ≡ suc (upto_last t rs) - 0 = omega arith in
          ap (λ (xs : List Run). r ∷ xs) (front_pass rs (λ j x xs d l. k j x xs d (omega arith) l)) ∙ ap (λ (m : ℕ). take m (r ∷ rs)) n
      go false e true f k ih =
          let n : 0 ≡ 0 - suc (before_first t rs) = omega arith in
          none_pass rs (eqb-true (upto_last t rs) 0 f) ∙ ap (λ (m : ℕ). take m (drop (before_first t rs) rs)) n
      go false e false f k ih =
          let n : upto_last t rs - before_first t rs ≡ suc (upto_last t rs) - suc (before_first t rs) = omega arith in
          ih ∙ ap (λ (m : ℕ). take m (drop (before_first t rs) rs)) n

-- ---- joined runs

module _ (a b : ℕ) (some : a < b) where
  t : Run → Bool
  t = touches a b

  -- where a run touches, the first of them starts before b
  reaches : (s : ℕ) (rs : List Run) → runs_shaped rs ≡ true → Starts s rs → (upto_last t rs ≡ 0 → ⊥) → s < b
  unfolding upto_last t
  reaches s [] u st o = absurd (o refl)
  reaches s (r ∷ rs) u st o =
      let l = leads r rs u in
      go (eqb (upto_last t rs) 0) refl (t r) refl o (run_grows r l.lasts l.some) (reaches (run_end r) rs l.rest (starts r rs l.next))
    where
      go : (v : Bool) → eqb (upto_last t rs) 0 ≡ v → (w : Bool) → t r ≡ w → (cond v (cond w 1 0) (suc (upto_last t rs)) ≡ 0 → ⊥) → r.start.0 < run_end r →
          ((upto_last t rs ≡ 0 → ⊥) → run_end r < b) → s < b
      go true e true f n g ih =
          let m : max r.start.0 a < min (run_end r) b = ltb-true (max r.start.0 a) (min (run_end r) b) f in
          omega (arith, st)
      go true e false f n g ih = absurd (n refl)
      go false e w f n g ih = omega (arith, ih (eqb-false (upto_last t rs) 0 e), st)

  -- behind a run that ends after a, each run up to the last that touches does
  rest_touch : (s : ℕ) (rs : List Run) → runs_shaped rs ≡ true → Starts s rs → a ≤ s → (j : ℕ) (x : Run) (xs : List Run) → drop j rs ≡ x ∷ xs → j < upto_last t rs → t x ≡ true
  unfolding upto_last t
  rest_touch s [] u st m j x xs e l = absurd (not-suc-le-zero l)
  rest_touch s (r ∷ rs) u st m zero x xs e l =
      let f = leads r rs u in
      let same : r ≡ x = cc in
      ap t (sym same) ∙ go (eqb (upto_last t rs) 0) refl (t r) refl l (run_grows r f.lasts f.some) (reaches (run_end r) rs f.rest (starts r rs f.next))
    where
      go : (v : Bool) → eqb (upto_last t rs) 0 ≡ v → (w : Bool) → t r ≡ w → 0 < cond v (cond w 1 0) (suc (upto_last t rs)) → r.start.0 < run_end r →
          ((upto_last t rs ≡ 0 → ⊥) → run_end r < b) → t r ≡ true
      go true h true f k g ih = f
      go true h false f k g ih = absurd (not-suc-le-zero k)
      go false h w f k g ih =
          let n : run_end r < b = ih (eqb-false (upto_last t rs) 0 h) in
          lt-ltb (max r.start.0 a) (min (run_end r) b) (omega (arith, st))
  rest_touch s (r ∷ rs) u st m (suc j) x xs e l =
      let f = leads r rs u in
      rest_touch (run_end r) rs f.rest (starts r rs f.next) (omega (arith, run_grows r f.lasts f.some, st)) j x xs e (behind_upto t r rs j l)

  all_touch : (rs : List Run) → runs_shaped rs ≡ true → (j : ℕ) (x : Run) (xs : List Run) → drop j rs ≡ x ∷ xs → before_first t rs ≤ j → j < upto_last t rs → t x ≡ true
  unfolding before_first upto_last t
  all_touch [] u j x xs e k l = absurd (not-suc-le-zero l)
  all_touch (r ∷ rs) u zero x xs e k l =
      let same : r ≡ x = cc in
      ap t (sym same) ∙ go (t r) refl k
    where
      go : (w : Bool) → t r ≡ w → cond w 0 (suc (before_first t rs)) ≤ 0 → t r ≡ true
      go true f i = f
      go false f i = absurd (not-suc-le-zero i)
  all_touch (r ∷ rs) u (suc j) x xs e k l =
      let f = leads r rs u in
      go (t r) refl k f.rest (starts r rs f.next) (all_touch rs f.rest j x xs e)
    where
      go : (w : Bool) → t r ≡ w → cond w 0 (suc (before_first t rs)) ≤ suc j → runs_shaped rs ≡ true → Starts (run_end r) rs →
          (before_first t rs ≤ j → j < upto_last t rs → t x ≡ true) → t x ≡ true
      go true f i v st ih =
          let m : max r.start.0 a < min (run_end r) b = ltb-true (max r.start.0 a) (min (run_end r) b) f in
          rest_touch (run_end r) rs v st (omega arith) j x xs e (behind_upto t r rs j l)
      go false f i v st ih = ih (omega arith) (behind_upto t r rs j l)

  touching_runs : (rs : List Run) → runs_shaped rs ≡ true → passing t rs ≡ take (upto_last t rs - before_first t rs) (drop (before_first t rs) rs)
  touching_runs rs u = between_pass t rs (all_touch rs u)

-- ---- THE LAWS, for the runs of a table

module _ (a b : ℕ) (ws : List ℕ) (used j : ℕ) (l : j < used) where
  pub touching_inside : touches a b (run_at ws (j * 3)) ≡ true →
      (before_first (touches a b) (runs_of used ws) ≤ j) × (j < upto_last (touches a b) (runs_of used ws))
  touching_inside p =
      passes_inside (touches a b) (runs_of used ws) j (run_at ws (j * 3)) (drop (j + 1) (runs_of used ws)) (runs_from used j ws l) p

  pub inside_touches : a < b → shaped used ws ≡ true → before_first (touches a b) (runs_of used ws) ≤ j → j < upto_last (touches a b) (runs_of used ws) →
      touches a b (run_at ws (j * 3)) ≡ true
  unfolding t
  inside_touches some sh m k =
      all_touch a b some (runs_of used ws) (runs_shaped_lem used ws sh) j (run_at ws (j * 3)) (drop (j + 1) (runs_of used ws)) (runs_from used j ws l) m k

-- the words of runs that stand one after the other in a table
part_runs : (i n used : ℕ) (ws : List ℕ) → i + n ≤ used → 3 * used ≤ length ws → words_of (take n (drop i (runs_of used ws))) ≡ take (3 * n) (drop (3 * i) ws)
unfolding runs_of
part_runs zero n used ws l m = ap words_of (first_runs n used ws (omega arith)) ∙ words_taken n ws (omega arith)
part_runs (suc i) n zero ws l m = let z : ⊥ = omega arith in absurd z
part_runs (suc i) n (suc used) ws l m =
    let place : 3 + 3 * i ≡ 3 * suc i = omega arith in
    part_runs i n used (drop 3 ws) (omega arith) (omega (arith, length-drop 3 ws)) ∙
    ap (take (3 * n)) (drop-drop (3 * i) 3 ws ∙ ap (λ (k : ℕ). drop k ws) place)

-- ---- THE STATEMENT

-- the words that are named, by where the first and the last run that touch stand
data Spot (first last from to : ℕ) : Type 0 where
  nowhere : last ≡ 0 → from ≡ 0 → to ≡ 0 → Spot first last from to
  spot : first < last → from ≡ 3 * first → to ≡ 3 * last → Spot first last from to

-- where a call names words, record and table agree, a lies before b, and the words are those of the first and the last run that touch
record Named (rec : Record) (ws : List ℕ) (a b from to : ℕ) : Type 0 where
  agreed : agrees rec ws ≡ true
  some : a < b
  words : Spot (before_first (touches a b) (runs_of rec.used ws)) (upto_last (touches a b) (runs_of rec.used ws)) from to

spot_of : (t : Run → Bool) (rs : List Run) (w : Words) → cond (eqb (upto_last t rs) 0) (record { from = 0; to = 0 }) (record { from = 3 * before_first t rs; to = 3 * upto_last t rs }) ≡ w →
    Spot (before_first t rs) (upto_last t rs) w.from w.to
spot_of t rs w = go (eqb (upto_last t rs) 0) refl
  where
    go : (s : Bool) → eqb (upto_last t rs) 0 ≡ s → cond s (record { from = 0; to = 0 }) (record { from = 3 * before_first t rs; to = 3 * upto_last t rs }) ≡ w →
        Spot (before_first t rs) (upto_last t rs) w.from w.to
    go true e q = nowhere (eqb-true (upto_last t rs) 0 e) (sym (ap (λ (x : Words). x.from) q)) (sym (ap (λ (x : Words). x.to) q))
    go false e q =
        spot (before_upto t rs (eqb-false (upto_last t rs) 0 e)) (sym (ap (λ (x : Words). x.from) q)) (sym (ap (λ (x : Words). x.to) q))

module _ (rec : Record) (ws : List ℕ) (a b : WideTick) where
  named : (from to : ℕ) → touching_words rec ws a b ≡ Ok (record { from = from; to = to }) → Named rec ws a.0 b.0 from to
  named from to = go (agrees rec ws) refl (ltb a.0 b.0) refl
    where
      go : (s : Bool) → agrees rec ws ≡ s → (t : Bool) → ltb a.0 b.0 ≡ t →
          cond s (cond t (Ok (touched_words a.0 b.0 (runs_of rec.used ws))) (Err EmptySpan)) (Err Disagreement) ≡ Ok (record { from = from; to = to }) →
          Named rec ws a.0 b.0 from to
      go true e true f q =
          record { agreed = e; some = ltb-true a.0 b.0 f; words = spot_of (touches a.0 b.0) (runs_of rec.used ws) (record { from = from; to = to }) (let i : touched_words a.0 b.0 (runs_of rec.used ws) ≡ record { from = from; to = to } = cc in i) }
      go true e false f q = let z : ◌≡◌ {A = ℕ} 0 1 = cc in let y : ⊥ = omega arith in absurd y
      go false e t f q = let z : ◌≡◌ {A = ℕ} 0 1 = cc in let y : ⊥ = omega arith in absurd y

  abbrev first : ℕ
  first = before_first (touches a.0 b.0) (runs_of rec.used ws)

  abbrev last : ℕ
  last = upto_last (touches a.0 b.0) (runs_of rec.used ws)

  last_most : last ≤ rec.used
  last_most = omega (arith, upto_most (touches a.0 b.0) (runs_of rec.used ws), runs_length rec.used ws)

  module _ (from to : ℕ) (q : touching_words rec ws a b ≡ Ok (record { from = from; to = to })) where
    within : (from ≤ to) × (to ≤ 3 * rec.used)
    within = go (named from to q).words
      where
        go : Spot first last from to → (from ≤ to) × (to ≤ 3 * rec.used)
        go (nowhere l f t) = (omega arith, omega arith)
        go (spot l f t) = (omega arith, omega (arith, last_most))

    place : ws ≡ take from ws ++ part_of (touching_words rec ws a b) ws ++ drop to ws
    place =
        let upto : from + (to - from) ≡ to = omega (arith, within.0) in
        sym (take-append-drop from ws) ∙
        ap (λ (r : List ℕ). take from ws ++ r)
        (sym (take-append-drop (to - from) (drop from ws)) ∙
        ap₂ ◌++◌ (ap (λ (x : Result Words Refusal). part_of x ws) (sym q)) (drop-drop (to - from) from ws ∙ ap (λ (k : ℕ). drop k ws) upto)) ∙
        sym (append_assoc (take from ws) (part_of (touching_words rec ws a b) ws) (drop to ws))

    module _ (j : ℕ) (l : j < rec.used) where
      inside : (touches a.0 b.0 (run_at ws (j * 3)) ≡ true) ↔ ((from ≤ j * 3) × (j * 3 + 3 ≤ to))
      inside = (only, if)
        where
          only : touches a.0 b.0 (run_at ws (j * 3)) ≡ true → (from ≤ j * 3) × (j * 3 + 3 ≤ to)
          only p = let h = touching_inside a.0 b.0 ws rec.used j l p in go h (named from to q).words
            where
              go : (first ≤ j) × (j < last) → Spot first last from to → (from ≤ j * 3) × (j * 3 + 3 ≤ to)
              go h (nowhere n f t) = let z : ⊥ = omega (arith, h.1) in absurd z
              go h (spot n f t) = (omega (arith, h.0), omega (arith, h.1))

          if : (from ≤ j * 3) × (j * 3 + 3 ≤ to) → touches a.0 b.0 (run_at ws (j * 3)) ≡ true
          if h = go (named from to q) (named from to q).words
            where
              go : Named rec ws a.0 b.0 from to → Spot first last from to → touches a.0 b.0 (run_at ws (j * 3)) ≡ true
              go n (nowhere k f t) = let z : ⊥ = omega (arith, h.1) in absurd z
              go n (spot k f t) =
                  inside_touches a.0 b.0 ws rec.used j l n.some (agree_shaped rec ws n.agreed) (omega (arith, h.0)) (omega (arith, h.1))

  module _ (agreed : agrees rec ws ≡ true) (some : a.0 < b.0) where
    asked : touching_words rec ws a b ≡ Ok (touched_words a.0 b.0 (runs_of rec.used ws))
    asked =
        ap₂ (λ s t. cond s (cond t (Ok (touched_words a.0 b.0 (runs_of rec.used ws))) (Err EmptySpan)) (Err Disagreement)) agreed
        (lt-ltb a.0 b.0 some)

    runs : part_of (touching_words rec ws a b) ws ≡ words_of (passing (touches a.0 b.0) (runs_of rec.used ws))
    unfolding words_of t
    runs = ap (λ (x : Result Words Refusal). part_of x ws) asked ∙ go (eqb last 0) refl
      where
        go : (s : Bool) → eqb last 0 ≡ s → part_of (Ok (cond s (record { from = 0; to = 0 }) (record { from = 3 * first; to = 3 * last }))) ws ≡ words_of (passing (touches a.0 b.0) (runs_of rec.used ws))
        go true e = ap words_of (sym (none_pass (touches a.0 b.0) (runs_of rec.used ws) (eqb-true last 0 e)))
        go false e =
            let shape = agree_shaped rec ws agreed in
            let order : first < last = before_upto (touches a.0 b.0) (runs_of rec.used ws) (eqb-false last 0 e) in
            let long : 3 * last - 3 * first ≡ 3 * (last - first) = omega arith in
            ap (λ (k : ℕ). take k (drop (3 * first) ws)) long ∙
            sym (part_runs first (last - first) rec.used ws (omega (arith, last_most)) (used_words rec.used ws shape)) ∙
            ap words_of (sym (touching_runs a.0 b.0 some (runs_of rec.used ws) (runs_shaped_lem rec.used ws shape)))

  none : ((j : ℕ) → j < rec.used → touches a.0 b.0 (run_at ws (j * 3)) ≡ false) → part_of (touching_words rec ws a b) ws ≡ []
  none h = go (agrees rec ws) refl (ltb a.0 b.0) refl
    where
      empty : agrees rec ws ≡ true → a.0 < b.0 → (s : Bool) → eqb last 0 ≡ s → part_of (Ok (cond s (record { from = 0; to = 0 }) (record { from = 3 * first; to = 3 * last }))) ws ≡ []
      empty e l true f = refl
      empty e l false f =
          let order : first < last = before_upto (touches a.0 b.0) (runs_of rec.used ws) (eqb-false last 0 f) in
          let used : first < rec.used = omega (arith, last_most) in
          absurd
          (true≢false
          (sym (inside_touches a.0 b.0 ws rec.used first used l (agree_shaped rec ws e) (omega arith) order) ∙ h first used))

      go : (s : Bool) → agrees rec ws ≡ s → (t : Bool) → ltb a.0 b.0 ≡ t →
          part_of (cond s (cond t (Ok (touched_words a.0 b.0 (runs_of rec.used ws))) (Err EmptySpan)) (Err Disagreement)) ws ≡ []
      go true e true f = empty e (ltb-true a.0 b.0 f) (eqb last 0) refl
      go true e false f = refl
      go false e t f = refl

  refused : (why : Refusal) → touching_words rec ws a b ≡ Err why → part_of (touching_words rec ws a b) ws ≡ []
  refused why e = ap (λ (x : Result Words Refusal). part_of x ws) e

pub touching_part : TouchingPart
touching_part = record { runs = runs; within = within; place = place; inside = inside; none = none; refused = refused }
