-- References stored at the end: the last run is made longer, or a run is put behind it.
use mathlib.Core.Path.{◌≡◌, refl, sym, ap, ap₂, ◌∙◌}
use mathlib.Core.Bool.{Bool, true, false, cond, ◌||◌, not, false≢true}
use Prim.Native.Nat.{ℕ, ◌+◌, ◌-◌, ◌*◌, ◌≤◌, ◌<◌}
use native.Mathlib.Nat.{mul-le-mul_right}
use native.Mathlib.Omega.{arith}
use mathlib.Core.List.{List, [], ◌∷◌, ◌++◌, append_assoc}
use lib.Dec.{eqb}
use lib.ListN.{length, take, drop, replicate, length-append, replicate-append-replicate}
use lib.Seq.{take_at, drop_at, drop-append-add, append_snoc, length-take-le}
use borrow.Author.Tests.{eqb-true, eqb-false, eq-eqb, ne_eqb, not-true, not-false}
use mir.Syntax.{w64}
use mir.Val.{Fits}
use Rattle.units.specs.declared.Tick.{Tick}
use Rattle.units.specs.declared.Span.{Span}
use Rattle.runs.specs.declared.Run.{Run}
use Rattle.runs.specs.Words.{run_at, last_run, runs_of, words_of, capacity, run_end, repeated, references_of, kept_in}
use Rattle.runs.specs.Encoding.{encode, runs_for, table_of, canonical, needs_run}
use Rattle.runs.specs.Shape.{shaped, runs_shaped, followed_by}
use Rattle.runs.specs.Steps.{with_run, kept_with, Storable}
use Rattle.runs.proofs.Opening.{runs_length, words_length, last_opens, references_in}
use Rattle.runs.proofs.Encoded.{span_limits, Leads, leads, led, leads_too, follow, encoded, shaped_last}
use Rattle.runs.proofs.Tables.{used_words, runs_shaped_lem, table_is}
use Rattle.runs.proofs.EndToStart.{references_append, references_of_run, repeated_add, kept_end}

-- ---- the end of a shaped list, with other runs in its place

followed_tail : (a : Run) (xs : List Run) (x y : Run) (rest other : List Run) → y.start.0 ≡ x.start.0 → y.span.0 ≡ x.span.0 →
    followed_by a (xs ++ x ∷ rest) ≡ true → followed_by a (xs ++ y ∷ other) ≡ true
followed_tail a [] x y rest other s d f = rw (s, d) f
followed_tail a (b ∷ xs) x y rest other s d f = f

pub shaped_tail : (xs : List Run) (x y : Run) (rest other : List Run) → y.start.0 ≡ x.start.0 → y.span.0 ≡ x.span.0 →
    runs_shaped (xs ++ x ∷ rest) ≡ true → runs_shaped (y ∷ other) ≡ true → runs_shaped (xs ++ y ∷ other) ≡ true
shaped_tail [] x y rest other s d t u = u
shaped_tail (a ∷ xs) x y rest other s d t u =
    let l = leads a (xs ++ x ∷ rest) t in
    leads_too a (xs ++ x ∷ rest) (xs ++ y ∷ other) l (followed_tail a xs x y rest other s d l.next) (shaped_tail xs x y rest other s d l.rest u)

-- ---- a run's references behind those of shaped runs

abbrev longer : Run → ℕ → Run
longer x n = record { start = x.start; span = x.span; count = x.count + n }

module _ (xs : List Run) (x r : Run) (t : runs_shaped (xs ++ x ∷ []) ≡ true) (u : runs_shaped (r ∷ []) ≡ true) (joins : run_end x ≡ r.start.0) where
  last_leads : Leads x []
  last_leads = leads x [] (shaped_last xs x t)

  -- of another duration: one run more
  encode_behind : (x.span.0 ≡ r.span.0 → ⊥) → encode (references_of (xs ++ x ∷ []) ++ references_in r) ≡ xs ++ x ∷ r ∷ []
  encode_behind n =
      ap encode
      (ap (λ rs. references_of (xs ++ x ∷ []) ++ rs) (sym (references_of_run r)) ∙
      sym (references_append (xs ++ x ∷ []) (r ∷ [])) ∙
      ap references_of (append_snoc xs x (r ∷ []))) ∙
      encoded (xs ++ x ∷ r ∷ [])
      (shaped_tail xs x x [] (r ∷ []) refl refl t (leads_too x [] (r ∷ []) last_leads (follow x (r ∷ []) n (sym joins)) u))

  -- of the same duration: the last run made longer
  module _ (d : x.span.0 ≡ r.span.0) where
    longer_shaped : runs_shaped (xs ++ longer x r.count ∷ []) ≡ true
    unfolding runs_shaped
    longer_shaped =
        let l = last_leads in
        let m = leads r [] u in
        shaped_tail xs x (longer x r.count) [] [] refl refl t
        (led (longer x r.count) []
        (record {
          lasts = l.lasts;
          short = l.short;
          some = omega (arith, l.some);
          ends = omega (arith, joins, m.ends, ap (λ k. k * r.count) d);
          next = refl;
          rest = refl;
        }))

    longer_references : references_of (xs ++ longer x r.count ∷ []) ≡ references_of (xs ++ x ∷ []) ++ references_in r
    longer_references =
        references_append xs (longer x r.count ∷ []) ∙
        ap (λ rs. references_of xs ++ rs)
        (references_of_run (longer x r.count) ∙
        repeated_add x.start.0 x.span.0 x.count r.count ∙
        ap₂ (λ a k. references_in x ++ repeated a k r.count) joins d ∙
        ap (λ rs. rs ++ references_in r) (sym (references_of_run x))) ∙
        sym (append_assoc (references_of xs) (references_of (x ∷ [])) (references_in r)) ∙
        ap (λ rs. rs ++ references_in r) (sym (references_append xs (x ∷ [])))

    encode_longer : encode (references_of (xs ++ x ∷ []) ++ references_in r) ≡ xs ++ longer x r.count ∷ []
    encode_longer = ap encode (sym longer_references) ∙ encoded (xs ++ longer x r.count ∷ []) longer_shaped

-- ---- words of a run, put over three words

pub words_append : (xs ys : List Run) → words_of (xs ++ ys) ≡ words_of xs ++ words_of ys
unfolding words_of
words_append [] ys = refl
words_append (x ∷ xs) ys = ap (λ t. x.start.0 ∷ x.span.0 ∷ x.count ∷ t) (words_append xs ys)

one_more : (xs : List Run) (r : Run) → length (xs ++ r ∷ []) ≡ length xs + 1
one_more xs r = length-append xs (r ∷ [])

put_over : (xs : List Run) (old rest : List ℕ) (i : ℕ) (r : Run) → length xs * 3 ≡ i → length old ≡ 3 →
    with_run (words_of xs ++ (old ++ rest)) i r ≡ words_of (xs ++ r ∷ []) ++ rest
unfolding with_run
put_over xs old rest i r l three =
    let long : length (words_of xs) ≡ i = words_length xs ∙ omega arith in
    let past : i + 3 ≡ length (words_of xs) + 3 = omega arith in
    ap₂ (λ t u. t ++ words_of (r ∷ []) ++ u) (take_at (words_of xs) (old ++ rest) i long)
    (ap (λ k. drop k (words_of xs ++ (old ++ rest))) past ∙ drop-append-add (words_of xs) (old ++ rest) 3 ∙ drop_at old rest 3 three) ∙
    ap (λ t. t ++ rest) (sym (words_append xs (r ∷ [])))

put_behind : (n : ℕ) (xs : List Run) (i : ℕ) (r : Run) → length xs * 3 ≡ i → i + 3 ≤ n → with_run (table_of n xs) i r ≡ table_of n (xs ++ r ∷ [])
unfolding table_of
put_behind n xs i r l room =
    let parts : n - 3 * length xs ≡ 3 + (n - 3 * length (xs ++ r ∷ [])) = omega (arith, one_more xs r) in
    ap (λ t. with_run (words_of xs ++ t) i r)
    (ap (λ k. replicate k 0) parts ∙ sym (replicate-append-replicate 3 (n - 3 * length (xs ++ r ∷ [])) 0)) ∙
    put_over xs (replicate 3 0) (replicate (n - 3 * length (xs ++ r ∷ [])) 0) i r l refl

put_last : (n : ℕ) (xs : List Run) (x : Run) (i : ℕ) (r : Run) → length xs * 3 ≡ i → with_run (table_of n (xs ++ x ∷ [])) i r ≡ table_of n (xs ++ r ∷ [])
unfolding table_of
put_last n xs x i r l =
    let same : n - 3 * length (xs ++ x ∷ []) ≡ n - 3 * length (xs ++ r ∷ []) = omega (arith, one_more xs r, one_more xs x) in
    ap (λ k. with_run (words_of (xs ++ x ∷ []) ++ replicate k 0) i r) same ∙
    ap (λ t. with_run t i r)
    (ap (λ t. t ++ replicate (n - 3 * length (xs ++ r ∷ [])) 0) (words_append xs (x ∷ [])) ∙
    append_assoc (words_of xs) (words_of (x ∷ [])) (replicate (n - 3 * length (xs ++ r ∷ [])) 0)) ∙
    put_over xs (words_of (x ∷ [])) (replicate (n - 3 * length (xs ++ r ∷ [])) 0) i r l (words_length (x ∷ []))

-- ---- whether a run is needed

module _ (used : ℕ) (ws : List ℕ) where
  pub needs_none : (d : ℕ) → used ≡ 0 → true ≡ needs_run used ws d
  needs_none d e = sym (ap (λ t. t || not (eqb (last_run used ws).span.0 d)) (eq-eqb used 0 e))

  pub needs_last : (d : ℕ) (r : Run) → (used ≡ 0 → ⊥) → r ≡ last_run used ws → not (eqb r.span.0 d) ≡ needs_run used ws d
  needs_last d r some e =
      ap (λ (x : Run). not (eqb x.span.0 d)) e ∙
      sym (ap (λ t. t || not (eqb (last_run used ws).span.0 d)) (ne_eqb used 0 some))

-- ---- references behind those that a table keeps

module _ (used : ℕ) (ws : List ℕ) (start : Tick) (span : Span) (count : ℕ) (s : Storable used ws start span count) where
  new : Run
  new = record { start = start; span = span; count = count }

  before : List Run
  before = take (used - 1) (runs_of used ws)

  new_shaped : runs_shaped (new ∷ []) ≡ true
  unfolding new runs_shaped
  new_shaped =
      let h = span_limits span s.held in
      led new []
      (record {
        lasts = h.0;
        short = h.1;
        some = s.some;
        ends = s.ends;
        next = refl;
        rest = refl;
      })

  module _ (some : used ≡ 0 → ⊥) where
    split : runs_of used ws ≡ before ++ last_run used ws ∷ []
    unfolding before
    split = last_opens used ws some

    split_shaped : runs_shaped (before ++ last_run used ws ∷ []) ≡ true
    split_shaped = ap runs_shaped (sym split) ∙ runs_shaped_lem used ws s.table

    split_joins : run_end (last_run used ws) ≡ start.0
    split_joins = sym (kept_end used ws s.table start.0 some) ∙ s.joins

    before_length : length before ≡ used - 1
    unfolding before
    before_length = length-take-le (used - 1) (runs_of used ws) (rw runs_length (omega arith))

  new_runs : needs_run used ws span.0 ≡ true → encode (kept_with used ws start span count) ≡ runs_of used ws ++ new ∷ []
  unfolding new runs_of references_of
  new_runs n = go (eqb used 0) refl
    where
      go : (t : Bool) → eqb used 0 ≡ t → encode (kept_with used ws start span count) ≡ runs_of used ws ++ new ∷ []
      go true f =
          let z : used ≡ 0 = eqb-true used 0 f in
          ap (λ k. encode (kept_in k ws ++ references_in new)) z ∙
          ap encode (sym (references_of_run new)) ∙
          encoded (new ∷ []) new_shaped ∙
          ap (λ k. runs_of k ws ++ new ∷ []) (sym z)
      go false f =
          let some : used ≡ 0 → ⊥ = eqb-false used 0 f in
          ap (λ rs. encode (references_of rs ++ references_in new)) (split some) ∙
          encode_behind before (last_run used ws) new (split_shaped some) new_shaped (split_joins some)
          (eqb-false (last_run used ws).span.0 span.0
          (not-true (eqb (last_run used ws).span.0 span.0) (needs_last used ws span.0 (last_run used ws) some refl ∙ n))) ∙
          sym (append_snoc before (last_run used ws) (new ∷ [])) ∙
          ap (λ rs. rs ++ new ∷ []) (sym (split some))

  -- no run is needed: there is a last one, and it has the duration
  module _ (n : needs_run used ws span.0 ≡ false) where
    used_some : used ≡ 0 → ⊥
    used_some z = false≢true (sym n ∙ sym (needs_none used ws span.0 z))

    same_span : (last_run used ws).span.0 ≡ span.0
    same_span =
        eqb-true (last_run used ws).span.0 span.0
        (not-false (eqb (last_run used ws).span.0 span.0) (needs_last used ws span.0 (last_run used ws) used_some refl ∙ n))

    longer_runs : encode (kept_with used ws start span count) ≡ before ++ longer (last_run used ws) count ∷ []
    unfolding new
    longer_runs =
        ap (λ rs. encode (references_of rs ++ references_in new)) (split used_some) ∙
        encode_longer before (last_run used ws) new (split_shaped used_some) new_shaped (split_joins used_some) same_span

  -- THE LAW: how many runs there are then
  pub runs_needed : runs_for (kept_with used ws start span count) ≡ cond (needs_run used ws span.0) (used + 1) used
  runs_needed = go (needs_run used ws span.0) refl
    where
      go : (t : Bool) → needs_run used ws span.0 ≡ t → runs_for (kept_with used ws start span count) ≡ cond t (used + 1) used
      go true n = ap length (new_runs n) ∙ one_more (runs_of used ws) new ∙ ap (λ k. k + 1) (runs_length used ws)
      go false n =
          let some : used ≡ 0 → ⊥ = used_some n in
          let all : used - 1 + 1 ≡ used = omega arith in
          ap length (longer_runs n) ∙ one_more before (longer (last_run used ws) count) ∙ ap (λ k. k + 1) (before_length some) ∙ all

  -- ---- the table that a store leaves, as the code has it

  module _ (b : Bool) (e : b ≡ needs_run used ws span.0) where
    -- a run is put behind the last one
    module _ (t : b ≡ true) where
      pub more_used : used + 1 ≡ runs_for (kept_with used ws start span count)
      more_used = sym (runs_needed ∙ ap (λ u. cond u (used + 1) used) (sym e ∙ t))

      module _ (room : runs_for (kept_with used ws start span count) ≤ capacity ws) where
        pub more_there : used * 3 + 2 < length ws
        more_there = omega (arith, more_used, room)

        pub more_stored : (after : List ℕ) → after ≡ with_run ws (used * 3) (record { start = start; span = span; count = count }) →
            after ≡ canonical (length ws) (kept_with used ws start span count)
        unfolding new
        more_stored after a =
            a ∙
            ap (λ t. with_run t (used * 3) new) (table_is used ws s.table) ∙
            put_behind (length ws) (runs_of used ws) (used * 3) new (ap (λ n. n * 3) (runs_length used ws)) (omega (arith, more_there)) ∙
            ap (table_of (length ws)) (sym (new_runs (sym e ∙ t)))

    -- the last run is made longer
    module _ (f : b ≡ false) where
      no_need : needs_run used ws span.0 ≡ false
      no_need = sym e ∙ f

      pub longer_used : used ≡ runs_for (kept_with used ws start span count)
      longer_used = sym (runs_needed ∙ ap (λ u. cond u (used + 1) used) no_need)

      module _ (r : Run) (i : r ≡ run_at ws (used * 3 - 3)) where
        -- each takes a tick, so neither count is beyond the ticks
        pub longer_fits : Fits w64 (r.count + count)
        unfolding new
        longer_fits =
            let l = leads (last_run used ws) [] (shaped_last before (last_run used ws) (split_shaped (used_some no_need))) in
            let m = leads new [] new_shaped in
            let same : r.count ≡ (last_run used ws).count = ap (λ (x : Run). x.count) i in
            let some : 1 * (last_run used ws).count ≤ (last_run used ws).span.0 * (last_run used ws).count = mul-le-mul_right (last_run used ws).count l.lasts in
            let more : 1 * count ≤ span.0 * count = mul-le-mul_right count m.lasts in
            record { fits = omega (arith, l.ends, m.ends) }

        pub longer_stored : (after : List ℕ) →
            after ≡ with_run ws (used * 3 - 3) (record { start = r.start; span = r.span; count = r.count + count }) →
            after ≡ canonical (length ws) (kept_with used ws start span count)
        longer_stored after a =
            let some : used ≡ 0 → ⊥ = used_some no_need in
            let place : length before * 3 ≡ used * 3 - 3 = omega (arith, before_length some) in
            a ∙
            ap₂ (λ t x. with_run t (used * 3 - 3) (longer x count)) (table_is used ws s.table ∙ ap (table_of (length ws)) (split some)) i ∙
            put_last (length ws) before (last_run used ws) (used * 3 - 3) (longer (last_run used ws) count) place ∙
            ap (table_of (length ws)) (sym (longer_runs no_need))
