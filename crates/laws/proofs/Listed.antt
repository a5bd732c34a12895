-- Record and table agree exactly when the paper's list holds: runs by their places, words by theirs, references one by one,
-- and spent by its own definition.
use mathlib.Core.Path.{◌≡◌, refl, sym, ap, ap₂, subst, ◌∙◌}
use mathlib.Core.Bool.{Bool, true, false, ◌&&◌, not, and-eq-true_iff, true≢false}
use mathlib.Core.List.{List, [], ◌∷◌, ◌++◌}
use Prim.Native.Nat.{ℕ, zero, suc, ◌+◌, ◌-◌, ◌*◌, ◌≤◌, ◌<◌}
use native.Mathlib.Nat.{not-suc-le-zero}
use native.Mathlib.Numerals.{add-one}
use native.Mathlib.Omega.{arith}
use borrow.Author.Tests.{le-leb, eq-eqb, not-true}
use lib.Dec.{leb}
use lib.ListN.{length, get_or, drop, length-drop, drop_of_length-le, get_or-replicate}
use lib.Seq.{get_or-drop}
use Rattle.units.specs.Exactly.{ExactlyWhen}
use Rattle.units.specs.Limits.{largest_tick, largest_span}
use Rattle.window.specs.declared.Head.{Head}
use Rattle.window.specs.declared.Reference.{Reference}
use Rattle.window.specs.Place.{before_end}
use Rattle.window.specs.Window.{end_of, Spent, passed}
use Rattle.window.specs.References.{Each, Sound}
use Rattle.window.proofs.Spending.{passed_spent, spent_is}
use Rattle.runs.specs.declared.Run.{Run}
use Rattle.runs.specs.Words.{runs_of, run_end, repeated, references_of, capacity, total_count}
use Rattle.runs.specs.Shape.{followed_by, runs_shaped, zeros, shaped}
use Rattle.runs.specs.Ends.{last_end, Within}
use Rattle.runs.proofs.Opening.{runs_length, runs_from, references_length}
use Rattle.runs.proofs.Encoded.{Leads, leads, led, shaped_drop, Fresh, Starts, fresh, starts, follow}
use Rattle.runs.proofs.EndToStart.{kept_within, kept_end}
use Rattle.runs.proofs.Tables.{zeros_are, used_fits, runs_shaped_lem}
use Rattle.agreement.specs.declared.Record.{Record}
use Rattle.agreement.specs.Agreement.{kept, every, kept_right, agrees}
use Rattle.agreement.proofs.Judging.{record_held_lem}
use Rattle.agreement.proofs.Agreeing.{agreeing, agrees_from}
use Rattle.laws.specs.Spent.{used_run, Agreeing}

-- ---- each reference

pub each_with : (P Q R : Reference → Type 0) → ((r : Reference) → P r → Q r → R r) → (rs : List Reference) → Each P rs → Each Q rs → Each R rs
each_with P Q R f [] p q = tt
each_with P Q R f (r ∷ rs) p q = (f r p.0 q.0, each_with P Q R f rs p.1 q.1)

pub each_as : (P Q : Reference → Type 0) → ((r : Reference) → P r → Q r) → (rs : List Reference) → Each P rs → Each Q rs
each_as P Q f rs p = each_with P P Q (λ r x y. f r x) rs p p

pub each_true : (t : Reference → Bool) (rs : List Reference) → every t rs ≡ true → Each (λ r. t r ≡ true) rs
unfolding every
each_true t [] e = tt
each_true t (r ∷ rs) e = let b = (and-eq-true_iff (t r) (every t rs)).0 e in (b.0, each_true t rs b.1)

pub true_each : (t : Reference → Bool) (rs : List Reference) → Each (λ r. t r ≡ true) rs → every t rs ≡ true
unfolding every
true_each t [] e = refl
true_each t (r ∷ rs) e = ap₂ ◌&&◌ e.0 (true_each t rs e.1)

each_front : (P : Reference → Type 0) (xs ys : List Reference) → Each P (xs ++ ys) → Each P xs
each_front P [] ys e = tt
each_front P (x ∷ xs) ys e = (e.0, each_front P xs ys e.1)

each_behind : (P : Reference → Type 0) (xs ys : List Reference) → Each P (xs ++ ys) → Each P ys
each_behind P [] ys e = e
each_behind P (x ∷ xs) ys e = each_behind P xs ys e.1

-- the references of a record that is shaped and whose references start before the period end
pub sound_kept : (h : Head) (rs : List Reference) → Each Within rs → every (λ r. before_end h r.start.0) rs ≡ true → Each (Sound h) rs
sound_kept h rs w b =
    each_with Within (λ r. before_end h r.start.0 ≡ true) (Sound h) (λ r x y. record { lasts = x.lasts; begins = y }) rs w
    (each_true (λ r. before_end h r.start.0) rs b)

-- ---- words that are 0

zero_words : (ws : List ℕ) (k : ℕ) → zeros (drop k ws) ≡ true → (i : ℕ) → k ≤ i → i < length ws → get_or ws i 0 ≡ 0
zero_words ws k z i l m = ap (λ (n : ℕ). get_or ws n 0) (omega arith) ∙ there (i - k) (omega (arith, length-drop k ws))
  where
    there : (j : ℕ) → j < length (drop k ws) → get_or ws (k + j) 0 ≡ 0
    there j few =
        sym (get_or-drop k ws j 0) ∙ ap (λ vs. get_or vs j 0) (zeros_are (drop k ws) z) ∙ get_or-replicate (length (drop k ws)) j 0 0 few

words_zero : (vs : List ℕ) → ((i : ℕ) → i < length vs → get_or vs i 0 ≡ 0) → zeros vs ≡ true
unfolding zeros
words_zero [] f = refl
words_zero (v ∷ vs) f = ap₂ ◌&&◌ (eq-eqb v 0 (f 0 (omega arith))) (words_zero vs (λ i l. f (suc i) (omega arith)))

-- ---- the counts of runs

total_is : (n : ℕ) (ws : List ℕ) → total_count (runs_of n ws) ≡ length (references_of (runs_of n ws))
total_is n ws = sym (references_length (runs_of n ws))

-- ---- runs, one behind the other

-- where references of one duration all end within a limit, their run does
repeated_ends : (m s d n : ℕ) → 1 ≤ n → Each (λ r. end_of r ≤ m) (repeated s d n) → s + d * n ≤ m
unfolding repeated
repeated_ends m s d zero some e = absurd (not-suc-le-zero some)
repeated_ends m s d (suc zero) some e = omega (arith, e.0)
repeated_ends m s d (suc (suc n)) some e = omega (arith, repeated_ends m (s + d) d (suc n) (omega arith) e.1)

references_behind : (P : Reference → Type 0) (i : ℕ) (rs : List Run) → Each P (references_of rs) → Each P (references_of (drop i rs))
unfolding references_of
references_behind P zero rs e = e
references_behind P (suc i) [] e = e
references_behind P (suc i) (r ∷ rs) e =
    references_behind P i rs (each_behind P (repeated r.start.0 r.span.0 r.count) (references_of rs) e)

module _ (n : ℕ) (ws : List ℕ) where
  abbrev behind : ℕ → List Run
  behind i = drop (i + 1) (runs_of n ws)

  next_is : (i : ℕ) → suc i < n → behind i ≡ used_run ws (suc i) ∷ behind (suc i)
  next_is i l = ap (λ (k : ℕ). drop k (runs_of n ws)) (add-one i) ∙ runs_from n (suc i) ws l

  last_is : (i : ℕ) → n ≤ i → drop i (runs_of n ws) ≡ []
  last_is i l = drop_of_length-le (runs_of n ws) (subst (λ (k : ℕ). k ≤ i) (sym (runs_length n ws)) l)

  -- what a shaped table says of the run at a place
  module _ (u : runs_shaped (runs_of n ws) ≡ true) where
    leads_at : (i : ℕ) → i < n → Leads (used_run ws i) (behind i)
    leads_at i l = leads (used_run ws i) (behind i) (ap runs_shaped (sym (runs_from n i ws l)) ∙ shaped_drop i (runs_of n ws) u)

    joins_at : (i : ℕ) → suc i < n → run_end (used_run ws i) ≡ (used_run ws (suc i)).start.0
    joins_at i l = sym (subst (Starts (run_end (used_run ws i))) (next_is i l) (starts (used_run ws i) (behind i) (leads_at i (omega arith)).next))

    differ_at : (i : ℕ) → suc i < n → (used_run ws i).span.0 ≡ (used_run ws (suc i)).span.0 → ⊥
    differ_at i l = subst (Fresh (used_run ws i).span.0) (next_is i l) (fresh (used_run ws i) (behind i) (leads_at i (omega arith)).next)

  -- and back
  module _ (joins : (i : ℕ) → suc i < n → run_end (used_run ws i) ≡ (used_run ws (suc i)).start.0)
      (differ : (i : ℕ) → suc i < n → (used_run ws i).span.0 ≡ (used_run ws (suc i)).span.0 → ⊥)
      (ends : Each (λ r. end_of r ≤ largest_tick) (references_of (runs_of n ws)))
      (lasts : (i : ℕ) → i < n → 1 ≤ (used_run ws i).span.0)
      (short : (i : ℕ) → i < n → (used_run ws i).span.0 ≤ largest_span)
      (counts : (i : ℕ) → i < n → 1 ≤ (used_run ws i).count) where
    ends_at : (i : ℕ) → i < n → run_end (used_run ws i) ≤ largest_tick
    unfolding references_of
    ends_at i l =
        let r = used_run ws i in
        let P : Reference → Type 0 = λ r. end_of r ≤ largest_tick in
        let there : Each P (references_of (r ∷ behind i)) =
        subst (λ rs. Each P (references_of rs)) (runs_from n i ws l) (references_behind P i (runs_of n ws) ends)
        in
        repeated_ends largest_tick r.start.0 r.span.0 r.count (counts i l)
        (each_front P (repeated r.start.0 r.span.0 r.count) (references_of (behind i)) there)

    follows_at : (k i : ℕ) → i + suc k ≡ n → followed_by (used_run ws i) (behind i) ≡ true
    follows_at zero i e = ap (followed_by (used_run ws i)) (last_is (i + 1) (omega arith))
    follows_at (suc k) i e =
        let l : suc i < n = omega arith in
        ap (followed_by (used_run ws i)) (next_is i l) ∙
        follow (used_run ws i) (used_run ws (suc i) ∷ behind (suc i)) (differ i l) (sym (joins i l))

    shaped_from : (k i : ℕ) → i + k ≡ n → runs_shaped (drop i (runs_of n ws)) ≡ true
    unfolding runs_shaped
    shaped_from zero i e = ap runs_shaped (last_is i (omega arith))
    shaped_from (suc k) i e =
        let l : i < n = omega arith in
        ap runs_shaped (runs_from n i ws l) ∙
        led (used_run ws i) (behind i)
        (record {
          lasts = lasts i l;
          short = short i l;
          some = counts i l;
          ends = ends_at i l;
          next = follows_at k i e;
          rest = shaped_from k (i + 1) (omega arith);
        })

    shaped_runs : runs_shaped (runs_of n ws) ≡ true
    shaped_runs = shaped_from n 0 (omega arith)

-- ---- the list

module _ (rec : Record) (ws : List ℕ) where
  abbrev coming : Reference → Bool
  coming r = not (passed rec.head (end_of r) rec.clock.0)

  listed : agrees rec ws ≡ true → Agreeing rec ws
  listed a =
      let f = agreeing rec ws a in
      let u = runs_shaped_lem rec.used ws f.table in
      let within = kept_within rec.used ws f.table in
      record {
        fits = used_fits rec.used ws f.table;
        joins = joins_at rec.used ws u;
        differ = differ_at rec.used ws u;
        zeros = zero_words ws (3 * rec.used) ((and-eq-true_iff (leb rec.used (capacity ws) && runs_shaped (runs_of rec.used ws)) (zeros (drop (3 * rec.used) ws))).0 f.table).1;
        head = f.held.head;
        next = f.held.next;
        starts = each_as Within (λ r. r.start.0 ≤ largest_tick) (λ r w. omega (arith, w.ends)) (kept rec ws) within;
        ends = each_as Within (λ r. end_of r ≤ largest_tick) (λ r w. w.ends) (kept rec ws) within;
        clock = f.held.clock;
        lasts = λ i l. (leads_at rec.used ws u i l).lasts;
        short = λ i l. (leads_at rec.used ws u i l).short;
        counts = λ i l. (leads_at rec.used ws u i l).some;
        dropped = f.held.dropped;
        total = total_is rec.used ws ∙ f.total;
        last = λ some. sym (kept_end rec.used ws f.table rec.next.0 (λ z. let y : ⊥ = omega arith in y)) ∙ f.ends;
        unspent =
            each_with (λ r. coming r ≡ true) (Sound rec.head) (λ r. Spent rec.head r rec.clock.0 → ⊥)
            (λ r x y s. never r f.held.head.some y s (not-true (passed rec.head (end_of r) rec.clock.0) x)) (kept rec ws)
            (each_true coming (kept rec ws) f.coming)
            (sound_kept rec.head (kept rec ws) within f.begun);
        begins = each_true (λ r. before_end rec.head r.start.0) (kept rec ws) f.begun;
        accepted = f.held.accepted;
        numbers = f.held.numbers;
      }
    where
      never : (r : Reference) → 1 ≤ rec.head.timescale.0 → Sound rec.head r → Spent rec.head r rec.clock.0 →
          passed rec.head (end_of r) rec.clock.0 ≡ false → ⊥
      never r l s q p = true≢false (sym ((spent_is rec.head r rec.clock.0 l s.lasts s.begins).if q) ∙ p)

  module _ (g : Agreeing rec ws) where
    table : shaped rec.used ws ≡ true
    table =
        ap₂ ◌&&◌
        (ap₂ ◌&&◌ (le-leb rec.used (capacity ws) g.fits) (shaped_runs rec.used ws g.joins g.differ g.ends g.lasts g.short g.counts))
        (words_zero (drop (3 * rec.used) ws)
        (λ i l.
        get_or-drop (3 * rec.used) ws i 0 ∙ g.zeros (3 * rec.used + i) (omega arith) (omega (arith, length-drop (3 * rec.used) ws))))

    last_end_lem : last_end rec.next.0 (kept rec ws) ≡ rec.next.0
    unfolding runs_of references_of last_end
    last_end_lem = go rec.used refl
      where
        go : (n : ℕ) → rec.used ≡ n → last_end rec.next.0 (kept rec ws) ≡ rec.next.0
        go zero e = ap (λ (n : ℕ). last_end rec.next.0 (references_of (runs_of n ws))) e
        go (suc n) e =
            kept_end rec.used ws table rec.next.0 (λ z. let y : ⊥ = omega arith in y) ∙ g.last (omega arith)

    not_passed : (r : Reference) → (Spent rec.head r rec.clock.0 → ⊥) → coming r ≡ true
    not_passed r s = go (passed rec.head (end_of r) rec.clock.0) refl
      where
        go : (t : Bool) → passed rec.head (end_of r) rec.clock.0 ≡ t → not t ≡ true
        go true e = absurd (s (passed_spent rec.head r rec.clock.0 e))
        go false e = refl

    right : kept_right rec (kept rec ws) ≡ true
    right =
        ap₂ ◌&&◌
        (ap₂ ◌&&◌
        (ap₂ ◌&&◌
        (eq-eqb (length (kept rec ws)) (rec.accepted - rec.dropped) (sym (total_is rec.used ws) ∙ g.total))
        (eq-eqb (last_end rec.next.0 (kept rec ws)) rec.next.0 last_end_lem))
        (true_each coming (kept rec ws) (each_as (λ r. Spent rec.head r rec.clock.0 → ⊥) (λ r. coming r ≡ true) not_passed (kept rec ws) g.unspent)))
        (true_each (λ r. before_end rec.head r.start.0) (kept rec ws) g.begins)

    agreed : agrees rec ws ≡ true
    agreed =
        agrees_from rec ws
        (record_held_lem rec
        (record {
          head = g.head;
          next = g.next;
          clock = g.clock;
          dropped = g.dropped;
          accepted = g.accepted;
          numbers = g.numbers;
        }))
        table
        right

  pub agree : ExactlyWhen (agrees rec ws ≡ true) (Agreeing rec ws)
  agree = record { only = listed; if = agreed }
