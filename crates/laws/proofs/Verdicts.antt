-- Demand 2 of verdicts: each case of a verdict is said exactly where it holds, and the percent is 100 exactly where the verdict
-- is complete.
use mathlib.Core.Path.{◌≡◌, refl, sym, ap, ap₂, subst, ◌∙◌}
use mathlib.Core.Bool.{Bool, true, false, cond, ◌&&◌, not, and-eq-true_iff, true≢false, false≢true}
use mathlib.Core.List.{List}
use Prim.Native.Nat.{ℕ, ◌≤◌}
use native.Mathlib.Omega.{arith}
use borrow.Author.Tests.{eqb-true, eq-eqb, ne_eqb, leb-true, leb-false, le-leb, lt-leb, not-true, not-false}
use lib.Dec.{eqb, leb}
use Rattle.units.specs.Exactly.{ExactlyWhen}
use Rattle.units.specs.Limits.{largest_millis, clock_held}
use Rattle.units.specs.declared.WideMillis.{WideMillis}
use Rattle.units.specs.declared.WideTick.{WideTick}
use Rattle.window.specs.declared.Head.{Head}
use Rattle.window.specs.declared.Reference.{Reference}
use Rattle.window.specs.Place.{end_known}
use Rattle.window.specs.Window.{Stretch, tick_needed}
use Rattle.agreement.specs.declared.Record.{Record}
use Rattle.agreement.specs.declared.refusal.Refusal.{Refusal}
use Rattle.agreement.specs.declared.refusal.Refusal.TheVariants.{Disagreement, ClockLimit, EarlierClock, EndUnknown}
use Rattle.agreement.specs.Agreement.{kept}
use Rattle.answers.specs.declared.Verdict.{Verdict}
use Rattle.answers.specs.declared.Verdict.TheVariants.{Nothing, Complete, Lacking}
use Rattle.std.specs.Prelude.{Err, Ok, None, Option, Result, Some}
use Rattle.answers.specs.Cover.{covered_by}
use Rattle.answers.specs.Counts.{beyond, needed_count, covered_count, lowest_lacking}
use Rattle.answers.specs.Judgement.{judged, verdict_of, verdict_at, verdict_whole, complete}
use Rattle.answers.specs.Shares.{verdict_percent, hundred}
use Rattle.answers.proofs.Counting.{some_of, apart, refuted, any_count, count_none, count_some, count_all, count_each, none_counted, least_is}
use Rattle.answers.proofs.Cases.{to_complete, to_lacking, by_count, asked_at, by_asked_at, asked_whole, by_asked_whole}
use Rattle.answers.proofs.Covering.{needed_below}
use Rattle.answers.proofs.Completeness.{complete_exactly, percent_at, percent_whole, lowest_lacks}
use Rattle.laws.specs.Demand2.{Many, Completes, Lacks, NeedsNone, MayAsk, MayAskWhole, MayNotAsk, disagree, over, early, MayNotAskWhole, disagreeing, unknown, at_clock, in_whole}

-- ---- a verdict by its counts, and back

module _ (n c l : ℕ) where
  to_nothing : n ≡ 0 → judged n c l ≡ Nothing
  to_nothing e = ap (λ s. cond s Nothing (cond (eqb c n) (Complete n) (Lacking n c (record { 0 = l })))) (eq-eqb n 0 e)

  nothing_only : judged n c l ≡ Nothing → n ≡ 0
  nothing_only =
      by_count n c l (λ v. v ≡ Nothing → n ≡ 0) (λ e q. e)
      (λ s e q. let z : ◌≡◌ {A = ℕ} 0 1 = cc in omega arith)
      (λ s o q. let z : ◌≡◌ {A = ℕ} 0 1 = cc in omega arith)

  complete_only : (m : ℕ) → judged n c l ≡ Complete m → (1 ≤ n) × (c ≡ n) × (n ≡ m)
  complete_only m =
      by_count n c l (λ v. v ≡ Complete m → (1 ≤ n) × (c ≡ n) × (n ≡ m)) (λ e q. let z : ◌≡◌ {A = ℕ} 0 1 = cc in absurd (let y : ⊥ = omega arith in y))
      (λ s e q. (s, e, ap count_of q))
      (λ s o q. let z : ◌≡◌ {A = ℕ} 0 1 = cc in absurd (let y : ⊥ = omega arith in y))
    where
      count_of : Verdict → ℕ
      count_of Nothing = 0
      count_of (Complete x) = x
      count_of (Lacking x y k) = 0

  lacking_only : (m d : ℕ) (k : WideTick) → judged n c l ≡ Lacking m d k → (n ≡ m) × (c ≡ d)
  lacking_only m d k =
      by_count n c l (λ v. v ≡ Lacking m d k → (n ≡ m) × (c ≡ d)) (λ e q. let z : ◌≡◌ {A = ℕ} 0 1 = cc in absurd (let y : ⊥ = omega arith in y))
      (λ s e q. let z : ◌≡◌ {A = ℕ} 0 1 = cc in absurd (let y : ⊥ = omega arith in y))
      (λ s o q. (ap count_of q, ap cover_of q))
    where
      count_of : Verdict → ℕ
      count_of Nothing = 0
      count_of (Complete x) = 0
      count_of (Lacking x y j) = x

      cover_of : Verdict → ℕ
      cover_of Nothing = 0
      cover_of (Complete x) = 0
      cover_of (Lacking x y j) = y

-- ---- the verdict of a window

pub one_count : (p : ℕ → Bool) (m n : ℕ) → Many p m → Many p n → m ≡ n
one_count p m n x y = sym x.count ∙ any_count p x.bound y.bound x.below y.below ∙ y.count

module _ (h : Head) (w : Stretch) (rs : List Reference) where
  count_needed : Many (tick_needed h w) (needed_count h w)
  count_needed = record { bound = beyond h w; below = needed_below h w; count = refl }

  count_covered : Many (λ j. tick_needed h w j && covered_by rs j) (covered_count h w rs)
  count_covered =
      record {
        bound = beyond h w;
        below = λ k t. needed_below h w k ((and-eq-true_iff (tick_needed h w k) (covered_by rs k)).0 t).0;
        count = refl;
      }

  needed_some : (k : ℕ) → tick_needed h w k ≡ true → 1 ≤ needed_count h w
  needed_some k t = count_some (tick_needed h w) (beyond h w) k (needed_below h w k t) t

  completes : (n : ℕ) → ExactlyWhen (verdict_of h w rs ≡ Complete n) (Completes h w rs n)
  completes n = record { only = only; if = if }
    where
      only : verdict_of h w rs ≡ Complete n → Completes h w rs n
      only e =
          let s = complete_only (needed_count h w) (covered_count h w rs) (lowest_lacking h w rs) n e in
          record { needed = subst (Many (tick_needed h w)) s.2 count_needed; whole = (complete_exactly h w rs).only (ap (λ v. complete (Ok v)) e) }

      if : Completes h w rs n → verdict_of h w rs ≡ Complete n
      if q =
          to_complete (needed_count h w) (covered_count h w rs) (lowest_lacking h w rs)
          (needed_some q.whole.some.0 q.whole.some.1)
          (count_all (tick_needed h w) (covered_by rs) (beyond h w) q.whole.each) ∙
          ap Complete (one_count (tick_needed h w) (needed_count h w) n count_needed q.needed)

  lacks : (n m : ℕ) (k : WideTick) → ExactlyWhen (verdict_of h w rs ≡ Lacking n m k) (Lacks h w rs n m k.0)
  lacks n m k = record { only = only; if = if }
    where
      only : verdict_of h w rs ≡ Lacking n m k → Lacks h w rs n m k.0
      only e =
          let s = lacking_only (needed_count h w) (covered_count h w rs) (lowest_lacking h w rs) n m k e in
          record {
            needed = subst (Many (tick_needed h w)) s.0 count_needed;
            covered = subst (Many (λ j. tick_needed h w j && covered_by rs j)) s.1 count_covered;
            lowest = lowest_lacks h w rs n m k e;
          }

      passes : (s t : Bool) → s ≡ true → t ≡ false → (s && not t) ≡ true
      passes s t e f = ap₂ (λ a b. a && not b) e f

      fails : (s t : Bool) → (s ≡ true → t ≡ true) → (s && not t) ≡ false
      fails true t f = ap not (f refl)
      fails false t f = refl

      if : Lacks h w rs n m k.0 → verdict_of h w rs ≡ Lacking n m k
      if q =
          let low = q.lowest in
          to_lacking (needed_count h w) (covered_count h w rs) (lowest_lacking h w rs) (needed_some k.0 low.needed)
          (λ e.
          true≢false
          (sym (count_each (tick_needed h w) (covered_by rs) (beyond h w) e k.0 (needed_below h w k.0 low.needed) low.needed) ∙ low.uncovered)) ∙
          ap₂ (λ (x y : ℕ). Lacking x y (record { 0 = lowest_lacking h w rs }))
          (one_count (tick_needed h w) (needed_count h w) n count_needed q.needed)
          (one_count (λ j. tick_needed h w j && covered_by rs j) (covered_count h w rs) m count_covered q.covered) ∙
          ap (λ (x : ℕ). Lacking n m (record { 0 = x }))
          (least_is (λ j. tick_needed h w j && not (covered_by rs j)) (beyond h w) k.0 (needed_below h w k.0 low.needed)
          (passes (tick_needed h w k.0) (covered_by rs k.0) low.needed low.uncovered)
          (λ j l. fails (tick_needed h w j) (covered_by rs j) (low.first j l)))

  needs_none : ExactlyWhen (verdict_of h w rs ≡ Nothing) (NeedsNone h w)
  needs_none = record { only = only; if = if }
    where
      only : verdict_of h w rs ≡ Nothing → NeedsNone h w
      only e k =
          let none = nothing_only (needed_count h w) (covered_count h w rs) (lowest_lacking h w rs) e in
          refuted (tick_needed h w k)
          (λ t. false≢true (sym (none_counted (tick_needed h w) (beyond h w) none k (needed_below h w k t)) ∙ t))

      if : NeedsNone h w → verdict_of h w rs ≡ Nothing
      if q =
          to_nothing (needed_count h w) (covered_count h w rs) (lowest_lacking h w rs)
          (count_none (tick_needed h w) (beyond h w) (λ k l. q k))

-- ---- asked at a clock, or of the whole period

same_refusal : (r s : Refusal) → ◌≡◌ {A = Result Verdict Refusal} (Err r) (Err s) → r ≡ s
same_refusal r s e = cc

refused_no : {A : Type 0} (t : Verdict) (why : Refusal) → ◌≡◌ {A = Result Verdict Refusal} (Err why) (Ok t) → A
refused_no t why e = let z : ◌≡◌ {A = ℕ} 0 1 = cc in absurd (let y : ⊥ = omega arith in y)

given_no : {A : Type 0} (v : Verdict) (why : Refusal) → ◌≡◌ {A = Result Verdict Refusal} (Ok v) (Err why) → A
given_no v why e = let z : ◌≡◌ {A = ℕ} 0 1 = cc in absurd (let y : ⊥ = omega arith in y)

module _ (rec : Record) (ws : List ℕ) where
  of_window : Stretch → Verdict
  of_window w = verdict_of rec.head w (kept rec ws)

  module _ (c : WideMillis) where
    asked_only : (t : Verdict) → verdict_at rec ws c ≡ Ok t → MayAsk rec ws c × (of_window (at_clock rec c) ≡ t)
    unfolding of_window
    asked_only t =
        by_asked_at rec ws c (λ v. v ≡ Ok t → MayAsk rec ws c × (of_window (at_clock rec c) ≡ t)) (λ a. refused_no t Disagreement)
        (λ a m. refused_no t ClockLimit)
        (λ a m l. refused_no t EarlierClock)
        (λ a m l q.
        let same : verdict_of rec.head (at_clock rec c) (kept rec ws) ≡ t = cc in
        (record { agreed = a; limit = leb-true c.0 largest_millis m; later = leb-true rec.clock.0 c.0 l }, same))

    asked_if : MayAsk rec ws c → verdict_at rec ws c ≡ Ok (of_window (at_clock rec c))
    unfolding of_window
    asked_if a = asked_at rec ws c a.agreed (le-leb c.0 largest_millis a.limit) (le-leb rec.clock.0 c.0 a.later)

    pub complete_at : (n : ℕ) → ExactlyWhen (verdict_at rec ws c ≡ Ok (Complete n)) (MayAsk rec ws c × Completes rec.head (at_clock rec c) (kept rec ws) n)
    unfolding of_window
    complete_at n =
        let here = completes rec.head (at_clock rec c) (kept rec ws) n in
        record { only = λ e. let a = asked_only (Complete n) e in (a.0, here.only a.1); if = λ p. asked_if p.0 ∙ ap Ok (here.if p.1) }

    pub lacking_at : (n m : ℕ) (k : WideTick) → ExactlyWhen (verdict_at rec ws c ≡ Ok (Lacking n m k)) (MayAsk rec ws c × Lacks rec.head (at_clock rec c) (kept rec ws) n m k.0)
    unfolding of_window
    lacking_at n m k =
        let here = lacks rec.head (at_clock rec c) (kept rec ws) n m k in
        record { only = λ e. let a = asked_only (Lacking n m k) e in (a.0, here.only a.1); if = λ p. asked_if p.0 ∙ ap Ok (here.if p.1) }

    pub nothing_at : ExactlyWhen (verdict_at rec ws c ≡ Ok Nothing) (MayAsk rec ws c × NeedsNone rec.head (at_clock rec c))
    unfolding of_window
    nothing_at =
        let here = needs_none rec.head (at_clock rec c) (kept rec ws) in
        record { only = λ e. let a = asked_only Nothing e in (a.0, here.only a.1); if = λ p. asked_if p.0 ∙ ap Ok (here.if p.1) }

    pub refused_at_lem : (why : Refusal) → ExactlyWhen (verdict_at rec ws c ≡ Err why) (MayNotAsk rec ws c why)
    unfolding of_window
    refused_at_lem why =
        record {
          only =
              by_asked_at rec ws c (λ v. v ≡ Err why → MayNotAsk rec ws c why)
              (λ a q. subst (MayNotAsk rec ws c) (same_refusal Disagreement why q) (disagree a))
              (λ a m q. subst (MayNotAsk rec ws c) (same_refusal ClockLimit why q) (over a (leb-false c.0 largest_millis m)))
              (λ a m l q.
              subst (MayNotAsk rec ws c) (same_refusal EarlierClock why q) (early a (leb-true c.0 largest_millis m) (leb-false rec.clock.0 c.0 l)))
              (λ a m l. given_no (of_window (at_clock rec c)) why);
          if = back;
        }
      where
        back : {x : Refusal} → MayNotAsk rec ws c x → verdict_at rec ws c ≡ Err x
        back (disagree e) =
            ap
            (λ s. cond s (cond (clock_held c) (cond (leb rec.clock.0 c.0) (Ok (of_window (at_clock rec c))) (Err EarlierClock)) (Err ClockLimit)) (Err Disagreement))
            e
        back (over e l) =
            ap₂
            (λ s t. cond s (cond t (cond (leb rec.clock.0 c.0) (Ok (of_window (at_clock rec c))) (Err EarlierClock)) (Err ClockLimit)) (Err Disagreement))
            e
            (lt-leb c.0 largest_millis l)
        back (early e l m) =
            ap
            (λ s. cond s (cond (clock_held c) (cond (leb rec.clock.0 c.0) (Ok (of_window (at_clock rec c))) (Err EarlierClock)) (Err ClockLimit)) (Err Disagreement))
            e ∙
            ap₂ (λ s t. cond s (cond t (Ok (of_window (at_clock rec c))) (Err EarlierClock)) (Err ClockLimit)) (le-leb c.0 largest_millis l)
            (lt-leb rec.clock.0 c.0 m)

  -- ---- of the whole period

  whole_only : (t : Verdict) → verdict_whole rec ws ≡ Ok t → MayAskWhole rec ws × (of_window (in_whole rec) ≡ t)
  unfolding of_window
  whole_only t =
      by_asked_whole rec ws (λ v. v ≡ Ok t → MayAskWhole rec ws × (of_window (in_whole rec) ≡ t)) (λ a. refused_no t Disagreement)
      (λ a k. refused_no t EndUnknown)
      (λ a k q.
      let same : verdict_of rec.head (in_whole rec) (kept rec ws) ≡ t = cc in
      (record { agreed = a; known = some_of rec.head.duration.0 (not-true (eqb rec.head.duration.0 0) k) }, same))

  whole_if : MayAskWhole rec ws → verdict_whole rec ws ≡ Ok (of_window (in_whole rec))
  unfolding of_window
  whole_if a = asked_whole rec ws a.agreed (ap not (ne_eqb rec.head.duration.0 0 (apart rec.head.duration.0 a.known)))

  pub complete_whole : (n : ℕ) → ExactlyWhen (verdict_whole rec ws ≡ Ok (Complete n)) (MayAskWhole rec ws × Completes rec.head (in_whole rec) (kept rec ws) n)
  unfolding of_window
  complete_whole n =
      let here = completes rec.head (in_whole rec) (kept rec ws) n in
      record { only = λ e. let a = whole_only (Complete n) e in (a.0, here.only a.1); if = λ p. whole_if p.0 ∙ ap Ok (here.if p.1) }

  pub lacking_whole : (n m : ℕ) (k : WideTick) → ExactlyWhen (verdict_whole rec ws ≡ Ok (Lacking n m k)) (MayAskWhole rec ws × Lacks rec.head (in_whole rec) (kept rec ws) n m k.0)
  unfolding of_window
  lacking_whole n m k =
      let here = lacks rec.head (in_whole rec) (kept rec ws) n m k in
      record { only = λ e. let a = whole_only (Lacking n m k) e in (a.0, here.only a.1); if = λ p. whole_if p.0 ∙ ap Ok (here.if p.1) }

  pub nothing_whole : ExactlyWhen (verdict_whole rec ws ≡ Ok Nothing) (MayAskWhole rec ws × NeedsNone rec.head (in_whole rec))
  unfolding of_window
  nothing_whole =
      let here = needs_none rec.head (in_whole rec) (kept rec ws) in
      record { only = λ e. let a = whole_only Nothing e in (a.0, here.only a.1); if = λ p. whole_if p.0 ∙ ap Ok (here.if p.1) }

  pub refused_whole : (why : Refusal) → ExactlyWhen (verdict_whole rec ws ≡ Err why) (MayNotAskWhole rec ws why)
  unfolding of_window
  refused_whole why =
      record {
        only =
            by_asked_whole rec ws (λ v. v ≡ Err why → MayNotAskWhole rec ws why)
            (λ a q. subst (MayNotAskWhole rec ws) (same_refusal Disagreement why q) (disagreeing a))
            (λ a k q.
            subst (MayNotAskWhole rec ws) (same_refusal EndUnknown why q)
            (unknown a (eqb-true rec.head.duration.0 0 (not-false (eqb rec.head.duration.0 0) k))))
            (λ a k. given_no (of_window (in_whole rec)) why);
        if = back;
      }
    where
      back : {x : Refusal} → MayNotAskWhole rec ws x → verdict_whole rec ws ≡ Err x
      back (disagreeing e) = ap (λ s. cond s (cond (end_known rec.head) (Ok (of_window (in_whole rec))) (Err EndUnknown)) (Err Disagreement)) e
      back (unknown e f) =
          ap₂ (λ s t. cond s (cond (not t) (Ok (of_window (in_whole rec))) (Err EndUnknown)) (Err Disagreement)) e (eq-eqb rec.head.duration.0 0 f)

-- ---- 100 percent

is_complete : (v : Result Verdict Refusal) → complete v ≡ true → (n : ℕ) × (v ≡ Ok (Complete n))
is_complete (Ok Nothing) e = absurd (false≢true e)
is_complete (Ok (Complete n)) e = (n, refl)
is_complete (Ok (Lacking n m k)) e = absurd (false≢true e)
is_complete (Err r) e = absurd (false≢true e)

is_hundred : (p : Option ℕ) → hundred p ≡ true → p ≡ Some 100
is_hundred (Some n) e = ap Some (eqb-true n 100 e)
is_hundred None e = absurd (false≢true e)

hundred_by : (v : Result Verdict Refusal) → hundred (verdict_percent v) ≡ complete v → ExactlyWhen (verdict_percent v ≡ Some 100) ((n : ℕ) × (v ≡ Ok (Complete n)))
hundred_by v e =
    record {
      only = λ p. is_complete v (sym e ∙ ap hundred p);
      if = λ q. is_hundred (verdict_percent v) (e ∙ ap complete q.1);
    }

pub hundred_at : (rec : Record) (ws : List ℕ) (c : WideMillis) → ExactlyWhen (verdict_percent (verdict_at rec ws c) ≡ Some 100) ((n : ℕ) × (verdict_at rec ws c ≡ Ok (Complete n)))
hundred_at rec ws c = hundred_by (verdict_at rec ws c) (percent_at rec ws c)

pub hundred_whole : (rec : Record) (ws : List ℕ) → ExactlyWhen (verdict_percent (verdict_whole rec ws) ≡ Some 100) ((n : ℕ) × (verdict_whole rec ws ≡ Ok (Complete n)))
hundred_whole rec ws = hundred_by (verdict_whole rec ws) (percent_whole rec ws)
