-- THE THEOREM, by its own name: a verdict is complete exactly where one tick at least is needed and every needed tick lies
-- in a kept reference. Percent is 100 exactly there, and the tick that a verdict says is lacking is the lowest that is.
use mathlib.Core.Path.{◌≡◌, refl, sym, ap, ◌∙◌}
use mathlib.Core.Bool.{Bool, true, false, ◌&&◌, not, and-eq-true_iff, true≢false, false≢true}
use mathlib.Core.List.{List}
use Prim.Native.Nat.{ℕ, zero, suc, ◌*◌, ◌/◌, ◌≤◌, ◌<◌}
use native.Mathlib.Nat.{mul-div_cancel_left, div-lt_iff_lt-mul}
use native.Mathlib.Omega.{arith}
use borrow.Author.Tests.{eq-eqb, ne_eqb, not-true}
use lib.Dec.{eqb, leb}
use Rattle.std.specs.Prelude.{Ok}
use Rattle.units.specs.Exactly.{ExactlyWhen}
use Rattle.units.specs.Limits.{clock_held}
use Rattle.units.specs.declared.WideMillis.{WideMillis}
use Rattle.units.specs.declared.WideTick.{WideTick}
use Rattle.window.specs.declared.Head.{Head}
use Rattle.window.specs.declared.Reference.{Reference}
use Rattle.window.specs.Place.{end_known}
use Rattle.window.specs.Window.{Stretch, window_at, whole_period, tick_needed}
use Rattle.agreement.specs.declared.Record.{Record}
use Rattle.agreement.specs.Agreement.{agrees, kept}
use Rattle.answers.specs.declared.Verdict.TheVariants.{Lacking}
use Rattle.answers.specs.Cover.{covered_by}
use Rattle.answers.specs.Counts.{count_below, beyond, needed_count, covered_count, lowest_lacking}
use Rattle.answers.specs.Judgement.{judged, verdict_of, verdict_at, verdict_whole, complete, Whole, Lowest}
use Rattle.answers.specs.Shares.{verdict_percent, hundred}
use Rattle.answers.proofs.Counting.{apart, one_counted, count_some, count_all, count_each, count_less, none_counted, least_passes, least_first}
use Rattle.answers.proofs.Covering.{needed_below}
use Rattle.answers.proofs.Cases.{to_complete, by_count, asked_at, by_asked_at, asked_whole, by_asked_whole}
use Rattle.answers.proofs.Percents.{some_percent}

-- ---- complete, by the counts

counts_complete : (n c l : ℕ) → complete (Ok (judged n c l)) ≡ true → (1 ≤ n) × (c ≡ n)
counts_complete n c l =
    by_count n c l (λ v. complete (Ok v) ≡ true → (1 ≤ n) × (c ≡ n)) (λ z h. absurd (false≢true h)) (λ some e h. (some, e)) (λ some o h. absurd (false≢true h))

-- ---- THE THEOREM

module _ (h : Head) (w : Stretch) (rs : List Reference) where
  pub complete_exactly : ExactlyWhen (complete (Ok (verdict_of h w rs)) ≡ true) (Whole h w rs)
  complete_exactly = record { only = only; if = if }
    where
      only : complete (Ok (verdict_of h w rs)) ≡ true → Whole h w rs
      only t =
          let counts = counts_complete (needed_count h w) (covered_count h w rs) (lowest_lacking h w rs) t in
          record {
            some = one_counted (tick_needed h w) (beyond h w) counts.0;
            each = λ k n. count_each (tick_needed h w) (covered_by rs) (beyond h w) counts.1 k (needed_below h w k n) n;
          }

      if : Whole h w rs → complete (Ok (verdict_of h w rs)) ≡ true
      if q =
          ap (λ v. complete (Ok v))
          (to_complete (needed_count h w) (covered_count h w rs) (lowest_lacking h w rs)
          (count_some (tick_needed h w) (beyond h w) q.some.0 (needed_below h w q.some.0 q.some.1) q.some.1)
          (count_all (tick_needed h w) (covered_by rs) (beyond h w) q.each))

-- the same of the answers: a refused call is not complete
pub complete_at : (rec : Record) (ws : List ℕ) (c : WideMillis) →
    ExactlyWhen (complete (verdict_at rec ws c) ≡ true)
    ((agrees rec ws ≡ true) × (clock_held c ≡ true) × (leb rec.clock.0 c.0 ≡ true) × Whole rec.head (window_at rec.head c.0) (kept rec ws))
complete_at rec ws c = record { only = only; if = if }
  where
    here : ExactlyWhen (complete (Ok (verdict_of rec.head (window_at rec.head c.0) (kept rec ws))) ≡ true) (Whole rec.head (window_at rec.head c.0) (kept rec ws))
    here = complete_exactly rec.head (window_at rec.head c.0) (kept rec ws)

    Asked : Type 0
    Asked = (agrees rec ws ≡ true) × (clock_held c ≡ true) × (leb rec.clock.0 c.0 ≡ true) × Whole rec.head (window_at rec.head c.0) (kept rec ws)

    only : complete (verdict_at rec ws c) ≡ true → Asked
    only =
        by_asked_at rec ws c (λ v. complete v ≡ true → Asked) (λ a h. absurd (false≢true h)) (λ a m h. absurd (false≢true h)) (λ a m l h. absurd (false≢true h))
        (λ a m l h. (a, m, l, here.only h))

    if : Asked → complete (verdict_at rec ws c) ≡ true
    if p = ap complete (asked_at rec ws c p.0 p.1 p.2) ∙ here.if p.3

pub complete_whole : (rec : Record) (ws : List ℕ) →
    ExactlyWhen (complete (verdict_whole rec ws) ≡ true) ((agrees rec ws ≡ true) × (end_known rec.head ≡ true) × Whole rec.head (whole_period rec.head) (kept rec ws))
complete_whole rec ws = record { only = only; if = if }
  where
    here : ExactlyWhen (complete (Ok (verdict_of rec.head (whole_period rec.head) (kept rec ws))) ≡ true) (Whole rec.head (whole_period rec.head) (kept rec ws))
    here = complete_exactly rec.head (whole_period rec.head) (kept rec ws)

    Asked : Type 0
    Asked = (agrees rec ws ≡ true) × (end_known rec.head ≡ true) × Whole rec.head (whole_period rec.head) (kept rec ws)

    only : complete (verdict_whole rec ws) ≡ true → Asked
    only =
        by_asked_whole rec ws (λ v. complete v ≡ true → Asked) (λ a h. absurd (false≢true h)) (λ a k h. absurd (false≢true h))
        (λ a k h. (a, k, here.only h))

    if : Asked → complete (verdict_whole rec ws) ≡ true
    if p = ap complete (asked_whole rec ws p.0 p.1) ∙ here.if p.2

-- ---- percent is 100 exactly where the verdict is complete

-- less than all is less than 100
short_percent : (c n : ℕ) → c < n → eqb (c * 100 / n) 100 ≡ false
short_percent c n l =
    let some : 0 < n = omega arith in
    let less : c * 100 < 100 * n = omega arith in
    let m : c * 100 / n < 100 = (div-lt_iff_lt-mul some).1 less in
    ne_eqb (c * 100 / n) 100 (λ e. let z : ⊥ = omega arith in z)

judged_percent : (n c l : ℕ) → c ≤ n → hundred (verdict_percent (Ok (judged n c l))) ≡ complete (Ok (judged n c l))
judged_percent n c l m =
    by_count n c l (λ v. hundred (verdict_percent (Ok v)) ≡ complete (Ok v)) (λ z. refl)
    (λ some e. ap hundred (sym (some_percent n n (apart n some) (n * 100 / n) (omega arith) refl)) ∙ eq-eqb (n * 100 / n) 100 (mul-div_cancel_left 100 some))
    (λ some o. ap hundred (sym (some_percent n c (apart n some) (c * 100 / n) m refl)) ∙ short_percent c n (omega arith))

module _ (h : Head) (w : Stretch) (rs : List Reference) where
  percent_of_lem : hundred (verdict_percent (Ok (verdict_of h w rs))) ≡ complete (Ok (verdict_of h w rs))
  percent_of_lem = judged_percent (needed_count h w) (covered_count h w rs) (lowest_lacking h w rs) (count_less (tick_needed h w) (covered_by rs) (beyond h w))

pub percent_at : (rec : Record) (ws : List ℕ) (c : WideMillis) → hundred (verdict_percent (verdict_at rec ws c)) ≡ complete (verdict_at rec ws c)
percent_at rec ws c =
    by_asked_at rec ws c (λ v. hundred (verdict_percent v) ≡ complete v) (λ a. refl) (λ a m. refl) (λ a m l. refl)
    (λ a m l. percent_of_lem rec.head (window_at rec.head c.0) (kept rec ws))

pub percent_whole : (rec : Record) (ws : List ℕ) → hundred (verdict_percent (verdict_whole rec ws)) ≡ complete (verdict_whole rec ws)
percent_whole rec ws =
    by_asked_whole rec ws (λ v. hundred (verdict_percent v) ≡ complete v) (λ a. refl) (λ a k. refl)
    (λ a k. percent_of_lem rec.head (whole_period rec.head) (kept rec ws))

-- ---- the lowest tick that is lacking

covered_of : (s t : Bool) → (s && not t) ≡ false → s ≡ true → t ≡ true
covered_of true true e f = refl
covered_of true false e f = absurd (true≢false e)
covered_of false t e f = absurd (false≢true f)

judged_lacking : (n c l m d : ℕ) (k : WideTick) → judged n c l ≡ Lacking m d k → (c ≡ n → ⊥) × (l ≡ k.0)
judged_lacking n c l m d k =
    by_count n c l (λ v. v ≡ Lacking m d k → (c ≡ n → ⊥) × (l ≡ k.0))
    (λ z e. let clash : ◌≡◌ {A = ℕ} 0 1 = cc in let y : ⊥ = omega arith in absurd y)
    (λ some f e. let clash : ◌≡◌ {A = ℕ} 0 1 = cc in let y : ⊥ = omega arith in absurd y)
    (λ some o e. let same : record { 0 = l } ≡ k = cc in (o, ap (λ (x : WideTick). x.0) same))

module _ (h : Head) (w : Stretch) (rs : List Reference) (n c : ℕ) (k : WideTick) (e : verdict_of h w rs ≡ Lacking n c k) where
  lacks : ℕ → Bool
  lacks j = tick_needed h w j && not (covered_by rs j)

  some_lacks : (covered_count h w rs ≡ needed_count h w → ⊥) → 1 ≤ count_below lacks (beyond h w)
  unfolding lacks
  some_lacks apart = go (count_below lacks (beyond h w)) refl
    where
      go : (x : ℕ) → count_below lacks (beyond h w) ≡ x → 1 ≤ x
      go zero z =
          absurd
          (apart
          (count_all (tick_needed h w) (covered_by rs) (beyond h w)
          (λ j t. covered_of (tick_needed h w j) (covered_by rs j) (none_counted lacks (beyond h w) z j (needed_below h w j t)) t)))
      go (suc x) z = omega arith

  pub lowest_lacks : Lowest h w rs k.0
  unfolding lacks
  lowest_lacks =
      let said = judged_lacking (needed_count h w) (covered_count h w rs) (lowest_lacking h w rs) n c k e in
      let at : lacks k.0 ≡ true = ap lacks (sym said.1) ∙ least_passes lacks (beyond h w) (some_lacks said.0) in
      let both = (and-eq-true_iff (tick_needed h w k.0) (not (covered_by rs k.0))).0 at in
      record {
        needed = both.0;
        uncovered = not-true (covered_by rs k.0) both.1;
        first = λ j l t. covered_of (tick_needed h w j) (covered_by rs j) (least_first lacks (beyond h w) j (omega (arith, said.1))) t;
      }
