-- The covered edge is right. Kept references end at the next tick; past the edge the tick that holds the last grain before the
-- upper edge is at or after it, is needed where the window is not empty, and lies in no kept reference.
use mathlib.Core.Path.{◌≡◌, refl, sym, ap, subst, ◌∙◌}
use mathlib.Core.Bool.{Bool, true, false, cond, true≢false}
use mathlib.Core.List.{List, [], ◌∷◌}
use Prim.Native.Nat.{ℕ, ◌+◌, ◌-◌, ◌*◌, ◌/◌, ◌≤◌, ◌<◌, min, max}
use native.Mathlib.Nat.{mul-le-mul_right}
use native.Mathlib.Omega.{arith}
use borrow.Author.Tests.{ltb-true, leb-true, leb-false, le-leb, lt-leb, le-ltb, eqb-true, eqb-false}
use lib.Dec.{leb, ltb, eqb, lit<, lit≤}
use lib.IntN.{ℤ, pos, negsuc}
use lib.Signed.{le_z, lt_z}
use Rattle.units.specs.Exactly.{ExactlyWhen}
use Rattle.units.specs.Limits.{largest_millis}
use Rattle.units.specs.declared.Millis.{Millis}
use Rattle.units.specs.declared.WideMillis.{WideMillis}
use Rattle.units.proofs.Signed.{up, is_pos, le_is}
use Rattle.window.specs.declared.Head.{Head}
use Rattle.window.specs.declared.Reference.{Reference}
use Rattle.window.specs.Place.{place, moment, period_end, before_end}
use Rattle.window.specs.Window.{Stretch, low_edge, high_edge, window_at, tick_needed}
use Rattle.window.specs.Ticks.{reaches_end}
use Rattle.window.proofs.Ranges.{in_range_lem, past_range}
use Rattle.window.proofs.Unsigned.{end_at, place_n, low_n, high_n, is_known, up_lt, low_is, high_up, place_is, before_is, tick_is, window_inside}
use Rattle.window.proofs.Division.{window_ticks}
use Rattle.runs.specs.Words.{runs_of, words_of, repeated, references_of}
use Rattle.runs.specs.Shape.{runs_shaped, zeros}
use Rattle.runs.specs.Ends.{last_end}
use Rattle.agreement.specs.declared.Record.{Record}
use Rattle.agreement.specs.declared.refusal.Refusal.{Refusal}
use Rattle.agreement.specs.declared.refusal.Refusal.TheVariants.{Disagreement}
use Rattle.agreement.specs.Agreement.{every, agrees, kept}
use Rattle.keeping.specs.Keeping.{changed_by, words_by}
use Rattle.timeline.specs.Opening.{open_outcome}
use Rattle.answers.specs.declared.Verdict.TheVariants.{Complete}
use Rattle.std.specs.Prelude.{Err, None, Ok, Option, Result, Some}
use Rattle.answers.specs.Cover.{covered_by}
use Rattle.answers.specs.Counts.{beyond, needed_count, covered_count, lowest_lacking}
use Rattle.answers.specs.Judgement.{verdict_of, verdict_at, complete, Whole}
use Rattle.answers.specs.Edge.{at_or_before, edge_of, covered_edge}
use Rattle.answers.proofs.Counting.{count_some, count_each}
use Rattle.answers.proofs.Covering.{needed_below}
use Rattle.answers.proofs.Cases.{to_lacking, asked_at}
use Rattle.answers.proofs.Agreed.{none_reach, first_reach, kept_cover}
use Rattle.answers.proofs.Completeness.{complete_at}
use Rattle.answers.proofs.Edging.{Latest, latest_right, right_is, by_clock, by_end, not_later}
use Rattle.words.specs.Words.{head_with}
use Rattle.laws.specs.Calls.{State}
use Rattle.laws.specs.Demand2.{MayAsk, at_clock}
use Rattle.laws.specs.ByHand.{head_a, head_b, head_d, state_of}
use Rattle.laws.specs.Edge.{LatestClock, NotEmpty, SaysLacking, clock, open_late, EdgeRight}
use Rattle.laws.proofs.ByHand.{state_a, state_b, state_d2, agreed, by_hand}

-- ---- a tick that is needed and lies in no reference

lacks_by : (h : Head) (w : Stretch) (rs : List Reference) (k : ℕ) → tick_needed h w k ≡ true → covered_by rs k ≡ false → SaysLacking (Ok (verdict_of h w rs))
lacks_by h w rs k t f = (
  needed_count h w,
  covered_count h w rs,
  record { 0 = lowest_lacking h w rs },
  ap Ok
      (to_lacking (needed_count h w) (covered_count h w rs) (lowest_lacking h w rs)
      (count_some (tick_needed h w) (beyond h w) k (needed_below h w k t) t)
      (λ e. true≢false (sym (count_each (tick_needed h w) (covered_by rs) (beyond h w) e k (needed_below h w k t) t) ∙ f))),
)

natural : (z : ℤ) (n : ℕ) → up z ≡ n → 0 < n → z ≡ pos n
natural (pos m) n e l = ap pos e
natural (negsuc m) n e l = let y : ⊥ = omega arith in absurd y

module _ (h : Head) (c : ℕ) where
  wide : NotEmpty (window_at h c) → low_n h c < high_n h c
  wide e =
      ltb-true (low_n h c) (high_n h c)
      (sym (ap (λ z. lt_z z (high_edge h c)) (low_is h c) ∙ up_lt (low_n h c) (high_edge h c) ∙ ap (ltb (low_n h c)) (high_up h c)) ∙ e)

  -- the upper edge lies after tick k
  after_tick : (k : ℕ) → 0 < high_n h c → at_or_before h k c ≡ false → k * 1000 < high_n h c + h.offset.0 * 1000
  after_tick k l f =
      let at : high_edge h c ≡ pos (high_n h c) = natural (high_edge h c) (high_n h c) (high_up h c) l in
      let e : leb (high_n h c + h.offset.0 * 1000) (k * 1000 + 0) ≡ false =
      sym (le_is (pos (high_n h c)) (place h k) (high_n h c) 0 (k * 1000) (h.offset.0 * 1000) (is_pos (high_n h c)) (place_is h k)) ∙
      ap (λ z. le_z z (place h k)) (sym at) ∙
      f
      in
      let m : k * 1000 + 0 < high_n h c + h.offset.0 * 1000 = leb-false (high_n h c + h.offset.0 * 1000) (k * 1000 + 0) e in
      omega arith

  -- the tick that holds the last grain before the upper edge
  abbrev last : ℕ
  last = h.offset.0 + (high_n h c - 1) / 1000

  last_needed : low_n h c < high_n h c → tick_needed h (window_at h c) last ≡ true
  last_needed l =
      (window_ticks h c l).each last ∙
      in_range_lem (h.offset.0 + low_n h c / 1000) (h.offset.0 + (high_n h c + 999) / 1000) last (omega arith) (omega arith)

  -- a window that needs a tick is not empty
  some_wide : (k : ℕ) → tick_needed h (window_at h c) k ≡ true → low_n h c < high_n h c
  some_wide k t =
      let l : max (place_n h k) (low_n h c) < min (place_n h (k + 1)) (high_n h c) =
      ltb-true _ _ (sym (window_inside h c k ∙ tick_is h (low_n h c) (high_n h c) k) ∙ t)
      in
      omega arith

-- ---- past the edge

module _ (rec : Record) (ws : List ℕ) (a : agrees rec ws ≡ true) where
  -- no tick at or after the next one lies in a kept reference
  uncovered : (k : ℕ) → rec.next.0 ≤ k → covered_by (kept rec ws) k ≡ false
  uncovered k l = go (eqb rec.used 0) refl
    where
      go : (t : Bool) → eqb rec.used 0 ≡ t → covered_by (kept rec ws) k ≡ false
      go true e = kept_cover rec ws a rec.next.0 (none_reach rec ws a (eqb-true rec.used 0 e)) k ∙ past_range rec.next.0 rec.next.0 k l
      go false e = kept_cover rec ws a _ (first_reach rec ws a (eqb-false rec.used 0 e)) k ∙ past_range _ rec.next.0 k l

  module _ (c : ℕ) (l : low_n rec.head c < high_n rec.head c) (f : at_or_before rec.head rec.next.0 c ≡ false) where
    last_uncovered : covered_by (kept rec ws) (last rec.head c) ≡ false
    last_uncovered =
        uncovered (last rec.head c) (omega (arith, after_tick rec.head c rec.next.0 (omega arith) f))

    past_lacks : SaysLacking (Ok (verdict_of rec.head (window_at rec.head c) (kept rec ws)))
    past_lacks = lacks_by rec.head (window_at rec.head c) (kept rec ws) (last rec.head c) (last_needed rec.head c l) last_uncovered

-- ---- the answers

module _ (rec : Record) (ws : List ℕ) where
  abbrev edge : Option Millis
  edge = edge_of rec.head rec.next.0

  abbrev test : ℕ → Bool
  test = at_or_before rec.head rec.next.0

  pub asked : agrees rec ws ≡ true → covered_edge rec ws ≡ Ok edge
  asked a = ap (λ t. cond t (Ok edge) (Err Disagreement)) a

  by_asked : (A : Result (Option Millis) Refusal → Type 0) → (agrees rec ws ≡ false → A (Err Disagreement)) → (agrees rec ws ≡ true → A (Ok edge)) → A (covered_edge rec ws)
  by_asked A disagree agreed = go (agrees rec ws) refl
    where
      go : (t : Bool) → agrees rec ws ≡ t → A (cond t (Ok edge) (Err Disagreement))
      go true e = agreed e
      go false e = disagree e

  -- what is known of an answer that is not refused
  known : (x : Option Millis) → edge ≡ x → Latest test largest_millis x
  known x e = subst (Latest test largest_millis) e (latest_right test largest_millis)

  at : (m : Millis) → ExactlyWhen (covered_edge rec ws ≡ Ok (Some m)) ((agrees rec ws ≡ true) × LatestClock rec m.0)
  at m =
      record {
        only =
            by_asked (λ x. x ≡ Ok (Some m) → (agrees rec ws ≡ true) × LatestClock rec m.0)
            (λ a e. let clash : ◌≡◌ {A = ℕ} 0 1 = cc in let y : ⊥ = omega arith in absurd y)
            (λ a e. let same : edge ≡ Some m = cc in let r = known (Some m) same in (a, record { limit = r.0; there = r.1; later = r.2 }));
        if = λ p. asked p.0 ∙ ap Ok (sym (right_is test largest_millis (Some m) (p.1.limit, p.1.there, p.1.later)));
      }

  -- what the upper edge has passed at clock 0 it has passed at every clock
  from_start : test 0 ≡ false → (c : ℕ) → test c ≡ false
  from_start f c = go (before_end rec.head rec.next.0) refl
    where
      go : (t : Bool) → before_end rec.head rec.next.0 ≡ t → test c ≡ false
      go true b =
          let h = rec.head in
          let k = rec.next.0 in
          let l : k * 1000 + h.start.0 * h.timescale.0 < (0 + h.update.0) * h.timescale.0 + h.offset.0 * 1000 = leb-false _ _ (sym (by_clock h k 0 b) ∙ f) in
          let z : 0 + h.update.0 ≤ c + h.update.0 = omega arith in
          let m : (0 + h.update.0) * h.timescale.0 ≤ (c + h.update.0) * h.timescale.0 = mul-le-mul_right h.timescale.0 z in
          by_clock h k c b ∙ lt-leb ((c + h.update.0) * h.timescale.0 + h.offset.0 * 1000) (k * 1000 + h.start.0 * h.timescale.0) (omega arith)
      go false b = absurd (true≢false (sym (by_end rec.head rec.next.0 0 b) ∙ f))

  never : ExactlyWhen (covered_edge rec ws ≡ Ok None) ((agrees rec ws ≡ true) × (test 0 ≡ false))
  never =
      record {
        only =
            by_asked (λ x. x ≡ Ok None → (agrees rec ws ≡ true) × (test 0 ≡ false))
            (λ a e. let clash : ◌≡◌ {A = ℕ} 0 1 = cc in let y : ⊥ = omega arith in absurd y)
            (λ a e. let same : edge ≡ None = cc in (a, known None same 0 (omega arith)));
        if = λ p. asked p.0 ∙ ap Ok (sym (right_is test largest_millis None (λ c l. from_start p.1 c)));
      }

  refused : (why : Refusal) → ExactlyWhen (covered_edge rec ws ≡ Err why) ((agrees rec ws ≡ false) × (why ≡ Disagreement))
  refused why =
      record {
        only =
            by_asked (λ x. x ≡ Err why → (agrees rec ws ≡ false) × (why ≡ Disagreement))
            (λ a e. (a, let same : Disagreement ≡ why = cc in sym same))
            (λ a e. let clash : ◌≡◌ {A = ℕ} 0 1 = cc in let y : ⊥ = omega arith in absurd y);
        if = λ p. ap (λ t. cond t (Ok edge) (Err Disagreement)) p.0 ∙ ap Err (sym p.1);
      }

  limit : agrees rec ws ≡ true → 1 ≤ rec.head.duration.0 → reaches_end rec.head rec.next.0 ≡ true → covered_edge rec ws ≡ Ok (Some (clock largest_millis))
  unfolding period_end
  limit a d e =
      let h = rec.head in
      let k = rec.next.0 in
      let l : end_at h + h.offset.0 * 1000 ≤ k * 1000 + 0 =
      leb-true _ _ (sym (le_is (period_end h) (place h k) (end_at h) 0 (k * 1000) (h.offset.0 * 1000) (is_pos (end_at h)) (place_is h k)) ∙ e)
      in
      let b : before_end h k ≡ false =
      before_is h k ∙ ap (λ t. cond t (ltb (k * 1000) (h.offset.0 * 1000 + end_at h)) true) (is_known h (λ z. let y : ⊥ = omega arith in y)) ∙
      le-ltb (k * 1000) (h.offset.0 * 1000 + end_at h) (omega arith)
      in
      asked a ∙
      ap Ok (sym (right_is test largest_millis (Some (clock largest_millis)) (omega arith, by_end h k largest_millis b, λ j i m. let y : ⊥ = omega arith in absurd y)))

  -- ---- verdicts

  module _ (c : WideMillis) where
    lacking : test c.0 ≡ false → MayAsk rec ws c → NotEmpty (at_clock rec c) → SaysLacking (verdict_at rec ws c)
    lacking f p e =
        let v = past_lacks rec ws p.agreed c.0 (wide rec.head c.0 e) f in (
          v.0,
          v.1,
          v.2,
          asked_at rec ws c p.agreed (le-leb c.0 largest_millis p.limit) (le-leb rec.clock.0 c.0 p.later) ∙ v.3,
        )

    lacking_after : (m : Millis) → covered_edge rec ws ≡ Ok (Some m) → m.0 < c.0 → MayAsk rec ws c → NotEmpty (at_clock rec c) → SaysLacking (verdict_at rec ws c)
    lacking_after m e l p = lacking (((at m).only e).1.later c.0 l p.limit) p

    lacking_ever : covered_edge rec ws ≡ Ok None → MayAsk rec ws c → NotEmpty (at_clock rec c) → SaysLacking (verdict_at rec ws c)
    lacking_ever e p = lacking (from_start (never.only e).1 c.0) p

    complete_upto : (n : ℕ) → verdict_at rec ws c ≡ Ok (Complete n) → (m : Millis) × (covered_edge rec ws ≡ Ok (Some m)) × (c.0 ≤ m.0)
    complete_upto n e = upto edge refl
      where
        said : (agrees rec ws ≡ true) × (leb c.0 largest_millis ≡ true) × (leb rec.clock.0 c.0 ≡ true) × Whole rec.head (at_clock rec c) (kept rec ws)
        said = (complete_at rec ws c).only (ap complete e)

        held : c.0 ≤ largest_millis
        held = leb-true c.0 largest_millis said.1

        there : test c.0 ≡ true
        there = go (test c.0) refl
          where
            go : (t : Bool) → test c.0 ≡ t → test c.0 ≡ true
            go true f = f
            go false f =
                let whole = said.3 in
                let l : low_n rec.head c.0 < high_n rec.head c.0 = some_wide rec.head c.0 whole.some.0 whole.some.1 in
                absurd
                (true≢false
                (sym (whole.each (last rec.head c.0) (last_needed rec.head c.0 l)) ∙ last_uncovered rec ws said.0 c.0 l f))

        upto : (x : Option Millis) → edge ≡ x → (m : Millis) × (covered_edge rec ws ≡ Ok (Some m)) × (c.0 ≤ m.0)
        upto (Some m) g = (m, asked said.0 ∙ ap Ok g, not_later test largest_millis m.0 c.0 there held (known (Some m) g).2)
        upto None g = absurd (true≢false (sym there ∙ known None g c.0 held))

-- ---- by hand

-- the edge is where the next tick stands, in whole milliseconds
pub at_clock_lem : (h : Head) (k m : ℕ) → before_end h k ≡ true → m ≤ largest_millis → (m + h.update.0) * h.timescale.0 + h.offset.0 * 1000 ≤ k * 1000 + h.start.0 * h.timescale.0 →
    k * 1000 + h.start.0 * h.timescale.0 < (m + 1 + h.update.0) * h.timescale.0 + h.offset.0 * 1000 → edge_of h k ≡ Some (clock m)
at_clock_lem h k m b l u v =
    sym
    (right_is (at_or_before h k) largest_millis (Some (clock m)) (
      l,
      by_clock h k m b ∙ le-leb ((m + h.update.0) * h.timescale.0 + h.offset.0 * 1000) (k * 1000 + h.start.0 * h.timescale.0) u,
      λ j i n.
          let next : m + 1 + h.update.0 ≤ j + h.update.0 = omega arith in
          let w : (m + 1 + h.update.0) * h.timescale.0 ≤ (j + h.update.0) * h.timescale.0 = mul-le-mul_right h.timescale.0 next in
          by_clock h k j b ∙ lt-leb ((j + h.update.0) * h.timescale.0 + h.offset.0 * 1000) (k * 1000 + h.start.0 * h.timescale.0) (omega arith),
    ))

abbrev state_late : State
state_late = state_of (head_with 1000 5 0 0 10_000 1 0) 0 0 0 0 0 (0 ∷ 0 ∷ 0 ∷ [])

record Worked : Type 0 where
  a_before : before_end head_a 161 ≡ true
  d_reaches : reaches_end head_d 2 ≡ true
  late : agrees state_late.rec state_late.words ≡ true
  late_state : open_late ≡ state_late
  late_zero : at_or_before (head_with 1000 5 0 0 10_000 1 0) 0 0 ≡ false

worked : Worked
unfolding agrees runs_of words_of repeated references_of runs_shaped zeros last_end every place moment period_end low_edge high_edge changed_by words_by open_outcome
worked = record { a_before = refl; d_reaches = refl; late = refl; late_state = refl; late_zero = refl }

pub edge_right : EdgeRight
edge_right =
    record {
      at = at;
      never = never;
      refused = refused;
      limit = limit;
      lacking_after = λ rec ws m c. lacking_after rec ws c m;
      lacking_ever = lacking_ever;
      complete_upto = complete_upto;
      a_edge =
          ap (λ s. covered_edge s.rec s.words) by_hand.a_state ∙ asked state_a.rec state_a.words agreed.a ∙
          ap Ok (at_clock_lem head_a 161 36_100 worked.a_before (lit≤ tt) (lit≤ tt) (lit< tt));
      b_edge =
          ap (λ s. covered_edge s.rec s.words) by_hand.b_state ∙ asked state_b.rec state_b.words agreed.b ∙
          ap Ok (at_clock_lem head_b 20_000 20_000 refl (lit≤ tt) (lit≤ tt) (lit< tt));
      b_none =
          ap (λ s. covered_edge s.rec s.words) worked.late_state ∙
          (never state_late.rec state_late.words).if (worked.late, worked.late_zero);
      d_edge =
          ap (λ s. covered_edge s.rec s.words) by_hand.d_state ∙
          limit state_d2.rec state_d2.words agreed.d_two (lit≤ tt) worked.d_reaches;
    }
