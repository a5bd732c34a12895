-- An S line, as the code meets it: a negative r, r of 0 or more, and the first S line, which opens the timeline.
use mathlib.Core.Path.{◌≡◌, refl, sym, ap, ap₂, ◌∙◌}
use mathlib.Core.Bool.{Bool, true, false, cond, not}
use mathlib.Core.List.{List}
use Prim.Native.Nat.{ℕ, ◌+◌, ◌≤◌, ◌<◌}
use native.Mathlib.Omega.{arith}
use borrow.Author.Tests.{lt-ltb, le-ltb, eq-eqb, ne_eqb, not-true, not-false}
use lib.Dec.{eqb, ltb}
use lib.ListN.{length, replicate}
use Rattle.units.specs.declared.Distance.{Distance}
use Rattle.units.specs.declared.Span.{Span}
use Rattle.std.specs.Prelude.{Err, None, Ok, Option, Some}
use Rattle.keeping.specs.Keeping.{Outcome}
use Rattle.units.specs.declared.WideTick.{WideTick}
use Rattle.units.specs.declared.standing.Standing.{Standing}
use Rattle.units.specs.declared.standing.Standing.TheVariants.{Joins, Gap, Overlap}
use Rattle.units.specs.Limits.{largest_tick, largest_span, span_held, span_made, tick_of}
use Rattle.units.proofs.Makers as makers
use Rattle.window.specs.declared.HeadFields.{HeadFields}
use Rattle.window.specs.Limits.{Held, head_of, fields_of}
use Rattle.window.specs.Place.{end_known, before_end}
use Rattle.window.specs.Ticks.{LeastCount}
use Rattle.window.proofs.Unsigned.{not_known, is_known}
use Rattle.runs.proofs.Encoded.{span_limits}
use Rattle.agreement.specs.declared.Record.{Record}
use Rattle.agreement.specs.declared.refusal.Refusal.{Refusal}
use Rattle.agreement.specs.declared.refusal.Refusal.TheVariants as refusal
use Rattle.agreement.specs.Agreement.{agrees}
use Rattle.agreement.proofs.Agreeing.{agreeing}
use Rattle.keeping.specs.declared.Changed.{Changed}
use Rattle.keeping.specs.Keeping.{words_keeping, changed_by, words_by}
use Rattle.keeping.specs.Append.{unspent_of, fit_outcome, appended}
use Rattle.timeline.specs.Opening.{fresh_record, zero_record, open_outcome, open_answer, open_table}
use Rattle.timeline.specs.Appending.{unjoined◌else◌, append_outcome}
use Rattle.timeline.proofs.Judged.{no_duration, stands_gap, stands_overlap, stands_joins}
use Rattle.timeline.proofs.Kept.{open_agrees}
use Rattle.frames.specs.declared.SFields.{SFields}
use Rattle.file.specs.declared.Stage.TheVariants.{Headed, Open, Filled, Refused}
use Rattle.file.specs.declared.Reading.{Reading}
use Rattle.file.specs.Judging.{File, settled_reading, refused, first_tick, first_negative, reach_outcome, reaches_by, appended_by, take_s, opened_by, take_first_s}
use Rattle.file.specs.Least.{least_count}
use Rattle.file.specs.Feeding.{most_lines}
use Rattle.file.specs.Sound.{Running, Begins}
use Rattle.file.proofs.Counts.{least_is}
use Rattle.file.proofs.Steps.{both, refused_is, refused_by, appended_by_lem}

-- ---- a negative r

-- what it comes to, by the tests that are left where it lasts and joins
reached : Record → List ℕ → ℕ → ℕ → Bool → Bool → Outcome
reached rec ws d n known before =
    cond known (cond before (fit_outcome rec ws d n) (Err refusal.PastEnd)) (Err refusal.NoEndToReach)

reach_by : (rec : Record) (ws : List ℕ) (st k : Standing) (d n : ℕ) (z : Bool) → eqb d 0 ≡ z → st ≡ k →
    reach_outcome rec ws st d n ≡
    cond z (Err refusal.NothingGiven) (unjoined k else reached rec ws d n (end_known rec.head) (before_end rec.head rec.next.0))
unfolding reach_outcome reached
reach_by rec ws st k d n z e j =
    ap₂ (λ b y. cond b (Err refusal.NothingGiven) (unjoined y else reached rec ws d n (end_known rec.head) (before_end rec.head rec.next.0))) e j

module _ (r : Reading) (ws : List ℕ) (span : Span) (h : Running r ws × (span_held span ≡ true)) where
  least : ℕ
  least = least_count r.rec.head r.rec.next.0 span.0

  lasts : 1 ≤ span.0
  lasts = (span_limits span h.1).0

  reach_is : (known before : Bool) (n : ℕ) → end_known r.rec.head ≡ known → before_end r.rec.head r.rec.next.0 ≡ before →
      reach_outcome r.rec ws Joins span.0 n ≡ reached r.rec ws span.0 n known before
  reach_is known before n e b =
      reach_by r.rec ws Joins Joins span.0 n false (ne_eqb span.0 0 (λ z. let f : ⊥ = omega (arith, lasts) in f)) refl ∙
      ap₂ (reached r.rec ws span.0 n) e b

  reach_refused : (why : Refusal) → reach_outcome r.rec ws Joins span.0 least ≡ Err why →
      (x : Reading) → x ≡ record { stage = Refused why; lines = r.lines; rec = r.rec } →
      ◌≡◌ {A = File} (record { reading = x; words = ws }) (reaches_by r ws Joins span.0)
  unfolding reaches_by least
  reach_refused why e x k =
      refused_by r ws why x k (reaches_by r ws Joins span.0)
      (refused_is (reach_outcome r.rec ws Joins span.0 least) why Filled r (appended r.rec ws span.0 least)
      (words_keeping ws (unspent_of r.rec ws span.0 least)) ws e)

  pub reach_unknown : r.rec.head.duration.0 ≡ 0 → (x : Reading) → x ≡ record { stage = Refused refusal.NoEndToReach; lines = r.lines; rec = r.rec } →
      ◌≡◌ {A = File} (record { reading = x; words = ws }) (reaches_by r ws Joins span.0)
  unfolding reached
  reach_unknown z x k = reach_refused refusal.NoEndToReach (reach_is false (before_end r.rec.head r.rec.next.0) least (not_known r.rec.head z) refl) x k

  pub few_lines : r.lines ≤ most_lines
  few_lines = omega (arith, h.0.few, (agreeing r.rec ws h.0.agreed).held.accepted)

  module _ (known : r.rec.head.duration.0 ≡ 0 → ⊥) where
    pub head_asks : Held r.rec.head
    head_asks = (agreeing r.rec ws h.0.agreed).held.head

    pub before_asks : r.rec.next.0 ≤ largest_tick
    before_asks = (agreeing r.rec ws h.0.agreed).held.next

    module _ (t : Bool) (e : t ≡ before_end r.rec.head r.rec.next.0) where
      pub reach_past : not t ≡ true → (x : Reading) → x ≡ record { stage = Refused refusal.PastEnd; lines = r.lines; rec = r.rec } →
          ◌≡◌ {A = File} (record { reading = x; words = ws }) (reaches_by r ws Joins span.0)
      unfolding reached
      reach_past m x k = reach_refused refusal.PastEnd (reach_is true false least (is_known r.rec.head known) (sym e ∙ not-true t m)) x k

      module _ (m : not t ≡ false) where
        begins : before_end r.rec.head r.rec.next.0 ≡ true
        begins = sym e ∙ not-false t m

        pub least_asks : (r.rec.next.0 ≤ largest_tick) × (span.0 ≤ largest_span) × (1 ≤ span.0) ×
            (end_known r.rec.head ≡ true) × (before_end r.rec.head r.rec.next.0 ≡ true)
        least_asks = (before_asks, (span_limits span h.1).1, lasts, is_known r.rec.head known, begins)

        module _ (n : ℕ) (l : LeastCount r.rec.head r.rec.next.0 span.0 n) where
          pub reach_appended : (c : Changed) → c ≡ changed_by (fit_outcome r.rec ws span.0 n) (appended r.rec ws span.0 n) r.rec →
              (vs : List ℕ) → vs ≡ words_by (fit_outcome r.rec ws span.0 n) (words_keeping ws (unspent_of r.rec ws span.0 n)) ws →
              (x : Reading) → x ≡ settled_reading c.outcome Filled r c.rec →
              ◌≡◌ {A = File} (record { reading = x; words = vs }) (reaches_by r ws Joins span.0)
          unfolding reaches_by least reached
          reach_appended c k vs v x j =
              let same : n ≡ least = least_is r.rec.head r.rec.next.0 span.0 lasts n l in
              appended_by_lem (reach_outcome r.rec ws Joins span.0 least) (fit_outcome r.rec ws span.0 n) Filled r ws span.0 n least
              (ap (reach_outcome r.rec ws Joins span.0) (sym same) ∙ reach_is true true n (is_known r.rec.head known) begins) same
              c k vs v x j

-- ---- an S line

module _ (r : Reading) (ws : List ℕ) (st : Standing) (s : SFields) (h : Running r ws × (s.d ≤ largest_span)) where
  -- what both kinds of r are refused with
  s_refused : (why : Refusal) → ((n : ℕ) → (n ≡ 0 → ⊥) → append_outcome r.rec ws st s.d n ≡ Err why) →
      ((n : ℕ) → reach_outcome r.rec ws st s.d n ≡ Err why) →
      (x : Reading) → x ≡ record { stage = Refused why; lines = r.lines; rec = r.rec } → ◌≡◌ {A = File} (record { reading = x; words = ws }) (take_s r ws st s)
  unfolding take_s reaches_by
  s_refused why a b x k = refused_by r ws why x k (take_s r ws st s) (go (ltb s.r first_negative))
    where
      go : (t : Bool) → refused why r ws ≡
          cond t (appended_by (append_outcome r.rec ws st s.d (s.r + 1)) Open r ws s.d (s.r + 1)) (reaches_by r ws st s.d)
      go true =
          refused_is (append_outcome r.rec ws st s.d (s.r + 1)) why Open r (appended r.rec ws s.d (s.r + 1))
          (words_keeping ws (unspent_of r.rec ws s.d (s.r + 1))) ws (a (s.r + 1) (λ z. let f : ⊥ = omega arith in f))
      go false =
          let n = least_count r.rec.head r.rec.next.0 s.d in
          refused_is (reach_outcome r.rec ws st s.d n) why Filled r (appended r.rec ws s.d n)
          (words_keeping ws (unspent_of r.rec ws s.d n)) ws (b n)

  -- the answer of the constructor decides first
  module _ (m : Option Span) (made : m ≡ span_made s.d) where
    pub s_nothing : m ≡ None → (x : Reading) → x ≡ record { stage = Refused refusal.NothingGiven; lines = r.lines; rec = r.rec } →
        ◌≡◌ {A = File} (record { reading = x; words = ws }) (take_s r ws st s)
    s_nothing o x k =
        let z = makers.no_duration s.d m made h.1 o in
        s_refused refusal.NothingGiven (λ n i. no_duration r.rec ws st s.d n h.0.agreed z)
        (λ n. reach_by r.rec ws st st s.d n true (eq-eqb s.d 0 z) refl) x k

    module _ (sp : Span) (o : m ≡ Some sp) where
      i : s.d ≡ 0 → ⊥
      i = makers.duration_some s.d m made sp o

      is : sp ≡ record { 0 = s.d }
      is = makers.duration_is s.d m made sp o

      pub s_gap : (far : Distance) → st ≡ Gap far → (x : Reading) → x ≡ record { stage = Refused (refusal.Gap far); lines = r.lines; rec = r.rec } →
          ◌≡◌ {A = File} (record { reading = x; words = ws }) (take_s r ws st s)
      s_gap far e x k =
          s_refused (refusal.Gap far) (λ n j. stands_gap r.rec ws st s.d n h.0.agreed i j far e)
          (λ n. reach_by r.rec ws st (Gap far) s.d n false (ne_eqb s.d 0 i) e) x k

      pub s_overlap : (far : Distance) → st ≡ Overlap far → (x : Reading) → x ≡ record { stage = Refused (refusal.Overlap far); lines = r.lines; rec = r.rec } →
          ◌≡◌ {A = File} (record { reading = x; words = ws }) (take_s r ws st s)
      s_overlap far e x k =
          s_refused (refusal.Overlap far) (λ n j. stands_overlap r.rec ws st s.d n h.0.agreed i j far e)
          (λ n. reach_by r.rec ws st (Overlap far) s.d n false (ne_eqb s.d 0 i) e) x k

      pub s_held : Running r ws × (span_held sp ≡ true)
      s_held = (h.0, makers.duration_held s.d m made sp o)

      -- ---- one that joins, by the sign of r

      module _ (e : st ≡ Joins) where
        -- what it is by its sign
        by_sign : (b : Bool) → ltb s.r first_negative ≡ b →
            cond b (appended_by (append_outcome r.rec ws Joins s.d (s.r + 1)) Open r ws s.d (s.r + 1)) (reaches_by r ws Joins s.d) ≡ take_s r ws st s
        unfolding take_s
        by_sign b k =
            ap₂
            (λ c y. cond c (appended_by (append_outcome r.rec ws y s.d (s.r + 1)) Open r ws s.d (s.r + 1)) (reaches_by r ws y s.d))
            (sym k)
            (sym e)

        pub s_reaches : first_negative ≤ s.r → (x : Reading) (vs : List ℕ) → ◌≡◌ {A = File} (record { reading = x; words = vs }) (reaches_by r ws Joins sp.0) →
            ◌≡◌ {A = File} (record { reading = x; words = vs }) (take_s r ws st s)
        s_reaches n x vs k = k ∙ ap (λ (y : Span). reaches_by r ws Joins y.0) is ∙ by_sign false (le-ltb s.r first_negative n)

        module _ (n : s.r < first_negative) where
          pub s_lines_lem : r.lines ≤ most_lines
          s_lines_lem = few_lines r ws sp s_held

          pub s_appended : (c : Changed) → c ≡ changed_by (fit_outcome r.rec ws sp.0 (s.r + 1)) (appended r.rec ws sp.0 (s.r + 1)) r.rec →
              (vs : List ℕ) → vs ≡ words_by (fit_outcome r.rec ws sp.0 (s.r + 1)) (words_keeping ws (unspent_of r.rec ws sp.0 (s.r + 1))) ws →
              (x : Reading) → x ≡ settled_reading c.outcome Open r c.rec →
              ◌≡◌ {A = File} (record { reading = x; words = vs }) (take_s r ws st s)
          s_appended c k vs v x j =
              appended_by_lem (append_outcome r.rec ws Joins s.d (s.r + 1)) (fit_outcome r.rec ws s.d (s.r + 1)) Open r ws s.d (s.r + 1) (s.r + 1)
              (stands_joins r.rec ws Joins s.d (s.r + 1) h.0.agreed i (λ z. let f : ⊥ = omega arith in f) refl)
              refl
              c
              (k ∙ ap (λ (y : Span). changed_by (fit_outcome r.rec ws y.0 (s.r + 1)) (appended r.rec ws y.0 (s.r + 1)) r.rec) is)
              vs
              (v ∙ ap (λ (y : Span). words_by (fit_outcome r.rec ws y.0 (s.r + 1)) (words_keeping ws (unspent_of r.rec ws y.0 (s.r + 1))) ws) is)
              x
              j ∙
              by_sign true (lt-ltb s.r first_negative n)

-- ---- the first S line

module _ (r : Reading) (ws : List ℕ) (s : SFields) (h : Begins r × (s.d ≤ largest_span)) (f : HeadFields) (g : f ≡ fields_of r.rec.head) (t : WideTick) (e : t ≡ first_tick s.t)
    (c : Changed) (k : c ≡ open_answer (head_of f) (tick_of t)) (vs : List ℕ) (v : vs ≡ open_table (head_of f) (tick_of t) ws) where
  opening : Outcome
  opening = open_outcome r.rec.head (tick_of (first_tick s.t))

  same_answer : c ≡ changed_by opening (fresh_record r.rec.head (tick_of (first_tick s.t))) zero_record
  unfolding opening
  same_answer = k ∙ ap₂ (λ (x : HeadFields) (y : WideTick). open_answer (head_of x) (tick_of y)) g e

  same_words : vs ≡ words_by opening (replicate (length ws) 0) ws
  unfolding opening
  same_words = v ∙ ap₂ (λ (x : HeadFields) (y : WideTick). open_table (head_of x) (tick_of y) ws) g e

  -- what the call answered tells its outcome
  told : (o other : Outcome) (new old : Record) (d : Changed) → d ≡ changed_by o new old → d.outcome ≡ other → o ≡ other
  unfolding changed_by
  told (Ok _) other new old d p q = ap (λ (y : Changed). y.outcome) (sym p) ∙ q
  told (Err why) other new old d p q = ap (λ (y : Changed). y.outcome) (sym p) ∙ q

  opens : (o : Outcome) → c.outcome ≡ o → opening ≡ o
  opens o q = told opening o (fresh_record r.rec.head (tick_of (first_tick s.t))) zero_record c same_answer q

  pub first_refused : (why : Refusal) → c.outcome ≡ Err why →
      (x : Reading) → x ≡ record { stage = Refused why; lines = r.lines; rec = r.rec } → ◌≡◌ {A = File} (record { reading = x; words = vs }) (take_first_s r ws s)
  unfolding take_first_s opening words_by
  first_refused why q x j =
      both x (record { stage = Refused why; lines = r.lines; rec = r.rec }) vs ws j
      (same_words ∙ ap (λ o. words_by o (replicate (length ws) 0) ws) (opens (Err why) q)) ∙
      sym (ap (λ o. opened_by o r ws s) (opens (Err why) q))

  module _ (q : c.outcome ≡ Ok tt) where
    fresh : Record
    fresh = fresh_record r.rec.head (tick_of (first_tick s.t))

    opened_record : c.rec ≡ fresh
    unfolding changed_by fresh
    opened_record = ap (λ (y : Changed). y.rec) (same_answer ∙ ap (λ o. changed_by o fresh zero_record) (opens (Ok tt) q))

    opened_words : vs ≡ replicate (length ws) 0
    unfolding words_by
    opened_words = same_words ∙ ap (λ o. words_by o (replicate (length ws) 0) ws) (opens (Ok tt) q)

    opened_agrees : agrees fresh (replicate (length ws) 0) ≡ true
    unfolding fresh opening
    opened_agrees = open_agrees r.rec.head (tick_of (first_tick s.t)) (length ws) (opens (Ok tt) q)

    pub first_asks : Running (record { stage = Headed; lines = r.lines; rec = c.rec }) vs × (s.d ≤ largest_span)
    unfolding fresh
    first_asks = (
      record {
        agreed = ap₂ agrees opened_record opened_words ∙ opened_agrees;
        some = omega (arith, h.0.one);
        few = omega (arith, h.0.one);
      },
      h.1,
    )

    pub first_taken : (x : Reading) (us : List ℕ) →
        ◌≡◌ {A = File} (record { reading = x; words = us }) (take_s (record { stage = Headed; lines = r.lines; rec = c.rec }) vs Joins s) →
        ◌≡◌ {A = File} (record { reading = x; words = us }) (take_first_s r ws s)
    unfolding take_first_s opening fresh
    first_taken x us j =
        j ∙
        ap₂ (λ y z. take_s (record { stage = Headed; lines = r.lines; rec = y }) z Joins s) opened_record opened_words ∙
        sym (ap (λ o. opened_by o r ws s) (opens (Ok tt) q))
