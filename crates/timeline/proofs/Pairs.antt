-- An append and then a trim: the refusals before the append, what an accepted append leaves to the trim, and what the two come to.
use mathlib.Core.Path.{◌≡◌, refl, sym, ap, ap₂, ◌∙◌}
use mathlib.Core.Bool.{Bool, true, false, cond, not}
use mathlib.Core.List.{List}
use Prim.Native.Nat.{ℕ, ◌≤◌}
use native.Mathlib.Omega.{arith}
use mir.Syntax.{w32}
use mir.Val.{Fits}
use Rattle.units.specs.declared.Millis.{Millis}
use Rattle.std.specs.Prelude.{Err, None, Ok, Option, Some}
use Rattle.keeping.specs.Keeping.{Outcome}
use Rattle.units.specs.declared.WideMillis.{WideMillis}
use Rattle.units.specs.declared.standing.Standing.{Standing}
use Rattle.units.specs.Limits.{largest_span, millis_made, clock_held}
use Rattle.agreement.specs.declared.Record.{Record}
use Rattle.agreement.specs.declared.refusal.Refusal.TheVariants.{Disagreement, ClockLimit}
use Rattle.agreement.specs.Agreement.{agrees}
use Rattle.keeping.specs.declared.Changed.{Changed}
use Rattle.keeping.specs.Keeping.{words_keeping, changed_by, words_by}
use Rattle.keeping.specs.Append.{unspent_of, appended}
use Rattle.keeping.proofs.Outcomes.{past_if}
use Rattle.timeline.specs.Appending.{append_outcome, append_answer, append_table}
use Rattle.timeline.specs.Trimming.{unspent_at, trimmed, trim_outcome, trim_answer, trim_table}
use Rattle.timeline.specs.Pair.{pair_outcome, pair_record, pair_words, pair_answer, pair_table}
use Rattle.timeline.proofs.Clocks.{clock_held_lem, clock_is, disagrees, over, within}
use Rattle.timeline.proofs.Kept.{trim_leaves_lem, accepted_keeps, append_leaves_lem}

-- ---- the refusals before the append

module _ (rec : Record) (ws : List ℕ) (st : Standing) (d n : ℕ) (c : WideMillis) (t : Bool) (e : t ≡ agrees rec ws) where
  pub pair_disagrees : not t ≡ true → pair_outcome rec ws st d n c ≡ Err Disagreement
  unfolding pair_outcome
  pair_disagrees m = disagrees rec ws c (append_outcome rec ws st d n) t e m

  module _ (m : not t ≡ false) (made : Option Millis) (k : made ≡ millis_made c.0) where
    pub pair_over : made ≡ None → pair_outcome rec ws st d n c ≡ Err ClockLimit
    unfolding pair_outcome
    pair_over o = over rec ws c (append_outcome rec ws st d n) t e m made k o

    pub pair_judged : (at : Millis) → made ≡ Some at → pair_outcome rec ws st d n c ≡ append_outcome rec ws st d n
    unfolding pair_outcome
    pair_judged at o = within rec ws c (append_outcome rec ws st d n) t e m made k at o

-- ---- the two steps

-- a trim of what agrees, at a clock within its limit, is accepted
pub trim_taken : (rec : Record) (ws : List ℕ) (c : WideMillis) → clock_held c ≡ true → agrees rec ws ≡ true → trim_outcome rec ws c ≡ Ok tt
unfolding trim_outcome
trim_taken rec ws c held a = ap₂ (λ s t. cond s (cond t (Ok tt) (Err ClockLimit)) (Err Disagreement)) a held

-- by the outcome of the append, whose record and words agree where it is accepted
module _ (rec new : Record) (ws left : List ℕ) (c : WideMillis) (held : clock_held c ≡ true) where
  by_outcome : (o : Outcome) → (o ≡ Ok tt → agrees new left ≡ true) →
      let x = changed_by o new rec in
      let vs = words_by o left ws in
      (changed_by x.outcome (trimmed x.rec vs c.0) x.rec ≡ changed_by o (trim_answer x.rec vs c).rec rec) ×
      (words_by x.outcome (words_keeping vs (unspent_at x.rec vs c.0)) vs ≡ words_by o (trim_table x.rec vs c) ws)
  unfolding changed_by words_by
  by_outcome (Ok _) a = (
    ap (λ o. record { outcome = Ok tt; rec = (changed_by o (trimmed new left c.0) new).rec }) (sym (trim_taken new left c held (a refl))),
    ap (λ o. words_by o (words_keeping left (unspent_at new left c.0)) left) (sym (trim_taken new left c held (a refl))),
  )
  by_outcome (Err why) a = (refl, refl)

-- ---- the call

-- the append that was judged answered x and left the words vs, and the trim is made of these;
-- where it was refused, they are the record and the words that came
module _ (rec : Record) (ws : List ℕ) (st : Standing) (d n : ℕ) (fits : Fits w32 d) (x : Changed) (f : x ≡ append_answer rec ws st d n)
    (vs : List ℕ) (g : vs ≡ append_table rec ws st d n) where
  narrow : d ≤ largest_span
  narrow = omega (arith, fits.fits)

  pub pair_agrees : agrees rec ws ≡ true → agrees x.rec vs ≡ true
  pair_agrees a = ap₂ (λ (y : Changed) us. agrees y.rec us) f g ∙ append_leaves_lem rec ws st d n narrow a

  module _ (c : WideMillis) (t : Bool) (e : t ≡ agrees rec ws) (m : not t ≡ false) (made : Option Millis) (k : made ≡ millis_made c.0) (at : Millis)
      (o : made ≡ Some at) (meant : Standing) (same : st ≡ meant) where
    judged : pair_outcome rec ws st d n c ≡ append_outcome rec ws st d n
    judged = pair_judged rec ws st d n c t e m made k at o

    pub pair_answer_lem : (r : Changed) → r ≡ changed_by x.outcome (trimmed x.rec vs at.0) x.rec → r ≡ pair_answer rec ws meant d n c
    pair_answer_lem r p =
        p ∙ ap₂ (λ (y : Changed) us. changed_by y.outcome (trimmed y.rec us at.0) y.rec) f g ∙
        ap (λ (z : Millis). let y = append_answer rec ws st d n in changed_by y.outcome (trimmed y.rec (append_table rec ws st d n) z.0) y.rec) (clock_is c made k at o) ∙
        (by_outcome rec (appended rec ws d n) ws (words_keeping ws (unspent_of rec ws d n)) c (clock_held_lem c made k at o) (append_outcome rec ws st d n)
        (accepted_keeps rec ws st d n narrow)).0 ∙
        ap (λ y. changed_by y (pair_record rec ws st d n c) rec) (sym judged) ∙
        ap (λ s. pair_answer rec ws s d n c) same

    pub pair_words_lem : (us : List ℕ) → us ≡ words_by x.outcome (words_keeping vs (unspent_at x.rec vs at.0)) vs → us ≡ pair_table rec ws meant d n c
    pair_words_lem us p =
        p ∙ ap₂ (λ (y : Changed) us. words_by y.outcome (words_keeping us (unspent_at y.rec us at.0)) us) f g ∙
        ap (λ (z : Millis). let y = append_answer rec ws st d n in let us = append_table rec ws st d n in words_by y.outcome (words_keeping us (unspent_at y.rec us z.0)) us)
        (clock_is c made k at o) ∙
        (by_outcome rec (appended rec ws d n) ws (words_keeping ws (unspent_of rec ws d n)) c (clock_held_lem c made k at o) (append_outcome rec ws st d n)
        (accepted_keeps rec ws st d n narrow)).1 ∙
        ap (λ y. words_by y (pair_words rec ws st d n c) ws) (sym judged) ∙
        ap (λ s. pair_table rec ws s d n c) same

-- ---- what a call has passed, and what it leaves

module _ (rec : Record) (ws : List ℕ) (st : Standing) (d n : ℕ) (c : WideMillis) where
  -- an accepted call has passed 2 and 10, and its append is accepted
  pub record Passed : Type 0 where
    pub agreed : agrees rec ws ≡ true
    pub held : clock_held c ≡ true
    pub taken : append_outcome rec ws st d n ≡ Ok tt

  pub pair_passed : pair_outcome rec ws st d n c ≡ Ok tt → Passed
  unfolding pair_outcome
  pair_passed o =
      let a = past_if (agrees rec ws) (cond (clock_held c) (append_outcome rec ws st d n) (Err ClockLimit)) Disagreement o in
      let h = past_if (clock_held c) (append_outcome rec ws st d n) ClockLimit a.1 in
      record { agreed = a.0; held = h.0; taken = h.1 }

  module _ (narrow : d ≤ largest_span) where
    -- the trim behind an accepted append is accepted too
    pub pair_trim : pair_outcome rec ws st d n c ≡ Ok tt → trim_outcome (append_answer rec ws st d n).rec (append_table rec ws st d n) c ≡ Ok tt
    pair_trim o =
        let p = pair_passed o in
        trim_taken (append_answer rec ws st d n).rec (append_table rec ws st d n) c p.held (append_leaves_lem rec ws st d n narrow p.agreed)

    -- accepted or refused, a call leaves what agrees
    pub pair_leaves_lem : agrees rec ws ≡ true → agrees (pair_answer rec ws st d n c).rec (pair_table rec ws st d n c) ≡ true
    unfolding changed_by words_by
    pair_leaves_lem a = go (pair_outcome rec ws st d n c)
      where
        go : (o : Outcome) → agrees (changed_by o (pair_record rec ws st d n c) rec).rec (words_by o (pair_words rec ws st d n c) ws) ≡ true
        go (Ok _) = trim_leaves_lem (append_answer rec ws st d n).rec (append_table rec ws st d n) c (append_leaves_lem rec ws st d n narrow a)
        go (Err why) = a
