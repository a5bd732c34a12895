-- Trimming never costs coverage: by what a trim keeps (`OnlySpent`) and what a list of calls keeps (demand 3), and by one law of the window, that a
-- reference in which a needed tick lies is needed itself. And the cases by hand.
use Rattle.agreement.specs.Numbers.{answer_number}
use mathlib.Core.Path.{◌≡◌, refl, sym, ap, ap₂, subst⁻¹, ◌∙◌}
use mathlib.Core.Bool.{Bool, true, false, cond}
use mathlib.Core.List.{List, [], ◌∷◌}
use Prim.Native.Nat.{ℕ, ◌+◌, ◌*◌, ◌≤◌, ◌<◌, max}
use native.Mathlib.Nat.{add-mul, mul-le-mul_right, le_trans, le_refl, le_of_lt, lt_of_lt_of_le, max-le, le-max_left, le-max_right}
use native.Mathlib.Omega.{arith}
use borrow.Author.Tests.{leb-true, leb-false, le-leb, lt-leb, eq-eqb, eqb-true, eqb-false}
use lib.Dec.{lit<, lit≤, leb, eqb}
use lib.IntN.{pos, ◌-ℤ◌}
use lib.ListN.{length, get_or, take, drop, take-append-drop, length-append}
use lib.Signed.{le_z}
use Rattle.units.specs.declared.Tick.{Tick}
use Rattle.units.specs.declared.WideMillis.{WideMillis}
use Rattle.units.specs.declared.WideNumber.{WideNumber}
use Rattle.units.specs.Limits.{largest_millis, clock_held}
use Rattle.window.specs.declared.Head.{Head}
use Rattle.window.specs.declared.Reference.{Reference}
use Rattle.window.specs.Place.{place, moment, end_known, period_end, later}
use Rattle.window.specs.Window.{window_at, whole_period, low_edge, high_edge, tick_needed}
use Rattle.window.specs.References.{EndToStart, Each, Sound}
use Rattle.window.proofs.Unsigned.{end_at}
use Rattle.window.proofs.Division.{window_ticks, period_ticks}
use Rattle.runs.specs.Words.{runs_of, words_of, repeated, references_of}
use Rattle.runs.specs.Shape.{runs_shaped, zeros}
use Rattle.runs.specs.Ends.{last_end}
use Rattle.runs.specs.Encoding.{push, encode, table_of}
use Rattle.runs.proofs.EndToStart.{kept_join}
use Rattle.agreement.specs.declared.refusal.Refusal.{Refusal}
use Rattle.agreement.specs.declared.refusal.Refusal.TheVariants.{Disagreement, ClockLimit, EarlierClock, EndUnknown, NotKept}
use Rattle.agreement.specs.Agreement.{every, agrees}
use Rattle.agreement.proofs.Agreeing.{agree_shaped}
use Rattle.std.specs.Prelude.{Some, Result, Err, Ok}
use Rattle.keeping.specs.Keeping.{Outcome}
use Rattle.keeping.specs.declared.Changed.{Changed}
use Rattle.keeping.specs.Keeping.{unspent, changed_by, words_by}
use Rattle.keeping.specs.Append.{room_outcome, fit_outcome}
use Rattle.timeline.specs.Opening.{open_outcome}
use Rattle.timeline.specs.Appending.{append_outcome}
use Rattle.timeline.specs.Trimming.{trim_outcome, trim_answer, trim_table}
use Rattle.timeline.proofs.Kept.{trim_passed}
use Rattle.answers.specs.declared.Verdict.{Verdict}
use Rattle.answers.specs.declared.Verdict.TheVariants.{Complete, Lacking}
use Rattle.answers.specs.Cover.{covered_by}
use Rattle.answers.specs.Judgement.{verdict_of, verdict_at, verdict_whole}
use Rattle.answers.specs.Shares.{verdict_percent}
use Rattle.answers.specs.Edge.{edge_of, covered_edge}
use Rattle.answers.proofs.Cases.{asked_at}
use Rattle.answers.proofs.Edging.{end_clock}
use Rattle.answers.proofs.Judging.{all_covered, first_lacking, end_lacking}
use Rattle.lookups.specs.Available.{numbered, kept_number, number_availability, number_available, available_in}
use Rattle.lookups.proofs.Numbering as numbering
use Rattle.words.specs.Words as lent
use Rattle.words.specs.Words.{record_words, record_of}
use Rattle.words.specs.Lengths.{wrong_record, wrong_length}
use Rattle.words.specs.Tells.{tells_by, words_of_verdict}
use Rattle.words.proofs.Words.{record_words_lem}
use Rattle.flonterri.specs.Face.{guarded, Changes, changes, trims, tells, tells_verdict}
use Rattle.laws.specs.Calls.{Call, trim_at, Plain, State, opening, after, after_calls, outcome_of, all_accepted, greatest}
use Rattle.laws.specs.History.{kept_by}
use Rattle.laws.specs.Demand2.{early, first_kept, at_clock}
use Rattle.laws.specs.ByHand.{wide, millis, number, trimming, trim_of, state_of, head_b, five_b}
use Rattle.laws.specs.Update.{five_u}
use Rattle.laws.specs.Coverage.{trimmed_at_each, NoneAfter, verdict_in, SameVerdict, SameAvailable, Memory, after_trim, after_trims, TellsAlike, unreached, head_e, five_e, CoverageStays}
use Rattle.laws.proofs.Calling.{trim_leaves, trim_done, trim_refused, answered}
use Rattle.laws.proofs.Leaving.{left_suffix, left_kept}
use Rattle.laws.proofs.Histories.{accepted_sound, demand_3}
use Rattle.laws.proofs.Stays.{picked_verdict, Accepts, accepts, still_covered, still_judged}
use Rattle.laws.proofs.Verdicts.{refused_at_lem}
use Rattle.laws.proofs.Update.{update_right}
use Rattle.laws.proofs.ByHand.{state_b, state_b2, agreed, by_hand, by_clock, by_period, one_run}

-- ---- the whole period

-- where no depth is given the window at a clock past a known period end is the whole period
module _ (h : Head) (c : ℕ) (none : h.depth.0 ≡ 0) (known : end_known h ≡ true) (past : h.start.0 + h.duration.0 ≤ c) where
  over : le_z (period_end h) (moment h (pos (c + h.update.0))) ≡ true
  over =
      let rate = h.timescale.0 in
      let m : (h.start.0 + h.duration.0) * rate ≤ (c + h.update.0) * rate = mul-le-mul_right rate (omega arith) in
      end_clock h c ∙ le-leb (end_at h + h.start.0 * rate) ((c + h.update.0) * rate + 0) (omega (arith, m, add-mul h.start.0 h.duration.0 rate))

  whole_is : whole_period h ≡ window_at h c
  unfolding low_edge high_edge
  whole_is =
      let at = moment h (pos (c + h.update.0)) in
      ap₂ (λ from to. record { from = from; to = to })
      (sym (ap (λ b. cond b (pos 0) (later (pos 0) (moment h (pos c -ℤ pos h.depth.0)))) (eq-eqb h.depth.0 0 none)))
      (sym (ap₂ (λ a b. cond a (cond b (period_end h) at) at) known over))

-- ---- a trim that is accepted

module _ (s : State) (c : WideMillis) where
  -- what holds of a state, and of what an accepted trim leaves of it, holds of what any trim leaves
  by_trim : (A : State → Type 0) → A s → (Accepts s c → A (trim_leaves s c)) → A (after s (trim_at c))
  by_trim A same less = go (trim_outcome s.rec s.words c) refl
    where
      go : (o : Outcome) → trim_outcome s.rec s.words c ≡ o → A (after s (trim_at c))
      go (Ok _) e = subst⁻¹ A (trim_done s c e) (less (accepts s c e))
      go (Err why) e = subst⁻¹ A (trim_refused s c why e) same

  module _ (d : WideMillis) (l : c.0 ≤ d.0) where
    covered : s.rec.clock.0 ≤ d.0 → (k : ℕ) → tick_needed s.rec.head (at_clock s.rec d) k ≡ true → covered_by (kept_by (after s (trim_at c))) k ≡ covered_by (kept_by s) k
    covered m k t =
        by_trim (λ x. covered_by (kept_by x) k ≡ covered_by (kept_by s) k) refl
        (λ a. still_covered s c a d.0 (max-le m l) k t)

    same_verdict : verdict_in (after s (trim_at c)) d ≡ verdict_in s d
    same_verdict = by_trim (λ x. verdict_in x d ≡ verdict_in s d) refl (λ a. ap₂ answer (a.leaves ∙ sym a.agreed) (by_clock a (leb s.rec.clock.0 d.0) refl))
      where
        judge : List Reference → Verdict
        judge rs = verdict_of s.rec.head (at_clock s.rec d) rs

        answer : Bool → Result Verdict Refusal → Result Verdict Refusal
        answer agreed v = cond agreed (cond (clock_held d) v (Err ClockLimit)) (Err Disagreement)

        -- a clock that is before the greatest one is so with the trim too, and one that is not before it is not before the trim's either
        by_clock : Accepts s c → (b : Bool) → leb s.rec.clock.0 d.0 ≡ b →
            cond (leb (max s.rec.clock.0 c.0) d.0) (Ok (judge (kept_by (trim_leaves s c)))) (Err EarlierClock) ≡ cond (leb s.rec.clock.0 d.0) (Ok (judge (kept_by s))) (Err EarlierClock)
        by_clock a true e =
            let m : max s.rec.clock.0 c.0 ≤ d.0 = max-le (leb-true s.rec.clock.0 d.0 e) l in
            ap₂ (λ b v. cond b (Ok v) (Err EarlierClock)) (le-leb (max s.rec.clock.0 c.0) d.0 m ∙ sym e)
            (still_judged s c a d.0 m)
        by_clock a false e =
            let m : d.0 < max s.rec.clock.0 c.0 = lt_of_lt_of_le (leb-false s.rec.clock.0 d.0 e) (le-max_left s.rec.clock.0 c.0) in
            ap (λ b. cond b (Ok (judge (kept_by (trim_leaves s c)))) (Err EarlierClock)) (lt-leb (max s.rec.clock.0 c.0) d.0 m) ∙
            sym (ap (λ b. cond b (Ok (judge (kept_by s))) (Err EarlierClock)) e)

  -- at a clock before it
  refused_before : (d : WideMillis) → outcome_of s (trim_at c) ≡ Ok tt → d.0 < c.0 → verdict_in (after s (trim_at c)) d ≡ Err EarlierClock
  refused_before d e l =
      let o : trim_outcome s.rec s.words c ≡ Ok tt = answered s (trim_at c) ∙ e in
      subst⁻¹ (λ x. verdict_in x d ≡ Err EarlierClock) (trim_done s c o)
      ((refused_at_lem (trim_leaves s c).rec (trim_leaves s c).words d EarlierClock).if
      (early (accepts s c o).leaves (le_trans (le_of_lt l) (trim_passed s.rec s.words c o).1) (lt_of_lt_of_le l (le-max_right s.rec.clock.0 c.0))))

  -- ---- the whole period, where no depth is given

  same_whole : s.rec.head.depth.0 ≡ 0 → verdict_whole (after s (trim_at c)).rec (after s (trim_at c)).words ≡ verdict_whole s.rec s.words
  same_whole z =
      by_trim (λ x. verdict_whole x.rec x.words ≡ verdict_whole s.rec s.words) refl
      (λ a. ap₂ (λ b v. cond b v (Err Disagreement)) (a.leaves ∙ sym a.agreed) (by_end a (end_known s.rec.head) refl))
    where
      judge : List Reference → Verdict
      judge rs = verdict_of s.rec.head (whole_period s.rec.head) rs

      by_end : Accepts s c → (b : Bool) → end_known s.rec.head ≡ b → cond b (Ok (judge (kept_by (trim_leaves s c)))) (Err EndUnknown) ≡ cond b (Ok (judge (kept_by s))) (Err EndUnknown)
      by_end a true e =
          let h = s.rec.head in
          let m = max s.rec.clock.0 c.0 in
          let far = m + (h.start.0 + h.duration.0) in
          ap Ok
          (subst⁻¹ (λ w. verdict_of h w (kept_by (trim_leaves s c)) ≡ verdict_of h w (kept_by s)) (whole_is h far z e (omega arith))
          (still_judged s c a far (omega arith)))
      by_end a false e = refl

  same_depth : (after s (trim_at c)).rec.head.depth.0 ≡ s.rec.head.depth.0
  same_depth = by_trim (λ x. x.rec.head.depth.0 ≡ s.rec.head.depth.0) refl (λ a. refl)

  -- ---- what else stays

  same_edge : covered_edge (after s (trim_at c)).rec (after s (trim_at c)).words ≡ covered_edge s.rec s.words
  same_edge =
      by_trim (λ x. covered_edge x.rec x.words ≡ covered_edge s.rec s.words) refl
      (λ a. ap (λ b. cond b (Ok (edge_of s.rec.head s.rec.next.0)) (Err Disagreement)) (a.leaves ∙ sym a.agreed))

  first_later : first_kept s.rec ≤ first_kept (after s (trim_at c)).rec
  first_later = by_trim (λ x. first_kept s.rec ≤ first_kept x.rec) (le_refl (first_kept s.rec)) (λ a. omega arith)

  -- a number from the first kept one on is that of the same reference
  same_number : agrees s.rec s.words ≡ true → (n : ℕ) → first_kept (trim_leaves s c).rec ≤ n →
      kept_number (trim_leaves s c).rec (trim_leaves s c).words n ≡ kept_number s.rec s.words n
  same_number a n l =
      let h = s.rec.head in
      let m = max s.rec.clock.0 c.0 in
      let all = kept_by s in
      let joined = kept_join s.rec.used s.words (agree_shaped s.rec s.words a) in
      let left = left_suffix h m (get_or s.words 0 0) all joined in
      let gone = take left.0 all in
      let stay = drop left.0 all in
      let counted : length all ≡ length gone + length stay = ap length (sym (take-append-drop left.0 all)) ∙ length-append gone stay in
      let first : first_kept (trim_leaves s c).rec ≡ first_kept s.rec + length gone = omega (arith, counted, ap length left.1) in
      ap₂ (λ (k : ℕ) xs. numbered k xs n) first (left_kept h m (get_or s.words 0 0) all joined (length s.words) ∙ left.1) ∙
      sym (numbering.after (first_kept s.rec) n gone stay (omega (arith, first))) ∙
      ap (λ xs. numbered (first_kept s.rec) xs n) (take-append-drop left.0 all)

  same_available : (n : WideNumber) → first_kept (after s (trim_at c)).rec ≤ n.0 → SameAvailable s (after s (trim_at c)) n
  same_available n =
      by_trim (λ x. first_kept x.rec ≤ n.0 → SameAvailable s x n) (λ l. record { availability = refl; at_clock_lem = λ d. refl })
      (λ a l.
      let told : agrees (trim_leaves s c).rec (trim_leaves s c).words ≡ agrees s.rec s.words = a.leaves ∙ sym a.agreed in
      let same = same_number a.agreed n.0 l in
      record {
        availability = ap₂ (λ b x. cond b (number_availability s.rec.head x) (Err Disagreement)) told same;
        at_clock_lem = λ d. ap₂ (λ b x. cond b (cond (clock_held d) (number_available s.rec.head d.0 x) (Err ClockLimit)) (Err Disagreement)) told same;
      })

-- ---- any number of trims

alike : (s then : State) (d : WideMillis) → verdict_in then d ≡ verdict_in s d → SameVerdict s then d
alike s then d e = record { verdict = e; percent = ap verdict_percent e }

trims_verdict : (s : State) (cs : List WideMillis) (d : WideMillis) → NoneAfter d cs → verdict_in (trimmed_at_each s cs) d ≡ verdict_in s d
unfolding trimmed_at_each
trims_verdict s [] d l = refl
trims_verdict s (c ∷ cs) d l = trims_verdict (after s (trim_at c)) cs d l.1 ∙ same_verdict s c d l.0

trims_whole : (s : State) (cs : List WideMillis) → s.rec.head.depth.0 ≡ 0 →
    verdict_whole (trimmed_at_each s cs).rec (trimmed_at_each s cs).words ≡ verdict_whole s.rec s.words
unfolding trimmed_at_each
trims_whole s [] z = refl
trims_whole s (c ∷ cs) z = trims_whole (after s (trim_at c)) cs (same_depth s c ∙ z) ∙ same_whole s c z

trims_edge : (s : State) (cs : List WideMillis) →
    covered_edge (trimmed_at_each s cs).rec (trimmed_at_each s cs).words ≡ covered_edge s.rec s.words
unfolding trimmed_at_each
trims_edge s [] = refl
trims_edge s (c ∷ cs) = trims_edge (after s (trim_at c)) cs ∙ same_edge s c

trims_first : (s : State) (cs : List WideMillis) → first_kept s.rec ≤ first_kept (trimmed_at_each s cs).rec
unfolding trimmed_at_each
trims_first s [] = le_refl (first_kept s.rec)
trims_first s (c ∷ cs) = le_trans (first_later s c) (trims_first (after s (trim_at c)) cs)

trims_available : (s : State) (cs : List WideMillis) (n : WideNumber) → first_kept (trimmed_at_each s cs).rec ≤ n.0 → SameAvailable s (trimmed_at_each s cs) n
unfolding trimmed_at_each
trims_available s [] n l = record { availability = refl; at_clock_lem = λ d. refl }
trims_available s (c ∷ cs) n l =
    let one = same_available s c n (le_trans (trims_first (after s (trim_at c)) cs) l) in
    let more = trims_available (after s (trim_at c)) cs n l in
    record { availability = more.availability ∙ one.availability; at_clock_lem = λ d. more.at_clock_lem d ∙ one.at_clock_lem d }

-- ---- from an opening on

module _ (h : Head) (t : Tick) (came : List ℕ) (o : open_outcome h t ≡ Ok tt) (cs : List Call) (plain : Plain cs) (d : WideMillis)
    (later : greatest (opening h t came) cs ≤ d.0) (held : d.0 ≤ largest_millis) where
  abbrev ended : State
  ended = after_calls (opening h t came) cs

  as_if_kept : verdict_in ended d ≡ Ok (verdict_of h (window_at h d.0) (all_accepted (opening h t came) cs))
  as_if_kept =
      let k = demand_3.holds h t came o cs plain in
      asked_at ended.rec ended.words d k.settled.agreed (le-leb d.0 largest_millis held) (le-leb ended.rec.clock.0 d.0 (omega (arith, k.clock, later))) ∙
      ap Ok
      (ap (λ g. verdict_of g (window_at g d.0) (kept_by ended)) k.head ∙
      picked_verdict h (greatest (opening h t came) cs) d.0 later k.exactly)

-- ---- from C

module _ (m : Memory) (c d : WideMillis) (l : c.0 ≤ d.0) (out : List ℕ) where
  abbrev meant : State
  meant = record { rec = record_of m.words; words = m.table }

  abbrev left_c : Bool → Memory
  left_c right = cond right (record { words = lent.words_of (after meant (trim_at c)).rec; table = (after meant (trim_at c)).words }) m

  c_leaves : after_trim m c ≡ left_c (eqb (length m.words) record_words)
  unfolding trims changes guarded wrong_record
  c_leaves = go (eqb (length m.words) record_words)
    where
      new : Changed
      new = trim_answer (record_of m.words) m.table c

      left : Bool → Changes
      left t =
          cond (eqb (cond t 0 2) 0)
          (record { number = answer_number new.outcome; words = lent.words_of new.rec; table = trim_table (record_of m.words) m.table c })
          (record { number = cond t 0 2; words = m.words; table = m.table })

      go : (t : Bool) → record { words = (left t).words; table = (left t).table } ≡ left_c t
      go true = refl
      go false = refl

  c_tells : (t : Bool) → eqb (length m.words) record_words ≡ t → tells_verdict (left_c t).words (left_c t).table d.0 out ≡ tells_verdict m.words m.table d.0 out
  unfolding tells_verdict tells lent.words_of
  c_tells false e = refl
  c_tells true e =
      ap₂ (λ (n : ℕ) v. guarded (wrong_length n (length out) 5) (λ wrong. record { number = wrong; out = out }) (tells_by words_of_verdict v out))
      (sym (eqb-true (length m.words) record_words e))
      (ap (λ r. verdict_at r (after meant (trim_at c)).words d) (record_words_lem (after meant (trim_at c)).rec) ∙ same_verdict meant c d l)

  c_trim : tells_verdict (after_trim m c).words (after_trim m c).table d.0 out ≡ tells_verdict m.words m.table d.0 out
  c_trim = ap (λ x. tells_verdict x.words x.table d.0 out) c_leaves ∙ c_tells (eqb (length m.words) record_words) refl

c_trims : (m : Memory) (cs : List WideMillis) (d : WideMillis) → NoneAfter d cs → TellsAlike m (after_trims m cs) d
unfolding after_trims
c_trims m [] d l out = refl
c_trims m (c ∷ cs) d l out = c_trims (after_trim m c) cs d l.1 out ∙ c_trim m c d l.0 out

-- ---- by hand

abbrev state_e : State
state_e = state_of head_e 5 0 20_000 0 1 (0 ∷ 4000 ∷ 5 ∷ [])

abbrev state_e1 : State
state_e1 = state_of head_e 5 1 20_000 14_000 1 (4000 ∷ 4000 ∷ 4 ∷ [])

-- each call from the state that stands before it
record Worked : Type 0 where
  thrice : trimmed_at_each state_b (millis 18_000 ∷ millis 13_999 ∷ millis 24_000 ∷ []) ≡ state_of head_b 5 3 20_000 24_000 1 (12_000 ∷ 4000 ∷ 2 ∷ [])
  taken : trim_of state_b 14_000 ≡ Ok tt
  unreached_agrees : agrees unreached.rec unreached.words ≡ true
  unreached_trim : trimming unreached 14_000 ≡ state_of head_b 5 3 12_000 14_000 1 (4000 ∷ 4000 ∷ 2 ∷ [])
  five : five_e ≡ state_e
  five_agrees : agrees state_e.rec state_e.words ≡ true
  less : trimming state_e 14_000 ≡ state_e1
  less_agrees : agrees state_e1.rec state_e1.words ≡ true
  offered : available_in state_b.rec state_b.words (number 1) (millis 14_000) ≡ Ok true
  dropped : available_in state_b2.rec state_b2.words (number 1) (millis 14_000) ≡ Err NotKept

worked : Worked
unfolding agrees runs_of words_of repeated references_of runs_shaped zeros last_end every place moment period_end low_edge push encode table_of unspent changed_by words_by open_outcome room_outcome fit_outcome append_outcome trim_outcome trimmed_at_each numbered
worked =
    record {
      thrice = refl;
      taken = refl;
      unreached_agrees = refl;
      unreached_trim = refl;
      five = refl;
      five_agrees = refl;
      less = refl;
      less_agrees = refl;
      offered = refl;
      dropped = refl;
    }

-- what is worked from the state of B's five references holds of them
b_is : {A : Type 0} (f : State → A) (x : A) → f state_b ≡ x → f five_b ≡ x
b_is f x e = ap f by_hand.b_state ∙ e

b_without : verdict_in five_b (millis 24_000) ≡ Ok (Lacking 10_000 6000 (wide 20_000))
unfolding moment period_end low_edge high_edge
b_without =
    b_is (λ s. verdict_in s (millis 24_000)) (Ok (Lacking 10_000 6000 (wide 20_000)))
    (by_clock state_b.rec state_b.words agreed.b one_run (millis 24_000) refl refl (Some (record { first = wide 14_000; end = wide 24_000 })) (Lacking 10_000 6000 (wide 20_000))
    (window_ticks head_b 24_000 (lit< tt))
    (end_lacking 14_000 24_000 0 20_000 (lit< tt) 14_000 20_000 refl refl (eqb-false 6000 10_000 refl) (lit< tt) (lit≤ tt)))

-- two references that last end at tick 2 or later, and there the third starts
first_start : List Reference → ℕ
first_start [] = 0
first_start (r ∷ rs) = r.start.0

third_start : (h : Head) (t : ℕ) (rs : List Reference) → EndToStart t rs → Each (Sound h) rs → 3 ≤ length rs → 2 ≤ first_start (drop 2 rs)
unfolding first_start
third_start h t [] j s l = let z : ⊥ = omega arith in absurd z
third_start h t (a ∷ []) j s l = let z : ⊥ = omega arith in absurd z
third_start h t (a ∷ b ∷ []) j s l = let z : ⊥ = omega arith in absurd z
third_start h t (a ∷ b ∷ r ∷ rs) j s l = omega (arith, j.1.0, j.1.1.0, s.0.lasts, s.1.0.lasts)

x_unreached : (h : Head) (t : Tick) (came : List ℕ) → open_outcome h t ≡ Ok tt → (cs : List Call) → Plain cs → after_calls (opening h t came) cs ≡ unreached → ⊥
unfolding first_start runs_of repeated references_of
x_unreached h t came o cs plain e =
    let k = demand_3.holds h t came o cs plain in
    let all = all_accepted (opening h t came) cs in
    let five : length all ≡ 5 = sym k.counted ∙ ap (λ x. x.rec.accepted) e in
    let kept_there : kept_by unreached ≡ drop 2 all = ap kept_by (sym e) ∙ k.numbered ∙ ap (λ x. drop x.rec.dropped all) e in
    let late : 2 ≤ first_start (drop 2 all) = third_start h t.0 all k.joined (accepted_sound h t came o cs plain) (omega (arith, five)) in
    let z : 2 ≤ 0 = subst⁻¹ (λ rs. 2 ≤ first_start rs) kept_there late in
    omega arith

x_without : verdict_in unreached (millis 14_000) ≡ Ok (Lacking 10_000 8000 (wide 12_000))
unfolding moment period_end low_edge high_edge
x_without =
    by_clock unreached.rec unreached.words worked.unreached_agrees one_run (millis 14_000) refl refl (Some (record { first = wide 4000; end = wide 14_000 })) (Lacking 10_000 8000 (wide 12_000))
    (window_ticks head_b 14_000 (lit< tt))
    (end_lacking 4000 14_000 0 12_000 (lit< tt) 4000 12_000 refl refl (eqb-false 8000 10_000 refl) (lit< tt) (lit≤ tt))

e_trimmed : trimming five_e 14_000 ≡ state_e1
e_trimmed = ap (λ s. trimming s 14_000) worked.five ∙ worked.less

pub coverage_stays : CoverageStays
unfolding moment period_end low_edge high_edge
coverage_stays =
    record {
      covered = covered;
      trim = λ s c d l. alike s (after s (trim_at c)) d (same_verdict s c d l);
      trims = λ s cs d l. alike s (trimmed_at_each s cs) d (trims_verdict s cs d l);
      as_if_kept = as_if_kept;
      c_trim = c_trim;
      c_trims = c_trims;
      available = λ s cs n l. trims_available s cs n l;
      edge = trims_edge;
      b_without = b_without;
      b_state = b_is (λ s. trimmed_at_each s (millis 18_000 ∷ millis 13_999 ∷ millis 24_000 ∷ [])) _ worked.thrice;
      b_with = trims_verdict five_b (millis 18_000 ∷ millis 13_999 ∷ millis 24_000 ∷ []) (millis 24_000) (lit≤ tt, (lit≤ tt, (lit≤ tt, tt))) ∙ b_without;
      u_with = same_verdict five_u (millis 18_000) (millis 18_001) (lit≤ tt) ∙ update_right.u_18001;
      x_agrees = worked.unreached_agrees;
      x_unreached = x_unreached;
      x_without = x_without;
      x_state = worked.unreached_trim;
      x_with = same_verdict unreached (millis 14_000) (millis 14_000) (lit≤ tt) ∙ x_without;
      before = refused_before;
      b_earlier =
          b_is (λ s. verdict_in s (millis 13_999)) (Ok (Complete 10_000))
          (by_clock state_b.rec state_b.words agreed.b one_run (millis 13_999) refl refl (Some (record { first = wide 3999; end = wide 13_999 })) (Complete 10_000)
          (window_ticks head_b 13_999 (lit< tt))
          (all_covered 3999 13_999 0 20_000 (lit< tt) 3999 13_999 refl refl refl));
      b_refused = refused_before five_b (millis 14_000) (millis 13_999) (b_is (λ s. trim_of s 14_000) (Ok tt) worked.taken) (lit< tt);
      e_whole =
          ap (λ s. verdict_whole s.rec s.words) worked.five ∙
          by_period state_e.rec state_e.words worked.five_agrees one_run refl (Some (record { first = wide 0; end = wide 20_000 })) (Complete 20_000)
          (period_ticks head_e (lit< tt))
          (all_covered 0 20_000 0 20_000 (lit< tt) 0 20_000 refl refl refl);
      e_trimmed =
          ap (λ s. verdict_whole s.rec s.words) e_trimmed ∙
          by_period state_e1.rec state_e1.words worked.less_agrees one_run refl (Some (record { first = wide 0; end = wide 20_000 })) (Lacking 20_000 16_000 (wide 0))
          (period_ticks head_e (lit< tt))
          (first_lacking 0 20_000 4000 20_000 (lit< tt) 4000 20_000 refl refl (eqb-false 16_000 20_000 refl) (lit< tt));
      whole_without_depth = trims_whole;
      b_available = b_is (λ s. available_in s.rec s.words (number 1) (millis 14_000)) (Ok true) worked.offered;
      b_dropped = ap (λ s. available_in s.rec s.words (number 1) (millis 14_000)) by_hand.b_14000_alone ∙ worked.dropped;
    }
