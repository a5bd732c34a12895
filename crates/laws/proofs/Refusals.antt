-- Each call gives the lowest number whose condition holds: its tests, one after the other, are the rows.
use mathlib.Core.Path.{◌≡◌, refl, sym, ap, ap₂, ◌∙◌}
use mathlib.Core.Bool.{Bool, true, false, cond, not, ◌||◌}
use mathlib.Core.List.{List, [], ◌∷◌}
use Prim.Native.Nat.{ℕ, suc, ◌+◌}
use native.Mathlib.Omega.{arith}
use borrow.Author.Tests.{ltb-true, ltb-false, lt-ltb, le-ltb, le-leb, lt-leb, eqb-true, eqb-false}
use lib.Dec.{eqb, leb, ltb}
use lib.ListN.{length}
use Rattle.units.specs.declared.WideTick.{WideTick}
use Rattle.units.specs.declared.WideMillis.{WideMillis}
use Rattle.units.specs.declared.WideNumber.{WideNumber}
use Rattle.units.specs.declared.Stamp.{Stamp}
use Rattle.std.specs.Prelude.{Err, Ok, None, Option, Some}
use Rattle.keeping.specs.Keeping.{Outcome}
use Rattle.units.specs.declared.Tick.{Tick}
use Rattle.units.specs.Full.{full_tick}
use Rattle.units.specs.Standing.{tick_standing, stamp_standing}
use Rattle.units.specs.Limits.{largest_millis}
use Rattle.window.specs.declared.Reference.{Reference}
use Rattle.window.specs.Window.{window_at, whole_period}
use Rattle.runs.specs.Words.{runs_of}
use Rattle.agreement.specs.declared.Record.{Record}
use Rattle.agreement.specs.declared.refusal.Refusal.TheVariants as refusal
use Rattle.agreement.specs.Agreement.{kept, agrees}
use Rattle.agreement.proofs.Agreeing.{agreeing}
use Rattle.keeping.specs.Keeping.{changed_by}
use Rattle.keeping.proofs.Outcomes.{outcome_beside as told}
use Rattle.answers.specs.declared.Verdict.{Verdict}
use Rattle.answers.specs.Judgement.{verdict_of, verdict_at, verdict_whole}
use Rattle.lookups.specs.declared.Words.{Words}
use Rattle.units.specs.declared.Millis.{Millis}
use Rattle.answers.specs.Edge.{edge_of, covered_edge}
use Rattle.agreement.specs.Numbers.{answer_distance, answer_number}
use Rattle.lookups.specs.Stamps.{full_tick_in}
use Rattle.lookups.specs.Available.{numbered, kept_number, number_availability, number_available, availability_in, available_in}
use Rattle.lookups.specs.Spans.{touched_words, touching_words}
use Rattle.writing.specs.Writing.{file_for, write_answer}
use Rattle.laws.specs.Refusals.{lowest, distance_with, some, not_kept, Refusals, verdict_rows, whole_rows, availability_rows, available_rows, touching_rows, write_rows, full_tick_rows, edge_rows}
use Rattle.laws.proofs.Rows.{over, under, none}
use Rattle.laws.proofs.Distances.{Told, tick_far, stamp_far, append_told, pair_told}
use Rattle.laws.proofs.Changing.{opening, trim, append, append_stamp, append_trim}

-- ---- the distance

-- the outcome beside a record tells what the outcome tells
beside : (o : Outcome) (new old : Record) (a b : ℕ) → Told o a b →
    answer_distance (changed_by o new old).outcome ≡ distance_with (answer_number (changed_by o new old).outcome) a b
beside o new old a b t =
    ap answer_distance (told o new old) ∙ t.distance ∙ ap (λ x. distance_with (answer_number x) a b) (sym (told o new old))

-- ---- the calls that look

verdict_at_lem : (rec : Record) (ws : List ℕ) (c : WideMillis) →
    answer_number (verdict_at rec ws c) ≡ lowest (verdict_rows rec ws c)
verdict_at_lem rec ws c =
    by (agrees rec ws) (leb c.0 largest_millis) (leb rec.clock.0 c.0) (verdict_of rec.head (window_at rec.head c.0) (kept rec ws)) ∙
    ap₂ (λ a b. lowest ((not (agrees rec ws), 2) ∷ (a, 10) ∷ (b, 11) ∷ [])) (over c.0 largest_millis).is (over rec.clock.0 c.0).is
  where
    by : (a l e : Bool) (v : Verdict) →
        answer_number
        (cond a (cond l (cond e (Ok v) (Err refusal.EarlierClock)) (Err refusal.ClockLimit)) (Err refusal.Disagreement)) ≡
        lowest ((not a, 2) ∷ (not l, 10) ∷ (not e, 11) ∷ [])
    by false l e v = refl
    by true false e v = refl
    by true true false v = refl
    by true true true v = refl

verdict_whole_lem : (rec : Record) (ws : List ℕ) →
    answer_number (verdict_whole rec ws) ≡ lowest (whole_rows rec ws)
verdict_whole_lem rec ws = by (agrees rec ws) (eqb rec.head.duration.0 0) (verdict_of rec.head (whole_period rec.head) (kept rec ws))
  where
    by : (a b : Bool) (v : Verdict) →
        answer_number (cond a (cond (not b) (Ok v) (Err refusal.EndUnknown)) (Err refusal.Disagreement)) ≡ lowest ((not a, 2) ∷ (b, 19) ∷ [])
    by false b v = refl
    by true true v = refl
    by true false v = refl

-- a number is found exactly within the numbers of the references
found : (f : Option Reference → ℕ) → f None ≡ 13 → ((r : Reference) → f (Some r) ≡ 0) → (m n : ℕ) (rs : List Reference) →
    f (numbered m rs n) ≡ cond (ltb n m || leb (m + length rs) n) 13 0
unfolding numbered
found f none some m n [] = none ∙ sym (ap (λ b. cond {A = ℕ} b 13 0) (go (ltb n m) refl))
  where
    go : (t : Bool) → ltb n m ≡ t → (t || leb (m + 0) n) ≡ true
    go true e = refl
    go false e = le-leb (m + 0) n (omega (arith, ltb-false n m e))
found f none some m n (r ∷ rs) = go (eqb m n) refl (found f none some (suc m) n rs)
  where
    same : (m ≡ n → ⊥) → (ltb n (suc m) || leb (suc m + length rs) n) ≡ (ltb n m || leb (m + suc (length rs)) n)
    same apart = by (ltb n m) refl
      where
        by : (t : Bool) → ltb n m ≡ t → (ltb n (suc m) || leb (suc m + length rs) n) ≡ (t || leb (m + suc (length rs)) n)
        by true e = ap (λ b. b || leb (suc m + length rs) n) (lt-ltb n (suc m) (omega (arith, ltb-true n m e)))
        by false e =
            ap (λ b. b || leb (suc m + length rs) n) (le-ltb n (suc m) (omega (arith, ltb-false n m e, apart))) ∙
            ap (λ (k : ℕ). leb k n) (omega arith)

    go : (t : Bool) → eqb m n ≡ t → f (numbered (suc m) rs n) ≡ cond (ltb n (suc m) || leb (suc m + length rs) n) 13 0 →
        f (cond t (Some r) (numbered (suc m) rs n)) ≡ cond (ltb n m || leb (m + suc (length rs)) n) 13 0
    go true e k =
        let eq = eqb-true m n e in
        some r ∙ sym (ap₂ (λ a b. cond {A = ℕ} (a || b) 13 0) (le-ltb n m (omega arith)) (lt-leb (m + suc (length rs)) n (omega arith)))
    go false e k = k ∙ ap (λ b. cond {A = ℕ} b 13 0) (same (eqb-false m n e))

module _ (rec : Record) (ws : List ℕ) (n : WideNumber) where
  -- of an agreeing record
  kept_found : agrees rec ws ≡ true → (f : Option Reference → ℕ) → f None ≡ 13 → ((r : Reference) → f (Some r) ≡ 0) →
      f (kept_number rec ws n.0) ≡ cond (not_kept rec n) 13 0
  kept_found a f none some =
      let k = agreeing rec ws a in
      found f none some (rec.head.first.0 + rec.dropped) n.0 (kept rec ws) ∙
      ap (λ (m : ℕ). cond {A = ℕ} (ltb n.0 (rec.head.first.0 + rec.dropped) || leb m n.0) 13 0)
      (omega (arith, k.total, k.held.dropped))

  availability_number_lem : answer_number (availability_in rec ws n) ≡ lowest (availability_rows rec ws n)
  availability_number_lem = go (agrees rec ws) refl
    where
      go : (t : Bool) → agrees rec ws ≡ t →
          answer_number (cond t (number_availability rec.head (kept_number rec ws n.0)) (Err refusal.Disagreement)) ≡
          lowest ((not t, 2) ∷ (not_kept rec n, 13) ∷ [])
      go false e = refl
      go true e = kept_found e (λ x. answer_number (number_availability rec.head x)) refl (λ r. refl)

  available_number_lem : (c : WideMillis) → answer_number (available_in rec ws n c) ≡ lowest (available_rows rec ws n c)
  available_number_lem c =
      go (agrees rec ws) (leb c.0 largest_millis) refl ∙
      ap (λ b. lowest ((not (agrees rec ws), 2) ∷ (b, 10) ∷ (not_kept rec n, 13) ∷ [])) (over c.0 largest_millis).is
    where
      go : (t l : Bool) → agrees rec ws ≡ t →
          answer_number
          (cond t (cond l (number_available rec.head c.0 (kept_number rec ws n.0)) (Err refusal.ClockLimit)) (Err refusal.Disagreement)) ≡
          lowest ((not t, 2) ∷ (not l, 10) ∷ (not_kept rec n, 13) ∷ [])
      go false l e = refl
      go true false e = refl
      go true true e = kept_found e (λ x. answer_number (number_available rec.head c.0 x)) refl (λ r. refl)

full_number : (rec : Record) (ws : List ℕ) (stamp : Stamp) → answer_number (full_tick_in rec ws stamp) ≡ lowest (full_tick_rows rec ws)
full_number rec ws stamp = by (agrees rec ws) (full_tick stamp rec.next)
  where
    by : (t : Bool) (x : Option Tick) → answer_number (cond t (Ok x) (Err refusal.Disagreement)) ≡ lowest ((not t, 2) ∷ [])
    by true x = refl
    by false x = refl

touching_number_lem : (rec : Record) (ws : List ℕ) (a b : WideTick) →
    answer_number (touching_words rec ws a b) ≡ lowest (touching_rows rec ws a b)
touching_number_lem rec ws a b =
    by (agrees rec ws) (ltb a.0 b.0) (touched_words a.0 b.0 (runs_of rec.used ws)) ∙
    ap (λ t. lowest ((not (agrees rec ws), 2) ∷ (t, 14) ∷ [])) (under a.0 b.0).is
  where
    by : (g l : Bool) (x : Words) →
        answer_number (cond g (cond l (Ok x) (Err refusal.EmptySpan)) (Err refusal.Disagreement)) ≡ lowest ((not g, 2) ∷ (not l, 14) ∷ [])
    by false l x = refl
    by true false x = refl
    by true true x = refl

write_number_lem : (rec : Record) (ws : List ℕ) (room : ℕ) →
    answer_number (write_answer rec ws room) ≡ lowest (write_rows rec ws room)
unfolding write_answer
write_number_lem rec ws room =
    by (agrees rec ws) (eqb rec.used 0) (leb (length (file_for rec ws)) room) ∙
    ap (λ t. lowest ((not (agrees rec ws), 2) ∷ (eqb rec.used 0, 12) ∷ (t, 15) ∷ [])) (over (length (file_for rec ws)) room).is
  where
    by : (a u l : Bool) → answer_number
        (cond a (cond u (Err refusal.NothingKept) (cond l (Ok (length (file_for rec ws))) (Err refusal.ShortOutput)))
        (Err refusal.Disagreement)) ≡
        lowest ((not a, 2) ∷ (u, 12) ∷ (not l, 15) ∷ [])
    by false u l = refl
    by true true l = refl
    by true false false = refl
    by true false true = refl

covered_edge_lem : (rec : Record) (ws : List ℕ) → answer_number (covered_edge rec ws) ≡ lowest (edge_rows rec ws)
covered_edge_lem rec ws = by (agrees rec ws) (edge_of rec.head rec.next.0)
  where
    by : (a : Bool) (x : Option Millis) → answer_number (cond a (Ok x) (Err refusal.Disagreement)) ≡ lowest ((not a, 2) ∷ [])
    by false x = refl
    by true x = refl

pub refusals : Refusals
refusals =
    record {
      opening = opening;
      append = λ rec ws start d n narrow. append rec ws d n narrow start;
      append_stamp = λ rec ws stamp d n narrow. append_stamp rec ws d n narrow stamp;
      append_distance = λ rec ws start d n.
          beside _ _ _ _ _ (append_told _ _ rec ws (tick_standing start rec.next) d n (tick_far start rec.next));
      stamp_distance = λ rec ws stamp d n small.
          beside _ _ _ _ _ (append_told _ _ rec ws (stamp_standing stamp rec.next) d n (stamp_far stamp rec.next small));
      append_trim = append_trim;
      pair_distance = λ rec ws stamp d n c small.
          beside _ _ _ _ _ (pair_told _ _ rec ws (stamp_standing stamp rec.next) d n (stamp_far stamp rec.next small) c);
      trim = trim;
      verdict = verdict_at_lem;
      verdict_whole_lem = verdict_whole_lem;
      availability = availability_number_lem;
      available_at = available_number_lem;
      full_tick_lem = full_number;
      touching = touching_number_lem;
      covered_edge_lem = covered_edge_lem;
      write = write_number_lem;
    }
