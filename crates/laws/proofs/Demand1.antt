-- Demand 1 holds: each contract names a definition, the definition's number is that of its rows, and what it leaves where it is refused
-- is as the demand says.
use mathlib.Core.Path.{◌≡◌, sym, ap, ◌∙◌}
use mathlib.Core.Bool.{Bool, true, false, cond}
use mathlib.Core.List.{List}
use Prim.Native.Nat.{ℕ, ◌-◌, ◌^◌, ◌≤◌, ◌<◌}
use native.Mathlib.Omega.{arith}
use lib.IntN.{ℤ}
use lib.ListN.{length}
use Rattle.units.specs.declared.Tick.{Tick}
use Rattle.units.specs.Limits.{largest_span, tick_of}
use Rattle.units.specs.Standing.{less32, tick_standing, stamp_standing}
use Rattle.window.specs.Limits.{head_of}
use Rattle.keeping.specs.declared.Changed.{Changed}
use Rattle.agreement.specs.Numbers.{answer_distance, answer_number}
use Rattle.timeline.specs.Opening.{open_outcome, open_answer, open_table, zero_record}
use Rattle.timeline.specs.Appending.{append_outcome}
use Rattle.timeline.specs.Trimming.{trim_outcome}
use Rattle.timeline.specs.Pair.{pair_outcome}
use Rattle.answers.specs.Judgement.{verdict_at, verdict_whole}
use Rattle.answers.specs.Edge.{covered_edge}
use Rattle.lookups.specs.Available.{availability_in, available_in}
use Rattle.lookups.specs.Stamps.{full_tick_in}
use Rattle.lookups.specs.Spans.{touching_words}
use Rattle.writing.specs.Writing.{write_answer, file_for}
use Rattle.words.specs.Words.{record_of, head_with}
use Rattle.words.specs.Tells.{tells_by, words_of_verdict, words_of_availability, words_of_touching, words_of_available, words_of_tick, words_of_edge}
use Rattle.flonterri.specs.Face.{opens, appends, appends_stamp, appends_trim, trims, tells_verdict, tells_whole, tells_availability, tells_touching, writes, tells_available, tells_full_tick, tells_edge}
use Rattle.flonterri.proofs.Refusing as refusing
use Rattle.laws.specs.Refusals.{lowest, distance_with, over_limit, open_rows, append_tick_rows, append_stamp_rows, pair_rows, trim_rows, verdict_rows, whole_rows, availability_rows, touching_rows, write_rows, available_rows, full_tick_rows, edge_rows}
use Rattle.laws.specs.Demand1.{GivesNumber, length_rows, ChangesFromC, AppendsFromC, OpensFromC, TellsC, Answers, Demand1}
use Rattle.laws.proofs.Refusals.{refusals}
use Rattle.laws.proofs.Distances.{tick_far, stamp_far, append_told, pair_told}
use Rattle.laws.proofs.Answering.{appends_c, leaves_number, only_refused, told_number, changing, no_part, write_leaves, reading, feeding, finishing, changes_number, tells_number, writes_number, changes_c, tells_c, length_alone, reads_c, writes_c}

-- a number, and what is left where it refuses, of an answer that equals another
moved : {A : Type 0} {left : Type 0} {rows : List (Bool × ℕ)} (f : A → ℕ) (x y : A) → x ≡ y → f y ≡ lowest rows → ((f x ≡ 0 → ⊥) → left) → GivesNumber (f x) rows left
moved f x y e number left = record { number = ap f e ∙ number; refused = left }

-- the distance of an append that equals another
passed : (x y : Changed) (a b : ℕ) → x ≡ y → answer_distance y.outcome ≡ distance_with (answer_number y.outcome) a b →
    answer_distance x.outcome ≡ distance_with (answer_number x.outcome) a b
passed x y a b e told = ap (λ z. answer_distance z.outcome) e ∙ told ∙ ap (λ z. distance_with (answer_number z.outcome) a b) (sym e)

module _ (ws ts : List ℕ) (scale offset start duration depth first update tick : ℕ) where
  -- an opening is refused with 1 alone
  not_two : (t : Bool) → cond {A = ℕ} t 1 0 ≡ 2 → ⊥
  not_two true e = omega arith
  not_two false e = omega arith

  opens_c : (x : ℕ) (words table : List ℕ) → x ≡ (opens ws ts scale offset start duration depth first update tick).number →
      words ≡ (opens ws ts scale offset start duration depth first update tick).words → table ≡ (opens ws ts scale offset start duration depth first update tick).table →
      OpensFromC x ws ts (head_with scale offset start duration depth first update) tick words table
  unfolding opens
  opens_c x words table e f g =
      let h = head_with scale offset start duration depth first update in
      let t : Tick = record { 0 = tick } in
      record {
        number = e ∙ changes_number ws ts (open_answer h t) (open_table h t ts) (open_rows h t) (refusals.opening h t);
        length = λ z.
            let l = length_alone ws ts (open_answer h t) (open_table h t ts) (λ k. not_two (over_limit h t) (sym (refusals.opening h t) ∙ k)) (sym e ∙ z) in
            (f ∙ l.0, g ∙ l.1);
        refused = λ z. let l = refusing.open_refused ws ts scale offset start duration depth first update tick (sym e ∙ z) in (f ∙ l.0, g ∙ l.1);
      }

-- ---- C's calls, behind the lengths

module _ (ws ts : List ℕ) where
  module _ (out : List ℕ) (start d n : ℕ) (narrow : d ≤ largest_span) where
    by_tick_lem : (x : ℕ) (words table told : List ℕ) → x ≡ (appends ws ts out start d n).number → words ≡ (appends ws ts out start d n).words →
        table ≡ (appends ws ts out start d n).table → told ≡ (appends ws ts out start d n).out →
        AppendsFromC x ws ts out words table told (append_tick_rows (record_of ws) ts (record { 0 = start }) d n)
        (start - (record_of ws).next.0) ((record_of ws).next.0 - start)
    unfolding appends
    by_tick_lem x words table told e f g h =
        let rows = append_tick_rows (record_of ws) ts (record { 0 = start }) d n in
        let next = (record_of ws).next.0 in
        let o = append_outcome (record_of ws) ts (tick_standing (record { 0 = start }) (record_of ws).next) d n in
        appends_c ws ts out rows (start - next) (next - start) (appends ws ts out start d n)
        (leaves_number ws ts out 1 _ _ _ _ rows (refusals.append (record_of ws) ts (record { 0 = start }) d n narrow))
        (refusing.refused_appends ws ts out _ _ o)
        (refusing.distance_told ws ts out _ _ (λ m. distance_with m (start - next) (next - start)) o
        (append_told _ _ (record_of ws) ts _ d n (tick_far (record { 0 = start }) (record_of ws).next)).distance)
        x words table told e f g h

    by_stamp_lem : start < 2 ^ 32 → (x : ℕ) (words table told : List ℕ) → x ≡ (appends_stamp ws ts out start d n).number →
        words ≡ (appends_stamp ws ts out start d n).words → table ≡ (appends_stamp ws ts out start d n).table → told ≡ (appends_stamp ws ts out start d n).out →
        AppendsFromC x ws ts out words table told (append_stamp_rows (record_of ws) ts (record { 0 = start }) d n)
        (less32 start (record_of ws).next.0) (less32 (record_of ws).next.0 start)
    unfolding appends_stamp
    by_stamp_lem small x words table told e f g h =
        let rows = append_stamp_rows (record_of ws) ts (record { 0 = start }) d n in
        let next = (record_of ws).next.0 in
        let o = append_outcome (record_of ws) ts (stamp_standing (record { 0 = start }) (record_of ws).next) d n in
        appends_c ws ts out rows (less32 start next) (less32 next start) (appends_stamp ws ts out start d n)
        (leaves_number ws ts out 1 _ _ _ _ rows (refusals.append_stamp (record_of ws) ts (record { 0 = start }) d n narrow))
        (refusing.refused_appends ws ts out _ _ o)
        (refusing.distance_told ws ts out _ _ (λ m. distance_with m (less32 start next) (less32 next start)) o
        (append_told _ _ (record_of ws) ts _ d n (stamp_far (record { 0 = start }) (record_of ws).next small)).distance)
        x words table told e f g h

    by_pair : (c : ℕ) → start < 2 ^ 32 → (x : ℕ) (words table told : List ℕ) → x ≡ (appends_trim ws ts out start d n c).number →
        words ≡ (appends_trim ws ts out start d n c).words → table ≡ (appends_trim ws ts out start d n c).table → told ≡ (appends_trim ws ts out start d n c).out →
        AppendsFromC x ws ts out words table told (pair_rows (record_of ws) ts (record { 0 = start }) d n (record { 0 = c }))
        (less32 start (record_of ws).next.0) (less32 (record_of ws).next.0 start)
    unfolding appends_trim
    by_pair c small x words table told e f g h =
        let rows = pair_rows (record_of ws) ts (record { 0 = start }) d n (record { 0 = c }) in
        let next = (record_of ws).next.0 in
        let o = pair_outcome (record_of ws) ts (stamp_standing (record { 0 = start }) (record_of ws).next) d n (record { 0 = c }) in
        appends_c ws ts out rows (less32 start next) (less32 next start) (appends_trim ws ts out start d n c)
        (leaves_number ws ts out 1 _ _ _ _ rows (refusals.append_trim (record_of ws) ts (record { 0 = start }) d n (record { 0 = c }) narrow))
        (refusing.refused_appends ws ts out _ _ o)
        (refusing.distance_told ws ts out _ _ (λ m. distance_with m (less32 start next) (less32 next start)) o
        (pair_told _ _ (record_of ws) ts _ d n (stamp_far (record { 0 = start }) (record_of ws).next small) (record { 0 = c })).distance)
        x words table told e f g h

  trims_c : (c x : ℕ) (words table : List ℕ) → x ≡ (trims ws ts c).number → words ≡ (trims ws ts c).words → table ≡ (trims ws ts c).table →
      ChangesFromC x ws ts words table (trim_rows (record_of ws) ts (record { 0 = c }))
  unfolding trims
  trims_c c x words table e f g =
      let rows = trim_rows (record_of ws) ts (record { 0 = c }) in
      changes_c ws ts rows (trims ws ts c) (changes_number ws ts _ _ rows (refusals.trim (record_of ws) ts (record { 0 = c }))) (refusing.trim_refused ws ts c) x words table e f g

  verdict_c : (c : ℕ) (out : List ℕ) (x : ℕ) (after : List ℕ) → x ≡ (tells_verdict ws ts c out).number → after ≡ (tells_verdict ws ts c out).out →
      TellsC x ws 5 (verdict_rows (record_of ws) ts (record { 0 = c })) out after
  unfolding tells_verdict
  verdict_c c out x after e f =
      let rows = verdict_rows (record_of ws) ts (record { 0 = c }) in
      let v = verdict_at (record_of ws) ts (record { 0 = c }) in
      tells_c ws 5 rows out (tells_verdict ws ts c out)
      (tells_number ws 5 (tells_by words_of_verdict v) out rows (told_number words_of_verdict v out ∙ refusals.verdict (record_of ws) ts (record { 0 = c }))) (refusing.verdict_refused ws ts c out) x after e f

  whole_c : (out : List ℕ) (x : ℕ) (after : List ℕ) → x ≡ (tells_whole ws ts out).number → after ≡ (tells_whole ws ts out).out → TellsC x ws 5 (whole_rows (record_of ws) ts) out after
  unfolding tells_whole
  whole_c out x after e f =
      let rows = whole_rows (record_of ws) ts in
      let v = verdict_whole (record_of ws) ts in
      tells_c ws 5 rows out (tells_whole ws ts out) (tells_number ws 5 (tells_by words_of_verdict v) out rows (told_number words_of_verdict v out ∙ refusals.verdict_whole_lem (record_of ws) ts))
      (refusing.whole_refused ws ts out) x after e f

  availability_c : (n : ℕ) (out : List ℤ) (x : ℕ) (after : List ℤ) → x ≡ (tells_availability ws ts n out).number → after ≡ (tells_availability ws ts n out).out →
      TellsC x ws 3 (availability_rows (record_of ws) ts (record { 0 = n })) out after
  unfolding tells_availability
  availability_c n out x after e f =
      let rows = availability_rows (record_of ws) ts (record { 0 = n }) in
      let v = availability_in (record_of ws) ts (record { 0 = n }) in
      tells_c ws 3 rows out (tells_availability ws ts n out)
      (tells_number ws 3 (tells_by words_of_availability v) out rows (told_number words_of_availability v out ∙ refusals.availability (record_of ws) ts (record { 0 = n })))
      (refusing.availability_refused ws ts n out) x after e f

  available_c : (n c : ℕ) (out : List ℕ) (x : ℕ) (after : List ℕ) → x ≡ (tells_available ws ts n c out).number → after ≡ (tells_available ws ts n c out).out →
      TellsC x ws 1 (available_rows (record_of ws) ts (record { 0 = n }) (record { 0 = c })) out after
  unfolding tells_available
  available_c n c out x after e f =
      let rows = available_rows (record_of ws) ts (record { 0 = n }) (record { 0 = c }) in
      let v = available_in (record_of ws) ts (record { 0 = n }) (record { 0 = c }) in
      tells_c ws 1 rows out (tells_available ws ts n c out)
      (tells_number ws 1 (tells_by words_of_available v) out rows (told_number words_of_available v out ∙ refusals.available_at (record_of ws) ts (record { 0 = n }) (record { 0 = c })))
      (refusing.available_refused ws ts n c out) x after e f

  full_c : (stamp : ℕ) (out : List ℕ) (x : ℕ) (after : List ℕ) → x ≡ (tells_full_tick ws ts stamp out).number → after ≡ (tells_full_tick ws ts stamp out).out →
      TellsC x ws 2 (full_tick_rows (record_of ws) ts) out after
  unfolding tells_full_tick
  full_c stamp out x after e f =
      let rows = full_tick_rows (record_of ws) ts in
      let v = full_tick_in (record_of ws) ts (record { 0 = stamp }) in
      tells_c ws 2 rows out (tells_full_tick ws ts stamp out)
      (tells_number ws 2 (tells_by words_of_tick v) out rows (told_number words_of_tick v out ∙ refusals.full_tick_lem (record_of ws) ts (record { 0 = stamp })))
      (refusing.full_refused ws ts stamp out) x after e f

  touching_c : (a b : ℕ) (out : List ℕ) (x : ℕ) (after : List ℕ) → x ≡ (tells_touching ws ts a b out).number → after ≡ (tells_touching ws ts a b out).out →
      TellsC x ws 2 (touching_rows (record_of ws) ts (record { 0 = a }) (record { 0 = b })) out after
  unfolding tells_touching
  touching_c a b out x after e f =
      let rows = touching_rows (record_of ws) ts (record { 0 = a }) (record { 0 = b }) in
      let v = touching_words (record_of ws) ts (record { 0 = a }) (record { 0 = b }) in
      tells_c ws 2 rows out (tells_touching ws ts a b out)
      (tells_number ws 2 (tells_by words_of_touching v) out rows (told_number words_of_touching v out ∙ refusals.touching (record_of ws) ts (record { 0 = a }) (record { 0 = b })))
      (refusing.touching_refused ws ts a b out) x after e f

  edge_c : (out : List ℕ) (x : ℕ) (after : List ℕ) → x ≡ (tells_edge ws ts out).number → after ≡ (tells_edge ws ts out).out → TellsC x ws 2 (edge_rows (record_of ws) ts) out after
  unfolding tells_edge
  edge_c out x after e f =
      let rows = edge_rows (record_of ws) ts in
      let v = covered_edge (record_of ws) ts in
      tells_c ws 2 rows out (tells_edge ws ts out) (tells_number ws 2 (tells_by words_of_edge v) out rows (told_number words_of_edge v out ∙ refusals.covered_edge_lem (record_of ws) ts))
      (refusing.edge_refused ws ts out) x after e f

  write_c : (bytes out : List ℕ) (x : ℕ) (after line : List ℕ) → x ≡ (writes ws ts bytes out).number → after ≡ (writes ws ts bytes out).bytes → line ≡ (writes ws ts bytes out).out →
      GivesNumber x (length_rows ws out 1 (write_rows (record_of ws) ts (length bytes))) ((after ≡ bytes) × (line ≡ out))
  unfolding writes
  write_c bytes out x after line e f g =
      let rows = write_rows (record_of ws) ts (length bytes) in
      writes_c ws bytes out rows (writes ws ts bytes out)
      (writes_number ws bytes out (write_answer (record_of ws) ts (length bytes)) _ rows (refusals.write (record_of ws) ts (length bytes)))
      (refusing.write_refused ws ts bytes out) x after line e f g

-- a call that asks nothing
answered : {K A X E : Type 0} {said : K → A → X → E → Type 0} {so : A → X → E → Type 0} → ((κs : K) (a : A) (x : X) (e : E) → said κs a x e → so a x e) →
    Answers (λ κs a. Unit {0}) said so
answered right = record { any = λ κs a. tt; right = right }

pub demand_1 : Demand1
demand_1 =
    record {
      opening =
          answered (λ κs (fields, (first, (table, _))) x e p.
          let h = head_of fields in
          let t = tick_of first in
          changing (open_outcome h t) _ zero_record _ table.now (open_rows h t) (refusals.opening h t) x _ p.0 p.1);
      append =
          answered (λ κs (rec, (table, (start, (d, (n, _))))) x e p narrow.
          record {
            changes =
                changing (append_outcome rec table.now (tick_standing start rec.next) d n) _ rec _ table.now _
                (refusals.append rec table.now start d n narrow) x _ p.0 p.1;
            distance = passed x _ _ _ p.0 (refusals.append_distance rec table.now start d n);
          });
      append_stamp =
          answered (λ κs (rec, (table, (stamp, (d, (n, _))))) x e p narrow small.
          record {
            changes =
                changing (append_outcome rec table.now (stamp_standing stamp rec.next) d n) _ rec _ table.now _
                (refusals.append_stamp rec table.now stamp d n narrow) x _ p.0 p.1;
            distance = passed x _ _ _ p.0 (refusals.stamp_distance rec table.now stamp d n small);
          });
      append_trim =
          answered (λ κs (rec, (table, (stamp, (d, (n, (clock, _)))))) x e p narrow small.
          record {
            changes =
                changing (pair_outcome rec table.now (stamp_standing stamp rec.next) d n clock) _ rec _ table.now _
                (refusals.append_trim rec table.now stamp d n clock narrow) x _ p.0 p.1;
            distance = passed x _ _ _ p.0 (refusals.pair_distance rec table.now stamp d n clock small);
          });
      trim =
          answered (λ κs (rec, (table, (clock, _))) x e p.
          changing (trim_outcome rec table.now clock) _ rec _ table.now _ (refusals.trim rec table.now clock) x _ p.0 p.1);
      verdict = answered (λ κs (rec, (table, (clock, _))) x e p. moved answer_number x _ p (refusals.verdict rec table.now clock) (only_refused x));
      verdict_whole_lem = answered (λ κs (rec, (table, _)) x e p. moved answer_number x _ p (refusals.verdict_whole_lem rec table.now) (only_refused x));
      availability =
          answered (λ κs (rec, (table, (number, _))) x e p.
          moved answer_number x _ p (refusals.availability rec table.now number) (only_refused x));
      available_at =
          answered (λ κs (rec, (table, (number, (clock, _)))) x e p.
          moved answer_number x _ p (refusals.available_at rec table.now number clock) (only_refused x));
      full_tick_lem =
          answered (λ κs (rec, (table, (stamp, _))) x e p. moved answer_number x _ p (refusals.full_tick_lem rec table.now stamp) (only_refused x));
      touching_words_lem =
          answered (λ κs (rec, (table, (from, (to, _)))) x e p.
          moved answer_number x _ p (refusals.touching rec table.now from to) (only_refused x));
      touching =
          answered (λ κs (rec, (table, (from, (to, _)))) x e p k.
          p ∙ no_part (touching_words rec table.now from to) table.now (λ z. k (sym (refusals.touching rec table.now from to) ∙ z)));
      covered_edge_lem = answered (λ κs (rec, (table, _)) x e p. moved answer_number x _ p (refusals.covered_edge_lem rec table.now) (only_refused x));
      read = answered (λ κs (bytes, (table, _)) x e p. reading bytes.now table.now x _ p.0 p.1);
      begins = λ κs a. tt;
      feed = answered (λ κs (reader, (table, (piece, _))) x e p. feeding reader table.now piece.now x _ p.0 p.1);
      finish = answered (λ κs (reader, (table, _)) x e p. finishing reader table.now x _ p.0 p.1);
      write =
          answered (λ κs (rec, (table, (out, _))) x e p.
          moved answer_number x _ p.0 (refusals.write rec table.now (length out.now))
          (λ k. p.1 ∙ write_leaves _ (file_for rec table.now) out.now (λ z. k (ap answer_number p.0 ∙ z))));
      desk_begins = λ κs a. tt;
      desk_feed = λ κs a. tt;
      desk_answer = λ κs a. tt;
      desk_whole = λ κs a. tt;
      c_open =
          answered (λ κs (rec, (table, (scale, (offset, (start, (duration, (depth, (number, (update, (tick, _)))))))))) x e p.
          opens_c rec.now table.now scale offset start duration depth number update tick x _ _ p.0 p.1.0 p.1.1);
      c_append =
          answered (λ κs (rec, (table, (start, (d, (n, (out, _)))))) x e p narrow.
          by_tick_lem rec.now table.now out.now start d n narrow x _ _ _ p.0 p.1.0 p.1.1.0 p.1.1.1);
      c_append_stamp =
          answered (λ κs (rec, (table, (stamp, (d, (n, (out, _)))))) x e p narrow small.
          by_stamp_lem rec.now table.now out.now stamp d n narrow small x _ _ _ p.0 p.1.0 p.1.1.0 p.1.1.1);
      c_append_trim =
          answered (λ κs (rec, (table, (stamp, (d, (n, (clock, (out, _))))))) x e p narrow small.
          by_pair rec.now table.now out.now stamp d n narrow clock small x _ _ _ p.0 p.1.0 p.1.1.0 p.1.1.1);
      c_trim = answered (λ κs (rec, (table, (clock, _))) x e p. trims_c rec.now table.now clock x _ _ p.0 p.1.0 p.1.1);
      c_verdict = answered (λ κs (rec, (table, (clock, (out, _)))) x e p. verdict_c rec.now table.now clock out.now x _ p.0 p.1);
      c_verdict_whole = answered (λ κs (rec, (table, (out, _))) x e p. whole_c rec.now table.now out.now x _ p.0 p.1);
      c_availability =
          answered (λ κs (rec, (table, (number, (out, _)))) x e p. availability_c rec.now table.now number out.now x _ p.0 p.1);
      c_available_at =
          answered (λ κs (rec, (table, (number, (clock, (out, _))))) x e p.
          available_c rec.now table.now number clock out.now x _ p.0 p.1);
      c_full_tick =
          answered (λ κs (rec, (table, (stamp, (out, _)))) x e p. full_c rec.now table.now stamp out.now x _ p.0 p.1);
      c_touching =
          answered (λ κs (rec, (table, (from, (to, (out, _))))) x e p. touching_c rec.now table.now from to out.now x _ p.0 p.1);
      c_covered_edge = answered (λ κs (rec, (table, (out, _))) x e p. edge_c rec.now table.now out.now x _ p.0 p.1);
      c_read =
          answered (λ κs (bytes, (rec, (table, (out, _)))) x e p.
          reads_c bytes.now rec.now table.now out.now x _ _ _ p.0 p.1.0 p.1.1.0 p.1.1.1);
      c_write =
          answered (λ κs (rec, (table, (bytes, (out, _)))) x e p.
          write_c rec.now table.now bytes.now out.now x _ _ p.0 p.1.0 p.1.1);
    }
