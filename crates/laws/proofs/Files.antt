-- Demand 2 of files: what is written reads back, equal kept timelines give equal files, and what a negative r stands for.
use mathlib.Core.Path.{◌≡◌, refl, sym, ap, ap₂, subst⁻¹, ◌∙◌}
use mathlib.Core.Bool.{Bool, true, false, cond, not}
use mathlib.Core.List.{List, ◌++◌}
use Prim.Native.Nat.{ℕ, ◌+◌, ◌≤◌}
use native.Mathlib.Omega.{arith}
use borrow.Author.Tests.{ne_eqb, leb-true, le-leb, le-ltb}
use lib.Dec.{eqb, leb}
use lib.ListN.{length, get_or, take, drop}
use lib.Seq.{take-append_seam}
use Rattle.units.specs.Exactly.{ExactlyWhen}
use Rattle.units.specs.declared.standing.Standing.TheVariants.{Joins}
use Rattle.window.specs.declared.Head.{Head}
use Rattle.window.specs.Place.{before_end}
use Rattle.window.specs.Ticks.{LeastCount}
use Rattle.runs.specs.Words.{kept_in, capacity}
use Rattle.runs.specs.Shape.{shaped}
use Rattle.runs.specs.Encoding.{runs_for}
use Rattle.runs.proofs.EndToStart.{kept_join}
use Rattle.runs.proofs.Tables.{runs_for_kept, canonical_kept}
use Rattle.agreement.specs.declared.Record.{Record}
use Rattle.agreement.specs.declared.refusal.Refusal.TheVariants.{Disagreement, NothingKept, ShortOutput, NothingGiven, PastEnd, NoEndToReach}
use Rattle.agreement.specs.Agreement.{agrees, kept}
use Rattle.agreement.proofs.Agreeing.{agree_shaped}
use Rattle.std.specs.Prelude.{Ok, Err}
use Rattle.keeping.specs.Keeping.{words_keeping}
use Rattle.keeping.specs.Append.{fit_outcome}
use Rattle.timeline.specs.Appending.{append_outcome}
use Rattle.frames.specs.declared.SFields.{SFields}
use Rattle.file.specs.declared.Reading.{Reading}
use Rattle.file.specs.declared.Stage.TheVariants.{Filled, Open}
use Rattle.file.specs.Least.{least_count}
use Rattle.file.specs.Judging.{first_negative, reach_outcome, appended_by, reaches_by, take_s}
use Rattle.file.proofs.Counts as count
use Rattle.writing.specs.Writing.{kept_head, file_for, write_answer, output_by}
use Rattle.writing.proofs.Stable as stable
use Rattle.answers.proofs.Counting.{some_of}
use Rattle.laws.specs.Demand2.{first_kept, Writes, ReadsBack, output, SameKept}

-- ---- what was written

module _ (rec : Record) (ws : List ℕ) (room n : ℕ) where
  wrote : write_answer rec ws room ≡ Ok n → Writes rec ws room n
  unfolding write_answer
  wrote = go (agrees rec ws) refl (eqb rec.used 0) refl (leb (length (file_for rec ws)) room) refl
    where
      go : (x : Bool) → agrees rec ws ≡ x → (y : Bool) → eqb rec.used 0 ≡ y → (z : Bool) → leb (length (file_for rec ws)) room ≡ z →
          cond x (cond y (Err NothingKept) (cond z (Ok (length (file_for rec ws))) (Err ShortOutput))) (Err Disagreement) ≡ Ok n →
          Writes rec ws room n
      go true e false f true g q =
          let long : length (file_for rec ws) ≡ n = cc in
          let fits = leb-true (length (file_for rec ws)) room g in
          record { agreed = e; some = some_of rec.used f; long = sym long; fits = omega arith }
      go true e false f false g q = cc
      go true e true f z g q = cc
      go false e y f z g q = cc

  writes : Writes rec ws room n → write_answer rec ws room ≡ Ok n
  unfolding write_answer
  writes w =
      let fits : length (file_for rec ws) ≤ room = omega (arith, w.long, w.fits) in
      ap₂ (λ x y. cond x (cond y (Err NothingKept) (cond (leb (length (file_for rec ws)) room) (Ok (length (file_for rec ws))) (Err ShortOutput))) (Err Disagreement))
      w.agreed
      (ne_eqb rec.used 0 (λ z. let y : ⊥ = omega (arith, w.some) in y)) ∙
      ap (λ z. cond z (Ok (length (file_for rec ws))) (Err ShortOutput)) (le-leb (length (file_for rec ws)) room fits) ∙
      ap Ok (sym w.long)

  pub written : ExactlyWhen (write_answer rec ws room ≡ Ok n) (Writes rec ws room n)
  written = record { only = wrote; if = writes }

pub read_back_lem : (rec : Record) (ws out : List ℕ) (n : ℕ) → write_answer rec ws (length out) ≡ Ok n →
    (came : List ℕ) → rec.used ≤ capacity came → ReadsBack rec ws came (take n (output rec ws out))
unfolding output_by
read_back_lem rec ws out n e came room = subst⁻¹ (ReadsBack rec ws came) bytes back
  where
    w : Writes rec ws (length out) n
    w = wrote rec ws (length out) n e

    some : rec.used ≡ 0 → ⊥
    some z = omega (arith, w.some)

    bytes : take n (output rec ws out) ≡ file_for rec ws
    bytes =
        ap (λ y. take n (output_by y (file_for rec ws) out)) e ∙
        ap (λ (m : ℕ). take m (file_for rec ws ++ drop n out)) w.long ∙
        take-append_seam (file_for rec ws) (drop n out)

    shape : shaped rec.used ws ≡ true
    shape = agree_shaped rec ws w.agreed

    back : ReadsBack rec ws came (file_for rec ws)
    back =
        let r = stable.read_back_lem rec ws w.agreed came room some in
        record {
          answer = r.0;
          table = r.1;
          references =
              ap (kept_in rec.used) r.1 ∙
              ap (λ (u : ℕ). kept_in u (words_keeping came (kept rec ws))) (sym (runs_for_kept rec.used ws shape)) ∙
              canonical_kept (get_or ws 0 0) (length came) (kept rec ws) (kept_join rec.used ws shape);
          number = omega arith;
          words = stable.same_words rec ws w.agreed came room some;
        }

-- ---- equal kept timelines

module _ (rec other : Record) (ws vs : List ℕ) (a : agrees rec ws ≡ true) (b : agrees other vs ≡ true) (s : SameKept rec ws other vs) where
  same_head : kept_head rec ≡ kept_head other
  same_head =
      let h = other.head in
      ap
      (λ x. record { timescale = x; offset = rec.head.offset; start = rec.head.start; duration = rec.head.duration; depth = rec.head.depth; first = record { 0 = first_kept rec }; update = rec.head.update })
      s.timescale ∙
      ap₂
      (λ x y. record { timescale = h.timescale; offset = x; start = y; duration = rec.head.duration; depth = rec.head.depth; first = record { 0 = first_kept rec }; update = rec.head.update })
      s.offset s.start ∙
      ap₂
      (λ x y. record { timescale = h.timescale; offset = h.offset; start = h.start; duration = x; depth = y; first = record { 0 = first_kept rec }; update = rec.head.update })
      s.duration s.depth ∙
      ap₂
      (λ (n : ℕ) u. record { timescale = h.timescale; offset = h.offset; start = h.start; duration = h.duration; depth = h.depth; first = record { 0 = n }; update = u })
      s.number s.update

  same_bytes : file_for rec ws ≡ file_for other vs
  same_bytes = stable.same_file rec other ws vs same_head s.references

  same_used : rec.used ≡ other.used
  same_used =
      sym (runs_for_kept rec.used ws (agree_shaped rec ws a)) ∙ ap runs_for s.references ∙ runs_for_kept other.used vs (agree_shaped other vs b)

  same_answer : (room : ℕ) → write_answer rec ws room ≡ write_answer other vs room
  unfolding write_answer
  same_answer room =
      ap₂ (λ x (u : ℕ). cond x (cond (eqb u 0) (Err NothingKept) (cond (leb (length (file_for rec ws)) room) (Ok (length (file_for rec ws))) (Err ShortOutput))) (Err Disagreement))
      (a ∙ sym b) same_used ∙
      ap (λ (n : ℕ). cond (agrees other vs) (cond (eqb other.used 0) (Err NothingKept) (cond (leb n room) (Ok n) (Err ShortOutput))) (Err Disagreement))
      (ap length same_bytes)

  pub same_file : (out : List ℕ) → (write_answer rec ws (length out) ≡ write_answer other vs (length out)) × (output rec ws out ≡ output other vs out)
  same_file out = (same_answer (length out), ap₂ (λ y bytes. output_by y bytes out) (same_answer (length out)) same_bytes)

-- ---- the least count

pub least_count_lem : (h : Head) (s d n : ℕ) → 1 ≤ d → ExactlyWhen (n ≡ least_count h s d) (LeastCount h s d n)
least_count_lem h s d n lasts =
    record { only = λ e. subst⁻¹ (LeastCount h s d) e (count.least_holds h s d lasts); if = λ l. count.least_is h s d lasts n l }

pub negative_r : (r : Reading) (ws : List ℕ) (s : SFields) (n : ℕ) → first_negative ≤ s.r → 1 ≤ s.d → 1 ≤ r.rec.head.duration.0 →
    before_end r.rec.head r.rec.next.0 ≡ true → LeastCount r.rec.head r.rec.next.0 s.d n →
    take_s r ws Joins s ≡ appended_by (fit_outcome r.rec ws s.d n) Filled r ws s.d n
unfolding take_s reaches_by reach_outcome
negative_r r ws s n negative lasts known before l =
    ap (λ t. cond t (appended_by (append_outcome r.rec ws Joins s.d (s.r + 1)) Open r ws s.d (s.r + 1)) (reaches_by r ws Joins s.d))
    (le-ltb s.r first_negative negative) ∙
    ap (λ (m : ℕ). appended_by (reach_outcome r.rec ws Joins s.d m) Filled r ws s.d m)
    (sym ((least_count_lem r.rec.head r.rec.next.0 s.d n lasts).if l)) ∙
    ap (λ o. appended_by o Filled r ws s.d n) judged
  where
    judged : reach_outcome r.rec ws Joins s.d n ≡ fit_outcome r.rec ws s.d n
    judged =
        ap₂ (λ t u. cond t (Err NothingGiven) (cond u (cond (before_end r.rec.head r.rec.next.0) (fit_outcome r.rec ws s.d n) (Err PastEnd)) (Err NoEndToReach)))
        (ne_eqb s.d 0 (λ z. let y : ⊥ = omega arith in y))
        (ap not (ne_eqb r.rec.head.duration.0 0 (λ z. let y : ⊥ = omega arith in y))) ∙
        ap (λ t. cond t (fit_outcome r.rec ws s.d n) (Err PastEnd)) before
