-- The whole file that is written: how long it is, its lines one behind the other in the output, and the refusals in their order.
use mathlib.Core.Path.{◌≡◌, refl, sym, ap, ap₂, subst, subst⁻¹, ◌∙◌}
use mathlib.Core.Bool.{Bool, true, false, cond, not}
use mathlib.Core.List.{List, [], ◌∷◌, ◌++◌, append_assoc, append-nil}
use Prim.Native.Nat.{ℕ, ◌+◌, ◌-◌, ◌*◌, ◌^◌, ◌≤◌, ◌<◌}
use native.Mathlib.Omega.{arith}
use borrow.Rule.Slice.PartMut.{put_mid}
use lib.Dec.{leb}
use lib.ListN.{length, take, drop, length-append, length-drop, length-take}
use lib.Seq.{drop-drop}
use mir.Syntax.{w64}
use mir.Val.{Fits as FitsWord}
use Rattle.units.proofs.Guards.{told, refused, allowed, at_most, above, same, other}
use Rattle.units.specs.Limits.{largest_number}
use Rattle.window.specs.Limits.{fields_of}
use Rattle.runs.specs.declared.Run.{Run}
use Rattle.runs.specs.Words.{runs_of, kept_in}
use Rattle.runs.specs.Shape.{shaped}
use Rattle.runs.proofs.Opening.{runs_length}
use Rattle.runs.proofs.Encoded.{encoded}
use Rattle.runs.proofs.Tables.{runs_shaped_lem, runs_for_kept}
use Rattle.agreement.specs.declared.Record.{Record}
use Rattle.agreement.specs.declared.refusal.Refusal.TheVariants.{Disagreement, NothingKept, ShortOutput}
use Rattle.agreement.specs.Agreement.{kept, agrees}
use Rattle.agreement.proofs.Agreeing.{Agreeing, agreeing}
use Rattle.frames.specs.Fields.{all_ones}
use Rattle.frames.specs.declared.HeadLine.{HeadLine}
use Rattle.frames.specs.declared.Frame.TheVariants.{Head as HeadFrame, End}
use Rattle.frames.specs.Frames.{head_line, Fits, line_widths, line_length, ended_length, kind_of, line_of, ended_line, Written as WrittenLine}
use Rattle.frames.proofs.Lines.{length_ended}
use Rattle.frames.proofs.Rows.{length_fields}
use Rattle.std.specs.Prelude.{Err, Ok, Result}
use Rattle.agreement.specs.declared.refusal.Refusal.{Refusal}
use Rattle.writing.specs.Writing.{head_frame, s_frame, later_frames, s_frames, bytes_of, file_of, kept_head, file_for, write_answer, output_by}
use Rattle.writing.proofs.Output.{tail_put, bytes_append, runs_few}

-- ---- the whole file

-- the bytes of an S line and its feed, whatever its fields
s_long : (t : ℕ) (r : Run) → length (ended_line (s_frame t r)) ≡ ended_length 2
unfolding ended_line line_of
s_long t r =
    length-append (line_of (s_frame t r)) (10 ∷ []) ∙ ap (λ (n : ℕ). n + 1) (length_fields (line_widths 2) (2 ∷ t ∷ r.span.0 ∷ (r.count - 1) ∷ []) refl)

later_long : (rs : List Run) → length (bytes_of (later_frames rs)) ≡ ended_length 2 * length rs
unfolding bytes_of later_frames
later_long [] = refl
later_long (r ∷ rs) =
    omega (arith, length-append (ended_line (s_frame all_ones r)) (bytes_of (later_frames rs)), s_long all_ones r, later_long rs)

runs_long : (rs : List Run) → length (bytes_of (s_frames rs)) ≡ ended_length 2 * length rs
unfolding bytes_of s_frames
runs_long [] = refl
runs_long (r ∷ rs) =
    omega (arith, length-append (ended_line (s_frame r.start.0 r)) (bytes_of (later_frames rs)), s_long r.start.0 r, later_long rs)

module _ (rec : Record) (ws : List ℕ) (a : agrees rec ws ≡ true) where
  facts : Agreeing rec ws
  facts = agreeing rec ws a

  pub kept_few : length (kept rec ws) ≤ 2 ^ 31
  kept_few = omega (arith, facts.total, facts.held.accepted)

  used_few : rec.used ≤ 2 ^ 31
  used_few = omega (arith, runs_few (runs_of rec.used ws) (runs_shaped_lem rec.used ws facts.table), runs_length rec.used ws, kept_few)

  pub head_fits : Fits (head_frame (kept_head rec))
  head_fits =
      let h = facts.held.head in
      record {
        fields = (
          omega (arith, h.timescale),
          (
            omega (arith, h.offset),
            (
              omega (arith, h.start),
              (omega (arith, h.duration), (omega (arith, h.depth), (omega (arith, facts.held.numbers, facts.held.dropped), (omega (arith, h.update), tt)))),
            ),
          ),
        );
      }

  pub end_fits : Fits (End rec.used)
  end_fits = record { fields = (omega (arith, used_few), tt) }

  -- its lines, as they are written
  file_lines : file_for rec ws ≡ (ended_line (head_frame (kept_head rec)) ++ bytes_of (s_frames (runs_of rec.used ws))) ++ ended_line (End rec.used)
  unfolding file_of bytes_of
  file_lines =
      let runs = runs_of rec.used ws in
      ap₂ (λ (rs : List Run) (n : ℕ). ended_line (head_frame (kept_head rec)) ++ bytes_of (s_frames rs ++ End n ∷ []))
      (encoded runs (runs_shaped_lem rec.used ws facts.table))
      (runs_for_kept rec.used ws facts.table) ∙
      ap (λ bs. ended_line (head_frame (kept_head rec)) ++ bs)
      (bytes_append (s_frames runs) (End rec.used ∷ []) ∙ ap (λ bs. bytes_of (s_frames runs) ++ bs) (append-nil (ended_line (End rec.used)))) ∙
      sym (append_assoc (ended_line (head_frame (kept_head rec))) (bytes_of (s_frames runs)) (ended_line (End rec.used)))

  head_long : length (ended_line (head_frame (kept_head rec))) ≡ ended_length 5
  head_long = length_ended (head_frame (kept_head rec)) head_fits

  lines_long : length (bytes_of (s_frames (runs_of rec.used ws))) ≡ ended_length 2 * rec.used
  lines_long = runs_long (runs_of rec.used ws) ∙ ap (λ (n : ℕ). ended_length 2 * n) (runs_length rec.used ws)

  file_length : length (file_for rec ws) ≡ ended_length 5 + ended_length 2 * rec.used + ended_length 3
  file_length =
      let head = ended_line (head_frame (kept_head rec)) in
      let lines = bytes_of (s_frames (runs_of rec.used ws)) in
      omega (
        arith,
        ap length file_lines,
        length-append (head ++ lines) (ended_line (End rec.used)),
        length-append head lines,
        head_long,
        lines_long,
        length_ended (End rec.used) end_fits,
      )

  module _ (out : List ℕ) (room : length (file_for rec ws) ≤ length out) where
    pub all_number : rec.head.first.0 + rec.dropped ≤ largest_number
    all_number = omega (arith, facts.held.numbers, facts.held.dropped)

    module _ (hd : HeadLine) (e : hd ≡ head_line (fields_of (kept_head rec))) where
      pub all_head : Fits (HeadFrame hd) × (line_length (kind_of (HeadFrame hd)) < length out)
      all_head = subst⁻¹ (λ h. Fits (HeadFrame h) × (line_length (kind_of (HeadFrame h)) < length out)) e (head_fits, omega (arith, file_length, room))

      module _ (n : ℕ) (first : List ℕ) (w : WrittenLine (HeadFrame hd) out first n) where
        k : WrittenLine (head_frame (kept_head rec)) out first n
        k = subst (λ h. WrittenLine (HeadFrame h) out first n) e w

        first_is : first ≡ ended_line (head_frame (kept_head rec)) ++ drop (ended_length 5) out
        first_is = k.bytes

        first_long : length first ≡ length out
        first_long =
            omega (
              arith,
              ap length first_is,
              length-append (ended_line (head_frame (kept_head rec))) (drop (ended_length 5) out),
              head_long,
              length-drop (ended_length 5) out,
              file_length,
              room,
            )

        pub all_start : n ≤ length first
        all_start = omega (arith, k.long, first_long, file_length, room)

        pub all_runs : (shaped rec.used ws ≡ true) × (length (kept_in rec.used ws) ≤ 2 ^ 31) × (ended_length 2 * rec.used ≤ length (take (length first - n) (drop n first)))
        all_runs = (
          facts.table,
          kept_few,
          omega (arith, length-take (length first - n) (drop n first), length-drop n first, k.long, first_long, file_length, room),
        )

        module _ (m : ℕ) (ys : List ℕ)
            (j : (m ≡ ended_length 2 * rec.used) × (ys ≡ bytes_of (s_frames (runs_of rec.used ws)) ++ drop (ended_length 2 * rec.used) (take (length first - n) (drop n first)))) where
          second : List ℕ
          second = put_mid n (length first - n) first ys

          second_is : second ≡ (ended_line (head_frame (kept_head rec)) ++ bytes_of (s_frames (runs_of rec.used ws))) ++ drop (n + m) out
          unfolding second
          second_is =
              let lines = bytes_of (s_frames (runs_of rec.used ws)) in
              tail_put first (ended_line (head_frame (kept_head rec))) (drop (ended_length 5) out) lines ys n (ended_length 2 * rec.used) first_is (head_long ∙ sym k.long) j.1 ∙
              ap (λ bs. (ended_line (head_frame (kept_head rec)) ++ lines) ++ bs)
              (drop-drop (ended_length 2 * rec.used) (ended_length 5) out ∙ ap₂ (λ (x y : ℕ). drop (x + y) out) (sym k.long) (sym j.0))

          joint : length (ended_line (head_frame (kept_head rec)) ++ bytes_of (s_frames (runs_of rec.used ws))) ≡ n + m
          joint =
              omega (
                arith,
                length-append (ended_line (head_frame (kept_head rec))) (bytes_of (s_frames (runs_of rec.used ws))),
                head_long,
                lines_long,
                k.long,
                j.0,
              )

          second_long : length second ≡ length out
          second_long =
              omega (
                arith,
                ap length second_is,
                length-append (ended_line (head_frame (kept_head rec)) ++ bytes_of (s_frames (runs_of rec.used ws))) (drop (n + m) out),
                joint,
                length-drop (n + m) out,
                k.long,
                j.0,
                file_length,
                room,
              )

          pub all_fits : length out < 2 ^ 64 → FitsWord w64 (n + m)
          all_fits b = record { fits = omega (arith, k.long, j.0, file_length, room) }

          pub all_place : n + m ≤ length (put_mid n (length first - n) first ys)
          unfolding second
          all_place = omega (arith, second_long, k.long, j.0, file_length, room)

          pub all_end : Fits (End rec.used) ×
              (line_length (kind_of (End rec.used)) <
              length (take (length (put_mid n (length first - n) first ys) - (n + m)) (drop (n + m) (put_mid n (length first - n) first ys))))
          unfolding second
          all_end = (
            end_fits,
            omega (
              arith,
              length-take (length second - (n + m)) (drop (n + m) second),
              length-drop (n + m) second,
              second_long,
              k.long,
              j.0,
              file_length,
              room,
            ),
          )

          module _ (l : ℕ) (zs : List ℕ)
              (q : WrittenLine (End rec.used) (take (length (put_mid n (length first - n) first ys) - (n + m)) (drop (n + m) (put_mid n (length first - n) first ys))) zs l) where
            pub all_long : n + m + l ≡ length (file_for rec ws)
            all_long = omega (arith, k.long, j.0, q.long, file_length)

            pub all_result : length out < 2 ^ 64 → FitsWord w64 (n + m + l)
            all_result b = record { fits = omega (arith, all_long, room) }

            pub all_bytes : put_mid (n + m) (length (put_mid n (length first - n) first ys) - (n + m)) (put_mid n (length first - n) first ys) zs ≡
                file_for rec ws ++ drop (n + m + l) out
            unfolding second
            all_bytes =
                let lines = bytes_of (s_frames (runs_of rec.used ws)) in
                tail_put second (ended_line (head_frame (kept_head rec)) ++ lines) (drop (n + m) out) (ended_line (End rec.used)) zs (n + m) (ended_length 3) second_is joint
                q.bytes ∙
                ap₂ ◌++◌ (sym file_lines) (drop-drop (ended_length 3) (n + m) out ∙ ap (λ (x : ℕ). drop (n + m + x) out) (sym q.long))

-- ---- the refusals

module _ (rec : Record) (ws out : List ℕ) (t : Bool) (e : t ≡ agrees rec ws) where
  output_of : (x : Result ℕ Refusal) → x ≡ write_answer rec ws (length out) → (y : List ℕ) → y ≡ output_by x (file_for rec ws) out →
      (x ≡ write_answer rec ws (length out)) × (y ≡ output_by (write_answer rec ws (length out)) (file_for rec ws) out)
  output_of x k y j = (k, j ∙ ap (λ z. output_by z (file_for rec ws) out) k)

  pub write_disagrees : not t ≡ true →
      (Err Disagreement ≡ write_answer rec ws (length out)) × (out ≡ output_by (write_answer rec ws (length out)) (file_for rec ws) out)
  unfolding write_answer output_by
  write_disagrees m = output_of (Err Disagreement) (refused t _ _ _ e m) out refl

  module _ (m : not t ≡ false) where
    write_agrees : agrees rec ws ≡ true
    write_agrees = told t _ e m

    pub write_nothing : rec.used ≡ 0 →
        (Err NothingKept ≡ write_answer rec ws (length out)) × (out ≡ output_by (write_answer rec ws (length out)) (file_for rec ws) out)
    unfolding write_answer output_by
    write_nothing z = output_of (Err NothingKept) (allowed t _ _ _ _ e m (same _ _ _ _ z)) out refl

    module _ (some : rec.used ≡ 0 → ⊥) where
      kept_some : (x : Result ℕ Refusal) → x ≡ cond (leb (length (file_for rec ws)) (length out)) (Ok (length (file_for rec ws))) (Err ShortOutput) →
          x ≡ write_answer rec ws (length out)
      unfolding write_answer
      kept_some x k = allowed t _ _ _ _ e m (other _ _ _ _ _ some k)

      few_runs : rec.used ≤ 2 ^ 31
      few_runs = used_few rec ws write_agrees

      pub write_product : FitsWord w64 (ended_length 2 * rec.used)
      write_product = record { fits = omega (arith, few_runs) }

      pub write_total : FitsWord w64 (ended_length 5 + ended_length 3 + ended_length 2 * rec.used)
      write_total = record { fits = omega (arith, few_runs) }

      pub write_short : length out < ended_length 5 + ended_length 3 + ended_length 2 * rec.used →
          (Err ShortOutput ≡ write_answer rec ws (length out)) × (out ≡ output_by (write_answer rec ws (length out)) (file_for rec ws) out)
      unfolding output_by
      write_short l =
          let over : length out < length (file_for rec ws) = omega (arith, file_length rec ws write_agrees) in
          output_of (Err ShortOutput) (kept_some _ (above _ _ _ _ over)) out refl

      module _ (l : ended_length 5 + ended_length 3 + ended_length 2 * rec.used ≤ length out) where
        pub write_asks : (agrees rec ws ≡ true) × (length (file_for rec ws) ≤ length out)
        write_asks = (write_agrees, omega (arith, file_length rec ws write_agrees))

        pub write_whole : (n : ℕ) (y : List ℕ) → (n ≡ length (file_for rec ws)) × (y ≡ file_for rec ws ++ drop n out) →
            (Ok n ≡ write_answer rec ws (length out)) × (y ≡ output_by (write_answer rec ws (length out)) (file_for rec ws) out)
        unfolding output_by
        write_whole n y k = output_of (Ok n) (kept_some _ (at_most _ _ _ _ _ write_asks.1 (ap Ok k.0))) y k.1
