-- What is written: a line goes into the rest of the output, and the lines of a file one behind the other are the file.
use mathlib.Core.Path.{◌≡◌, refl, sym, ap, ap₂, subst⁻¹, ◌∙◌}
use mathlib.Core.Bool.{Bool, true, false, cond}
use mathlib.Core.List.{List, [], ◌∷◌, ◌++◌, append_assoc, append-nil}
use Prim.Native.Nat.{ℕ, zero, suc, ◌+◌, ◌-◌, ◌*◌, ◌^◌, ◌≤◌, ◌<◌}
use native.Mathlib.Numerals.{add-one}
use native.Mathlib.Omega.{arith}
use borrow.Author.Tests.{ne_eqb}
use borrow.Rule.Slice.PartMut.{put_mid, same_len_mid}
use lib.Dec.{eqb}
use lib.ListN.{length, get_or, take, drop, take-append-drop, length-append, length-drop, length-take, drop_of_length-le}
use lib.Seq.{take_at, drop_at, take_all, drop-drop}
use mir.Syntax.{w64}
use mir.Val.{Fits as FitsWord}
use Rattle.units.specs.Limits.{largest_span}
use Rattle.runs.specs.declared.Run.{Run}
use Rattle.runs.specs.Words.{runs_of, kept_in, references_of}
use Rattle.runs.specs.Shape.{runs_shaped, shaped}
use Rattle.runs.proofs.Opening.{references_in, runs_length, repeated_length}
use Rattle.runs.proofs.Encoded.{Leads, leads}
use Rattle.runs.proofs.Tables.{runs_shaped_lem}
use Rattle.frames.specs.Fields.{all_ones}
use Rattle.frames.specs.declared.Frame.{Frame}
use Rattle.frames.specs.Frames.{Fits, line_length, ended_length, kind_of, ended_line, Written as WrittenLine}
use Rattle.frames.proofs.Lines.{length_ended}
use Rattle.writing.specs.Writing.{s_frame, later_frames, s_frames, bytes_of}

-- ---- the rest of an output

-- a part that has come back: what was written stands behind what stood before it, and the rest as it came
pub tail_put : (out p rest line ys : List ℕ) (at n : ℕ) → out ≡ p ++ rest → length p ≡ at → ys ≡ line ++ drop n (take (length out - at) (drop at out)) →
    put_mid at (length out - at) out ys ≡ (p ++ line) ++ drop n rest
tail_put out p rest line ys at n e l k =
    let front : take at out ≡ p = ap (take at) e ∙ take_at p rest at l in
    let back : drop at out ≡ rest = ap (drop at) e ∙ drop_at p rest at l in
    let long : length rest ≤ length out - at = omega (arith, ap length e, length-append p rest) in
    let whole : take (length out - at) (drop at out) ≡ rest = ap (take (length out - at)) back ∙ take_all (length out - at) rest long in
    let none : drop (length out - at) (drop at out) ≡ [] = ap (drop (length out - at)) back ∙ drop_of_length-le rest long in
    ap₂ ◌++◌ front (ap₂ ◌++◌ (k ∙ ap (λ xs. line ++ drop n xs) whole) none ∙ append-nil (line ++ drop n rest)) ∙
    sym (append_assoc p line (drop n rest))

-- ---- the frames of runs

-- the frames of the runs that are left behind so many
abbrev pub frames_left : ℕ → List Run → List Frame
frames_left zero rs = s_frames rs
frames_left (suc n) rs = later_frames rs

frames_more : (i : ℕ) (r : Run) (rs : List Run) → frames_left i (r ∷ rs) ≡ s_frame (cond (eqb i 0) r.start.0 all_ones) r ∷ frames_left (i + 1) rs
unfolding s_frames later_frames
frames_more zero r rs = refl
frames_more (suc i) r rs =
    let later : eqb (suc i) 0 ≡ false = ne_eqb (suc i) 0 (λ z. let w : ⊥ = omega arith in w) in
    let next : suc (suc i) ≡ suc i + 1 = omega arith in
    ap₂ (λ (t : Bool) (n : ℕ). s_frame (cond t r.start.0 all_ones) r ∷ frames_left n rs) (sym later) next

frames_none : (i : ℕ) → frames_left i [] ≡ []
unfolding s_frames later_frames
frames_none zero = refl
frames_none (suc i) = refl

pub bytes_append : (fs gs : List Frame) → bytes_of (fs ++ gs) ≡ bytes_of fs ++ bytes_of gs
unfolding bytes_of
bytes_append [] gs = refl
bytes_append (f ∷ fs) gs = ap (λ bs. ended_line f ++ bs) (bytes_append fs gs) ∙ sym (append_assoc (ended_line f) (bytes_of fs) (bytes_of gs))

-- an S line that can be written
pub s_fits : (t : ℕ) (r : Run) → t < 2 ^ 64 → r.span.0 ≤ largest_span → r.count ≤ 2 ^ 31 → Fits (s_frame t r)
s_fits t r a b c = record { fields = (omega arith, (omega arith, (omega arith, tt))) }

-- a run has no more references than all runs, and there are no more runs than references
pub run_few : (rs : List Run) (i : ℕ) (other : Run) → i < length rs → (get_or rs i other).count ≤ length (references_of rs)
unfolding references_of
run_few [] i other h = let z : ⊥ = omega arith in absurd z
run_few (r ∷ rs) zero other h =
    let n = r.count in omega (arith, length-append (references_in r) (references_of rs), repeated_length r.start.0 r.span.0 n)
run_few (r ∷ rs) (suc i) other h =
    let n = run_few rs i other (omega arith) in omega (arith, length-append (references_in r) (references_of rs))

pub runs_few : (rs : List Run) → runs_shaped rs ≡ true → length rs ≤ length (references_of rs)
unfolding references_of
runs_few [] s = omega arith
runs_few (r ∷ rs) s =
    let l = leads r rs s in
    let n = runs_few rs l.rest in
    omega (arith, length-append (references_in r) (references_of rs), repeated_length r.start.0 r.span.0 r.count, l.some)

-- ---- the S lines of a table, one by one

-- so many lines stand in front, and those of the runs left are still to come
pub record Lined (all out₀ out : List ℕ) (at i : ℕ) (left : List Run) : Type 0 where
  pub place : at ≡ ended_length 2 * i
  pub long : length out ≡ length out₀
  pub written : take at out ++ bytes_of (frames_left i left) ≡ all
  pub rest : drop at out ≡ drop at out₀

-- the runs left can be written: they are shaped, with few enough references, and there is room for their lines
pub record Room (room i : ℕ) (left : List Run) : Type 0 where
  pub shape : runs_shaped left ≡ true
  pub few : length (references_of left) ≤ 2 ^ 31
  pub lines : ended_length 2 * (i + length left) ≤ room

-- before the first
module _ (ws : List ℕ) (used i : ℕ) (left : List Run) (z : i ≡ 0) (e : left ≡ runs_of used ws) where
  pub first_counted : i + length left ≡ used
  first_counted = omega (arith, ap length e, runs_length used ws)

  pub lined_first : (out : List ℕ) (at : ℕ) → at ≡ 0 → Lined (bytes_of (s_frames (runs_of used ws))) out out at i left
  lined_first out at y =
      record {
        place = omega arith;
        long = refl;
        written = ap₂ (λ (k n : ℕ). take k out ++ bytes_of (frames_left n left)) y z ∙ ap (λ rs. bytes_of (s_frames rs)) e;
        rest = refl;
      }

  pub room_first : (room : ℕ) → shaped used ws ≡ true → length (kept_in used ws) ≤ 2 ^ 31 → ended_length 2 * used ≤ room → Room room i left
  room_first room shape few lines =
      record {
        shape = ap runs_shaped e ∙ runs_shaped_lem used ws shape;
        few = subst⁻¹ (λ rs. length (references_of rs) ≤ 2 ^ 31) e few;
        lines = omega (arith, ap length e, runs_length used ws);
      }

-- the frame of a run at a place
pub placed : (f : Frame) (r : Run) (place i : ℕ) → f ≡ s_frame (cond (eqb place 0) r.start.0 all_ones) r → place ≡ i → f ≡ s_frame (cond (eqb i 0) r.start.0 all_ones) r
placed f r place i e same = e ∙ ap (λ (k : ℕ). s_frame (cond (eqb k 0) r.start.0 all_ones) r) same

pub next_counted : (left : List Run) (r : Run) (rs : List Run) → left ≡ r ∷ rs → (i next used : ℕ) → i + length left ≡ used → next ≡ i + 1 → next + length rs ≡ used
next_counted left r rs opened i next used counted e = omega (arith, ap length opened)

pub index_fits : (i long used : ℕ) → i + long ≡ used → FitsWord w64 used → i + long < 2 ^ 64
index_fits i long used counted fits = omega (arith, fits.fits)

module _ (all out₀ out : List ℕ) (at i : ℕ) (left : List Run) (w : Lined all out₀ out at i left) where
  module _ (used : ℕ) (counted : i + length left ≡ used) (none : left ≡ []) where
    pub lined_length : at ≡ ended_length 2 * used
    lined_length = omega (arith, ap length none, w.place)

    pub lined_all : out ≡ all ++ drop (ended_length 2 * used) out₀
    unfolding bytes_of
    lined_all =
        let over : bytes_of (frames_left i left) ≡ [] = ap (λ rs. bytes_of (frames_left i rs)) none ∙ ap bytes_of (frames_none i) in
        sym (take-append-drop at out) ∙
        ap₂ ◌++◌ (sym (append-nil (take at out)) ∙ ap (λ bs. take at out ++ bs) (sym over) ∙ w.written) w.rest ∙
        ap (λ (n : ℕ). all ++ drop n out₀) lined_length

  module _ (p : Room (length out₀) i left) where
    pub lined_there : at ≤ length out
    lined_there = omega (arith, w.place, w.long, p.lines)

    module _ (r : Run) (rs : List Run) (opened : left ≡ r ∷ rs) where
      here : Leads r rs
      here = leads r rs (ap runs_shaped (sym opened) ∙ p.shape)

      pub lined_some : 1 ≤ r.count
      lined_some = here.some

      many : length (references_of left) ≡ r.count + length (references_of rs)
      unfolding references_of
      many =
          ap (λ xs. length (references_of xs)) opened ∙
          length-append (references_in r) (references_of rs) ∙
          ap (λ (n : ℕ). n + length (references_of rs)) (repeated_length r.start.0 r.span.0 r.count)

      longer : length left ≡ length rs + 1
      longer = ap length opened ∙ sym (add-one (length rs))

      pub room_more : (next : ℕ) → next ≡ i + 1 → Room (length out₀) next rs
      room_more next e =
          record { shape = here.rest; few = omega (arith, many, p.few); lines = omega (arith, longer, p.lines) }

      time_small : (t : Bool) → cond t r.start.0 all_ones < 2 ^ 64
      time_small true = omega (arith, here.ends)
      time_small false = omega arith

      fits : Fits (s_frame (cond (eqb i 0) r.start.0 all_ones) r)
      fits = s_fits (cond (eqb i 0) r.start.0 all_ones) r (time_small (eqb i 0)) here.short (omega (arith, many, p.few))

      part_long : length (take (length out - at) (drop at out)) ≡ length out - at
      part_long = length-take (length out - at) (drop at out) ∙ omega (arith, length-drop at out)

      module _ (f : Frame) (e : f ≡ s_frame (cond (eqb i 0) r.start.0 all_ones) r) where
        pub lined_asks : Fits f × (line_length (kind_of f) < length (take (length out - at) (drop at out)))
        lined_asks =
            subst⁻¹ (λ g. Fits g × (line_length (kind_of g) < length (take (length out - at) (drop at out)))) e
            (fits, omega (arith, part_long, w.place, w.long, longer, p.lines))

        module _ (n : ℕ) (ys : List ℕ) (k : WrittenLine f (take (length out - at) (drop at out)) ys n) where
          step : n ≡ ended_length 2
          step = k.long ∙ ap (λ g. line_length (kind_of g) + 1) e

          pub lined_fits : length out₀ < 2 ^ 64 → FitsWord w64 (at + n)
          lined_fits b = record { fits = omega (arith, step, w.place, longer, p.lines) }

          front : length (take at out) ≡ at
          front = length-take at out ∙ omega (arith, lined_there)

          line_long : length (ended_line f) ≡ n
          line_long = length_ended f lined_asks.0 ∙ sym k.long

          now_bytes : put_mid at (length out - at) out ys ≡ (take at out ++ ended_line f) ++ drop n (drop at out)
          now_bytes =
              tail_put out (take at out) (drop at out) (ended_line f) ys at n (sym (take-append-drop at out)) front
              (k.bytes ∙ ap (λ (m : ℕ). ended_line f ++ drop m (take (length out - at) (drop at out))) (sym k.long))

          now_long : length (take at out ++ ended_line f) ≡ at + n
          now_long = omega (arith, length-append (take at out) (ended_line f), front, line_long)

          pub lined_more : length ys ≡ length (take (length out - at) (drop at out)) → (next : ℕ) → next ≡ i + 1 →
              Lined all out₀ (put_mid at (length out - at) out ys) (at + n) next rs
          unfolding bytes_of
          lined_more s next y =
              record {
                place = omega (arith, step, w.place);
                long = same_len_mid at (length out - at) out ys s ∙ w.long;
                written =
                    ap₂ ◌++◌ (ap (take (at + n)) now_bytes ∙ take_at (take at out ++ ended_line f) (drop n (drop at out)) (at + n) now_long) (ap (λ (m : ℕ). bytes_of (frames_left m rs)) y) ∙
                    append_assoc (take at out) (ended_line f) (bytes_of (frames_left (i + 1) rs)) ∙
                    ap (λ g. take at out ++ (ended_line g ++ bytes_of (frames_left (i + 1) rs))) e ∙
                    ap (λ fs. take at out ++ bytes_of fs) (sym (frames_more i r rs)) ∙
                    ap (λ xs. take at out ++ bytes_of (frames_left i xs)) (sym opened) ∙
                    w.written;
                rest =
                    ap (drop (at + n)) now_bytes ∙
                    drop_at (take at out ++ ended_line f) (drop n (drop at out)) (at + n) now_long ∙
                    ap (drop n) w.rest ∙
                    drop-drop n at out₀;
              }
