-- The distance is right: by what a full tick and a stamp tell of a start, and by what the calls and a file pass on.
use mathlib.Core.Path.{◌≡◌, refl, sym, ap, ap₂, subst, subst⁻¹, ◌∙◌}
use mathlib.Core.Bool.{Bool, true, false, cond, ◌&&◌}
use mathlib.Core.List.{List, [], ◌∷◌}
use Prim.Native.Nat.{ℕ, ◌+◌, ◌-◌, ◌^◌, ◌%◌, ◌≤◌, ◌<◌}
use native.Mathlib.Omega.{arith}
use borrow.Author.Tests.{ltb-true, ltb-false, eqb-false}
use lib.Dec.{eqb, ltb}
use Rattle.units.specs.declared.Distance.{Distance}
use Rattle.units.specs.declared.Stamp.{Stamp}
use Rattle.units.specs.declared.Tick.{Tick}
use Rattle.units.specs.declared.WideTick.{WideTick}
use Rattle.units.specs.declared.standing.Standing.{Standing}
use Rattle.units.specs.declared.standing.Standing.TheVariants.{Gap, Overlap}
use Rattle.units.specs.Standing.{less32, standing_by, tick_standing, stamp_standing}
use Rattle.units.proofs.Stamps as units
use Rattle.window.specs.Place.{place, moment, period_end}
use Rattle.window.specs.Window.{low_edge}
use Rattle.runs.specs.Words.{runs_of, words_of, repeated, references_of}
use Rattle.runs.specs.Shape.{runs_shaped, zeros}
use Rattle.runs.specs.Ends.{last_end}
use Rattle.runs.specs.Encoding.{push, encode, table_of}
use Rattle.agreement.specs.declared.Record.{Record}
use Rattle.agreement.specs.Agreement.{every, agrees}
use Rattle.std.specs.Prelude.{None, Ok, Some}
use Rattle.keeping.specs.Keeping.{Outcome}
use Rattle.keeping.specs.Keeping.{unspent, changed_by, words_by}
use Rattle.keeping.specs.Append.{room_outcome, fit_outcome}
use Rattle.keeping.proofs.Outcomes.{outcome_beside as told, number_accepted}
use Rattle.timeline.specs.Opening.{open_outcome}
use Rattle.timeline.specs.Appending.{append_outcome}
use Rattle.hexdigits.specs.Digits as hex
use Rattle.hexdigits.specs.Ascii.{ascii}
use Rattle.frames.specs.Fields as fields
use Rattle.frames.specs.Frames as frames
use Rattle.frames.specs.declared.Frame.TheVariants.{S}
use Rattle.frames.specs.declared.SFields.{SFields}
use Rattle.file.specs.Lines.{lines_from, rest_from}
use Rattle.file.specs.Least.{least_from, least_count}
use Rattle.file.specs.Judging as judging
use Rattle.lookups.specs.Stamps.{full_tick_in}
use Rattle.laws.specs.Calls.{State, opening}
use Rattle.laws.specs.Refusals.{lowest, distance_with, over_limit}
use Rattle.laws.specs.Lines.{start_of, opening_tick, Sofar, appended_rows, is_first, timeline_for, s_rows, line_distance}
use Rattle.laws.specs.ByHand.{stamp, apart, append_of}
use Rattle.laws.specs.Distance.{OnlyApart, DistanceRight}
use Rattle.laws.proofs.Distances.{Far, Told, tick_far, stamp_far, append_told, pair_told}
use Rattle.laws.proofs.LineByLine.{open_number, opened}
use Rattle.laws.proofs.Reading.{distance_sure}
use Rattle.laws.proofs.Stamps.{distance_shows, full_tick_right}
use Rattle.laws.proofs.ByHand.{by_hand}

-- ---- a full tick

module _ (start : WideTick) (next : Tick) (d : Distance) where
  gap_only : tick_standing start next ≡ Gap d → (start.0 ≡ next.0 + d.0) × (1 ≤ d.0)
  gap_only e =
      let f = subst (λ st. Far st (start.0 - next.0) (next.0 - start.0)) e (tick_far start next) in
      (omega (arith, f.0, f.1), f.1)

  gap_if : (start.0 ≡ next.0 + d.0) × (1 ≤ d.0) → tick_standing start next ≡ Gap d
  gap_if (e, l) =
      sym (units.tick_gap start next (λ (z : start.0 ≡ next.0). let w : ⊥ = omega arith in w) (omega arith)) ∙
      ap (λ (n : ℕ). Gap (record { 0 = n })) (let same : start.0 - next.0 ≡ d.0 = omega arith in same)

  overlap_only : tick_standing start next ≡ Overlap d → (start.0 + d.0 ≡ next.0) × (1 ≤ d.0)
  overlap_only e =
      let f = subst (λ st. Far st (start.0 - next.0) (next.0 - start.0)) e (tick_far start next) in
      (omega (arith, f.0, f.1), f.1)

  overlap_if : (start.0 + d.0 ≡ next.0) × (1 ≤ d.0) → tick_standing start next ≡ Overlap d
  overlap_if (e, l) =
      sym (units.tick_overlap start next (λ (z : start.0 ≡ next.0). let w : ⊥ = omega arith in w) (omega arith)) ∙
      ap (λ (n : ℕ). Overlap (record { 0 = n })) (let same : next.0 - start.0 ≡ d.0 = omega arith in same)

-- ---- a stamp

-- the distance of a stamp and the next tick together come round to the stamp, and the rest of the circle back to the tick
comes_back : (a b : ℕ) → a < 2 ^ 32 → (a + (2 ^ 32 - less32 a b)) % 2 ^ 32 ≡ b % 2 ^ 32
unfolding less32
comes_back a b l = omega arith

module _ (s : Stamp) (next : Tick) (d : Distance) (small : s.0 < 2 ^ 32) where
  abbrev ahead : ℕ
  ahead = less32 s.0 next.0

  abbrev standing : Bool → Bool → Standing
  standing j g = standing_by j g ahead (2 ^ 32 - ahead)

  stamp_gap_only : stamp_standing s next ≡ Gap d → (s.0 ≡ (next.0 + d.0) % 2 ^ 32) × (1 ≤ d.0) × (d.0 < 2 ^ 31)
  stamp_gap_only = go (eqb ahead 0) refl (ltb ahead (2 ^ 31)) refl
    where
      go : (j : Bool) → eqb ahead 0 ≡ j → (g : Bool) → ltb ahead (2 ^ 31) ≡ g → standing j g ≡ Gap d →
          (s.0 ≡ (next.0 + d.0) % 2 ^ 32) × (1 ≤ d.0) × (d.0 < 2 ^ 31)
      go true p g q e = cc
      go false p true q e =
          let same : ahead ≡ d.0 = cc in
          let some : ahead ≡ 0 → ⊥ = eqb-false ahead 0 p in
          let less : ahead < 2 ^ 31 = ltb-true ahead (2 ^ 31) q in
          (sym (distance_shows s.0 next.0 small) ∙ ap (λ (n : ℕ). (next.0 + n) % 2 ^ 32) same, omega arith, omega arith)
      go false p false q e = cc

  stamp_overlap_only : stamp_standing s next ≡ Overlap d → ((s.0 + d.0) % 2 ^ 32 ≡ next.0 % 2 ^ 32) × (1 ≤ d.0) × (d.0 ≤ 2 ^ 31)
  stamp_overlap_only e = (
    ap (λ (n : ℕ). (s.0 + n) % 2 ^ 32) (sym (behind_is e).0) ∙ comes_back s.0 next.0 small,
    (subst (λ st. Far st ahead (less32 next.0 s.0)) e (stamp_far s next small)).1,
    (behind_is e).1,
  )
    where
      behind_is : stamp_standing s next ≡ Overlap d → (2 ^ 32 - ahead ≡ d.0) × (d.0 ≤ 2 ^ 31)
      behind_is = go (eqb ahead 0) (ltb ahead (2 ^ 31)) refl
        where
          go : (j g : Bool) → ltb ahead (2 ^ 31) ≡ g → standing j g ≡ Overlap d → (2 ^ 32 - ahead ≡ d.0) × (d.0 ≤ 2 ^ 31)
          go true g q f = cc
          go false true q f = cc
          go false false q f =
              let same : 2 ^ 32 - ahead ≡ d.0 = cc in
              let more : 2 ^ 31 ≤ ahead = ltb-false ahead (2 ^ 31) q in
              (same, omega arith)

  stamp_gap_if : (s.0 ≡ (next.0 + d.0) % 2 ^ 32) × (1 ≤ d.0) × (d.0 < 2 ^ 31) → stamp_standing s next ≡ Gap d
  stamp_gap_if (e, l, m) =
      sym (units.stamp_gap d.0 s next (units.less32_unique d.0 s.0 next.0 (omega arith) (omega arith)) (λ (z : d.0 ≡ 0). let w : ⊥ = omega arith in w) m)

  stamp_overlap_if : ((s.0 + d.0) % 2 ^ 32 ≡ next.0 % 2 ^ 32) × (1 ≤ d.0) × (d.0 ≤ 2 ^ 31) → stamp_standing s next ≡ Overlap d
  stamp_overlap_if (e, l, m) =
      let x : ℕ = 2 ^ 32 - d.0 in
      sym (units.stamp_overlap x s next (units.less32_unique x s.0 next.0 (omega arith) (omega arith)) (λ (z : x ≡ 0). let w : ⊥ = omega arith in w) (omega arith)) ∙
      ap (λ (n : ℕ). Overlap (record { 0 = n })) (let same : 2 ^ 32 - x ≡ d.0 = omega arith in same)

-- ---- a tick and its stamp

stamp_half : (start : WideTick) (next : Tick) → start.0 ≡ next.0 + 2 ^ 31 →
    (tick_standing start next ≡ Gap (apart (2 ^ 31))) × (stamp_standing (stamp (start.0 % 2 ^ 32)) next ≡ Overlap (apart (2 ^ 31)))
stamp_half start next e = (
  gap_if start next (apart (2 ^ 31)) (e, omega arith),
  stamp_overlap_if (stamp (start.0 % 2 ^ 32)) next (apart (2 ^ 31)) (omega arith) (omega arith, omega arith, omega arith),
)

passed_by : (rec : Record) (ws : List ℕ) (s : Stamp) (d : Distance) → s.0 < 2 ^ 32 → agrees rec ws ≡ true →
    stamp_standing s rec.next ≡ Overlap d → rec.next.0 < d.0 → full_tick_in rec ws s ≡ Ok None
passed_by rec ws s d small a e l =
    let o = stamp_overlap_only s rec.next d small e in
    (full_tick_right.nowhere rec ws s small a).if (λ t p. none t.0 s.0 d.0 rec.next.0 p.low o.0 o.2 p.ahead l)
  where
    none : (t s d n : ℕ) → t % 2 ^ 32 ≡ s → (s + d) % 2 ^ 32 ≡ n % 2 ^ 32 → d ≤ 2 ^ 31 → t < n + 2 ^ 31 → n < d → ⊥
    none t s d n e f b c l = omega arith

-- ---- what is passed on

only_apart : (o : Outcome) (new old : Record) (a b : ℕ) → Told o a b → OnlyApart (changed_by o new old).outcome
only_apart o new old a b t = subst⁻¹ OnlyApart (told o new old) t.some

-- the first S starts where the timeline opens
module _ (came : List ℕ) (x : Sofar) (s : SFields) (e : is_first x ≡ true) where
  abbrev over : Bool
  over = over_limit x.head (opening_tick s)

  is_opening : timeline_for came x s ≡ opening x.head (opening_tick s) came
  is_opening = ap (λ b. cond b (opening x.head (opening_tick s) came) x.timeline) e

  abbrev start_from : ℕ → ℕ
  start_from next = start_of next s

  joins : (number : ℕ) → open_outcome x.head (opening_tick s) ≡ Ok tt → line_distance came x (Some (S s)) number ≡ 0
  joins number o =
      ap (λ (y : State). let next = y.rec.next.0 in distance_with number (start_from next - next) (next - start_from next)) (is_opening ∙ opened came x.head s o) ∙
      ap₂ (distance_with number) (apart_by (judging.absent s.t)).0 (apart_by (judging.absent s.t)).1 ∙
      none number
    where
      -- both where t is absent and where it is not
      apart_by : (b : Bool) → (cond b (cond b 0 s.t.0) s.t.0 - cond b 0 s.t.0 ≡ 0) × (cond b 0 s.t.0 - cond b (cond b 0 s.t.0) s.t.0 ≡ 0)
      apart_by true = (refl, refl)
      apart_by false = (omega arith, omega arith)

      none : (n : ℕ) → distance_with n 0 0 ≡ 0
      none n = go (eqb n 4) (eqb n 5)
        where
          go : (a b : Bool) → cond {A = ℕ} a 0 (cond b 0 0) ≡ 0
          go true b = refl
          go false true = refl
          go false false = refl

  first_none : line_distance came x (Some (S s)) (lowest (s_rows came x s)) ≡ 0
  first_none = go over refl
    where
      go : (b : Bool) → over ≡ b → line_distance came x (Some (S s)) (lowest (s_rows came x s)) ≡ 0
      go true o = ap₂ (λ f g. line_distance came x (Some (S s)) (lowest ((f && g, 1) ∷ appended_rows (timeline_for came x s) s))) e o
      go false o =
          joins (lowest (s_rows came x s))
          (number_accepted (open_outcome x.head (opening_tick s)) (sym (open_number x.head (opening_tick s)) ∙ ap (λ b. lowest ((b, 1) ∷ [])) o))

pub distance_right : DistanceRight
unfolding agrees runs_of words_of repeated references_of runs_shaped zeros last_end every place moment period_end low_edge push encode table_of unspent changed_by words_by open_outcome room_outcome fit_outcome append_outcome less32 hex.between hex.is_digit hex.value_of hex.are_digits hex.number_of fields.field_values frames.frame_as frames.frame_of ascii lines_from rest_from least_from least_count judging.settled_reading judging.reach_outcome judging.reaches_by judging.take_s judging.take_first_s judging.take_head judging.take_end judging.on_nothing judging.on_headed judging.on_open judging.on_filled judging.take_line judging.take_lines judging.read_lines judging.read_outcome judging.read_answer judging.read_table
distance_right =
    record {
      tick_gap = λ start next d. record { only = gap_only start next d; if = gap_if start next d };
      tick_overlap = λ start next d. record { only = overlap_only start next d; if = overlap_if start next d };
      stamp_gap = λ s next d small. record { only = stamp_gap_only s next d small; if = stamp_gap_if s next d small };
      stamp_overlap = λ s next d small. record { only = stamp_overlap_only s next d small; if = stamp_overlap_if s next d small };
      within = λ start next l h. units.stamp_tells start next h l;
      half = stamp_half;
      no_tick = passed_by;
      append = λ rec ws start d n. only_apart _ _ _ _ _ (append_told _ _ rec ws (tick_standing start rec.next) d n (tick_far start rec.next));
      append_stamp = λ rec ws s d n small.
          only_apart _ _ _ _ _ (append_told _ _ rec ws (stamp_standing s rec.next) d n (stamp_far s rec.next small));
      append_trim = λ rec ws s d n c small.
          only_apart _ _ _ _ _ (pair_told _ _ rec ws (stamp_standing s rec.next) d n (stamp_far s rec.next small) c);
      read = distance_sure;
      first = first_none;
      a_none = ap (λ s. append_of s 170 0 1) by_hand.a_state;
      a_overlap = ap (λ s. append_of s 151 10 1) by_hand.a_state;
      b_below = refl;
      b_nowhere = full_tick_right.b_below;
      far = refl;
      far_file = refl;
    }
