-- What stays after an accepted trim covers what is needed, by one law of the window: a reference in which a needed tick lies is needed itself.
use mathlib.Core.Path.{◌≡◌, refl, sym, ap, ap₂, fun_ext, subst, ◌∙◌}
use mathlib.Core.Bool.{Bool, true, false, ◌&&◌, ◌||◌, not}
use mathlib.Core.List.{List}
use Prim.Native.Nat.{ℕ, ◌≤◌, max}
use Rattle.units.specs.declared.WideMillis.{WideMillis}
use Rattle.window.specs.declared.Head.{Head}
use Rattle.window.specs.declared.Reference.{Reference}
use Rattle.window.specs.Window.{window_at, end_of, tick_needed}
use Rattle.window.proofs.Ranges.{range_first, range_last}
use Rattle.window.proofs.Spending.{tick_needs}
use Rattle.agreement.specs.Agreement.{agrees}
use Rattle.std.specs.Prelude.{Ok}
use Rattle.timeline.specs.Trimming.{trim_outcome}
use Rattle.timeline.proofs.Kept.{trim_passed}
use Rattle.answers.specs.Cover.{covers, covered_by}
use Rattle.answers.specs.Counts.{count_below, least_below, beyond, needed_count}
use Rattle.answers.specs.Judgement.{judged, verdict_of}
use Rattle.answers.proofs.Counting.{refuted}
use Rattle.laws.specs.Calls.{State}
use Rattle.laws.specs.History.{StillNeeded, Picked, end, kept_one, left_out, kept_by}
use Rattle.laws.specs.Spent.{Keeps}
use Rattle.laws.proofs.Calling.{trim_leaves, trim_done}
use Rattle.laws.proofs.Spent.{only_spent}

-- ---- references that stay cover what is needed

module _ (h : Head) (c d : ℕ) (l : c ≤ d) where
  -- THE LAW: of references, those that are still needed at clock c cover each tick that is needed at clock d
  pub picked_cover : (k : ℕ) → tick_needed h (window_at h d) k ≡ true → {all stay : List Reference} → Picked (StillNeeded h c) all stay → covered_by stay k ≡ covered_by all k
  unfolding covered_by
  picked_cover k t end = refl
  picked_cover k t (kept_one {r = r} p ps) = ap (λ b. covers r k || b) (picked_cover k t ps)
  picked_cover k t (left_out {r = r} {xs = rs} n ps) =
      picked_cover k t ps ∙
      ap (λ b. b || covered_by rs k)
      (sym (refuted (covers r k) (λ q. n (d, l, tick_needs h r k d (range_first r.start.0 (end_of r) k q) (range_last r.start.0 (end_of r) k q) t))))

  -- so the counts are the same, and the lowest tick
  pub picked_verdict : {all stay : List Reference} → Picked (StillNeeded h c) all stay → verdict_of h (window_at h d) stay ≡ verdict_of h (window_at h d) all
  picked_verdict {all} {stay} p =
      ap₂ (λ (q r : ℕ → Bool). judged (needed_count h (window_at h d)) (count_below q (beyond h (window_at h d))) (least_below r (beyond h (window_at h d))))
      (fun_ext (λ k. by_need k (tick_needed h (window_at h d) k) refl (λ b. b)))
      (fun_ext (λ k. by_need k (tick_needed h (window_at h d) k) refl not))
    where
      by_need : (k : ℕ) (t : Bool) → tick_needed h (window_at h d) k ≡ t → (f : Bool → Bool) → (t && f (covered_by stay k)) ≡ (t && f (covered_by all k))
      by_need k true e f = ap f (picked_cover k e p)
      by_need k false e f = refl

-- ---- a trim that is accepted

module _ (s : State) (c : WideMillis) where
  pub record Accepts : Type 0 where
    pub agreed : agrees s.rec s.words ≡ true
    pub leaves : agrees (trim_leaves s c).rec (trim_leaves s c).words ≡ true
    pub stays : Picked (StillNeeded s.rec.head (max s.rec.clock.0 c.0)) (kept_by s) (kept_by (trim_leaves s c))

  pub accepts : trim_outcome s.rec s.words c ≡ Ok tt → Accepts
  accepts o =
      let k = subst (λ x. Keeps s x (max s.rec.clock.0 c.0) (kept_by s)) (trim_done s c o) (only_spent.trim s c o) in
      record { agreed = (trim_passed s.rec s.words c o).0; leaves = k.settled.agreed; stays = k.exactly }

  -- so at a clock not before either the references that it leaves cover what all did, and the verdict is the same
  module _ (a : Accepts) (d : ℕ) (l : max s.rec.clock.0 c.0 ≤ d) where
    pub still_covered : (k : ℕ) → tick_needed s.rec.head (window_at s.rec.head d) k ≡ true → covered_by (kept_by (trim_leaves s c)) k ≡ covered_by (kept_by s) k
    still_covered k t = picked_cover s.rec.head (max s.rec.clock.0 c.0) d l k t a.stays

    pub still_judged : verdict_of s.rec.head (window_at s.rec.head d) (kept_by (trim_leaves s c)) ≡ verdict_of s.rec.head (window_at s.rec.head d) (kept_by s)
    still_judged = picked_verdict s.rec.head (max s.rec.clock.0 c.0) d l a.stays
