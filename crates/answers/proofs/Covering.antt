-- References that join cover one range of ticks, from where the first starts to where the last ends; and every needed tick of
-- a window lies below the window's bound.
use mathlib.Core.Path.{◌≡◌, sym, ap, ap₂, ◌∙◌}
use mathlib.Core.Bool.{true, ◌&&◌, ◌||◌}
use mathlib.Core.List.{List, [], ◌∷◌}
use Prim.Native.Nat.{ℕ, ◌+◌, ◌*◌, ◌≤◌, ◌<◌, min, max}
use native.Mathlib.Nat.{le-max_left, max-zero}
use native.Mathlib.Omega.{arith}
use borrow.Author.Tests.{ltb-true, le-leb}
use lib.Dec.{ltb}
use lib.IntN.{ℤ, pos, negsuc, nat_abs}
use lib.ListN.{length}
use lib.Signed.{lt_z}
use Rattle.units.proofs.Signed.{Is, up}
use Rattle.window.specs.declared.Head.{Head}
use Rattle.window.specs.declared.Reference.{Reference}
use Rattle.window.specs.Place.{place, later, earlier}
use Rattle.window.specs.References.{EndToStart, Each}
use Rattle.window.specs.Window.{Stretch, end_of, tick_needed}
use Rattle.window.proofs.Unsigned.{up_lt, later_up, earlier_up, place_is}
use Rattle.window.proofs.Ranges.{in_range_lem, before_range, range_cases}
use Rattle.runs.specs.Ends.{last_end, Within}
use Rattle.runs.proofs.EndToStart.{ticks_taken}
use Rattle.answers.specs.Cover.{covered_by}
use Rattle.answers.specs.Counts.{beyond}
use Rattle.answers.specs.Ranges.{in_range, Reach}
use Rattle.answers.proofs.Counting.{Below}

-- ---- what is covered

-- two ranges of which one ends where the other begins
ranges_join : (a b c k : ℕ) → a ≤ b → b ≤ c → (in_range a b k || in_range b c k) ≡ in_range a c k
ranges_join a b c k l m =
    range_cases a b k
    (λ t i j. ap (λ s. s || in_range b c k) t ∙ sym (in_range_lem a c k i (omega arith)))
    (λ t i. ap₂ ◌||◌ t (before_range b c k (omega arith)) ∙ sym (before_range a c k i))
    (λ t i. ap (λ s. s || in_range b c k) t ∙ ap (λ s. s && ltb k c) (le-leb b k i ∙ sym (le-leb a k (omega arith))))

-- THE LAW: joined references cover exactly the ticks from the first start up to the last end
joined_cover : (t : ℕ) (rs : List Reference) → EndToStart t rs → Each Within rs → (k : ℕ) → covered_by rs k ≡ in_range t (last_end t rs) k
unfolding covered_by last_end
joined_cover t [] j w k = range_cases t t k (λ s l m. let z : ⊥ = omega arith in absurd z) (λ s l. sym s) (λ s l. sym s)
joined_cover t (r ∷ rs) j w k =
    let l : end_of r + length rs ≤ last_end (end_of r) rs = ticks_taken (end_of r) rs j.1 w.1 in
    ap₂ ◌||◌ (ap (λ (s : ℕ). in_range s (end_of r) k) j.0) (joined_cover (end_of r) rs j.1 w.1 k) ∙
    ranges_join t (end_of r) (last_end (end_of r) rs) k (omega (arith, j.0)) (omega arith)

-- the same by their reach: of kept references, from the first start up to the next tick
pub reach_cover : (from to : ℕ) (rs : List Reference) → Reach from to rs → Each Within rs → (k : ℕ) → covered_by rs k ≡ in_range from to k
reach_cover from to rs r w k = joined_cover from rs r.joined w k ∙ ap (λ (e : ℕ). in_range from e k) r.ends

-- ---- what is needed

up_most : (z : ℤ) → up z ≤ nat_abs z
up_most (pos n) = omega arith
up_most (negsuc n) = omega arith

-- the later of a natural and a point is a natural, and no less
later_natural : (x : ℕ) (z : ℤ) → later (pos x) z ≡ pos (max x (up z))
later_natural x (pos y) = later_up (pos x) y
later_natural x (negsuc y) = ap pos (sym (max-zero x))

-- THE LAW: no window needs a tick at or past its bound
pub needed_below : (h : Head) (w : Stretch) → Below (tick_needed h w) (beyond h w)
needed_below h w k t = go (place h k) (place_is h k) t
  where
    go : (z : ℤ) → Is z (k * 1000) (h.offset.0 * 1000) → lt_z (later z w.from) (earlier (place h (k + 1)) w.to) ≡ true → k < beyond h w
    go (negsuc x) i u = omega (arith, i.same)
    go (pos x) i u =
        let m : ℕ = max x (up w.from) in
        let e : ltb m (min (up (place h (k + 1))) (up w.to)) ≡ true =
        sym (ap (λ y. lt_z y (earlier (place h (k + 1)) w.to)) (later_natural x w.from) ∙
        up_lt m (earlier (place h (k + 1)) w.to) ∙
        ap (ltb m) (earlier_up (place h (k + 1)) w.to)) ∙
        u
        in
        let l : m < min (up (place h (k + 1))) (up w.to) = ltb-true m (min (up (place h (k + 1))) (up w.to)) e in
        omega (arith, i.same, le-max_left x (up w.from), up_most w.to)
