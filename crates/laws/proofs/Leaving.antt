-- What is left of accepted references at a clock: of what was left before, the same, and exactly those that are still needed.
use mathlib.Core.Path.{◌≡◌, refl, sym, ap, subst⁻¹, ◌∙◌}
use mathlib.Core.Bool.{Bool, true, false, cond, and-eq-true_iff, true≢false}
use mathlib.Core.List.{List, [], ◌∷◌}
use Prim.Native.Nat.{ℕ, zero, suc, ◌+◌, ◌-◌, ◌/◌, ◌≤◌, max}
use native.Mathlib.Nat.{sub_self, le_trans}
use native.Mathlib.Omega.{arith}
use lib.ListN.{length, get_or, take, drop, length-drop}
use Rattle.window.specs.declared.Head.{Head}
use Rattle.window.specs.declared.Reference.{Reference}
use Rattle.window.specs.Place.{before_end}
use Rattle.window.specs.Window.{end_of, passed}
use Rattle.window.specs.References.{EndToStart, Each, Sound}
use Rattle.window.proofs.Spending.{passed_later, passed_spent, yet_needed}
use Rattle.runs.specs.Words.{repeated, kept_in}
use Rattle.runs.specs.Encoding.{runs_for, canonical}
use Rattle.runs.specs.Ends.{last_end}
use Rattle.runs.proofs.Encoded.{runs_drop}
use Rattle.runs.proofs.EndToStart.{join_drop, kept_join}
use Rattle.runs.proofs.Tables.{canonical_kept, runs_for_kept, used_fits}
use Rattle.agreement.specs.declared.Record.{Record}
use Rattle.agreement.specs.Agreement.{kept, every, agrees}
use Rattle.agreement.proofs.Agreeing.{agree_shaped}
use Rattle.keeping.specs.Keeping.{unspent}
use Rattle.keeping.proofs.Unspent.{unspent_suffix}
use Rattle.timeline.specs.Trimming.{unspent_at}
use Rattle.laws.specs.History.{StillNeeded, Picked, end, kept_one, left_out}

pub unspent_raised : (h : Head) (c d : ℕ) → c ≤ d → (rs : List Reference) → unspent h d (unspent h c rs) ≡ unspent h d rs
unfolding unspent
unspent_raised h c d l [] = refl
unspent_raised h c d l (r ∷ rs) = go (passed h (end_of r) c) refl (unspent_raised h c d l rs)
  where
    go : (t : Bool) → passed h (end_of r) c ≡ t → unspent h d (unspent h c rs) ≡ unspent h d rs →
        unspent h d (cond t (unspent h c rs) (r ∷ unspent h c rs)) ≡ cond (passed h (end_of r) d) (unspent h d rs) (r ∷ unspent h d rs)
    go true e k = k ∙ sym (ap (λ u. cond u (unspent h d rs) (r ∷ unspent h d rs)) (passed_later h (end_of r) c d l e))
    go false e k = ap (λ xs. cond (passed h (end_of r) d) xs (r ∷ xs)) k

-- what is left of joined references stands behind the rest, joins, takes no more runs, and its canonical table keeps just it
module _ (h : Head) (c t : ℕ) (rs : List Reference) (joined : EndToStart t rs) where
  pub left_suffix : (n : ℕ) × (unspent h c rs ≡ drop n rs)
  left_suffix = unspent_suffix h c t rs joined

  left_joined : EndToStart (last_end t (take left_suffix.0 rs)) (unspent h c rs)
  left_joined = subst⁻¹ (EndToStart (last_end t (take left_suffix.0 rs))) left_suffix.1 (join_drop left_suffix.0 t rs joined)

  pub left_fewer : runs_for (unspent h c rs) ≤ runs_for rs
  left_fewer = subst⁻¹ (λ xs. runs_for xs ≤ runs_for rs) left_suffix.1 (runs_drop left_suffix.0 rs)

  pub left_kept : (words : ℕ) → kept_in (runs_for (unspent h c rs)) (canonical words (unspent h c rs)) ≡ unspent h c rs
  left_kept words = canonical_kept (last_end t (take left_suffix.0 rs)) words (unspent h c rs) left_joined

-- what a trim leaves finds room in the table that it came from
pub trim_room : (rec : Record) (ws : List ℕ) → agrees rec ws ≡ true → (c : ℕ) → runs_for (unspent_at rec ws c) ≤ length ws / 3
trim_room rec ws a c =
    let t = agree_shaped rec ws a in
    le_trans (left_fewer rec.head (max rec.clock.0 c) (get_or ws 0 0) (kept rec ws) (kept_join rec.used ws t))
    (subst⁻¹ (λ (n : ℕ). n ≤ length ws / 3) (runs_for_kept rec.used ws t) (used_fits rec.used ws t))

-- references that start before the period end and last
pub each_sound : (h : Head) (d : ℕ) → 1 ≤ d → (s n : ℕ) → every (λ r. before_end h r.start.0) (repeated s d n) ≡ true → Each (Sound h) (repeated s d n)
unfolding repeated every
each_sound h d l s zero b = tt
each_sound h d l s (suc n) b =
    let k = (and-eq-true_iff (before_end h s) (every (λ r. before_end h r.start.0) (repeated (s + d) d n))).0 b in
    (record { lasts = l; begins = k.0 }, each_sound h d l (s + d) n k.1)

-- a suffix stands behind as many as it lacks
pub drop_counted : (n : ℕ) (rs : List Reference) → drop n rs ≡ drop (length rs - length (drop n rs)) rs
drop_counted zero rs = ap (λ (k : ℕ). drop k rs) (sym (sub_self (length rs)))
drop_counted (suc n) [] = refl
drop_counted (suc n) (r ∷ rs) =
    let few : length (drop n rs) ≤ length rs = omega (arith, length-drop n rs) in
    let one : suc (length rs - length (drop n rs)) ≡ suc (length rs) - length (drop n rs) = omega arith in
    drop_counted n rs ∙ ap (λ (k : ℕ). drop k (r ∷ rs)) one

-- what is left is what is still needed
pub still : (h : Head) (c : ℕ) → 1 ≤ h.timescale.0 → (rs : List Reference) → Each (Sound h) rs → Picked (StillNeeded h c) rs (unspent h c rs)
unfolding unspent
still h c l [] s = end
still h c l (r ∷ rs) s = go (passed h (end_of r) c) refl (still h c l rs s.1)
  where
    go : (b : Bool) → passed h (end_of r) c ≡ b → Picked (StillNeeded h c) rs (unspent h c rs) →
        Picked (StillNeeded h c) (r ∷ rs) (cond b (unspent h c rs) (r ∷ unspent h c rs))
    go true e k = left_out (λ w. true≢false (sym w.2 ∙ passed_spent h r c e w.0 w.1)) k
    go false e k = kept_one (yet_needed h r c l s.0.lasts s.0.begins e) k
