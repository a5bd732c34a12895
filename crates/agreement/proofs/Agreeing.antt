-- Agreement, from the pass over the words and the tests of what it found; and what agreement gives.
use mathlib.Core.Path.{◌≡◌, refl, sym, ap, ap₂, subst⁻¹, ◌∙◌}
use mathlib.Core.Bool.{Bool, true, false, cond, ◌&&◌, not, and-false, and-eq-true_iff}
use mathlib.Core.List.{List, [], ◌∷◌}
use Prim.Native.Nat.{ℕ, ◌-◌, ◌*◌, ◌/◌, ◌≤◌, ◌<◌}
use borrow.Author.Tests.{eqb-true, le-leb, lt-leb}
use lib.Dec.{eqb}
use lib.ListN.{length, take, drop}
use Rattle.window.specs.declared.Reference.{Reference}
use Rattle.window.specs.Limits.{Held}
use Rattle.window.specs.Place.{before_end}
use Rattle.window.specs.Window.{end_of, passed}
use Rattle.window.specs.References.{EndToStart, Each}
use Rattle.runs.specs.declared.Run.{Run}
use Rattle.runs.specs.Words.{runs_of, references_of}
use Rattle.runs.specs.Shape.{runs_shaped, zeros, shaped}
use Rattle.std.specs.Prelude.{◌==◌}
use Rattle.std.specs.List.{list_all}
use Rattle.std.proofs.lemmas.List.{take_rest}
use Rattle.agreement.proofs.Zeros.{all_zeros}
use Rattle.runs.specs.Ends.{last_end, Within}
use Rattle.runs.proofs.EndToStart.{references_join, references_within, kept_within}
use Rattle.agreement.specs.declared.Record.{Record}
use Rattle.agreement.specs.declared.Found.{Found}
use Rattle.agreement.specs.declared.Found.TheVariants.{Unshaped}
use Rattle.agreement.specs.Agreement.{kept, every, record_held, kept_right, agrees}
use Rattle.agreement.specs.Finding.{last_of, summary, found, Sized, found_right}
use Rattle.agreement.proofs.Judging.{right_is, HeldRecord, record_facts}

-- ---- what is found is within the limits

last_within : (r : Reference) (rs : List Reference) → Each Within (r ∷ rs) → Within (last_of r rs)
unfolding last_of
last_within r [] w = w.0
last_within r (x ∷ xs) w = last_within x xs w.1

summary_sized : (rs : List Reference) → Each Within rs → Sized (summary rs)
summary_sized [] w = tt
summary_sized (r ∷ rs) w = (w.0, last_within r rs w)

found_sized : (rs : List Run) → Sized (found rs)
found_sized rs = go (runs_shaped rs) refl
  where
    go : (t : Bool) → runs_shaped rs ≡ t → Sized (cond t (summary (references_of rs)) Unshaped)
    go true e = summary_sized (references_of rs) (references_within rs e)
    go false e = tt

pub is_sized : (x : Found) (rs : List Run) → x ≡ found rs → Sized x
is_sized x rs e = subst⁻¹ Sized e (found_sized rs)

-- references of shaped runs join, from wherever the first starts
some_join : (rs : List Run) → runs_shaped rs ≡ true → (t : ℕ) × EndToStart t (references_of rs)
some_join [] u = (0, references_join 0 [] u tt)
some_join (x ∷ xs) u = (x.start.0, references_join x.start.0 (x ∷ xs) u refl)

-- ---- the code's steps

module _ (rec : Record) (ws : List ℕ) (t : Bool) (h : t ≡ record_held rec) where
  pub not_held : t ≡ false → false ≡ agrees rec ws
  unfolding agrees
  not_held n = sym (ap (λ a. a && shaped rec.used ws && kept_right rec (kept rec ws)) (sym h ∙ n))

  module _ (n : t ≡ true) where
    pub is_held : record_held rec ≡ true
    is_held = sym h ∙ n

    pub no_capacity : length ws / 3 < rec.used → false ≡ agrees rec ws
    unfolding agrees
    no_capacity l =
        sym
        (ap₂ (λ a b. a && (b && runs_shaped (runs_of rec.used ws) && zeros (drop (3 * rec.used) ws)) && kept_right rec (kept rec ws))
        is_held
        (lt-leb rec.used (length ws / 3) l))

    module _ (l : rec.used ≤ length ws / 3) (z : Bool) (k : z ≡ list_all (λ w. w == 0) (take (length ws - 3 * rec.used) (drop (3 * rec.used) ws))) where
      agrees_by : agrees rec ws ≡ ((runs_shaped (runs_of rec.used ws) && z) && kept_right rec (kept rec ws))
      unfolding agrees
      agrees_by =
          ap₂ (λ a b. a && (b && runs_shaped (runs_of rec.used ws) && zeros (drop (3 * rec.used) ws)) && kept_right rec (kept rec ws))
          is_held
          (le-leb rec.used (length ws / 3) l) ∙
          ap (λ b. (runs_shaped (runs_of rec.used ws) && b) && kept_right rec (kept rec ws)) (sym (k ∙ ap (list_all (λ w. w == 0)) (take_rest ws (3 * rec.used)) ∙ all_zeros (drop (3 * rec.used) ws)))

      pub not_zeros : z ≡ false → z ≡ agrees rec ws
      not_zeros m = m ∙ sym (agrees_by ∙ ap (λ b. b && kept_right rec (kept rec ws)) (ap (λ b. runs_shaped (runs_of rec.used ws) && b) m ∙ and-false (runs_shaped (runs_of rec.used ws))))

      pub agrees_found : z ≡ true → (x : Found) → x ≡ found (runs_of rec.used ws) → (b : Bool) → b ≡ found_right rec x → b ≡ agrees rec ws
      agrees_found m x e b f = f ∙ ap (found_right rec) e ∙ go (runs_shaped (runs_of rec.used ws)) refl ∙ sym agrees_by
        where
          go : (s : Bool) → runs_shaped (runs_of rec.used ws) ≡ s →
              found_right rec (cond s (summary (kept rec ws)) Unshaped) ≡ ((s && z) && kept_right rec (kept rec ws))
          go true u =
              let j = some_join (runs_of rec.used ws) u in
              right_is rec j.0 (kept rec ws) j.1 ∙ ap (λ c. c && kept_right rec (kept rec ws)) (sym m)
          go false u = refl

-- ---- what agreement gives

module _ (rec : Record) (ws : List ℕ) (a : agrees rec ws ≡ true) where
  parts : ((record_held rec && shaped rec.used ws) ≡ true) × (kept_right rec (kept rec ws) ≡ true)
  unfolding agrees
  parts = (and-eq-true_iff (record_held rec && shaped rec.used ws) (kept_right rec (kept rec ws))).0 a

  agree_held : record_held rec ≡ true
  agree_held = ((and-eq-true_iff (record_held rec) (shaped rec.used ws)).0 parts.0).0

  pub agree_shaped : shaped rec.used ws ≡ true
  agree_shaped = ((and-eq-true_iff (record_held rec) (shaped rec.used ws)).0 parts.0).1

  pub agree_within : Each Within (kept rec ws)
  agree_within = kept_within rec.used ws agree_shaped

  agree_kept : kept_right rec (kept rec ws) ≡ true
  agree_kept = parts.1

  pub agree_head : Held rec.head
  agree_head = (record_facts rec agree_held).head

-- the paper's list, item by item
pub record Agreeing (rec : Record) (ws : List ℕ) : Type 0 where
  pub held : HeldRecord rec
  pub table : shaped rec.used ws ≡ true
  pub total : length (kept rec ws) ≡ rec.accepted - rec.dropped
  pub ends : last_end rec.next.0 (kept rec ws) ≡ rec.next.0
  pub coming : every (λ r. not (passed rec.head (end_of r) rec.clock.0)) (kept rec ws) ≡ true
  pub begun : every (λ r. before_end rec.head r.start.0) (kept rec ws) ≡ true

pub agreeing : (rec : Record) (ws : List ℕ) → agrees rec ws ≡ true → Agreeing rec ws
agreeing rec ws a =
    let rs = kept rec ws in
    let counts = eqb (length rs) (rec.accepted - rec.dropped) in
    let ends = eqb (last_end rec.next.0 rs) rec.next.0 in
    let coming = every (λ r. not (passed rec.head (end_of r) rec.clock.0)) rs in
    let begun = every (λ r. before_end rec.head r.start.0) rs in
    let x = (and-eq-true_iff (counts && ends && coming) begun).0 (agree_kept rec ws a) in
    let y = (and-eq-true_iff (counts && ends) coming).0 x.0 in
    let z = (and-eq-true_iff counts ends).0 y.0 in
    record {
      held = record_facts rec (agree_held rec ws a);
      table = agree_shaped rec ws a;
      total = eqb-true (length rs) (rec.accepted - rec.dropped) z.0;
      ends = eqb-true (last_end rec.next.0 rs) rec.next.0 z.1;
      coming = y.1;
      begun = x.1;
    }

-- and from the items
pub agrees_from : (rec : Record) (ws : List ℕ) → record_held rec ≡ true → shaped rec.used ws ≡ true → kept_right rec (kept rec ws) ≡ true →
    agrees rec ws ≡ true
unfolding agrees
agrees_from rec ws h s k = ap₂ ◌&&◌ (ap₂ ◌&&◌ h s) k
