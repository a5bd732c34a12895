-- The points of availability, moved on by the offset: naturals that the code adds up, and signed grains that the
-- definitions name.
use mathlib.Core.Path.{◌≡◌, sym, ap, ap₂, ◌∙◌}
use mathlib.Core.Bool.{Bool, true, cond, ◌&&◌}
use Prim.Native.Nat.{ℕ, ◌+◌, ◌*◌, ◌≤◌, ◌<◌}
use native.Mathlib.Omega.{arith}
use borrow.Author.Tests.{le-leb, lt-leb, eq-eqb, ne_eqb}
use lib.Dec.{leb, ltb, eqb}
use lib.IntN.{ℤ, pos, ◌+ℤ◌, ◌-ℤ◌}
use lib.Signed.{le_z, lt_z}
use Rattle.units.specs.Product.{Product}
use Rattle.units.specs.declared.Grain.{Grain}
use Rattle.units.proofs.Signed.{Is, is_pos, is_less, is_add, is_moved, is_unique, le_is, lt_is, same_leb, same_ltb}
use Rattle.units.proofs.Guards.{same, other}
use Rattle.window.specs.declared.Head.{Head}
use Rattle.window.specs.declared.Reference.{Reference}
use Rattle.window.specs.Place.{place}
use Rattle.window.specs.Window.{end_of}
use Rattle.window.proofs.Unsigned.{place_is}
use Rattle.lookups.specs.declared.Availability.TheVariants as answer
use Rattle.lookups.specs.Available.{lasting, available_from, available_upto, availability_of, available}
use Rattle.lookups.specs.Steps.{Begins, Stops}

-- ---- the points

module _ (h : Head) (r : Reference) where
  from_is : Is (available_from h r) (h.start.0 * h.timescale.0 + end_of r * 1000) (h.offset.0 * 1000)
  from_is =
      is_moved (available_from h r) (h.start.0 * h.timescale.0 + end_of r * 1000) (0 + h.offset.0 * 1000) _ (h.offset.0 * 1000) (omega arith)
      (is_add (lasting h h.start.0) (place h (end_of r)) (h.start.0 * h.timescale.0) 0 (end_of r * 1000) (h.offset.0 * 1000)
      (is_pos (h.start.0 * h.timescale.0))
      (place_is h (end_of r)))

  upto_is : Is (available_upto h r) (h.start.0 * h.timescale.0 + end_of r * 1000 + h.depth.0 * h.timescale.0 + r.span.0 * 1000) (h.offset.0 * 1000 + 0 + 0)
  upto_is =
      is_add (available_from h r +ℤ lasting h h.depth.0) (pos (r.span.0 * 1000)) (h.start.0 * h.timescale.0 + end_of r * 1000 + h.depth.0 * h.timescale.0)
      (h.offset.0 * 1000 + 0)
      (r.span.0 * 1000)
      0
      (is_add (available_from h r) (lasting h h.depth.0) (h.start.0 * h.timescale.0 + end_of r * 1000) (h.offset.0 * 1000) (h.depth.0 * h.timescale.0) 0 from_is
      (is_pos (h.depth.0 * h.timescale.0)))
      (is_pos (r.span.0 * 1000))

  module _ (z most : ℕ) (o : Product z h.offset.0 1000 most) where
    begin_at : (x : ℕ) → Begins h r x → Is (available_from h r) x z
    begin_at x b = is_moved (available_from h r) _ _ x z (omega (arith, b.is, o.is)) from_is

    stop_at : (y : ℕ) → Stops h r y → Is (available_upto h r) y z
    stop_at y s = is_moved (available_upto h r) _ _ y z (omega (arith, s.is, o.is)) upto_is

    module _ (x : ℕ) (b : Begins h r x) (g : Grain) (e : g.0 ≡ pos x -ℤ pos z) where
      from_at : g ≡ record { 0 = available_from h r }
      from_at = ap (λ (k : ℤ). record { 0 = k }) (e ∙ is_unique (pos x -ℤ pos z) (available_from h r) x z (is_less x z) (begin_at x b))

      pub never_ends : h.depth.0 ≡ 0 → answer.NeverEnds g ≡ availability_of h r
      never_ends d = ap answer.NeverEnds from_at ∙ same h.depth.0 0 _ _ d

      pub ends : (h.depth.0 ≡ 0 → ⊥) → (y : ℕ) → Stops h r y → (k : Grain) → k.0 ≡ pos y -ℤ pos z → answer.Ends g k ≡ availability_of h r
      ends d y s k f =
          let upto_at : k ≡ record { 0 = available_upto h r } =
          ap (λ (j : ℤ). record { 0 = j }) (f ∙ is_unique (pos y -ℤ pos z) (available_upto h r) y z (is_less y z) (stop_at y s))
          in
          other h.depth.0 0 _ _ _ d (ap₂ answer.Ends from_at upto_at)

    -- ---- at a clock

    module _ (c p big : ℕ) (q : Product p c h.timescale.0 big) (x : ℕ) (b : Begins h r x) where
      clock_is : Is (lasting h c) (p + z) z
      clock_is = is_moved (lasting h c) (c * h.timescale.0) 0 (p + z) z (omega (arith, q.is)) (is_pos (c * h.timescale.0))

      begun : le_z (available_from h r) (lasting h c) ≡ leb x (p + z)
      begun =
          le_is (available_from h r) (lasting h c) x z (p + z) z (begin_at x b) clock_is ∙
          same_leb (x + z) (p + z + z) x (p + z) (omega arith)

      rest : Bool
      rest = cond (eqb h.depth.0 0) true (lt_z (lasting h c) (available_upto h r))

      pub too_early : p + z < x → leb x (p + z) ≡ available h r c
      unfolding rest
      too_early l = lt-leb x (p + z) l ∙ sym (ap (λ t. t && rest) (begun ∙ lt-leb x (p + z) l))

      module _ (l : x ≤ p + z) where
        started : available h r c ≡ rest
        unfolding rest
        started = ap (λ t. t && rest) (begun ∙ le-leb x (p + z) l)

        pub for_ever : h.depth.0 ≡ 0 → eqb h.depth.0 0 ≡ available h r c
        unfolding rest
        for_ever d =
            eq-eqb h.depth.0 0 d ∙ sym (started ∙ ap (λ t. cond t true (lt_z (lasting h c) (available_upto h r))) (eq-eqb h.depth.0 0 d))

        pub not_over : (h.depth.0 ≡ 0 → ⊥) → (y : ℕ) → Stops h r y → ltb (p + z) y ≡ available h r c
        unfolding rest
        not_over d y s =
            sym
            (started ∙
            ap (λ t. cond t true (lt_z (lasting h c) (available_upto h r))) (ne_eqb h.depth.0 0 d) ∙
            lt_is (lasting h c) (available_upto h r) (p + z) z y z clock_is (stop_at y s) ∙
            same_ltb (p + z + z) (y + z) (p + z) y (omega arith))
