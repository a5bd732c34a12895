-- The full tick of a stamp, from the tests of the code.
use Rattle.std.proofs.Common.{◌≡◌, ℕ, ◌+◌, ◌-◌, ◌^◌, ◌<◌, ◌≤◌, Option, Some, None, refl, ap, ◌∙◌, arith}
use Rattle.units.specs.declared.Stamp.{Stamp}
use Rattle.units.specs.declared.Tick.{Tick}
use Rattle.units.specs.Limits.{largest_tick}
use Rattle.units.specs.Standing.{less32}
use Rattle.units.specs.Full.{within_limit, before, full_by, full_tick}
use Rattle.units.proofs.Guards.{at_most, above, below, at_least}

module _ (x : ℕ) (stamp : Stamp) (next : Tick) (is_apart_lem : x ≡ less32 stamp.0 next.0) where
  by_distance_lem : full_by next x ≡ full_tick stamp next
  by_distance_lem = ap (full_by next) is_apart_lem

  module _ (ahead : x < 2 ^ 31) where
    pub full_over : largest_tick - x < next.0 → None ≡ full_tick stamp next
    full_over h =
        below x (2 ^ 31) (within_limit (next.0 + x)) (before next (2 ^ 32 - x)) None ahead
        (above (next.0 + x) largest_tick (Some (record { 0 = next.0 + x })) None (omega arith)) ∙
        by_distance_lem

    pub full_ahead : next.0 ≤ largest_tick - x → Some (record { 0 = next.0 + x }) ≡ full_tick stamp next
    full_ahead h =
        below x (2 ^ 31) (within_limit (next.0 + x)) (before next (2 ^ 32 - x)) (Some (record { 0 = next.0 + x })) ahead
        (at_most (next.0 + x) largest_tick (Some (record { 0 = next.0 + x })) None _ (omega arith) refl) ∙
        by_distance_lem

  module _ (far : 2 ^ 31 ≤ x) where
    behind : (z : Option Tick) → z ≡ before next (2 ^ 32 - x) → z ≡ full_tick stamp next
    behind z e = e ∙ at_least x (2 ^ 31) (within_limit (next.0 + x)) (before next (2 ^ 32 - x)) far ∙ by_distance_lem

    pub full_below : next.0 < 2 ^ 32 - x → None ≡ full_tick stamp next
    full_below h = behind None (above (2 ^ 32 - x) next.0 (within_limit (next.0 - (2 ^ 32 - x))) None h)

    module _ (room : 2 ^ 32 - x ≤ next.0) where
      pub full_beyond : largest_tick < next.0 - (2 ^ 32 - x) → None ≡ full_tick stamp next
      full_beyond h =
          behind None
          (at_most (2 ^ 32 - x) next.0 (within_limit (next.0 - (2 ^ 32 - x))) None None room
          (above (next.0 - (2 ^ 32 - x)) largest_tick (Some (record { 0 = next.0 - (2 ^ 32 - x) })) None h))

      pub full_behind : next.0 - (2 ^ 32 - x) ≤ largest_tick → Some (record { 0 = next.0 - (2 ^ 32 - x) }) ≡ full_tick stamp next
      full_behind h =
          behind _
          (at_most (2 ^ 32 - x) next.0 (within_limit (next.0 - (2 ^ 32 - x))) None _ room
          (at_most (next.0 - (2 ^ 32 - x)) largest_tick (Some (record { 0 = next.0 - (2 ^ 32 - x) })) None _ h refl))
