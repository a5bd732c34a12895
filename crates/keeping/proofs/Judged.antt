-- The refusals of an append that joins, in their order, as the code meets them.
use mathlib.Core.Path.{◌≡◌, refl, sym}
use mathlib.Core.Bool.{Bool, true, false, not}
use mathlib.Core.List.{List}
use Prim.Native.Nat.{ℕ, ◌+◌, ◌*◌, ◌≤◌}
use native.Mathlib.Nat.{mul-le-mul_right, one-mul}
use native.Mathlib.Omega.{arith}
use borrow.Author.Tests.{leb-true}
use lib.Dec.{leb}
use mir.Syntax.{w64}
use mir.Val.{Fits}
use Rattle.units.specs.declared.Span.{Span}
use Rattle.units.specs.Limits.{largest_tick, span_held}
use Rattle.units.proofs.Guards.{told, refused, allowed}
use Rattle.window.specs.Limits.{Held}
use Rattle.window.specs.Place.{before_end}
use Rattle.runs.proofs.Encoded.{span_limits}
use Rattle.agreement.specs.declared.Record.{Record}
use Rattle.agreement.specs.declared.refusal.Refusal.TheVariants as refusal
use Rattle.agreement.specs.Agreement.{every, counts_held, agrees}
use Rattle.agreement.proofs.Agreeing.{agreeing}
use Rattle.std.specs.Prelude.{Err}
use Rattle.keeping.specs.Append.{given, room_outcome, fit_outcome}
use Rattle.keeping.specs.Steps.{Fitting}

module _ (rec : Record) (ws : List ℕ) (span : Span) (n : ℕ) (h : (agrees rec ws ≡ true) × (span_held span ≡ true) × (1 ≤ n)) where
  lasts : 1 ≤ span.0
  lasts = (span_limits span h.1).0

  pub ends_asks : (rec.next.0 ≤ largest_tick) × (1 ≤ span.0)
  ends_asks = ((agreeing rec ws h.0).held.next, lasts)

  module _ (x : Bool) (e : x ≡ leb (rec.next.0 + span.0 * n) largest_tick) where
    pub ends_over : not x ≡ true → fit_outcome rec ws span.0 n ≡ Err refusal.TickLimit
    unfolding fit_outcome
    ends_over m = sym (refused x _ _ _ e m)

    module _ (m : not x ≡ false) where
      ends : rec.next.0 + span.0 * n ≤ largest_tick
      ends = leb-true (rec.next.0 + span.0 * n) largest_tick (told x _ e m)

      pub counts_fit : Fits w64 (rec.accepted + n)
      counts_fit =
          let few : 1 * n ≤ span.0 * n = mul-le-mul_right n lasts in
          record { fits = omega (arith, ends, one-mul n, (agreeing rec ws h.0).held.accepted) }

      pub begins_asks : Held rec.head × (1 ≤ n) × (rec.next.0 + span.0 * n ≤ largest_tick)
      begins_asks = ((agreeing rec ws h.0).held.head, h.2, ends)

      module _ (y : Bool) (f : y ≡ counts_held rec.head.first.0 (rec.accepted + n)) where
        pub counts_over : not y ≡ true → fit_outcome rec ws span.0 n ≡ Err refusal.CountLimit
        unfolding fit_outcome
        counts_over k = sym (allowed x _ _ _ _ e m (refused y _ _ _ f k))

        module _ (k : not y ≡ false) where
          pub fitting : Fitting rec ws span n
          fitting = record { agreed = h.0; held = h.1; some = h.2; ends = ends; counts = told y _ f k }

          module _ (z : Bool) (g : z ≡ every (λ r. before_end rec.head r.start.0) (given rec span.0 n)) where
            pub begins_past : not z ≡ true → fit_outcome rec ws span.0 n ≡ Err refusal.PastEnd
            unfolding fit_outcome
            begins_past i = sym (allowed x _ _ _ _ e m (allowed y _ _ _ _ f k (refused z _ _ _ g i)))

            pub begins_before : not z ≡ false → fit_outcome rec ws span.0 n ≡ room_outcome rec ws span.0 n
            unfolding fit_outcome
            begins_before i = sym (allowed x _ _ _ _ e m (allowed y _ _ _ _ f k (allowed z _ _ _ _ g i refl)))
