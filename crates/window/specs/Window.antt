-- The window rule. At clock c the window reaches from the later of the period start and c less the depth (from the period
-- start alone where no depth is given) up to the earlier of the period end and c plus the update period: a live manifest must
-- cover what is played before it is fetched again. A reference is needed where its span, cut to the period, shares a stretch
-- with the window; it is spent once it is needed neither now nor at any later millisecond. Paper: Window, needed, spent.
use Rattle.std.specs.Prelude.{ℕ, ◌+◌, ◌≤◌, ◌≡◌, Bool, false, cond, eqb, ℤ, pos, ◌-ℤ◌}
use Rattle.std.specs.Int.Signed.{le_z, lt_z}
use Rattle.window.specs.declared.Head.{Head}
use Rattle.window.specs.declared.Reference.{Reference}
use Rattle.window.specs.Place.{place, moment, period_end, later, earlier, cut_to_end}

-- from a point up to another, that one excluded; empty where it does not lie after the first
pub record Stretch : Type 0 where
  pub from : ℤ
  pub to : ℤ

-- two stretches overlap where they share one of positive length: to meet is not to overlap
abbrev pub overlaps : Stretch → Stretch → Bool
overlaps a b = lt_z (later a.from b.from) (earlier a.to b.to)

unfoldable pub low_edge : Head → ℕ → ℤ
low_edge h c = cond (eqb h.depth.0 0) (pos 0) (later (pos 0) (moment h (pos c -ℤ pos h.depth.0)))

unfoldable pub high_edge : Head → ℕ → ℤ
high_edge h c = cut_to_end h (moment h (pos (c + h.update.0)))

abbrev pub window_at : Head → ℕ → Stretch
window_at h c = record { from = low_edge h c; to = high_edge h c }

abbrev pub whole_period : Head → Stretch
whole_period h = record { from = pos 0; to = period_end h }

-- one past the last tick of a reference
abbrev pub end_of : Reference → ℕ
end_of r = r.start.0 + r.span.0

abbrev pub cut_span : Head → Reference → Stretch
cut_span h r = record { from = later (pos 0) (place h r.start.0); to = cut_to_end h (place h (end_of r)) }

abbrev pub needed : Head → Reference → ℕ → Bool
needed h r c = overlaps (cut_span h r) (window_at h c)

-- later milliseconds have no limit here
abbrev pub Spent : Head → Reference → ℕ → Type 0
Spent h r c = (later_clock : ℕ) → c ≤ later_clock → needed h r later_clock ≡ false

-- the comparison that decides it for a reference that starts before the period end: its end, cut to the period, is at or
-- before the window's lower edge
abbrev pub passed : Head → ℕ → ℕ → Bool
passed h end c = le_z (cut_to_end h (place h end)) (low_edge h c)

-- tick k is needed where the span from k to k + 1 overlaps the window
abbrev pub tick_needed : Head → Stretch → ℕ → Bool
tick_needed h w k = overlaps (record { from = place h k; to = place h (k + 1) }) w
