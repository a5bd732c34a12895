-- The limits of a head: each field within the limit of its own unit. Fields that come make a head where all of them are, and are
-- refused with 1 else. Paper: Units; Refusal numbers, 1.
use Rattle.std.specs.Prelude.{ℕ, ◌≤◌, Bool, cond, ◌&&◌, Option, Some, None}
use Rattle.units.specs.Limits.{largest_tick, largest_millis, largest_timescale, largest_number, tick_held, millis_held, timescale_held, number_held}
use Rattle.window.specs.declared.Head.{Head}
use Rattle.window.specs.declared.HeadFields.{HeadFields}

abbrev pub head_held : Head → Bool
head_held h =
    timescale_held h.timescale && tick_held h.offset && millis_held h.start && millis_held h.duration && millis_held h.depth &&
    number_held h.first && millis_held h.update

-- the head of fields as they come, whatever they are
abbrev pub head_of : HeadFields → Head
head_of f =
    record {
      timescale = record { 0 = f.timescale };
      offset = record { 0 = f.offset };
      start = record { 0 = f.start };
      duration = record { 0 = f.duration };
      depth = record { 0 = f.depth };
      first = record { 0 = f.first };
      update = record { 0 = f.update };
    }

-- and the fields of a head
abbrev pub fields_of : Head → HeadFields
fields_of h =
    record {
      timescale = h.timescale.0;
      offset = h.offset.0;
      start = h.start.0;
      duration = h.duration.0;
      depth = h.depth.0;
      first = h.first.0;
      update = h.update.0;
    }

abbrev pub head_made : HeadFields → Option Head
head_made f = cond (head_held (head_of f)) (Some (head_of f)) None

-- 1: a head field is over its limit, or the timescale is 0
abbrev pub head_number : Option Head → ℕ
head_number (Some h) = 0
head_number None = 1

-- the same limits as facts that a proof reads
pub record Held (h : Head) : Type 0 where
  pub some : 1 ≤ h.timescale.0
  pub timescale : h.timescale.0 ≤ largest_timescale
  pub offset : h.offset.0 ≤ largest_tick
  pub start : h.start.0 ≤ largest_millis
  pub duration : h.duration.0 ≤ largest_millis
  pub depth : h.depth.0 ≤ largest_millis
  pub first : h.first.0 ≤ largest_number
  pub update : h.update.0 ≤ largest_millis
