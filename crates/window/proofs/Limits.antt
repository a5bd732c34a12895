-- The limits of a head: as the code tests them, and as facts.
use mathlib.Core.Path.{◌≡◌}
use mathlib.Core.Bool.{true, and-eq-true_iff}
use borrow.Author.Tests.{leb-true, le-leb}
use Rattle.units.specs.Exactly.{ExactlyWhen}
use Rattle.units.specs.Limits.{largest_tick, largest_millis, largest_timescale, largest_number, tick_held, millis_held, timescale_held, number_held}
use Rattle.window.specs.declared.Head.{Head}
use Rattle.window.specs.Limits.{head_held, Held}

-- the tests of a head that is held, each by itself
pub record EachHeld (h : Head) : Type 0 where
  pub timescale : timescale_held h.timescale ≡ true
  pub offset : tick_held h.offset ≡ true
  pub start : millis_held h.start ≡ true
  pub duration : millis_held h.duration ≡ true
  pub depth : millis_held h.depth ≡ true
  pub first : number_held h.first ≡ true
  pub update : millis_held h.update ≡ true

pub each_held : (h : Head) → head_held h ≡ true → EachHeld h
each_held h e =
    let u = (and-eq-true_iff _ _).0 e in
    let a = (and-eq-true_iff _ _).0 u.0 in
    let b = (and-eq-true_iff _ _).0 a.0 in
    let c = (and-eq-true_iff _ _).0 b.0 in
    let d = (and-eq-true_iff _ _).0 c.0 in
    let t = (and-eq-true_iff _ _).0 d.0 in
    record { timescale = t.0; offset = t.1; start = d.1; duration = c.1; depth = b.1; first = a.1; update = u.1 }

-- the test is right
pub held_is : (h : Head) → ExactlyWhen (head_held h ≡ true) (Held h)
held_is h = record { only = only; if = if }
  where
    only : head_held h ≡ true → Held h
    only e =
        let k = each_held h e in
        let t = (and-eq-true_iff _ _).0 k.timescale in
        record {
          some = leb-true 1 h.timescale.0 t.0;
          timescale = leb-true h.timescale.0 largest_timescale t.1;
          offset = leb-true h.offset.0 largest_tick k.offset;
          start = leb-true h.start.0 largest_millis k.start;
          duration = leb-true h.duration.0 largest_millis k.duration;
          depth = leb-true h.depth.0 largest_millis k.depth;
          first = leb-true h.first.0 largest_number k.first;
          update = leb-true h.update.0 largest_millis k.update;
        }

    if : Held h → head_held h ≡ true
    if k =
        simp (
          le-leb 1 h.timescale.0 k.some,
          le-leb h.timescale.0 largest_timescale k.timescale,
          le-leb h.offset.0 largest_tick k.offset,
          le-leb h.start.0 largest_millis k.start,
          le-leb h.duration.0 largest_millis k.duration,
          le-leb h.depth.0 largest_millis k.depth,
          le-leb h.first.0 largest_number k.first,
          le-leb h.update.0 largest_millis k.update,
        )
