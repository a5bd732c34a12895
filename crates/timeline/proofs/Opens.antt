-- The refusals of an opening, as the code meets them: the head first, then the first tick.
use mathlib.Core.Path.{◌≡◌, ap, ap₂, ◌∙◌}
use mathlib.Core.Bool.{Bool, true, false, cond, ◌&&◌}
use Rattle.units.specs.declared.Tick.{Tick}
use Rattle.std.specs.Prelude.{Err, None, Ok, Option, Some}
use Rattle.units.specs.declared.WideTick.{WideTick}
use Rattle.units.specs.Limits.{tick_held, tick_made, tick_of}
use Rattle.units.proofs.Makers.{ticks}
use Rattle.window.specs.declared.Head.{Head}
use Rattle.window.specs.declared.HeadFields.{HeadFields}
use Rattle.window.specs.Limits.{head_held, head_of, head_made}
use Rattle.window.proofs.Making.{heads}
use Rattle.agreement.specs.declared.Record.{Record}
use Rattle.agreement.specs.declared.refusal.Refusal.TheVariants.{OverLimit}
use Rattle.timeline.specs.Opening.{fresh_record, open_outcome}

module _ (f : HeadFields) (t : WideTick) (x : Option Head) (e : x ≡ head_made f) where
  by : (b c : Bool) → head_held (head_of f) ≡ b → tick_held (tick_of t) ≡ c → open_outcome (head_of f) (tick_of t) ≡ cond (b && c) (Ok tt) (Err OverLimit)
  unfolding open_outcome
  by b c j k = ap₂ (λ a d. cond (a && d) (Ok tt) (Err OverLimit)) j k

  pub open_head : x ≡ None → open_outcome (head_of f) (tick_of t) ≡ Err OverLimit
  unfolding open_outcome
  open_head n = ap (λ b. cond (b && tick_held (tick_of t)) (Ok tt) (Err OverLimit)) (heads.beyond f x e n)

  module _ (h : Head) (n : x ≡ Some h) (y : Option Tick) (k : y ≡ tick_made t.0) where
    held : head_held (head_of f) ≡ true
    held = heads.within f x h e n

    pub open_tick : y ≡ None → open_outcome (head_of f) (tick_of t) ≡ Err OverLimit
    open_tick m = by true false held (ticks.beyond t.0 y k m)

    module _ (at : Tick) (m : y ≡ Some at) where
      pub open_accepted : open_outcome (head_of f) (tick_of t) ≡ Ok tt
      open_accepted = by true true held (ticks.within t.0 y at k m)

      -- the record that is opened is the fresh one of what was given
      pub open_fresh : (rec : Record) → rec ≡ fresh_record h at → rec ≡ fresh_record (head_of f) (tick_of t)
      open_fresh rec r = r ∙ ap₂ fresh_record (heads.is f x h e n) (ticks.is t.0 y at k m)
