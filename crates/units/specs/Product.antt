-- What the inner steps that turn ticks and milliseconds into grains leave: a product that fits. It states no rule of the paper:
-- `place` and `moment` of `window` do.
use Rattle.std.specs.Prelude.{◌≡◌, ℕ, ◌*◌, ◌≤◌}

-- r is a times b, and small enough to go on with
pub record Product (r a b most : ℕ) : Type 0 where
  pub is : r ≡ a * b
  pub small : r ≤ most
