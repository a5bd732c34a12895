-- What an answer of `Head::new` says of the fields.
use Rattle.units.proofs.Makers.{Maker, maker}
use Rattle.window.specs.Limits.{head_held, head_of}

pub heads : Maker (λ f. head_held (head_of f)) head_of
heads = maker _ _
