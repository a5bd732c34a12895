-- The wrapping difference is stamp less next tick, modulo 2^32.
use Rattle.std.proofs.Common.{rules}
use Rattle.units.proofs.Stamps.{less32_unique}
use Rattle.units.proofs.Stamp.apart.Goals as goal

pub returns : goal.returns
returns c = search (rules, less32_unique)
