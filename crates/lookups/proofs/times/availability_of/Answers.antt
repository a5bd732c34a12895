use Rattle.std.proofs.Common.{rules}
use Rattle.lookups.proofs.Offering.{never_ends, ends}
use Rattle.lookups.proofs.times.availability_of.Goals as goal

pub returns-then-head-eq0 : goal.returns-then-head-eq0
returns-then-head-eq0 c = search (rules, never_ends)

pub returns : goal.returns
returns c = search (rules, ends)
