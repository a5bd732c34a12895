use Rattle.std.proofs.Common.{rules}
use Rattle.lookups.proofs.Offering.{too_early, for_ever, not_over}
use Rattle.lookups.proofs.times.is_available.Goals as goal

pub returns-then-head-eq0 : goal.returns-then-head-eq0
returns-then-head-eq0 c = search (rules, for_ever)

pub returns-else-head-eq0 : goal.returns-else-head-eq0
returns-else-head-eq0 c = search (rules, not_over)

pub returns-else-begins-point : goal.returns-else-begins-point
returns-else-begins-point c = search (rules, too_early)
