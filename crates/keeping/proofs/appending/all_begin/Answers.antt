-- `all_begin` meets its contract: the last reference speaks for all.
use Rattle.std.proofs.Common.{rules}
use Rattle.keeping.proofs.Appends.{begin_is}
use Rattle.keeping.proofs.appending.all_begin.Goals as goal

pub returns : goal.returns
returns c = search (rules, begin_is)
