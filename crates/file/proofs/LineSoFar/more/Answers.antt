-- `more` meets its contract: the first bytes alone, and then the part.
use Rattle.file.proofs.SoFar.{more_is}
use Rattle.file.proofs.LineSoFar.more.Goals as goal

pub returns : goal.returns
returns c = more_is c.args.self _ _ _ _ _ c.none.ensures c.first_bytes.ensures c.with.ensures c.with-2.ensures
