-- The share stands behind its word.
use Rattle.std.proofs.Common.{rules}
use Rattle.wording.proofs.Worded.{complete_put}
use Rattle.wording.proofs.parts.Line.put_complete.Goals as goal

pub returns : goal.returns
returns c = search (rules, complete_put)
