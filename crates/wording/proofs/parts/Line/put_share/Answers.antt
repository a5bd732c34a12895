-- A share is put part behind part.
use Rattle.std.proofs.Common.{rules}
use Rattle.wording.proofs.Worded.{share_put}
use Rattle.wording.proofs.parts.Line.put_share.Goals as goal

pub returns : goal.returns
returns c = search (rules, share_put)
