-- Tick and share stand behind their word.
use Rattle.std.proofs.Common.{rules}
use Rattle.wording.proofs.Worded.{lacking_put}
use Rattle.wording.proofs.parts.Line.put_lacking.Goals as goal

pub returns : goal.returns
returns c = search (rules, lacking_put)
