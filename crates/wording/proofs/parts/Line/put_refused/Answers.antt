-- A refusal is put part behind part.
use Rattle.std.proofs.Common.{rules}
use Rattle.wording.proofs.Worded.{refused_put}
use Rattle.wording.proofs.parts.Line.put_refused.Goals as goal

pub returns : goal.returns
returns c =
    refused_put c.args.refused _ _ c.put.ensures c.put_number.ensures.put c.put-2.ensures c.put_number-2.ensures.put c.put_distance.ensures.put c.put-3.ensures
    (search rules) c.distance.ensures
