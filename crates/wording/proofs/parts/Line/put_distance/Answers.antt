-- A distance of some stands behind its word.
use Rattle.std.proofs.Common.{rules}
use Rattle.wording.proofs.Worded.{distance_put}
use Rattle.wording.proofs.parts.Line.put_distance.Goals as goal

pub returns-clause-put : goal.returns-clause-put
returns-clause-put c = search (rules, distance_put)
