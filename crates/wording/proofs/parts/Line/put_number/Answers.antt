-- The number's fewest digits are its text.
use Rattle.std.proofs.Common.{rules}
use Rattle.wording.proofs.Decimals.{number_put}
use Rattle.wording.proofs.parts.Line.put_number.Goals as goal

pub returns-clause-put : goal.returns-clause-put
returns-clause-put c = search (rules, number_put)
