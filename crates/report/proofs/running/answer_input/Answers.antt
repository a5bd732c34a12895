-- The pieces are those that the reads brought, into a table of 3,072 words.
use Rattle.std.proofs.Common.{refl}
use Rattle.report.proofs.Turns.{answered, answered_known}
use Rattle.report.proofs.running.answer_input.Goals as goal

pub returns-clause-answered : goal.returns-clause-answered
returns-clause-answered g c = answered _ _ _ _ _ refl c.in_ok-desk.ensures.fed c.tell-count.ensures

pub returns-clause-known : goal.returns-clause-known
returns-clause-known g c = answered_known _ _ _ _ _ _ refl c.in_ok-desk.ensures.known c.tell-count.ensures
