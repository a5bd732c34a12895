-- `trim_appended` meets its contract, either way.
use Rattle.std.proofs.Common.{rules}
use Rattle.keeping.proofs.Outcomes.{answer_stops, answer_accepted, words_refused, words_accepted}
use Rattle.timeline.proofs.pairing.trim_appended.Goals as goal

pub returns-in-Ok-clause-value : goal.returns-in-Ok-clause-value
returns-in-Ok-clause-value c = search (rules, answer_accepted)

pub returns-in-Ok-clause-table_after : goal.returns-in-Ok-clause-table_after
returns-in-Ok-clause-table_after c = search (rules, words_accepted)

pub returns-in-Err-clause-value : goal.returns-in-Err-clause-value
returns-in-Err-clause-value c = search (rules, answer_stops)

pub returns-in-Err-clause-table_after : goal.returns-in-Err-clause-table_after
returns-in-Err-clause-table_after c = search (rules, words_refused)
