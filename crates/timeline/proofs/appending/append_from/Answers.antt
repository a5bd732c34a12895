-- `append_from` meets its contract: agreement first.
use Rattle.std.proofs.Common.{rules}
use Rattle.agreement.specs.declared.refusal.Refusal.TheVariants.{Disagreement}
use Rattle.keeping.proofs.Outcomes.{answer_refused, words_refused}
use Rattle.timeline.proofs.Judged.{disagrees}
use Rattle.timeline.proofs.appending.append_from.Goals as goal

pub returns-then-not-agrees-clause-value : goal.returns-then-not-agrees-clause-value
returns-then-not-agrees-clause-value g c = search (rules, answer_refused, disagrees)

pub returns-then-not-agrees-clause-table_after : goal.returns-then-not-agrees-clause-table_after
returns-then-not-agrees-clause-table_after g c = words_refused _ _ _ Disagreement (search (rules, disagrees))
