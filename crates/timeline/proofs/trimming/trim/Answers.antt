-- `trim` meets its contract, way by way.
use Rattle.std.proofs.Common.{rules}
use Rattle.units.proofs.Guards.{told}
use Rattle.agreement.specs.declared.refusal.Refusal.TheVariants.{Disagreement, ClockLimit}
use Rattle.keeping.proofs.Outcomes.{answer_refused, answer_accepted, words_refused, words_accepted}
use Rattle.timeline.proofs.Clocks.{clock_small}
use Rattle.timeline.proofs.Trims.{trim_disagrees, trim_over, trim_accepted, trim_made, trim_left}
use Rattle.timeline.proofs.trimming.trim.Goals as goal

pub returns-then-not-agrees-clause-value : goal.returns-then-not-agrees-clause-value
returns-then-not-agrees-clause-value c = search (rules, answer_refused, trim_disagrees)

pub returns-then-not-agrees-clause-table_after : goal.returns-then-not-agrees-clause-table_after
returns-then-not-agrees-clause-table_after c = words_refused _ _ _ Disagreement (search (rules, trim_disagrees))

pub returns-in_default-clause-value : goal.returns-in_default-clause-value
returns-in_default-clause-value c = search (rules, answer_refused, trim_over)

pub returns-in_default-clause-table_after : goal.returns-in_default-clause-table_after
returns-in_default-clause-table_after c = words_refused _ _ _ ClockLimit (search (rules, trim_over))

pub trim_agreeing-requires : goal.trim_agreeing-requires
trim_agreeing-requires c = search (rules, told, clock_small)

pub returns-clause-value : goal.returns-clause-value
returns-clause-value c = search (rules, answer_accepted, trim_accepted, trim_made)

pub returns-clause-table_after : goal.returns-clause-table_after
returns-clause-table_after c = search (rules, words_accepted, trim_accepted, trim_left)
