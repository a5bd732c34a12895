-- `append_trim` meets its contract: agreement, the clock, then the append and the trim.
use Rattle.std.proofs.Common.{rules}
use Rattle.units.proofs.Guards.{told}
use Rattle.agreement.specs.declared.refusal.Refusal.TheVariants.{Disagreement, ClockLimit}
use Rattle.keeping.proofs.Outcomes.{answer_refused, words_refused}
use Rattle.timeline.proofs.Clocks.{clock_small}
use Rattle.timeline.proofs.Pairs.{pair_disagrees, pair_over, pair_agrees, pair_answer_lem, pair_words_lem}
use Rattle.timeline.proofs.pairing.append_trim.Goals as goal

-- the refusals before the append,
-- in their order
pub returns-then-not-agrees : goal.returns-then-not-agrees
returns-then-not-agrees c = record { value = search (rules, answer_refused, pair_disagrees); table_after = words_refused _ _ _ Disagreement (search (rules, pair_disagrees)) }

pub returns-in_default : goal.returns-in_default
returns-in_default c = record { value = search (rules, answer_refused, pair_over); table_after = words_refused _ _ _ ClockLimit (search (rules, pair_over)) }

-- the two steps: agreement is tested once,
-- since the append leaves what agrees
pub append_standing-appended-requires : goal.append_standing-appended-requires
append_standing-appended-requires c = search (rules, told)

pub trim_appended-requires : goal.trim_appended-requires
trim_appended-requires c = search (rules, told, pair_agrees, clock_small)

pub returns-clause-value : goal.returns-clause-value
returns-clause-value c = search (rules, pair_answer_lem)

pub returns-clause-table_after : goal.returns-clause-table_after
returns-clause-table_after c = search (rules, pair_words_lem)
