-- `append_standing` meets its contract, case by case.
use Rattle.std.proofs.Common.{rules}
use Rattle.agreement.specs.declared.refusal.Refusal.TheVariants.{NothingGiven}
use Rattle.keeping.proofs.Outcomes.{answer_refused, words_refused}
use Rattle.timeline.proofs.Judged.{no_span, span_none, span_gap, span_overlap, gap_words, overlap_words, span_answer, span_words}
use Rattle.timeline.proofs.appending.append_standing.Goals as goal

pub returns-in_default-clause-value : goal.returns-in_default-clause-value
returns-in_default-clause-value c = search (rules, answer_refused, no_span)

pub returns-in_default-clause-table_after : goal.returns-in_default-clause-table_after
returns-in_default-clause-table_after c = words_refused _ _ _ NothingGiven (search (rules, no_span))

pub returns-then-count-eq0-clause-value : goal.returns-then-count-eq0-clause-value
returns-then-count-eq0-clause-value c = search (rules, answer_refused, span_none)

pub returns-then-count-eq0-clause-table_after : goal.returns-then-count-eq0-clause-table_after
returns-then-count-eq0-clause-table_after c = words_refused _ _ _ NothingGiven (search (rules, span_none))

pub returns-in-Joins-clause-value : goal.returns-in-Joins-clause-value
returns-in-Joins-clause-value c = search (rules, span_answer)

pub returns-in-Joins-clause-table_after : goal.returns-in-Joins-clause-table_after
returns-in-Joins-clause-table_after c = search (rules, span_words)

pub returns-in-Gap-clause-value : goal.returns-in-Gap-clause-value
returns-in-Gap-clause-value c = search (rules, answer_refused, span_gap)

pub returns-in-Gap-clause-table_after : goal.returns-in-Gap-clause-table_after
returns-in-Gap-clause-table_after c = search (rules, gap_words)

pub returns-in-Overlap-clause-value : goal.returns-in-Overlap-clause-value
returns-in-Overlap-clause-value c = search (rules, answer_refused, span_overlap)

pub returns-in-Overlap-clause-table_after : goal.returns-in-Overlap-clause-table_after
returns-in-Overlap-clause-table_after c = search (rules, overlap_words)
