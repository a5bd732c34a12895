-- The clock line goes on, or it ends and the file begins.
use Rattle.std.proofs.Common.{rules}
use Rattle.report.proofs.Desks.{end_within, line_more, next_fits, next_within, line_ended}
use Rattle.report.proofs.feeding.feed_clock_line.Goals as goal

pub slice_bounds-more-end : goal.slice_bounds-more-end
slice_bounds-more-end c = search (rules, end_within)

pub returns-then-end-piece : goal.returns-then-end-piece
returns-then-end-piece c = search (rules, line_more)

pub overflow_add-end : goal.overflow_add-end
overflow_add-end c = search (rules, next_fits)

pub slice_bounds-read_on-count : goal.slice_bounds-read_on-count
slice_bounds-read_on-count c = search (rules, next_within)

pub slice_bounds-read_on-start : goal.slice_bounds-read_on-start
slice_bounds-read_on-start c = search (rules, next_within)

pub returns : goal.returns
returns c = search (rules, line_ended)
