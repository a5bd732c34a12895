-- `reach_end` meets its contract, test by test.
use borrow.Author.Rules.{rules}
use Rattle.file.proofs.SLines.{reach_unknown, head_asks, before_asks, reach_past, least_asks, few_lines, reach_appended}
use mathlib.Core.Bool.{not}
use mathlib.Core.Path.{ap}
use Rattle.file.proofs.Reading.reach_end.Goals as goal

pub returns-then-head-eq0 : goal.returns-then-head-eq0
returns-then-head-eq0 c = search (rules, reach_unknown)

pub invariant_of-head : goal.invariant_of-head
invariant_of-head c =
    record { held = head_asks c.args.self _ c.args.span c.requires c.if-head-eq0.false }

pub before_end-requires : goal.before_end-requires
before_end-requires c =
    before_asks c.args.self _ c.args.span c.requires c.if-head-eq0.false

pub returns-then-not-before_end : goal.returns-then-not-before_end
returns-then-not-before_end c = search (rules, reach_past)

pub least_count-count-requires : goal.least_count-count-requires
least_count-count-requires c =
    least_asks c.args.self _ c.args.span c.requires c.if-head-eq0.false _ c.before_end.ensures (ap not c.if-not-before_end.false)

pub settled-requires : goal.settled-requires
settled-requires c =
    few_lines c.args.self _ c.args.span c.requires

pub returns : goal.returns
returns c =
    reach_appended c.args.self _ c.args.span c.requires c.if-head-eq0.false _ c.before_end.ensures (ap not c.if-not-before_end.false)
    _ c.least_count-count.ensures _ c.append_joined-changed.ensures.value _ c.append_joined-changed.ensures.table_after _ c.settled.ensures
