-- `take_s` meets its contract, case by case.
use Rattle.file.proofs.SLines.{s_nothing, s_gap, s_overlap, s_reaches, s_lines_lem, s_appended}
use Rattle.file.proofs.Reading.take_s.Goals as goal

pub returns-in_default : goal.returns-in_default
returns-in_default c =
    s_nothing c.args.self _ c.args.standing c.args.s c.requires _ c.new.ensures c.in_default.is _ c.refused.ensures

pub returns-then-s-ge-FIRST_NEGATIVE : goal.returns-then-s-ge-FIRST_NEGATIVE
returns-then-s-ge-FIRST_NEGATIVE c =
    s_reaches c.args.self _ c.args.standing c.args.s c.requires _ c.new.ensures _ c.in-Some.is c.in-Joins.is c.if-s-ge-FIRST_NEGATIVE.true _ _
    c.reach_end.ensures

pub settled-requires : goal.settled-requires
settled-requires c =
    s_lines_lem c.args.self _ c.args.standing c.args.s c.requires _ c.new.ensures _ c.in-Some.is c.in-Joins.is c.if-s-ge-FIRST_NEGATIVE.false

pub returns-else-s-ge-FIRST_NEGATIVE : goal.returns-else-s-ge-FIRST_NEGATIVE
returns-else-s-ge-FIRST_NEGATIVE c =
    s_appended c.args.self _ c.args.standing c.args.s c.requires _ c.new.ensures _ c.in-Some.is c.in-Joins.is c.if-s-ge-FIRST_NEGATIVE.false
    _ c.append_joined-changed.ensures.value _ c.append_joined-changed.ensures.table_after _ c.settled.ensures

pub returns-in-Gap : goal.returns-in-Gap
returns-in-Gap c =
    s_gap c.args.self _ c.args.standing c.args.s c.requires _ c.new.ensures _ c.in-Some.is _ c.in-Gap.is _ c.refused-in-Gap.ensures

pub returns-in-Overlap : goal.returns-in-Overlap
returns-in-Overlap c =
    s_overlap c.args.self _ c.args.standing c.args.s c.requires _ c.new.ensures _ c.in-Some.is _ c.in-Overlap.is _ c.refused-in-Overlap.ensures
