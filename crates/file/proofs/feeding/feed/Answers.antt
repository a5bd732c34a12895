use Rattle.std.proofs.Common.{ap, arith, rules}
use mathlib.Core.Bool.{not}
use Rattle.file.proofs.Turning.{unfed_reader, unfed_table, turn_none, end_within, end_fits, part_from, rest_less, turn_ended, turned_reader, turned_table, nothing_left}
use Rattle.file.proofs.feeding.feed.Goals as goal

pub returns-then-not-belongs : goal.returns-then-not-belongs
returns-then-not-belongs c =
    let reader = c.args.reader in
    let no = ap not c.if-not-belongs.true in
    record { value = unfed_reader reader _ _ c.belongs.ensures no _; table_after = unfed_table reader _ _ c.belongs.ensures no _ }

pub loop-end-init : goal.loop-end-init
loop-end-init c = search (rules, turn_none)

pub slice_bounds-with-end : goal.slice_bounds-with-end
slice_bounds-with-end c = search (rules, part_from, end_within)

pub overflow_add-left : goal.overflow_add-left
overflow_add-left c = end_fits _ _ c.feed_at.ensures _ c.in-Some.is c.args.piece.now c.loop-end.invariant.within (search rules)

pub slice_bounds-left-count : goal.slice_bounds-left-count
slice_bounds-left-count c = omega (arith, end_within _ _ c.feed_at.ensures _ c.in-Some.is)

pub slice_bounds-left-start : goal.slice_bounds-left-start
slice_bounds-left-start c = search (rules, end_within)

pub loop-end-smaller : goal.loop-end-smaller
loop-end-smaller c = rest_less _ _ c.feed_at.ensures _ c.in-Some.is

pub loop-end-preserved : goal.loop-end-preserved
loop-end-preserved c =
    turn_ended _ _ c.feed_at.ensures _ c.in-Some.is _ _ _ _ _ _ c.loop-end.invariant _ c.with-line.ensures _ c.first_bytes.ensures _ c.none-line.ensures _ _ (search rules)
    c.take_line-reading.ensures

pub returns-then-not-is_empty : goal.returns-then-not-is_empty
returns-then-not-is_empty c =
    let reader = c.args.reader in
    let yes = ap not c.if-not-belongs.false in
    record {
      value = turned_reader _ _ c.feed_at.ensures c.in_default.is reader _ _ _ _ _ c.loop-end.invariant _ c.belongs.ensures yes _ c.with-line-then-not-is_empty.ensures;
      table_after = turned_table _ _ c.feed_at.ensures c.in_default.is reader _ _ _ _ _ c.loop-end.invariant _ c.belongs.ensures yes;
    }

pub returns-else-not-is_empty : goal.returns-else-not-is_empty
returns-else-not-is_empty c =
    let reader = c.args.reader in
    let yes = ap not c.if-not-belongs.false in
    record {
      value =
          turned_reader _ _ c.feed_at.ensures c.in_default.is reader _ _ _ _ _ c.loop-end.invariant _ c.belongs.ensures yes _
          (nothing_left _ c.if-not-is_empty.ensures _);
      table_after = turned_table _ _ c.feed_at.ensures c.in_default.is reader _ _ _ _ _ c.loop-end.invariant _ c.belongs.ensures yes;
    }
