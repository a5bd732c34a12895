-- `write_all` meets its contract, line after line.
use borrow.Author.Rules.{rules}
use Rattle.writing.proofs.Whole.{all_number, all_head, all_start, all_runs, all_fits, all_place, all_end, all_long, all_result, all_bytes}
use Rattle.writing.proofs.write_all.Goals as goal

pub head_line-requires : goal.head_line-requires
head_line-requires c =
    all_number c.args.rec c.args.table.now c.requires.0 c.args.out.now c.requires.1

pub write_line-at-requires : goal.write_line-at-requires
write_line-at-requires c =
    all_head c.args.rec c.args.table.now c.requires.0 c.args.out.now c.requires.1 _ c.head_line.ensures

pub slice_bounds-write_runs-count : goal.slice_bounds-write_runs-count
slice_bounds-write_runs-count c =
    all_start c.args.rec c.args.table.now c.requires.0 c.args.out.now c.requires.1 _ c.head_line.ensures _ _ c.write_line-at.ensures

pub slice_bounds-write_runs-start : goal.slice_bounds-write_runs-start
slice_bounds-write_runs-start c =
    all_start c.args.rec c.args.table.now c.requires.0 c.args.out.now c.requires.1 _ c.head_line.ensures _ _ c.write_line-at.ensures

pub write_runs-at-requires : goal.write_runs-at-requires
write_runs-at-requires c =
    all_runs c.args.rec c.args.table.now c.requires.0 c.args.out.now c.requires.1 _ c.head_line.ensures _ _ c.write_line-at.ensures

pub overflow_add-at : goal.overflow_add-at
overflow_add-at c =
    all_fits c.args.rec c.args.table.now c.requires.0 c.args.out.now c.requires.1 _ c.head_line.ensures _ _ c.write_line-at.ensures _ _ c.write_runs-at.ensures (search rules)

pub slice_bounds-write_line-count : goal.slice_bounds-write_line-count
slice_bounds-write_line-count c =
    all_place c.args.rec c.args.table.now c.requires.0 c.args.out.now c.requires.1 _ c.head_line.ensures _ _ c.write_line-at.ensures _ _ c.write_runs-at.ensures

pub slice_bounds-write_line-start : goal.slice_bounds-write_line-start
slice_bounds-write_line-start c =
    all_place c.args.rec c.args.table.now c.requires.0 c.args.out.now c.requires.1 _ c.head_line.ensures _ _ c.write_line-at.ensures _ _ c.write_runs-at.ensures

pub write_line-requires : goal.write_line-requires
write_line-requires c =
    all_end c.args.rec c.args.table.now c.requires.0 c.args.out.now c.requires.1 _ c.head_line.ensures _ _ c.write_line-at.ensures _ _ c.write_runs-at.ensures

pub overflow_add-result : goal.overflow_add-result
overflow_add-result c =
    all_result c.args.rec c.args.table.now c.requires.0 c.args.out.now c.requires.1 _ c.head_line.ensures _ _ c.write_line-at.ensures _ _ c.write_runs-at.ensures _ _ c.write_line.ensures
    (search rules)

pub returns : goal.returns
returns c = (
  all_long c.args.rec c.args.table.now c.requires.0 c.args.out.now c.requires.1 _ c.head_line.ensures _ _ c.write_line-at.ensures _ _ c.write_runs-at.ensures _ _ c.write_line.ensures,
  all_bytes c.args.rec c.args.table.now c.requires.0 c.args.out.now c.requires.1 _ c.head_line.ensures _ _ c.write_line-at.ensures _ _ c.write_runs-at.ensures _ _ c.write_line.ensures,
)
