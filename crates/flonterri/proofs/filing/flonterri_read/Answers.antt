-- `flonterri_read` meets its contract: refused for a length, or the reading's own answer.
use Rattle.flonterri.specs.Face.{reads}
use Rattle.flonterri.proofs.Facing.{beside_long, beside_out, left_number, left_words, left_table, left_out, read_number, read_words, read_table_lem, read_out}
use Rattle.flonterri.proofs.filing.flonterri_read.Goals as goal

pub give_read-requires : goal.give_read-requires
give_read-requires c = (beside_long c.args.«record».now c.args.out.now 2 _ c.record_beside.ensures _ c.in-Ok.is, beside_out c.args.«record».now c.args.out.now 2 _ c.record_beside.ensures _ c.in-Ok.is)

pub returns-in-Ok-clause-value : goal.returns-in-Ok-clause-value
unfolding reads
returns-in-Ok-clause-value c = read_number c.args.«record».now c.args.table.now c.args.out.now _ c.record_beside.ensures _ c.in-Ok.is _ _ _ c.read.ensures.value _ c.give_read.ensures.value

pub returns-in-Ok-clause-record_after : goal.returns-in-Ok-clause-record_after
unfolding reads
returns-in-Ok-clause-record_after c = read_words c.args.«record».now c.args.table.now c.args.out.now _ c.record_beside.ensures _ c.in-Ok.is _ _ _ c.read.ensures.value _ c.give_read.ensures.words_after

pub returns-in-Ok-clause-table_after : goal.returns-in-Ok-clause-table_after
unfolding reads
returns-in-Ok-clause-table_after c = read_table_lem c.args.«record».now c.args.table.now c.args.out.now _ c.record_beside.ensures _ c.in-Ok.is _ _ _ c.read.ensures.value _ c.read.ensures.table_after

pub returns-in-Ok-clause-out_after : goal.returns-in-Ok-clause-out_after
unfolding reads
returns-in-Ok-clause-out_after c = read_out c.args.«record».now c.args.table.now c.args.out.now _ c.record_beside.ensures _ c.in-Ok.is _ _ _ c.read.ensures.value _ c.give_read.ensures.out_after

pub returns-in-Err-clause-value : goal.returns-in-Err-clause-value
unfolding reads
returns-in-Err-clause-value c = left_number c.args.«record».now c.args.out.now 2 _ c.record_beside.ensures c.args.table.now _ c.in-Err.is _ _ _ _ _ c.number.ensures

pub returns-in-Err-clause-record_after : goal.returns-in-Err-clause-record_after
unfolding reads
returns-in-Err-clause-record_after c = left_words c.args.«record».now c.args.out.now 2 _ c.record_beside.ensures c.args.table.now _ c.in-Err.is _ _ _ _

pub returns-in-Err-clause-table_after : goal.returns-in-Err-clause-table_after
unfolding reads
returns-in-Err-clause-table_after c = left_table c.args.«record».now c.args.out.now 2 _ c.record_beside.ensures c.args.table.now _ c.in-Err.is _ _ _ _

pub returns-in-Err-clause-out_after : goal.returns-in-Err-clause-out_after
unfolding reads
returns-in-Err-clause-out_after c = left_out c.args.«record».now c.args.out.now 2 _ c.record_beside.ensures c.args.table.now _ c.in-Err.is _ _ _ _
