-- `flonterri_write` meets its contract: refused for a length, or the writing's own answer.
use Rattle.std.specs.Prelude.{length}
use Rattle.writing.specs.Writing.{write_answer, output_by, file_for}
use Rattle.flonterri.specs.Face.{writes}
use Rattle.flonterri.proofs.Facing.{room_told, unwritten_number, unwritten_bytes, unwritten_out, wrote_number, wrote_bytes, wrote_out}
use Rattle.flonterri.proofs.filing.flonterri_write.Goals as goal

pub tell-requires : goal.tell-requires
tell-requires c = room_told c.args.«record».now c.args.out.now 1 _ c.record_beside.ensures _ c.in-Ok.is _

pub returns-in-Ok-clause-value : goal.returns-in-Ok-clause-value
unfolding writes
returns-in-Ok-clause-value c = wrote_number c.args.«record».now c.args.bytes.now c.args.out.now _ c.record_beside.ensures _ c.in-Ok.is (λ rec. write_answer rec c.args.table.now (length c.args.bytes.now)) (λ rec. output_by (write_answer rec c.args.table.now (length c.args.bytes.now)) (file_for rec c.args.table.now) c.args.bytes.now) _ c.write.ensures.value _ c.tell.ensures.value

pub returns-in-Ok-clause-bytes_after : goal.returns-in-Ok-clause-bytes_after
unfolding writes
returns-in-Ok-clause-bytes_after c = wrote_bytes c.args.«record».now c.args.bytes.now c.args.out.now _ c.record_beside.ensures _ c.in-Ok.is (λ rec. write_answer rec c.args.table.now (length c.args.bytes.now)) (λ rec. output_by (write_answer rec c.args.table.now (length c.args.bytes.now)) (file_for rec c.args.table.now) c.args.bytes.now) _ c.write.ensures.value _ c.write.ensures.out_after

pub returns-in-Ok-clause-out_after : goal.returns-in-Ok-clause-out_after
unfolding writes
returns-in-Ok-clause-out_after c = wrote_out c.args.«record».now c.args.bytes.now c.args.out.now _ c.record_beside.ensures _ c.in-Ok.is (λ rec. write_answer rec c.args.table.now (length c.args.bytes.now)) (λ rec. output_by (write_answer rec c.args.table.now (length c.args.bytes.now)) (file_for rec c.args.table.now) c.args.bytes.now) _ c.write.ensures.value _ c.tell.ensures.out_after

pub returns-in-Err-clause-value : goal.returns-in-Err-clause-value
unfolding writes
returns-in-Err-clause-value c = unwritten_number c.args.«record».now c.args.bytes.now c.args.out.now _ c.record_beside.ensures _ c.in-Err.is _ _ _ c.number.ensures

pub returns-in-Err-clause-bytes_after : goal.returns-in-Err-clause-bytes_after
unfolding writes
returns-in-Err-clause-bytes_after c = unwritten_bytes c.args.«record».now c.args.bytes.now c.args.out.now _ c.record_beside.ensures _ c.in-Err.is _ _

pub returns-in-Err-clause-out_after : goal.returns-in-Err-clause-out_after
unfolding writes
returns-in-Err-clause-out_after c = unwritten_out c.args.«record».now c.args.bytes.now c.args.out.now _ c.record_beside.ensures _ c.in-Err.is _ _
