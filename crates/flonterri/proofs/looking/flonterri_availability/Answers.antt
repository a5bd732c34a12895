-- `flonterri_availability` meets its contract: refused for a length, or what the answer tells.
use Rattle.lookups.specs.Available.{availability_in}
use Rattle.words.specs.Tells.{words_of_availability}
use Rattle.flonterri.specs.Face.{tells_availability}
use Rattle.flonterri.proofs.Facing.{room_told, silent_number, silent_out, looks_number, looks_out}
use Rattle.flonterri.proofs.looking.flonterri_availability.Goals as goal

pub tell-requires : goal.tell-requires
tell-requires c = room_told c.args.«record».now c.args.out.now 3 _ c.record_beside.ensures _ c.in-Ok.is _

pub returns-in-Ok-clause-value : goal.returns-in-Ok-clause-value
unfolding tells_availability
returns-in-Ok-clause-value c = looks_number c.args.«record».now c.args.out.now 3 _ c.record_beside.ensures words_of_availability _ c.in-Ok.is (λ rec. availability_in rec c.args.table.now (record { 0 = c.args.number })) _ c.availability.ensures _ c.tell.ensures.value

pub returns-in-Ok-clause-out_after : goal.returns-in-Ok-clause-out_after
unfolding tells_availability
returns-in-Ok-clause-out_after c = looks_out c.args.«record».now c.args.out.now 3 _ c.record_beside.ensures words_of_availability _ c.in-Ok.is (λ rec. availability_in rec c.args.table.now (record { 0 = c.args.number })) _ c.availability.ensures _ c.tell.ensures.out_after

pub returns-in-Err-clause-value : goal.returns-in-Err-clause-value
unfolding tells_availability
returns-in-Err-clause-value c = silent_number c.args.«record».now c.args.out.now 3 _ c.record_beside.ensures words_of_availability _ c.in-Err.is _ _ c.number.ensures

pub returns-in-Err-clause-out_after : goal.returns-in-Err-clause-out_after
unfolding tells_availability
returns-in-Err-clause-out_after c = silent_out c.args.«record».now c.args.out.now 3 _ c.record_beside.ensures words_of_availability _ c.in-Err.is _
