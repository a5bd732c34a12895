-- `flonterri_covered_edge` meets its contract: refused for a length, or what the answer tells.
use Rattle.answers.specs.Edge.{covered_edge}
use Rattle.words.specs.Tells.{words_of_edge}
use Rattle.flonterri.specs.Face.{tells_edge}
use Rattle.flonterri.proofs.Facing.{room_told, silent_number, silent_out, looks_number, looks_out}
use Rattle.flonterri.proofs.looking.flonterri_covered_edge.Goals as goal

pub tell-requires : goal.tell-requires
tell-requires c = room_told c.args.«record».now c.args.out.now 2 _ c.record_beside.ensures _ c.in-Ok.is _

pub returns-in-Ok-clause-value : goal.returns-in-Ok-clause-value
unfolding tells_edge
returns-in-Ok-clause-value c = looks_number c.args.«record».now c.args.out.now 2 _ c.record_beside.ensures words_of_edge _ c.in-Ok.is (λ rec. covered_edge rec c.args.table.now) _ c.covered_edge.ensures _ c.tell.ensures.value

pub returns-in-Ok-clause-out_after : goal.returns-in-Ok-clause-out_after
unfolding tells_edge
returns-in-Ok-clause-out_after c = looks_out c.args.«record».now c.args.out.now 2 _ c.record_beside.ensures words_of_edge _ c.in-Ok.is (λ rec. covered_edge rec c.args.table.now) _ c.covered_edge.ensures _ c.tell.ensures.out_after

pub returns-in-Err-clause-value : goal.returns-in-Err-clause-value
unfolding tells_edge
returns-in-Err-clause-value c = silent_number c.args.«record».now c.args.out.now 2 _ c.record_beside.ensures words_of_edge _ c.in-Err.is _ _ c.number.ensures

pub returns-in-Err-clause-out_after : goal.returns-in-Err-clause-out_after
unfolding tells_edge
returns-in-Err-clause-out_after c = silent_out c.args.«record».now c.args.out.now 2 _ c.record_beside.ensures words_of_edge _ c.in-Err.is _
