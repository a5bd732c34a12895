-- `flonterri_verdict_whole` meets its contract: refused for a length, or what the answer tells.
use Rattle.answers.specs.Judgement.{verdict_whole}
use Rattle.words.specs.Tells.{words_of_verdict}
use Rattle.flonterri.specs.Face.{tells_whole}
use Rattle.flonterri.proofs.Facing.{room_told, silent_number, silent_out, looks_number, looks_out}
use Rattle.flonterri.proofs.looking.flonterri_verdict_whole.Goals as goal

pub tell-requires : goal.tell-requires
tell-requires c = room_told c.args.«record».now c.args.out.now 5 _ c.record_beside.ensures _ c.in-Ok.is _

pub returns-in-Ok-clause-value : goal.returns-in-Ok-clause-value
unfolding tells_whole
returns-in-Ok-clause-value c = looks_number c.args.«record».now c.args.out.now 5 _ c.record_beside.ensures words_of_verdict _ c.in-Ok.is (λ rec. verdict_whole rec c.args.table.now) _ c.verdict_whole.ensures _ c.tell.ensures.value

pub returns-in-Ok-clause-out_after : goal.returns-in-Ok-clause-out_after
unfolding tells_whole
returns-in-Ok-clause-out_after c = looks_out c.args.«record».now c.args.out.now 5 _ c.record_beside.ensures words_of_verdict _ c.in-Ok.is (λ rec. verdict_whole rec c.args.table.now) _ c.verdict_whole.ensures _ c.tell.ensures.out_after

pub returns-in-Err-clause-value : goal.returns-in-Err-clause-value
unfolding tells_whole
returns-in-Err-clause-value c = silent_number c.args.«record».now c.args.out.now 5 _ c.record_beside.ensures words_of_verdict _ c.in-Err.is _ _ c.number.ensures

pub returns-in-Err-clause-out_after : goal.returns-in-Err-clause-out_after
unfolding tells_whole
returns-in-Err-clause-out_after c = silent_out c.args.«record».now c.args.out.now 5 _ c.record_beside.ensures words_of_verdict _ c.in-Err.is _
