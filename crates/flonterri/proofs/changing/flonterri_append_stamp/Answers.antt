-- `flonterri_append_stamp` meets its contract: refused for a length, or the call's own answer and its distance.
use Rattle.units.specs.Standing.{stamp_standing}
use Rattle.timeline.specs.Appending.{append_answer, append_table}
use Rattle.flonterri.specs.Face.{appends_stamp}
use Rattle.flonterri.proofs.Facing.{beside_long, beside_out, left_number, left_words, left_table, left_out, append_number, append_words, append_table_lem, append_out}
use Rattle.flonterri.proofs.changing.flonterri_append_stamp.Goals as goal

pub give_appended-requires : goal.give_appended-requires
give_appended-requires c = (beside_long c.args.«record».now c.args.out.now 1 _ c.record_beside.ensures _ c.in-Ok.is, beside_out c.args.«record».now c.args.out.now 1 _ c.record_beside.ensures _ c.in-Ok.is)

pub returns-in-Ok-clause-value : goal.returns-in-Ok-clause-value
unfolding appends_stamp
returns-in-Ok-clause-value c = append_number c.args.«record».now c.args.table.now c.args.out.now _ c.record_beside.ensures _ c.in-Ok.is (λ rec. append_answer rec c.args.table.now (stamp_standing (record { 0 = c.args.stamp }) rec.next) c.args.duration c.args.count) (λ rec. append_table rec c.args.table.now (stamp_standing (record { 0 = c.args.stamp }) rec.next) c.args.duration c.args.count) _ c.append_stamp-changed.ensures.value _ c.give_appended.ensures.value

pub returns-in-Ok-clause-record_after : goal.returns-in-Ok-clause-record_after
unfolding appends_stamp
returns-in-Ok-clause-record_after c = append_words c.args.«record».now c.args.table.now c.args.out.now _ c.record_beside.ensures _ c.in-Ok.is (λ rec. append_answer rec c.args.table.now (stamp_standing (record { 0 = c.args.stamp }) rec.next) c.args.duration c.args.count) (λ rec. append_table rec c.args.table.now (stamp_standing (record { 0 = c.args.stamp }) rec.next) c.args.duration c.args.count) _ c.append_stamp-changed.ensures.value _ c.give_appended.ensures.words_after

pub returns-in-Ok-clause-table_after : goal.returns-in-Ok-clause-table_after
unfolding appends_stamp
returns-in-Ok-clause-table_after c = append_table_lem c.args.«record».now c.args.table.now c.args.out.now _ c.record_beside.ensures _ c.in-Ok.is (λ rec. append_answer rec c.args.table.now (stamp_standing (record { 0 = c.args.stamp }) rec.next) c.args.duration c.args.count) (λ rec. append_table rec c.args.table.now (stamp_standing (record { 0 = c.args.stamp }) rec.next) c.args.duration c.args.count) _ c.append_stamp-changed.ensures.value _ c.append_stamp-changed.ensures.table_after

pub returns-in-Ok-clause-out_after : goal.returns-in-Ok-clause-out_after
unfolding appends_stamp
returns-in-Ok-clause-out_after c = append_out c.args.«record».now c.args.table.now c.args.out.now _ c.record_beside.ensures _ c.in-Ok.is (λ rec. append_answer rec c.args.table.now (stamp_standing (record { 0 = c.args.stamp }) rec.next) c.args.duration c.args.count) (λ rec. append_table rec c.args.table.now (stamp_standing (record { 0 = c.args.stamp }) rec.next) c.args.duration c.args.count) _ c.append_stamp-changed.ensures.value _ c.give_appended.ensures.out_after

pub returns-in-Err-clause-value : goal.returns-in-Err-clause-value
unfolding appends_stamp
returns-in-Err-clause-value c = left_number c.args.«record».now c.args.out.now 1 _ c.record_beside.ensures c.args.table.now _ c.in-Err.is _ _ _ _ _ c.number.ensures

pub returns-in-Err-clause-record_after : goal.returns-in-Err-clause-record_after
unfolding appends_stamp
returns-in-Err-clause-record_after c = left_words c.args.«record».now c.args.out.now 1 _ c.record_beside.ensures c.args.table.now _ c.in-Err.is _ _ _ _

pub returns-in-Err-clause-table_after : goal.returns-in-Err-clause-table_after
unfolding appends_stamp
returns-in-Err-clause-table_after c = left_table c.args.«record».now c.args.out.now 1 _ c.record_beside.ensures c.args.table.now _ c.in-Err.is _ _ _ _

pub returns-in-Err-clause-out_after : goal.returns-in-Err-clause-out_after
unfolding appends_stamp
returns-in-Err-clause-out_after c = left_out c.args.«record».now c.args.out.now 1 _ c.record_beside.ensures c.args.table.now _ c.in-Err.is _ _ _ _
