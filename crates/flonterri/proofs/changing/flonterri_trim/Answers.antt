-- `flonterri_trim` meets its contract: refused for the record's length, or the trim's own answer.
use Rattle.timeline.specs.Trimming.{trim_answer, trim_table}
use Rattle.flonterri.specs.Face.{trims}
use Rattle.flonterri.proofs.Facing.{in_long, stops_number, stops_words, stops_table, makes_number, makes_words, makes_table}
use Rattle.flonterri.proofs.changing.flonterri_trim.Goals as goal

pub give_back-requires : goal.give_back-requires
give_back-requires c = in_long c.args.«record».now _ c.record_in.ensures _ c.in-Ok.is

pub returns-in-Ok-clause-value : goal.returns-in-Ok-clause-value
unfolding trims
returns-in-Ok-clause-value c = makes_number c.args.«record».now _ c.record_in.ensures c.args.table.now _ c.in-Ok.is (λ rec. trim_answer rec c.args.table.now (record { 0 = c.args.clock })) (λ rec. trim_table rec c.args.table.now (record { 0 = c.args.clock })) _ c.trim.ensures.value _ c.give_back.ensures.value

pub returns-in-Ok-clause-record_after : goal.returns-in-Ok-clause-record_after
unfolding trims
returns-in-Ok-clause-record_after c = makes_words c.args.«record».now _ c.record_in.ensures c.args.table.now _ c.in-Ok.is (λ rec. trim_answer rec c.args.table.now (record { 0 = c.args.clock })) (λ rec. trim_table rec c.args.table.now (record { 0 = c.args.clock })) _ c.trim.ensures.value _ c.give_back.ensures.words_after

pub returns-in-Ok-clause-table_after : goal.returns-in-Ok-clause-table_after
unfolding trims
returns-in-Ok-clause-table_after c = makes_table c.args.«record».now _ c.record_in.ensures c.args.table.now _ c.in-Ok.is (λ rec. trim_answer rec c.args.table.now (record { 0 = c.args.clock })) (λ rec. trim_table rec c.args.table.now (record { 0 = c.args.clock })) _ c.trim.ensures.value _ c.trim.ensures.table_after

pub returns-in-Err-clause-value : goal.returns-in-Err-clause-value
unfolding trims
returns-in-Err-clause-value c = stops_number c.args.«record».now _ c.record_in.ensures c.args.table.now _ c.in-Err.is _ _ _ c.number.ensures

pub returns-in-Err-clause-record_after : goal.returns-in-Err-clause-record_after
unfolding trims
returns-in-Err-clause-record_after c = stops_words c.args.«record».now _ c.record_in.ensures c.args.table.now _ c.in-Err.is _ _

pub returns-in-Err-clause-table_after : goal.returns-in-Err-clause-table_after
unfolding trims
returns-in-Err-clause-table_after c = stops_table c.args.«record».now _ c.record_in.ensures c.args.table.now _ c.in-Err.is _ _
