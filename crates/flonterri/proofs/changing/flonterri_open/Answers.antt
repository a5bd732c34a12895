-- `flonterri_open` meets its contract: refused for the record's length, or the opening's own answer.
use Rattle.timeline.specs.Opening.{open_answer, open_table}
use Rattle.words.specs.Words.{head_with}
use Rattle.flonterri.specs.Face.{opens}
use Rattle.flonterri.proofs.Facing.{in_long, stops_number, stops_words, stops_table, makes_number, makes_words, makes_table}
use Rattle.flonterri.proofs.changing.flonterri_open.Goals as goal

pub returns-in-Err-clause-value : goal.returns-in-Err-clause-value
unfolding opens
returns-in-Err-clause-value c = stops_number c.args.«record».now _ c.record_in.ensures c.args.table.now _ c.in-Err.is _ _ _ c.number.ensures

pub returns-in-Err-clause-record_after : goal.returns-in-Err-clause-record_after
unfolding opens
returns-in-Err-clause-record_after c = stops_words c.args.«record».now _ c.record_in.ensures c.args.table.now _ c.in-Err.is _ _

pub returns-in-Err-clause-table_after : goal.returns-in-Err-clause-table_after
unfolding opens
returns-in-Err-clause-table_after c = stops_table c.args.«record».now _ c.record_in.ensures c.args.table.now _ c.in-Err.is _ _

pub give_back-requires : goal.give_back-requires
give_back-requires c = in_long c.args.«record».now _ c.record_in.ensures _ c.in-Ok.is

pub returns-in-Ok-clause-value : goal.returns-in-Ok-clause-value
unfolding opens
returns-in-Ok-clause-value c = makes_number c.args.«record».now _ c.record_in.ensures c.args.table.now _ c.in-Ok.is (λ rec. open_answer (head_with c.args.timescale c.args.offset c.args.start c.args.duration c.args.depth c.args.first_number c.args.«update») (record { 0 = c.args.first_tick })) (λ rec. open_table (head_with c.args.timescale c.args.offset c.args.start c.args.duration c.args.depth c.args.first_number c.args.«update») (record { 0 = c.args.first_tick }) c.args.table.now) _ c.open.ensures.value _ c.give_back.ensures.value

pub returns-in-Ok-clause-record_after : goal.returns-in-Ok-clause-record_after
unfolding opens
returns-in-Ok-clause-record_after c = makes_words c.args.«record».now _ c.record_in.ensures c.args.table.now _ c.in-Ok.is (λ rec. open_answer (head_with c.args.timescale c.args.offset c.args.start c.args.duration c.args.depth c.args.first_number c.args.«update») (record { 0 = c.args.first_tick })) (λ rec. open_table (head_with c.args.timescale c.args.offset c.args.start c.args.duration c.args.depth c.args.first_number c.args.«update») (record { 0 = c.args.first_tick }) c.args.table.now) _ c.open.ensures.value _ c.give_back.ensures.words_after

pub returns-in-Ok-clause-table_after : goal.returns-in-Ok-clause-table_after
unfolding opens
returns-in-Ok-clause-table_after c = makes_table c.args.«record».now _ c.record_in.ensures c.args.table.now _ c.in-Ok.is (λ rec. open_answer (head_with c.args.timescale c.args.offset c.args.start c.args.duration c.args.depth c.args.first_number c.args.«update») (record { 0 = c.args.first_tick })) (λ rec. open_table (head_with c.args.timescale c.args.offset c.args.start c.args.duration c.args.depth c.args.first_number c.args.«update») (record { 0 = c.args.first_tick }) c.args.table.now) _ c.open.ensures.value _ c.open.ensures.table_after
