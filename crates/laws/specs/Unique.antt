-- No room. Each public function's statement determines its result and every word and byte that is lent to it: any two outcomes that
-- it allows for one input are equal. Said over the very contracts that the check proves. Of a function `f` of a crate, `f.Reads.Asked` is
-- what its `requires` asks of the arguments, and `f.Reads.Learnt` what its `ensures` says of the arguments, the result, and the
-- parameters when the call ends. Paper: What a statement must leave no room for.
use denote.RattleType.{RattleType}
use denote.Param.Laws.{Laws}
use Rattle.runs.specs.declared.walk.Runs.{Runs}
use Rattle.runs.specs.Walk.{runs_left}
use Rattle.std.specs.Prelude.{◌≡◌, []}
use Rattle.std.specs.Borrow.{Bor, MutBor}
use Rattle.units.proofs as units
use Rattle.window.proofs as window
use Rattle.hexdigits.proofs as hex
use Rattle.frames.proofs as frames
use Rattle.runs.proofs as runs
use Rattle.agreement.proofs as agreement
use Rattle.keeping.proofs as keeping
use Rattle.timeline.proofs as timeline
use Rattle.held.proofs as held
use Rattle.answers.proofs as answers
use Rattle.lookups.proofs as lookups
use Rattle.file.proofs as file
use Rattle.writing.proofs as writing
use Rattle.wording.proofs as wording
use Rattle.report.proofs as report
use Rattle.words.proofs as words
use Rattle.flonterri.proofs as c

-- ---- names for what is lent to change

-- A call ends with its parameters in their order. For calls with the parameters that stand above it, each name is the words or bytes
-- that the call leaves in those that are lent to it to change; `_` are the others.

-- table, words or out; ..
abbrev pub first : {A R : Type 0} → MutBor A × R → A
first = λ (words, _). (words).now

-- record, reader, desk or bytes; table, ..
abbrev pub table : {P A R : Type 0} → P × (MutBor A × R) → A
table = λ (_, (table, _)). table.now

-- head fields, first tick, table
abbrev pub opened : {P Q A R : Type 0} → P × (Q × (MutBor A × R)) → A
opened = λ (_, (_, (table, _))). table.now

-- desk or bytes, table, out
abbrev pub table_and_out : {P A B R : Type 0} → P × (MutBor A × (MutBor B × R)) → A × B
table_and_out = λ (_, (table, (out, _))). (table.now, out.now)

-- record, table, out
abbrev pub out : {P Q A R : Type 0} → P × (Q × (MutBor A × R)) → A
out = λ (_, (_, (out, _))). out.now

-- record, table, what is asked, out
abbrev pub out_after_one : {P Q S A R : Type 0} → P × (Q × (S × (MutBor A × R))) → A
out_after_one = λ (_, (_, (_, (out, _)))). out.now

-- record, table, the two ticks of a span or a number and a clock, out
abbrev pub out_after_two : {P Q S T A R : Type 0} → P × (Q × (S × (T × (MutBor A × R)))) → A
out_after_two = λ (_, (_, (_, (_, (out, _))))). out.now

-- C: record, table, ..
abbrev pub record_and_table : {A B R : Type 0} → MutBor A × (MutBor B × R) → A × B
record_and_table = λ (rec, (table, _)). (rec.now, table.now)

-- words of a record, out, ..
abbrev pub record_and_out : {A B R : Type 0} → MutBor A × (MutBor B × R) → A × B
record_and_out = λ (rec, (out, _)). (rec.now, out.now)

-- C: record, table, start, duration, count, out
abbrev pub appended : {A B P Q S C R : Type 0} → MutBor A × (MutBor B × (P × (Q × (S × (MutBor C × R))))) → A × B × C
appended = λ (rec, (table, (_, (_, (_, (out, _)))))). (rec.now, table.now, out.now)

-- C: record, table, start, duration, count, clock, out
abbrev pub paired : {A B P Q S T C R : Type 0} → MutBor A × (MutBor B × (P × (Q × (S × (T × (MutBor C × R)))))) → A × B × C
paired = λ (rec, (table, (_, (_, (_, (_, (out, _))))))). (rec.now, table.now, out.now)

-- C: bytes, record, table, out
abbrev pub record_table_out : {P A B C R : Type 0} → P × (MutBor A × (MutBor B × (MutBor C × R))) → A × B × C
record_table_out = λ (_, (rec, (table, (out, _)))). (rec.now, table.now, out.now)

-- C: record, table, bytes, out
abbrev pub bytes_and_out : {P Q A B R : Type 0} → P × (Q × (MutBor A × (MutBor B × R))) → A × B
bytes_and_out = λ (_, (_, (bytes, (out, _)))). (bytes.now, out.now)

-- ---- what is said of a function

-- K are its lifetimes, A its arguments, X its results, and E its parameters when the call ends.

-- it takes any arguments
abbrev pub AnyInput : {K A : Type 0} → (K → A → Type 0) → Type 0
AnyInput {K} {A} asked = (κs : K) (a : A) → asked κs a

module _ {K A X E : Type 0} where
  -- two results that it allows are equal
  abbrev pub OneResult : (K → A → X → E → Type 0) → Type 0
  OneResult said = (κs : K) (a : A) (x y : X) (e f : E) → said κs a x e → said κs a y f → x ≡ y

  -- and so is what is lent in two outcomes: the words or bytes of one parameter, or of several
  abbrev pub OneLent : {B : Type 0} → (K → A → X → E → Type 0) → (E → B) → Type 0
  OneLent said lent = (κs : K) (a : A) (x y : X) (e f : E) → said κs a x e → said κs a y f → lent e ≡ lent f

-- two results that are parts of a table have equal words
abbrev pub OnePart : {K A X E : Type 0} → (K → A → Bor X → E → Type 0) → Type 0
OnePart {K} {A} {X} {E} said = (κs : K) (a : A) (x y : Bor X) (e f : E) → said κs a x e → said κs a y f → x.now ≡ y.now

-- and for a walk over runs, by the runs that it has yet to come to
abbrev pub OneWalk : {K A E : Type 0} → (K → A → Runs → E → Type 0) → Type 0
OneWalk {K} {A} {E} said = (κs : K) (a : A) (x y : Runs) (e f : E) → said κs a x e → said κs a y f → runs_left x ≡ runs_left y

-- an entry point that lends nothing to change, and one that does
pub record Entry {K A X E : Type 0} (asked : K → A → Type 0) (said : K → A → X → E → Type 0) : Type 0 where
  pub any : AnyInput asked
  pub one : OneResult said

pub record Lending {K A X E B : Type 0} (asked : K → A → Type 0) (said : K → A → X → E → Type 0) (lent : E → B) : Type 0 where
  pub any : AnyInput asked
  pub one : OneResult said
  pub words : OneLent said lent

-- the entry points: each takes any input
pub record Entries : Type 0 where
  -- timeline
  pub opening : Lending timeline.«open».Reads.Asked timeline.«open».Reads.Learnt opened
  pub append : Lending timeline.append.Reads.Asked timeline.append.Reads.Learnt table
  pub append_stamp : Lending timeline.append_stamp.Reads.Asked timeline.append_stamp.Reads.Learnt table
  pub append_trim : Lending timeline.append_trim.Reads.Asked timeline.append_trim.Reads.Learnt table
  pub trim : Lending timeline.trim.Reads.Asked timeline.trim.Reads.Learnt table
  pub zero_record_lem : Entry timeline.zero_record.Reads.Asked timeline.zero_record.Reads.Learnt
  -- held
  pub held_append : Lending held.append.Reads.Asked held.append.Reads.Learnt table
  pub held_append_stamp : Lending held.append_stamp.Reads.Asked held.append_stamp.Reads.Learnt table
  pub held_append_trim : Lending held.append_trim.Reads.Asked held.append_trim.Reads.Learnt table
  pub held_trim : Lending held.trim.Reads.Asked held.trim.Reads.Learnt table
  pub follow : Lending held.follow.Reads.Asked held.follow.Reads.Learnt table
  -- answers
  pub verdict : Entry answers.verdicts.verdict.Reads.Asked answers.verdicts.verdict.Reads.Learnt
  pub verdict_whole_lem : Entry answers.verdicts.verdict_whole.Reads.Asked answers.verdicts.verdict_whole.Reads.Learnt
  pub percent : Entry answers.shares.percent.Reads.Asked answers.shares.percent.Reads.Learnt
  pub verdict_percent_lem : Entry answers.Verdict.percent.Reads.Asked answers.Verdict.percent.Reads.Learnt
  pub covered_edge_lem : Entry answers.edges.covered_edge.Reads.Asked answers.edges.covered_edge.Reads.Learnt
  -- lookups
  pub availability : Entry lookups.times.availability.Reads.Asked lookups.times.availability.Reads.Learnt
  pub available_at : Entry lookups.times.available_at.Reads.Asked lookups.times.available_at.Reads.Learnt
  pub full_tick_lem : Entry lookups.stamps.full_tick.Reads.Asked lookups.stamps.full_tick.Reads.Learnt
  pub touching_words_lem : Entry lookups.spans.touching_words.Reads.Asked lookups.spans.touching_words.Reads.Learnt
  -- the part handed back, by its words
  pub touching_any : AnyInput lookups.spans.touching.Reads.Asked
  pub touching : OnePart lookups.spans.touching.Reads.Learnt
  -- file
  pub read : Lending file.read.Reads.Asked file.read.Reads.Learnt table
  pub line_end : Entry file.line_end.Reads.Asked file.line_end.Reads.Learnt
  pub line_none : Entry file.LineSoFar.none.Reads.Asked file.LineSoFar.none.Reads.Learnt
  pub line_len : Entry file.LineSoFar.len.Reads.Asked file.LineSoFar.len.Reads.Learnt
  pub line_first_any : AnyInput file.LineSoFar.first_bytes.Reads.Asked
  pub line_first : OnePart file.LineSoFar.first_bytes.Reads.Learnt
  pub line_more : Entry file.LineSoFar.more.Reads.Asked file.LineSoFar.more.Reads.Learnt
  pub line_too_long : Entry file.LineSoFar.too_long.Reads.Asked file.LineSoFar.too_long.Reads.Learnt
  pub begins : Entry file.begin.Reads.Asked file.begin.Reads.Learnt
  pub feed : Lending file.feed.Reads.Asked file.feed.Reads.Learnt table
  pub settled : Entry file.settled.Reads.Asked file.settled.Reads.Learnt
  pub finish : Lending file.finish.Reads.Asked file.finish.Reads.Learnt table
  -- writing
  pub write : Lending writing.write.Reads.Asked writing.write.Reads.Learnt out
  -- wording
  pub put_line : Lending wording.put_line.Reads.Asked wording.put_line.Reads.Learnt first
  -- report
  pub desk_begins : Entry report.begin.Reads.Asked report.begin.Reads.Learnt
  pub desk_feed : Lending report.feed.Reads.Asked report.feed.Reads.Learnt table
  pub desk_settled : Entry report.settled.Reads.Asked report.settled.Reads.Learnt
  pub answer : Lending report.answer.Reads.Asked report.answer.Reads.Learnt table_and_out
  pub answer_whole : Lending report.answer_whole.Reads.Asked report.answer_whole.Reads.Learnt table_and_out
  -- flonterri, for C
  pub c_open : Lending c.flonterri_open.Reads.Asked c.flonterri_open.Reads.Learnt record_and_table
  pub c_append : Lending c.flonterri_append.Reads.Asked c.flonterri_append.Reads.Learnt appended
  pub c_append_stamp : Lending c.flonterri_append_stamp.Reads.Asked c.flonterri_append_stamp.Reads.Learnt appended
  pub c_append_trim : Lending c.flonterri_append_trim.Reads.Asked c.flonterri_append_trim.Reads.Learnt paired
  pub c_trim : Lending c.flonterri_trim.Reads.Asked c.flonterri_trim.Reads.Learnt record_and_table
  pub c_verdict : Lending c.flonterri_verdict.Reads.Asked c.flonterri_verdict.Reads.Learnt out_after_one
  pub c_verdict_whole : Lending c.flonterri_verdict_whole.Reads.Asked c.flonterri_verdict_whole.Reads.Learnt out
  pub c_availability : Lending c.flonterri_availability.Reads.Asked c.flonterri_availability.Reads.Learnt out_after_one
  pub c_available_at : Lending c.flonterri_available_at.Reads.Asked c.flonterri_available_at.Reads.Learnt out_after_two
  pub c_full_tick : Lending c.flonterri_full_tick.Reads.Asked c.flonterri_full_tick.Reads.Learnt out_after_one
  pub c_touching : Lending c.flonterri_touching.Reads.Asked c.flonterri_touching.Reads.Learnt out_after_two
  pub c_covered_edge : Lending c.flonterri_covered_edge.Reads.Asked c.flonterri_covered_edge.Reads.Learnt out
  pub c_read : Lending c.flonterri_read.Reads.Asked c.flonterri_read.Reads.Learnt record_table_out
  pub c_write : Lending c.flonterri_write.Reads.Asked c.flonterri_write.Reads.Learnt bytes_and_out
  -- words
  pub record_in_lem : Entry words.record_in.Reads.Asked words.record_in.Reads.Learnt
  pub record_beside_lem : Entry words.record_beside.Reads.Asked words.record_beside.Reads.Learnt
  pub words_of_verdict_lem : Entry words.showing.VerdictToldU645.words.Reads.Asked words.showing.VerdictToldU645.words.Reads.Learnt
  pub words_of_availability_lem : Entry words.showing.AvailabilityToldI643.words.Reads.Asked words.showing.AvailabilityToldI643.words.Reads.Learnt
  pub words_of_available_lem : Entry words.showing.BoolToldU641.words.Reads.Asked words.showing.BoolToldU641.words.Reads.Learnt
  pub words_of_tick_lem : Entry words.showing.OptionTickToldU642.words.Reads.Asked words.showing.OptionTickToldU642.words.Reads.Learnt
  pub words_of_touching_lem : Entry words.showing.WordsToldU642.words.Reads.Asked words.showing.WordsToldU642.words.Reads.Learnt
  pub words_of_edge_lem : Entry words.showing.OptionMillisToldU642.words.Reads.Asked words.showing.OptionMillisToldU642.words.Reads.Learnt
  pub words_of_length_lem : Entry words.showing.UsizeToldU641.words.Reads.Asked words.showing.UsizeToldU641.words.Reads.Learnt
  -- keeping
  pub accepted : Entry keeping.Changed.accepted.Reads.Asked keeping.Changed.accepted.Reads.Learnt
  pub store_record : Lending keeping.Changed.store.Reads.Asked keeping.Changed.store.Reads.Learnt table
  pub refused : Entry keeping.Changed.refused.Reads.Asked keeping.Changed.refused.Reads.Learnt
  -- agreement
  pub agrees : Entry agreement.Record.agrees.Reads.Asked agreement.Record.agrees.Reads.Learnt
  pub record_held_lem : Entry agreement.Record.held.Reads.Asked agreement.Record.held.Reads.Learnt
  pub counts_held_lem : Entry agreement.counts_held.Reads.Asked agreement.counts_held.Reads.Learnt
  pub is_passed_lem : Entry agreement.is_passed.Reads.Asked agreement.is_passed.Reads.Learnt
  pub refusal_number_lem : Entry agreement.refusal.Refusal.number.Reads.Asked agreement.refusal.Refusal.number.Reads.Learnt
  pub refusal_distance_lem : Entry agreement.refusal.Refusal.distance.Reads.Asked agreement.refusal.Refusal.distance.Reads.Learnt
  -- runs
  pub run_held_lem : Entry runs.Run.held.Reads.Asked runs.Run.held.Reads.Learnt
  -- window
  pub head_held_lem : Entry window.Head.held.Reads.Asked window.Head.held.Reads.Learnt
  pub head_new : Entry window.Head.new.Reads.Asked window.Head.new.Reads.Learnt
  pub head_fields : Entry window.HeadFieldsFromHead.from.Reads.Asked window.HeadFieldsFromHead.from.Reads.Learnt
  -- frames and hex
  pub line_length_lem : Entry frames.line_length.Reads.Asked frames.line_length.Reads.Learnt
  pub read_line : Entry frames.read_line.Reads.Asked frames.read_line.Reads.Learnt
  pub head_line_fields : Entry frames.HeadFieldsFromHeadLine.from.Reads.Asked frames.HeadFieldsFromHeadLine.from.Reads.Learnt
  pub head_line_of : Entry frames.HeadLineFromHeadFields.from.Reads.Asked frames.HeadLineFromHeadFields.from.Reads.Learnt
  pub are_digits_lem : Entry hex.are_digits.Reads.Asked hex.are_digits.Reads.Learnt
  pub write_digits_any : AnyInput hex.write_digits.Reads.Asked
  pub write_digits : OneLent hex.write_digits.Reads.Learnt first
  -- units
  pub tick_held_lem : Entry units.limited.TickLimited.held.Reads.Asked units.limited.TickLimited.held.Reads.Learnt
  pub millis_held_lem : Entry units.limited.MillisLimited.held.Reads.Asked units.limited.MillisLimited.held.Reads.Learnt
  pub timescale_held_lem : Entry units.limited.TimescaleLimited.held.Reads.Asked units.limited.TimescaleLimited.held.Reads.Learnt
  pub span_held_lem : Entry units.limited.SpanLimited.held.Reads.Asked units.limited.SpanLimited.held.Reads.Learnt
  pub number_held_lem : Entry units.limited.NumberLimited.held.Reads.Asked units.limited.NumberLimited.held.Reads.Learnt
  pub tick_new : Entry units.limited.TickLimited.new.Reads.Asked units.limited.TickLimited.new.Reads.Learnt
  pub millis_new : Entry units.limited.MillisLimited.new.Reads.Asked units.limited.MillisLimited.new.Reads.Learnt
  pub timescale_new : Entry units.limited.TimescaleLimited.new.Reads.Asked units.limited.TimescaleLimited.new.Reads.Learnt
  pub span_new : Entry units.limited.SpanLimited.new.Reads.Asked units.limited.SpanLimited.new.Reads.Learnt
  pub number_new : Entry units.limited.NumberLimited.new.Reads.Asked units.limited.NumberLimited.new.Reads.Learnt
  pub tick_of : Entry units.limited.TickLimited.of.Reads.Asked units.limited.TickLimited.of.Reads.Learnt
  pub tick_number : Entry units.limited.TickLimited.number.Reads.Asked units.limited.TickLimited.number.Reads.Learnt
  pub millis_of : Entry units.limited.MillisLimited.of.Reads.Asked units.limited.MillisLimited.of.Reads.Learnt
  pub millis_number : Entry units.limited.MillisLimited.number.Reads.Asked units.limited.MillisLimited.number.Reads.Learnt
  pub timescale_of : Entry units.limited.TimescaleLimited.of.Reads.Asked units.limited.TimescaleLimited.of.Reads.Learnt
  pub timescale_number : Entry units.limited.TimescaleLimited.number.Reads.Asked units.limited.TimescaleLimited.number.Reads.Learnt
  pub span_of : Entry units.limited.SpanLimited.of.Reads.Asked units.limited.SpanLimited.of.Reads.Learnt
  pub span_number : Entry units.limited.SpanLimited.number.Reads.Asked units.limited.SpanLimited.number.Reads.Learnt
  pub number_of : Entry units.limited.NumberLimited.of.Reads.Asked units.limited.NumberLimited.of.Reads.Learnt
  pub number_number : Entry units.limited.NumberLimited.number.Reads.Asked units.limited.NumberLimited.number.Reads.Learnt
  pub grain_between : Entry units.Grain.between.Reads.Asked units.Grain.between.Reads.Learnt
  pub stamp_against : Entry units.standing.StampStart.against.Reads.Asked units.standing.StampStart.against.Reads.Learnt
  pub stamp_full : Entry units.Stamp.full.Reads.Asked units.Stamp.full.Reads.Learnt
  pub tick_against : Entry units.standing.WideTickStart.against.Reads.Asked units.standing.WideTickStart.against.Reads.Learnt

-- the same of an answer of any kind T: its number and its distance, which take any input where the answer borrows nothing, and else ask
-- only that what it borrows is there yet; and what is told of it, in n words of the kind W, where callers show that out has n. The
-- other parameters are what W, n and T bring with them.
pub record AnyAnswer : Type 2 where
  pub any_number_input : (A : RattleType) (L : Laws A) → A.lives ≡ [] → AnyInput (agreement.number_of.Reads.Asked A L)
  pub any_number : (A : RattleType) (L : Laws A) → OneResult (agreement.number_of.Reads.Learnt A L)
  pub any_distance_input : (A : RattleType) (L : Laws A) → A.lives ≡ [] → AnyInput (agreement.distance_of.Reads.Asked A L)
  pub any_distance : (A : RattleType) (L : Laws A) → OneResult (agreement.distance_of.Reads.Learnt A L)
  pub any_told : (W : RattleType) (n : _) (T : RattleType) (LW : _) (F : _) (LT : _) (CW : _) (CT : _) (KW : _) (p : _) (G : _) (q : _) (KT : _) (r : _) →
      OneResult (words.tell.Reads.Learnt W n T LW F LT CW CT KW p G q KT r)
  pub any_told_words : (W : RattleType) (n : _) (T : RattleType) (LW : _) (F : _) (LT : _) (CW : _) (CT : _) (KW : _) (p : _) (G : _) (q : _) (KT : _) (r : _) →
      OneLent (words.tell.Reads.Learnt W n T LW F LT CW CT KW p G q KT r) first

-- the inner functions that are public: their callers show what they ask
pub record Inner : Type 0 where
  pub give_back : OneResult words.give_back.Reads.Learnt
  pub give_back_words : OneLent words.give_back.Reads.Learnt first
  pub give_appended : OneResult words.give_appended.Reads.Learnt
  pub give_appended_words : OneLent words.give_appended.Reads.Learnt record_and_out
  pub give_read : OneResult words.give_read.Reads.Learnt
  pub give_read_words : OneLent words.give_read.Reads.Learnt record_and_out
  pub append_joined : OneResult keeping.append_joined.Reads.Learnt
  pub append_joined_words : OneLent keeping.append_joined.Reads.Learnt table
  pub count_passed_lem : OneResult keeping.count_passed.Reads.Learnt
  pub write_line : OneResult frames.write_line.Reads.Learnt
  pub write_line_words : OneLent frames.write_line.Reads.Learnt first
  pub number : OneResult hex.number.Reads.Learnt
  pub before_end_lem : OneResult window.held.HeldHead.before_end.Reads.Learnt
  pub passed_ends : OneResult window.held.HeldHead.passed_ends.Reads.Learnt
  pub needed_at : OneResult window.held.HeldHead.needed_at.Reads.Learnt
  pub needed_whole : OneResult window.held.HeldHead.needed_whole.Reads.Learnt
  pub least_count_lem : OneResult window.held.HeldHead.least_count.Reads.Learnt
  pub walk : OneWalk runs.walk.Runs.of.Reads.Learnt
  pub run_at : OneResult runs.table.run_at.Reads.Learnt
  pub run_end_lem : OneResult runs.Run.end.Reads.Learnt
  pub run_joins : OneResult runs.Run.joins.Reads.Learnt
  pub run_reference : OneResult runs.Run.reference.Reads.Learnt
  pub passed_by : OneResult runs.Run.passed_by.Reads.Learnt
  pub passed_upto_lem : OneResult runs.table.passed_upto.Reads.Learnt
  pub needs_run_lem : OneResult runs.table.needs_run.Reads.Learnt
  pub drop_front : OneResult runs.table.drop_front.Reads.Learnt
  pub drop_front_words : OneLent runs.table.drop_front.Reads.Learnt first
  pub store : OneResult runs.table.store.Reads.Learnt
  pub store_words : OneLent runs.table.store.Reads.Learnt first
  pub clear : OneLent runs.table.clear.Reads.Learnt first
  pub tick_grains : OneResult units.Tick.grains.Reads.Learnt
  pub millis_grains : OneResult units.Millis.grains.Reads.Learnt
  pub span_grains : OneResult units.Span.grains.Reads.Learnt
