-- The loop keeps its invariant, and each way out of it says what the reads came to.
use Rattle.std.proofs.Common.{refl, ap, ◌<◌, length, take, arith}
use Rattle.report.proofs.Turns.{turned_none, turned_more, left, on_failure, reads_ended, reads_settled, known_ended, known_settled}
use Rattle.report.proofs.running.feed_all.Goals as goal

pub loop-init : goal.loop-init
loop-init g c = turned_none _ _ _ _ refl c.begin-desk.ensures

pub returns-in_err-count-clause-failed : goal.returns-in_err-count-clause-failed
returns-in_err-count-clause-failed g c = on_failure _ (left _ _ _ _ _ _ c.loop.invariant)

pub returns-then-count-eq0-clause-fed : goal.returns-then-count-eq0-clause-fed
returns-then-count-eq0-clause-fed g c = reads_ended _ _ _ _ _ _ c.loop.invariant

pub returns-then-count-eq0-clause-known : goal.returns-then-count-eq0-clause-known
returns-then-count-eq0-clause-known g c =
    let read = c.in_ok-count.ensures.bytes in
    let room : 0 < length c.read.new.buf = omega (arith, c.read.auto.buf, c.loop.invariant.long) in
    known_ended _ _ _ _ _ _ _ _ c.loop.invariant (ap (λ n. take n c.read.new.buf) c.if-count-eq0.true) read.0 (read.1 c.if-count-eq0.true room)

pub returns-then-settled-clause-fed : goal.returns-then-settled-clause-fed
returns-then-settled-clause-fed g c =
    reads_settled _ _ _ _ _ _ c.loop.invariant _ _ _ c.feed-desk.ensures.value c.feed-desk.ensures.table_after _ c.settled.ensures c.if-settled.true

pub returns-then-settled-clause-known : goal.returns-then-settled-clause-known
returns-then-settled-clause-known g c =
    known_settled _ _ _ _ _ _ _ c.loop.invariant _ _ _ c.in_ok-count.ensures.bytes.0 c.feed-desk.ensures.value c.feed-desk.ensures.table_after _ c.settled.ensures
    c.if-settled.true

pub loop-preserved : goal.loop-preserved
loop-preserved g c =
    turned_more _ _ _ _ _ _ c.loop.invariant _ _ _ _ _ c.in_ok-count.ensures.bytes.0 c.read.auto.buf c.feed-desk.auto.table c.feed-desk.ensures.value
    c.feed-desk.ensures.table_after

pub returns-clause-failed : goal.returns-clause-failed
returns-clause-failed g c = (left _ _ _ _ _ _ c.loop.invariant)
