-- `write` meets its contract, test by test.
use Rattle.writing.proofs.Whole.{write_disagrees, write_nothing, write_product, write_total, write_short, write_asks, write_whole}
use mathlib.Core.Bool.{not}
use mathlib.Core.Path.{ap}
use Rattle.writing.proofs.write.Goals as goal

pub returns-then-not-agrees : goal.returns-then-not-agrees
returns-then-not-agrees c =
    let k = write_disagrees c.args.rec c.args.table.now c.args.out.now _ c.agrees.ensures (ap not c.if-not-agrees.true) in
    record { value = k.0; out_after = k.1 }

pub returns-then-used-eq0 : goal.returns-then-used-eq0
returns-then-used-eq0 c =
    let k = write_nothing c.args.rec c.args.table.now c.args.out.now _ c.agrees.ensures (ap not c.if-not-agrees.false) c.if-used-eq0.true in
    record { value = k.0; out_after = k.1 }

pub overflow_mul-used : goal.overflow_mul-used
overflow_mul-used c =
    write_product c.args.rec c.args.table.now c.args.out.now _ c.agrees.ensures (ap not c.if-not-agrees.false) c.if-used-eq0.false

pub overflow_add-used : goal.overflow_add-used
overflow_add-used c =
    write_total c.args.rec c.args.table.now c.args.out.now _ c.agrees.ensures (ap not c.if-not-agrees.false) c.if-used-eq0.false

pub returns-then-out-used : goal.returns-then-out-used
returns-then-out-used c =
    let k = write_short c.args.rec c.args.table.now c.args.out.now _ c.agrees.ensures (ap not c.if-not-agrees.false) c.if-used-eq0.false c.if-out-used.true in
    record { value = k.0; out_after = k.1 }

pub write_all-requires : goal.write_all-requires
write_all-requires c =
    write_asks c.args.rec c.args.table.now c.args.out.now _ c.agrees.ensures (ap not c.if-not-agrees.false) c.if-used-eq0.false
    c.if-out-used.false

pub returns : goal.returns
returns c =
    let k = write_whole c.args.rec c.args.table.now c.args.out.now _ c.agrees.ensures (ap not c.if-not-agrees.false) c.if-used-eq0.false
    c.if-out-used.false _ _ c.write_all.ensures in
    record { value = k.0; out_after = k.1 }
