-- `on_headed` meets its contract, by the frame and by what opening answers.
use Rattle.file.proofs.SLines.{first_refused, first_asks, first_taken}
use Rattle.file.proofs.Places.{headed_asks, headed_s}
use Rattle.file.proofs.Reading.on_headed.Goals as goal

pub take_s-requires : goal.take_s-requires
take_s-requires c =
    let asks = headed_asks c.args.self c.args.table.now c.args.frame _ c.in-S.is c.requires in
    first_asks c.args.self c.args.table.now c.in-S.s asks _ c.from.ensures _ c.first_tick.ensures _ c.open-opened.ensures.value _ c.open-opened.ensures.table_after
    c.in-Ok.is

pub returns-in-Ok : goal.returns-in-Ok
returns-in-Ok c =
    let asks = headed_asks c.args.self c.args.table.now c.args.frame _ c.in-S.is c.requires in
    headed_s c.args.self _ c.args.frame _ c.in-S.is _ _
    (first_taken c.args.self _ _ asks _ c.from.ensures _ c.first_tick.ensures _ c.open-opened.ensures.value _ c.open-opened.ensures.table_after
    c.in-Ok.is _ _ c.take_s.ensures)

pub returns-in-Err : goal.returns-in-Err
returns-in-Err c =
    let asks = headed_asks c.args.self c.args.table.now c.args.frame _ c.in-S.is c.requires in
    headed_s c.args.self _ c.args.frame _ c.in-S.is _ _
    (first_refused c.args.self _ _ asks _ c.from.ensures _ c.first_tick.ensures _ c.open-opened.ensures.value _ c.open-opened.ensures.table_after
    _ c.in-Err.is _ c.refused-in-Err.ensures)
