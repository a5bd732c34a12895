-- `take_line` meets its contract. An S line has a duration of 32 bits, and a line that is no frame is refused at every stage.
use Rattle.file.proofs.Places.{at_headed, at_open, line_bad}
use Rattle.file.proofs.Steps.{refused_by}
use Rattle.file.proofs.Reading.take_line.Goals.{in_default-None-via-in-Nothing+in-None, in_default-None-via-in-Headed+in-None, in_default-None-via-in-Open+in-None, in_default-None-via-in-Filled+in-None}
use Rattle.file.proofs.Reading.take_line.Goals as goal

pub on_headed-requires : goal.on_headed-requires
on_headed-requires c = at_headed c.args.self _ c.requires _ _ c.read_line.ensures _ c.in-Headed-Some.is-1 c.in-Headed-Some.is-0

pub on_open-requires : goal.on_open-requires
on_open-requires c = at_open c.args.self _ c.requires _ _ c.read_line.ensures _ c.in-Open-Some.is-1 c.in-Open-Some.is-0

pub returns-in_default-None : goal.returns-in_default-None
returns-in_default-None c =
    refused_by c.args.self _ _ _ c.refused-in_default-None.ensures _
    (elim c.in_default-None.branch [
      | in_default-None-via-in-Nothing+in-None w ↦
          line_bad c.args.self _ _ _ c.read_line.ensures w.in_default-None.not-Refused-0 w.in_default-None.is-1
      | in_default-None-via-in-Headed+in-None w ↦
          line_bad c.args.self _ _ _ c.read_line.ensures w.in_default-None.not-Refused-0 w.in_default-None.is-1
      | in_default-None-via-in-Open+in-None w ↦
          line_bad c.args.self _ _ _ c.read_line.ensures w.in_default-None.not-Refused-0 w.in_default-None.is-1
      | in_default-None-via-in-Filled+in-None w ↦
          line_bad c.args.self _ _ _ c.read_line.ensures w.in_default-None.not-Refused-0 w.in_default-None.is-1
    ])
