-- `kinds::Kind::frame` meets its contract: in each arm the values are those of the line.
use Rattle.frames.specs.Fields.{field_values}
use Rattle.frames.specs.Frames.{frame_as}
use Rattle.frames.proofs.kinds.Kind.frame.Goals as goal

pub returns-in-OlderHead : goal.returns-in-OlderHead
returns-in-OlderHead c = rw c.in-OlderHead.is c.older_head.ensures

pub returns-in-S : goal.returns-in-S
unfolding frame_as field_values
returns-in-S c = rw (c.in-S.is, c.read_fields.ensures)

pub returns-in-End : goal.returns-in-End
unfolding frame_as field_values
returns-in-End c = rw (c.in-End.is, c.read_fields-in-End.ensures)

pub returns-in-Clock : goal.returns-in-Clock
unfolding frame_as field_values
returns-in-Clock c = rw (c.in-Clock.is, c.read_fields-in-Clock.ensures)

pub returns-in-Head : goal.returns-in-Head
returns-in-Head c = rw c.in-Head.is c.head.ensures
