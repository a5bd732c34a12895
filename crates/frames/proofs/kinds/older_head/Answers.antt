-- `kinds::older_head` meets its contract: the values are those of the line.
use Rattle.frames.specs.Fields.{field_values}
use Rattle.frames.specs.Frames.{frame_as}
use Rattle.frames.proofs.kinds.older_head.Goals as goal

pub returns : goal.returns
unfolding frame_as field_values
returns c = rw c.read_fields.ensures
