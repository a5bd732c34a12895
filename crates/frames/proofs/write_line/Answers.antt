-- `write_line` meets its contract: in each arm the row and the values are those of the frame.
use Rattle.frames.proofs.Put.{line_put}
use Rattle.frames.proofs.write_line.Goals as goal

pub returns-in-S : goal.returns-in-S
returns-in-S c = rw c.in-S.is (line_put _ _ _ _ (rw c.number.ensures at c.write_fields.ensures))

pub returns-in-End : goal.returns-in-End
returns-in-End c = rw c.in-End.is (line_put _ _ _ _ (rw c.number-in-End.ensures at c.write_fields-in-End.ensures))

pub returns-in-Clock : goal.returns-in-Clock
returns-in-Clock c = rw c.in-Clock.is (line_put _ _ _ _ (rw c.number-in-Clock.ensures at c.write_fields-in-Clock.ensures))
