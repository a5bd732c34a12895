-- `write_head` meets its contract: whether the update period is there says the row and the values.
use Rattle.std.specs.Prelude.{Some, None}
use Rattle.frames.proofs.Put.{head_put}
use Rattle.frames.proofs.write_head.Goals as goal

pub returns-in-None : goal.returns-in-None
returns-in-None c = head_put c.args.h None c.in-None.is _ _ _ (rw c.number-kind.ensures at c.write_fields.ensures)

pub returns-in-Some : goal.returns-in-Some
returns-in-Some c = head_put c.args.h (Some _) c.in-Some.is _ _ _ (rw c.number-kind-in-Some.ensures at c.write_fields-in-Some.ensures)
