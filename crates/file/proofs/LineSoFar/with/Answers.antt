-- `with` meets its contract: the part stands behind the first bytes, as far as there is room.
use Rattle.file.proofs.SoFar.{with_is}
use Rattle.file.proofs.LineSoFar.with.Goals as goal

pub returns : goal.returns
returns c come e = with_is c.args.self come e _ c.len-count.ensures _ _ c.min.ensures _ c.copy_from_slice.ensures.after
