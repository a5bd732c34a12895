-- `line_end` meets its contract, whether there is a feed or none.
use Rattle.std.proofs.Common.{◌∙◌}
use Rattle.file.proofs.Cuts.{end_is}
use Rattle.file.proofs.lines.line_end.Goals as goal

pub returns : goal.returns
returns c = c.unwrap_or.ensures ∙ end_is c.args.bytes.now _ c.feed_at.ensures
