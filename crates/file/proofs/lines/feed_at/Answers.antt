-- `feed_at` meets its contract: the place that the search gives is the definition's.
use Rattle.std.proofs.Common.{◌∙◌, rules}
use Rattle.std.proofs.lemmas.Iterator.{YieldsList-from_slice}
use Rattle.std.proofs.lemmas.Iterator.Search.{position_from_yields_List}
use Rattle.file.proofs.Cuts.{is_feed, feed_found}
use Rattle.file.proofs.lines.feed_at.Goals as goal

pub returns : goal.returns
returns c =
    let s = c.args.bytes.now in
    position_from_yields_List is_feed _ _ c.position.result c.position.ensures.ran (YieldsList-from_slice s cc) (λ x b q k. search rules) ∙ feed_found s
