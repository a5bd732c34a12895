-- `proper` meets its contract: the test of every byte behind the first ones is the definition's.
use Rattle.std.proofs.Common.{◌≡◌, ap, ◌∙◌, sym, Bool, ◌&&◌, ◌-◌, length, take, drop, rules}
use Rattle.std.proofs.lemmas.Iterator.{YieldsList-from_slice}
use Rattle.std.proofs.lemmas.Iterator.Search.{all_from_yields_List}
use borrow.Author.Tests.{le-leb}
use Rattle.runs.specs.Shape.{zeros}
use Rattle.file.specs.SoFar.{most_bytes}
use Rattle.file.proofs.SoFar.{is_zero, zeros_all, rest_whole}
use Rattle.file.proofs.LineSoFar.proper.Goals as goal

pub returns-then-self-le-MOST_BYTES : goal.returns-then-self-le-MOST_BYTES
returns-then-self-le-MOST_BYTES c =
    let l = c.args.self.now in
    let long : length l.bytes ≡ most_bytes = search rules in
    let behind = take (most_bytes - l.count) (drop l.count l.bytes) in
    let clear = all_from_yields_List is_zero _ _ c.all.result c.all.ensures.ran (YieldsList-from_slice behind cc) (λ x b q k. search rules) ∙ zeros_all behind ∙ ap zeros (rest_whole l long) in
    clear ∙ ap (λ (t : Bool). t && zeros (drop l.count l.bytes)) (sym (le-leb l.count most_bytes c.if-self-le-MOST_BYTES.true))
