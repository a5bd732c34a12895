use Rattle.std.proofs.Common.{not, ap, arith}
use Rattle.units.proofs.Guards.{told}
use Rattle.agreement.proofs.Agreeing.{agree_shaped}
use Rattle.lookups.proofs.spans.touching_words.Goals as goal

pub touched-requires : goal.touched-requires
touched-requires c =
    (agree_shaped _ _ (told _ _ c.agrees.ensures (ap not c.if-not-agrees.false)), omega (arith, c.if-b-a.false))
