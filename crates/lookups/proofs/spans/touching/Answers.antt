use Rattle.lookups.proofs.Spanning.{part_inside}
use Rattle.lookups.proofs.spans.touching.Goals as goal

pub part-requires : goal.part-requires
part-requires c = part_inside c.args.rec _ c.args.a c.args.b _ c.touching_words.ensures
