use Rattle.std.proofs.Common.{rules}
use Rattle.lookups.proofs.Spanning.{from_fits, upto_fits}
use Rattle.lookups.proofs.spans.touched.Goals as goal

pub overflow_mul-result : goal.overflow_mul-result
overflow_mul-result c = search (rules, from_fits)

pub overflow_mul-result-2 : goal.overflow_mul-result-2
overflow_mul-result-2 c = search (rules, upto_fits)
