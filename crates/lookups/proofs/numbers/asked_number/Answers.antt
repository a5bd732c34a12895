use Rattle.std.proofs.Common.{◌∙◌}
use Rattle.lookups.proofs.Numbering.{number_over}
use Rattle.lookups.proofs.numbers.asked_number.Goals as goal

pub returns-in_err-new : goal.returns-in_err-new
returns-in_err-new c = c.from_residual.ensures ∙ number_over _ _ c.requires _ _ c.new.ensures c.in_err-new.was
