use Rattle.std.proofs.Common.{rules, ap, ◌∙◌, arith}
use Rattle.agreement.proofs.Agreeing.{agree_shaped}
use Rattle.lookups.specs.Available.{numbered}
use Rattle.lookups.proofs.Numbering.{first_fits, number_under, number_found}
use Rattle.lookups.proofs.numbers.kept_number.Goals as goal

pub overflow_add-first : goal.overflow_add-first
overflow_add-first c = search (rules, first_fits)

pub returns-in_err-place : goal.returns-in_err-place
returns-in_err-place c = c.from_residual.ensures ∙ number_under _ _ c.requires _ (omega (arith, c.in_err-place.ensures))

pub nth-requires : goal.nth-requires
nth-requires c = search (rules, agree_shaped)

pub returns : goal.returns
returns c =
    let place = c.in_ok-place.ensures in
    number_found _ _ c.requires _ _ place.0 (c.nth.ensures ∙ ap (numbered 0 _) place.1)
