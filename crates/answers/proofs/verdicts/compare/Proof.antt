-- `compare` meets its contract, way by way.
use borrow.Author.Rules.{rules}
use Rattle.answers.proofs.Judging.{none_covered, all_covered, first_lacking, end_lacking}
use Rattle.answers.proofs.verdicts.compare.Statement.{statement}
use Rattle.answers.proofs.verdicts.compare.Tie as tie

pub compare_spec : {M : Type 1} → statement M
compare_spec =
    tie.close
    (tie.spec
    (λ c. search rules)
    (λ c κs. search rules)
    (λ c κs. search rules)
    (λ c. search (rules, none_covered))
    (λ c. search rules)
    (λ c. search (rules, all_covered))
    (λ c. search (rules, first_lacking))
    (λ c. search (rules, end_lacking)))
