-- `percent` meets its contract, test by test.
use borrow.Author.Rules.{rules}
use Rattle.answers.proofs.Percents.{none_of_nothing, none_of_more, some_percent}
use Rattle.answers.proofs.shares.percent.Statement.{statement}
use Rattle.answers.proofs.shares.percent.Tie as tie

pub percent_spec : {M : Type 1} → statement M
percent_spec =
    tie.close
    (tie.spec
    (λ c. search (rules, none_of_nothing))
    (λ c. search (rules, none_of_more))
    (λ c κs. search rules)
    (λ c. search (rules, some_percent)))
