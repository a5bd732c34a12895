-- `first_kept` meets its contract: the first word of a table that keeps something is the first start.
use borrow.Author.Rules.{rules}
use Rattle.answers.proofs.Agreed.{none_reach, first_there, first_reach}
use Rattle.answers.proofs.verdicts.first_kept.Statement.{statement}
use Rattle.answers.proofs.verdicts.first_kept.Tie as tie

pub first_kept_spec : {M : Type 1} → statement M
first_kept_spec =
    tie.close (tie.spec (λ c. search (rules, none_reach)) (λ c. search (rules, first_there)) (λ c. search (rules, first_reach)))
