-- `edge_of` meets its contract: the limit, none, or the quotient, each where it is the latest clock.
use borrow.Author.Rules.{rules}
use Rattle.answers.proofs.Edging.{edge_end, edge_never, edge_limit, edge_at}
use Rattle.answers.proofs.edges.edge_of.Statement.{statement}
use Rattle.answers.proofs.edges.edge_of.Tie as tie

pub edge_of_spec : {M : Type 1} → statement M
edge_of_spec =
    tie.close
    (tie.spec
    (λ c κs. search rules)
    (λ c. search (rules, edge_end))
    (λ c κs. search rules)
    (λ c κs. search rules)
    (λ c κs. search rules)
    (λ c κs. search rules)
    (λ c. search rules)
    (λ c. search rules)
    (λ c. search (rules, edge_never))
    (λ c. search rules)
    (λ c. search (rules, edge_limit))
    (λ c. search (rules, edge_at)))
