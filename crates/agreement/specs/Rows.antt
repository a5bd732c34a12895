-- A call is refused by rows: each gives an answer and its test, in the order in which the paper judges them, and what comes where
-- none applies stands last. So a row reads as one of the paper's table. Paper: Refusal numbers, and the order below the table.
use Rattle.std.specs.Prelude.{Bool, cond}

infixr 1 ◌unless◌else◌ ◌when◌else◌
-- this answer where the test fails, else what comes
abbrev pub ◌unless◌else◌ : {A : Type 0} → A → Bool → A → A
answer unless test else next = cond test next answer

-- this answer where the test holds, else what comes
abbrev pub ◌when◌else◌ : {A : Type 0} → A → Bool → A → A
answer when test else next = cond test answer next
