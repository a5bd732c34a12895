-- What stays of references at a clock: those that are not spent. And what a call that changes leaves, by its outcome: refused,
-- it returns the record as it came and changes no word. Paper: Window, needed, spent; Append and trim; Refusal numbers.
use Rattle.std.specs.Prelude.{Result, Err, Ok, ℕ, ◌+◌, ◌-◌, cond, List, [], ◌∷◌, length}
use Rattle.window.specs.declared.Head.{Head}
use Rattle.window.specs.declared.Reference.{Reference}
use Rattle.window.specs.Window.{end_of, passed}
use Rattle.runs.specs.Encoding.{canonical, runs_for}
use Rattle.agreement.specs.declared.Record.{Record}
use Rattle.agreement.specs.declared.refusal.Refusal.{Refusal}
use Rattle.keeping.specs.declared.Changed.{Changed}

-- those whose end has not passed. For a reference that lasts and starts before the period end, as every kept one does and every
-- one of an accepted append, that is: not spent (`OnlySpent` of laws/specs/Spent.antt: `compared`, `trim`, `append`)
unfoldable pub unspent : Head → ℕ → List Reference → List Reference
unspent h c [] = []
unspent h c (r ∷ rs) = cond (passed h (end_of r) c) (unspent h c rs) (r ∷ unspent h c rs)

-- the record when it keeps just `stay` of the references `all`: the others are counted as dropped
abbrev pub keeping : Record → List Reference → List Reference → Record
keeping rec all stay =
    record {
      head = rec.head;
      accepted = rec.accepted;
      dropped = rec.dropped + (length all - length stay);
      next = rec.next;
      clock = rec.clock;
      used = runs_for stay;
    }

-- and the table of as many words that keeps just them
abbrev pub words_keeping : List ℕ → List Reference → List ℕ
words_keeping ws stay = canonical (length ws) stay

-- what comes of a call that changes: it is accepted, or why it is refused
abbrev pub Outcome : Type 0
Outcome = Result (Unit {0}) Refusal

-- a refused call returns the record as it came and changes no word
unfoldable pub changed_by : Outcome → Record → Record → Changed
changed_by (Ok _) new old = record { outcome = Ok tt; rec = new }
changed_by (Err r) new old = record { outcome = Err r; rec = old }

unfoldable pub words_by : Outcome → List ℕ → List ℕ → List ℕ
words_by (Ok _) new old = new
words_by (Err r) new old = old
