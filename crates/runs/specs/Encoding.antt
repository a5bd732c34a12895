-- The canonical table of a list of references: neighbours of one duration stand in one run, the runs stand first, and all
-- words after them are 0. Paper: Record and table.
use Rattle.std.specs.Prelude.{ℕ, ◌+◌, ◌-◌, ◌*◌, Bool, cond, ◌||◌, not, List, [], ◌∷◌, ◌++◌, eqb, length, replicate}
use Rattle.window.specs.declared.Reference.{Reference}
use Rattle.runs.specs.declared.Run.{Run}
use Rattle.runs.specs.Words.{last_run, words_of}

-- a run of one reference
abbrev pub single : Reference → Run
single r = record { start = r.start; span = r.span; count = 1 }

-- a reference put before runs: it joins the first run where the durations agree, else it makes a run
unfoldable pub push : Reference → List Run → List Run
push r [] = single r ∷ []
push r (x ∷ xs) =
    cond (eqb r.span.0 x.span.0) (record { start = r.start; span = r.span; count = x.count + 1 } ∷ xs) (single r ∷ x ∷ xs)

unfoldable pub encode : List Reference → List Run
encode [] = []
encode (r ∷ rs) = push r (encode rs)

-- how many runs a list of references takes
abbrev pub runs_for : List Reference → ℕ
runs_for rs = length (encode rs)

-- the table of so many words that holds just these runs
unfoldable pub table_of : ℕ → List Run → List ℕ
table_of words rs = words_of rs ++ replicate (words - 3 * length rs) 0

-- the table of so many words that keeps just these references
abbrev pub canonical : ℕ → List Reference → List ℕ
canonical words rs = table_of words (encode rs)

-- whether references of so many ticks each need a run of their own: there is no run, or the last one's duration differs
abbrev pub needs_run : ℕ → List ℕ → ℕ → Bool
needs_run used ws d = eqb used 0 || not (eqb (last_run used ws).span.0 d)
