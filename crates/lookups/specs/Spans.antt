-- The runs that touch a span of ticks. A run touches a span where the two share a stretch of positive length: to meet an
-- edge is not to touch. Answered as the words from the first touching run to the last, and as that part of the table; none
-- if no run touches. The part holds exactly the runs that touch. Refused with 2 or 14, and then the part is empty. Paper:
-- Verdict and availability; Refusal numbers.
use Rattle.std.specs.Prelude.{Result, Err, Ok, ℕ, suc, ◌+◌, ◌*◌, ◌-◌, ◌≤◌, ◌<◌, min, max, ◌≡◌, ◌↔◌, Bool, true, false, cond, List, [], ◌∷◌, ◌++◌, eqb, ltb, take, drop}
use Rattle.units.specs.declared.WideTick.{WideTick}
use Rattle.runs.specs.declared.Run.{Run}
use Rattle.runs.specs.Words.{run_at, runs_of, words_of, run_end}
use Rattle.agreement.specs.declared.Record.{Record}
use Rattle.agreement.specs.declared.refusal.Refusal.{Refusal}
use Rattle.agreement.specs.declared.refusal.Refusal.TheVariants.{Disagreement, EmptySpan}
use Rattle.agreement.specs.Agreement.{agrees}
use Rattle.agreement.specs.Rows.{◌unless◌else◌}
use Rattle.lookups.specs.declared.Words.{Words}

-- the later of the two starts lies before the earlier of the two ends
abbrev pub touches : ℕ → ℕ → Run → Bool
touches a b r = ltb (max r.start.0 a) (min (run_end r) b)

-- how many runs stand before the first that passes a test: all of them where none does
unfoldable pub before_first : (Run → Bool) → List Run → ℕ
before_first t [] = 0
before_first t (r ∷ rs) = cond (t r) 0 (suc (before_first t rs))

-- how many runs stand up to the last that passes a test, that one with them: 0 where none does
unfoldable pub upto_last : (Run → Bool) → List Run → ℕ
upto_last t [] = 0
upto_last t (r ∷ rs) = cond (eqb (upto_last t rs) 0) (cond (t r) 1 0) (suc (upto_last t rs))

-- three words a run
abbrev pub touched_words : ℕ → ℕ → List Run → Words
touched_words a b rs =
    cond (eqb (upto_last (touches a b) rs) 0)
    (record { from = 0; to = 0 })
    (record { from = 3 * before_first (touches a b) rs; to = 3 * upto_last (touches a b) rs })

abbrev pub touching_words : Record → List ℕ → WideTick → WideTick → Result Words Refusal
touching_words rec ws a b =
    Err Disagreement unless agrees rec ws else
    Err EmptySpan unless ltb a.0 b.0 else
    Ok (touched_words a.0 b.0 (runs_of rec.used ws))

-- the part of a table that an answer names
abbrev pub part_of : Result Words Refusal → List ℕ → List ℕ
part_of (Ok w) ws = take (w.to - w.from) (drop w.from ws)
part_of (Err r) ws = []

-- ---- THE THEOREM: what the part holds, and where it lies. Proved by `touching_part` of proofs/Exact.antt

-- the runs of a list that pass a test, in their order
unfoldable pub passing : (Run → Bool) → List Run → List Run
passing t [] = []
passing t (r ∷ rs) = cond (t r) (r ∷ passing t rs) (passing t rs)

pub record TouchingPart : Type 0 where
  -- where record and table agree and a lies before b, the part is the words of the used runs that touch: all of them, no
  -- other, in their order
  pub runs : (rec : Record) (ws : List ℕ) (a b : WideTick) → agrees rec ws ≡ true → a.0 < b.0 →
      part_of (touching_words rec ws a b) ws ≡ words_of (passing (touches a.0 b.0) (runs_of rec.used ws))
  -- the words that are named lie in the table, and the part stands there, between what stands before it and behind it
  pub within : (rec : Record) (ws : List ℕ) (a b : WideTick) (from to : ℕ) → touching_words rec ws a b ≡ Ok (record { from = from; to = to }) →
      (from ≤ to) × (to ≤ 3 * rec.used)
  pub place : (rec : Record) (ws : List ℕ) (a b : WideTick) (from to : ℕ) → touching_words rec ws a b ≡ Ok (record { from = from; to = to }) →
      ws ≡ take from ws ++ part_of (touching_words rec ws a b) ws ++ drop to ws
  -- a used run stands between them, with all of its three words, exactly where it touches
  pub inside : (rec : Record) (ws : List ℕ) (a b : WideTick) (from to : ℕ) → touching_words rec ws a b ≡ Ok (record { from = from; to = to }) →
      (j : ℕ) → j < rec.used → (touches a.0 b.0 (run_at ws (j * 3)) ≡ true) ↔ ((from ≤ j * 3) × (j * 3 + 3 ≤ to))
  -- where no used run touches, the part is empty
  pub none : (rec : Record) (ws : List ℕ) (a b : WideTick) → ((j : ℕ) → j < rec.used → touches a.0 b.0 (run_at ws (j * 3)) ≡ false) →
      part_of (touching_words rec ws a b) ws ≡ []
  -- and so it is where the call is refused
  pub refused : (rec : Record) (ws : List ℕ) (a b : WideTick) (why : Refusal) → touching_words rec ws a b ≡ Err why →
      part_of (touching_words rec ws a b) ws ≡ []
