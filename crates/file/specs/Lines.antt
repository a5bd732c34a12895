-- A file is lines, each ended by a single line feed; what stands after the last feed is a line that is not ended. Paper: The file.
use Rattle.std.specs.Prelude.{◌≡◌, Bool, true, false, cond, List, [], ◌∷◌, ◌++◌, ℕ, Option, Some, None, eqb, length}

abbrev pub line_feed : ℕ
line_feed = 10

-- ---- bytes cut at their first feed

unfoldable pub has_feed : List ℕ → Bool
has_feed [] = false
has_feed (b ∷ bs) = cond (eqb b line_feed) true (has_feed bs)

-- the bytes before the first feed, which are all of them where there is none
unfoldable pub first_line : List ℕ → List ℕ
first_line [] = []
first_line (b ∷ bs) = cond (eqb b line_feed) [] (b ∷ first_line bs)

-- and those behind it
unfoldable pub behind_first : List ℕ → List ℕ
behind_first [] = []
behind_first (b ∷ bs) = cond (eqb b line_feed) bs (behind_first bs)

-- where the first feed stands, if there is one
unfoldable pub feed_at : List ℕ → Option ℕ
feed_at bytes = cond (has_feed bytes) (Some (length (first_line bytes))) None

-- ---- bytes cut at every feed

-- the lines that bytes end, where `begun` stands before them since the last feed
unfoldable pub lines_from : List ℕ → List ℕ → List (List ℕ)
lines_from begun [] = []
lines_from begun (b ∷ bs) = cond (eqb b line_feed) (begun ∷ lines_from [] bs) (lines_from (begun ++ b ∷ []) bs)

-- and what stands after the last feed then
unfoldable pub rest_from : List ℕ → List ℕ → List ℕ
rest_from begun [] = begun
rest_from begun (b ∷ bs) = cond (eqb b line_feed) (rest_from [] bs) (rest_from (begun ++ b ∷ []) bs)

abbrev pub lines_of : List ℕ → List (List ℕ)
lines_of bytes = lines_from [] bytes

abbrev pub rest_of : List ℕ → List ℕ
rest_of bytes = rest_from [] bytes

-- ---- THE THEOREM: there is one way to cut bytes into lines, and this is it. Proved by `cut` of proofs/Cutting.antt

-- bytes without a feed
abbrev pub Unended : List ℕ → Type 0
Unended [] = Unit {0}
Unended (b ∷ bs) = (b ≡ line_feed → ⊥) × Unended bs

abbrev pub AllUnended : List (List ℕ) → Type 0
AllUnended [] = Unit {0}
AllUnended (l ∷ ls) = Unended l × AllUnended ls

-- each line with its feed behind it
abbrev pub ended : List (List ℕ) → List ℕ
ended [] = []
ended (l ∷ ls) = l ++ line_feed ∷ ended ls

pub record Cut : Type 0 where
  -- no line has a feed in it, and what stands after the last feed has none
  pub lines : (bytes : List ℕ) → AllUnended (lines_of bytes)
  pub rest : (bytes : List ℕ) → Unended (rest_of bytes)
  -- the lines, each with its feed, and then the rest are the bytes
  pub whole : (bytes : List ℕ) → ended (lines_of bytes) ++ rest_of bytes ≡ bytes
  -- and whatever lines and rest without a feed make the bytes, these are they
  pub only : (ls : List (List ℕ)) (r : List ℕ) → AllUnended ls → Unended r → (lines_of (ended ls ++ r) ≡ ls) × (rest_of (ended ls ++ r) ≡ r)
