-- The answer is one line of text with its line feed: `nothing needed`, `complete 10000/10000 100%`, `lacking 20000 9999/10000 99%` or
-- `refused 16 line 2`, or `refused 4 line 3 by 9` of a gap or an overlap, numbers in decimal. A share is covered, needed and the percent, rounded down;
-- what lacks is the lowest tick that is not covered; a refusal has its number and its line, and line 0 where it is the verdict's. Paper: The file (the
-- program writes one line).
use Rattle.std.specs.Prelude.{Result, Err, Ok, ℕ, zero, suc, ◌+◌, ◌-◌, ◌*◌, ◌/◌, ◌%◌, ◌≡◌, Bool, false, cond, ◌&&◌, List, [], ◌∷◌, ◌++◌, eqb, leb, ltb, length, drop}
use Rattle.io.specs.Digits.{last_digits, IsDigitCount}
use Rattle.units.specs.declared.WideMillis.{WideMillis}
use Rattle.agreement.specs.declared.Record.{Record}
use Rattle.agreement.specs.declared.refusal.Refusal.{Refusal}
use Rattle.agreement.specs.Numbers.{refusal_number, refusal_distance}
use Rattle.answers.specs.declared.Verdict.{Verdict}
use Rattle.answers.specs.declared.Verdict.TheVariants as verdict
use Rattle.answers.specs.Judgement.{verdict_at, verdict_whole}
use Rattle.answers.specs.Shares.{percent_of, percent_number}
use Rattle.hexdigits.specs.Ascii.{ascii}
use Rattle.wording.specs.declared.RefusedLine.{RefusedLine}

-- what is told: a verdict, or why and at which line something was refused
abbrev pub Reply : Type 0
Reply = Result Verdict RefusedLine

abbrev pub line_feed : ℕ
line_feed = 10

-- '0' to '9'
abbrev pub digit : ℕ → ℕ
digit d = 48 + d

-- a number below ten is one digit; a larger one has the digits of its tenth, rounded down, and then its last digit. Each tenth takes one off the
-- first argument, and n tenths of n are more than enough: `Figures` below says the same with no such count
unfoldable pub decimal_by : ℕ → ℕ → List ℕ
decimal_by zero n = digit n ∷ []
decimal_by (suc more) n = cond (ltb n 10) (digit n ∷ []) (decimal_by more (n / 10) ++ digit (n % 10) ∷ [])

unfoldable pub decimal : ℕ → List ℕ
decimal n = decimal_by n n

-- a share that has no percent would show 0; no verdict has such a share (`Figures`, below)
unfoldable pub share_text : ℕ → ℕ → List ℕ
share_text needed covered =
    decimal covered ++
    ascii "/" ++
    decimal needed ++
    ascii " " ++
    decimal (percent_number (percent_of needed covered)) ++
    ascii "%" ++
    line_feed ∷
    []

-- the distance of a gap or an overlap; no other refusal has one, and none of these is 0
unfoldable pub distance_text : ℕ → List ℕ
distance_text distance = cond (eqb distance 0) [] (ascii " by " ++ decimal distance)

unfoldable pub refused_text : RefusedLine → List ℕ
refused_text r =
    ascii "refused " ++ decimal (refusal_number r.why) ++ ascii " line " ++ decimal r.line ++ distance_text (refusal_distance r.why) ++ line_feed ∷ []

unfoldable pub verdict_text : Verdict → List ℕ
verdict_text verdict.Nothing = ascii "nothing needed" ++ line_feed ∷ []
verdict_text (verdict.Complete needed) = ascii "complete " ++ share_text needed needed
verdict_text (verdict.Lacking needed covered lowest) = ascii "lacking " ++ decimal lowest.0 ++ ascii " " ++ share_text needed covered

unfoldable pub text_of : Reply → List ℕ
text_of (Ok v) = verdict_text v
text_of (Err r) = refused_text r

-- a text over the front of some bytes, the rest as it came
abbrev pub over : List ℕ → List ℕ → List ℕ
over text bytes = text ++ drop (length text) bytes

-- ---- THE THEOREM: the figures in a line are right. Proved by `figures` of proofs/Figures.antt

-- what the percent that is shown must be: of a complete verdict 100, of one that lacks covered times 100 by needed, rounded down
abbrev pub PercentRight : Result Verdict Refusal → Type 0
PercentRight (Ok verdict.Nothing) = Unit {0}
PercentRight (Ok (verdict.Complete needed)) = percent_number (percent_of needed needed) ≡ 100
PercentRight (Ok (verdict.Lacking needed covered lowest)) = percent_number (percent_of needed covered) ≡ covered * 100 / needed
PercentRight (Err why) = Unit {0}

abbrev pub is_decimal : ℕ → Bool
is_decimal b = leb 48 b && leb b 57

-- whether some bytes begin with a decimal digit
abbrev pub begins_with_digit : List ℕ → Bool
begins_with_digit [] = false
begins_with_digit (b ∷ bs) = is_decimal b

-- the number that is read from the digits in front of some bytes, with n read before them
unfoldable pub read_from : ℕ → List ℕ → ℕ
read_from n [] = n
read_from n (b ∷ bs) = cond (is_decimal b) (read_from (n * 10 + (b - 48)) bs) n

pub record Figures : Type 0 where
  -- the percent is right in every verdict that is asked, at a clock and of the whole period
  pub percent_at : (rec : Record) (ws : List ℕ) (c : WideMillis) → PercentRight (verdict_at rec ws c)
  pub percent_whole : (rec : Record) (ws : List ℕ) → PercentRight (verdict_whole rec ws)
  -- the text of a number is one digit, or the text of its tenth and the last digit
  pub decimal_is : (n : ℕ) → decimal n ≡ cond (ltb n 10) (digit n ∷ []) (decimal (n / 10) ++ digit (n % 10) ∷ [])
  -- and is of the fewest digits that hold the number, so that no zero stands in front
  pub fewest : (n k : ℕ) → IsDigitCount 10 1 n k → last_digits 10 k n ≡ decimal n
  -- whoever reads its digits, up to the first byte that is none, has the number: so it is the only one with this text
  pub read : (n : ℕ) (behind : List ℕ) → begins_with_digit behind ≡ false → read_from 0 (decimal n ++ behind) ≡ n
