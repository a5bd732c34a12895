-- Lengths are judged before all else: a record that is not of 12 words is refused with 2, then an out that is not of its length with 15.
-- Paper: Refusal numbers.
use Rattle.std.specs.Prelude.{Result, Err, Ok, ℕ, List, eqb, length}
use Rattle.agreement.specs.declared.Record.{Record}
use Rattle.agreement.specs.declared.refusal.Refusal.{Refusal}
use Rattle.agreement.specs.declared.refusal.Refusal.TheVariants.{Disagreement, ShortOutput}
use Rattle.agreement.specs.Numbers.{refusal_number}
use Rattle.agreement.specs.Rows.{◌unless◌else◌}
use Rattle.words.specs.Words.{record_words, record_of}

-- the number by the record's length, 0 where it is right
unfoldable pub wrong_record : ℕ → ℕ
wrong_record words = refusal_number Disagreement unless eqb words record_words else 0

-- the same, and then by the length of out, which must be size
unfoldable pub wrong_length : ℕ → ℕ → ℕ → ℕ
wrong_length words out size =
    refusal_number Disagreement unless eqb words record_words else
    refusal_number ShortOutput unless eqb out size else
    0

-- the record that lent words mean, or why they are none
unfoldable pub record_in : List ℕ → Result Record Refusal
record_in ws = Err Disagreement unless eqb (length ws) record_words else Ok (record_of ws)

-- the same, and then by the length of out, which must be size
unfoldable pub record_beside : List ℕ → ℕ → ℕ → Result Record Refusal
record_beside ws out size =
    Err Disagreement unless eqb (length ws) record_words else
    Err ShortOutput unless eqb out size else
    Ok (record_of ws)
