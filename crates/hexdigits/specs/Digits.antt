-- Numbers stand in the file as lower-case hexadecimal digits, big-endian: the bytes '0' to '9' and 'a' to 'f' mean 0 to 15,
-- and each digit counts sixteen times the one after it. Paper: The file.
use Rattle.std.specs.Prelude.{Bool, true, cond, ◌&&◌, ◌||◌, List, [], ◌∷◌, ℕ, zero, suc, ◌+◌, ◌-◌, ◌*◌, ◌/◌, ◌%◌, ◌^◌, leb, ltb, length}

unfoldable pub between : ℕ → ℕ → ℕ → Bool
between low high b = leb low b && leb b high

-- '0' to '9', and 'a' to 'f'
abbrev pub is_decimal : ℕ → Bool
is_decimal b = between 48 57 b

abbrev pub is_letter : ℕ → Bool
is_letter b = between 97 102 b

-- a lower-case hexadecimal digit
unfoldable pub is_digit : ℕ → Bool
is_digit b = is_decimal b || is_letter b

-- what a digit means; a byte that is no digit counts 0
unfoldable pub value_of : ℕ → ℕ
value_of b = cond (is_decimal b) (b - 48) (cond (is_letter b) (b - 87) 0)

-- the digit that means v, for v below 16
unfoldable pub digit_of : ℕ → ℕ
digit_of v = cond (ltb v 10) (48 + v) (87 + v)

-- every byte is a digit
unfoldable pub are_digits : List ℕ → Bool
are_digits [] = true
are_digits (b ∷ bs) = is_digit b && are_digits bs

-- the number that digits mean: each counts 16 to the power of how many stand after it
unfoldable pub number_of : List ℕ → ℕ
number_of [] = 0
number_of (b ∷ bs) = value_of b * 16 ^ length bs + number_of bs

-- the last n digits of x: all of x where x is below 16 ^ n
unfoldable pub digits_of : ℕ → ℕ → List ℕ
digits_of zero x = []
digits_of (suc n) x = digit_of (x / 16 ^ n % 16) ∷ digits_of n x
