-- The fields of a line stand one after another, each over its own width in bytes, as big-endian hexadecimal digits, two to a
-- byte. Paper: The file.
use Rattle.std.specs.Prelude.{List, [], ◌∷◌, ◌++◌, ℕ, ◌+◌, ◌-◌, ◌*◌, ◌^◌, ◌≤◌, ◌<◌, take, drop}
use Rattle.hexdigits.specs.Digits.{number_of, digits_of}

-- how many digits fields of these widths take
abbrev pub digit_count : List ℕ → ℕ
digit_count [] = 0
digit_count (w ∷ ws) = 2 * w + digit_count ws

-- no field is wider than a word of eight bytes
abbrev pub Narrow : List ℕ → Type 0
Narrow [] = Unit {0}
Narrow (w ∷ ws) = (w ≤ 8) × Narrow ws

-- a field of eight bytes whose bits are all ones: an S line has it for a t that is absent, a clock line for the whole period
abbrev pub all_ones : ℕ
all_ones = 2 ^ 64 - 1

-- the digits of values, each over its width
unfoldable pub field_digits : List ℕ → List ℕ → List ℕ
field_digits [] vs = []
field_digits (w ∷ ws) [] = []
field_digits (w ∷ ws) (v ∷ vs) = digits_of (2 * w) v ++ field_digits ws vs

-- the values that digits mean, each read over its width
unfoldable pub field_values : List ℕ → List ℕ → List ℕ
field_values [] ds = []
field_values (w ∷ ws) ds = number_of (take (2 * w) ds) ∷ field_values ws (drop (2 * w) ds)

-- there is a value for each width, and it can be written there
abbrev pub Fit : List ℕ → List ℕ → Type 0
Fit [] [] = Unit {0}
Fit [] (v ∷ vs) = ⊥
Fit (w ∷ ws) [] = ⊥
Fit (w ∷ ws) (v ∷ vs) = (v < 16 ^ (2 * w)) × Fit ws vs
