-- Of a line that is not ended the first bytes are enough, as many as the longest frame has and one more: they show that a line is too long. Zeros stand
-- behind them. Paper: The file (the program holds one line at a time and takes a file of any length).
use Rattle.std.specs.Prelude.{ℕ, ◌+◌, ◌-◌, min, Bool, ◌&&◌, List, ◌++◌, leb, length, take, drop, replicate}
use Rattle.runs.specs.Shape.{zeros}
use Rattle.frames.specs.Frames.{longest_line}
use Rattle.file.specs.declared.LineSoFar.{LineSoFar}

abbrev pub most_bytes : ℕ
most_bytes = longest_line + 1

-- the line of which the bytes `come` have come
unfoldable pub so_far : List ℕ → LineSoFar
so_far come = record { bytes = take most_bytes come ++ replicate (most_bytes - length come) 0; count = min most_bytes (length come) }

-- the first bytes of a line, for any count and any bytes whatever
abbrev pub first_bytes : LineSoFar → List ℕ
first_bytes l = take l.count l.bytes

-- more of it has come. Of a line of which `come` has come this is the line of `come ++ part`: `goes_on_lem` of proofs/SoFar.antt
abbrev pub goes_on : LineSoFar → List ℕ → LineSoFar
goes_on l part = so_far (first_bytes l ++ part)

-- no more bytes are counted than there is room for, and those behind them are 0
abbrev pub proper : LineSoFar → Bool
proper l = leb l.count most_bytes && zeros (drop l.count l.bytes)

-- it has more bytes than any frame
abbrev pub too_long : LineSoFar → Bool
too_long l = leb most_bytes l.count
