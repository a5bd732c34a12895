-- The bytes of a text in ASCII, so that a statement can show a line as it is read. It states no rule of the paper.
use Rattle.std.specs.Prelude.{List, [], ◌∷◌, ℕ}
use Prim.Native.Char.{code}
use Prim.Native.String as text

unfoldable pub ascii : text.String → List ℕ
ascii text.[] = []
ascii (text.◌∷◌ c cs) = code c ∷ ascii cs
