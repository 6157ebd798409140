-- What the program prints (document 02, change 3): "one decimal a line".
-- Main definition: lines_of.
use Rattle.std.specs.Prelude.{List, [], ◌∷◌, ◌++◌, ℕ}
use Rattle.patterns.specs.Numbers.{decimal}

-- "\n".
abbrev pub newline : ℕ
newline = 10

-- The most bytes of a line: ten digits and its end.
abbrev pub line_bytes : ℕ
line_bytes = 11

-- Numbers in decimal, each on a line of its own.
unfoldable pub lines_of : List ℕ → List ℕ
lines_of [] = []
lines_of (n ∷ ns) = decimal n ++ (newline ∷ lines_of ns)
