-- Patterns: lists of bytes in which `#` stands for a number and every other byte for itself.
-- Main definitions: match_from (a pattern at the head of a line), to_end, filled (the text of a pattern with numbers in its holes).
use Rattle.std.specs.Prelude.{cond, Option, None, Some, List, [], ◌∷◌, ◌++◌, ℕ, ◌-◌, length, get_or, drop, replicate, eqb, ltb}
use Rattle.patterns.specs.declared.Match.{Match}
use Rattle.patterns.specs.Numbers.{Scan, unread, read, scan, decimal}

-- "#".
abbrev pub hole : ℕ
hole = 35

-- The most numbers that a pattern may ask for.
abbrev pub most_numbers : ℕ
most_numbers = 5

-- ---- Reading

-- The numbers found, and the rest of the line.
pub data Matching : Type 0 where
  no : Matching
  yes : List ℕ → List ℕ → Matching

unfoldable pub and_then : Matching → (List ℕ → List ℕ → Matching) → Matching
and_then no f = no
and_then (yes ns l) f = f ns l

unfoldable pub after_number : List ℕ → Scan → Matching
after_number ns unread = no
after_number ns (read v rest) = yes (ns ++ (v ∷ [])) rest

unfoldable pub number_in : List ℕ → List ℕ → Matching
number_in ns l = cond (ltb (length ns) most_numbers) (after_number ns (scan 0 0 l)) no

unfoldable pub byte_in : ℕ → List ℕ → List ℕ → Matching
byte_in b ns [] = no
byte_in b ns (c ∷ l) = cond (eqb c b) (yes ns l) no

unfoldable pub symbol_in : ℕ → List ℕ → List ℕ → Matching
symbol_in b ns l = cond (eqb b hole) (number_in ns l) (byte_in b ns l)

-- A pattern at the head of a line, after the numbers ns were found.
unfoldable pub match_from : List ℕ → List ℕ → List ℕ → Matching
match_from [] ns l = yes ns l
match_from (b ∷ p) ns l = and_then (symbol_in b ns l) (λ ms r. match_from p ms r)

-- A match that leaves nothing of the line.
unfoldable pub to_end : Matching → Matching
to_end no = no
to_end (yes ns []) = yes ns []
to_end (yes ns (c ∷ l)) = no

-- The numbers as the code holds them.
unfoldable pub padded : List ℕ → List ℕ
padded ns = ns ++ replicate (most_numbers - length ns) 0

-- As the code answers, in a line of n bytes: the rest is the place where it begins.
unfoldable pub matched : ℕ → Matching → Option Match
matched n no = None
matched n (yes ns rest) = Some (record { next = n - length rest; numbers = padded ns })

-- ---- Printing

unfoldable pub symbol_text : ℕ → List ℕ → List ℕ
symbol_text b ns = cond (eqb b hole) (decimal (get_or ns 0 0)) (b ∷ [])

unfoldable pub numbers_after : ℕ → List ℕ → List ℕ
numbers_after b ns = cond (eqb b hole) (drop 1 ns) ns

-- The text of a pattern, its holes filled with the numbers from the left.
unfoldable pub filled : List ℕ → List ℕ → List ℕ
filled [] ns = []
filled (b ∷ p) ns = symbol_text b ns ++ filled p (numbers_after b ns)
