-- Numbers in a line: one to ten decimal digits, leading zeros allowed, of a value that fits 32 bits; and a number in decimal without leading zeros.
-- Main definitions: is_digit, all_digits, value_of; scan (the number at the head of a line, read as far as there are digits); decimal.
use Rattle.std.specs.Prelude.{Bool, true, cond, ◌&&◌, Option, None, Some, List, [], ◌∷◌, ◌++◌, ℕ, zero, suc, ◌+◌, ◌-◌, ◌*◌, ◌/◌, ◌%◌, length, eqb, leb, ltb}
use Rattle.patterns.specs.declared.Number.{Number}

-- "0" and "9".
unfoldable pub is_digit : ℕ → Bool
is_digit c = leb 48 c && leb c 57

abbrev pub most_digits : ℕ
most_digits = 10

abbrev pub largest : ℕ
largest = 4294967295

unfoldable pub all_digits : List ℕ → Bool
all_digits [] = true
all_digits (c ∷ l) = is_digit c && all_digits l

-- The value of digits that follow what has the value v.
unfoldable pub value_from : ℕ → List ℕ → ℕ
value_from v [] = v
value_from v (c ∷ l) = value_from (v * 10 + (c - 48)) l

unfoldable pub value_of : List ℕ → ℕ
value_of ds = value_from 0 ds

-- ---- Reading

-- A number and the rest of the line.
pub data Scan : Type 0 where
  unread : Scan
  read : ℕ → List ℕ → Scan

-- What k digits of value v come to, where no digit follows.
unfoldable pub ended : ℕ → ℕ → List ℕ → Scan
ended k v rest = cond (ltb 0 k && leb v largest) (read v rest) unread

-- The number that goes on at the head of a line after k digits of value v. An eleventh digit is too many.
unfoldable pub scan : ℕ → ℕ → List ℕ → Scan
scan k v [] = ended k v []
scan k v (c ∷ l) = cond (is_digit c) (cond (eqb k most_digits) unread (scan (suc k) (v * 10 + (c - 48)) l)) (ended k v (c ∷ l))

-- As the code answers, in a line of n bytes: the rest is the place where it begins.
unfoldable pub scanned : ℕ → Scan → Option Number
scanned n unread = None
scanned n (read v rest) = Some (record { value = v; next = n - length rest })

-- ---- Printing

-- The last k digits of n.
unfoldable pub digits : ℕ → ℕ → List ℕ
digits zero n = []
digits (suc k) n = digits k (n / 10) ++ ((48 + n % 10) ∷ [])

-- How many digits n has, 0 having none; at most f of them.
unfoldable pub width : ℕ → ℕ → ℕ
width zero n = 0
width (suc f) n = cond (ltb 0 n) (suc (width f (n / 10))) 0

-- How many digits n is printed with.
unfoldable pub width_of : ℕ → ℕ
width_of n = 1 + width 9 (n / 10)

unfoldable pub decimal : ℕ → List ℕ
decimal n = digits (width_of n) n
