-- Text that stands in a buffer, and what it means that it was answered as far as another.
-- Main definitions: part, AnsweredTo, RepliesTo. That turns one after the other answer the whole text:
-- proofs/Turning.antt.
use Rattle.std.specs.Prelude.{◌≡◌, List, [], ◌++◌, ℕ, ◌+◌, ◌-◌, take, drop}
use Rattle.model.specs.Memory.{Memory}
use Rattle.forms.specs.Printing.{longest_form}
use Rattle.lines.specs.Texts.{printed_before, text_answered}

-- The most bytes of an unfinished line that are kept.
abbrev pub most_kept : ℕ
most_kept = longest_form + 1

-- What stands in a buffer from one place to another.
abbrev pub part : List ℕ → ℕ → ℕ → List ℕ
part b from to = take (to - from) (drop from b)

-- From memory m the text u was answered: `printed` was printed, memory is n, and v is left. Whatever follows, all is
-- printed that the definition prints for u and it, and memory is then the same.
abbrev pub AnsweredTo : List ℕ → Memory → List ℕ → List ℕ → Memory → Type 0
AnsweredTo u m printed v n = (t : List ℕ) → text_answered [] (u ++ t) m ≡ printed_before printed (text_answered [] (v ++ t) n)

-- The bytes `printed` answer the text u as far as v, from the memory before, which is not held any more; memory is n.
pub record RepliesTo (u printed v : List ℕ) (n : Memory) : Type 0 where
  pub before : Memory
  pub answered : AnsweredTo u before printed v n
