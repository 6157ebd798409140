-- A text of lines, each ended by a newline, taken to the text of the replies, a line each (document 01, "The turns program").
-- Main definitions: line_length; text_answered (every whole line of a text, in order).
use Rattle.std.specs.Prelude.{cond, List, [], ◌∷◌, ◌++◌, ℕ, suc, eqb}
use Rattle.model.specs.Memory.{Memory}
use Rattle.model.specs.Calls.{Called, called}
use Rattle.forms.specs.declared.Reply.{Reply}
use Rattle.forms.specs.Replies.{reply_text}
use Rattle.lines.specs.Lines.{line_answered}

abbrev pub newline : ℕ
newline = 10

-- How many bytes stand before the first newline, all where there is none.
unfoldable pub line_length : List ℕ → ℕ
line_length [] = 0
line_length (b ∷ t) = cond (eqb b newline) 0 (suc (line_length t))

-- A text printed before what is printed next.
abbrev pub printed_before : List ℕ → Called (List ℕ) → Called (List ℕ)
printed_before t c = called (t ++ c.answer) c.memory

-- A reply's line.
abbrev pub reply_line : Reply → List ℕ
reply_line r = reply_text r ++ (newline ∷ [])

-- What is printed for a text, and the memory after it, where `line` is so far the line under way: at each newline it is answered. An unfinished last line is not.
unfoldable pub text_answered : List ℕ → List ℕ → Memory → Called (List ℕ)
text_answered line [] m = called [] m
text_answered line (b ∷ t) m =
    let c = line_answered line m in
    cond (eqb b newline) (printed_before (reply_line c.answer) (text_answered [] t c.memory)) (text_answered (line ++ (b ∷ [])) t m)
