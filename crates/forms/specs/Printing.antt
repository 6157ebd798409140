-- What is printed where there may be no room.
-- Main definitions: longest_form, longest_reply; given.
use Rattle.std.specs.Prelude.{cond, List, [], ℕ, ◌+◌, leb}

-- No form and no reply is longer (proofs/FormTheorems and proofs/ReplyTheorems: form_short, reply_short).
abbrev pub longest_form : ℕ
longest_form = 63

abbrev pub longest_reply : ℕ
longest_reply = 57

-- The text, where `most` bytes from place `at` on are within n, and nothing where they are not.
unfoldable pub given : ℕ → ℕ → ℕ → List ℕ → List ℕ
given n at most text = cond (leb (at + most) n) text []
