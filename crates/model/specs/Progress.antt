-- Progress (demand 3, last part): if operations are under way, at least one of them would answer moved or done if its step came next.
-- An operation is under way from its begin, answered ok, to its done or its withdraw, by the calls made and their answers (the book's entries), whatever the party's record says.
-- Main definitions: under_way, can_move, progresses; always_progresses (after every call of a list).
use Rattle.std.specs.Prelude.{Bool, true, false, not, ◌&&◌, ◌||◌, List, [], ◌∷◌, ℕ, zero, suc}
use Rattle.std.proofs.Math.Option.{Option, none, some}
use Rattle.model.specs.Memory.{Memory}
use Rattle.model.specs.Calls.{step_call}
use Rattle.model.specs.Runs.{Call, event_of, after_call}
use Rattle.model.specs.Book.{Book, Entered, book_after}
use Rattle.model.specs.Answers.{performs}

-- Whether there is an entry.
unfoldable pub is_entered : Option Entered → Bool
is_entered none = false
is_entered (some e) = true

-- Whether party q has an operation under way.
unfoldable pub under_way : Book → ℕ → Bool
under_way b q = is_entered (b.entries q)

-- Whether it does and its next step would answer moved or done.
unfoldable pub can_move : Book → Memory → ℕ → Bool
can_move b m q = under_way b q && performs (step_call m q).answer

-- Whether a test holds of some number below n.
unfoldable pub some_below : ℕ → (ℕ → Bool) → Bool
some_below zero f = false
some_below (suc n) f = f n || some_below n f

-- Progress of n parties.
unfoldable pub progresses : ℕ → Book → Memory → Bool
progresses n b m = not (some_below n (under_way b)) || some_below n (can_move b m)

-- The book after a call on memory m.
abbrev pub book_after_call : Book → Memory → Call → Book
book_after_call b m c = let e = event_of m c in book_after b e.call e.number e.reply

-- Progress after every call of a list, and before the first.
unfoldable pub always_progresses : ℕ → Book → Memory → List Call → Bool
always_progresses n b m [] = progresses n b m
always_progresses n b m (c ∷ cs) = progresses n b m && always_progresses n (book_after_call b m c) (after_call m c) cs
