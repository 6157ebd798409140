-- Take-up in whole lists of calls (document 02, change 6): a file that the index made is taken up exactly where nobody
-- is under way.
-- Main definitions: always_taken.
use Rattle.std.specs.Prelude.{Bool, cond, not, ◌&&◌, List, [], ◌∷◌, ℕ}
use Rattle.model.specs.Memory.{Memory}
use Rattle.model.specs.Runs.{Call, after_call}
use Rattle.model.specs.Book.{Book}
use Rattle.model.specs.Progress.{under_way, some_below, book_after_call}
use Rattle.model.specs.TakeUp.{is_saved}

-- Whether take-up passes exactly where none of n parties is under way.
unfoldable pub taken_rightly : ℕ → Book → Memory → Bool
taken_rightly n b m = cond (some_below n (under_way b)) (not (is_saved m)) (is_saved m)

-- The same before the first call of a list, and after every call.
unfoldable pub always_taken : ℕ → Book → Memory → List Call → Bool
always_taken n b m [] = taken_rightly n b m
always_taken n b m (c ∷ cs) = taken_rightly n b m && always_taken n (book_after_call b m c) (after_call m c) cs
