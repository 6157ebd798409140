-- Operations run singly (demand 2): the calls and replies of one operation run alone, and of a list of operations, one after the other; the yardstick and the plain map over such a list.
-- Main definitions: Wanted; calls_alone, replies_alone (one operation); calls_singly, replies_singly (a list); performed_all (the yardstick, one fold), answers_as_maps (the plain map).
use Rattle.std.specs.Prelude.{Bool, true, false, ◌&&◌, List, [], ◌∷◌, ◌++◌, ℕ, zero, suc, get_or, drop, ltb, Ok, Err}
use Rattle.model.specs.Answers.{StepReply}
use Rattle.model.specs.declared.Root.{Root}
use Rattle.model.specs.declared.Operation.{Operation}
use Rattle.model.specs.declared.StepAnswer.{StepAnswer}
use Rattle.model.specs.Runs.{Call, begin_for, step_for, Reply, to_begin, to_step, Event}
use Rattle.theory.specs.PlainMap.{PlainMap, answers_as_map, map_left_by}
use Rattle.theory.specs.Sequential.{File, Finished, performed_on}

-- An operation that a party is to run.
pub record Wanted : Type 0 where
  pub party : ℕ
  pub operation : Operation
  pub key : ℕ

-- Whether all are for parties below n.
unfoldable pub parties_fit : ℕ → List Wanted → Bool
parties_fit n [] = true
parties_fit n (x ∷ xs) = ltb x.party n && parties_fit n xs

-- ---- One operation

-- So many steps of party q.
unfoldable pub steps_of : ℕ → ℕ → List Call
steps_of q zero = []
steps_of q (suc n) = step_for q ∷ steps_of q n

-- Its calls where it moves n times: the begin, n steps and a last one.
unfoldable pub calls_alone : Wanted → ℕ → List Call
calls_alone x n = begin_for x.party x.operation x.key ∷ steps_of x.party (suc n)

-- What was replied.
unfoldable pub replies_of : List Event → List Reply
replies_of [] = []
replies_of (e ∷ es) = e.reply ∷ replies_of es

-- Moved n times, and then this answer.
unfoldable pub moves_then : ℕ → StepReply → List Reply
moves_then zero a = to_step a ∷ []
moves_then (suc n) a = to_step (Ok StepAnswer.Moved) ∷ moves_then n a

-- The begin accepted, moved n times, and then this answer.
unfoldable pub replies_alone : ℕ → StepReply → List Reply
replies_alone n a = to_begin (Ok tt) ∷ moves_then n a

-- Done, as the yardstick is.
abbrev pub done_by : Finished → StepReply
done_by y = Ok (StepAnswer.Done y.answer y.restructuring)

-- ---- A list of operations

-- The calls of each in turn; ns has how often each moves.
unfoldable pub calls_singly : List Wanted → List ℕ → List Call
calls_singly [] ns = []
calls_singly (x ∷ xs) ns = calls_alone x (get_or ns 0 0) ++ calls_singly xs (drop 1 ns)

-- Their replies, with these last answers.
unfoldable pub replies_singly : List StepReply → List ℕ → List Reply
replies_singly [] ns = []
replies_singly (a ∷ rest) ns = replies_alone (get_or ns 0 0) a ++ replies_singly rest (drop 1 ns)

-- What each of a list of operations answers, and the file at the end.
pub record AllFinished : Type 0 where
  pub answers : List StepReply
  pub file : File

-- The yardstick over a list, from the file f.
unfoldable pub performed_all : Root → File → List Wanted → AllFinished
performed_all z f [] = record { answers = []; file = f }
performed_all z f (x ∷ xs) =
    let y = performed_on z f x.operation x.key in
    let rest = performed_all z y.file xs in
    record { answers = done_by y ∷ rest.answers; file = rest.file }

-- Whether these are answers that a plain map gives to a list of operations, one after the other, and no others.
unfoldable pub answers_as_maps : PlainMap → List Wanted → List StepReply → Bool
answers_as_maps s [] [] = true
answers_as_maps s [] (a ∷ rest) = false
answers_as_maps s (x ∷ xs) [] = false
answers_as_maps s (x ∷ xs) (Ok StepAnswer.Waiting ∷ rest) = false
answers_as_maps s (x ∷ xs) (Ok StepAnswer.Moved ∷ rest) = false
answers_as_maps s (x ∷ xs) (Ok (StepAnswer.Done a r) ∷ rest) =
    answers_as_map s x.operation x.key a && answers_as_maps (map_left_by s x.operation x.key a) xs rest
answers_as_maps s (x ∷ xs) (Err c ∷ rest) = false
