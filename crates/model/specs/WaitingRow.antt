-- The waiting row (document 02, change 7): who waits, "the order in which parties first requested what they wait for".
-- Main definitions: requests (the lock that a party's next step requests); waiters_in (the parties of a row, first come
-- first); row_sound (the tests of damage); stands_behind (an earlier waiting request for the same lock conflicts);
-- row_with, row_without, row_after and row_left (the row after a call).
use Rattle.std.specs.Prelude.{Bool, true, false, cond, not, ◌&&◌, ◌||◌, List, [], ◌∷◌, ◌++◌, ℕ, ◌+◌, ◌-◌, length, drop, get_or, eqb, ltb, Ok, Err}
use Rattle.std.proofs.Math.Option.{Option, none, some}
use Rattle.model.specs.Answers.{StepReply, CallReply}
use Rattle.model.specs.declared.Root.{Root}
use Rattle.model.specs.declared.Party.{Party}
use Rattle.model.specs.declared.StepAnswer.{StepAnswer}
use Rattle.model.specs.Records.{idle}
use Rattle.model.specs.LockWords.{Claim, table_one}
use Rattle.model.specs.FreeList.{is_among}
use Rattle.model.specs.Steps.Dispatch.{has_step, wants}

-- The lock that a party's next step requests, or none: an idle party requests none, nor does an operation by a step
-- that it lacks; 16 with n = P and 24 with n = N request none.
unfoldable pub requests : Root → Party → Option Claim
requests r p = cond (has_step p.operation p.step) (wants r p) none

-- Whether a lock is requested.
unfoldable pub is_some : Option Claim → Bool
is_some none = false
is_some (some c) = true

-- "party number plus one, 0 for none after the last": the parties of a row, up to its first 0.
unfoldable pub waiters_in : List ℕ → List ℕ
waiters_in [] = []
waiters_in (w ∷ ws) = let rest = waiters_in ws in cond (eqb w 0) [] ((w - 1) ∷ rest)

-- ---- Damage

-- Whether every word is zero, in all its bits.
unfoldable pub all_zero : List ℕ → Bool
all_zero [] = true
all_zero (w ∷ ws) = eqb w 0 && all_zero ws

-- Whether no number is in the list twice.
unfoldable pub none_twice : List ℕ → Bool
none_twice [] = true
none_twice (x ∷ xs) = not (is_among x xs) && none_twice xs

-- Whether each is a party of the file whose next step requests a lock.
unfoldable pub all_request : Root → List Party → List ℕ → Bool
all_request r ps [] = true
all_request r ps (q ∷ qs) = ltb q r.parties && is_some (requests r (get_or ps q idle)) && all_request r ps qs

-- "a word above Q, a repeat, a gap or a party whose next step requests no lock is damage".
unfoldable pub row_sound : Root → List Party → List ℕ → Bool
row_sound r ps row =
    let qs = waiters_in row in
    all_zero (drop (length qs) row) && none_twice qs && all_request r ps qs

-- ---- Who is in the way

-- Two requests for the same lock conflict where Table I has wait between them.
unfoldable pub conflicts : Option Claim → Claim → Bool
conflicts none c = false
conflicts (some d) c = eqb d.word c.word && not (table_one c.mode d.mode)

-- Whether a waiting request that came before party q's conflicts with its request c: all that wait came before it, if
-- it does not wait.
unfoldable pub one_before : Root → List Party → ℕ → Claim → List ℕ → Bool
one_before r ps q c [] = false
one_before r ps q c (j ∷ js) =
    let further = one_before r ps q c js in
    cond (eqb j q) false (conflicts (requests r (get_or ps j idle)) c || further)

-- The same of a request or none: who requests nothing stands behind nobody.
unfoldable pub behind_for : Root → List Party → List ℕ → ℕ → Option Claim → Bool
behind_for r ps row q none = false
behind_for r ps row q (some c) = one_before r ps q c (waiters_in row)

-- Whether party q stands behind an earlier waiting request.
unfoldable pub stands_behind : Root → List Party → List ℕ → ℕ → Bool
stands_behind r ps row q = behind_for r ps row q (requests r (get_or ps q idle))

-- ---- The row after a call

-- A word put in place of the first 0.
unfoldable pub appended : ℕ → List ℕ → List ℕ
appended w [] = []
appended w (x ∷ xs) = let on = appended w xs in cond (eqb x 0) (w ∷ xs) (x ∷ on)

-- "Only the first waiting call alters memory": a party that waits already stays where it is.
unfoldable pub row_with : ℕ → List ℕ → List ℕ
row_with q row = cond (is_among (q + 1) row) row (appended (q + 1) row)

-- "a grant or withdraw removes the party": those behind it move up.
unfoldable pub row_without : ℕ → List ℕ → List ℕ
row_without q [] = []
row_without q (x ∷ xs) = let on = row_without q xs in cond (eqb x (q + 1)) (xs ++ (0 ∷ [])) (x ∷ on)

-- The row after a step: who waits joins, who moves leaves. Who is done was not in a sound row.
unfoldable pub row_after : ℕ → List ℕ → StepReply → List ℕ
row_after q row (Ok StepAnswer.Waiting) = row_with q row
row_after q row (Ok StepAnswer.Moved) = row_without q row
row_after q row (Ok (StepAnswer.Done a s)) = row
row_after q row (Err c) = row

-- The row after a withdraw: where it is accepted, the party leaves.
unfoldable pub row_left : ℕ → List ℕ → CallReply → List ℕ
row_left q row (Ok _) = row_without q row
row_left q row (Err c) = row
