-- What goes by a step's number: which operation has it, what it runs, the lock that it requests, where it may lead
-- and which words it may write.
-- Main definitions: has_step; step_table, step_of; want_table, wants; next_table, is_next; writes_table, writes.
use Rattle.std.specs.Prelude.{Bool, ◌&&◌, ◌||◌, List, [], map, ℕ, get_or, eqb}
use Rattle.std.proofs.Math.Option.{Option}
use Rattle.model.specs.declared.Root.{Root}
use Rattle.model.specs.declared.Party.{Party}
use Rattle.model.specs.Records.{find_operation, insert_operation, delete_operation}
use Rattle.model.specs.Sizes.{within}
use Rattle.model.specs.LockWords.{Claim}
use Rattle.model.specs.FreeList.{is_among}
use Rattle.model.specs.Outcome.{View, Outcome}
use Rattle.model.specs.Steps.Table.{StepRow, row_table}
pub use Rattle.model.specs.Steps.Table.{no_step, Want, wants_none, wants_root, wants_chain, wants_chain_exclusive, wants_next, wants_target, wants_other}

-- "find has 1 to 9, insert 1 to 8 and 10 to 22, delete 1 to 8, 10 to 14 and 23 to 30".
unfoldable pub has_step : ℕ → ℕ → Bool
has_step operation k =
    (eqb operation find_operation && within 1 9 k)
    || (eqb operation insert_operation && (within 1 8 k || within 10 22 k))
    || (eqb operation delete_operation && (within 1 8 k || within 10 14 k || within 23 30 k))

-- The steps in the order of their numbers, from 0.
unfoldable pub step_table : List (View → Outcome)
step_table = map (λ (x : StepRow). x.runs) row_table

-- The step with this number.
unfoldable pub step_of : ℕ → View → Outcome
step_of k = get_or step_table k no_step

-- ---- The lock that a step requests

-- What each step requests, in the order of their numbers, from 0.
unfoldable pub want_table : List Want
want_table = map (λ (x : StepRow). x.wants) row_table

-- The lock that the party's next step requests, or none.
unfoldable pub wants : Root → Party → Option Claim
wants r p = get_or want_table p.step wants_none r p

-- ---- Where a step may lead

-- The steps that each step may lead to, in the order of their numbers, from 0; an operation that is done is at 0. Only
-- at 6 it goes by the operation: whether it is a find.
unfoldable pub next_table : Bool → List (List ℕ)
next_table find = map (λ (x : StepRow). x.next find) row_table

-- Whether step k of an operation may lead to step n.
unfoldable pub is_next : ℕ → ℕ → ℕ → Bool
is_next operation k n = is_among n (get_or (next_table (eqb operation find_operation)) k [])

-- ---- What a step may write

-- The words that each step may write before it is done, in the order of their numbers, from 0.
unfoldable pub writes_table : List (List ℕ)
writes_table = map (λ (x : StepRow). x.writes) row_table

-- Whether step k may write word w.
unfoldable pub writes : ℕ → ℕ → Bool
writes k w = is_among w (get_or writes_table k [])
