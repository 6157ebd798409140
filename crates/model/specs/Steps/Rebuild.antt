-- Rebuild: step 10 (document 01, "The thirty steps"), for insert and delete. The changed chain is built beside the file.
-- Main definitions: Change and change_of (what an operation makes of a chain's records), split_owed, merge_owed; step10.
use Rattle.std.specs.Prelude.{Bool, cond, List, ℕ, eqb, ltb, length}
use Rattle.model.specs.declared.OperationAnswer.{OperationAnswer}
use Rattle.model.specs.declared.Party.{Party}
use Rattle.model.specs.Records.{at_step, with_answer, with_old, with_owed, insert_operation, owes_none, owes_split, owes_merge}
use Rattle.model.specs.Answers.{answer_number}
use Rattle.model.specs.declared.Entry.{Entry}
use Rattle.model.specs.Entries.{has_key, entry_of, inserted_into, removed_from, is_empty}
use Rattle.model.specs.Chains.{Chain, chain_of}
use Rattle.model.specs.Filling.{pages_for}
use Rattle.model.specs.Outcome.{View, with_party, Outcome, moved, checked}
use Rattle.model.specs.FreeList.{too_few, Taken, pages_taken}
use Rattle.model.specs.ScratchPages.{built_beside}

-- ---- What an operation makes of a chain's records

-- What an operation makes of its chain.
pub data Change : Type 0 where
  -- Nothing: the answer's number.
  kept : ℕ → Change
  -- The answer's number, and the records then.
  changed : ℕ → List Entry → Change

-- "Insert of a present key answers present, delete of a missing one absent"; "an insert of a present key keeps the old one": the operation, its key k and setting x.
unfoldable pub change_of : ℕ → ℕ → ℕ → List Entry → Change
change_of operation k x es =
    cond (eqb operation insert_operation)
    (cond (has_key k es) (kept (answer_number OperationAnswer.Present)) (changed (answer_number OperationAnswer.Inserted) (inserted_into (entry_of k x) es)))
    (cond (has_key k es) (changed (answer_number OperationAnswer.Deleted) (removed_from k es)) (kept (answer_number OperationAnswer.Absent)))

-- "An insert whose new chain has more overflow pages than the old owes a split".
unfoldable pub split_owed : ℕ → ℕ → Bool
split_owed before after = ltb before after

-- "a delete that emptied its chain owes a merge".
unfoldable pub merge_owed : List Entry → Bool
merge_owed es = is_empty es

-- Restructure owed, from the overflow pages before and after, and the records after.
unfoldable pub owed_by : ℕ → ℕ → ℕ → List Entry → ℕ
owed_by operation before after es =
    cond (eqb operation insert_operation) (cond (split_owed before after) owes_split owes_none) (cond (merge_owed es) owes_merge owes_none)

-- ---- 10

-- An operation that changes nothing: answer and step alone.
unfoldable pub changes_nothing : View → ℕ → Outcome
changes_nothing v a = moved (with_party (at_step 12 (with_answer a v.party)) v)

-- The record after a change: "set answer, old link and owed".
unfoldable pub changing : Chain → ℕ → List Entry → ℕ → Party → Party
changing c a es k p = at_step 11 (with_owed (owed_by p.operation (length c.pages) k es) (with_old c.link (with_answer a p)))

-- "take the pages in chain order, fill them, hold the new primary page in scratch, local level kept".
unfoldable pub rebuilt : View → Chain → ℕ → List Entry → Taken → Outcome
rebuilt v c a es t =
    moved (with_party (changing c a es (pages_for v.root.capacity es) v.party) (built_beside v c.level es t))

-- "if fewer pages are free than the new chain needs, the answer is no page".
unfoldable pub rebuild_with : View → Chain → Change → Outcome
rebuild_with v c (kept a) = changes_nothing v a
rebuild_with v c (changed a es) =
    let k = pages_for v.root.capacity es in
    let build = checked v (pages_taken v.root v.pages k) (λ t. rebuilt v c a es t) in
    cond (too_few v.root k) (changes_nothing v (answer_number OperationAnswer.NoPage)) build

-- 10: look through the whole chain in the file; change it beside the file.
unfoldable pub step10 : View → Outcome
step10 v = checked v (chain_of v.root v.pages v.party.chain) (λ c. rebuild_with v c (change_of v.party.operation v.party.key v.party.setting c.entries))
