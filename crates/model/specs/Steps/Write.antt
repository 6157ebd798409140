-- Write: steps 11 and 12 (document 01, "The thirty steps"), for insert and delete. The changed chain comes into the file, and its lock is given up.
-- Main definitions: is_change, step11, step12.
use Rattle.std.specs.Prelude.{Bool, cond, ◌||◌, [], ◌∷◌, ℕ, eqb}
use Rattle.model.specs.declared.OperationAnswer.{OperationAnswer}
use Rattle.model.specs.Answers.{answer_number}
use Rattle.model.specs.Outcome.{View, Outcome, guarded}
use Rattle.model.specs.LockRequests.{chain_selective, held_all, given_up}
use Rattle.model.specs.ScratchPages.{primary_written}
use Rattle.model.specs.Endings.{finished, onward, old_pages_first}

-- 11: write the primary page.
unfoldable pub step11 : View → Outcome
step11 v = primary_written v 12

-- Whether an answer so far is a change made: inserted or deleted.
unfoldable pub is_change : ℕ → Bool
is_change a = eqb a (answer_number OperationAnswer.Inserted) || eqb a (answer_number OperationAnswer.Deleted)

-- 12: give up the chain; done unless inserted or deleted.
unfoldable pub step12 : View → Outcome
step12 v =
    let cs = chain_selective v.party ∷ [] in
    let v₁ = given_up cs v in
    let next = cond (is_change v.party.answer) (old_pages_first v₁ (onward v₁)) (finished v₁) in
    guarded v (held_all v cs) next
