-- What an operation with step 10, an insert or a delete, decides there about its chain, beside the note that the book makes of the same step.
-- Main statements: KeepsChain, ChangesChain, decided (the note is the answer where nothing changes, else no page); owed_small.
use mathlib.Core.Path.{◌≡◌, refl}
use mathlib.Core.Logic.{◌≢◌}
use mathlib.Core.Bool.{Bool, true, false, cond, false≢true}
use mathlib.Core.List.{List}
use Prim.Native.Nat.{ℕ, ◌≤◌}
use native.Mathlib.Omega.{arith}
use lib.Dec.{eqb}
use Rattle.model.specs.declared.Operation.{Operation}
use Rattle.model.specs.declared.OperationAnswer.TheVariants as OperationAnswer
use Rattle.model.specs.Answers.{operation_number, answer_number, answer_of}
use Rattle.model.specs.declared.Entry.{Entry}
use Rattle.model.specs.Entries.{has_key}
use Rattle.model.specs.Book.{note_at_ten}
use Rattle.model.specs.Steps.Rebuild.{Change, kept, changed, change_of, split_owed, merge_owed, owed_by}
use Rattle.model.specs.Steps.Write.{is_change}
use Rattle.model.specs.Steps.Dispatch.{has_step}
use Rattle.model.proofs.Laws.Lists.{cond_ind}

-- ---- The decision

-- Nothing changes: the answer is the note, and no change. `there` says whether the key is in.
pub record KeepsChain (o : Operation) (there : Bool) (answer : ℕ) : Type 0 where
  pub noted : note_at_ten o there ≡ answer_of answer
  pub no_change : is_change answer ≡ false
  pub some_answer : answer ≢ 0
  pub answer_fits : answer ≤ 5

-- A change is wanted: the note is no page, and stands where there are too few.
pub record ChangesChain (o : Operation) (there : Bool) (answer : ℕ) : Type 0 where
  pub noted : note_at_ten o there ≡ OperationAnswer.NoPage
  pub answer_fits : answer ≤ 5

abbrev pub Decided : Operation → Bool → Change → Type 0
Decided o there (kept a) = KeepsChain o there a
Decided o there (changed a es) = ChangesChain o there a

pub decided : (o : Operation) (n k x : ℕ) (es : List Entry) → operation_number o ≡ n → has_step n 10 ≡ true → Decided o (has_key k es) (change_of n k x es)
unfolding operation_number has_step change_of answer_number answer_of note_at_ten is_change
decided Operation.Find n k x es e h = absurd (false≢true (rw (← e) at h))
decided (Operation.Insert y) n k x es e h = rw (← e) (go (has_key k es) _)
  where
    go : (there : Bool) (after : List Entry) → Decided (Operation.Insert y) there (cond there (kept 2) (changed 1 after))
    go true after = record { noted = refl; no_change = refl; some_answer = omega arith; answer_fits = omega arith }
    go false after = record { noted = refl; answer_fits = omega arith }
decided Operation.Delete n k x es e h = rw (← e) (go (has_key k es) _)
  where
    go : (there : Bool) (after : List Entry) → Decided Operation.Delete there (cond there (changed 3 after) (kept 4))
    go true after = record { noted = refl; answer_fits = omega arith }
    go false after = record { noted = refl; no_change = refl; some_answer = omega arith; answer_fits = omega arith }

-- ---- What is owed

pub owed_small : (n before after : ℕ) (es : List Entry) → owed_by n before after es ≤ 3
unfolding owed_by
owed_small n before after es =
    cond_ind (λ (x : ℕ). x ≤ 3) (eqb n 2) _ _
    (λ _. cond_ind (λ (x : ℕ). x ≤ 3) (split_owed before after) 1 0 (λ _. omega arith) (λ _. omega arith))
    (λ _. cond_ind (λ (x : ℕ). x ≤ 3) (merge_owed es) 2 0 (λ _. omega arith) (λ _. omega arith))
