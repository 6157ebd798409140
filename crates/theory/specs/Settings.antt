-- What found answers (document 02, change 1: "Found answers the setting; an insert of a present key keeps the old
-- one"):
-- the setting of the last insert that added the key and was not deleted since, in the order of decisive steps; or, of
-- a key that nobody has added or deleted, the one that the file had at the start.
-- It speaks of the calls, of what they returned, of an order of the operations by their decisive steps
-- (specs/Linearization.antt) and of the map at the start; of no book and no page.
-- Main definitions: changes_key and leaves_key (operations that add or remove a key); LastAdded (the last of some
-- operations that does, an insert with this setting); Came (where a setting is from); FoundInOrder; FoundsRight.
-- The theorem that every found is right is in proofs/Settings.antt.
use Rattle.std.specs.Prelude.{◌≡◌, Bool, true, not, ◌&&◌, List, [], ◌∷◌, ◌++◌, ℕ, eqb}
use Rattle.std.proofs.Math.Option.{some}
use Rattle.model.specs.declared.Operation.TheVariants as Operation
use Rattle.model.specs.declared.OperationAnswer.TheVariants as OperationAnswer
use Rattle.model.specs.Answers.{answer_number}
use Rattle.model.specs.Entries.{setting_in}
use Rattle.model.specs.Runs.{Call, events}
use Rattle.model.specs.Steps.Write.{is_change}
use Rattle.theory.specs.Demands.{Start, start, map_start}
use Rattle.theory.specs.PlainMap.{PlainMap}
use Rattle.theory.specs.Linearization.{IsOneOf, Ended, Operated, operations_of, Linearized, Linearization}

-- Whether an operation added or removed key k: it has this key, and answers inserted or deleted.
unfoldable pub changes_key : ℕ → Linearized → Bool
changes_key k x = eqb x.operated.key k && is_change (answer_number x.answer)

-- Whether none of some operations did.
unfoldable pub leaves_key : ℕ → List Linearized → Bool
leaves_key k [] = true
leaves_key k (x ∷ xs) = not (changes_key k x) && leaves_key k xs

-- Of these operations, in their order, the last that added or removed key k is an insert with setting x that answered inserted.
pub record LastAdded (k x : ℕ) (earlier : List Linearized) : Type 0 where
  pub front : List Linearized
  pub insert : Linearized
  pub since : List Linearized
  pub parts : earlier ≡ front ++ (insert ∷ since)
  pub with_setting : insert.operated.operation ≡ Operation.Insert x
  pub same_key : insert.operated.key ≡ k
  pub adds : insert.answer ≡ OperationAnswer.Inserted
  pub not_since : leaves_key k since ≡ true

-- Key k has setting x after the operations xs on the map s: it had it, and they left the key; or it was added last in
-- them.
pub data Came (s : PlainMap) (k x : ℕ) (xs : List Linearized) : Type 0 where
  from_before : setting_in k s ≡ some x → leaves_key k xs ≡ true → Came s k x xs
  from_insert : LastAdded k x xs → Came s k x xs

-- Operation o in its place in an order, and what was added last before it.
pub record FoundInOrder (s : Start) (o : Operated) (x : ℕ) (order : List Linearized) : Type 0 where
  pub earlier : List Linearized
  pub here : Linearized
  pub later : List Linearized
  pub parts : order ≡ earlier ++ (here ∷ later)
  pub own : here.operated ≡ o
  pub came : Came (map_start s) o.key x earlier

-- Each operation of a run that a call answers found, with a setting, finds the one that was added last.
pub record FoundsRight (s : Start) (cs : List Call) (l : Linearization s cs) : Type 0 where
  pub found : (o : Operated) (a : Ended) (x : ℕ) → IsOneOf o (operations_of (events (start s) cs)) → o.ended ≡ some a → a.answer ≡ some (OperationAnswer.Found x)
      → FoundInOrder s o x l.order
