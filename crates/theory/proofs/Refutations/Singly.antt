-- Lists of operations run singly: answers that no plain map gives, and what `lists_right` asks of a list.
-- Main statements: list_told (answers); EachFits, parties_fit_lem (a list of operations whose parties are below n is for
-- parties that there are), parties_fitting (and no other is).
use mathlib.Core.Path.{◌≡◌, refl}
use mathlib.Core.Bool.{true, false}
use mathlib.Core.List.{List, [], ◌∷◌, map}
use Prim.Native.Nat.{ℕ, ◌<◌}
use lib.Dec.{ltb}
use borrow.Author.Tests.{lt-ltb}
use Rattle.std.specs.Prelude.{Ok}
use Rattle.model.specs.Answers.{StepReply}
use Rattle.model.specs.declared.Operation.{Operation}
use Rattle.model.specs.declared.OperationAnswer.{OperationAnswer}
use Rattle.model.specs.declared.Restructuring.TheVariants as Restructuring
use Rattle.model.specs.declared.StepAnswer.{StepAnswer}
use Rattle.model.specs.Entries.{entry_of}
use Rattle.model.proofs.Laws.Lists.{both-and, and_both, ltb-true}
use Rattle.theory.specs.Singly.{Wanted, parties_fit, answers_as_maps}
use Rattle.theory.proofs.Refutations.Opened.{opened}

-- ---- Answers

abbrev wanted : Operation → ℕ → Wanted
wanted o k = record { party = 1; operation = o; key = k }

abbrev answered : OperationAnswer → StepReply
answered a = Ok (StepAnswer.Done a Restructuring.None)

-- A find of 7, an insert of 5 with setting 4 and a find of 5, where 7 is in with setting 9.
abbrev three : List Wanted
three = wanted Operation.Find 7 ∷ wanted (Operation.Insert 4) 5 ∷ wanted Operation.Find 5 ∷ []

abbrev three_answered : OperationAnswer → OperationAnswer → OperationAnswer → List StepReply
three_answered a b c = answered a ∷ answered b ∷ answered c ∷ []

-- The right answers; another in each place; one too few; one too many.
list_told :
    map (answers_as_maps (entry_of 7 9 ∷ []) three)
    (
    three_answered (OperationAnswer.Found 9) OperationAnswer.Inserted (OperationAnswer.Found 4)
    ∷ three_answered (OperationAnswer.Found 8) OperationAnswer.Inserted (OperationAnswer.Found 4)
    ∷ three_answered (OperationAnswer.Found 9) OperationAnswer.Present (OperationAnswer.Found 4)
    ∷ three_answered (OperationAnswer.Found 9) OperationAnswer.Inserted OperationAnswer.Absent
    ∷ (answered (OperationAnswer.Found 9) ∷ answered OperationAnswer.Inserted ∷ [])
    ∷ (answered (OperationAnswer.Found 9) ∷ three_answered OperationAnswer.Inserted (OperationAnswer.Found 4) OperationAnswer.Absent)
    ∷ []
    )
    ≡ true ∷ false ∷ false ∷ false ∷ false ∷ false ∷ []
unfolding opened
list_told = refl

-- ---- Parties

-- Each is for a party below n.
pub data EachFits (n : ℕ) : List Wanted → Type 0 where
  no_more : EachFits n []
  and_more : {x : Wanted} {xs : List Wanted} → x.party < n → EachFits n xs → EachFits n (x ∷ xs)

pub parties_fit_lem : (n : ℕ) (xs : List Wanted) → EachFits n xs → parties_fit n xs ≡ true
unfolding parties_fit
parties_fit_lem n [] no_more = refl
parties_fit_lem n (x ∷ xs) (and_more h rest) = both-and (lt-ltb x.party n h) (parties_fit_lem n xs rest)

pub parties_fitting : (n : ℕ) (xs : List Wanted) → parties_fit n xs ≡ true → EachFits n xs
unfolding parties_fit
parties_fitting n [] h = no_more
parties_fitting n (x ∷ xs) h = let t = and_both (ltb x.party n) (parties_fit n xs) h in and_more (ltb-true x.party n t.0) (parties_fitting n xs t.1)
