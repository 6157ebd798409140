-- What each step that reads, follows or gives back is said to do with links, on one small file.
-- Main statements: traced (6, 9, 10, 14, 17, 26, 29, and a step that does none of it).
use mathlib.Core.Path.{◌≡◌, refl}
use mathlib.Core.Bool.{true, false}
use mathlib.Core.List.{List, [], ◌∷◌, ◌++◌}
use Prim.Native.Nat.{ℕ}
use lib.ListN.{replicate}
use Rattle.std.specs.Prelude.{Ok}
use Rattle.model.specs.Answers.{StepReply}
use Rattle.model.specs.declared.OperationAnswer.TheVariants as OperationAnswer
use Rattle.model.specs.declared.Restructuring.TheVariants as Restructuring
use Rattle.model.specs.declared.StepAnswer.{StepAnswer}
use Rattle.model.specs.Outcome.{View}
use Rattle.theory.specs.Links.{Trace, trace, no_trace, follow, trace_of}
use Rattle.model.proofs.Refutations.Memories.{root_of, party_of}
use Rattle.theory.proofs.Refutations.Opened.{opened}

-- A page with one record, of setting 0.
abbrev page : ℕ → ℕ → List ℕ
page link key = 0 ∷ 1 ∷ link ∷ key ∷ replicate 12 0

-- N = 2, b = 1, P = 2, V = 3, one party. Chain 0 leads to page 2, chain 1 to page 3; the scratch page, the last, leads
-- to page 4, and the old link to page 2.
abbrev view : View
view = record {
  root = root_of 2 1 2 3 1 0 0 0 0;
  party = party_of 3 5 0 0 0 1 3 0 3 0;
  number = 0;
  locks = [];
  pages = page 3 5 ++ (page 4 7 ++ (page 0 6 ++ (page 0 8 ++ (page 0 9 ++ page 5 5))));
  behind = false;
}

-- In call 9; the scratch link was read in call 4, the old link in call 6.
abbrev at : ℕ → StepReply → ℕ → Trace
at k a next = trace_of 9 k view a next 4 6

abbrev done : StepReply
done = Ok (StepAnswer.Done OperationAnswer.Absent Restructuring.None)

traced :
    at 6 (Ok StepAnswer.Moved) 9
    ∷ at 9 (Ok StepAnswer.Moved) 9
    ∷ at 9 done 0
    ∷ at 10 (Ok StepAnswer.Moved) 11
    ∷ at 10 (Ok StepAnswer.Moved) 12
    ∷ at 14 (Ok StepAnswer.Moved) 15
    ∷ at 17 (Ok StepAnswer.Moved) 18
    ∷ at 17 done 0
    ∷ at 26 (Ok StepAnswer.Moved) 27
    ∷ at 26 done 0
    ∷ at 29 (Ok StepAnswer.Moved) 30
    ∷ at 11 (Ok StepAnswer.Moved) 12 ∷ []
    ≡ trace [] true false []
    ∷ trace (follow 4 4 ∷ []) true false []
    ∷ no_trace
    ∷ trace (follow 9 2 ∷ []) true true []
    ∷ trace (follow 9 2 ∷ []) false false []
    ∷ trace (follow 6 2 ∷ []) false false (2 ∷ [])
    ∷ trace (follow 9 2 ∷ []) false true []
    ∷ trace (follow 9 2 ∷ []) false false []
    ∷ trace (follow 9 2 ∷ follow 9 3 ∷ []) false true []
    ∷ trace (follow 9 2 ∷ follow 9 3 ∷ []) false false []
    ∷ trace (follow 6 2 ∷ follow 9 3 ∷ []) false false (2 ∷ 3 ∷ [])
    ∷ no_trace ∷ []
unfolding opened
traced = refl
