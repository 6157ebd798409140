-- Single steps, run on one small file: damage that a step tests for itself is refused 6, beside the words that differ
-- in one place and pass; and what some steps leave.
-- Main statements: old_at_13, old_at_14, old_at_29, full_at_17, few_at_26, few_at_27, bottom_at_28 (damage);
-- skipped_at_17 (too few free pages);
-- halves_at_17, joined_at_26, turned_at_27, lowered_at_28, taken_back_head (what is left); words_listed, locks_listed
-- (the table of the steps); below_next (addresses); entered (the book).
use mathlib.Core.Path.{◌≡◌, refl}
use mathlib.Core.Bool.{false, cond}
use mathlib.Core.List.{List, [], ◌∷◌, ◌++◌, map}
use mathlib.Core.Option.{none, some}
use Prim.Native.Nat.{ℕ, ◌+◌}
use lib.Dec.{eqb}
use lib.ListN.{get_or, replicate, length}
use Rattle.std.specs.Prelude.{Ok, Err}
use Rattle.model.specs.declared.Refusal.{Refusal}
use Rattle.model.specs.Answers.{StepReply}
use Rattle.model.specs.declared.Party.{Party}
use Rattle.model.specs.declared.Operation.TheVariants as Operation
use Rattle.model.specs.declared.OperationAnswer.TheVariants as OperationAnswer
use Rattle.model.specs.declared.Restructuring.TheVariants as Restructuring
use Rattle.model.specs.declared.StepAnswer.{StepAnswer}
use Rattle.model.specs.Addresses.{level_for}
use Rattle.model.specs.Pages.{page_of, level_of}
use Rattle.model.specs.Outcome.{View, Outcome}
use Rattle.model.specs.Book.{empty_book, enter}
use Rattle.model.specs.Holds.{gives_up_moving}
use Rattle.model.specs.Steps.Dispatch.{step_of}
use Rattle.model.specs.Withdraw.{taken_back}
use Rattle.model.proofs.Exits.Statement.{kept_by}
use Rattle.model.proofs.Refutations.Memories.{root_of, party_of}
use Rattle.model.proofs.Refutations.Opened.{opened}

-- ---- The file

-- A page with one record, of setting 0.
abbrev page : ℕ → ℕ → ℕ → List ℕ
page level link key = level ∷ 1 ∷ link ∷ key ∷ replicate 12 0

-- N = 1, b = 6, P = 3, V = 3, one party, which holds every lock in every mode, or none: w is each lock word. Chain 0 is
-- at local level 1 and leads to page 3, chain 1 at 2 and leads to page 4, chain 2 at 1. Page 5 is free. The scratch
-- page, the last, is at local level s.
abbrev seen : ℕ → ℕ → ℕ → Party → ℕ → View
seen w level next p s = record {
  root = root_of 1 6 3 3 1 level next 6 1;
  party = p;
  number = 0;
  locks = replicate 4 w;
  pages = page 1 4 5 ++ (page 2 5 7 ++ (page 1 0 9 ++ (page 0 0 6 ++ (page 0 0 8 ++ (page 0 0 0 ++ page s 0 5)))));
  behind = false;
}

-- All locks are held: 1 + 2^16 + 2^21.
abbrev all : ℕ
all = 2162689

-- A change at step k on chain 0, with the other chain c and an old link.
abbrev at : ℕ → ℕ → ℕ → Party
at k c old = party_of 3 5 k 0 0 c old 0 3 0

-- The file at level 1 and next 0, of two chains, and what the step of a party at k answers and leaves there.
abbrev ran : ℕ → ℕ → ℕ → ℕ → Outcome
ran w k c old = step_of k (seen w 1 0 (at k c old) 2)

abbrev harm : StepReply
harm = Err Refusal.Damage

-- ---- Damage

-- Links 4 to 6 name overflow pages; 3 names a primary page.
old_at_13 : (ran 0 13 1 3).answer ∷ (ran 0 13 1 0).answer ∷ (ran 0 13 1 4).answer ∷ [] ≡ harm ∷ harm ∷ Ok StepAnswer.Moved ∷ []
unfolding opened
old_at_13 = refl

old_at_14 :
    (ran all 14 1 3).answer ∷ (ran all 14 1 0).answer ∷ (ran all 14 1 4).answer ∷ []
    ≡ harm ∷ harm ∷ Ok (StepAnswer.Done OperationAnswer.Deleted Restructuring.None) ∷ []
unfolding opened
old_at_14 = refl

-- 0 passes at 29 only.
old_at_29 : (ran all 29 1 3).answer ∷ (ran all 29 1 0).answer ∷ (ran all 29 1 4).answer ∷ [] ≡ harm ∷ Ok StepAnswer.Moved ∷ Ok StepAnswer.Moved ∷ []
unfolding opened
old_at_29 = refl

-- n = P: three chains.
full_at_17 : (step_of 17 (seen all 1 1 (at 17 2 0) 2)).answer ∷ (ran all 17 2 0).answer ∷ [] ≡ harm ∷ Ok StepAnswer.Moved ∷ []
unfolding opened
full_at_17 = refl

-- The same file with b = 1 and n free pages: both records of chain 0 are in one half, which needs an overflow page.
abbrev short : ℕ → View
short n = record {
  root = root_of 1 1 3 3 1 1 0 6 n;
  party = at 17 2 0;
  number = 0;
  locks = replicate 4 all;
  pages = (seen all 1 0 (at 17 2 0) 2).pages;
  behind = false;
}

skipped_at_17 : (step_of 17 (short 0)).answer ∷ (step_of 17 (short 1)).answer ∷ [] ≡ Ok (StepAnswer.Done OperationAnswer.Deleted Restructuring.SplitSkipped) ∷ Ok StepAnswer.Moved ∷ []
unfolding opened
skipped_at_17 = refl

-- n = N: one chain.
few_at_26 : (step_of 26 (seen all 0 0 (at 26 1 0) 2)).answer ∷ (ran all 26 1 0).answer ∷ [] ≡ harm ∷ Ok StepAnswer.Moved ∷ []
unfolding opened
few_at_26 = refl

few_at_27 : (step_of 27 (seen all 0 0 (at 27 1 0) 2)).answer ∷ (ran all 27 1 0).answer ∷ [] ≡ harm ∷ Ok StepAnswer.Moved ∷ []
unfolding opened
few_at_27 = refl

-- No local level is left to lower.
bottom_at_28 : (step_of 28 (seen all 1 0 (at 28 1 0) 0)).answer ∷ (ran all 28 1 0).answer ∷ [] ≡ harm ∷ Ok StepAnswer.Moved ∷ []
unfolding opened
bottom_at_28 = refl

-- ---- What is left

-- The local level of page x afterwards.
abbrev level_after : Outcome → ℕ → ℕ
level_after o x = level_of (page_of o.after.pages x)

-- Both halves are at the file's level and one more: in scratch, and in the new chain.
halves_at_17 : level_after (ran all 17 2 0) 6 ∷ level_after (ran all 17 2 0) 2 ∷ [] ≡ 2 ∷ 2 ∷ []
unfolding opened
halves_at_17 = refl

-- The joined page has the target's local level, not the partner's; the old link is the target's.
joined_at_26 : level_after (ran all 26 1 0) 6 ∷ (ran all 26 1 0).after.party.old ∷ [] ≡ 1 ∷ 4 ∷ []
unfolding opened
joined_at_26 = refl

-- The root's lock word keeps the reader's bit and the selective field: 1 + 2^16.
turned_at_27 : get_or (ran all 27 1 0).after.locks 0 0 ≡ 65537
unfolding opened
turned_at_27 = refl

lowered_at_28 : level_after (ran all 28 1 0) 0 ≡ 1
unfolding opened
lowered_at_28 = refl

-- Of pages built, the first of the chain becomes the first free page.
taken_back_head : (taken_back (seen 0 1 0 (at 11 1 0) 1) (3 ∷ 4 ∷ [])).root.head ≡ 4
unfolding opened
taken_back_head = refl

-- ---- The table of the steps

-- What the table says that a step leaves, it leaves.
abbrev before : ℕ → View
before k = seen all 1 0 (at k 1 0) 2

words_listed :
    kept_by 2 (step_of 2 (before 2)).after ∷ kept_by 20 (step_of 20 (before 20)).after ∷ kept_by 26 (step_of 26 (before 26)).after ∷ []
    ≡ kept_by 2 (before 2) ∷ kept_by 20 (before 20) ∷ kept_by 26 (before 26) ∷ []
unfolding opened
words_listed = refl

-- How many lock words a step alters, and how many locks the table says that it gives up.
abbrev altered : List ℕ → ℕ
altered [] = 0
altered (w ∷ ws) = cond (eqb w all) 0 1 + altered ws

abbrev releasing : List ℕ
releasing = 5 ∷ 8 ∷ 12 ∷ 14 ∷ 19 ∷ 22 ∷ 27 ∷ []

locks_listed : map (λ k. altered (ran all k 1 4).after.locks) releasing ≡ map (λ k. length (gives_up_moving k (at k 1 4))) releasing
unfolding opened
locks_listed = refl

-- ---- Addresses and the book

-- At level 1 and next 1 chain 0 is split and chain 1 is not.
below_next : level_for 1 1 1 0 ∷ level_for 1 1 1 1 ∷ [] ≡ 2 ∷ 1 ∷ []
unfolding opened
below_next = refl

entered : (enter empty_book 1 Operation.Find 7).entries 1 ≡ some (record { operation = Operation.Find; key = 7; note = none })
unfolding opened
entered = refl
