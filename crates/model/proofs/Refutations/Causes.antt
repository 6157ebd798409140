-- Calls that meet several causes of refusal at once, run on the smallest file: each gets the earliest one
-- (document 01, "Refused calls"). proofs/Theorems/RefusalOrder.antt has the same of every memory.
-- Main statements: begin_first, step-first, withdraw_first.
use mathlib.Core.Path.{◌≡◌, refl}
use mathlib.Core.List.{[], ◌∷◌}
use Prim.Native.Nat.{ℕ}
use lib.ListN.{replicate}
use Rattle.std.specs.Prelude.{Ok, Err}
use Rattle.model.specs.declared.Refusal.{Refusal}
use Rattle.model.specs.declared.Root.{Root}
use Rattle.model.specs.declared.Party.{Party}
use Rattle.model.specs.Records.{root_of_sizes, with_level, at_step, begun, idle}
use Rattle.model.specs.Memory.{Memory}
use Rattle.model.specs.Refusals.{first_cause, begin_rows, step_rows, withdraw_rows}
use Rattle.model.proofs.Refutations.Opened.{opened}

-- One chain, one party, no overflow page; the same with a level that is damaged.
abbrev one : Root
one = root_of_sizes 1 1 1 0 1

abbrev harmed : Root
harmed = with_level 9 one

-- Sizes outside their limits: no chain at all.
abbrev none : Root
none = root_of_sizes 0 1 0 0 1

-- An insert before its decisive step, and behind it with no answer.
abbrev early : Party
early = begun 2 5 7

abbrev late : Party
late = at_step 12 early

-- A file with so many lock words, of which two are right.
abbrev lent : Root → ℕ → Party → Memory
lent r n p = record { root = r; parties = p ∷ []; locks = replicate n 0; pages = replicate 32 0; waiting = 0 ∷ [] }

-- Begin: every cause, then one less each time.
begin_first :
    first_cause (begin_rows (lent none 9 early) 1)
    ∷ first_cause (begin_rows (lent one 9 early) 1)
    ∷ first_cause (begin_rows (lent one 2 early) 1)
    ∷ first_cause (begin_rows (lent one 2 early) 0)
    ∷ first_cause (begin_rows (lent one 2 idle) 0) ∷ []
    ≡ Err Refusal.Size ∷ Err Refusal.Length ∷ Err Refusal.Party ∷ Err Refusal.Busy ∷ Ok tt ∷ []
unfolding opened
begin_first = refl

-- Step: a party past the row's end counts as idle, and an idle one's record as damaged.
step-first :
    first_cause (step_rows (lent none 9 idle) 1)
    ∷ first_cause (step_rows (lent one 9 idle) 1)
    ∷ first_cause (step_rows (lent harmed 2 idle) 1)
    ∷ first_cause (step_rows (lent harmed 2 idle) 0)
    ∷ first_cause (step_rows (lent harmed 2 early) 0)
    ∷ first_cause (step_rows (lent one 2 early) 0) ∷ []
    ≡ Err Refusal.Size ∷ Err Refusal.Length ∷ Err Refusal.Party ∷ Err Refusal.Idle ∷ Err Refusal.Damage ∷ Ok tt ∷ []
unfolding opened
step-first = refl

-- Withdraw: 7 stands between 5 and 6.
withdraw_first :
    first_cause (withdraw_rows (lent none 9 idle) 1)
    ∷ first_cause (withdraw_rows (lent one 9 idle) 1)
    ∷ first_cause (withdraw_rows (lent harmed 2 idle) 1)
    ∷ first_cause (withdraw_rows (lent harmed 2 idle) 0)
    ∷ first_cause (withdraw_rows (lent harmed 2 late) 0)
    ∷ first_cause (withdraw_rows (lent harmed 2 early) 0)
    ∷ first_cause (withdraw_rows (lent one 2 early) 0) ∷ []
    ≡ Err Refusal.Size ∷ Err Refusal.Length ∷ Err Refusal.Party ∷ Err Refusal.Idle ∷ Err Refusal.Decided ∷ Err Refusal.Damage ∷ Ok tt ∷ []
unfolding opened
withdraw_first = refl
