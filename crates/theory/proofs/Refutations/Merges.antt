-- Merges that do not fit, on made-up memory.
-- Main statements: leads_on, leads_nowhere (28); gives_other, gives_own (29); later_other (a list); not-joined,
-- its_reply (26 judges for itself).
use mathlib.Core.Path.{◌≡◌, refl}
use mathlib.Core.Bool.{true, false, cond}
use mathlib.Core.List.{[], ◌∷◌}
use Prim.Native.Nat.{ℕ}
use lib.Dec.{eqb}
use Rattle.std.specs.Prelude.{Ok}
use Rattle.model.specs.declared.StepAnswer.TheVariants as StepAnswer
use Rattle.model.specs.declared.OperationAnswer.TheVariants as OperationAnswer
use Rattle.model.specs.declared.Restructuring.TheVariants as Restructuring
use Rattle.model.specs.Memory.{Memory}
use Rattle.model.specs.Runs.{step_for, reply_to, to_step}
use Rattle.theory.specs.FittingMerges.{nothing_had, merges_fit}
use Rattle.model.proofs.Refutations.Memories.{root_of, party_of}
use Rattle.theory.proofs.Refutations.Opened.{opened}

-- 27 lowers the level.
abbrev level_before : ℕ → ℕ
level_before k = cond (eqb k 26) 1 0

-- N = 1, b = 1, P = 2, V = 1, one party: a delete at step k with old link n, target chain 0 and partner chain 1, each
-- with one record; l is the scratch page's link.
abbrev merging : ℕ → ℕ → ℕ → Memory
merging k n l = record {
  root = root_of 1 1 2 1 1 (level_before k) 0 0 0;
  parties = party_of 3 9 k 0 0 1 n 2 3 0 ∷ [];
  locks = 2097152 ∷ 2097152 ∷ 2097152 ∷ [];
  pages =
      1 ∷ 1 ∷ 0 ∷ 5 ∷ 0 ∷ 0 ∷ 0 ∷ 0 ∷ 0 ∷ 0 ∷ 0 ∷ 0 ∷ 0 ∷ 0 ∷ 0 ∷ 0 ∷
      1 ∷ 1 ∷ 0 ∷ 7 ∷ 0 ∷ 0 ∷ 0 ∷ 0 ∷ 0 ∷ 0 ∷ 0 ∷ 0 ∷ 0 ∷ 0 ∷ 0 ∷ 0 ∷
      0 ∷ 1 ∷ 0 ∷ 8 ∷ 0 ∷ 0 ∷ 0 ∷ 0 ∷ 0 ∷ 0 ∷ 0 ∷ 0 ∷ 0 ∷ 0 ∷ 0 ∷ 0 ∷
      1 ∷ 1 ∷ l ∷ 5 ∷ 0 ∷ 0 ∷ 0 ∷ 0 ∷ 0 ∷ 0 ∷ 0 ∷ 0 ∷ 0 ∷ 0 ∷ 0 ∷ 0 ∷ [];
  waiting = 0 ∷ [];
}

-- A merge whose records do not fit is skipped, and that is right.
not-joined : merges_fit nothing_had (merging 26 0 0) (step_for 0 ∷ []) ≡ true
unfolding opened
not-joined = refl

its_reply : reply_to (merging 26 0 0) (step_for 0) ≡ to_step (Ok (StepAnswer.Done OperationAnswer.Deleted Restructuring.MergeSkipped))
unfolding opened
its_reply = refl

-- 28 writes a scratch page that leads on.
leads_on : merges_fit nothing_had (merging 28 0 3) (step_for 0 ∷ []) ≡ false
unfolding opened
leads_on = refl

leads_nowhere : merges_fit nothing_had (merging 28 0 0) (step_for 0 ∷ []) ≡ true
unfolding opened
leads_nowhere = refl

-- 29 gives back a page that neither chain had at 26.
gives_other : merges_fit nothing_had (merging 29 3 0) (step_for 0 ∷ []) ≡ false
unfolding opened
gives_other = refl

gives_own : merges_fit (λ q. 2 ∷ []) (merging 29 3 0) (step_for 0 ∷ []) ≡ true
unfolding opened
gives_own = refl

-- It is the list that is refused, in whichever call the wrong one comes.
later_other : merges_fit (λ q. 2 ∷ []) (merging 28 3 3) (step_for 0 ∷ step_for 0 ∷ []) ≡ false
unfolding opened
later_other = refl
