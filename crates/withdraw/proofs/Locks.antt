-- The locks that a party claims before step 12, by its step number.
-- Main statements: as_claimed (what giving up a list answers and leaves, where the list is the one claimed);
-- claims_at (the table's row); claimed_locating, claimed_working and claimed_none (where several steps claim the
-- same).
use mathlib.Core.Path.{◌≡◌, ap}
use mathlib.Core.Logic.{◌≢◌}
use mathlib.Core.List.{List, [], ◌∷◌}
use Prim.Native.Nat.{ℕ, ◌≤◌, ◌<◌}
use native.Mathlib.Omega.{arith}
use lib.ListN.{get_or}
use Rattle.std.specs.Prelude.{Result, ⊤}
use Rattle.model.specs.declared.Root.{Root}
use Rattle.model.specs.declared.Party.{Party}
use Rattle.model.specs.declared.Damaged.{Damaged}
use Rattle.model.specs.LockWords.{Claim}
use Rattle.model.specs.LockRequests.{root_read, chain_lock, held_all}
use Rattle.model.specs.Claims.{claim_table, no_lock, claims}
use Rattle.records.specs.declared.Working.{Working}
use Rattle.records.specs.Work.{seen}
use Rattle.lock_requests.specs.Locks.{held_or_damaged, after_giving_up}
use Rattle.model.proofs.Laws.Lists.{Cmp, same, diff, cmp}

module _ (w : Working) (ls : List ℕ) {ls' : List ℕ} {a : Result ⊤ Damaged} (cs ds : List Claim) where
  pub as_claimed : ((ps : List ℕ) → a ≡ held_or_damaged (held_all (seen w ls ps) cs)) → ((ps : List ℕ) → seen w ls' ps ≡ after_giving_up cs (seen w ls ps))
      → cs ≡ ds → (ps : List ℕ) → (a ≡ held_or_damaged (held_all (seen w ls ps) ds)) × (seen w ls' ps ≡ after_giving_up ds (seen w ls ps))
  as_claimed held words e ps = (rw (← e) (held ps), rw (← e) (words ps))

module _ (r : Root) (p : Party) where
  pub claims_at : (k : ℕ) → p.step ≡ k → claims r p ≡ get_or claim_table k no_lock p
  unfolding claims
  claims_at k e = ap (λ (i : ℕ). get_or claim_table i no_lock p) e

  pub claimed_none : p.step ≤ 1 → claims r p ≡ []
  claimed_none few = go (cmp p.step 0)
    where
      go : Cmp p.step 0 → claims r p ≡ []
      go (same e) = claims_at 0 e
      go (diff n) = claims_at 1 (omega (arith, few))

  pub claimed_locating : 2 ≤ p.step → p.step ≤ 4 → claims r p ≡ root_read ∷ []
  claimed_locating from to = go (cmp p.step 2) (cmp p.step 3)
    where
      go : Cmp p.step 2 → Cmp p.step 3 → claims r p ≡ root_read ∷ []
      go (same e) b = claims_at 2 e
      go (diff m) (same e) = claims_at 3 e
      go (diff m) (diff n) = claims_at 4 (omega (arith, from, to))

  -- At 6, and from 9 on.
  pub claimed_working : 6 ≤ p.step → p.step ≢ 7 → p.step ≢ 8 → p.step < 12 → claims r p ≡ chain_lock p ∷ []
  claimed_working from m n to = go (cmp p.step 6) (cmp p.step 9) (cmp p.step 10)
    where
      go : Cmp p.step 6 → Cmp p.step 9 → Cmp p.step 10 → claims r p ≡ chain_lock p ∷ []
      go (same e) b c = claims_at 6 e
      go (diff i) (same e) c = claims_at 9 e
      go (diff i) (diff j) (same e) = claims_at 10 e
      go (diff i) (diff j) (diff k) = claims_at 11 (omega (arith, from, m, n, to, i, j, k))
