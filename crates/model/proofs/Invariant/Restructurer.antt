-- There is at most one restructurer: it holds the root selectively or exclusively.
-- Main statements: all_below_lem (a test that holds of each number below k); restructures_root (a restructurer holds the root), low_at; only_restructurer, others_rest;
-- using_restructures, others_use_none (nobody else uses a primary page outside the live file).
use mathlib.Core.Path.{◌≡◌, refl, sym}
use mathlib.Core.Logic.{◌≢◌, ◌⊎◌, inl, inr}
use mathlib.Core.Bool.{Bool, true, false, not, ◌&&◌, ◌||◌, false≢true}
use mathlib.Core.List.{List, [], ◌∷◌}
use Prim.Native.Nat.{ℕ, zero, suc, ◌<◌}
use native.Mathlib.Omega.{arith}
use lib.ListN.{get_or}
use lib.Dec.{eqb, leb}
use Rattle.model.specs.declared.Root.{Root}
use Rattle.model.specs.declared.Party.{Party}
use Rattle.model.specs.declared.Mode.{Mode}
use Rattle.model.specs.declared.Mode.TheVariants.{Read, Selective, Exclusive}
use Rattle.model.specs.Sizes.{within}
use Rattle.model.specs.LockWords.{Claim, root_word}
use Rattle.model.specs.Memory.{Memory, party_at}
use Rattle.model.specs.Book.{Book}
use Rattle.model.specs.Holds.{same_mode}
use Rattle.model.proofs.Laws.Lists.{Told, holds, fails, tell, Cmp, same, diff, cmp, and_both, or_either, leb-true, eqb-true}
use Rattle.model.specs.Claims.{claims, claim_table, no_lock}
use Rattle.model.proofs.Invariant.Claims.{is_claimed, claimed, WordOk}
use Rattle.model.proofs.Invariant.LockMoves.{exclusive_alone, selective_one}
use Rattle.model.proofs.Invariant.Statement.{restructures, live_for, low_for, uses, Inv}

-- ---- Tests of every number below a bound

unfoldable pub all_below : ℕ → (ℕ → Bool) → Bool
all_below zero f = true
all_below (suc k) f = f k && all_below k f

pub all_below_lem : (k : ℕ) (f : ℕ → Bool) → all_below k f ≡ true → (n : ℕ) → n < k → f n ≡ true
unfolding all_below
all_below_lem zero f e n l = absurd (omega arith)
all_below_lem (suc k) f e n l = go (cmp n k) (λ h. all_below_lem k f (and_both (f k) (all_below k f) e).1 n h)
  where
    go : Cmp n k → (n < k → f n ≡ true) → f n ≡ true
    go (same s) ih = rw s (and_both (f k) (all_below k f) e).0
    go (diff d) ih = ih (omega arith)

-- ---- A restructurer holds the root

-- The first lock of a list is on the root, and not to read it.
unfoldable root_first : List Claim → Bool
root_first [] = false
root_first (c ∷ cs) = eqb c.word root_word && not (same_mode c.mode Read)

holds_root_lem : (cs : List Claim) → root_first cs ≡ true → (is_claimed cs root_word Selective ≡ true) ⊎ (is_claimed cs root_word Exclusive ≡ true)
unfolding root_first is_claimed same_mode
holds_root_lem [] e = absurd (false≢true e)
holds_root_lem (c ∷ cs) e = let h = and_both (eqb c.word root_word) (not (same_mode c.mode Read)) e in go c.mode refl h.0 h.1
  where
    go : (o : Mode) → c.mode ≡ o → eqb c.word root_word ≡ true → not (same_mode c.mode Read) ≡ true
        → (is_claimed (c ∷ cs) root_word Selective ≡ true) ⊎ (is_claimed (c ∷ cs) root_word Exclusive ≡ true)
    go Read s w x = absurd (false≢true (rw s at x))
    go Selective s w x = inl (rw (w, s) refl)
    go Exclusive s w x = inr (rw (w, s) refl)

-- By step number.
first_on_root : (p : Party) (n : ℕ) → n < 31 → (not (within 16 22 n || within 24 30 n) || root_first (get_or claim_table n no_lock p)) ≡ true
unfolding root_first all_below same_mode
first_on_root p = all_below_lem 31 (λ n. not (within 16 22 n || within 24 30 n) || root_first (get_or claim_table n no_lock p)) refl

pub restructures_root : (r : Root) (p : Party) → restructures p ≡ true → (is_claimed (claims r p) root_word Selective ≡ true) ⊎ (is_claimed (claims r p) root_word Exclusive ≡ true)
unfolding restructures claims
restructures_root r p e = holds_root_lem (get_or claim_table p.step no_lock p) (rw e at (first_on_root p p.step (low (or_either _ _ e))))
  where
    low : (within 16 22 p.step ≡ true) ⊎ (within 24 30 p.step ≡ true) → p.step < 31
    low (inl h) = let l = leb-true p.step 22 (and_both (leb 16 p.step) (leb p.step 22) h).1 in omega arith
    low (inr h) = let l = leb-true p.step 30 (and_both (leb 24 p.step) (leb p.step 30) h).1 in omega arith

-- But for 28, what a party at 4 or 5 counts on is the live extent.
pub low_at : (r : Root) (p : Party) (n : ℕ) → p.step ≡ n → eqb n 28 ≡ false → low_for r p ≡ live_for r p
unfolding low_for
low_at r p n e h = rw (e, h) refl

-- ---- There is one

module _ (m : Memory) (b : Book) (i : Inv m b) (q : ℕ) (mine : restructures (party_at m.parties q) ≡ true) where
  root_ok : WordOk (get_or m.locks root_word 0) (claimed m.root m.parties root_word)
  root_ok = i.locks_ok.each root_word (omega arith)

  pub only_restructurer : (j : ℕ) → restructures (party_at m.parties j) ≡ true → j ≡ q
  only_restructurer j e = go (restructures_root m.root (party_at m.parties q) mine) (restructures_root m.root (party_at m.parties j) e)
    where
      go : (claimed m.root m.parties root_word q Selective ≡ true) ⊎ (claimed m.root m.parties root_word q Exclusive ≡ true)
          → (claimed m.root m.parties root_word j Selective ≡ true) ⊎ (claimed m.root m.parties root_word j Exclusive ≡ true) → j ≡ q
      go (inl a) (inl c) = selective_one root_ok q j a c
      go (inl a) (inr c) = sym (exclusive_alone root_ok j q Selective c a).0
      go (inr a) (inl c) = (exclusive_alone root_ok q j Selective a c).0
      go (inr a) (inr c) = (exclusive_alone root_ok q j Exclusive a c).0

  pub others_rest : (j : ℕ) → j ≢ q → restructures (party_at m.parties j) ≡ false
  others_rest j n = go (tell (restructures (party_at m.parties j)))
    where
      go : Told (restructures (party_at m.parties j)) → restructures (party_at m.parties j) ≡ false
      go (holds e) = absurd (n (only_restructurer j e))
      go (fails e) = e

-- Who uses a primary page outside the live file restructures.
pub using_restructures : (p : Party) (d : ℕ) → uses p d ≡ true → restructures p ≡ true
unfolding uses restructures
using_restructures p d h = go (or_either (eqb p.step 18) (eqb p.step 29) (and_both (eqb p.step 18 || eqb p.step 29) (eqb p.other d) h).0)
  where
    go : (eqb p.step 18 ≡ true) ⊎ (eqb p.step 29 ≡ true) → (within 16 22 p.step || within 24 30 p.step) ≡ true
    go (inl e) = rw (eqb-true p.step 18 e) refl
    go (inr e) = rw (eqb-true p.step 29 e) refl

pub others_use_none : (m : Memory) (b : Book) (i : Inv m b) (q : ℕ) → restructures (party_at m.parties q) ≡ true → (d j : ℕ) → j ≢ q → uses (party_at m.parties j) d ≡ false
others_use_none m b i q mine d j n = go (tell (uses (party_at m.parties j) d))
  where
    go : Told (uses (party_at m.parties j) d) → uses (party_at m.parties j) d ≡ false
    go (fails h) = h
    go (holds h) = absurd (n (only_restructurer m b i q mine j (using_restructures (party_at m.parties j) d h)))
