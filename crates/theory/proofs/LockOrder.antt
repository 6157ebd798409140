-- The lock words in order, the root before chain 0 before chain 1 and so on: a party that requests a lock holds only
-- locks before it.
-- Main statements: Higher (a lock behind all that are held), hash_climbs (a chase leads on to a higher chain);
-- wanted_higher (of every party under way).
use mathlib.Core.Path.{◌≡◌, refl, sym, ap, ◌∙◌}
use mathlib.Core.Logic.{◌≢◌, ◌⊎◌, inl, inr}
use mathlib.Core.List.{List, [], ◌∷◌}
use mathlib.Core.Option.{Option, none, some}
use Prim.Native.Nat.{ℕ, suc, ◌+◌, ◌≤◌, ◌<◌}
use native.Mathlib.Omega.{arith}
use lib.ListN.{get_or}
use Rattle.model.specs.declared.Root.{Root}
use Rattle.model.specs.declared.Party.{Party}
use Rattle.model.specs.Sizes.{lock_words}
use Rattle.model.specs.LockWords.{Claim, root_word}
use Rattle.model.specs.Addresses.{span, hash, chain_count, split_barred, merge_partner, count_of_chains}
use Rattle.model.specs.Book.{Entered}
use Rattle.model.specs.LockRequests.{root_read, root_selective, root_exclusive}
use Rattle.model.specs.Steps.SplitLocks.{next_selective}
use Rattle.model.specs.Steps.MergeLocks.{target_exclusive, merge_stops}
use Rattle.model.specs.Steps.Dispatch.{Want, wants_none, wants_root, wants_chain, wants_chain_exclusive, wants_next, wants_target, wants_other, want_table, wants}
use Rattle.model.proofs.Laws.Lists.{cond_ind, All, ◌▸◌, Numbered, numbered_at}
use Rattle.model.proofs.Laws.Addresses.{span_pos, hash_next}
use Rattle.model.proofs.Laws.Retreat.{target_before}
use Rattle.model.specs.Claims.{Claims, no_lock, on_root, on_other, merging_target, claim_table, claims}
use Rattle.model.proofs.Invariant.Statement.{Scene, Returning, Settled, Joining, Facts, facts_none, facts_located, facts_chasing, fact_table, facts_at, Busy}

-- A lock of the file, behind all the locks of a list.
pub record Higher (r : Root) (c : Claim) (cs : List Claim) : Type 0 where
  pub inside : c.word < lock_words r
  pub above : All (λ x. x.word < c.word) cs

-- The same of what is wanted, if anything is.
abbrev pub WantedHigher : Root → List Claim → Option Claim → Type 0
WantedHigher r cs none = Unit {0}
WantedHigher r cs (some c) = Higher r c cs

-- What is needed of the root.
pub record RootFits (r : Root) : Type 0 where
  pub some_original : 0 < r.originals
  pub next_fits : r.next < span r.originals r.level
  pub count_fits : count_of_chains r ≤ r.primaries

-- ---- A chase leads on to a higher chain

pub hash_climbs : (n i k c o : ℕ) → 0 < n → hash n i k ≡ o → hash n (suc i) k ≡ c → c ≢ o → o < c
hash_climbs n i k c o one from there apart = go (hash_next n i k one)
  where
    up : hash n (i + 1) k ≡ hash n (suc i) k
    up = ap (λ (j : ℕ). hash n j k) (omega arith)

    go : (hash n (i + 1) k ≡ hash n i k) ⊎ (hash n (i + 1) k ≡ hash n i k + span n i) → o < c
    go (inl e) = absurd (apart (sym there ∙ sym up ∙ e ∙ from))
    go (inr e) = omega (arith, e, up, from, there, span_pos n i one)

-- ---- By step number

-- Whoever has the facts f holds the locks h and wants w: that lock is behind those.
pub record Ordered (f : Facts) (h : Claims) (w : Want) : Type 0 where
  pub order : (s : Scene) (q : ℕ) (p : Party) (e : Entered) → RootFits s.root → Busy s q p e → f s q p e → WantedHigher s.root (h p) (w s.root p)

ordered_none : {f : Facts} {h : Claims} → Ordered f h wants_none
ordered_none = record { order = λ s q p e l b x. tt }

-- Where the root is wanted nothing is held.
ordered_root : {f : Facts} (c : Claim) → c.word ≡ root_word → Ordered f no_lock (wants_root c)
ordered_root c i = record { order = λ s q p e l b x. record { inside = omega arith; above = tt } }

ordered_04 : Ordered facts_located (on_root root_read) wants_chain
ordered_04 = record { order = λ s q p e l b x. record { inside = omega (arith, b.chain_fits); above = (omega arith, tt) } }

ordered_07 : Ordered facts_chasing on_other wants_chain
ordered_07 = record {
  order = λ s q p e l b x.
      let c = x.1 in
      let there = ap (λ (i : ℕ). hash s.root.originals i p.key) (sym c.lev_is) ∙ c.there in
      let up = hash_climbs s.root.originals c.before p.key p.chain p.other l.some_original c.from there c.apart in
      record { inside = omega (arith, b.chain_fits); above = (omega (arith, up), tt) };
}

ordered_13 : Ordered Returning no_lock wants_chain_exclusive
ordered_13 = record { order = λ s q p e l b x. record { inside = omega (arith, b.chain_fits); above = tt } }

ordered_16 : Ordered Settled (on_root root_selective) wants_next
unfolding chain_count
ordered_16 = record {
  order = λ s q p e l b x.
      let r = s.root in
      cond_ind (WantedHigher r (root_selective ∷ [])) (split_barred (count_of_chains r) r.primaries) none (some (next_selective r)) (λ t. tt)
      (λ t. record { inside = omega (arith, l.next_fits, l.count_fits); above = (omega arith, tt) });
}

ordered_24 : Ordered Settled (on_root root_exclusive) wants_target
unfolding merge_partner
ordered_24 = record {
  order = λ s q p e l b x.
      let r = s.root in
      cond_ind (WantedHigher r (root_exclusive ∷ [])) (merge_stops r) none (some (target_exclusive r)) (λ t. tt)
      (λ t. record { inside = omega (arith, target_before r.originals r.level r.next l.some_original l.next_fits t, l.count_fits); above = (omega arith, tt) });
}

ordered_25 : Ordered Joining merging_target wants_other
ordered_25 = record {
  order = λ s q p e l b x.
      let r = s.root in
      let c = x.chains in
      let before = target_before r.originals r.level r.next l.some_original l.next_fits c.goes_on in
      record { inside = omega (arith, b.other_fits); above = (omega arith, (omega (arith, before, c.target, c.partner), tt)) };
}

-- The facts of step number k, beside the locks held and the lock wanted there.
abbrev OrderedAt : ℕ → Facts → Type 0
OrderedAt k f = Ordered f (get_or claim_table k no_lock) (get_or want_table k wants_none)

all_ordered : Numbered OrderedAt 0 fact_table
unfolding want_table
all_ordered =
    ordered_none ▸ ordered_root root_read refl ▸ ordered_none ▸ ordered_none ▸ ordered_04 ▸ ordered_none ▸ ordered_none ▸ ordered_07
    ▸ ordered_none ▸ ordered_none ▸ ordered_none ▸ ordered_none ▸ ordered_none ▸ ordered_13 ▸ ordered_none
    ▸ ordered_root root_selective refl ▸ ordered_16 ▸ ordered_none ▸ ordered_none ▸ ordered_none ▸ ordered_none ▸ ordered_none ▸ ordered_none
    ▸ ordered_root root_exclusive refl ▸ ordered_24 ▸ ordered_25 ▸ ordered_none ▸ ordered_none ▸ ordered_none ▸ ordered_none ▸ ordered_none ▸ tt

-- A party under way wants only a lock behind all that it holds.
pub wanted_higher : (s : Scene) (q : ℕ) (p : Party) (e : Entered) → RootFits s.root → Busy s q p e → facts_at p.step s q p e
    → WantedHigher s.root (claims s.root p) (wants s.root p)
unfolding claims wants
wanted_higher s q p e l b x = (numbered_at OrderedAt facts_none (λ k. record { order = λ s q p e l b x. absurd x }) fact_table all_ordered p.step).order s q p e l b x
