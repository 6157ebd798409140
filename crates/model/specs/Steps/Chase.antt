-- The chase: steps 6 to 8 (document 01, "The thirty steps"). A party whose key's chain was split since it read the root goes on to the chain that has the key now.
-- Main definitions: Chase and chase (where it ends), step06 to step08.
use Rattle.std.specs.Prelude.{cond, ◌&&◌, [], ◌∷◌, ℕ, ◌+◌, ◌-◌, zero, suc, eqb, ltb, leb}
use Rattle.model.specs.declared.Party.{Party}
use Rattle.model.specs.Records.{at_step, with_lev, with_chain, with_other, find_operation}
use Rattle.model.specs.Mixing.{mixed}
use Rattle.model.specs.Addresses.{hash_of}
use Rattle.model.specs.Pages.{page_of, level_of, page_sound, primary_page}
use Rattle.model.specs.Outcome.{View, with_party, Outcome, moved, guarded}
use Rattle.model.specs.LockRequests.{chain_lock, other_lock, request, release}
use Rattle.model.specs.ScratchPages.{with_scratch}

-- Where a chase ends: lev, and the chain that h_lev names.
pub record Chase : Type 0 where
  pub lev : ℕ
  pub chain : ℕ

-- "while lev differs from its local level, raise lev by one and go to 7 as soon as h_lev(k) is another chain": at most d times, from lev on chain c, by a mixed key m.
unfoldable pub chase : ℕ → ℕ → ℕ → ℕ → ℕ → Chase
chase n m c zero lev = record { lev = lev; chain = c }
chase n m c (suc d) lev =
    let on = chase n m c d (lev + 1) in
    let off : Chase = record { lev = lev + 1; chain = hash_of n (lev + 1) m } in
    cond (eqb (hash_of n (lev + 1) m) c) on off

unfoldable pub chase_of : View → Chase
chase_of v =
    let p = v.party in
    chase v.root.originals (mixed p.key) p.chain (level_of (page_of v.pages (primary_page p.chain)) - p.lev) p.lev

-- The record where the chase stays on the chain, and where it leaves it.
unfoldable pub arrived : Chase → Party → Party
arrived t p = at_step (cond (eqb p.operation find_operation) 9 10) (with_lev t.lev p)

unfoldable pub chasing : Chase → Party → Party
chasing t p = at_step 7 (with_lev t.lev (with_chain t.chain (with_other p.chain p)))

-- 6: copy the primary page to the scratch page; chase.
unfoldable pub step06 : View → Outcome
step06 v =
    let p = v.party in
    let w = page_of v.pages (primary_page p.chain) in
    let t = chase_of v in
    let q = cond (eqb t.chain p.chain) (arrived t p) (chasing t p) in
    guarded v (page_sound v.root w && leb p.lev (level_of w) && ltb t.chain v.root.primaries) (moved (with_party q (with_scratch w v)))

-- 7: request that chain.
unfoldable pub step07 : View → Outcome
step07 v = request v (chain_lock v.party) (at_step 8 v.party)

-- 8: give up the previous one, back to 6.
unfoldable pub step08 : View → Outcome
step08 v = release v (other_lock v.party ∷ []) (at_step 6 v.party)
