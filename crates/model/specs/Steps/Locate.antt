-- Locating: steps 1 to 5 (document 01, "The thirty steps"). Every operation begins with them.
-- Main definitions: located (step 3's lev and chain), step01 to step05.
use Rattle.std.specs.Prelude.{[], ◌∷◌, ltb}
use Rattle.model.specs.declared.Party.{Party}
use Rattle.model.specs.declared.Root.{Root}
use Rattle.model.specs.Records.{at_step, with_lev, with_chain}
use Rattle.model.specs.Addresses.{address_level, address_of}
use Rattle.model.specs.Outcome.{View, with_party, Outcome, moved, guarded}
use Rattle.model.specs.LockRequests.{root_read, chain_lock, request, release}

-- 1: request read on root.
unfoldable pub step01 : View → Outcome
step01 v = request v root_read (at_step 2 v.party)

-- 2: read level.
unfoldable pub step02 : View → Outcome
step02 v = moved (with_party (at_step 3 (with_lev v.root.level v.party)) v)

-- Step 3's lev and chain: h_lev(k), or h_(lev+1)(k) with lev raised where the former is below next.
unfoldable pub located : Root → Party → Party
located r p =
    with_chain (address_of r.originals p.lev r.next p.key) (with_lev (address_level r.originals p.lev r.next p.key) p)

-- 3: read next; fix lev and chain.
unfoldable pub step03 : View → Outcome
step03 v =
    let p = located v.root v.party in
    guarded v (ltb p.chain v.root.primaries) (moved (with_party (at_step 4 p) v))

-- 4: request the chain.
unfoldable pub step04 : View → Outcome
step04 v = request v (chain_lock v.party) (at_step 5 v.party)

-- 5: give up root.
unfoldable pub step05 : View → Outcome
step05 v = release v (root_read ∷ []) (at_step 6 v.party)
