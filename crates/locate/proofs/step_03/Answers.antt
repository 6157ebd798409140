-- `locate::step_03` meets its contract: whether there is a chain with the number worked out.
use mathlib.Core.Path.{◌≡◌}
use Prim.Native.Nat.{ℕ, ◌≤◌, ◌<◌}
use borrow.Author.Tests.{lt-ltb, le-ltb}
use Rattle.model.specs.declared.Refusal.{Refusal}
use Rattle.model.specs.Records.{at_step, with_lev, with_chain}
use Rattle.model.specs.Addresses.{address_level, address_of}
use Rattle.model.specs.Outcome.{View, with_party, moved, refuse}
use Rattle.model.specs.Steps.Locate.{located, step03}
use Rattle.records.specs.Work.{seen}
use Rattle.locate.proofs.step_03.Goals as goal

-- l and c are the lev and the chain that were worked out.
module _ (v : View) {l c : ℕ} (lev : l ≡ address_level v.root.originals v.party.lev v.root.next v.party.key)
    (chain : c ≡ address_of v.root.originals v.party.lev v.root.next v.party.key) where
  there_moves : c < v.root.primaries → moved (with_party (at_step 4 (with_chain c (with_lev l v.party))) v) ≡ step03 v
  unfolding step03 located
  there_moves h = rw (← lev, ← chain, lt-ltb c v.root.primaries h)

  beyond_refused : v.root.primaries ≤ c → refuse Refusal.Damage v ≡ step03 v
  unfolding step03 located
  beyond_refused h = rw (← chain, le-ltb c v.root.primaries h)

pub returns-then-work-at : goal.returns-then-work-at
returns-then-work-at c =
    let a = c.args in
    beyond_refused (seen a.work.now a.locks.now a.pages.now) c.locate-at.ensures.0 c.locate-at.ensures.1 c.if-work-at.true

pub returns : goal.returns
returns c =
    let a = c.args in
    there_moves (seen a.work.now a.locks.now a.pages.now) c.locate-at.ensures.0 c.locate-at.ensures.1 c.if-work-at.false
