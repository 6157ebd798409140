-- `withdraw::give_up_claimed` meets its contract: at each step the list is that of the model's table.
use mathlib.Core.Path.{refl}
use mathlib.Core.List.{[], ◌∷◌}
use native.Mathlib.Omega.{arith}
use Rattle.model.specs.LockRequests.{held_all, given_up}
use Rattle.model.specs.Claims.{claims}
use Rattle.lock_requests.specs.Locks.{claims_of}
use Rattle.withdraw.proofs.Locks.{as_claimed, claims_at, claimed_none, claimed_locating, claimed_working}
use Rattle.withdraw.proofs.give_up_claimed.Goals as goal

pub returns-in-0-to-1 : goal.returns-in-0-to-1
unfolding held_all given_up
returns-in-0-to-1 c = λ r ps. rw (claimed_none r c.args.work.now.party (omega arith)) (refl, refl)

pub returns-in-2-to-4 : goal.returns-in-2-to-4
returns-in-2-to-4 c = λ r.
    let p = c.args.work.now.party in
    as_claimed c.args.work.now c.args.locks.now (claims_of (c.root-root.result ∷ [])) (claims r p) c.give_up-in-2-to-4.ensures.held c.give_up-in-2-to-4.ensures.words (rw (c.root-root.ensures, claimed_locating r p (omega arith) (omega arith)) refl)

pub returns-in-5 : goal.returns-in-5
returns-in-5 c = λ r.
    let p = c.args.work.now.party in
    as_claimed c.args.work.now c.args.locks.now (claims_of (c.root-root.result ∷ c.chain-chain.result ∷ [])) (claims r p) c.give_up.ensures.held c.give_up.ensures.words (rw (c.root-root.ensures, c.chain-chain.ensures, c.mode_of-mode.ensures, claims_at r p 5 c.in-5.is) refl)

pub returns-in-7 : goal.returns-in-7
returns-in-7 c = λ r.
    let p = c.args.work.now.party in
    as_claimed c.args.work.now c.args.locks.now (claims_of (c.chain-other.result ∷ [])) (claims r p) c.give_up-in-7.ensures.held c.give_up-in-7.ensures.words (rw (c.chain-other.ensures, c.mode_of-mode.ensures, claims_at r p 7 c.in-7.is) refl)

pub returns-in-8 : goal.returns-in-8
returns-in-8 c = λ r.
    let p = c.args.work.now.party in
    as_claimed c.args.work.now c.args.locks.now (claims_of (c.chain-other.result ∷ c.chain-chain.result ∷ [])) (claims r p) c.give_up-in-8.ensures.held c.give_up-in-8.ensures.words (rw (c.chain-other.ensures, c.chain-chain.ensures, c.mode_of-mode.ensures, claims_at r p 8 c.in-8.is) refl)

pub returns-in_default : goal.returns-in_default
returns-in_default c = λ r.
    let p = c.args.work.now.party in
    as_claimed c.args.work.now c.args.locks.now (claims_of (c.chain-chain.result ∷ [])) (claims r p) c.give_up-in_default.ensures.held c.give_up-in_default.ensures.words (rw (c.chain-chain.ensures, c.mode_of-mode.ensures, claimed_working r p (omega arith) (omega arith) (omega arith) (omega (arith, c.requires.1))) refl)
