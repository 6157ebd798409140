-- A list of locks gone through one after the other.
-- Main statements: one_there, one_held and one_given_up (the first that is left), none_held and none_given_up (after the last).
use mathlib.Core.Path.{◌≡◌, refl}
use mathlib.Core.Bool.{true, ◌&&◌}
use mathlib.Core.List.{List, []}
use Prim.Native.Nat.{ℕ, ◌<◌, ◌+◌}
use lib.ListN.{length, get_or, drop}
use Rattle.std.proofs.lemmas.List.{drop_more}
use Rattle.model.specs.declared.Mode.TheVariants.{Read}
use Rattle.model.specs.Outcome.{View}
use Rattle.model.specs.LockRequests.{is_held, held_all, without_hold, given_up}
use Rattle.lock_requests.specs.declared.Lock.{Lock}
use Rattle.lock_requests.specs.Locks.{claim_of, claims_of, AllThere}

-- The lock that stands for one past the list's end.
abbrev beyond : Lock
beyond = record { word = 0; mode = Read }

module _ (ls : List Lock) (i : ℕ) (more : i < length ls) where
  pub one_there : {n : ℕ} → AllThere (drop i ls) n → ((get_or ls i beyond).word < n) × AllThere (drop (i + 1) ls) n
  one_there a = rw (drop_more ls i beyond more) at a

  pub one_held : (v : View) → held_all v (claims_of (drop i ls)) ≡ (is_held v (claim_of (get_or ls i beyond)) && held_all v (claims_of (drop (i + 1) ls)))
  unfolding held_all
  one_held v = rw (drop_more ls i beyond more) refl

  pub one_given_up : (v : View) → given_up (claims_of (drop i ls)) v ≡ given_up (claims_of (drop (i + 1) ls)) (without_hold (claim_of (get_or ls i beyond)) v)
  unfolding given_up
  one_given_up v = rw (drop_more ls i beyond more) refl

pub none_held : (v : View) → held_all v (claims_of []) ≡ true
unfolding held_all
none_held v = refl

pub none_given_up : (v : View) → given_up (claims_of []) v ≡ v
unfolding given_up
none_given_up v = refl
