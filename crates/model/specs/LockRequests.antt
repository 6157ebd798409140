-- How steps request locks and give them up (document 01, "Addresses and locks" and the steps), and the locks that several steps name.
-- Main definitions: mode_of (the mode in which an operation locks its chain); request (the one path of all requesting steps); held_all, given_up and release.
use Rattle.std.specs.Prelude.{Bool, true, cond, not, ◌&&◌, List, [], ◌∷◌, ℕ, eqb, get_or, set}
use Rattle.model.specs.declared.Mode.{Mode}
use Rattle.model.specs.declared.Mode.TheVariants.{Read, Selective, Exclusive}
use Rattle.model.specs.declared.Party.{Party}
use Rattle.model.specs.Records.{find_operation}
use Rattle.model.specs.LockWords.{Claim, permits, holds, granted_word, released_word, claim, root_word, chain_word}
use Rattle.model.specs.Outcome.{View, with_party, with_locks, Outcome, waits, moved, guarded}

-- ---- The locks that steps name

-- The root's lock, for reading (steps 1 and 5), selective (a split's) and exclusive (a merge's).
abbrev pub root_read : Claim
root_read = claim root_word Read

abbrev pub root_selective : Claim
root_selective = claim root_word Selective

abbrev pub root_exclusive : Claim
root_exclusive = claim root_word Exclusive

-- "read for find, selective otherwise".
unfoldable pub mode_of : Party → Mode
mode_of p = cond (eqb p.operation find_operation) Read Selective

-- The lock of the party's chain and of its other chain in that mode.
abbrev pub chain_lock : Party → Claim
chain_lock p = claim (chain_word p.chain) (mode_of p)

abbrev pub other_lock : Party → Claim
other_lock p = claim (chain_word p.other) (mode_of p)

-- The lock of the party's chain, selective and exclusive, and of its other chain, exclusive.
abbrev pub chain_selective : Party → Claim
chain_selective p = claim (chain_word p.chain) Selective

abbrev pub chain_exclusive : Party → Claim
chain_exclusive p = claim (chain_word p.chain) Exclusive

abbrev pub other_exclusive : Party → Claim
other_exclusive p = claim (chain_word p.other) Exclusive

-- ---- Requests

abbrev pub lock_word : View → ℕ → ℕ
lock_word v i = get_or v.locks i 0

-- Whether a request is granted: Table I against the lock word as it stands, and no conflicting request that waits came
-- before it.
unfoldable pub is_granted : View → Claim → Bool
is_granted v c = permits (lock_word v c.word) c.mode && not v.behind

-- The memory with the lock held.
unfoldable pub with_hold : Claim → View → View
with_hold c v = with_locks (set v.locks c.word (granted_word (lock_word v c.word) v.number c.mode)) v

-- A request: granted, the party's record becomes p; else the party waits.
unfoldable pub request : View → Claim → Party → Outcome
request v c p = cond (is_granted v c) (moved (with_party p (with_hold c v))) (waits v)

-- ---- Give-ups

-- Whether the party holds the lock.
unfoldable pub is_held : View → Claim → Bool
is_held v c = holds (lock_word v c.word) v.number c.mode

-- Whether the party holds all of them: "a lock given up ... that is not held" is damage.
unfoldable pub held_all : View → List Claim → Bool
held_all v [] = true
held_all v (c ∷ cs) = is_held v c && held_all v cs

-- The memory with the lock, or all of them, given up.
unfoldable pub without_hold : Claim → View → View
without_hold c v = with_locks (set v.locks c.word (released_word (lock_word v c.word) v.number c.mode)) v

unfoldable pub given_up : List Claim → View → View
given_up [] v = v
given_up (c ∷ cs) v = given_up cs (without_hold c v)

-- The party gives up locks that it must hold, and its record becomes p.
unfoldable pub release : View → List Claim → Party → Outcome
release v cs p = guarded v (held_all v cs) (moved (with_party p (given_up cs v)))
