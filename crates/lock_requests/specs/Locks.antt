-- Locks as the code names them, the lent lock words after they were given up, and when a party can go to its locks.
-- Main definitions: claim_of and claims_of (the model's claims), after_giving_up, held_or_damaged, CanLock.
use Rattle.std.specs.Prelude.{Bool, true, false, cond, List, [], ◌∷◌, ℕ, ◌+◌, ◌<◌, length, map, Result, Ok, Err, ⊤}
use Rattle.model.specs.declared.Mode.{Mode}
use Rattle.model.specs.declared.Damaged.{Damaged}
use Rattle.model.specs.LockWords.{Claim, claim, root_word, chain_word}
use Rattle.model.specs.LockRequests.{held_all, given_up}
use Rattle.model.specs.Outcome.{View}
use Rattle.records.specs.declared.Working.{Working}
use Rattle.lock_requests.specs.declared.Lock.{Lock}

-- The root's lock and a chain's.
abbrev pub root_lock : Mode → Lock
root_lock m = record { word = root_word; mode = m }

abbrev pub chain_lock : ℕ → Mode → Lock
chain_lock c m = record { word = chain_word c; mode = m }

-- The claim that a lock is.
abbrev pub claim_of : Lock → Claim
claim_of l = claim l.word l.mode

abbrev pub claims_of : List Lock → List Claim
claims_of ls = map claim_of ls

-- The words of all of them are among n lock words.
abbrev pub AllThere : List Lock → ℕ → Type 0
AllThere [] n = ⊤
AllThere (l ∷ ls) n = (l.word < n) × AllThere ls n

-- What giving up answers, by whether all are held.
abbrev pub held_or_damaged : Bool → Result ⊤ Damaged
held_or_damaged true = Ok tt
held_or_damaged false = Err (record {})

-- Where all are held they are given up; else no word changes.
abbrev pub after_giving_up : List Claim → View → View
after_giving_up cs v = cond (held_all v cs) (given_up cs v) v

-- The party's number is one of sixteen, and the lock words of its chain and its other chain are there.
pub record CanLock (w : Working) (ls : List ℕ) : Type 0 where
  pub number_fits : w.number < 16
  pub chain_fits : w.party.chain < 256
  pub chain_there : w.party.chain + 1 < length ls
  pub other_fits : w.party.other < 256
  pub other_there : w.party.other + 1 < length ls
