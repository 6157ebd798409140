-- Locks granted and given up again.
-- Main statements: Regained (a lock whose word is what it was, once it is granted and given up), regained;
-- given_up_last (the lock just granted, given up after others).
use mathlib.Core.Path.{◌≡◌, sym, ap, ◌∙◌}
use mathlib.Core.Logic.{◌≢◌}
use mathlib.Core.Bool.{Bool, true, false}
use mathlib.Core.List.{List, [], ◌∷◌, ◌++◌}
use Prim.Native.Nat.{ℕ, ◌<◌}
use lib.ListN.{length, get_or, set, length-set}
use lib.Seq.{get_or-set_same, get_or-set_other, set-get_or, set-set, set_comm}
use Rattle.model.specs.declared.Mode.{Mode}
use Rattle.model.specs.LockWords.{Claim, granted_word, released_word}
use Rattle.model.specs.Outcome.{View, with_locks}
use Rattle.model.specs.LockRequests.{lock_word, is_granted, with_hold, without_hold, given_up}
use Rattle.model.proofs.Laws.Lists.{All}
use Rattle.model.proofs.Effects.Requests.{granted_permits}
use Rattle.model.proofs.Invariant.Claims.{LocksOk}
use Rattle.model.proofs.Invariant.LockMoves.{word_restored}

-- The lock c of the view v, granted and given up, leaves its word.
pub record Regained (v : View) (c : Claim) : Type 0 where
  pub fits : c.word < length v.locks
  pub word= : released_word (granted_word (lock_word v c.word) v.number c.mode) v.number c.mode ≡ lock_word v c.word

-- So it is of a lock that is granted and was not held.
pub regained : {n : ℕ} {h : ℕ → ℕ → Mode → Bool} (v : View) (c : Claim) → LocksOk n v.locks h → c.word < n → v.number < 16 → is_granted v c ≡ true
    → h c.word v.number c.mode ≡ false → Regained v c
regained v c ok fits small may unheld = record { fits = rw ok.as_many fits; word= = word_restored (ok.each c.word fits) v.number c.mode (granted_permits v c may) unheld small }

-- At once.
given_up_at_once : (v : View) (c : Claim) → Regained v c → (without_hold c (with_hold c v)).locks ≡ v.locks
unfolding without_hold with_hold
given_up_at_once v c k =
    let i = c.word in
    let q = v.number in
    let g = granted_word (lock_word v i) q c.mode in
    set-set v.locks i g (released_word (get_or (set v.locks i g) i 0) q c.mode)
    ∙ ap (λ (w : ℕ). set v.locks i (released_word w q c.mode)) (get_or-set_same v.locks i g 0 k.fits) ∙ ap (set v.locks i) k.word= ∙ set-get_or v.locks i 0

-- A lock of another word may be given up before the grant.
grant_passed : (v : View) (c d : Claim) → d.word ≢ c.word → without_hold d (with_hold c v) ≡ with_hold c (without_hold d v)
unfolding without_hold with_hold
grant_passed v c d n =
    let i = c.word in
    let j = d.word in
    let q = v.number in
    let g = granted_word (lock_word v i) q c.mode in
    let r = released_word (lock_word v j) q d.mode in
    ap (λ (ls : List ℕ). with_locks ls v)
    (ap (λ (w : ℕ). set (set v.locks i g) j (released_word w q d.mode)) (get_or-set_other v.locks i j g 0 n)
    ∙ set_comm v.locks i j g r (λ e. n (sym e))
    ∙ ap (λ (w : ℕ). set (set v.locks j r) i (granted_word w q c.mode)) (sym (get_or-set_other v.locks j i r 0 (λ e. n (sym e)))))

regained_beside : (v : View) (c d : Claim) → d.word ≢ c.word → Regained v c → Regained (without_hold d v) c
unfolding without_hold
regained_beside v c d n k = record {
  fits = rw (length-set v.locks d.word (released_word (lock_word v d.word) v.number d.mode)) k.fits;
  word= = rw (get_or-set_other v.locks d.word c.word (released_word (lock_word v d.word) v.number d.mode) 0 (λ e. n (sym e))) k.word=;
}

-- After other locks, of other words: what is left is what they alone leave.
pub given_up_last : (cs : List Claim) (v : View) (c : Claim) → Regained v c → All (λ d. d.word ≢ c.word) cs → (given_up (cs ++ (c ∷ [])) (with_hold c v)).locks ≡ (given_up cs v).locks
unfolding given_up
given_up_last [] v c k a = given_up_at_once v c k
given_up_last (d ∷ cs) v c k a =
    ap (λ (u : View). (given_up (cs ++ (c ∷ [])) u).locks) (grant_passed v c d a.0) ∙ given_up_last cs (without_hold d v) c (regained_beside v c d a.0 k) a.1
