-- Several locks given up in one step: each is found held, and the words then say that the party holds none of them.
-- Main statements: Apart (locks of different words), held_all, given_up_locks, given_up_rest (nothing but lock words changes), given_up_alike, release_all (a party that gives up all it holds).
use mathlib.Core.Path.{◌≡◌, refl, ◌∙◌}
use mathlib.Core.Logic.{◌≢◌}
use mathlib.Core.Bool.{Bool, true, false, cond, not, ◌&&◌, ◌||◌, and-true, and-false, and-not_self, or-false}
use mathlib.Core.List.{List, [], ◌∷◌}
use Prim.Native.Nat.{ℕ, ◌<◌}
use lib.ListN.{set}
use lib.Dec.{eqb}
use Rattle.model.specs.declared.Party.{Party}
use Rattle.model.specs.declared.Mode.{Mode}
use Rattle.model.specs.LockWords.{Claim}
use Rattle.model.specs.Outcome.{View, with_locks}
use Rattle.model.specs.LockRequests.{is_held, held_all, without_hold, given_up}
use Rattle.model.specs.Memory.{Memory, view_of}
use Rattle.model.specs.Holds.{same_mode}
use Rattle.model.proofs.Laws.Lists.{Cmp, same, diff, cmp, All, all_zip, eqb_same, eqb-diff}
use Rattle.model.specs.Claims.{claims}
use Rattle.model.proofs.Invariant.Claims.{is_claimed, claimed, LocksOk}
use Rattle.model.proofs.Invariant.LockMoves.{held_true, locks_released, locks_same, locks_move}
use Rattle.model.proofs.Effects.Requests.{claim_more}
use Rattle.model.specs.Book.{Book}
use Rattle.model.proofs.Invariant.Turn.{Turn, me, party_small, row_long}
use Rattle.model.specs.Sizes.{lock_words}

-- No two locks of the list are of one word.
abbrev pub Apart : List Claim → Type 0
Apart [] = Unit {0}
Apart (c ∷ cs) = All (λ d. d.word ≢ c.word) cs × Apart cs

-- Nothing but lock words changes.
pub given_up_rest : (cs : List Claim) (v : View) → given_up cs v ≡ with_locks (given_up cs v).locks v
unfolding given_up without_hold
given_up_rest [] v = refl
given_up_rest (c ∷ cs) v = given_up_rest cs (without_hold c v)

-- What becomes of them goes by the lock words and the party's number alone.
pub given_up_alike : (cs : List Claim) (v w : View) → w.locks ≡ v.locks → w.number ≡ v.number → (given_up cs w).locks ≡ (given_up cs v).locks
unfolding given_up without_hold
given_up_alike [] v w e n = e
given_up_alike (c ∷ cs) v w e n = given_up_alike cs (without_hold c v) (without_hold c w) (rw (e, n) refl) n

-- A party that holds all of them is found to.
pub held_all_lem : {n : ℕ} {h : ℕ → ℕ → Mode → Bool} (v : View) → LocksOk n v.locks h → (cs : List Claim) → All (λ c. c.word < n) cs
    → All (λ c. h c.word v.number c.mode ≡ true) cs → held_all v cs ≡ true
unfolding held_all is_held
held_all_lem v ok [] f a = refl
held_all_lem v ok (c ∷ cs) f a = rw (held_true (ok.each c.word f.0) v.number c.mode a.0, held_all_lem v ok cs f.1 a.1) refl

-- What is held without the locks cs of party q.
unfoldable pub without : (ℕ → ℕ → Mode → Bool) → ℕ → List Claim → ℕ → ℕ → Mode → Bool
without h q cs i k o = h i k o && not (eqb k q && is_claimed cs i o)

-- Taking one lock away, then the others.
without_more : (h : ℕ → ℕ → Mode → Bool) (q : ℕ) (c : Claim) (cs : List Claim) (i k : ℕ) (o : Mode)
    → without h q (c ∷ cs) i k o ≡ without (λ i' q' m'. h i' q' m' && not (eqb i' c.word && eqb q' q && same_mode m' c.mode)) q cs i k o
unfolding without
without_more h q c cs i k o = rw (claim_more c cs i o) (shuffle (h i k o) (eqb k q) (is_claimed cs i o) (eqb i c.word) (same_mode o c.mode))
  where
    shuffle : (x a y e s : Bool) → (x && not (a && (y || (e && s)))) ≡ ((x && not (e && a && s)) && not (a && y))
    shuffle false a y e s = refl
    shuffle true false y e s = rw (and-false e) refl
    shuffle true true y true true = or_true-not y
      where
        or_true-not : (z : Bool) → not (z || true) ≡ false
        or_true-not true = refl
        or_true-not false = refl
    shuffle true true y true false = rw (or-false y) refl
    shuffle true true y false s = rw (or-false y) refl

pub given_up_locks : {n : ℕ} {h : ℕ → ℕ → Mode → Bool} (cs : List Claim) (v : View) → LocksOk n v.locks h → v.number < 16 → Apart cs → All (λ c. c.word < n) cs
    → All (λ c. h c.word v.number c.mode ≡ true) cs → LocksOk n (given_up cs v).locks (without h v.number cs)
unfolding given_up without_hold without is_claimed
given_up_locks {h = h} [] v ok l d f a = locks_same (λ i k o. rw (and-false (eqb k v.number)) (and-true _)) ok
given_up_locks {h = h} (c ∷ cs) v ok l d f a =
    locks_same (without_more h v.number c cs)
    (given_up_locks {h = λ i k o. h i k o && not (eqb i c.word && eqb k v.number && same_mode o c.mode)} cs (without_hold c v) (locks_released ok c.word f.0 v.number c.mode a.0 l) l d.1 f.1
    (all_zip cs (λ e n y. rw (eqb-diff e.word c.word n) (and-true _ ∙ y)) d.0 a.1))

-- A party that gives up all it holds, and whose new record claims nothing.
pub release_all : {m : Memory} {b : Book} {q k : ℕ} (t : Turn m b q k) (p : Party) → claims m.root p ≡ [] → (cs : List Claim) → claims m.root (me t) ≡ cs → Apart cs
    → All (λ c. c.word < lock_words m.root) cs → All (λ c. claimed m.root m.parties c.word q c.mode ≡ true) cs
    → LocksOk (lock_words m.root) (given_up cs (view_of m q)).locks (claimed m.root (set m.parties q p))
unfolding without is_claimed
release_all {m} {b} {q} t p none cs has d f a =
    locks_move m.root m.parties q p (row_long t) (given_up_locks cs (view_of m q) t.inv.locks_ok (party_small t) d f a) (λ i j o. go i j o (cmp j q))
  where
    go : (i j : ℕ) (o : Mode) → Cmp j q → (claimed m.root m.parties i j o && not (eqb j q && is_claimed cs i o))
        ≡ cond (eqb j q) (is_claimed (claims m.root p) i o) (claimed m.root m.parties i j o)
    go i j o (same e) = rw (e, eqb_same q q refl, none, has) (and-not_self (is_claimed cs i o))
    go i j o (diff n) = rw (eqb-diff j q n) (and-true (claimed m.root m.parties i j o))
