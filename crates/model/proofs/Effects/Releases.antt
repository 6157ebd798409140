-- Steps that give up a lock: the lock is found held, and the words then say what the party's new record says.
-- Main statements: lock_held (a claimed lock is held); Holds (a lock of the party), holds_it, held_one, release_locks;
-- Releases (what a step owes that gives up one lock and moves on), given_up_kept, release-kept.
use mathlib.Core.Path.{◌≡◌, refl, sym, ◌∙◌, ap}
use mathlib.Core.Logic.{◌≢◌}
use mathlib.Core.Bool.{Bool, true, false, cond, not, ◌&&◌, ◌||◌, and-true, and-false, or-false}
use mathlib.Core.List.{List, [], ◌∷◌, ◌++◌}
use Prim.Native.Nat.{ℕ, ◌<◌}
use lib.ListN.{get_or, set}
use lib.Dec.{eqb}
use Rattle.model.specs.declared.Root.{Root}
use Rattle.model.specs.declared.Party.{Party}
use Rattle.model.specs.declared.Mode.{Mode}
use Rattle.model.specs.LockWords.{Claim, holds, released_word}
use Rattle.model.specs.Sizes.{lock_words}
use Rattle.model.specs.Outcome.{with_party, moved}
use Rattle.model.specs.LockRequests.{is_held, held_all, without_hold, given_up, release}
use Rattle.model.specs.Memory.{Memory, party_at, view_of}
use Rattle.model.specs.Book.{Book}
use Rattle.model.specs.Holds.{same_mode}
use Rattle.model.proofs.Laws.Lists.{Cmp, same, diff, cmp, All, eqb_same, eqb-diff}
use Rattle.model.specs.Claims.{claims}
use Rattle.model.proofs.Invariant.Claims.{is_claimed, claimed, LocksOk}
use Rattle.model.proofs.Invariant.LockMoves.{held_true, locks_released, locks_move}
use Rattle.model.proofs.Invariant.Turn.{Turn, claims_at, its_claims, me, party_small, row_long}
use Rattle.model.proofs.Invariant.Frame.{claims_at_lem, later, named}
use Rattle.model.proofs.Effects.Kept.{Kept}
use Rattle.model.proofs.Effects.OwnRecord.{own_kept, Moves}
use Rattle.model.proofs.Effects.Requests.{claim_among}

-- A word of which the list has no lock.
pub unclaimed : (cs : List Claim) (w : ℕ) (m : Mode) → All (λ c. c.word ≢ w) cs → is_claimed cs w m ≡ false
unfolding is_claimed
unclaimed [] w m a = refl
unclaimed (c ∷ cs) w m a = rw (eqb-diff c.word w a.0, unclaimed cs w m a.1) refl

-- A list that has the lock c claims it.
named_among : (xs : List Claim) (c : Claim) (ys : List Claim) → is_claimed (xs ++ (c ∷ ys)) c.word c.mode ≡ true
named_among [] c ys = named ys c.word c.mode
named_among (d ∷ xs) c ys = later d (xs ++ (c ∷ ys)) c.word c.mode (named_among xs c ys)

-- A lock given up leaves the others, where they are of other words.
claim_dropped : (xs : List Claim) (c : Claim) (ys : List Claim) → All (λ d. d.word ≢ c.word) (xs ++ ys) → (i : ℕ) (m : Mode)
    → is_claimed (xs ++ ys) i m ≡ (is_claimed (xs ++ (c ∷ ys)) i m && not (eqb i c.word && same_mode m c.mode))
claim_dropped xs c ys apart i m = rw (claim_among xs c ys i m) (go (cmp i c.word) (same_mode m c.mode))
  where
    go : Cmp i c.word → (s : Bool) → is_claimed (xs ++ ys) i m ≡ ((is_claimed (xs ++ ys) i m || (eqb i c.word && s)) && not (eqb i c.word && s))
    go (same e) true = rw (e, eqb_same c.word c.word refl, unclaimed (xs ++ ys) c.word m apart) refl
    go (same e) false = rw (and-false (eqb i c.word), or-false (is_claimed (xs ++ ys) i m)) (sym (and-true (is_claimed (xs ++ ys) i m)))
    go (diff n) s = rw (eqb-diff i c.word n, or-false (is_claimed (xs ++ ys) i m)) (sym (and-true (is_claimed (xs ++ ys) i m)))

-- Every give-up finds its lock held.
pub lock_held : {n : ℕ} {locks : List ℕ} (r : Root) (ps : List Party) → LocksOk n locks (claimed r ps) → (q : ℕ) (c : Claim) → c.word < n
    → is_claimed (claims r (party_at ps q)) c.word c.mode ≡ true → holds (get_or locks c.word 0) q c.mode ≡ true
lock_held r ps ok q c fits has = held_true (ok.each c.word fits) q c.mode has

-- ---- A lock that the party holds

-- By the table of its step number it has the lock c between the locks front and back.
pub record Holds {m : Memory} {b : Book} {q k : ℕ} (t : Turn m b q k) (c : Claim) : Type 0 where
  pub word_fits : c.word < lock_words m.root
  pub front : List Claim
  pub back : List Claim
  pub has : claims_at k (me t) ≡ front ++ (c ∷ back)

module _ {m : Memory} {b : Book} {q k : ℕ} (t : Turn m b q k) {c : Claim} (h : Holds t c) where
  pub holds_it : is_claimed (claims m.root (me t)) c.word c.mode ≡ true
  holds_it = ap (λ (cs : List Claim). is_claimed cs c.word c.mode) (its_claims t ∙ h.has) ∙ named_among h.front c h.back

  pub held_one : held_all (view_of m q) (c ∷ []) ≡ true
  unfolding held_all is_held
  held_one = rw (lock_held m.root m.parties t.inv.locks_ok q c h.word_fits holds_it) refl

  -- The lock words once it is given up and the record is p, which claims the others.
  pub release_locks : (p : Party) → claims_at p.step p ≡ h.front ++ h.back → All (λ d. d.word ≢ c.word) (h.front ++ h.back)
      → LocksOk (lock_words m.root) (set m.locks c.word (released_word (get_or m.locks c.word 0) q c.mode)) (claimed m.root (set m.parties q p))
  release_locks p left apart =
      locks_move m.root m.parties q p (row_long t) (locks_released t.inv.locks_ok c.word h.word_fits q c.mode holds_it (party_small t)) (λ w j o. go w j o (cmp j q))
    where
      loses : (w : ℕ) (o : Mode) → is_claimed (claims m.root p) w o ≡ (is_claimed (claims m.root (me t)) w o && not (eqb w c.word && same_mode o c.mode))
      loses w o =
          ap (λ (cs : List Claim). is_claimed cs w o) (claims_at_lem m.root p p.step refl ∙ left) ∙ claim_dropped h.front c h.back apart w o
          ∙ ap (λ (cs : List Claim). is_claimed cs w o && not (eqb w c.word && same_mode o c.mode)) (sym (its_claims t ∙ h.has))

      go : (w j : ℕ) (o : Mode) → Cmp j q → (claimed m.root m.parties w j o && not (eqb w c.word && eqb j q && same_mode o c.mode))
          ≡ cond (eqb j q) (is_claimed (claims m.root p) w o) (claimed m.root m.parties w j o)
      go w j o (same e) = rw (e, eqb_same q q refl, and-true (eqb w c.word), loses w o) refl
      go w j o (diff d) = rw (eqb-diff j q d, and-false (eqb w c.word)) (and-true (claimed m.root m.parties w j o))

-- ---- A step that gives up one lock

-- What a step owes that gives up the lock c, and whose record is then p.
pub record Releases {m : Memory} {b : Book} {q k : ℕ} (t : Turn m b q k) (c : Claim) (p : Party) : Type 0 where
  pub held : Holds t c
  pub left : claims_at p.step p ≡ held.front ++ held.back
  pub apart : All (λ d. d.word ≢ c.word) (held.front ++ held.back)
  pub moves : Moves t p

module _ {m : Memory} {b : Book} {q k : ℕ} (t : Turn m b q k) (c : Claim) (p : Party) (x : Releases t c p) where
  -- After the test that the lock is held.
  pub given_up_kept : Kept m b q (moved (with_party p (given_up (c ∷ []) (view_of m q))))
  unfolding given_up without_hold
  given_up_kept = own_kept t p x.moves _ (release_locks t x.held p x.left x.apart)

  pub release-kept : Kept m b q (release (view_of m q) (c ∷ []) p)
  unfolding release
  release-kept = rw (held_one t x.held) given_up_kept
