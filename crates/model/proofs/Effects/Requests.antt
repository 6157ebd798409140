-- Steps that request a lock: granted by Table I, the party holds it and its record moves on; else it waits.
-- Main statements: claim_more, claim_among (one lock more in a list, at its front or anywhere); Requests (what a
-- requesting step owes), request-kept.
use mathlib.Core.Path.{◌≡◌, refl, sym, ap, ◌∙◌}
use mathlib.Core.Bool.{Bool, true, cond, ◌&&◌, ◌||◌, or_comm, or_assoc, or-false, and-true, and-false}
use mathlib.Core.List.{List, [], ◌∷◌, ◌++◌, append-nil}
use Prim.Native.Nat.{ℕ, ◌<◌}
use lib.ListN.{get_or}
use lib.Dec.{eqb}
use Rattle.model.specs.declared.Party.{Party}
use Rattle.model.specs.declared.Mode.{Mode}
use Rattle.model.specs.declared.Mode.TheVariants.{Read, Selective, Exclusive}
use Rattle.model.specs.Sizes.{lock_words}
use Rattle.model.specs.LockWords.{Claim, permits}
use Rattle.model.specs.Outcome.{View}
use Rattle.model.specs.LockRequests.{lock_word, is_granted, with_hold, request}
use Rattle.model.specs.Memory.{Memory, view_of}
use Rattle.model.specs.Book.{Book}
use Rattle.model.specs.Holds.{same_mode}
use Rattle.model.proofs.Laws.Lists.{Cmp, same, diff, cmp, Told, holds, fails, tell, cond_ind, false≢true, eqb_same, eqb-diff}
use Rattle.model.specs.Claims.{claims}
use Rattle.model.proofs.Invariant.Claims.{is_claimed, claimed}
use Rattle.model.proofs.Invariant.LockMoves.{locks_granted, locks_move}
use Rattle.model.proofs.Invariant.Turn.{Turn, claims_at, its_claims, me, party_small, row_long}
use Rattle.model.proofs.Invariant.Frame.{claims_at_lem}
use Rattle.model.proofs.Effects.Kept.{Kept, waits_kept}
use Rattle.model.proofs.Effects.OwnRecord.{own_kept, Moves}

-- ---- One lock more

same_mode_sym : (a b : Mode) → same_mode a b ≡ same_mode b a
unfolding same_mode
same_mode_sym Read Read = refl
same_mode_sym Read Selective = refl
same_mode_sym Read Exclusive = refl
same_mode_sym Selective Read = refl
same_mode_sym Selective Selective = refl
same_mode_sym Selective Exclusive = refl
same_mode_sym Exclusive Read = refl
same_mode_sym Exclusive Selective = refl
same_mode_sym Exclusive Exclusive = refl

eqb-sym : (a b : ℕ) → eqb a b ≡ eqb b a
eqb-sym a b = go (cmp a b)
  where
    go : Cmp a b → eqb a b ≡ eqb b a
    go (same e) = eqb_same a b e ∙ sym (eqb_same b a (sym e))
    go (diff n) = eqb-diff a b n ∙ sym (eqb-diff b a (λ e. n (sym e)))

pub claim_more : (c : Claim) (cs : List Claim) (i : ℕ) (m : Mode) → is_claimed (c ∷ cs) i m ≡ (is_claimed cs i m || (eqb i c.word && same_mode m c.mode))
unfolding is_claimed
claim_more c cs i m = rw (eqb-sym c.word i, same_mode_sym c.mode m) (or_comm (eqb i c.word && same_mode m c.mode) (is_claimed cs i m))

-- Beside the locks xs and ys.
pub claim_among : (xs : List Claim) (c : Claim) (ys : List Claim) (i : ℕ) (m : Mode)
    → is_claimed (xs ++ (c ∷ ys)) i m ≡ (is_claimed (xs ++ ys) i m || (eqb i c.word && same_mode m c.mode))
unfolding is_claimed
claim_among [] c ys i m = claim_more c ys i m
claim_among (d ∷ xs) c ys i m =
    ap (λ (t : Bool). (eqb d.word i && same_mode d.mode m) || t) (claim_among xs c ys i m)
    ∙ sym (or_assoc (eqb d.word i && same_mode d.mode m) (is_claimed (xs ++ ys) i m) (eqb i c.word && same_mode m c.mode))

-- ---- A request

-- What is granted is permitted by Table I.
pub granted_permits : (v : View) (c : Claim) → is_granted v c ≡ true → permits (lock_word v c.word) c.mode ≡ true
unfolding is_granted
granted_permits v c g = go (tell (permits (lock_word v c.word) c.mode))
  where
    go : Told (permits (lock_word v c.word) c.mode) → permits (lock_word v c.word) c.mode ≡ true
    go (holds t) = t
    go (fails t) = absurd (false≢true (rw t at g))

-- What a step owes that requests the lock c, and whose record is p once that is granted.
pub record Requests {m : Memory} {b : Book} {q k : ℕ} (t : Turn m b q k) (c : Claim) (p : Party) : Type 0 where
  pub word_fits : c.word < lock_words m.root
  pub gains : claims_at p.step p ≡ claims_at k (me t) ++ (c ∷ [])
  pub moves : permits (get_or m.locks c.word 0) c.mode ≡ true → Moves t p

module _ {m : Memory} {b : Book} {q k : ℕ} (t : Turn m b q k) (c : Claim) (p : Party) (x : Requests t c p) where
  one_more : (w : ℕ) (o : Mode) → is_claimed (claims m.root p) w o ≡ (is_claimed (claims m.root (me t)) w o || (eqb w c.word && same_mode o c.mode))
  one_more w o =
      ap (λ (cs : List Claim). is_claimed cs w o) (claims_at_lem m.root p p.step refl ∙ x.gains) ∙ claim_among (claims_at k (me t)) c [] w o
      ∙ ap (λ (cs : List Claim). is_claimed cs w o || (eqb w c.word && same_mode o c.mode)) (append-nil (claims_at k (me t)) ∙ sym (its_claims t))

  -- What the words say after the grant is what the new row claims.
  holds_then : (w j : ℕ) (o : Mode)
      → (claimed m.root m.parties w j o || (eqb w c.word && eqb j q && same_mode o c.mode))
      ≡ cond (eqb j q) (is_claimed (claims m.root p) w o) (claimed m.root m.parties w j o)
  holds_then w j o = go (cmp j q)
    where
      go : Cmp j q → (claimed m.root m.parties w j o || (eqb w c.word && eqb j q && same_mode o c.mode))
          ≡ cond (eqb j q) (is_claimed (claims m.root p) w o) (claimed m.root m.parties w j o)
      go (same e) = rw (e, eqb_same q q refl, one_more w o, and-true (eqb w c.word)) refl
      go (diff n) = rw (eqb-diff j q n, and-false (eqb w c.word)) (or-false (claimed m.root m.parties w j o))

  pub request-kept : Kept m b q (request (view_of m q) c p)
  unfolding request with_hold
  request-kept =
      cond_ind (Kept m b q) (is_granted (view_of m q) c) _ _
      (λ g. let y = granted_permits (view_of m q) c g in
      own_kept t p (x.moves y) _
      (locks_move m.root m.parties q p (row_long t) (locks_granted t.inv.locks_ok c.word x.word_fits q c.mode y (party_small t)) holds_then))
      (λ y. waits_kept m b q t.inv)
