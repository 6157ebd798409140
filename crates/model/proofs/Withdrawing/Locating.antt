-- Steps 1 to 8: a withdraw after one of them leaves what a withdraw before it leaves.
-- Main statements: Undoes (so it is of an outcome, or its decisive step is taken); request_undone, release_undone;
-- step01_undone to step08_undone.
use mathlib.Core.Path.{◌≡◌, refl, sym, ap, ◌∙◌, subst}
use mathlib.Core.Logic.{◌≢◌}
use mathlib.Core.Bool.{Bool, true, false, ◌&&◌}
use mathlib.Core.List.{List, [], ◌∷◌, ◌++◌}
use Prim.Native.Nat.{ℕ, ◌<◌}
use native.Mathlib.Omega.{arith}
use lib.ListN.{length}
use lib.Dec.{eqb, leb, ltb}
use Rattle.model.specs.declared.Party.{Party}
use Rattle.model.specs.Sizes.{page_words, lock_words}
use Rattle.model.specs.Records.{at_step, with_lev}
use Rattle.model.specs.LockWords.{Claim}
use Rattle.model.specs.Pages.{page_of, level_of, page_sound, primary_page, scratch_page, zero_page}
use Rattle.model.specs.Outcome.{View, with_party, with_locks, Outcome, moved, waits, guarded}
use Rattle.model.specs.LockRequests.{root_read, mode_of, chain_lock, other_lock, is_granted, with_hold, request, held_all, without_hold, given_up, release}
use Rattle.model.specs.ScratchPages.{with_scratch}
use Rattle.model.specs.Claims.{claims}
use Rattle.model.specs.Memory.{Memory, view_of}
use Rattle.model.specs.Book.{Book}
use Rattle.model.specs.Withdraw.{is_decided}
use Rattle.model.specs.Steps.Locate.{located, step01, step02, step03, step04, step05}
use Rattle.model.specs.Steps.Chase.{Chase, chase_of, arrived, chasing, step06, step07, step08}
use Rattle.model.proofs.Laws.Lists.{All, Told, holds, fails, tell, cond_ind}
use Rattle.model.proofs.Laws.Pages.{length_page_of, with_page-with_page}
use Rattle.model.proofs.Invariant.Claims.{is_claimed}
use Rattle.model.proofs.Invariant.Turn.{Turn, me, claims_at, its_claims, party_small}
use Rattle.model.proofs.Invariant.Frame.{claims_at_lem}
use Rattle.model.proofs.Effects.ScratchPage.{has_scratch}
use Rattle.model.proofs.Effects.Releases.{unclaimed}
use Rattle.model.proofs.Effects.GiveUps.{given_up_rest, given_up_alike}
use Rattle.model.proofs.Withdrawing.Locks.{regained, given_up_last}
use Rattle.model.proofs.Withdrawing.Undone.{undone, undone_alike}

-- An outcome after which the decisive step is taken, or a withdraw leaves what it leaves of the view v before it.
pub data Undoes (v : View) (o : Outcome) : Type 0 where
  decides : o.after.number ≡ v.number → is_decided o.after.party ≡ true → Undoes v o
  undoes : o.after.number ≡ v.number → undone o.after ≡ undone v → Undoes v o

-- Whatever the test says, where a refused call leaves the view.
pub guarded_undone : (v : View) {o : Outcome} (t : Bool) → Undoes v o → Undoes v (guarded v t o)
guarded_undone v true x = x
guarded_undone v false x = undoes refl refl

-- ---- What the steps share

given_up_append : (cs ds : List Claim) (v : View) → given_up (cs ++ ds) v ≡ given_up ds (given_up cs v)
unfolding given_up
given_up_append [] ds v = refl
given_up_append (c ∷ cs) ds v = given_up_append cs ds (without_hold c v)

module _ {m : Memory} {b : Book} {q k : ℕ} (t : Turn m b q k) (early : eqb k 11 ≡ false) where
  abbrev v : View
  v = view_of m q

  is_early : eqb (me t).step 11 ≡ false
  is_early = rw t.is_at early

  -- A record that claims the same locks.
  pub keeping_undone : (p : Party) → eqb p.step 11 ≡ false → claims_at p.step p ≡ claims_at k (me t) → Undoes (view_of m q) (moved (with_party p (view_of m q)))
  keeping_undone p early' same =
      undoes refl
      (undone_alike v (with_party p v) is_early early' refl refl refl
      (ap (λ (cs : List Claim). (given_up cs (with_party p v)).locks) (claims_at_lem m.root p p.step refl ∙ same ∙ sym (its_claims t))
      ∙ given_up_alike (claims m.root (me t)) v (with_party p v) refl refl) refl)

  -- A request: the lock is given up last.
  pub request_undone : (c : Claim) (p : Party) → eqb p.step 11 ≡ false → claims_at p.step p ≡ claims_at k (me t) ++ (c ∷ []) → c.word < lock_words m.root
      → All (λ d. d.word ≢ c.word) (claims_at k (me t)) → Undoes (view_of m q) (request (view_of m q) c p)
  unfolding request with_hold
  request_undone c p early' gains fits apart = cond_ind (Undoes v) (is_granted v c) (moved (with_party p (with_hold c v))) (waits v) granted (λ _. undoes refl refl)
    where
      granted : is_granted v c ≡ true → Undoes v (moved (with_party p (with_hold c v)))
      granted g =
          let cs = claims_at k (me t) in
          let back = regained v c t.inv.locks_ok fits (party_small t) g (ap (λ (ds : List Claim). is_claimed ds c.word c.mode) (its_claims t) ∙ unclaimed cs c.word c.mode apart) in
          undoes refl
          (undone_alike v (with_party p (with_hold c v)) is_early early' refl refl refl
          (ap (λ (ds : List Claim). (given_up ds (with_party p (with_hold c v))).locks) (claims_at_lem m.root p p.step refl ∙ gains)
          ∙ given_up_alike (cs ++ (c ∷ [])) (with_hold c v) (with_party p (with_hold c v)) refl refl ∙ given_up_last cs v c back apart
          ∙ ap (λ (ds : List Claim). (given_up ds v).locks) (sym (its_claims t))) refl)

  -- A give-up: the other locks are given up after it.
  pub release_undone : (cs : List Claim) (p : Party) → eqb p.step 11 ≡ false → claims_at k (me t) ≡ cs ++ claims_at p.step p
      → Undoes (view_of m q) (release (view_of m q) cs p)
  unfolding release
  release_undone cs p early' has = guarded_undone v (held_all v cs) (subst (λ (u : View). Undoes v (moved (with_party p u))) (sym (given_up_rest cs v)) given)
    where
      ds : List Claim
      ds = claims_at p.step p

      then : View
      then = with_party p (with_locks (given_up cs v).locks v)

      given : Undoes v (moved then)
      given =
          undoes refl
          (undone_alike v then is_early early' refl refl refl
          (ap (λ (es : List Claim). (given_up es then).locks) (claims_at_lem m.root p p.step refl)
          ∙ given_up_alike ds (given_up cs v) then refl (sym (ap (λ (u : View). u.number) (given_up_rest cs v))) ∙ sym (ap (λ (u : View). u.locks) (given_up_append cs ds v))
          ∙ ap (λ (es : List Claim). (given_up es v).locks) (sym (its_claims t ∙ has))) refl)

module _ {m : Memory} {b : Book} {q : ℕ} where
  pub step01_undone : Turn m b q 1 → Undoes (view_of m q) (step01 (view_of m q))
  unfolding step01
  step01_undone t = request_undone t refl root_read (at_step 2 (me t)) refl refl (omega arith) tt

  pub step02_undone : Turn m b q 2 → Undoes (view_of m q) (step02 (view_of m q))
  unfolding step02
  step02_undone t = keeping_undone t refl (at_step 3 (with_lev m.root.level (me t))) refl refl

  pub step03_undone : Turn m b q 3 → Undoes (view_of m q) (step03 (view_of m q))
  unfolding step03 located
  step03_undone t =
      let p = located m.root (me t) in
      guarded_undone (view_of m q) (ltb p.chain m.root.primaries) (keeping_undone t refl (at_step 4 p) refl refl)

  pub step04_undone : Turn m b q 4 → Undoes (view_of m q) (step04 (view_of m q))
  unfolding step04 mode_of
  step04_undone t = request_undone t refl (chain_lock (me t)) (at_step 5 (me t)) refl refl (omega (arith, t.busy.chain_fits)) (omega arith, tt)

  pub step05_undone : Turn m b q 5 → Undoes (view_of m q) (step05 (view_of m q))
  unfolding step05 mode_of
  step05_undone t = release_undone t refl (root_read ∷ []) (at_step 6 (me t)) refl refl

  -- 6 copies a page over the scratch page, which a withdraw zeroes.
  module _ (t : Turn m b q 6) where
    abbrev page : List ℕ
    page = page_of m.pages (primary_page (me t).chain)

    copied_undone : (p : Party) → eqb p.step 11 ≡ false → claims_at p.step p ≡ claims_at 6 (me t) → Undoes (view_of m q) (moved (with_party p (with_scratch page (view_of m q))))
    copied_undone p early same =
        let then = with_party p (with_scratch page (view_of m q)) in
        let whole : length (page_of m.pages (primary_page (me t).chain)) ≡ page_words = length_page_of (record { fits = omega (arith, t.inv.pages_many, t.busy.chain_fits) }) in
        undoes refl
        (undone_alike (view_of m q) then (rw t.is_at refl) early refl refl refl
        (ap (λ (cs : List Claim). (given_up cs then).locks) (claims_at_lem m.root p p.step refl ∙ same ∙ sym (its_claims t))
        ∙ given_up_alike (claims m.root (me t)) (view_of m q) then refl refl)
        (with_page-with_page m.pages (scratch_page m.root q) page (has_scratch m b t.inv q t.in_row) whole zero_page))

    arrived_undone : (e : Chase) → Undoes (view_of m q) (moved (with_party (arrived e (me t)) (with_scratch page (view_of m q))))
    unfolding arrived mode_of is_decided
    arrived_undone e = go (tell (eqb (me t).operation 1))
      where
        go : Told (eqb (me t).operation 1) → Undoes (view_of m q) (moved (with_party (arrived e (me t)) (with_scratch page (view_of m q))))
        go (holds f) = decides refl (rw f refl)
        go (fails f) = rw f (copied_undone (at_step 10 (with_lev e.lev (me t))) refl refl)

    pub step06_undone : Undoes (view_of m q) (step06 (view_of m q))
    unfolding step06 chasing mode_of
    step06_undone =
        let e = chase_of (view_of m q) in
        guarded_undone (view_of m q) (page_sound m.root page && leb (me t).lev (level_of page) && ltb e.chain m.root.primaries)
        (cond_ind (λ (p : Party). Undoes (view_of m q) (moved (with_party p (with_scratch page (view_of m q))))) (eqb e.chain (me t).chain) (arrived e (me t)) (chasing e (me t))
        (λ _. arrived_undone e) (λ _. copied_undone (chasing e (me t)) refl refl))

  pub step07_undone : Turn m b q 7 → Undoes (view_of m q) (step07 (view_of m q))
  unfolding step07 mode_of
  step07_undone t =
      request_undone t refl (chain_lock (me t)) (at_step 8 (me t)) refl refl (omega (arith, t.busy.chain_fits)) ((λ e. t.facts.1.apart (omega (arith, e))), tt)

  pub step08_undone : Turn m b q 8 → Undoes (view_of m q) (step08 (view_of m q))
  unfolding step08 mode_of
  step08_undone t = release_undone t refl (other_lock (me t) ∷ []) (at_step 6 (me t)) refl refl
