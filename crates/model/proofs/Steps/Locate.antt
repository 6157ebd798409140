-- Steps 1 to 5 keep the invariant.
-- Main statements: step01-kept, step02-kept, step03-kept, step04-kept, step05-kept.
use mathlib.Core.Path.{refl}
use mathlib.Core.List.{[], ◌∷◌}
use Prim.Native.Nat.{ℕ, ◌≤◌, ◌<◌}
use native.Mathlib.Omega.{arith}
use Rattle.model.specs.LockRequests.{mode_of, root_read, chain_lock}
use Rattle.model.specs.Memory.{Memory, view_of}
use Rattle.model.specs.Book.{Book}
use Rattle.model.specs.Steps.Locate.{located, step01, step02, step03, step04, step05}
use Rattle.model.specs.Steps.Dispatch.{has_step}
use Rattle.model.specs.Records.{at_step, with_chain, with_lev}
use Rattle.model.proofs.Laws.Lists.{lt-ltb}
use Rattle.model.proofs.Invariant.Ghost.{root_extent}
use Rattle.model.proofs.Invariant.Statement.{Heads}
use Rattle.model.proofs.Invariant.Frame.{heads_grown}
use Rattle.model.proofs.Invariant.Extents.{level_fits, local_high, located_heads, root_grows_low, low_grows_live}
use Rattle.model.proofs.Invariant.Turn.{Turn, has_step_ok, me}
use Rattle.model.proofs.Effects.Kept.{Kept}
use Rattle.model.proofs.Effects.Requests.{request-kept}
use Rattle.model.proofs.Effects.Releases.{release-kept}
use Rattle.model.proofs.Effects.Locating.{locating}
use Rattle.model.proofs.Effects.OwnRecord.{keeping_kept}

module _ {m : Memory} {b : Book} {q k : ℕ} (t : Turn m b q k) where
  some_original : 0 < m.root.originals
  some_original = t.inv.limits.some_original

  root_level : m.root.level ≤ 8
  root_level = level_fits m.root.originals (root_extent m.root) some_original (omega (arith, t.inv.extents_ok.root_fits, t.inv.limits.chains_fit_ok))

module _ {m : Memory} {b : Book} {q : ℕ} where
  pub step01-kept : Turn m b q 1 → Kept m b q (step01 (view_of m q))
  unfolding step01 has_step
  step01-kept t =
      request-kept t root_read (at_step 2 (me t))
      (record {
        word_fits = omega arith;
        gains = refl;
        moves = λ _.
            locating t 2 (me t).lev (me t).chain
            (record { numbers = omega arith; has_next = has_step_ok t; early = t.facts; lev_fits = t.busy.lev_fits; chain_fits = t.busy.chain_fits; knows = λ h. h });
      })

  pub step02-kept : Turn m b q 2 → Kept m b q (step02 (view_of m q))
  unfolding step02 has_step
  step02-kept t =
      keeping_kept t (at_step 3 (with_lev m.root.level (me t))) refl
      (locating t 3 m.root.level (me t).chain
      (record {
        numbers = omega arith;
        has_next = has_step_ok t;
        early = t.facts;
        lev_fits = omega (arith, root_level t);
        chain_fits = t.busy.chain_fits;
        knows = λ h. (h, omega arith);
      }))

  -- Step 3's address, by a level not above the root's.
  root_heads : (t : Turn m b q 3) → Heads m.root.originals (root_extent m.root) (located m.root (me t)).chain (located m.root (me t)).lev (me t).key
  unfolding located
  root_heads t = located_heads m.root.originals (root_extent m.root) (me t).key (some_original t) (me t).lev t.facts.1

  pub step03-kept : Turn m b q 3 → Kept m b q (step03 (view_of m q))
  unfolding step03 located has_step
  step03-kept t =
      let r = m.root in
      let l = located r (me t) in
      let h = root_heads t in
      let inside : l.chain < r.primaries = omega (arith, h.inside, t.inv.extents_ok.root_fits) in
      rw (lt-ltb l.chain r.primaries inside)
      (keeping_kept t (at_step 4 (with_chain l.chain (with_lev l.lev (me t)))) refl
      (locating t 4 l.lev l.chain
      (record {
        numbers = omega arith;
        has_next = has_step_ok t;
        early = t.facts.0;
        lev_fits = omega (arith, h.reach, local_high r.originals (root_extent r) l.chain, root_level t);
        chain_fits = inside;
        knows = λ s.
            (s, heads_grown r.originals (root_extent r) t.inv.ghost.low l.chain l.lev (me t).key (root_grows_low r m.parties t.inv.ghost t.inv.extents_ok l.chain) h);
      })))

  pub step04-kept : Turn m b q 4 → Kept m b q (step04 (view_of m q))
  unfolding step04 mode_of has_step
  step04-kept t =
      request-kept t (chain_lock (me t)) (at_step 5 (me t))
      (record {
        word_fits = omega (arith, t.busy.chain_fits);
        gains = refl;
        moves = λ _.
            locating t 5 (me t).lev (me t).chain
            (record { numbers = omega arith; has_next = has_step_ok t; early = t.facts.0; lev_fits = t.busy.lev_fits; chain_fits = t.busy.chain_fits; knows = λ h. (h, t.facts.1) });
      })

  pub step05-kept : Turn m b q 5 → Kept m b q (step05 (view_of m q))
  unfolding step05 mode_of has_step
  step05-kept t =
      release-kept t root_read (at_step 6 (me t))
      (record {
        held = record { word_fits = omega arith; front = []; back = chain_lock (me t) ∷ []; has = refl };
        left = refl;
        apart = (omega arith, tt);
        moves =
            locating t 6 (me t).lev (me t).chain
            (record {
              numbers = omega arith;
              has_next = has_step_ok t;
              early = t.facts.0;
              lev_fits = t.busy.lev_fits;
              chain_fits = t.busy.chain_fits;
              knows = λ h. (
                h,
                heads_grown m.root.originals t.inv.ghost.low t.inv.ghost.live (me t).chain (me t).lev (me t).key
                    (low_grows_live m.root m.parties t.inv.ghost t.inv.extents_ok (me t).chain) t.facts.1,
              );
            });
      })
