-- A party that goes on to another step number while root, pages and ghost stay: what it knew holds of its new record.
-- Main statements: at_its_step; busy_onto, busy_to, busy_chains, busy_owed (bounds); leaving-to, settled_to (facts);
-- no_pages_left, settled_left, names_old (where no old pages are left, and where some are); split_owed_ok, merge_owed_lem
-- (whose operation it is); SameFile, extents_rest, extents_keep, extents_stop (a party that does not restructure, goes
-- on to, or stops).
use mathlib.Core.Path.{◌≡◌, refl, sym, ap, ◌∙◌}
use mathlib.Core.Bool.{Bool, true, false, ◌&&◌, ◌||◌, false≢true}
use Prim.Native.Nat.{ℕ, ◌≤◌, ◌<◌}
use native.Mathlib.Omega.{arith}
use lib.ListN.{set}
use lib.Dec.{eqb}
use Rattle.model.specs.declared.Party.{Party}
use Rattle.model.specs.declared.Root.{Root}
use Rattle.model.specs.Records.{at_step, with_chain, with_other, with_old, with_owed}
use Rattle.model.specs.Pages.{names_overflow}
use Rattle.model.specs.Memory.{Memory}
use Rattle.model.specs.Book.{Book}
use Rattle.model.specs.Steps.Dispatch.{has_step}
use Rattle.model.proofs.Laws.Lists.{eqb-true}
use Rattle.model.proofs.Laws.Reading.{held_overflow, names_some, link_none}
use Rattle.model.proofs.Invariant.Ghost.{root_extent, old_of, Ghost}
use Rattle.model.proofs.Invariant.Statement.{restructures, live_for, low_for, ExtentsOk, Scene, held_in, NoPages, Busy, Leaving, Returning, Settled, owed_fits}
pub use Rattle.model.proofs.Invariant.Frame.{restructures_at_lem}
use Rattle.model.proofs.Invariant.Facts.{no_pages_held}
use Rattle.model.proofs.Invariant.Turn.{Turn, after, before, its_record, live_now, low-now, me, restructures-now, restructures_at, row_long}
use Rattle.model.proofs.Invariant.Frame.{SameSizes}
use Rattle.model.proofs.Effects.Kept.{extents_move, extents_leave}
use Rattle.model.proofs.Effects.OwnRecord.{same_sizes}

-- A record whose step number is known.
pub at_its_step : (p : Party) (n : ℕ) → p.step ≡ n → p ≡ at_step n p
at_its_step p n e = ap (λ (k : ℕ). at_step k p) e

-- ---- Bounds

-- From 12 on the party goes on to step number n, which its operation has.
module _ {m : Memory} {b : Book} {q k : ℕ} (t : Turn m b q k) (n : ℕ) (has : has_step (me t).operation n ≡ true) (late : 12 ≤ k) where
  -- With this chain and other chain, this old link and this much owed, in another scene of as many chains.
  busy_as : (s : Scene) → s.entries q ≡ b.entries q → s.root.primaries ≡ m.root.primaries → (c o l w : ℕ) → c < m.root.primaries → o < m.root.primaries → w ≤ 3
      → Busy s q (at_step n (with_chain c (with_other o (with_old l (with_owed w (me t)))))) t.entered
  busy_as s entry= chains= c o l w c_fits o_fits w_Fits = record {
    entry = entry= ∙ t.busy.entry;
    same_operation = t.busy.same_operation;
    same_setting = t.busy.same_setting;
    same_key = t.busy.same_key;
    step_fits = has;
    lev_fits = t.busy.lev_fits;
    owed_fits_ok = w_Fits;
    answer_fits = t.busy.answer_fits;
    answer_set = λ _. t.busy.answer_set (omega (arith, t.is_at));
    chain_fits = rw chains= c_fits;
    other_fits = rw chains= o_fits;
  }

  pub busy_onto : (s : Scene) → s.entries q ≡ b.entries q → s.root.primaries ≡ m.root.primaries → (l : ℕ) → Busy s q (at_step n (with_old l (me t))) t.entered
  busy_onto s entry= chains= l = busy_as s entry= chains= (me t).chain (me t).other l (me t).owed t.busy.chain_fits t.busy.other_fits t.busy.owed_fits_ok

  pub busy_to : Busy (after t (at_step n (me t))) q (at_step n (me t)) t.entered
  busy_to = busy_onto (after t (at_step n (me t))) refl refl (me t).old

  pub busy_chains : (c o : ℕ) → c < m.root.primaries → o < m.root.primaries
      → Busy (after t (at_step n (with_chain c (with_other o (me t))))) q (at_step n (with_chain c (with_other o (me t)))) t.entered
  busy_chains c o c_fits o_fits = busy_as _ refl refl c o (me t).old (me t).owed c_fits o_fits t.busy.owed_fits_ok

  pub busy_owed : (w : ℕ) → w ≤ 3 → Busy (after t (at_step n (with_owed w (me t)))) q (at_step n (with_owed w (me t))) t.entered
  busy_owed w fits = busy_as _ refl refl (me t).chain (me t).other (me t).old w t.busy.chain_fits t.busy.other_fits fits

-- ---- Facts

module _ {m : Memory} {b : Book} {q k : ℕ} (t : Turn m b q k) where
  pub leaving-to : (n w : ℕ) → Leaving (before t) q (me t) t.entered → Leaving (after t (at_step n (with_owed w (me t)))) q (at_step n (with_owed w (me t))) t.entered
  leaving-to n w h = record {
    noted = h.noted;
    made = h.made;
    trash = record { link = h.trash.link; linked = h.trash.linked };
    no_partner = h.no_partner;
    nothing_built = record { no_built = h.nothing_built.no_built; no_new = h.nothing_built.no_new };
  }

  pub settled_to : (n c o : ℕ) → Settled (before t) q (me t) t.entered
      → Settled (after t (at_step n (with_chain c (with_other o (me t))))) q (at_step n (with_chain c (with_other o (me t)))) t.entered
  settled_to n c o h = record { noted = h.noted; made = h.made; no_pages = no_pages_held (before t) _ q refl h.no_pages }

  -- An old link of 0 leads to no page.
  pub no_pages_left : (me t).old ≡ 0 → Leaving (before t) q (me t) t.entered → NoPages (before t) q
  no_pages_left z h = record {
    nothing_built = h.nothing_built;
    nothing_old = record { no_old = (link_none (held_in (before t) (old_of q))).0 (sym h.trash.link ∙ z); no_partner = h.no_partner };
  }

  pub settled_left : (me t).old ≡ 0 → Leaving (before t) q (me t) t.entered → Settled (before t) q (me t) t.entered
  settled_left z h = record { noted = h.noted; made = h.made; no_pages = no_pages_left z h }

  -- Where old pages are left the old link names the first.
  pub names_old : Returning (before t) q (me t) t.entered → names_overflow m.root (me t).old ≡ true
  names_old h =
      let old_is = h.leaving.trash.link in
      ap (names_overflow m.root) old_is
      ∙ names_some m.root (held_in (before t) (old_of q)) (held_overflow m.root t.inv.pages_ok.owned (old_of q)) (λ z. h.some_old (old_is ∙ z))

-- ---- What is owed

module _ (p : Party) (f : owed_fits p.operation p.owed ≡ true) where
  -- An owed split is an insert's, an owed merge a delete's.
  pub split_owed_ok : p.owed ≡ 1 → p.operation ≡ 2
  unfolding owed_fits
  split_owed_ok e = eqb-true p.operation 2 (go (eqb p.operation 2) (eqb p.operation 3) (rw e at f))
    where
      go : (x y : Bool) → (false || (x && true) || (y && false)) ≡ true → x ≡ true
      go true y h = refl
      go false true h = absurd (false≢true h)
      go false false h = absurd (false≢true h)

  pub merge_owed_lem : p.owed ≡ 2 → p.operation ≡ 3
  unfolding owed_fits
  merge_owed_lem e = eqb-true p.operation 3 (go (eqb p.operation 2) (eqb p.operation 3) (rw e at f))
    where
      go : (x y : Bool) → (false || (x && false) || (y && true)) ≡ true → y ≡ true
      go x true h = refl
      go true false h = absurd (false≢true h)
      go false false h = absurd (false≢true h)

-- ---- How far the file extends once the record is p, the root r and the ghost h

-- A root of the same sizes, and a ghost of the same extents.
pub record SameFile {m : Memory} {b : Book} {q k : ℕ} (t : Turn m b q k) (r : Root) (h : Ghost) : Type 0 where
  pub sizes : SameSizes m.root r
  pub live= : h.live ≡ t.inv.ghost.live
  pub low= : h.low ≡ t.inv.ghost.low

pub same_file : {m : Memory} {b : Book} {q k : ℕ} (t : Turn m b q k) → SameFile t m.root t.inv.ghost
same_file {m} t = record { sizes = same_sizes m.root; live= = refl; low= = refl }

module _ {m : Memory} {b : Book} {q k : ℕ} (t : Turn m b q k) {r : Root} {h : Ghost} (f : SameFile t r h) (p : Party) where
  -- The party does not restructure, before or afterwards.
  pub extents_rest : restructures_at k ≡ false → restructures p ≡ false → ExtentsOk r (set m.parties q p) h
  extents_rest rests then_rests =
      let no : restructures p ≡ true → ⊥ = λ e. false≢true (sym then_rests ∙ e) in
      extents_move
      (record {
        sizes = f.sizes;
        live= = f.live=;
        low= = f.low=;
        in_row = row_long t;
        same_part = then_rests ∙ sym (restructures-now t ∙ rests);
        same_live = λ e. absurd (no e);
        same_low = λ e. absurd (no e);
      })
      t.inv.extents_ok

  -- It goes on to restructure.
  pub extents_keep : restructures p ≡ restructures_at k → live_for m.root p ≡ live_for m.root (at_step k (me t)) → low_for m.root p ≡ low_for m.root (at_step k (me t))
      → ExtentsOk r (set m.parties q p) h
  extents_keep on live= low= =
      let x = sym (its_record t) in
      extents_move
      (record {
        sizes = f.sizes;
        live= = f.live=;
        low= = f.low=;
        in_row = row_long t;
        same_part = on ∙ sym (restructures-now t);
        same_live = λ _. live= ∙ ap (live_for m.root) x;
        same_low = λ _. low= ∙ ap (low_for m.root) x;
      })
      t.inv.extents_ok

-- It stops where the live file extends as the root says.
pub extents_stop : {m : Memory} {b : Book} {q k : ℕ} (t : Turn m b q k) (p : Party) → restructures_at k ≡ true → live_for m.root (at_step k (me t)) ≡ root_extent m.root → low_for m.root (at_step k (me t)) ≡ root_extent m.root
    → restructures p ≡ false → ExtentsOk m.root (set m.parties q p) t.inv.ghost
extents_stop {m} {b} {q} t p on live= low= rests =
    extents_leave m.root m.parties t.inv.ghost q p (row_long t) rests (live_now t on ∙ live=, low-now t on ∙ low=) t.inv.extents_ok
