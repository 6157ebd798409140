-- Step 10 keeps the invariant: the changed chain is built beside the file, or nothing changes and the answer is the book's note.
-- Main statement: step10-kept.
use mathlib.Core.Path.{◌≡◌, refl, sym, ap, ◌∙◌, subst}
use mathlib.Core.Logic.{◌≢◌}
use mathlib.Core.Bool.{true, false}
use mathlib.Core.List.{List}
use mathlib.Core.Option.{some}
use Prim.Native.Nat.{ℕ, ◌≤◌, ◌<◌}
use native.Mathlib.Omega.{arith}
use lib.ListN.{length, take, drop}
use lib.Dec.{ltb}
use Rattle.model.specs.declared.Root.{Root}
use Rattle.model.specs.declared.Party.{Party}
use Rattle.model.specs.declared.OperationAnswer.{OperationAnswer}
use Rattle.model.specs.Records.{at_step, with_answer, with_old, with_owed}
use Rattle.model.specs.Answers.{answer_number, answer_of}
use Rattle.model.specs.declared.Entry.{Entry}
use Rattle.model.specs.Entries.{has_key}
use Rattle.model.specs.Pages.{link_to_first}
use Rattle.model.specs.Chains.{Chain}
use Rattle.model.specs.Filling.{pages_for}
use Rattle.model.specs.FreeList.{too_few, root_after_taking}
use Rattle.model.specs.Memory.{Memory, view_of}
use Rattle.model.specs.Book.{Book, Entered, changed_at, with_entry, noted, note_at_ten, note_step, note_for}
use Rattle.model.specs.LockRequests.{mode_of}
use Rattle.model.specs.Steps.Rebuild.{Change, kept, changed, change_of, owed_by, changes_nothing, changing, rebuilt, rebuild_with, step10}
use Rattle.model.specs.Steps.Write.{is_change}
use Rattle.model.specs.Steps.Dispatch.{has_step}
use Rattle.model.proofs.Laws.Lists.{cond_ind, eqb_same, eqb-diff, ltb-false}
use Rattle.model.proofs.Invariant.Ghost.{free, in_chain, old_of, partner_of, built_by, size, local_level}
use Rattle.model.specs.Claims.{claims}
use Rattle.model.proofs.Invariant.LockMoves.{locks_stay}
use Rattle.model.proofs.Invariant.Extents.{home_is}
use Rattle.model.proofs.Invariant.Statement.{restructures, NoPages, AtHome, Rebuilt, unchanged, working, live_for, low_for}
use Rattle.model.proofs.Invariant.Facts.{no_pages_held, book_has}
use Rattle.model.proofs.Invariant.Turn.{Turn, before, has_step_ok, its_claims, row_long, uses_none, me}
use Rattle.model.proofs.Effects.Kept.{Kept, moved-kept, Parts}
use Rattle.model.proofs.Effects.OwnRecord.{own_parts}
use Rattle.model.proofs.Effects.Operations.{KeepsChain, ChangesChain, Decided, decided, owed_small}
use Rattle.model.proofs.Effects.BuiltChain.{chain_found, built_root, built_ghost, built_memory, built_scene, taken_one, many_built, none_new, kept_by, building_then, Builds, built_parts}
use Rattle.model.proofs.Effects.Moves.{extents_rest, same_file}

-- An operation that has step 10 has steps 11 and 12.
has_next : (o : ℕ) → has_step o 10 ≡ true → (has_step o 11 ≡ true) × (has_step o 12 ≡ true)
unfolding has_step
has_next o h = (h, h)

module _ {m : Memory} {b : Book} {q : ℕ} (t : Turn m b q 10) where
  abbrev r : Root
  r = m.root

  abbrev entry : Entered
  entry = t.entered

  no_pages : NoPages (before t) q
  no_pages = t.facts.0.no_pages

  at_home : AtHome (before t) (me t)
  at_home = t.facts.1

  chain_live : (me t).chain < size r.originals t.inv.ghost.live
  chain_live = at_home.heads.inside

  abbrev olds : List ℕ
  olds = t.inv.ghost.held (in_chain (me t).chain)

  abbrev records : List Entry
  records = t.inv.ghost.records (me t).chain

  abbrev level : ℕ
  level = local_level r.originals t.inv.ghost.live (me t).chain

  abbrev whole : Chain
  whole = record { level = level; link = link_to_first olds; pages = olds; entries = records }

  -- ---- The book's note

  -- The key is in the map where it is on the chain, its home.
  there_is : has_key entry.key b.contents ≡ has_key (me t).key records
  there_is =
      ap (λ (k : ℕ). has_key k b.contents) t.busy.same_key ∙ book_has t.inv.book_ok (me t).key
      ∙ ap (λ (c : ℕ). has_key (me t).key (t.inv.ghost.records c))
      (home_is r.originals t.inv.ghost.live (me t).chain (me t).lev (me t).key t.inv.limits.some_original (omega (arith, t.inv.extents_ok.live_next)) at_home.heads at_home.exact)

  abbrev note_then : OperationAnswer
  note_then = note_at_ten entry.operation (has_key (me t).key records)

  abbrev book_then_ok : Book
  book_then_ok = with_entry b q (some (noted entry note_then))

  book_is : note_for b q (b.entries q) (me t).step ≡ book_then_ok
  unfolding note_for note_step
  book_is = rw (t.busy.entry, t.is_at, there_is) refl

  others= : (j : ℕ) → j ≢ q → book_then_ok.entries j ≡ b.entries j
  unfolding changed_at
  others= j n = rw (eqb-diff j q n) refl

  entry_then : book_then_ok.entries q ≡ some (noted entry note_then)
  unfolding changed_at
  entry_then = rw (eqb_same q q refl) refl

  decision : Decided entry.operation (has_key (me t).key records) (change_of (me t).operation (me t).key (me t).setting records)
  decision = decided entry.operation (me t).operation (me t).key (me t).setting records t.busy.same_operation (has_step_ok t)

  -- ---- Nothing changes: on to 12 with the noted answer

  module _ (a : ℕ) (is-noted : note_then ≡ answer_of a) (no_change : is_change a ≡ false) (some_answer : a ≢ 0) (fits : a ≤ 5) where
    abbrev p_kept : Party
    p_kept = at_step 12 (with_answer a (me t))

    nothing-kept : Kept m b q (changes_nothing (view_of m q) a)
    unfolding changes_nothing restructures claims mode_of
    nothing-kept =
        let k = t.busy in
        moved-kept t book_is
        (own_parts m b t.inv q t.in_row p_kept book_then_ok m.locks
        (record {
          entries= = others=;
          contents= = refl;
          stays = λ x e. refl;
          frees = λ d _. uses_none t refl d;
          extents = extents_rest t (same_file t) p_kept refl refl;
          locks = locks_stay r m.parties q p_kept (row_long t) (sym (its_claims t)) t.inv.locks_ok;
          self = working (noted entry note_then)
              (record {
                entry = entry_then;
                same_operation = k.same_operation;
                same_setting = k.same_setting;
                same_key = k.same_key;
                step_fits = (has_next (me t).operation (has_step_ok t)).1;
                lev_fits = k.lev_fits;
                owed_fits_ok = k.owed_fits_ok;
                answer_fits = fits;
                answer_set = λ _. some_answer;
                chain_fits = k.chain_fits;
                other_fits = k.other_fits;
              })
              (unchanged (ap some is-noted) no_change t.facts.0.nothing_owed (no_pages_held _ _ q refl no_pages));
        }))

  -- ---- The changed chain is built: on to 11

  abbrev builds : (after : List Entry) → pages_for r.capacity after ≤ r.free → Builds t after
  builds after enough = record { no_pages = no_pages; enough = enough }

  module _ (a : ℕ) (after : List Entry) (change : change_of (me t).operation (me t).key (me t).setting records ≡ changed a after) (fits : a ≤ 5) (enough : pages_for r.capacity after ≤ r.free) where
    abbrev need : ℕ
    need = pages_for r.capacity after

    abbrev p_then : Party
    p_then = at_step 11 (with_owed (owed_by (me t).operation (length olds) need after) (with_old (link_to_first olds) (with_answer a (me t))))

    rebuilt_then : Rebuilt (built_scene t level after (builds after enough) p_then book_then_ok) q p_then
    rebuilt_then =
        let keeps = kept_by t level after (builds after enough) in
        record {
          at_home = record { heads = at_home.heads; exact = at_home.exact };
          after = after;
          change = change;
          building = building_then t level after (builds after enough) p_then book_then_ok;
          keeps_link = ap link_to_first (sym (keeps (in_chain (me t).chain) refl refl refl));
          owed_is =
              ap (λ (n : ℕ). owed_by (me t).operation (length olds) n after) (sym (many_built t level after (builds after enough)))
              ∙ ap (λ (l : List ℕ). owed_by (me t).operation (length l) (length ((built_ghost t level after (builds after enough)).held (built_by q))) after)
              (sym (keeps (in_chain (me t).chain) refl refl refl));
          no_new = none_new t level after (builds after enough);
          nothing_old = record { no_old = keeps (old_of q) refl refl refl ∙ no_pages.nothing_old.no_old; no_partner = keeps (partner_of q) refl refl refl ∙ no_pages.nothing_old.no_partner };
        }

    parts_then : Parts m b t.inv q (built_root t level after (builds after enough)) m.locks (built_memory t level after (builds after enough)) p_then book_then_ok
        (built_ghost t level after (builds after enough))
    unfolding restructures live_for low_for mode_of
    parts_then =
        let k = t.busy in
        built_parts t level after (builds after enough) p_then book_then_ok
        (record { uses_no_page = refl; same_claims = refl; same_part = refl; same_live = refl; same_low = refl; entries= = others=; contents= = refl })
        (working (noted entry note_then)
        (record {
          entry = entry_then;
          same_operation = k.same_operation;
          same_setting = k.same_setting;
          same_key = k.same_key;
          step_fits = (has_next (me t).operation (has_step_ok t)).0;
          lev_fits = k.lev_fits;
          owed_fits_ok = owed_small (me t).operation (length olds) need after;
          answer_fits = fits;
          answer_set = λ h. absurd (omega arith);
          chain_fits = k.chain_fits;
          other_fits = k.other_fits;
        })
        rebuilt_then)

    rebuilt-kept : Kept m b q (rebuilt (view_of m q) whole a after (record { pages = take need (t.inv.ghost.held free); head = link_to_first (drop need (t.inv.ghost.held free)) }))
    unfolding rebuilt changing root_after_taking
    rebuilt-kept = moved-kept t book_is parts_then

  -- ---- The three ways

  by_change : (x : Change) → change_of (me t).operation (me t).key (me t).setting records ≡ x → Kept m b q (rebuild_with (view_of m q) whole x)
  unfolding rebuild_with too_few answer_number answer_of is_change
  by_change (kept a) e =
      let d : KeepsChain entry.operation (has_key (me t).key records) a = subst (Decided entry.operation (has_key (me t).key records)) e decision in
      nothing-kept a d.noted d.no_change d.some_answer d.answer_fits
  by_change (changed a after) e =
      let d : ChangesChain entry.operation (has_key (me t).key records) a = subst (Decided entry.operation (has_key (me t).key records)) e decision in
      cond_ind (Kept m b q) (ltb r.free (pages_for r.capacity after)) _ _
      (λ _. nothing-kept 5 d.noted refl (omega arith) (omega arith))
      (λ f. let enough = ltb-false r.free (pages_for r.capacity after) f in
      rw (taken_one t level after (builds after enough)) (rebuilt-kept a after e d.answer_fits enough))

  pub step10-kept : Kept m b q (step10 (view_of m q))
  unfolding step10
  step10-kept = rw (chain_found m b t.inv (me t).chain chain_live) (by_change (change_of (me t).operation (me t).key (me t).setting records) refl)
