-- Step 9 keeps the invariant.
-- Main statement: step09-kept.
use mathlib.Core.Path.{◌≡◌, refl, sym, ap, ◌∙◌, subst}
use mathlib.Core.Bool.{Bool, true, false, cond}
use mathlib.Core.List.{List, [], ◌∷◌, ◌++◌}
use mathlib.Core.Option.{some, Option}
use Prim.Native.Nat.{ℕ}
use native.Mathlib.Omega.{arith}
use lib.ListN.{length, set}
use lib.Dec.{eqb}
use Rattle.model.specs.declared.OperationAnswer.{OperationAnswer}
use Rattle.model.specs.declared.Restructuring.TheVariants as Restructuring
use Rattle.model.specs.Sizes.{page_words}
use Rattle.model.specs.Records.{idle}
use Rattle.model.specs.Entries.{has_key, setting_in}
use Rattle.model.specs.Pages.{page_of, with_page, link_of, entries_of, link_to_first, linked_page, scratch_page}
use Rattle.model.specs.Chains.{entries_on}
use Rattle.model.specs.FreeList.{is_among}
use Rattle.model.specs.Outcome.{moved}
use Rattle.model.specs.ScratchPages.{with_scratch}
use Rattle.model.specs.LockRequests.{chain_lock}
use Rattle.model.specs.Steps.Find.{answered, looked_on, step09}
use Rattle.model.specs.Memory.{Memory, view_of}
use Rattle.model.specs.Book.{Book, Value}
use Rattle.model.specs.Answers.{found_or_absent}
use Rattle.model.proofs.Laws.Lists.{cond_ind, count_cons, among_first, among_rest}
use Rattle.model.proofs.Laws.Pages.{length_page_of}
use Rattle.model.proofs.Laws.Structure.{Linked}
use Rattle.model.proofs.Laws.Reading.{first_some, first_linked}
use Rattle.model.proofs.Invariant.Ghost.{count}
use Rattle.model.proofs.Invariant.LockMoves.{locks_stay}
use Rattle.model.proofs.Invariant.Statement.{restructures, Scene, Protected, Walking, Busy, working, facts_at}
use Rattle.model.proofs.Invariant.Turn.{Turn, before, note_still, restructures-now, row_long, me}
use Rattle.model.proofs.Effects.Kept.{Kept, moved-kept}
use Rattle.model.proofs.Effects.ScratchPage.{protected_bounds, scratch_parts, copied_walks}
use Rattle.model.proofs.Effects.Done.{held_listed, done-kept, Ends}
use Rattle.model.proofs.Effects.Moves.{extents_rest, same_file}
use Rattle.model.proofs.Laws.Entries.{setting_append}

module _ {m : Memory} {b : Book} {q : ℕ} (t : Turn m b q 9) where
  abbrev walk : Walking (before t) q (me t) t.entered
  walk = t.facts

  abbrev scratch : List ℕ
  scratch = page_of m.pages (scratch_page m.root q)

  -- ---- Done: the answer is the note

  answers : (a : OperationAnswer) → t.entered.note ≡ some a → Kept m b q (answered (view_of m q) a)
  unfolding answered restructures
  answers a noted =
      let ends : Ends t a (chain_lock (me t) ∷ []) = record {
        plain = refl;
        noted = noted;
        no_pages = walk.no_pages;
        extents = extents_rest t (same_file t) idle refl refl;
        holds = refl;
        apart = (tt, tt);
        fit = (omega (arith, t.busy.chain_fits), tt);
      } in
      rw (held_listed t ends) (done-kept t ends Restructuring.None)

  -- What is noted of a key: what the scratch page has of it, or else the pages behind.
  abbrev noted-as : Option Value → Option OperationAnswer
  noted-as x = some (found_or_absent x)

  -- The note, where it is known whether the key is on the scratch page.
  note_by : (on : Bool) → has_key (me t).key (entries_of scratch) ≡ on
      → t.entered.note ≡ noted-as (cond on (setting_in (me t).key (entries_of scratch)) (setting_in (me t).key (entries_on m.pages walk.rest)))
  note_by on e =
      walk.note_is
      ∙ ap noted-as
      (setting_append (me t).key (entries_of scratch) (entries_on m.pages walk.rest)
      ∙ ap (λ (x : Bool). cond x (setting_in (me t).key (entries_of scratch)) (setting_in (me t).key (entries_on m.pages walk.rest))) e)

  -- Where it is not, the note says what the rest has of it.
  note_of : (xs : List ℕ) → walk.rest ≡ xs → has_key (me t).key (entries_of scratch) ≡ false → t.entered.note ≡ noted-as (setting_in (me t).key (entries_on m.pages xs))
  note_of xs e h = note_by false h ∙ ap (λ (ys : List ℕ). noted-as (setting_in (me t).key (entries_on m.pages ys))) e

  -- ---- Or on to the next page

  module _ (x : ℕ) (xs : List ℕ) (rest_is : walk.rest ≡ x ∷ xs) (missed : has_key (me t).key (entries_of scratch) ≡ false) where
    abbrev page : List ℕ
    page = page_of m.pages x

    abbrev scene_then : Scene
    scene_then = record {
      root = m.root;
      parties = set m.parties q (me t);
      pages = with_page m.pages (scratch_page m.root q) page;
      ghost = t.inv.ghost;
      entries = b.entries;
    }

    linked : Linked m.root m.pages (x ∷ xs)
    linked = subst (Linked m.root m.pages) rest_is walk.linked

    guards : (y : ℕ) → is_among y (x ∷ xs) ≡ true → Protected (before t) (me t).chain y
    guards y h = walk.protected y (rw rest_is h)

    page_long : length page ≡ page_words
    page_long = let z = protected_bounds m b t.inv q t.in_row (me t).chain x (guards x (among_first x xs)) in length_page_of (record { fits = omega (arith, t.inv.pages_many) })

    -- The key is not on the page passed.
    note_then : t.entered.note ≡ noted-as (setting_in (me t).key (entries_of page ++ entries_on m.pages xs))
    unfolding entries_on
    note_then = note_of (x ∷ xs) rest_is missed

    walks : Walking scene_then q (me t) t.entered
    walks =
        copied_walks t page page_long (me t) b t.entered xs
        (record {
          sound = linked.0;
          link = linked.1;
          linked = linked.2;
          once = λ y. omega (arith, count_cons y x xs, ap (count y) rest_is, walk.once y);
          protected = λ y h. guards y (among_rest y x xs h);
          note_is = note_then;
          no_pages = walk.no_pages;
        })

    busy_then : Busy scene_then q (me t) t.entered
    busy_then =
        let k = t.busy in
        record {
          entry = k.entry;
          same_operation = k.same_operation;
          same_setting = k.same_setting;
          same_key = k.same_key;
          step_fits = k.step_fits;
          lev_fits = k.lev_fits;
          owed_fits_ok = k.owed_fits_ok;
          answer_fits = k.answer_fits;
          answer_set = k.answer_set;
          chain_fits = k.chain_fits;
          other_fits = k.other_fits;
        }

    looks_on : Kept m b q (moved (with_scratch page (view_of m q)))
    looks_on =
        moved-kept t (note_still t refl)
        (scratch_parts t page page_long (me t) b m.locks
        (record {
          entries= = λ j n. refl;
          contents= = refl;
          stays = λ y o. refl;
          frees = λ d u. u;
          extents = extents_rest t (same_file t) (me t) refl (restructures-now t);
          locks = locks_stay m.root m.parties q (me t) (row_long t) refl t.inv.locks_ok;
          self = working t.entered busy_then (subst (λ (n : ℕ). facts_at n scene_then q (me t) t.entered) (sym t.is_at) walks);
        }))

  -- ---- Where 9 leads

  goes_on : (xs : List ℕ) → walk.rest ≡ xs → has_key (me t).key (entries_of scratch) ≡ false
      → Kept m b q (cond (eqb (link_of scratch) 0) (answered (view_of m q) OperationAnswer.Absent) (looked_on (view_of m q)))
  unfolding entries_on setting_in found_or_absent looked_on link_to_first
  goes_on [] e h = rw (walk.link ∙ ap link_to_first e) (answers OperationAnswer.Absent (note_of [] e h))
  goes_on (x ∷ xs) e h =
      let l = walk.link ∙ ap link_to_first e in
      rw (ap (λ (y : ℕ). eqb y 0) l ∙ first_some x xs, ap (λ (y : ℕ). linked_page y) l ∙ first_linked x xs, (linked x xs e h).0) (looks_on x xs e h)

  pub step09-kept : Kept m b q (step09 (view_of m q))
  unfolding step09
  step09-kept =
      rw walk.sound
      (cond_ind (Kept m b q) (has_key (me t).key (entries_of scratch)) _ _ (λ h. answers (found_or_absent (setting_in (me t).key (entries_of scratch))) (note_by true h)) (λ h. goes_on walk.rest refl h))
