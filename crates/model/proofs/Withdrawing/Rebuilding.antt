-- Step 10: a withdraw after it leaves what a withdraw before it leaves, or the decisive step is taken.
-- The pages taken from the head of the free list go back in reverse order, zeroed but for their links: the free list
-- and every page word are what they were.
-- Main statement: step10_undone.
use mathlib.Core.Path.{◌≡◌, refl, sym, ap, ◌∙◌}
use mathlib.Core.Logic.{◌≢◌}
use mathlib.Core.Bool.{false}
use mathlib.Core.List.{List, reverse}
use Prim.Native.Nat.{ℕ, ◌+◌, ◌-◌, ◌≤◌}
use native.Mathlib.Omega.{arith}
use lib.ListN.{length, take, drop, length-reverse}
use lib.Seq.{length-take-le}
use lib.Dec.{ltb}
use Rattle.model.specs.declared.Root.{Root}
use Rattle.model.specs.declared.Party.{Party}
use Rattle.model.specs.declared.Entry.{Entry}
use Rattle.model.specs.declared.OperationAnswer.TheVariants as OperationAnswer
use Rattle.model.specs.Answers.{answer_number}
use Rattle.model.specs.Records.{at_step, with_answer}
use Rattle.model.specs.Pages.{page_of, with_page, link_to_first, most_level, scratch_page, zero_page}
use Rattle.model.specs.Chains.{sound, Chain}
use Rattle.model.specs.Filling.{pages_for}
use Rattle.model.specs.FreeList.{is_among, too_few, GivenBack, given_back, root_after_taking}
use Rattle.model.specs.LockRequests.{mode_of, given_up}
use Rattle.model.specs.LockWords.{Claim}
use Rattle.model.specs.Outcome.{View}
use Rattle.model.specs.Claims.{claims}
use Rattle.model.specs.Memory.{Memory, view_of}
use Rattle.model.specs.Book.{Book}
use Rattle.model.specs.Withdraw.{built_pages}
use Rattle.model.specs.Steps.Dispatch.{has_step}
use Rattle.model.specs.Steps.Rebuild.{Change, kept, changed, change_of, changes_nothing, changing, rebuilt, rebuild_with, step10}
use Rattle.model.proofs.Laws.Lists.{Cmp, same, diff, cmp, All, cond_ind, ltb-false}
use Rattle.model.proofs.Laws.Pages.{Has, same_words_lem, page_same, page_other, length-with_page, length-zero_page}
use Rattle.model.proofs.Laws.Structure.{ChainIs}
use Rattle.model.proofs.Laws.Filling.{IsOverflow, chain_link, chain_sound}
use Rattle.model.proofs.Laws.FreeList.{given-again, head_again, length-again}
use Rattle.model.proofs.Laws.Reading.{held_overflow, held_length, has_overflow, scratch_outside, outside_absent, chain_list}
use Rattle.model.proofs.Invariant.Ghost.{free, in_chain, built_by, count, local_level}
use Rattle.model.proofs.Invariant.Owners.{no_repeats}
use Rattle.model.proofs.Invariant.Extents.{local_most}
use Rattle.model.proofs.Invariant.Frame.{claims_at_lem}
use Rattle.model.proofs.Invariant.Turn.{Turn, me, claims_at, its_claims, has_step_ok}
use Rattle.model.proofs.Effects.ScratchPage.{has_scratch}
use Rattle.model.proofs.Effects.GiveUps.{given_up_alike}
use Rattle.model.proofs.Effects.Taking.{owned_then}
use Rattle.model.proofs.Effects.BuiltChain.{chain_found, Builds, want, built_root, built_ghost, built_memory, taken_one, held_built, memory_long, built_off, building_then}
use Rattle.model.proofs.Withdrawing.Undone.{undone, undone_built, undone_early, decided_late}
use Rattle.model.proofs.Withdrawing.Locating.{Undoes, decides, undoes}

-- A chain built: the records es at this local level, in pages from the head of the free list; the record is then p.
module _ {m : Memory} {b : Book} {q : ℕ} (t : Turn m b q 10) (level : ℕ) (es : List Entry) (new : Builds t es) (low : level ≤ most_level) (p : Party)
    (at_eleven : p.step ≡ 11) (same_claims : claims_at 11 p ≡ claims_at 10 (me t)) where
  abbrev r : Root
  r = m.root

  abbrev frees : List ℕ
  frees = t.inv.ghost.held free

  abbrev need : ℕ
  need = pages_for r.capacity es

  abbrev xs : List ℕ
  xs = take need frees

  abbrev s : ℕ
  s = scratch_page r q

  abbrev qs : List ℕ
  qs = built_memory t level es new

  abbrev then : View
  then = record { root = built_root t level es new; party = p; number = q; locks = m.locks; pages = qs; behind = (view_of m q).behind }

  -- ---- The pages built are those taken

  chain_is : ChainIs r.capacity qs s level es ((built_ghost t level es new).held (built_by q))
  chain_is = let x = building_then t level es new p b in record { primary = x.scratch_is; overflow = x.built }

  built_overflow : All (IsOverflow (built_root t level es new)) ((built_ghost t level es new).held (built_by q))
  built_overflow = held_overflow (built_root t level es new) (owned_then t need 0 (want t level es new)) (built_by q)

  built_are : built_pages then ≡ sound xs
  unfolding built_pages
  built_are =
      let builts = (built_ghost t level es new).held (built_by q) in
      rw (
        at_eleven,
        chain_sound (built_root t level es new) qs s level es builts chain_is built_overflow low,
        chain_link r.capacity qs s level es builts chain_is,
        chain_list (built_root t level es new) qs s level es builts chain_is built_overflow (held_length (built_root t level es new) (owned_then t need 0 (want t level es new)) (built_by q)),
      )
      (ap sound (held_built t level es new))

  -- ---- What a withdraw then leaves, part by part

  locks_are : (given_up (claims (built_root t level es new) p) then).locks ≡ (given_up (claims m.root (me t)) (view_of m q)).locks
  locks_are =
      ap (λ (cs : List Claim). (given_up cs then).locks) (claims_at_lem (built_root t level es new) p 11 at_eleven ∙ same_claims ∙ sym (its_claims t))
      ∙ given_up_alike (claims m.root (me t)) (view_of m q) then refl refl

  abbrev given : GivenBack
  given = given_back qs (link_to_first (drop need frees)) (reverse xs)

  abbrev listed : All (IsOverflow r) frees
  listed = held_overflow r t.inv.pages_ok.owned free

  abbrev once : (y : ℕ) → count y frees ≤ 1
  once = no_repeats t.inv.pages_ok.owned free

  has_frees : All (Has qs) frees
  has_frees = has_overflow r qs frees (memory_long t level es new ∙ t.inv.pages_many) listed

  outside : is_among s frees ≡ false
  outside = outside_absent s frees (scratch_outside r q frees listed)

  page_again : (y : ℕ) → y ≢ s → page_of given.pages y ≡ page_of m.pages y
  page_again = given-again m.pages qs frees need s t.inv.pages_ok.free_pages_ok once has_frees outside (built_off t level es new)

  long_again : length given.pages ≡ length m.pages
  long_again = length-again m.pages qs frees need s t.inv.pages_ok.free_pages_ok once has_frees outside (built_off t level es new) ∙ memory_long t level es new

  -- The free list's head and count.
  head_is : given.head ≡ r.head
  head_is = head_again m.pages qs frees need s t.inv.pages_ok.free_pages_ok once has_frees outside (built_off t level es new) ∙ sym t.inv.pages_ok.head_is

  count-is : r.free - need + length (reverse xs) ≡ r.free + 0
  count-is = omega (arith, length-reverse xs, length-take-le need frees (omega (arith, new.enough, t.inv.pages_ok.free_count)), new.enough)

  -- Every page word.
  pages_are : with_page given.pages s zero_page ≡ with_page m.pages s zero_page
  pages_are = same_words_lem _ _ (length-with_page given.pages s zero_page has length-zero_page ∙ long_again ∙ sym (length-with_page m.pages s zero_page had length-zero_page)) (λ y. go y (cmp y s))
    where
      had : Has m.pages s
      had = has_scratch m b t.inv q t.in_row

      has : Has given.pages s
      has = record { fits = rw long_again had.fits }

      go : (y : ℕ) → Cmp y s → page_of (with_page given.pages s zero_page) y ≡ page_of (with_page m.pages s zero_page) y
      go y (same e) = rw e (page_same given.pages s zero_page has length-zero_page ∙ sym (page_same m.pages s zero_page had length-zero_page))
      go y (diff n) = page_other given.pages s zero_page has length-zero_page y n ∙ page_again y n ∙ sym (page_other m.pages s zero_page had length-zero_page y n)

  pub built_undone : undone (record { root = built_root t level es new; party = p; number = q; locks = m.locks; pages = built_memory t level es new; behind = (view_of m q).behind }) ≡ undone (view_of m q)
  unfolding given_back
  built_undone = undone_built then xs built_are ∙ rw (locks_are, head_is, count-is, pages_are) refl ∙ sym (undone_early (view_of m q) (rw t.is_at refl))

module _ {m : Memory} {b : Book} {q : ℕ} (t : Turn m b q 10) where
  abbrev chain_found_here : Chain
  chain_found_here = record {
    level = local_level m.root.originals t.inv.ghost.live (me t).chain;
    link = link_to_first (t.inv.ghost.held (in_chain (me t).chain));
    pages = t.inv.ghost.held (in_chain (me t).chain);
    entries = t.inv.ghost.records (me t).chain;
  }

  nothing_undone : (a : ℕ) → Undoes (view_of m q) (changes_nothing (view_of m q) a)
  unfolding changes_nothing has_step
  nothing_undone a = decides refl (decided_late (at_step 12 (with_answer a (me t))) (has_step_ok t) (omega arith))

  by_change : (x : Change) → Undoes (view_of m q) (rebuild_with (view_of m q) chain_found_here x)
  unfolding rebuild_with too_few rebuilt changing root_after_taking mode_of
  by_change (kept a) = nothing_undone a
  by_change (changed a es) =
      let level = local_level m.root.originals t.inv.ghost.live (me t).chain in
      cond_ind (Undoes (view_of m q)) (ltb m.root.free (pages_for m.root.capacity es)) _ _ (λ _. nothing_undone (answer_number OperationAnswer.NoPage))
      (λ f. let new : Builds t es = record { no_pages = t.facts.0.no_pages; enough = ltb-false m.root.free (pages_for m.root.capacity es) f } in
      rw (taken_one t level es new)
      (undoes refl (built_undone t level es new (local_most t.inv (me t).chain) (changing chain_found_here a es (pages_for m.root.capacity es) (me t)) refl refl)))

  pub step10_undone : Undoes (view_of m q) (step10 (view_of m q))
  unfolding step10
  step10_undone =
      rw (chain_found m b t.inv (me t).chain t.facts.1.heads.inside)
      (by_change (change_of (me t).operation (me t).key (me t).setting (t.inv.ghost.records (me t).chain)))
