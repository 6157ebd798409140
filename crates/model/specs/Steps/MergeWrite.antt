-- What a merge writes: steps 27 to 29 (document 01, "The thirty steps"), inside a delete.
-- Main definitions: step27 (the root), step28 (the target's primary page), step29 (the pages given back).
use Rattle.std.specs.Prelude.{cond, ◌&&◌, not, List, ◌++◌, ℕ, ◌-◌, eqb, set, length}
use Rattle.model.specs.declared.Party.{Party}
use Rattle.model.specs.declared.Root.{Root}
use Rattle.model.specs.Records.{at_step, with_next, with_level}
use Rattle.model.specs.LockWords.{root_word, turned_selective}
use Rattle.model.specs.Addresses.{merge_level}
use Rattle.model.specs.Pages.{page_of, with_page, zero_page, link_of, level_of, page_sound, primary_page, link_sound, with_local_level}
use Rattle.model.specs.Chains.{Checked, damaged, and_then, list_from, sound_if}
use Rattle.model.specs.Outcome.{View, with_root, with_party, with_locks, with_pages, Outcome, moved, guarded, checked}
use Rattle.model.specs.FreeList.{room_to_give_back, pages_given_back}
use Rattle.model.specs.LockRequests.{root_exclusive, lock_word, is_held}
use Rattle.model.specs.ScratchPages.{scratch_of}
use Rattle.model.specs.Steps.MergeLocks.{merge_stops}

-- The root moved back by one merge: "next becomes the target's number".
unfoldable pub root_moved_back : Party → Root → Root
root_moved_back p r = with_next p.chain (with_level (merge_level r.level r.next) r)

-- 27: if next was 0, lower level; next becomes the target's number; exclusive on root becomes selective.
unfoldable pub step27 : View → Outcome
step27 v =
    let ls = set v.locks root_word (turned_selective (lock_word v root_word) v.number) in
    guarded v (not (merge_stops v.root) && is_held v root_exclusive)
    (moved (with_party (at_step 28 v.party) (with_locks ls (with_root (root_moved_back v.party v.root) v))))

-- 28: write the target's primary page from scratch, local level lowered by one. "local level 0 at 28" is damage.
unfoldable pub step28 : View → Outcome
step28 v =
    let s = scratch_of v in
    let w = with_local_level (level_of s - 1) s in
    guarded v (page_sound v.root s && not (eqb (level_of s) 0))
    (moved (with_party (at_step 29 v.party) (with_pages (with_page v.pages (primary_page v.party.chain) w) v)))

-- The pages to give back at 29: the target's old pages, then the partner's.
unfoldable pub merged_away : Root → List ℕ → Party → Checked (List ℕ)
merged_away r ps p =
    let w = page_of ps (primary_page p.other) in
    let lists = and_then (list_from r ps p.old) (λ xs. and_then (list_from r ps (link_of w)) (λ ys. sound_if (room_to_give_back r (length (xs ++ ys))) (xs ++ ys))) in
    cond (link_sound r p.old && page_sound r w) lists damaged

-- Both lists given back, the partner's primary page zeroed.
unfoldable pub partner_cleared : View → List ℕ → Outcome
partner_cleared v xs =
    let v₁ = pages_given_back xs v in
    moved (with_party (at_step 30 v.party) (with_pages (with_page v₁.pages (primary_page v.party.other) zero_page) v₁))

-- 29: give back the target's old pages, then the partner's; zero the partner's primary page.
unfoldable pub step29 : View → Outcome
step29 v = checked v (merged_away v.root v.pages v.party) (λ xs. partner_cleared v xs)
