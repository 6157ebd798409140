-- Merges that fit (document 02, change 4), over every list of calls: 26 goes ahead exactly where the joined records fit the primary page, and leaves the free list alone; 29 gives back the
-- overflow pages that target and partner had at 26; from the write of 28 on the joined chain has no overflow page.
-- Main definitions: nothing_had and had_after (what both chains of a merge had), merge_right (one step of a merge), merges_fit (over a whole list).
use Rattle.std.specs.Prelude.{Bool, true, false, cond, not, ◌&&◌, ◌||◌, List, [], ◌∷◌, ◌++◌, ℕ, ◌+◌, length, eqb}
use Rattle.model.specs.Answers.{is_moved, performs}
use Rattle.model.specs.Entries.{joined}
use Rattle.model.specs.Chains.{Checked, damaged, sound, Chain, chain_of, records_read}
use Rattle.model.specs.Filling.{fits_primary}
use Rattle.model.specs.Memory.{Memory, party_at, view_of}
use Rattle.model.specs.Calls.{step_call}
use Rattle.model.specs.Runs.{Call, begin_for, step_for, withdraw_for, after_call}
use Rattle.model.specs.Book.{changed_at}
use Rattle.theory.specs.Links.{chain_pages, clock_start, trace_of_step}

-- ---- What both chains had

-- By party, the overflow pages of target and partner when 26 joined them; none at first.
unfoldable pub nothing_had : ℕ → List ℕ
nothing_had q = []

unfoldable pub had_after : (ℕ → List ℕ) → Memory → Call → ℕ → List ℕ
had_after had m (begin_for q o k) = had
had_after had m (step_for q) =
    let v = view_of m q in
    let both = chain_pages v v.party.chain ++ chain_pages v v.party.other in
    cond (eqb v.party.step 26 && is_moved (step_call m q).answer) (changed_at had q both) had
had_after had m (withdraw_for q) = had

-- ---- One step of a merge

-- Whether two lists name the same pages in the same order.
unfoldable pub same_pages : List ℕ → List ℕ → Bool
same_pages [] [] = true
same_pages [] (y ∷ ys) = false
same_pages (x ∷ xs) [] = false
same_pages (x ∷ xs) (y ∷ ys) = eqb x y && same_pages xs ys

-- Whether a chain reads as sound and has no overflow page.
unfoldable pub is_one_page : Checked Chain → Bool
is_one_page damaged = false
is_one_page (sound c) = same_pages c.pages []

-- 26: whether it moved exactly where the joined records fit, and head and count of the free list are as they were.
unfoldable pub joins_rightly : Memory → ℕ → Bool
joins_rightly m q =
    let v = view_of m q in
    let fits = fits_primary v.root.capacity (joined (records_read (chain_of v.root v.pages v.party.chain)) (records_read (chain_of v.root v.pages v.party.other))) in
    let after = (step_call m q).memory.root in
    cond (is_moved (step_call m q).answer) fits (not fits) && (eqb after.head m.root.head && eqb after.free m.root.free)

-- 29: whether it gave back the pages that both chains had and no other, and the free count has as many more.
unfoldable pub gives_rightly : List ℕ → Memory → ℕ → Bool
gives_rightly had m q = same_pages (trace_of_step clock_start m q).gives had && eqb (step_call m q).memory.root.free (m.root.free + length had)

-- 28, 29 and 30: whether the target then has no overflow page.
unfoldable pub leaves_one_page : Memory → ℕ → Bool
leaves_one_page m q =
    let after = (step_call m q).memory in
    is_one_page (chain_of after.root after.pages (party_at m.parties q).chain)

-- A step of party q that was performed, by its number.
unfoldable pub merge_right : (ℕ → List ℕ) → Memory → ℕ → Bool
merge_right had m q =
    let k = (party_at m.parties q).step in
    cond (eqb k 26) (joins_rightly m q)
    (cond (eqb k 29) (gives_rightly (had q) m q && leaves_one_page m q)
    (cond (eqb k 28 || eqb k 30) (leaves_one_page m q) true))

-- ---- A whole list

unfoldable pub call_fits : (ℕ → List ℕ) → Memory → Call → Bool
call_fits had m (begin_for q o k) = true
call_fits had m (step_for q) = cond (performs (step_call m q).answer) (merge_right had m q) true
call_fits had m (withdraw_for q) = true

unfoldable pub merges_fit : (ℕ → List ℕ) → Memory → List Call → Bool
merges_fit had m [] = true
merges_fit had m (c ∷ cs) = call_fits had m c && merges_fit (had_after had m c) (after_call m c) cs
