-- A chain divided: step 17 (document 01, "The thirty steps"), inside an insert.
-- Main definitions: Halves and halves_of (its two halves); step17.
use Rattle.std.specs.Prelude.{cond, not, List, [], ◌∷◌, ℕ, ◌+◌, take, drop}
use Rattle.model.specs.declared.Restructuring.{Restructuring}
use Rattle.model.specs.Records.{at_step, with_old}
use Rattle.model.specs.Addresses.{count_of_chains, split_barred}
use Rattle.model.specs.declared.Entry.{Entry}
use Rattle.model.specs.Entries.{staying, going}
use Rattle.model.specs.Pages.{with_page, primary_page}
use Rattle.model.specs.Chains.{Chain, chain_of}
use Rattle.model.specs.Filling.{pages_for, primary_of, overflow_written}
use Rattle.model.specs.Outcome.{View, with_root, with_party, with_pages, Outcome, moved, guarded, checked}
use Rattle.model.specs.FreeList.{too_few, Taken, pages_taken, root_after_taking}
use Rattle.model.specs.LockRequests.{root_selective, chain_selective}
use Rattle.model.specs.ScratchPages.{with_scratch}
use Rattle.model.specs.Endings.{ended_with}

-- The two halves of a chain's records.
pub record Halves : Type 0 where
  pub stay : List Entry
  pub go : List Entry

unfoldable pub halves_of : View → Chain → Halves
halves_of v c = record {
  stay = staying v.root.originals (v.root.level + 1) v.party.chain c.entries;
  go = going v.root.originals (v.root.level + 1) v.party.chain c.entries;
}

-- The overflow pages that both halves need.
unfoldable pub halves_need : ℕ → Halves → ℕ
halves_need b h = pages_for b h.stay + pages_for b h.go

-- The page memory with the overflow pages of both halves and the new chain's primary page written; "pages for the staying half first".
unfoldable pub halves_written : View → Halves → List ℕ → List ℕ
halves_written v h xs =
    let b = v.root.capacity in
    let k = pages_for b h.stay in
    let ps = overflow_written b v.pages (take k xs) h.stay in
    let qs = overflow_written b ps (drop k xs) h.go in
    with_page qs (primary_page v.party.other) (primary_of b (v.root.level + 1) h.go (drop k xs))

-- "its primary page kept in scratch; write the new chain whole and set the old link".
unfoldable pub divided : View → Chain → Halves → Taken → Outcome
divided v c h t =
    let b = v.root.capacity in
    let s = primary_of b (v.root.level + 1) h.stay (take (pages_for b h.stay) t.pages) in
    moved
    (with_party (at_step 18 (with_old c.link v.party))
    (with_root (root_after_taking t (halves_need b h) v.root) (with_scratch s (with_pages (halves_written v h t.pages) v))))

-- "Too few free pages: take none, give up both locks, done, split skipped."
unfoldable pub divide_with : View → Chain → Halves → Outcome
divide_with v c h =
    let k = halves_need v.root.capacity h in
    let build = checked v (pages_taken v.root v.pages k) (λ t. divided v c h t) in
    cond (too_few v.root k) (ended_with v (root_selective ∷ (chain_selective v.party ∷ [])) Restructuring.SplitSkipped) build

-- 17: divide the chain's records. "n = P at 17" is damage.
unfoldable pub step17 : View → Outcome
step17 v =
    let divide = checked v (chain_of v.root v.pages v.party.chain) (λ c. divide_with v c (halves_of v c)) in
    guarded v (not (split_barred (count_of_chains v.root) v.root.primaries)) divide
