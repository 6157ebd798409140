-- A chain looked through whole: what was read of it, and how many records it can have.
-- Main statements: chain_link (its link is its primary page's), chain_bounded (b records a page at most), few_records
-- (8 * b on seven overflow pages at most).
use mathlib.Core.Path.{◌≡◌, refl}
use mathlib.Core.List.{List, ◌∷◌}
use Prim.Native.Nat.{ℕ, ◌+◌, ◌*◌, ◌≤◌}
use native.Mathlib.Nat.{mul-le-mul_right}
use native.Mathlib.Omega.{arith}
use lib.ListN.{length}
use Rattle.model.specs.declared.Root.{Root}
use Rattle.model.specs.Pages.{page_of, link_of, primary_page}
use Rattle.model.specs.Chains.{sound, Chain, list_from, read_chain, chain_of}
use Rattle.model.proofs.Laws.Lists.{all_map}
use Rattle.model.proofs.Laws.Tests.{sound_page_counts}
use Rattle.model.proofs.Laws.Walks.{walked_chained, chain_reads, linked_sound, length-entries_on}

pub chain_link : (r : Root) (ps : List ℕ) (c : ℕ) (d : Chain) → chain_of r ps c ≡ sound d → d.link ≡ link_of (page_of ps (primary_page c))
unfolding read_chain
chain_link r ps c d e = let h = chain_reads r ps c d e in rw (← h.chain_is) refl

-- b records a page at most.
pub chain_bounded : (r : Root) (ps : List ℕ) (c : ℕ) (d : Chain) → chain_of r ps c ≡ sound d → length d.entries ≤ (length d.pages + 1) * r.capacity
unfolding read_chain list_from
chain_bounded r ps c d found =
    let h = chain_reads r ps c d found in
    let linked = (walked_chained r ps r.overflow (link_of (page_of ps c)) h.xs h.listed).0.linked in
    let few = all_map (c ∷ h.xs) (λ x g. sound_page_counts r (page_of ps x) g) (h.page_sound_ok, linked_sound r ps h.xs linked) in
    rw (← h.chain_is) (omega (arith, length-entries_on r.capacity ps (c ∷ h.xs) few))

pub few_records : (r : Root) (ps : List ℕ) (c : ℕ) (d : Chain) → chain_of r ps c ≡ sound d → length d.pages ≤ 7 → length d.entries ≤ 8 * r.capacity
few_records r ps c d found few =
    let most : (length d.pages + 1) * r.capacity ≤ 8 * r.capacity = mul-le-mul_right r.capacity (omega arith) in
    omega (arith, chain_bounded r ps c d found, most)
