-- The pages that a find at 9 has yet to copy: how many they are, and that they stay while another party steps.
-- Main statements: ahead_in, AheadStays; protected_overflow, ahead_linked, ahead_walked (they are those of its walk);
-- ahead_kept (they stay while what the party relies on does).
use mathlib.Core.Path.{◌≡◌, refl, sym, ap, ◌∙◌}
use mathlib.Core.Logic.{◌≢◌}
use mathlib.Core.List.{List}
use Prim.Native.Nat.{ℕ, ◌≤◌, ◌<◌}
use native.Mathlib.Omega.{arith}
use lib.ListN.{length}
use Rattle.model.specs.declared.Root.{Root}
use Rattle.model.specs.Pages.{page_of, link_of, link_to_first, scratch_page}
use Rattle.model.specs.Chains.{Checked, list_from, pages_listed}
use Rattle.model.specs.Memory.{Memory, party_at}
use Rattle.model.specs.Book.{Book, Entered}
use Rattle.model.specs.declared.Party.{Party}
use Rattle.model.proofs.Laws.Lists.{All, all_from, all_map}
use Rattle.model.proofs.Laws.Structure.{Linked}
use Rattle.model.proofs.Laws.Filling.{IsOverflow}
use Rattle.model.proofs.Laws.Reading.{linked_list, length_overflow}
use Rattle.model.proofs.Invariant.Ghost.{nobody, in_chain, old_of, count}
use Rattle.model.proofs.Invariant.Owners.{kinds_apart}
use Rattle.model.proofs.Invariant.Statement.{Scene, Protected, in_chain_ok, in_old, Walking, Inv, scene_of}
use Rattle.model.proofs.Invariant.Frame.{SameLimits, Keeps, linked_kept, walk_same}
use Rattle.model.proofs.Invariant.Facts.{facts_at_lem}

-- How many pages follow the one in party q's scratch page.
unfoldable pub ahead_in : Root → List ℕ → ℕ → ℕ
ahead_in r ps q = length (pages_listed (list_from r ps (link_of (page_of ps (scratch_page r q)))))

-- From memory m to root r and pages ps: for every party at 9 but q they stay as many.
abbrev pub AheadStays : Memory → ℕ → Root → List ℕ → Type 0
AheadStays m q r ps = (j : ℕ) → j ≢ q → j < m.root.parties → (party_at m.parties j).step ≡ 9 → ahead_in r ps j ≡ ahead_in m.root m.pages j

-- ---- They are those of its walk

-- Pages that stand linked, behind the link in scratch.
pub ahead_linked : (r : Root) (ps : List ℕ) (q : ℕ) (xs : List ℕ) → link_of (page_of ps (scratch_page r q)) ≡ link_to_first xs → Linked r ps xs → All (IsOverflow r) xs
    → ((y : ℕ) → count y xs ≤ 1) → ahead_in r ps q ≡ length xs
unfolding ahead_in pages_listed
ahead_linked r ps q xs e l a once =
    ap (λ (x : ℕ). length (pages_listed (list_from r ps x))) e
    ∙ ap (λ (c : Checked (List ℕ)). length (pages_listed c)) (linked_list r ps xs l (length_overflow r xs a once))

module _ (m : Memory) (b : Book) (i : Inv m b) where
  -- A page that a reader may walk is an overflow page.
  pub protected_overflow : (d x : ℕ) → Protected (scene_of m i.ghost b) d x → IsOverflow m.root x
  protected_overflow d x (in_chain_ok e) = let z = i.pages_ok.owned.inside x (rw e (kinds_apart (in_chain d) nobody refl)) in record { above = z.0; below = z.1 }
  protected_overflow d x (in_old j e n) = let z = i.pages_ok.owned.inside x (rw e (kinds_apart (old_of j) nobody refl)) in record { above = z.0; below = z.1 }

  module _ (j : ℕ) (p : Party) (e : Entered) (w : Walking (scene_of m i.ghost b) j p e) where
    pub walk_overflow : All (IsOverflow m.root) w.rest
    walk_overflow = all_from (IsOverflow m.root) w.rest (λ y h. protected_overflow p.chain y (w.protected y h))

    pub ahead_walked : ahead_in m.root m.pages j ≡ length w.rest
    ahead_walked = ahead_linked m.root m.pages j w.rest w.link w.linked walk_overflow w.once

  -- ---- They stay

  overflow_sizes : (r : Root) → SameLimits m.root r → (xs : List ℕ) → All (IsOverflow m.root) xs → All (IsOverflow r) xs
  overflow_sizes r z xs a = all_map xs (λ x h. record { above = omega (arith, z.primaries=, h.above); below = omega (arith, z.primaries=, z.overflow=, h.below) }) a

  pub ahead_kept : (j : ℕ) → j < m.root.parties → (party_at m.parties j).step ≡ 9 → (t : Scene) → Keeps (scene_of m i.ghost b) t j (party_at m.parties j)
      → ahead_in t.root t.pages j ≡ ahead_in m.root m.pages j
  ahead_kept j in_row nine t k =
      let s = scene_of m i.ghost b in
      let p = party_at m.parties j in
      let now = facts_at_lem 8 s j p nine (i.parties_ok j in_row) in
      let w = now.facts in
      let same = walk_same s t j p k nine w.rest w.protected in
      ahead_linked t.root t.pages j w.rest (ap link_of k.scratch= ∙ w.link) (linked_kept s t j p k w.rest same w.linked)
      (overflow_sizes t.root k.sizes w.rest (walk_overflow j p now.entered w)) w.once
      ∙ sym (ahead_walked j p now.entered w)
