-- How the pages that a walk lists are known: the first by the link that it starts from, each other off the page before
-- it. And pages given back are free; and where the link of a chain built beside the file leads.
-- Main statements: Stepping, list_stepping, chain_stepping, chain_links; now_known, chain_known, walked_known,
-- back_known, known_append; given_freed, none_more; ScratchLink, built_link.
use mathlib.Core.Path.{◌≡◌, refl, sym, ap, ◌∙◌}
use mathlib.Core.Logic.{◌⊎◌, inl, inr}
use mathlib.Core.Bool.{true, false≢true}
use mathlib.Core.List.{List, [], ◌∷◌, ◌++◌}
use Prim.Native.Nat.{ℕ, zero, suc, ◌+◌, ◌-◌, ◌<◌}
use native.Mathlib.Omega.{arith}
use lib.ListN.{take}
use lib.Dec.{eqb}
use Rattle.model.specs.declared.Root.{Root}
use Rattle.model.specs.declared.Entry.{Entry}
use Rattle.model.specs.Entries.{ascending}
use Rattle.model.specs.Pages.{page_of, with_page, link_of, free_page, link_sound, page_sound, primary_page, scratch_page, linked_page, link_to, link_to_first}
use Rattle.model.specs.Chains.{Checked, damaged, sound, overflow_from, list_from, Chain, read_chain, ascending_chain, chain_of, pages_in}
use Rattle.model.specs.FreeList.{is_among, pages_taken, given_back}
use Rattle.model.specs.Outcome.{View, Outcome}
use Rattle.model.specs.Filling.{primary_of, overflow_written}
use Rattle.model.specs.ScratchPages.{scratch_of, pages_with_built}
use Rattle.model.specs.Ready.{Ready}
use Rattle.theory.specs.Links.{Follow, chain_pages, read_now, walked_from}
use Rattle.theory.specs.Reads.{off_page, by_old, by_scratch, EachKnown, Copied, Freed}
use Rattle.model.specs.PagePlaces.{pages_drawn}
use Rattle.model.proofs.Laws.Lists.{Told, holds, fails, tell, cond_ind, eqb-false, first_or_rest, All, all_map}
use Rattle.model.proofs.Laws.Pages.{Has, page_same, has_with_page, length-free_page, link_filled_page}
use Rattle.model.proofs.Laws.Filling.{IsOverflow, length-primary_of}
use Rattle.model.proofs.Laws.FreeList.{given_other}
use Rattle.model.proofs.Exits.Scratches.{IfSound, if_then, names_page, names_linked, sound_link, spares_all, has_page, spares_filled}
use Rattle.theory.proofs.StepReads.Readings.{if_known, then_known}

-- Link l leads to the first of the pages, and each page's own link to the next; all are overflow pages.
abbrev pub Stepping : Root → List ℕ → ℕ → List ℕ → Type 0
Stepping r ps l [] = Unit {0}
Stepping r ps l (x ∷ xs) = (l ≡ link_to x) × IsOverflow r x × Stepping r ps (link_of (page_of ps x)) xs

module _ (r : Root) (ps : List ℕ) where
  walk_stepping : (n l : ℕ) → link_sound r l ≡ true → IfSound (Stepping r ps l) (overflow_from r ps n l)
  unfolding overflow_from
  walk_stepping zero l h = if_known (Stepping r ps l) (eqb l 0) [] (λ _. tt)
  walk_stepping (suc n) l h =
      let x = linked_page l in
      let more : page_sound r (page_of ps x) ≡ true → IfSound (Stepping r ps (link_of (page_of ps x))) (overflow_from r ps n (link_of (page_of ps x))) =
      λ e. walk_stepping n (link_of (page_of ps x)) (sound_link r (page_of ps x) e) in
      cond_ind (IfSound (Stepping r ps l)) (eqb l 0) (sound []) _ (λ _. tt)
      (λ d. cond_ind (IfSound (Stepping r ps l)) (page_sound r (page_of ps x)) _ damaged
      (λ e. if_then (Stepping r ps (link_of (page_of ps x))) (Stepping r ps l) (overflow_from r ps n (link_of (page_of ps x))) _ (more e)
      (λ xs s. let z = eqb-false l 0 d in (omega arith, names_page r l (names_linked r l h d), s)))
      (λ _. tt))

  pub list_stepping : (l : ℕ) → link_sound r l ≡ true → IfSound (Stepping r ps l) (list_from r ps l)
  unfolding list_from
  list_stepping l h = walk_stepping r.overflow l h

  pub chain_stepping : (c : ℕ) → IfSound (λ h. Stepping r ps (link_of (page_of ps (primary_page c))) h.pages) (chain_of r ps c)
  unfolding chain_of ascending_chain read_chain
  chain_stepping c =
      let w = page_of ps (primary_page c) in
      cond_ind (IfSound (ChainStepping c)) (page_sound r w) _ damaged
      (λ t. if_then (Stepping r ps (link_of w)) (ChainStepping c) (list_from r ps (link_of w)) _ (list_stepping (link_of w) (sound_link r w t))
      (λ xs s. if_known (ChainStepping c) (ascending (read_chain ps c xs).entries) (read_chain ps c xs) (λ _. s)))
      (λ _. tt)
    where
      ChainStepping : ℕ → Chain → Type 0
      ChainStepping c h = Stepping r ps (link_of (page_of ps (primary_page c))) h.pages

  -- Its link is that of the primary page.
  pub chain_links : (c : ℕ) → IfSound (λ (h : Chain). h.link ≡ link_of (page_of ps (primary_page c))) (chain_of r ps c)
  unfolding chain_of ascending_chain read_chain
  chain_links c =
      let w = page_of ps (primary_page c) in
      cond_ind (IfSound (λ (h : Chain). h.link ≡ link_of w)) (page_sound r w) _ damaged
      (λ _. then_known (λ (h : Chain). h.link ≡ link_of w) (list_from r ps (link_of w)) _
      (λ xs _. if_known (λ (h : Chain). h.link ≡ link_of w) (ascending (read_chain ps c xs).entries) (read_chain ps c xs) (λ _. refl)))
      (λ _. tt)

-- ---- Links followed

module _ (v : View) (t s o : ℕ) where
  pub now_known : (y : ℕ) → y < v.root.primaries + v.root.overflow → (xs : List ℕ) → Stepping v.root v.pages (link_of (page_of v.pages y)) xs
      → EachKnown v t s o (read_now t xs)
  now_known y h [] w = tt
  now_known y h (x ∷ xs) w = (off_page y h w.0 refl, now_known x w.1.below xs w.2)

  -- A chain looked through whole, and a list walked.
  chain_pages_known : (c : ℕ) → c < v.root.primaries + v.root.overflow → (x : Checked Chain) → IfSound (λ h. Stepping v.root v.pages (link_of (page_of v.pages c)) h.pages) x
      → EachKnown v t s o (read_now t (pages_in x))
  unfolding pages_in
  chain_pages_known c h damaged w = tt
  chain_pages_known c h (sound d) w = now_known c h d.pages w

  pub chain_known : (c : ℕ) → c < v.root.primaries → EachKnown v t s o (read_now t (chain_pages v c))
  chain_known c h = chain_pages_known c (omega arith) (chain_of v.root v.pages c) (chain_stepping v.root v.pages c)

  pub walked_known : (xs : List ℕ) → Stepping v.root v.pages v.party.old xs → EachKnown v t s o (walked_from o t xs)
  unfolding walked_from
  walked_known [] w = tt
  walked_known (x ∷ xs) w = (by_old w.0 refl, now_known x w.1.below xs w.2)

  -- A list walked by the scratch link.
  pub back_known : (xs : List ℕ) → Stepping v.root v.pages (link_of (scratch_of v)) xs → EachKnown v t s o (walked_from s t xs)
  unfolding walked_from
  back_known [] w = tt
  back_known (x ∷ xs) w = (by_scratch w.0 refl, now_known x w.1.below xs w.2)

  pub known_append : (fs gs : List Follow) → EachKnown v t s o fs → EachKnown v t s o gs → EachKnown v t s o (fs ++ gs)
  known_append [] gs a b = b
  known_append (f ∷ fs) gs a b = (a.0, known_append fs gs a.1 b)

-- ---- Pages given back

pub given_freed : (ps : List ℕ) (l : ℕ) (xs : List ℕ) → All (Has ps) xs → (y : ℕ) → is_among y xs ≡ true → Freed (given_back ps l xs).pages y
unfolding given_back is_among
given_freed ps l [] a y h = absurd (false≢true h)
given_freed ps l (x ∷ xs) a y h = go (tell (is_among y xs)) (first_or_rest y x xs h) (λ e. given_freed qs (link_to x) xs has y e)
  where
    qs : List ℕ
    qs = with_page ps x (free_page l)

    has : All (Has qs) xs
    has = all_map xs (λ z k. has_with_page ps x (free_page l) a.0 (length-free_page l) k) a.1

    go : Told (is_among y xs) → (x ≡ y) ⊎ (is_among y xs ≡ true) → (is_among y xs ≡ true → Freed (given_back qs (link_to x) xs).pages y) → Freed (given_back qs (link_to x) xs).pages y
    go (holds e) _ more = more e
    go (fails e) (inr k) more = absurd (false≢true (sym e ∙ k))
    go (fails e) (inl k) more =
        record { link = l; free = given_other qs (link_to x) xs has y e ∙ ap (page_of qs) (sym k) ∙ page_same ps x (free_page l) a.0 (length-free_page l) }

-- No more pages are free after some were taken.
pub none_more : (a k : ℕ) → (a - k) - a ≡ 0
none_more a k = omega arith

-- ---- The link on the scratch page

-- The link on the scratch page after the outcome o on the view v: that of a page copied from the file, or, at 11, that
-- of the first page taken.
pub data ScratchLink (v : View) (o : Outcome) : Type 0 where
  copied_link : Copied v (page_of o.after.pages (scratch_page v.root v.number)) → ScratchLink v o
  made_link : o.after.party.step ≡ 11
      → link_of (page_of o.after.pages (scratch_page v.root v.number)) ≡ link_to_first (pages_drawn (pages_taken v.root v.pages (v.root.free - o.after.root.free))) → ScratchLink v o

-- A chain built beside the file in the pages xs: the link on the scratch page names the first of them.
pub built_link : (v : View) → Ready v → (level : ℕ) (es : List Entry) (xs : List ℕ) → All (IsOverflow v.root) xs
    → link_of (page_of (pages_with_built v.root v.number v.pages level es xs) (scratch_page v.root v.number)) ≡ link_to_first xs
unfolding primary_of
built_link v ready level es xs over =
    let filled = spares_filled v ready v.pages (spares_all v) xs es over in
    let b = v.root.capacity in
    ap link_of
    (page_same (overflow_written b v.pages xs es) (scratch_page v.root v.number) (primary_of b level es xs)
    (has_page v ready (overflow_written b v.pages xs es) (scratch_page v.root v.number) filled.long (omega (arith, ready.number_fits)))
    (length-primary_of b level es xs ready.keys_fit))
    ∙ link_filled_page level (take b es) (link_to_first xs)
