-- The link of a party's scratch page, by which a find goes on (document 01, step 9: "Else copy the linked page over it and stay at 9").
-- Main definition: LinksOn.
use Rattle.std.specs.Prelude.{◌≡◌, true, List, ℕ, ◌+◌, ◌*◌, ◌≤◌, length}
use Rattle.model.specs.declared.Root.{Root}
use Rattle.model.specs.Sizes.{page_words}
use Rattle.model.specs.Pages.{page_of, link_of, scratch_page, names_overflow}
use Rattle.endings.specs.Scratch.{HasScratch}

-- Party q's scratch page lies within the page memory, and l, its link, names an overflow page that does too.
pub record LinksOn (r : Root) (q : ℕ) (ps : List ℕ) (l : ℕ) : Type 0 where
  pub scratch : HasScratch r q ps
  pub overflow_fits : page_words * (r.primaries + r.overflow) ≤ length ps
  pub link_is : l ≡ link_of (page_of ps (scratch_page r q))
  pub named : names_overflow r l ≡ true
