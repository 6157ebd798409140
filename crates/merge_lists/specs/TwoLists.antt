-- What must hold of two lists of pages to be given back one after the other, and what the code leaves, as the model has it.
-- Main definitions: CanGiveBoth, leaving.
use Rattle.std.specs.Prelude.{◌≡◌, true, List, ℕ, ◌+◌, ◌≤◌, Ok}
use Rattle.model.specs.declared.Root.{Root}
use Rattle.model.specs.Pages.{link_sound}
use Rattle.model.specs.Chains.{list_from}
use Rattle.model.specs.FreeList.{GivenBack}
use Rattle.chains.specs.Walks.{counted}
use Rattle.free_list.specs.Giving.{CanGive}

-- Both links lead to lists that were walked without damage, of n and m pages, and the free count has room for the pages of both.
pub record CanGiveBoth (r : Root) (ps : List ℕ) (first n second m : ℕ) : Type 0 where
  pub one : CanGive r ps first n
  pub links : link_sound r second ≡ true
  pub walked : counted (list_from r ps second) ≡ Ok m
  pub room : r.free + (n + m) ≤ r.overflow
  pub few : r.overflow ≤ 752
  pub small : r.primaries ≤ 256

-- Page words, and the link word that is then the head.
abbrev pub leaving : List ℕ → ℕ → GivenBack
leaving ps head = record { pages = ps; head = head }
