-- What steps 26 to 29 do with overflow pages, on memory of any contents (document 02, change 4).
-- Main definitions: TakesNone (26); MovedTo29 and GivesBackBoth (26 to 29, one after the other). The theorems that they hold are in proofs/Theorems/Merges.antt.
use Rattle.std.specs.Prelude.{◌≡◌, ◌≢◌, true, List, ◌++◌, ℕ, length}
use Rattle.model.specs.Answers.{is_moved}
use Rattle.model.specs.Pages.{page_of, scratch_page}
use Rattle.model.specs.Chains.{sound}
use Rattle.model.specs.Outcome.{View, guarded}
use Rattle.model.specs.FreeList.{room_to_give_back}
use Rattle.model.specs.Steps.MergeBuild.{Pair, pair_of, step26}
use Rattle.model.specs.Steps.MergeWrite.{partner_cleared, step27, step28, step29}

-- However 26 ends, the root record stays, the free list's head and count with it, and so does every page but the party's scratch page: it takes no page and cannot run short.
pub record TakesNone (v : View) : Type 0 where
  pub root= : (step26 v).after.root ≡ v.root
  pub pages= : (x : ℕ) → x ≢ scratch_page v.root v.number → page_of (step26 v).after.pages x ≡ page_of v.pages x

-- What 27, 28 and 29 are lent where 26 is called on v and each comes directly after the one before it.
abbrev pub before27 : View → View
before27 v = (step26 v).after

abbrev pub before28 : View → View
before28 v = (step27 (before27 v)).after

abbrev pub before29 : View → View
before29 v = (step28 (before28 v)).after

-- 26 joins the two chains m, and 27 and 28 move.
pub record MovedTo29 (v : View) (m : Pair) : Type 0 where
  pub two : v.party.chain ≢ v.party.other
  pub joins : pair_of v.root v.pages v.party.chain v.party.other ≡ sound m
  pub moved_26 : is_moved (step26 v).answer ≡ true
  pub moved_27 : is_moved (step27 (before27 v)).answer ≡ true
  pub moved_28 : is_moved (step28 (before28 v)).answer ≡ true

-- The overflow pages that the target had at 26, then the partner's.
abbrev pub pages_of_both : Pair → List ℕ
pages_of_both m = m.target.pages ++ m.partner.pages

-- Then 29 gives back those pages and no other, if the free count has room for them.
pub record GivesBackBoth (v : View) (m : Pair) : Type 0 where
  pub gives_back : step29 (before29 v) ≡ guarded (before29 v) (room_to_give_back v.root (length (pages_of_both m))) (partner_cleared (before29 v) (pages_of_both m))
