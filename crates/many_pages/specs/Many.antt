-- Step 10 on a chain of any length.
-- Main definition: CanWriteMany (the records of the new chain are counted).
use Rattle.std.specs.Prelude.{◌≡◌, List, ℕ, length}
use Rattle.model.specs.Chains.{Chain, chain_of, sound}
use Rattle.model.specs.Steps.Rebuild.{changed, change_of}
use Rattle.records.specs.declared.Working.{Working}
use Rattle.key_source.specs.declared.Choice.{Choice}
use Rattle.key_source.specs.Sources.{chosen, CanChoose}
use Rattle.chain_change.specs.Changing.{changed_answer, CanChange}

-- The party's chain has n overflow pages; the operation makes the records chosen of it, m of them.
pub record CanWriteMany (w : Working) (n : ℕ) (choice : Choice) (m : ℕ) (ps : List ℕ) : Type 0 where
  pub can_change : CanChange w ps
  pub chain : Chain
  pub found : chain_of w.root ps w.party.chain ≡ sound chain
  pub pages : n ≡ length chain.pages
  pub can_choose : CanChoose choice
  pub many : length (chosen choice chain.entries) ≡ m
  pub made : changed (changed_answer w.party.operation) (chosen choice chain.entries) ≡ change_of w.party.operation w.party.key w.party.setting chain.entries
