-- Step 26 once both chains were looked through.
-- Main definition: CanCombine.
use Rattle.std.specs.Prelude.{◌≡◌, false, List, ℕ, Ok}
use Rattle.model.specs.Chains.{chain_of}
use Rattle.model.specs.Steps.MergeLocks.{merge_stops}
use Rattle.records.specs.declared.Working.{Working}
use Rattle.records.specs.Work.{AtHand}
use Rattle.chain_scan.specs.declared.Looked.{Looked}
use Rattle.chain_scan.specs.Scans.{scanned}

-- A merge is not barred, and t and u are what is said of the party's chain and of its other chain.
pub record CanCombine (w : Working) (t u : Looked) (ls ps : List ℕ) : Type 0 where
  pub at_hand : AtHand w ls ps
  pub not-barred : merge_stops w.root ≡ false
  pub target : Ok t ≡ scanned 0 (chain_of w.root ps w.party.chain)
  pub partner : Ok u ≡ scanned 0 (chain_of w.root ps w.party.other)
