-- What the loop of `chain_scan::ascend` keeps.
use Rattle.std.proofs.Common.{◌≡◌, drop}
use Rattle.model.specs.Pages.{entries_of}
use Rattle.chain_scan.specs.Scans.{ascent_from}
use Rattle.chain_scan.proofs.ascend.Given as goal

abbrev pub invariant-loop-i : goal.invariant-loop-i
invariant-loop-i l = ascent_from l.floor (entries_of l.w) ≡ ascent_from l.low (drop l.i (entries_of l.w))
