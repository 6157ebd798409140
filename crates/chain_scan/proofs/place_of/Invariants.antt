-- What the loop of `chain_scan::place_of` keeps.
use Rattle.chain_scan.proofs.PageKeys.{Searched}
use Rattle.chain_scan.proofs.place_of.Given as goal

abbrev pub invariant-loop-i : goal.invariant-loop-i
invariant-loop-i l = Searched l.w l.k l.place l.i
