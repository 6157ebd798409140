-- What the loop of `chain_scan::examine` keeps.
use Rattle.std.proofs.Common.{◌≡◌, ◌+◌, ◌-◌, ◌*◌, ◌≤◌}
use Rattle.model.specs.Sizes.{most_records}
use Rattle.chain_keys.specs.Gathering.{Followed, entries_from}
use Rattle.chain_scan.specs.Scans.{examined}
use Rattle.chain_scan.proofs.Ascents.{resumed}
use Rattle.chain_scan.proofs.examine.Given as goal

abbrev pub invariant-loop : goal.invariant-loop
invariant-loop l = record {
  followed : Followed l.pages (l.n + 1 - l.counter) l.l;
  few : l.count ≤ most_records * l.counter;
  said : examined l.key l.n (entries_from l.pages (l.n + 1) l.first) ≡ resumed l.key l.n l.floor l.count l.found (entries_from l.pages (l.n + 1 - l.counter) l.l);
}
