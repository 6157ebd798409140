-- What the loop of `chain_keys::gather_records` keeps.
use Rattle.std.proofs.Common.{◌≡◌, ◌++◌, ◌+◌, ◌-◌, ◌*◌, ◌≤◌, length, take}
use Rattle.model.specs.Sizes.{most_records, record_words}
use Rattle.model.specs.Pages.{records_in}
use Rattle.chain_keys.specs.Gathering.{entries_from, Followed}
use Rattle.chain_keys.proofs.gather_records.Given as goal

abbrev pub invariant-loop : goal.invariant-loop
invariant-loop l = record {
  room : (l.at + most_records * (l.n - l.counter)) * record_words ≤ length l.words;
  followed : Followed l.pages (l.n - l.counter) l.l;
  gathered : take l.initial.at (records_in l.initial.words) ++ entries_from l.pages l.n l.initial.l
      ≡ take l.at (records_in l.words) ++ entries_from l.pages (l.n - l.counter) l.l;
}
