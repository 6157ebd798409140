-- `entries::set_record` meets its contract.
use native.Mathlib.Omega.{arith}
use lib.ListN.{length-set}
use Rattle.model.proofs.Laws.RecordWords.{length_records, record_stored}
use Rattle.entries.proofs.set_record.Goals as goal

pub bounds-words-at-2 : goal.bounds-words-at-2
bounds-words-at-2 c = simp length-set (omega arith)

pub returns : goal.returns
returns c =
    let a = c.args in
    record_stored a.words.now a.i a.e.key a.e.setting (omega (arith, length_records a.words.now))
