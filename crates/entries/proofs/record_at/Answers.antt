-- `entries::record_at` meets its contract.
use mathlib.Core.Path.{sym}
use native.Mathlib.Omega.{arith}
use Rattle.model.proofs.Laws.RecordWords.{length_records, record_at_lem}
use Rattle.entries.proofs.record_at.Goals as goal

pub returns : goal.returns
returns c =
    let a = c.args in
    sym (record_at_lem a.words.now a.i (omega (arith, length_records a.words.now)))
