-- `entries::has_at` meets its contract.
use mathlib.Core.Path.{sym, ◌∙◌}
use Prim.Native.Nat.{◌<◌, ◌/◌}
use native.Mathlib.Omega.{arith}
use lib.ListN.{length}
use Rattle.model.specs.Pages.{records_in}
use Rattle.model.proofs.Laws.RecordWords.{length_records, key_at}
use Rattle.model.proofs.Laws.Lists.{le-ltb}
use Rattle.entries.proofs.Places.{past_all, stands_at}
use Rattle.entries.proofs.has_at.Goals as goal

pub returns-then-at-words : goal.returns-then-at-words
returns-then-at-words c =
    let a = c.args in
    let ws = a.words.now in
    let at = c.requires.1 in
    let more : a.at < length (records_in ws) = omega (arith, length_records ws, c.if-at-words.true) in
    let stands = stands_at a.k (records_in ws) c.requires.0 (rw at at more) in
    sym (rw (← at, key_at ws a.at more) at stands)

pub returns-else-at-words : goal.returns-else-at-words
returns-else-at-words c =
    let a = c.args in
    let ws = a.words.now in
    le-ltb a.at (length ws / 2) c.if-at-words.false
    ∙ sym (past_all a.k (records_in ws) (omega (arith, length_records ws, c.if-at-words.false, c.requires.1)))
