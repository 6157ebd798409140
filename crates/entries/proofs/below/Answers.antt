-- `entries::below` meets its contract.
use Prim.Native.Nat.{◌<◌}
use native.Mathlib.Omega.{arith}
use lib.ListN.{length}
use Rattle.model.specs.Pages.{records_in}
use Rattle.model.proofs.Laws.RecordWords.{length_records, key_at}
use Rattle.entries.proofs.Places.{place_next, place_end}
use borrow.Author.Rules.{rules}
use Rattle.entries.proofs.below.Goals as goal

pub loop-i-preserved : goal.loop-i-preserved
loop-i-preserved c =
    let l = c.loop-i in
    let a = c.args in
    let ws = a.words.now in
    let more : l.i < length (records_in ws) = omega (arith, length_records ws, c.loop-i-test.true) in
    let next = rw (key_at ws l.i more) at (place_next a.k (records_in ws) l.i more) in
    (l.invariant.0, omega arith, search rules, omega (arith, l.invariant.3, next))

pub returns : goal.returns
returns c =
    let l = c.loop-i in
    let a = c.args in
    omega (arith, l.invariant.3, place_end a.k (records_in a.words.now) l.i (omega (arith, length_records a.words.now, l.invariant.0, c.loop-i-test.false)))
