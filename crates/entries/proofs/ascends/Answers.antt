-- `entries::ascends` meets its contract.
use mathlib.Core.Path.{◌≡◌, sym, ap, ◌∙◌}
use mathlib.Core.Bool.{Bool, not, ◌&&◌, and-true}
use Prim.Native.Nat.{◌+◌, ◌-◌, ◌<◌}
use native.Mathlib.Omega.{arith}
use lib.ListN.{length}
use Rattle.model.specs.Pages.{records_in}
use Rattle.model.proofs.Laws.RecordWords.{length_records, key_at}
use Rattle.entries.proofs.Scanning.{ascending_passed, last_ascends}
use Rattle.entries.proofs.ascends.Goals as goal

pub loop-i-preserved : goal.loop-i-preserved
loop-i-preserved c =
    let l = c.loop-i in
    let ws = c.args.words.now in
    let more : l.i < length (records_in ws) = omega (arith, length_records ws, c.loop-i-test.true) in
    let on = ascending_passed (records_in ws) l.i l.invariant.0 more l.falls in
    let here = rw (key_at ws l.i more, key_at ws (l.i - 1) (omega (arith, more))) at on in
    let next : l.i + 1 - 1 ≡ l.i = omega arith in
    (omega arith, l.invariant.1, rw next (l.invariant.2 ∙ here))

pub returns : goal.returns
returns c =
    let l = c.loop-i in
    let ws = c.args.words.now in
    let ends = last_ascends (records_in ws) l.i l.invariant.0 (omega (arith, length_records ws, c.loop-i-test.false)) in
    sym (l.invariant.2 ∙ ap (λ (t : Bool). not l.falls && t) ends ∙ and-true (not l.falls))
