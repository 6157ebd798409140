-- `calls::step` meets its contract: what step_in_place ensures.
use mathlib.Core.Path.{sym, ap, ◌∙◌}
use Prim.Native.Nat.{ℕ}
use lib.ListN.{set}
use Rattle.model.specs.WaitingRow.{row_after}
use Rattle.model.specs.Calls.{called}
use Rattle.calls.specs.Lent.{lent}
use Rattle.calls.proofs.step.Goals as goal

pub returns : goal.returns
returns c = λ row ws e here right.
    let s = c.step_in_place-answer in
    let w = s.new.work in
    ap (λ (k : ℕ). called s.result (lent w.root (set row k w.party) s.new.locks s.new.pages (row_after k ws s.result))) (sym s.ensures.number)
    ∙ s.ensures.left row ws e here right
