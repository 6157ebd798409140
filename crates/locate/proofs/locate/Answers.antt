-- `locate::locate` meets its contract: the level is the one that the test of the first hash chooses, and the chain its hash.
use mathlib.Core.Path.{ap, ◌∙◌}
use Prim.Native.Nat.{ℕ}
use Rattle.model.specs.Addresses.{hash_of, address_for}
use Rattle.addresses.proofs.Limits.{below_next_raises, else_not_raised}
use Rattle.locate.proofs.locate.Goals as goal

pub returns-then-low-root : goal.returns-then-low-root
unfolding address_for
returns-then-low-root c =
    let a = c.args in
    let m = c.mixed-m.result in
    let raised = below_next_raises a.root.originals a.lev a.root.next m c.hash-low.ensures c.if-low-root.true in
    rw (← c.mixed-m.ensures) (raised, c.hash.ensures ∙ ap (λ (i : ℕ). hash_of a.root.originals i m) raised)

pub returns : goal.returns
unfolding address_for
returns c =
    let a = c.args in
    let m = c.mixed-m.result in
    let kept = else_not_raised a.root.originals a.lev a.root.next m c.hash-low.ensures c.if-low-root.false in
    rw (← c.mixed-m.ensures) (kept, c.hash-low.ensures ∙ ap (λ (i : ℕ). hash_of a.root.originals i m) kept)
