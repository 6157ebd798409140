-- `addresses::merge_target` meets its contract: where next is 0 there is a level to lower (Limits.unbarred_has_level).
use mathlib.Core.Path.{refl}
use borrow.Author.Tests.{eq-eqb, ne_eqb}
use Prim.Native.Nat.{◌-◌}
use Rattle.model.specs.Addresses.{merge_target}
use Rattle.model.proofs.Laws.Addresses.{span_pos}
use Rattle.addresses.proofs.Limits.{unbarred_has_level}
use Rattle.addresses.proofs.merge_target.Goals as goal

pub overflow_sub-root : goal.overflow_sub-root
overflow_sub-root c =
    let r = c.args.root in
    unbarred_has_level r.originals r.level r.next c.requires.1 c.if-root-eq0.true

pub overflow_sub-result : goal.overflow_sub-result
overflow_sub-result c =
    let r = c.args.root in
    rw c.span.ensures (span_pos r.originals (r.level - 1) c.requires.0.some_original)

pub returns-then-root-eq0 : goal.returns-then-root-eq0
unfolding merge_target
returns-then-root-eq0 c = rw (eq-eqb _ _ c.if-root-eq0.true, c.span.ensures) refl

pub returns-else-root-eq0 : goal.returns-else-root-eq0
unfolding merge_target
returns-else-root-eq0 c = rw (ne_eqb _ _ c.if-root-eq0.false) refl
