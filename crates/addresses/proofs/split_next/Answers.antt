-- `addresses::split_next` meets its contract.
use mathlib.Core.Path.{refl}
use native.Mathlib.Omega.{arith}
use Rattle.model.specs.Addresses.{split_next}
use borrow.Author.Rules.{rules}
use Rattle.addresses.proofs.Limits.{span_fits}
use Rattle.addresses.proofs.split_next.Goals as goal

pub overflow_add-result : goal.overflow_add-result
overflow_add-result c =
    let r = c.args.root in
    let fits = span_fits r.originals r.level c.requires.originals_fit (omega arith) in
    search rules

pub returns : goal.returns
unfolding split_next
returns c = rw c.span.ensures refl
