-- `addresses::merge_partner` meets its contract: there is a chain, so n − 1 is a number of one.
use mathlib.Core.Path.{refl}
use native.Mathlib.Omega.{arith}
use Rattle.model.specs.Addresses.{chain_count, merge_partner}
use Rattle.model.proofs.Laws.Addresses.{span_pos}
use Rattle.addresses.proofs.merge_partner.Goals as goal

pub overflow_sub-result : goal.overflow_sub-result
unfolding chain_count
overflow_sub-result c =
    let some = span_pos c.args.root.originals c.args.root.level c.requires.some_original in
    omega arith

pub returns : goal.returns
unfolding merge_partner
returns c = rw c.chain_count.ensures refl
