-- `split_build::division_of` meets its contract: Halving has its two facts.
use Rattle.split_build.specs.Dividing.{records_of}
use Rattle.split_build.proofs.Halving.{some_stay, division_divides}
use Rattle.split_build.proofs.division_of.Goals as goal

pub overflow_sub-result : goal.overflow_sub-result
unfolding records_of
overflow_sub-result c =
    let a = c.args in
    let same = c.first_place-place.ensures.2 in
    let sits = c.first_place-place.ensures.0 in
    some_stay a.root a.pages.now a.chain a.l c.requires c.first_place-place.result c.count-staying.result sits same c.count-staying.ensures

pub returns : goal.returns
unfolding records_of
returns c =
    let a = c.args in
    let same = c.first_place-place.ensures.2 in
    let sits = c.first_place-place.ensures.0 in
    division_divides a.root a.pages.now a.chain a.l c.requires c.first_place-place.result c.count-staying.result sits same c.count-staying.ensures
