-- `chain_scan::place_of` meets its contract. The loop's invariant: `place` is the key's place among the records from i on.
use Rattle.std.proofs.Common.{rules, ◌≡◌, ◌+◌, ◌-◌, ◌<◌, length, arith}
use Rattle.model.specs.Sizes.{page_words, most_records}
use Rattle.chain_scan.proofs.PageKeys.{Searched, key_met, key_passed, key_nowhere}
use Rattle.chain_scan.proofs.place_of.Goals as goal

pub loop-i-init : goal.loop-i-init
loop-i-init c =
    let sixteen : length c.args.w ≡ page_words = search rules in
    key_nowhere c.args.w most_records sixteen c.requires c.args.k (omega arith)

pub loop-i-preserved-then-w-i : goal.loop-i-preserved-then-w-i
loop-i-preserved-then-w-i c =
    let sixteen : length c.args.w ≡ page_words = search rules in
    let inside : c.loop-i.i - 1 < most_records = omega arith in
    key_met c.args.w (c.loop-i.i - 1) sixteen c.requires c.args.k inside (rw c.count_of-count.ensures at c.if-w-i.true)

pub loop-i-preserved : goal.loop-i-preserved
loop-i-preserved c =
    let sixteen : length c.args.w ≡ page_words = search rules in
    let next : c.loop-i.i ≡ c.loop-i.i - 1 + 1 = omega arith in
    let rest : Searched c.args.w c.args.k c.loop-i.place (c.loop-i.i - 1 + 1) = rw (← next) c.loop-i.invariant in
    key_passed c.args.w (c.loop-i.i - 1) sixteen c.requires c.args.k c.loop-i.place (rw c.count_of-count.ensures at c.if-w-i.false) rest

pub returns : goal.returns
returns c = let none : c.loop-i.i ≡ 0 = omega arith in rw none at c.loop-i.invariant
