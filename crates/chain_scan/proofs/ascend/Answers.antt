-- `chain_scan::ascend` meets its contract. The loop's invariant: the page's keys ascend from the floor on exactly where the
-- keys not yet passed ascend from `low` on.
use Rattle.std.proofs.Common.{rules, ◌≡◌, ◌∙◌, refl, sym, length, arith}
use Rattle.model.specs.Sizes.{page_words}
use Rattle.chain_scan.proofs.PageKeys.{key_falls, key_rises, all_risen}
use Rattle.chain_scan.proofs.ascend.Goals as goal

pub loop-i-init : goal.loop-i-init
loop-i-init c = refl

pub returns-then-k-low : goal.returns-then-k-low
returns-then-k-low c =
    let w = c.args.w in
    let sixteen : length w ≡ page_words = search rules in
    let l = c.loop-i in
    sym (l.invariant ∙ key_falls w l.i sixteen c.requires l.low (omega arith) (omega arith))

pub loop-i-preserved : goal.loop-i-preserved
loop-i-preserved c =
    let w = c.args.w in
    let sixteen : length w ≡ page_words = search rules in
    let l = c.loop-i in
    rw c.from-k.ensures (l.invariant ∙ key_rises w l.i sixteen c.requires l.low (omega arith) (omega arith))

pub returns : goal.returns
returns c =
    let w = c.args.w in
    let sixteen : length w ≡ page_words = search rules in
    let l = c.loop-i in
    sym (l.invariant ∙ all_risen w l.i sixteen c.requires l.low (omega arith))
