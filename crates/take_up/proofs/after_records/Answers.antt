-- `take_up::after_records` meets its contract.
use mathlib.Core.Path.{◌≡◌, refl, sym, ◌∙◌}
use Prim.Native.Nat.{◌<◌}
use native.Mathlib.Omega.{arith}
use lib.ListN.{length}
use Rattle.model.specs.Sizes.{page_words}
use Rattle.model.specs.Pages.{count_of}
use Rattle.take_up.proofs.Records.{record_seen, record_unseen, records_seen}
use borrow.Author.Rules.{rules}
use Rattle.take_up.proofs.after_records.Goals as goal

pub loop-i-init : goal.loop-i-init
loop-i-init c = (c.count_of-n.ensures, refl)

pub loop-i-preserved : goal.loop-i-preserved
loop-i-preserved c =
    let l = c.loop-i in
    let w = c.args.w in
    let sixteen : length w ≡ page_words = search rules in
    let more : l.i < count_of w = omega (arith, l.invariant.0, c.loop-i-test.true) in
    (l.invariant.0, l.invariant.1 ∙ record_seen w l.i sixteen c.requires.1 c.args.home l.next more (sym c.in_ok-next.ensures))

pub returns-in_err-next : goal.returns-in_err-next
returns-in_err-next c =
    let l = c.loop-i in
    let w = c.args.w in
    let sixteen : length w ≡ page_words = search rules in
    let more : l.i < count_of w = omega (arith, l.invariant.0, c.loop-i-test.true) in
    c.from_residual.ensures
    ∙ sym (l.invariant.1 ∙ record_unseen w l.i sixteen c.requires.1 c.args.home l.next more (sym c.in_err-next.ensures))

pub returns : goal.returns
returns c =
    let l = c.loop-i in
    let w = c.args.w in
    let sixteen : length w ≡ page_words = search rules in
    sym (l.invariant.1 ∙ records_seen w l.i sixteen c.requires.1 c.args.home l.next (omega (arith, l.invariant.0, c.loop-i-test.false)))
