-- `chain_writer::page_of` meets its contract. The loop's invariant: i records are on the page, and the source has those after
-- them.
use Rattle.std.proofs.Common.{◌≡◌, ◌∙◌, ◌≤◌, ◌<◌, refl, sym, ap, ℕ, length, drop, arith}
use lib.ListN.{length-drop}
use Rattle.key_source.specs.Sources.{chosen_of}
use Rattle.chain_writer.proofs.MadePages.{none_put, record_put, record_passed, page_made}
use Rattle.chain_writer.proofs.page_of.Goals as goal

pub loop-i-init : goal.loop-i-init
loop-i-init c =
    let a = c.args in
    let pre = c.requires in
    record { put = none_put a.level a.n a.link (chosen_of a.pages.now a.s) pre.0 pre.3; sits = pre.1; can_choose = pre.2; others = refl }

pub next-next-requires : goal.next-next-requires
next-next-requires c =
    let l = c.loop-i in
    let some : 1 ≤ length (chosen_of c.args.pages.now l.source) = rw (l.invariant.others, length-drop) (omega arith) in
    (l.invariant.sits, l.invariant.can_choose, some)

pub loop-i-preserved : goal.loop-i-preserved
loop-i-preserved c =
    let l = c.loop-i in
    let a = c.args in
    let given = c.next-next.ensures in
    let next = c.next-next.result in
    let all = chosen_of a.pages.now a.s in
    let more : l.i < a.n = omega arith in
    let here = sym l.invariant.others ∙ given.records in
    let rest = chosen_of a.pages.now next.source in
    record {
      put = record_put a.level a.n a.link all c.requires.0 c.requires.3 l.i next.entry rest more here l.w l.invariant.put;
      sits = given.sits;
      can_choose = given.can_choose;
      others = record_passed a.level a.n a.link all c.requires.0 c.requires.3 l.i next.entry rest more here;
    }

pub returns : goal.returns
returns c =
    let l = c.loop-i in
    let a = c.args in
    let all = chosen_of a.pages.now a.s in
    let done : l.i ≡ a.n = omega arith in
    record {
      words = l.invariant.put ∙ page_made a.level a.n a.link all c.requires.0 c.requires.3 l.i done;
      sits = l.invariant.sits;
      can_choose = l.invariant.can_choose;
      others = l.invariant.others ∙ ap (λ (k : ℕ). drop k all) done;
    }
