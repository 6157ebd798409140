-- `merge_join::joined_page` meets its contract. The loop's invariant: i records are on the page, and those from the two
-- places on, joined, are the ones after them.
use Rattle.std.proofs.Common.{◌≡◌, ◌∙◌, ◌∷◌, ◌-◌, ◌≤◌, ◌<◌, refl, sym, ap, length, drop, arith}
use lib.ListN.{length-drop}
use lib.Seq.{take_all}
use Rattle.model.specs.Entries.{joined}
use Rattle.model.specs.Pages.{filled_page}
use Rattle.model.proofs.Laws.Joins.{length-joined}
use Rattle.key_source.specs.Sources.{records_at}
use Rattle.chain_writer.proofs.MadePages.{none_put, record_put, record_passed, page_made}
use Rattle.merge_join.proofs.joined_page.Goals as goal

pub loop-i-init : goal.loop-i-init
loop-i-init c =
    let a = c.args in
    let all = joined (records_at a.pages.now a.first) (records_at a.pages.now a.second) in
    record { put = none_put a.level a.n 0 all c.requires.1 (omega (arith, c.requires.2)); can_join = c.requires.0; others = refl }

pub take_next-next-requires : goal.take_next-next-requires
take_next-next-requires c =
    let l = c.loop-i in
    let a = c.args in
    let ps = a.pages.now in
    let all = joined (records_at ps a.first) (records_at ps a.second) in
    let left : length (joined (records_at ps l.p) (records_at ps l.q)) ≡ length all - l.i = ap length l.invariant.others ∙ length-drop l.i all in
    (l.invariant.can_join, omega (arith, left, length-joined (records_at ps l.p) (records_at ps l.q), c.requires.2))

pub loop-i-preserved : goal.loop-i-preserved
loop-i-preserved c =
    let l = c.loop-i in
    let a = c.args in
    let ps = a.pages.now in
    let next = c.take_next-next.result in
    let taken = c.take_next-next.ensures in
    let all = joined (records_at ps a.first) (records_at ps a.second) in
    let rest = joined (records_at ps next.first) (records_at ps next.second) in
    let more : l.i < a.n = omega arith in
    let enough : a.n ≤ length all = omega (arith, c.requires.2) in
    let here : drop l.i all ≡ next.entry ∷ rest = sym l.invariant.others ∙ taken.records in
    record {
      put = record_put a.level a.n 0 all c.requires.1 enough l.i next.entry rest more here l.w l.invariant.put;
      can_join = taken.can_join;
      others = record_passed a.level a.n 0 all c.requires.1 enough l.i next.entry rest more here;
    }

pub returns : goal.returns
returns c =
    let l = c.loop-i in
    let a = c.args in
    let all = joined (records_at a.pages.now a.first) (records_at a.pages.now a.second) in
    let done : l.i ≡ a.n = omega arith in
    l.invariant.put ∙ page_made a.level a.n 0 all c.requires.1 (omega (arith, c.requires.2)) l.i done
    ∙ ap (λ es. filled_page a.level es 0) (take_all a.n all (omega (arith, c.requires.2)))
