-- `chain_scan::examine` meets its contract. The loop's invariant: what is said of all records is what the records passed and
-- the ascent of the rest say.
use Rattle.std.proofs.Common.{rules, ◌≡◌, ◌∙◌, ◌+◌, ◌-◌, ◌≤◌, sym, ap, length, arith}
use native.Mathlib.Nat.{sub-zero}
use Rattle.model.specs.Sizes.{page_words, most_records}
use Rattle.model.specs.Pages.{page_of, count_of, link_of, entries_of}
use Rattle.chains.proofs.Answered.{damage_is}
use Rattle.chains.proofs.Links.{next_page}
use Rattle.chain_keys.specs.Gathering.{entries_from}
use Rattle.chain_scan.proofs.Ascents.{nothing_passed}
use Rattle.chain_scan.proofs.PageKeys.{search_told}
use Rattle.chain_scan.proofs.ScannedChain.{page_falls, page_passed, pages_passed}
use Rattle.chain_scan.proofs.examine.Goals as goal

pub loop-init : goal.loop-init
loop-init c =
    let a = c.args in
    record {
      followed = rw sub-zero c.requires.0;
      few = omega arith;
      said = rw sub-zero (nothing_passed a.key a.n (entries_from a.pages.now (a.n + 1) a.first));
    }

pub overflow_sub-l : goal.overflow_sub-l
overflow_sub-l c = (next_page c.args.pages.now (omega arith) c.loop.invariant.followed).linked

pub load-w-requires : goal.load-w-requires
load-w-requires c = (next_page c.args.pages.now (omega arith) c.loop.invariant.followed).page.fits

pub ascend-requires : goal.ascend-requires
ascend-requires c = rw c.load-w.ensures (next_page c.args.pages.now (omega arith) c.loop.invariant.followed).page.few

pub returns-in_err-floor : goal.returns-in_err-floor
returns-in_err-floor c =
    let l = c.loop in
    let a = c.args in
    let falls = sym c.in_err-floor.ensures in
    damage_is _ c.from_residual.ensures.0
    ∙ sym (l.invariant.said ∙ page_falls a.key a.n a.pages.now l.floor l.count l.found (a.n + 1 - l.counter) l.l (omega arith) c.load-w.ensures falls)

pub overflow_add-count : goal.overflow_add-count
overflow_add-count c =
    let few = (next_page c.args.pages.now (omega arith) c.loop.invariant.followed).page.few in
    omega (arith, few, ap count_of c.load-w.ensures, c.count_of-count.ensures)

pub place_of-requires : goal.place_of-requires
place_of-requires c = rw c.load-w.ensures (next_page c.args.pages.now (omega arith) c.loop.invariant.followed).page.few

pub loop-preserved : goal.loop-preserved
loop-preserved c =
    let l = c.loop in
    let a = c.args in
    let ps = a.pages.now in
    let w = c.load-w.result in
    let page : w ≡ page_of ps (l.l - 1) = c.load-w.ensures in
    let next = next_page ps (omega arith) l.invariant.followed in
    let few : count_of w ≤ most_records = omega (arith, next.page.few, ap count_of page) in
    let sixteen : length w ≡ page_words = search rules in
    let counted : c.count_of-count.result ≡ count_of w = c.count_of-count.ensures in
    let asked = search_told w (entries_of w) a.key _ c.place_of.ensures ∙ sym c.is_some-found.ensures in
    let link : c.link_of-l.result ≡ link_of w = c.link_of-l.ensures in
    let fewer : a.n + 1 - l.counter - 1 ≡ a.n + 1 - (l.counter + 1) = omega arith in
    let passed = page_passed a.key a.n ps l.floor l.count l.found (a.n + 1 - l.counter) l.l (omega arith) page c.in_ok-floor.floor sixteen few (sym c.in_ok-floor.ensures) in
    record {
      followed = rw (link, page, ← fewer) next.rest;
      few = omega (arith, counted);
      said = rw (counted, ← asked, link, ← fewer) (l.invariant.said ∙ passed);
    }

pub returns : goal.returns
returns c =
    let l = c.loop in
    let a = c.args in
    sym (l.invariant.said ∙ pages_passed a.key a.n a.pages.now l.floor l.count l.found (a.n + 1 - l.counter) l.l (omega arith))
