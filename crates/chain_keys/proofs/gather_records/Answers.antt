-- `chain_keys::gather_records` meets its contract.
use Rattle.std.proofs.Common.{◌≡◌, ◌∙◌, ◌++◌, ◌+◌, ◌-◌, ap, refl, ℕ, List, take, arith}
use native.Mathlib.Nat.{sub-zero}
use Rattle.model.specs.Pages.{page_of, count_of, link_of, records_in, entries_of}
use Rattle.chains.proofs.Links.{next_page}
use Rattle.chain_keys.proofs.Following.{page_gathered, all_gathered}
use Rattle.chain_keys.proofs.gather_records.Goals as goal

pub loop-init : goal.loop-init
loop-init c = record {
  room = omega (arith, c.copy_records-at.ensures.0);
  followed = rw (sub-zero, c.link_of-l.ensures) c.requires.1;
  gathered = rw sub-zero refl;
}

pub overflow_sub-l : goal.overflow_sub-l
overflow_sub-l c = (next_page c.args.pages.now (omega arith) c.loop.invariant.followed).linked

pub load-page-requires : goal.load-page-requires
load-page-requires c = (next_page c.args.pages.now (omega arith) c.loop.invariant.followed).page.fits

pub copy_records-at-requires-in-loop : goal.copy_records-at-requires-in-loop
copy_records-at-requires-in-loop c =
    let next = next_page c.args.pages.now (omega arith) c.loop.invariant.followed in
    (omega (arith, next.page.few, ap count_of c.load-page.ensures), omega (arith, c.loop.invariant.room))

pub loop-preserved : goal.loop-preserved
loop-preserved c =
    let l = c.loop in
    let a = c.args in
    let copied = c.copy_records-at-in-loop.ensures in
    let next = next_page a.pages.now (omega arith) l.invariant.followed in
    let page = c.load-page.ensures in
    let link : c.link_of-l-in-loop.result ≡ link_of (page_of a.pages.now (l.l - 1)) = c.link_of-l-in-loop.ensures ∙ ap link_of page in
    let fewer : a.n - l.counter - 1 ≡ a.n - (l.counter + 1) = omega arith in
    let records = copied.1 ∙ ap (λ (w : List ℕ). take l.at (records_in l.words) ++ entries_of w) page in
    record {
      room = omega (arith, copied.0, ap count_of page, next.page.few, l.invariant.room);
      followed = rw (link, ← fewer) next.rest;
      gathered = rw (link, ← fewer) (page_gathered a.pages.now _ (take l.at (records_in l.words)) _ (a.n - l.counter) l.l (omega arith) l.invariant.gathered records);
    }

pub returns : goal.returns
returns c =
    let l = c.loop in
    let a = c.args in
    let all = all_gathered a.pages.now _ (take l.at (records_in l.words)) (a.n - l.counter) l.l (omega arith) l.invariant.gathered in
    (omega (arith, l.invariant.room), all ∙ rw (c.copy_records-at.ensures.1, c.link_of-l.ensures) refl)
