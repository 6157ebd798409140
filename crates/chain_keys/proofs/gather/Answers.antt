-- `chain_keys::gather` meets its contract.
use mathlib.Core.Path.{◌≡◌, sym, ap, ◌∙◌}
use mathlib.Core.Bool.{Bool, true}
use Prim.Native.Nat.{◌≤◌}
use native.Mathlib.Omega.{arith}
use lib.ListN.{length}
use Rattle.model.specs.Entries.{ascending}
use Rattle.model.specs.Pages.{page_of, count_of, records_in}
use Rattle.model.proofs.Laws.RecordWords.{length_records, records_take}
use Rattle.chain_keys.specs.Gathering.{gathered, entries_in}
use Rattle.chain_keys.proofs.WholeChain.{walked_chain, keys_fall_damaged, keys_ascend_gathered, keys_ascend_in_front}
use Rattle.chain_keys.proofs.gather.Goals as goal

pub gather_records-count-requires : goal.gather_records-count-requires
gather_records-count-requires c =
    let a = c.args in
    let passed = walked_chain a.root a.pages.now a.chain.0 a.n (length a.words.now) c.requires in
    let page = c.load-w.ensures in
    (omega (arith, passed.few, ap count_of page), rw page passed.followed, c.requires.has_room)

pub returns-then-not-ascends : goal.returns-then-not-ascends
returns-then-not-ascends c =
    let a = c.args in
    let ps = a.pages.now in
    let passed = walked_chain a.root ps a.chain.0 a.n (length a.words.now) c.requires in
    let words = c.gather_records-count.new.words in
    let count = c.gather_records-count.result in
    let falls = sym (c.ascends.ensures ∙ ap ascending (records_take count words)) ∙ c.if-not-ascends.true in
    let bad = sym (keys_fall_damaged a.root ps a.chain.0 a.n passed (records_in words) c.load-w.result count c.load-w.ensures c.gather_records-count.ensures.1 falls) in
    (ap gathered bad, ap entries_in bad)

pub returns : goal.returns
returns c =
    let a = c.args in
    let ps = a.pages.now in
    let passed = walked_chain a.root ps a.chain.0 a.n (length a.words.now) c.requires in
    let page : c.load-w.result ≡ page_of ps a.chain.0 = c.load-w.ensures in
    let words = c.gather_records-count.new.words in
    let long : length words ≡ length a.words.now = c.gather_records-count.auto.words in
    let count = c.gather_records-count.result in
    let tested : ◌≡◌ {A = Bool} c.ascends.result true = c.if-not-ascends.false in
    let up = sym (c.ascends.ensures ∙ ap ascending (records_take count words)) ∙ tested in
    let fits : count ≤ length (records_in words) = omega (arith, c.gather_records-count.ensures.0, long, length_records words) in
    let front = c.gather_records-count.ensures.1 in (
      keys_ascend_gathered a.root ps a.chain.0 a.n passed (records_in words) c.load-w.result count page front up fits c.level_of.ensures c.link_of.ensures,
      keys_ascend_in_front a.root ps a.chain.0 a.n passed (records_in words) c.load-w.result count page front up,
    )
