-- `few_pages::write_few` meets its contract: the cases of Changes.
use mathlib.Core.Path.{◌≡◌, sym, ap, ◌∙◌}
use Prim.Native.Nat.{ℕ, ◌*◌, ◌≤◌}
use mathlib.Core.List.{List}
use native.Mathlib.Omega.{arith}
use lib.ListN.{length, take}
use lib.Seq.{length-take-le}
use Rattle.model.specs.Sizes.{record_words}
use Rattle.model.specs.Pages.{records_in, with_page, scratch_page}
use Rattle.model.specs.Chains.{damaged, sound}
use Rattle.model.specs.Filling.{pages_for, primary_of, overflow_written}
use Rattle.model.specs.FreeList.{Taken, pages_taken}
use Rattle.records.specs.Work.{seen}
use Rattle.model.specs.Steps.Rebuild.{changed, change_of, owed_by}
use Rattle.free_list.proofs.Taking.{taken_overflow}
use Rattle.chain_change.specs.Changing.{changed_answer}
use Rattle.chain_change.proofs.Changes.{no_page_answered, free_list_damaged, change_written}
use Rattle.chain_change.proofs.ReadChains.{chain_link}
use Rattle.filling.proofs.Fills.{overflow_fillable}
use Rattle.few_pages.proofs.Bounds.{few_pages_lem, front_many, front_need}
use Rattle.few_pages.proofs.write_few.Goals as goal

pub returns-then-root-k : goal.returns-then-root-k
returns-then-root-k c = λ ls ch found el en made.
    let a = c.args in
    let v = seen a.work.now ls a.pages.now in
    let es = take a.m (records_in a.words.now) in
    let many : c.pages_for-k.result ≡ pages_for a.work.now.root.capacity es
    = front_need a.m a.words.now (omega (arith, c.requires.has_room)) a.work.now.root.capacity c.pages_for-k.ensures in
    no_page_answered v ch found (changed_answer a.work.now.party.operation) es made c.pages_for-k.result many c.if-root-k.true

pub take_pages-requires : goal.take_pages-requires
take_pages-requires c =
    let can = c.requires in
    let few = few_pages_lem c.args.work.now.root.capacity c.args.m can.can_change.some_key can.few in
    (can.can_change.pages_fit, can.can_change.overflow_fits, omega (arith, few, c.pages_for-k.ensures))

pub slice_bounds-taken-end : goal.slice_bounds-taken-end
slice_bounds-taken-end c =
    let can = c.requires in
    let few = few_pages_lem c.args.work.now.root.capacity c.args.m can.can_change.some_key can.few in
    omega (arith, few, c.pages_for-k.ensures, c.take_pages.auto.taken)

pub slice_bounds-write_chain-end : goal.slice_bounds-write_chain-end
slice_bounds-write_chain-end c =
    let can = c.requires in
    let few = few_pages_lem c.args.work.now.root.capacity c.args.m can.can_change.some_key can.few in
    sym (length-take-le c.pages_for-k.result c.take_pages.new.taken (omega (arith, few, c.pages_for-k.ensures, c.take_pages.auto.taken)))

pub write_chain-requires : goal.write_chain-requires
write_chain-requires c =
    let a = c.args in
    let count = c.pages_for-k.result in
    let xs = c.take_pages.new.taken in
    let t : Taken = record { pages = take count xs; head = c.in_ok-head.head } in
    let taken : pages_taken a.work.now.root a.pages.now count ≡ sound t
    = sym c.in_ok-head.ensures in
    let can = c.requires.can_change in
    let over = (taken_overflow a.work.now.root a.pages.now count t taken).overflow in
    (can.keys_fit, c.requires.has_room, overflow_fillable a.work.now.root a.pages.now (take count xs) can.chains_fit_ok can.overflow_fits can.pages_fit over, rw c.scratch_page-scratch.ensures can.scratch.page_fits)

pub returns-in_err-head : goal.returns-in_err-head
returns-in_err-head c = λ ls ch found el en made.
    let a = c.args in
    let count = c.pages_for-k.result in
    let xs = take count c.take_pages.new.taken in
    let v = seen a.work.now ls a.pages.now in
    let es = take a.m (records_in a.words.now) in
    let many : count ≡ pages_for a.work.now.root.capacity es = front_need a.m a.words.now (omega (arith, c.requires.has_room)) a.work.now.root.capacity c.pages_for-k.ensures in
    let bad : pages_taken a.work.now.root a.pages.now count ≡ damaged = sym c.in_err-head.ensures in
    free_list_damaged v ch found (changed_answer a.work.now.party.operation) es made count many c.if-root-k.false _ c.from_residual.ensures.0 bad

pub returns : goal.returns
returns c = λ ls ch found el en made.
    let a = c.args in
    let count = c.pages_for-k.result in
    let xs = c.take_pages.new.taken in
    let t : Taken = record { pages = take count xs; head = c.in_ok-head.head } in
    let taken : pages_taken a.work.now.root a.pages.now count ≡ sound t
    = sym c.in_ok-head.ensures in
    let b = a.work.now.root.capacity in
    let es = take a.m (records_in a.words.now) in
    let fits : a.m * record_words ≤ length a.words.now = omega (arith, c.requires.has_room) in
    let v = seen a.work.now ls a.pages.now in
    let answer = c.changed_answer.result in
    let change : changed answer es ≡ change_of a.work.now.party.operation a.work.now.party.key a.work.now.party.setting ch.entries = ap (λ (n : ℕ). changed n es) c.changed_answer.ensures ∙ made in
    let many : count ≡ pages_for b es = front_need a.m a.words.now fits b c.pages_for-k.ensures in
    let pages = c.write_chain.new.pages in
    let whole : List ℕ → ℕ → ℕ → List ℕ = λ ys n l. with_page (overflow_written b a.pages.now ys es) n (primary_of b l es ys) in
    let written : pages ≡ whole (take count xs) (scratch_page a.work.now.root a.work.now.number) ch.level
    = c.write_chain.ensures ∙ ap (λ (n : ℕ). whole (take count xs) n a.level) c.scratch_page-scratch.ensures ∙ ap (whole (take count xs) (scratch_page a.work.now.root a.work.now.number)) el in
    let owed = c.owed_by.ensures es (front_many a.m a.words.now fits) ∙ ap (λ (n : ℕ). owed_by a.work.now.party.operation n count es) en in
    change_written v ch found answer es change count many c.if-root-k.false t c.owed_by.result pages taken (chain_link a.work.now.root a.pages.now a.work.now.party.chain ch found) owed written
