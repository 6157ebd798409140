-- `many_pages::write_many` meets its contract: the cases of Changes.
use mathlib.Core.Path.{◌≡◌, subst, sym, ap, ap₂, ◌∙◌}
use Prim.Native.Nat.{ℕ}
use mathlib.Core.List.{List}
use lib.ListN.{length}
use Rattle.model.specs.declared.Entry.{Entry}
use Rattle.model.specs.Filling.{overflow_needed, pages_for}
use Rattle.model.specs.FreeList.{Taken}
use Rattle.records.specs.Work.{seen}
use Rattle.model.specs.Pages.{level_of, scratch_page}
use Rattle.model.specs.Steps.Rebuild.{changed, change_of, owed_by}
use Rattle.chains.specs.Links.{linked_pages}
use Rattle.free_list.proofs.Linked.{head_drawn, damage-drawn, taken_drawn}
use Rattle.key_source.specs.declared.Source.{Source}
use Rattle.key_source.specs.Sources.{chosen, chosen_of}
use Rattle.chain_writer.specs.Writing.{CanFill, chain_written, rest_written}
use Rattle.chain_writer.proofs.Drawing.{drawn_fills}
use Rattle.chain_change.proofs.Changes.{no_page_answered, free_list_damaged, change_written}
use Rattle.chain_change.proofs.ReadChains.{chain_link}
use Rattle.many_pages.proofs.Chosen.{chain_level, can_start, records_chosen}
use Rattle.many_pages.proofs.write_many.Goals as goal

pub returns-then-root-k : goal.returns-then-root-k
unfolding pages_for
returns-then-root-k c = λ ls.
    let a = c.args in
    let d = c.requires.chain in
    let v = seen a.work.now ls a.pages.now in
    let es = chosen a.choice d.entries in
    let k = c.pages_for-k.result in
    let many : k ≡ pages_for a.work.now.root.capacity es = c.pages_for-k.ensures ∙ ap (overflow_needed a.work.now.root.capacity) (sym c.requires.many) in
    no_page_answered v d c.requires.found _ es c.requires.made k many c.if-root-k.true

pub first_place-place-requires : goal.first_place-place-requires
first_place-place-requires c =
    let a = c.args in
    can_start a.work.now a.pages.now c.requires.can_change c.requires.chain c.requires.found a.n c.requires.pages

pub write_chain-requires : goal.write_chain-requires
write_chain-requires c =
    let a = c.args in
    let can = c.requires.can_change in
    let d = c.requires.chain in
    let k = c.pages_for-k.result in
    let drawn-are = head_drawn a.work.now.root a.pages.now k c.in_ok-head.head c.in_ok-head.ensures in
    let place = c.first_place-place.result in
    let records = records_chosen a.work.now a.pages.now can d c.requires.found a.n c.requires.pages a.choice place c.first_place-place.ensures.2 in
    let fills = drawn_fills a.work.now.root a.pages.now k a.work.now.root.head can.pages_fit (taken_drawn a.work.now.root a.pages.now k _ drawn-are).can in
    record {
      some_key = can.some_key;
      keys_fit = can.keys_fit;
      chain = record {
        sits = c.first_place-place.ensures.0;
        can_choose = c.requires.can_choose;
        many = ap length records ∙ c.requires.many;
        page_fits = rw c.scratch_page.ensures can.scratch.page_fits;
        can_fill = subst (λ (n : ℕ). CanFill a.pages.now n a.work.now.root.head) c.pages_for-k.ensures fills;
      };
      others = tt;
    }

pub returns-in_err-head : goal.returns-in_err-head
unfolding pages_for
returns-in_err-head c = λ ls.
    let a = c.args in
    let d = c.requires.chain in
    let v = seen a.work.now ls a.pages.now in
    let es = chosen a.choice d.entries in
    let k = c.pages_for-k.result in
    let many : k ≡ pages_for a.work.now.root.capacity es = c.pages_for-k.ensures ∙ ap (overflow_needed a.work.now.root.capacity) (sym c.requires.many) in
    let bad = damage-drawn a.work.now.root a.pages.now k c.in_err-head.ensures in
    free_list_damaged v d c.requires.found _ es c.requires.made k many c.if-root-k.false _ c.from_residual.ensures.0 bad

pub returns : goal.returns
unfolding pages_for chain_written rest_written level_of
returns c = λ ls.
    let a = c.args in
    let can = c.requires.can_change in
    let d = c.requires.chain in
    let v = seen a.work.now ls a.pages.now in
    let es = chosen a.choice d.entries in
    let k = c.pages_for-k.result in
    let many : k ≡ pages_for a.work.now.root.capacity es = c.pages_for-k.ensures ∙ ap (overflow_needed a.work.now.root.capacity) (sym c.requires.many) in
    let drawn-are = head_drawn a.work.now.root a.pages.now k c.in_ok-head.head c.in_ok-head.ensures in
    let place = c.first_place-place.result in
    let records = records_chosen a.work.now a.pages.now can d c.requires.found a.n c.requires.pages a.choice place c.first_place-place.ensures.2 in
    let source : Source = record { choice = a.choice; place = place } in
    let t : Taken = record { pages = linked_pages a.pages.now k a.work.now.root.head; head = c.in_ok-head.head } in
    let answer = c.changed_answer.result in
    let change : changed answer es ≡ change_of a.work.now.party.operation a.work.now.party.key a.work.now.party.setting d.entries = ap (λ (n : ℕ). changed n es) c.changed_answer.ensures ∙ c.requires.made in
    let whole : ℕ → ℕ → List Entry → ℕ → List ℕ = λ to level fs n. chain_written a.work.now.root.capacity a.pages.now to level fs (linked_pages a.pages.now n a.work.now.root.head) in
    let level = c.word-level.ensures ∙ chain_level a.work.now a.pages.now can d c.requires.found in
    let written : c.write_chain.new.pages ≡ whole (scratch_page a.work.now.root a.work.now.number) d.level es k
    = c.write_chain.ensures ∙ ap₂ (λ (to level : ℕ). whole to level (chosen_of a.pages.now source) (overflow_needed a.work.now.root.capacity a.m)) c.scratch_page.ensures level ∙ ap₂ (whole (scratch_page a.work.now.root a.work.now.number) d.level) records (sym c.pages_for-k.ensures) in
    let owed = c.owed_by.ensures es c.requires.many ∙ ap (λ (n : ℕ). owed_by a.work.now.party.operation n k es) c.requires.pages in
    change_written v d c.requires.found answer es change k many c.if-root-k.false t c.owed_by.result _ drawn-are (chain_link a.work.now.root a.pages.now a.work.now.party.chain d c.requires.found) owed written
