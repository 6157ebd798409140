-- `chain_writer::write_chain` meets its contract.
use mathlib.Core.Path.{◌≡◌, refl, ap, ◌∙◌}
use native.Mathlib.Omega.{arith}
use Rattle.model.specs.Pages.{link_of}
use Rattle.chain_writer.specs.Writing.{rest_written}
use Rattle.chain_writer.proofs.Chains.{one, more_can, more_written, rest_can, last_written, rest_is, nothing_is}
use Rattle.chain_writer.proofs.+write_chain.Invariants.{rest_size}
use Rattle.chain_writer.proofs.+write_chain.Goals as goal
use Rattle.chain_writer.proofs.+write_chain.Goals.{in-Some, in_default}

pub overflow_sub-next : goal.overflow_sub-next
overflow_sub-next t c =
    let a = c.args in
    (one a.b a.c.now a.free a.rest.now a.pages.now c.requires c.if-b-c.true).linked

pub word-after-requires : goal.word-after-requires
word-after-requires t c =
    let a = c.args in
    ((one a.b a.c.now a.free a.rest.now a.pages.now c.requires c.if-b-c.true).page.fits, omega arith)

pub write_chain-requires : goal.write_chain-requires
unfolding link_of
write_chain-requires t c =
    let a = c.args in
    let can = c.requires in
    let made = c.page_of-page.ensures in
    let more = c.if-b-c.true in
    (omega (arith, c.decreases, can.some_key, more), more_can a.b a.c.now a.free a.rest.now a.pages.now can more _ _ refl refl c.word-after.ensures made.others made.sits made.can_choose)

pub returns-then-b-c : goal.returns-then-b-c
unfolding link_of
returns-then-b-c t c =
    let a = c.args in
    let made = c.page_of-page.ensures in
    c.store.ensures
    ∙ more_written a.b a.c.now a.free a.rest.now a.pages.now c.requires c.if-b-c.true c.page_of-page.result.source _ _ _ c.word-after.ensures made.others made.words c.write_chain.ensures

pub write_chain-requires-in-Some : goal.write_chain-requires-in-Some
write_chain-requires-in-Some t c =
    let a = c.args in
    let is = c.in-Some.is in
    (omega (arith, c.decreases, ap rest_size is), rest_can a.b a.c.now a.free a.rest.now a.pages.now c.requires c.if-b-c.false c.in-Some.d is)

pub returns-after-rest : goal.returns-after-rest
returns-after-rest t c =
    let a = c.args in
    -- What is written before the last page: the rest.
    let before_last : c.match-rest.pages ≡ rest_written a.b a.pages.now a.rest.now a.free = elim c.match-rest.branch [
      | in-Some w ↦ w.pages-is ∙ w.write_chain-in-Some.ensures ∙ rest_is a.b a.pages.now w.in-Some.d a.free a.rest.now w.in-Some.is
      | in_default w ↦ w.pages-is ∙ nothing_is a.b a.pages.now a.free a.rest.now w.in_default.not-Some
    ] in
    c.store-else-b-c.ensures ∙ last_written a.b a.c.now a.free a.rest.now a.pages.now c.requires c.if-b-c.false _ _ c.page_of-last.ensures.words before_last
