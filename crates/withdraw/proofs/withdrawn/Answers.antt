-- `withdraw::withdrawn` meets its contract.
use mathlib.Core.Path.{sym, ap, ◌∙◌}
use native.Mathlib.Omega.{arith}
use Rattle.model.proofs.Laws.Tests.{sound_page_links}
use Rattle.model.specs.Withdraw.{withdrawal}
use Rattle.records.specs.Work.{seen}
use Rattle.records.proofs.Told.{told}
use Rattle.chains.specs.Walks.{counted}
use Rattle.withdraw.proofs.Outcomes.{none_linked, none-listed, nothing_built, unsound_refused, damaged_refused, walked_taken_back}
use Rattle.withdraw.proofs.withdrawn.Goals as goal

pub taken_back-requires : goal.taken_back-requires
taken_back-requires c =
    let r = c.args.work.now.root in
    (c.requires.0, c.requires.1, none_linked r, ap counted (none-listed r c.args.pages.now))

pub returns-then-work-ne-BUILT : goal.returns-then-work-ne-BUILT
returns-then-work-ne-BUILT c =
    let a = c.args in
    let w = a.work.now in
    c.taken_back.ensures ∙ nothing_built w.root w.party w.number a.locks.now a.pages.now c.if-work-ne-BUILT.true

pub returns-then-not-page_sound : goal.returns-then-not-page_sound
returns-then-not-page_sound c =
    let a = c.args in
    let w = a.work.now in
    let tested = rw c.scratch_of-w.ensures at c.page_sound.ensures in
    unsound_refused w.root w.party w.number a.locks.now a.pages.now c.if-work-ne-BUILT.false (sym tested ∙ c.if-not-page_sound.true)

pub count_pages-requires : goal.count_pages-requires
count_pages-requires c =
    let links = sound_page_links c.args.work.now.root _ (sym c.page_sound.ensures ∙ c.if-not-page_sound.false) in
    (rw c.link_of-first.ensures links, omega (arith, c.requires.0.pages_fit))

pub returns-in_err-n : goal.returns-in_err-n
returns-in_err-n c =
    let a = c.args in
    let w = a.work.now in
    let tested = rw c.scratch_of-w.ensures at c.page_sound.ensures in
    let bad = rw (c.link_of-first.ensures, c.scratch_of-w.ensures) at c.count_pages.ensures in
    ap (λ t. withdrawal t (seen w a.locks.now a.pages.now)) (told c.from_residual.result c.from_residual.ensures)
    ∙ damaged_refused w.root w.party w.number a.locks.now a.pages.now c.if-work-ne-BUILT.false (sym tested ∙ c.if-not-page_sound.false) (sym bad ∙ c.in_err-n.was)

pub taken_back-requires-2 : goal.taken_back-requires-2
taken_back-requires-2 c =
    let links = sound_page_links c.args.work.now.root _ (sym c.page_sound.ensures ∙ c.if-not-page_sound.false) in
    (c.requires.0, c.requires.1, rw c.link_of-first.ensures links, sym c.count_pages.ensures ∙ c.in_ok-n.was)

pub returns : goal.returns
returns c =
    let a = c.args in
    let w = a.work.now in
    let tested = rw c.scratch_of-w.ensures at c.page_sound.ensures in
    let good = rw (c.link_of-first.ensures, c.scratch_of-w.ensures) at c.count_pages.ensures in
    rw (c.link_of-first.ensures, c.scratch_of-w.ensures) at c.taken_back-2.ensures
    ∙ walked_taken_back w.root w.party w.number a.locks.now a.pages.now c.if-work-ne-BUILT.false (sym tested ∙ c.if-not-page_sound.false) _ (sym good ∙ c.in_ok-n.was)
