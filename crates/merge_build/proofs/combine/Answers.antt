-- `merge_build::combine` meets its contract: Cases has its ends, Combines what was read of both chains.
use mathlib.Core.Path.{◌≡◌, sym, ap, ap₂, ◌∙◌}
use Prim.Native.Nat.{◌+◌, ◌≤◌}
use mathlib.Core.List.{List}
use native.Mathlib.Omega.{arith}
use Rattle.model.specs.Records.{at_step, with_old}
use Rattle.model.specs.Pages.{level_of, link_of, with_page}
use Rattle.model.specs.declared.Restructuring.TheVariants.{MergeSkipped}
use Rattle.model.specs.LockWords.{Claim}
use Rattle.model.specs.Endings.{ended_with}
use Rattle.records.specs.Work.{seen}
use Rattle.merge_build.proofs.Cases.{shared_refused, skipped_ends, joined_moves}
use Rattle.merge_build.proofs.Combines.{target_looks, partner_looks, can_join, shared_told, many_joined, many_records, records_few, page_filled_ok}
use Rattle.merge_build.proofs.combine.Goals as goal

pub first_place-first-requires : goal.first_place-first-requires
first_place-first-requires c =
    let a = c.args in
    let ps = a.pages.now in
    let can = c.requires in
    (target_looks a.work.now a.t a.u a.locks.now ps can).can_start

pub first_place-second-requires : goal.first_place-second-requires
first_place-second-requires c =
    let a = c.args in
    let ps = a.pages.now in
    let can = c.requires in
    (partner_looks a.work.now a.t a.u a.locks.now ps can).can_start

pub shares_key-requires : goal.shares_key-requires
shares_key-requires c =
    let a = c.args in
    let ps = a.pages.now in
    let can = c.requires in
    let f = c.first_place-first in
    let s = c.first_place-second in
    can_join a.work.now a.t a.u a.locks.now ps can f.result s.result f.ensures.0 f.ensures.2 s.ensures.0 s.ensures.2

pub returns-then-shares_key : goal.returns-then-shares_key
returns-then-shares_key c =
    let a = c.args in
    let ps = a.pages.now in
    let can = c.requires in
    let f = c.first_place-first in
    let s = c.first_place-second in
    let t = target_looks a.work.now a.t a.u a.locks.now ps can in
    let u = partner_looks a.work.now a.t a.u a.locks.now ps can in
    let told = shared_told a.work.now a.t a.u a.locks.now ps can f.result s.result f.ensures.0 f.ensures.2 s.ensures.0 s.ensures.2 c.shares_key.ensures in
    shared_refused a.work.now a.locks.now ps can.not-barred t.chain u.chain t.is_sound_ok u.is_sound_ok (sym told ∙ c.if-shares_key.true)

pub overflow_add-n : goal.overflow_add-n
overflow_add-n c =
    let a = c.args in
    let ps = a.pages.now in
    let can = c.requires in
    let f = c.first_place-first in
    let s = c.first_place-second in
    record { fits = omega (arith, records_few a.work.now a.t a.u a.locks.now ps can f.result s.result f.ensures.0 f.ensures.2 s.ensures.0 s.ensures.2) }

pub returns-then-work-n : goal.returns-then-work-n
returns-then-work-n c =
    let a = c.args in
    let ps = a.pages.now in
    let can = c.requires in
    let f = c.first_place-first in
    let s = c.first_place-second in
    let t = target_looks a.work.now a.t a.u a.locks.now ps can in
    let u = partner_looks a.work.now a.t a.u a.locks.now ps can in
    let told = shared_told a.work.now a.t a.u a.locks.now ps can f.result s.result f.ensures.0 f.ensures.2 s.ensures.0 s.ensures.2 c.shares_key.ensures in
    let many = many_joined a.work.now a.t a.u a.locks.now ps can f.result s.result f.ensures.0 f.ensures.2 s.ensures.0 s.ensures.2 in
    c.ended_with.ensures
    ∙ ap (λ (cs : List Claim). ended_with (seen a.work.now a.locks.now ps) cs MergeSkipped) c.merge_locks-claimed.ensures.claims
    ∙ skipped_ends a.work.now a.locks.now ps can.not-barred t.chain u.chain t.is_sound_ok u.is_sound_ok (sym told ∙ c.if-shares_key.false) (omega (arith, c.if-work-n.true, many))

pub joined_page-w-requires : goal.joined_page-w-requires
joined_page-w-requires c =
    let a = c.args in
    let ps = a.pages.now in
    let can = c.requires in
    let f = c.first_place-first in
    let s = c.first_place-second in
    (can_join a.work.now a.t a.u a.locks.now ps can f.result s.result f.ensures.0 f.ensures.2 s.ensures.0 s.ensures.2, omega (arith, c.if-work-n.false, can.at_hand.keys_fit), many_records a.work.now a.t a.u a.locks.now ps can f.result s.result f.ensures.0 f.ensures.2 s.ensures.0 s.ensures.2)

pub returns : goal.returns
returns c =
    let a = c.args in
    let ps = a.pages.now in
    let can = c.requires in
    let f = c.first_place-first in
    let s = c.first_place-second in
    let t = target_looks a.work.now a.t a.u a.locks.now ps can in
    let u = partner_looks a.work.now a.t a.u a.locks.now ps can in
    let told = shared_told a.work.now a.t a.u a.locks.now ps can f.result s.result f.ensures.0 f.ensures.2 s.ensures.0 s.ensures.2 c.shares_key.ensures in
    let many = many_joined a.work.now a.t a.u a.locks.now ps can f.result s.result f.ensures.0 f.ensures.2 s.ensures.0 s.ensures.2 in
    let page = c.load-page.ensures in
    let level = c.level_of.ensures ∙ ap level_of page ∙ t.level in
    let of-target : c.link_of-work.result ≡ link_of c.load-page.result = c.link_of-work.ensures in
    let link = of-target ∙ ap link_of page ∙ t.link in
    let fits : a.t.count + a.u.count ≤ a.work.now.root.capacity = omega (arith, c.if-work-n.false) in
    let filled = page_filled_ok a.work.now a.t a.u a.locks.now ps can f.result s.result f.ensures.0 f.ensures.2 s.ensures.0 s.ensures.2 level fits c.joined_page-w.ensures in
    let party = ap (λ l. at_step 27 (with_old l a.work.now.party)) link in
    joined_moves a.work.now a.locks.now ps can.not-barred t.chain u.chain t.is_sound_ok u.is_sound_ok (sym told ∙ c.if-shares_key.false)
    (omega (arith, fits, many)) party (c.store.ensures ∙ ap₂ (with_page ps) c.scratch_page.ensures filled)
