-- `few_pages::change_front` meets its contract.
use mathlib.Core.Path.{ap, ◌∙◌}
use native.Mathlib.Omega.{arith}
use lib.ListN.{take}
use Rattle.model.specs.Pages.{records_in}
use Rattle.model.specs.Steps.Rebuild.{changed}
use Rattle.chain_change.specs.Changing.{changed_answer}
use Rattle.chain_change.proofs.Changes.{key_inserted, key_deleted}
use Rattle.few_pages.proofs.Gathers.{insert_absent, other_present, place_before}
use Rattle.few_pages.proofs.change_front.Goals as goal

pub returns-then-party-eq-INSERT : goal.returns-then-party-eq-INSERT
returns-then-party-eq-INSERT c =
    let p = c.args.party in
    let es = take c.args.count (records_in c.args.words.now) in
    let inserts = c.if-party-eq-INSERT.true in
    (ap (changed (changed_answer p.operation)) c.put_in.ensures ∙ key_inserted p.operation p.key p.setting es inserts (insert_absent c.requires inserts), omega arith)

pub leave_out-requires : goal.leave_out-requires
leave_out-requires c =
    let can = c.requires in
    (place_before can c.if-party-eq-INSERT.false, omega (arith, can.has_room))

pub overflow_sub-result : goal.overflow_sub-result
overflow_sub-result c = omega (arith, place_before c.requires c.if-party-eq-INSERT.false)

pub returns : goal.returns
returns c =
    let p = c.args.party in
    let can = c.requires in
    let es = take c.args.count (records_in c.args.words.now) in
    let other = c.if-party-eq-INSERT.false in
    let left = c.leave_out.ensures p.key can.ascends (other_present can other) can.place in
    (ap (changed (changed_answer p.operation)) left ∙ key_deleted p.operation p.key p.setting es other (other_present can other), omega arith)
