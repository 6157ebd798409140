-- `many_pages::change_many` meets its contract: the cases of Changes.
use mathlib.Core.Path.{◌≡◌, sym, ap, ◌∙◌}
use mathlib.Core.Bool.{true, false, not}
use native.Mathlib.Omega.{arith}
use lib.Dec.{eqb}
use Rattle.model.specs.Entries.{entry_of, has_key}
use Rattle.model.specs.Chains.{chain_of}
use Rattle.model.specs.Steps.Rebuild.{kept}
use Rattle.model.proofs.Laws.Lists.{eqb_same, eqb-diff}
use Rattle.records.specs.Work.{seen}
use Rattle.entries.proofs.Places.{place_inside}
use Rattle.key_source.specs.declared.Choice.TheVariants.{With}
use Rattle.key_source.proofs.Choices.{with_length}
use Rattle.chain_change.proofs.Changes.{agree, differ, nothing_changed, chain_refused, change_kept}
use Rattle.chain_scan.proofs.ScannedChain.{looked_at_lem, unsound_chain}
use Rattle.many_pages.proofs.Chosen.{chosen_few, one_fewer, made_with, made_without}
use Rattle.many_pages.proofs.change_many.Goals as goal

pub returns-in_err-l : goal.returns-in_err-l
returns-in_err-l c = λ ls.
    let a = c.args in
    let bad = unsound_chain (chain_of a.work.now.root a.pages.now a.work.now.party.chain) a.work.now.party.key c.in_err-l.ensures in
    chain_refused (seen a.work.now ls a.pages.now) _ c.from_residual.ensures.0 bad

pub returns-then-l-inserts : goal.returns-then-l-inserts
returns-then-l-inserts c = λ ls.
    let a = c.args in
    let p = a.work.now.party in
    let l = c.in_ok-l.l in
    let x = looked_at_lem (chain_of a.work.now.root a.pages.now p.chain) p.key l c.in_ok-l.ensures in
    change_kept (seen a.work.now ls a.pages.now) x.chain x.is_sound_ok c.kept_answer.result
    (ap kept c.kept_answer.ensures ∙ nothing_changed p.operation p.key p.setting x.chain.entries (sym x.found) (agree l.found (eqb p.operation 2) c.if-l-inserts.true))

pub overflow_add-l : goal.overflow_add-l
overflow_add-l c =
    let a = c.args in
    let p = a.work.now.party in
    let x = looked_at_lem (chain_of a.work.now.root a.pages.now p.chain) p.key c.in_ok-l.l c.in_ok-l.ensures in
    let few = chosen_few a.work.now a.pages.now c.requires x.chain x.is_sound_ok (With (entry_of p.key p.setting)) in
    let more = with_length (entry_of p.key p.setting) x.chain.entries in
    omega (arith, few, more, x.count)

pub write_many-requires : goal.write_many-requires
write_many-requires c =
    let a = c.args in
    let p = a.work.now.party in
    let l = c.in_ok-l.l in
    let x = looked_at_lem (chain_of a.work.now.root a.pages.now p.chain) p.key l c.in_ok-l.ensures in
    let more = with_length (entry_of p.key p.setting) x.chain.entries in
    let absent : has_key p.key x.chain.entries ≡ false = sym x.found ∙ differ l.found (eqb p.operation 2) c.if-l-inserts.false ∙ ap not (eqb_same p.operation 2 c.if-inserts.true) in
    record {
      can_change = c.requires;
      chain = x.chain;
      found = x.is_sound_ok;
      pages = x.pages;
      can_choose = tt;
      many = omega (arith, more, x.count);
      made = made_with p.operation p.key p.setting x.chain.entries c.if-inserts.true absent;
    }

pub overflow_sub-l : goal.overflow_sub-l
overflow_sub-l c =
    let a = c.args in
    let p = a.work.now.party in
    let l = c.in_ok-l.l in
    let x = looked_at_lem (chain_of a.work.now.root a.pages.now p.chain) p.key l c.in_ok-l.ensures in
    let present : has_key p.key x.chain.entries ≡ true = sym x.found ∙ differ l.found (eqb p.operation 2) c.if-l-inserts.false ∙ ap not (eqb-diff p.operation 2 c.if-inserts.false) in
    omega (arith, place_inside p.key x.chain.entries present, x.count)

pub write_many-requires-2 : goal.write_many-requires-2
write_many-requires-2 c =
    let a = c.args in
    let p = a.work.now.party in
    let l = c.in_ok-l.l in
    let x = looked_at_lem (chain_of a.work.now.root a.pages.now p.chain) p.key l c.in_ok-l.ensures in
    let present : has_key p.key x.chain.entries ≡ true = sym x.found ∙ differ l.found (eqb p.operation 2) c.if-l-inserts.false ∙ ap not (eqb-diff p.operation 2 c.if-inserts.false) in
    let fewer = one_fewer a.work.now a.pages.now c.requires x.chain x.is_sound_ok p.key present in
    record {
      can_change = c.requires;
      chain = x.chain;
      found = x.is_sound_ok;
      pages = x.pages;
      can_choose = tt;
      many = omega (arith, fewer, x.count);
      made = made_without p.operation p.key p.setting x.chain.entries c.if-inserts.false present;
    }
