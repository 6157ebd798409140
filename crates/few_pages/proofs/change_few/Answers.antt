-- `few_pages::change_few` meets its contract.
use mathlib.Core.Path.{refl, sym, ap, ◌∙◌}
use Prim.Native.Nat.{◌*◌}
use native.Mathlib.Omega.{arith}
use lib.Dec.{eqb}
use lib.Seq.{length-take-le}
use Rattle.model.specs.Sizes.{record_words}
use Rattle.model.specs.Entries.{ascending}
use Rattle.model.specs.Chains.{chain_of}
use Rattle.records.specs.Work.{seen}
use Rattle.model.specs.Steps.Rebuild.{kept, change_of}
use Rattle.model.proofs.Laws.RecordWords.{records_take}
use Rattle.entries.specs.Places.{place_of}
use Rattle.chain_keys.proofs.WholeChain.{gathered_damaged}
use Rattle.chain_change.proofs.Changes.{agree, differ, nothing_changed, chain_refused, change_kept}
use Rattle.few_pages.proofs.Gathers.{chain_whole, front_ascends, front_few, front_has, chain_has}
use Rattle.few_pages.proofs.change_few.Goals as goal

pub returns-in_err-g : goal.returns-in_err-g
returns-in_err-g c = λ ls.
    let a = c.args in
    let bad = gathered_damaged (chain_of a.work.now.root a.pages.now a.work.now.party.chain) c.in_err-g.ensures.0 refl in
    chain_refused (seen a.work.now ls a.pages.now) _ c.from_residual.ensures.0 bad

pub overflow_mul-words : goal.overflow_mul-words
overflow_mul-words c =
    let a = c.args in
    let g = c.in_ok-g.g in
    let words = c.gather.new.words in
    let whole = chain_whole c.requires words c.in_ok-g.ensures refl in
    let few = front_few a.work.now.root a.pages.now a.work.now.party.chain a.n g words whole c.requires.few in
    record { fits = omega (arith, few, c.requires.can_change.keys_fit) }

pub slice_bounds-words-end : goal.slice_bounds-words-end
slice_bounds-words-end c =
    let a = c.args in
    let g = c.in_ok-g.g in
    let words = c.gather.new.words in
    let whole = chain_whole c.requires words c.in_ok-g.ensures refl in
    omega (arith, whole.fits)

pub slice_bounds-records-end : goal.slice_bounds-records-end
slice_bounds-records-end c =
    let a = c.args in
    let g = c.in_ok-g.g in
    let words = c.gather.new.words in
    let whole = chain_whole c.requires words c.in_ok-g.ensures refl in
    sym (length-take-le (g.count * record_words) words whole.fits)

pub has_at-found-requires : goal.has_at-found-requires
has_at-found-requires c =
    let a = c.args in
    let g = c.in_ok-g.g in
    let words = c.gather.new.words in
    let whole = chain_whole c.requires words c.in_ok-g.ensures refl in
    (ap ascending (records_take g.count words) ∙ front_ascends a.work.now.root a.pages.now a.work.now.party.chain a.n g words whole, c.below-at.ensures)

pub returns-then-found-party : goal.returns-then-found-party
returns-then-found-party c = λ ls.
    let a = c.args in
    let g = c.in_ok-g.g in
    let words = c.gather.new.words in
    let whole = chain_whole c.requires words c.in_ok-g.ensures refl in
    let told = c.has_at-found.ensures in
    let v = seen a.work.now ls a.pages.now in
    let has = chain_has a.work.now.root a.pages.now a.work.now.party.chain a.n g words whole a.work.now.party.key told in
    change_kept v whole.chain whole.is_sound_ok c.kept_answer.result
    (ap kept c.kept_answer.ensures ∙ nothing_changed a.work.now.party.operation a.work.now.party.key a.work.now.party.setting whole.chain.entries has (agree c.has_at-found.result (eqb a.work.now.party.operation 2) c.if-found-party.true))

pub change_front-m-requires : goal.change_front-m-requires
change_front-m-requires c =
    let a = c.args in
    let g = c.in_ok-g.g in
    let words = c.gather.new.words in
    let whole = chain_whole c.requires words c.in_ok-g.ensures refl in
    let few = front_few a.work.now.root a.pages.now a.work.now.party.chain a.n g words whole c.requires.few in
    let told = c.has_at-found.ensures in
    record {
      has_room = omega (arith, few, c.requires.can_change.keys_fit);
      ascends = front_ascends a.work.now.root a.pages.now a.work.now.party.chain a.n g words whole;
      place = c.below-at.ensures ∙ ap (place_of a.work.now.party.key) (records_take g.count words);
      changes = front_has a.work.now.root a.pages.now a.work.now.party.chain a.n g words whole a.work.now.party.key told ∙ differ c.has_at-found.result (eqb a.work.now.party.operation 2) c.if-found-party.false;
    }

pub write_few-requires : goal.write_few-requires
write_few-requires c =
    let a = c.args in
    let g = c.in_ok-g.g in
    let words = c.gather.new.words in
    let whole = chain_whole c.requires words c.in_ok-g.ensures refl in
    let few = front_few a.work.now.root a.pages.now a.work.now.party.chain a.n g words whole c.requires.few in
    let can = c.requires.can_change in
    let more = c.change_front-m.ensures.1 in
    record { can_change = can; few = omega (arith, few, more); has_room = omega (arith, few, more, can.keys_fit, c.change_front-m.auto) }

pub returns : goal.returns
returns c = λ ls.
    let a = c.args in
    let g = c.in_ok-g.g in
    let words = c.gather.new.words in
    let whole = chain_whole c.requires words c.in_ok-g.ensures refl in
    let made = c.change_front-m.ensures.0 ∙ ap (change_of a.work.now.party.operation a.work.now.party.key a.work.now.party.setting) whole.entries in
    c.write_few.ensures ls whole.chain whole.is_sound_ok whole.level whole.pages made
