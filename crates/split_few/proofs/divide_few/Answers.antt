-- `split_few::divide_few` meets its contract: a chain gathered, parted and written.
use mathlib.Core.Path.{refl, ap, ◌∙◌}
use Prim.Native.Nat.{◌+◌}
use native.Mathlib.Omega.{arith}
use Rattle.model.specs.Entries.{staying, going}
use Rattle.model.specs.Chains.{chain_of}
use Rattle.records.specs.Work.{seen}
use Rattle.chain_keys.proofs.WholeChain.{gathered_damaged, gathered-whole}
use Rattle.split_few.proofs.Bounds.{can_gather, front_few}
use Rattle.split_few.proofs.Cases.{chain_refused}
use Rattle.split_few.proofs.divide_few.Goals as goal

pub returns-in_err-g : goal.returns-in_err-g
returns-in_err-g c = λ ls.
    let a = c.args in
    let bad = gathered_damaged (chain_of a.work.now.root a.pages.now a.work.now.party.chain) c.in_err-g.ensures.0 refl in
    chain_refused (seen a.work.now ls a.pages.now) c.requires.can_split.not-barred _ c.from_residual.ensures.0 bad

pub part-staying-requires : goal.part-staying-requires
part-staying-requires c =
    let a = c.args in
    let g = c.in_ok-g.g in
    let words = c.gather.new.words in
    let whole = gathered-whole (can_gather {room = 108} c.requires (omega arith)) words c.in_ok-g.ensures refl in
    let few = front_few c.requires whole in
    let can = c.requires.can_split in
    record {
      can_halve = record { some_original = can.some_original; originals_fit = can.originals_fit; level_fits = omega (arith, can.level_fits) };
      front_fits = whole.fits;
      back_fits = omega (arith, few, can.can_change.keys_fit);
    }

pub write_halves-requires : goal.write_halves-requires
write_halves-requires c =
    let a = c.args in
    let g = c.in_ok-g.g in
    let words = c.gather.new.words in
    let whole = gathered-whole (can_gather {room = 108} c.requires (omega arith)) words c.in_ok-g.ensures refl in
    let few = front_few c.requires whole in
    let can = c.requires.can_split in
    let some = c.part-staying.ensures.0 in
    let long = c.part-staying.auto in
    record {
      can_split = can;
      few = omega (arith, few, some);
      stay_room = omega (arith, can.can_change.keys_fit, long.words, c.gather.auto.words);
      go_room = omega (arith, can.can_change.keys_fit, long.gone);
    }

pub returns : goal.returns
returns c = λ ls.
    let a = c.args in
    let g = c.in_ok-g.g in
    let words = c.gather.new.words in
    let whole = gathered-whole (can_gather {room = 108} c.requires (omega arith)) words c.in_ok-g.ensures refl in
    let parted = c.part-staying.ensures in
    let stay = parted.1 ∙ ap (staying a.work.now.root.originals (a.work.now.root.level + 1) a.work.now.party.chain) whole.entries in
    let go = parted.2 ∙ ap (going a.work.now.root.originals (a.work.now.root.level + 1) a.work.now.party.chain) whole.entries in
    c.write_halves.ensures ls whole.chain whole.is_sound_ok stay go
