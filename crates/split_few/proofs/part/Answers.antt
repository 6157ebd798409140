-- `split_few::part` meets its contract: Parting has the turns of its loop.
use mathlib.Core.Path.{◌≡◌, refl, ap, ◌∙◌}
use Prim.Native.Nat.{◌-◌, ◌<◌}
use native.Mathlib.Omega.{arith}
use lib.ListN.{length}
use mir.Val.{bool_byte}
use Rattle.model.specs.Pages.{records_in}
use Rattle.model.proofs.Laws.RecordWords.{length_records}
use Rattle.split_few.proofs.Parting.{none-parted, one_parted}
use Rattle.split_few.proofs.part.Goals as goal

pub loop-i-init : goal.loop-i-init
loop-i-init c =
    let a = c.args in
    (c.requires, omega arith, refl, refl, none-parted a.h (records_in a.words.now) (records_in a.gone.now))

pub loop-i-preserved : goal.loop-i-preserved
loop-i-preserved c =
    let l = c.loop-i in
    let a = c.args in
    let can = l.invariant.0 in
    let e = c.record_at-e.result in
    let front = c.set_record.new.words in
    let back = c.set_record-in-loop-i.new.words in
    let front_long : length front ≡ length l.words = c.set_record.auto.words in
    let back_long : length back ≡ length l.gone = c.set_record-in-loop-i.auto.words in
    let more : l.i < length (records_in a.words.now) = omega (arith, length_records a.words.now, can.front_fits, l.invariant.2, c.loop-i-test.true) in
    let room : l.i - l.staying < length (records_in l.gone) = omega (arith, length_records l.gone, can.back_fits, c.loop-i-test.true) in
    let counted = ap bool_byte c.stays.ensures in
    let parted = one_parted a.h (records_in a.words.now) l.i l.staying (records_in l.words) (records_in l.gone) l.invariant.4 more e c.record_at-e.ensures room counted in (
      record { can_halve = can.can_halve; front_fits = omega (arith, can.front_fits, front_long); back_fits = omega (arith, can.back_fits, back_long) },
      omega (arith, c.loop-i-test.true),
      front_long ∙ l.invariant.2,
      back_long ∙ l.invariant.3,
      rw (c.set_record.ensures, c.set_record-in-loop-i.ensures) parted,
    )

pub returns : goal.returns
returns c =
    let l = c.loop-i in
    let a = c.args in
    let done : l.i ≡ a.count = omega (arith, c.loop-i-test.false, l.invariant.1) in
    let parted = rw done at l.invariant.4 in
    (parted.some, parted.stay, parted.go)
