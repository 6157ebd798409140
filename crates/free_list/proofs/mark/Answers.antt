-- Or with one shifted sets the bit of v in its word (lock_words' Fields.bit_set).
use mathlib.Core.Path.{ap}
use Prim.Native.Nat.{◌/◌, ◌%◌}
use native.Mathlib.Omega.{arith}
use lib.ListN.{get_or, set}
use Rattle.lock_words.proofs.Fields.{bit_set}
use Rattle.free_list.specs.Marks.{with_mark}
use Rattle.free_list.proofs.mark.Goals as goal

pub returns : goal.returns
unfolding with_mark
returns c =
    let a = c.args in
    ap (set a.marks.now (a.v / 32)) (bit_set (a.v % 32) (get_or a.marks.now (a.v / 32) 0) (omega arith))
