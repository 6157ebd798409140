-- A shift and a mask of one bit read the bit of v in its word (lock_words' Fields.shifted-and-mask).
use mathlib.Core.Path.{ap}
use Prim.Native.Nat.{ℕ, ◌/◌, ◌%◌}
use lib.ListN.{get_or}
use lib.Dec.{eqb}
use Rattle.lock_words.proofs.Fields.{shifted-and-mask}
use Rattle.free_list.specs.Marks.{is_marked}
use Rattle.free_list.proofs.is_marked.Goals as goal

pub returns : goal.returns
unfolding is_marked
returns c =
    let a = c.args in
    ap (λ (x : ℕ). eqb x 1) (shifted-and-mask (a.v % 32) 1 (get_or a.marks.now (a.v / 32) 0))
