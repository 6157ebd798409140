-- `generator::put_table` meets its contract.
use mathlib.Core.Path.{sym, ap, ap₂, ◌∙◌}
use mathlib.Core.List.{List}
use Prim.Native.Nat.{ℕ, ◌≤◌}
use native.Mathlib.Omega.{arith}
use lib.ListN.{length, take}
use lib.Seq.{length-sets}
use Rattle.model.specs.Mixing.{table}
use Rattle.mixing.proofs.Made.{constant_made}
use Rattle.generator.specs.Printed.{lines_of}
use Rattle.generator.proofs.Lines.{front_put}
use Rattle.generator.proofs.put_table.Goals as goal

pub returns : goal.returns
unfolding table
returns c =
    let first = c.args.out.now in
    let put = c.put_outputs.ensures in
    let fits : length (lines_of table) ≤ length first = omega (arith, put.value.0, put.value.1, ap length put.out_after, length-sets first 0 (lines_of table)) in
    let printed = ap₂ (λ (n : ℕ) (l : List ℕ). take n l) put.value.0 put.out_after ∙ front_put first (lines_of table) fits in
    record { upper_bound = (put.value.1, printed); out_after = printed ∙ ap lines_of (sym constant_made) }
