-- `generator::main` meets its contract: what it hands to write_table is what put_table put.
use mathlib.Core.Path.{◌≡◌, ap, ◌∙◌}
use Prim.Native.Nat.{ℕ, ◌-◌}
use native.Mathlib.Omega.{arith}
use lib.ListN.{take}
use Rattle.generator.proofs.main.Goals as goal

pub write_table-requires : goal.write_table-requires
write_table-requires c =
    let put = c.put_table-end in
    let all : put.result - 0 ≡ put.result = omega arith in
    ap (λ (n : ℕ). take n put.new.out) all ∙ put.ensures.upper_bound.1
