-- `withdraw::taken_back` meets its contract.
use mathlib.Core.Path.{ap, ◌∙◌}
use Prim.Native.Nat.{◌+◌, ◌≤◌, ◌<◌}
use native.Mathlib.Omega.{arith}
use lib.ListN.{length}
use Rattle.std.specs.Prelude.{Ok}
use Rattle.model.specs.Withdraw.{withdrawal}
use Rattle.model.specs.Chains.{list_from}
use Rattle.free_list.specs.Giving.{listed}
use Rattle.free_list.proofs.Giving.{walked_at_most, listed-length}
use Rattle.withdraw.proofs.Outcomes.{no_room_refused, all_taken_back}
use Rattle.withdraw.proofs.taken_back.Goals as goal

pub overflow_add-work : goal.overflow_add-work
overflow_add-work c =
    let a = c.args in
    let few = walked_at_most a.work.now.root a.pages.now a.first a.n c.requires.3 in
    omega (arith, c.requires.0.free_fits, c.requires.0.overflow_fits)

pub returns-then-work-n : goal.returns-then-work-n
returns-then-work-n c =
    let a = c.args in
    let r = a.work.now.root in
    let walk = list_from r a.pages.now a.first in
    let count = listed-length walk a.n c.requires.3 in
    let over : r.overflow < r.free + length (listed walk) = omega (arith, c.requires.0.free_fits, c.if-work-n.true) in
    no_room_refused r a.work.now.party a.work.now.number a.locks.now a.pages.now (listed walk) over

pub returns : goal.returns
returns c =
    let a = c.args in
    let w = a.work.now in
    let walk = list_from w.root a.pages.now a.first in
    let count = listed-length walk a.n c.requires.3 in
    let room : w.root.free + length (listed walk) ≤ w.root.overflow = omega (arith, c.requires.0.free_fits, c.if-work-n.false) in
    let given = c.give_up_claimed.ensures w.root a.pages.now in
    ap (withdrawal (Ok tt)) (c.clear.ensures c.give_up_claimed.new.locks)
    ∙ all_taken_back w.root w.party w.number a.locks.now a.pages.now (listed walk) given.0 given.1 c.in_ok-give_up_claimed.was room c.take_back-work.ensures
