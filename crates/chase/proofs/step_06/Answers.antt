-- `chase::step_06` meets its contract: a local level below lev is damage.
use mathlib.Core.Path.{sym, ◌∙◌}
use Prim.Native.Nat.{◌<◌}
use native.Mathlib.Omega.{arith}
use borrow.Author.Tests.{lt-leb}
use Rattle.model.specs.Pages.{level_of}
use Rattle.model.specs.Steps.Chase.{step06}
use Rattle.chase.proofs.step_06.Goals as goal

pub returns-then-local-work : goal.returns-then-local-work
unfolding step06
returns-then-local-work c =
    let w = c.load-w.result in
    let lev = c.args.work.now.party.lev in
    let below : level_of w < lev = omega (arith, c.level_of-local.ensures, c.if-local-work.true) in
    rw (← c.load-w.ensures, sym c.page_sound.ensures ∙ c.if-not-page_sound.false, lt-leb lev (level_of w) below)
