-- `merge_write::step_28` meets its contract: the scratch page is tested, and so is its local level.
use mathlib.Core.Path.{◌≡◌, sym, ◌∙◌}
use mathlib.Core.Bool.{false}
use native.Mathlib.Omega.{arith}
use Rattle.model.specs.Pages.{page_sound}
use Rattle.model.specs.Steps.MergeWrite.{step28}
use Rattle.merge_write.proofs.step_28.Goals as goal

pub returns-then-not-page_sound : goal.returns-then-not-page_sound
unfolding step28
returns-then-not-page_sound c =
    let unsound : page_sound c.args.work.now.root c.scratch_of-scratch.result ≡ false = sym c.page_sound.ensures ∙ c.if-not-page_sound.true in
    rw (← c.scratch_of-scratch.ensures, unsound)

pub lowered-requires : goal.lowered-requires
lowered-requires c = omega (arith, c.level_of.ensures)
