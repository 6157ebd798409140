-- `split_build::write_halves` meets its contract: HalvesWritten has both facts.
use mathlib.Core.Path.{◌∙◌}
use Rattle.split_build.proofs.HalvesWritten.{can_write_both, both_written_ok}
use Rattle.split_build.proofs.write_halves.Goals as goal

pub write_chain-requires : goal.write_chain-requires
write_chain-requires c =
    let a = c.args in
    can_write_both a.root a.pages.now a.d a.scratch a.other c.requires _

pub returns : goal.returns
returns c =
    let a = c.args in
    c.write_chain.ensures ∙ both_written_ok a.root a.pages.now a.d a.scratch a.other c.requires
