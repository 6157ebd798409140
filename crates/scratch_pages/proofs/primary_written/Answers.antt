-- `scratch_pages::primary_written` meets its contract: the page written is that of the party's chain.
use Rattle.std.proofs.Common.{arith}
use Rattle.scratch_pages.proofs.primary_written.Goals as goal

pub store-requires : goal.store-requires
store-requires c = omega (arith, c.requires.1, c.requires.0.page_fits)
