-- `key_source::keeps` meets its contract: a key goes where it does not stay.
use Rattle.std.proofs.Common.{ap, not}
use Rattle.key_source.specs.Sources.{kept}
use Rattle.key_source.proofs.keeps.Goals as goal

pub returns-in-Going : goal.returns-in-Going
unfolding kept
returns-in-Going c = rw c.in-Going.is (ap not c.stays-in-Going.ensures)
