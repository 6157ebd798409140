-- `key_source::entry_at` meets its contract.
use Rattle.std.proofs.Common.{refl}
use Rattle.key_source.proofs.entry_at.Goals as goal

pub returns : goal.returns
returns c = refl
