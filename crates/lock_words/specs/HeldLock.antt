-- The strongest lock held on a word, as the Option that the code gives (document 02, change 5).
-- Main definition: held_on.
use Rattle.std.proofs.Math.Option as logic
use Rattle.std.specs.Prelude.{ℕ, Option, None, Some}
use Rattle.model.specs.declared.Mode.{Mode}
use Rattle.model.specs.GrantTable.{held_in, strongest}

-- An optional mode of the definitions as an Option of the code.
unfoldable pub as_option : logic.Option Mode → Option Mode
as_option logic.none = None
as_option (logic.some m) = Some m

-- The mode of the strongest lock held on a word.
abbrev pub held_on : ℕ → Option Mode
held_on w = as_option (strongest (held_in w))
