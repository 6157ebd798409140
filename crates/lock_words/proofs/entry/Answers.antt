-- The constant of the code has Table I's nine entries, each at the places of its two modes.
use Rattle.std.proofs.Common.{◌≡◌, refl, [], false, get_or}
use Rattle.model.specs.declared.Mode.{Mode}
use Rattle.model.specs.declared.Mode.TheVariants.{Read, Selective, Exclusive}
use Rattle.model.specs.GrantTable.{rank}
use Rattle.model.specs.LockWords.{table_one}
use Rattle.lock_words.specs.declared.TheConstants.{TABLE}
use Rattle.lock_words.proofs.entry.Goals as goal

nine_entries : (request held : Mode) → get_or (get_or TABLE (rank request) []) (rank held) false ≡ table_one request held
unfolding rank table_one
nine_entries Read Read = refl
nine_entries Read Selective = refl
nine_entries Read Exclusive = refl
nine_entries Selective Read = refl
nine_entries Selective Selective = refl
nine_entries Selective Exclusive = refl
nine_entries Exclusive Read = refl
nine_entries Exclusive Selective = refl
nine_entries Exclusive Exclusive = refl

pub returns : goal.returns
returns c =
    rw (c.place.ensures.exact, c.place-2.ensures.exact) (nine_entries c.args.request c.args.held)
