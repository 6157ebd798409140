-- `key_source::first_place` meets its contract.
use Rattle.std.proofs.Common.{refl}
use Rattle.model.specs.Pages.{count_of, link_of}
use Rattle.key_source.proofs.Places.{first_sits, first_records}
use Rattle.key_source.proofs.first_place.Goals as goal

pub returns : goal.returns
unfolding count_of link_of
returns c =
    let a = c.args in
    rw (c.word.ensures, c.word-2.ensures) (first_sits a.pages.now a.page.0 a.n c.requires, refl, first_records a.pages.now a.page.0 a.n c.requires)
