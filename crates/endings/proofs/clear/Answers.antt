-- `endings::clear` meets its contract: the default record is the idle one.
use Rattle.model.specs.Pages.{zero_page, filled_page, words_of}
use Rattle.endings.proofs.clear.Goals as goal

pub returns : goal.returns
unfolding zero_page filled_page words_of
returns c = λ ls.
    let (a, (b, (d, (e, (f, (g, (h, (i, (j, k))))))))) = c.default-work.ensures in
    rw (a, b, d, e, f, g, h, i, j, k, c.store.ensures, c.scratch_page.ensures)
