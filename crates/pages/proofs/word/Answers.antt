-- `pages::word` meets its contract: the word at `place` of page p stands `place` words from the page's start on.
use Rattle.model.proofs.Laws.Pages.{word_at}
use Rattle.pages.proofs.word.Goals as goal

pub returns : goal.returns
returns c = let a = c.args in rw c.first_word.ensures (word_at a.pages.now a.p.0 a.place c.requires.1)
