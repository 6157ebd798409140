-- What the loop of `filling::page_words` keeps: the words of i records are written.
use Rattle.std.proofs.Common.{◌≡◌, ◌*◌}
use Rattle.model.specs.Sizes.{record_words}
use Rattle.filling.proofs.PageWords.{words_after}
use Rattle.filling.proofs.page_words.Given as goal

abbrev pub invariant-loop-i : goal.invariant-loop-i
invariant-loop-i l = l.w ≡ words_after l.level l.n l.records l.link (l.i * record_words)
