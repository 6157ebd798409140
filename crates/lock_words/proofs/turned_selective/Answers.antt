-- The exclusive field cleared, then the selective field named: the definition's two words.
use Rattle.model.specs.LockWords.{turned_selective, granted_word, released_word}
use Rattle.lock_words.proofs.turned_selective.Goals as goal

pub returns : goal.returns
unfolding turned_selective granted_word released_word
returns c = cc
