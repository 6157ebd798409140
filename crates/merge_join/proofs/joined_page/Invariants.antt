-- What the loop of `merge_join::joined_page` keeps.
use Rattle.std.proofs.Common.{◌≡◌, ◌*◌, take, drop}
use Rattle.model.specs.Sizes.{record_words}
use Rattle.model.specs.Entries.{joined}
use Rattle.model.specs.Pages.{words_of}
use Rattle.key_source.specs.Sources.{records_at}
use Rattle.filling.proofs.PageWords.{words_after}
use Rattle.merge_join.specs.Joining.{CanJoin}
use Rattle.merge_join.proofs.joined_page.Given as goal

abbrev pub invariant-loop-i : goal.invariant-loop-i
invariant-loop-i l = record {
  put : l.w ≡ words_after l.level l.n (words_of (take l.n (joined (records_at l.pages l.initial.p) (records_at l.pages l.initial.q)))) 0 (l.i * record_words);
  can_join : CanJoin l.pages l.p l.q;
  others : joined (records_at l.pages l.p) (records_at l.pages l.q) ≡ drop l.i (joined (records_at l.pages l.initial.p) (records_at l.pages l.initial.q));
}
