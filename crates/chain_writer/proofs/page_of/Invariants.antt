-- What the loop of `chain_writer::page_of` keeps.
use Rattle.std.proofs.Common.{◌≡◌, ◌*◌, take, drop}
use Rattle.model.specs.Sizes.{record_words}
use Rattle.model.specs.Pages.{words_of}
use Rattle.key_source.specs.Sources.{Sits, CanChoose, chosen_of}
use Rattle.filling.proofs.PageWords.{words_after}
use Rattle.chain_writer.proofs.page_of.Given as goal

abbrev pub invariant-loop-i : goal.invariant-loop-i
invariant-loop-i l = record {
  put : l.w ≡ words_after l.level l.n (words_of (take l.n (chosen_of l.pages l.initial.source))) l.link (l.i * record_words);
  sits : Sits l.pages l.source.place;
  can_choose : CanChoose l.source.choice;
  others : chosen_of l.pages l.source ≡ drop l.i (chosen_of l.pages l.initial.source);
}
