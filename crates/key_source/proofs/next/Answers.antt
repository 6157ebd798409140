-- `key_source::next` meets its contract.
use mathlib.Core.Path.{ap}
use Rattle.key_source.specs.declared.Choice.{Choice}
use Rattle.key_source.specs.Sources.{records_at, chosen, chosen_of}
use Rattle.key_source.proofs.Choices.{no_extra}
use Rattle.key_source.proofs.next.Goals as goal

pub next_kept-requires : goal.next_kept-requires
unfolding chosen_of
next_kept-requires c = (c.requires.0, c.requires.1, no_extra c.args.s.choice c.in_default.not-With, c.requires.2)

pub returns-in-With : goal.returns-in-With
unfolding chosen_of
returns-in-With c =
    let a = c.args in
    rw (ap (λ (d : Choice). chosen d (records_at a.pages.now a.s.place)) c.in-With.is) c.next_with.ensures

pub returns-in_default : goal.returns-in_default
unfolding chosen_of
returns-in_default c = c.next_kept.ensures
