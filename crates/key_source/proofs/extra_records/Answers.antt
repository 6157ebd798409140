-- `key_source::extra_records` meets its contract.
use mathlib.Core.Path.{refl, sym}
use Rattle.key_source.specs.Sources.{extra_records}
use Rattle.key_source.proofs.Choices.{no_extra}
use Rattle.key_source.proofs.extra_records.Goals as goal

pub returns-in-With : goal.returns-in-With
unfolding extra_records
returns-in-With c = rw c.in-With.is refl

pub returns-in_default : goal.returns-in_default
returns-in_default c = sym (no_extra c.args.c c.in_default.not-With)
