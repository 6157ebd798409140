-- `records::is_zero` meets its contract: the derived equality compares the ten words with zeros, one after the other.
use mathlib.Core.Path.{◌≡◌, ◌∙◌}
use mathlib.Core.Bool.{Bool, ◌&&◌, and-true}
use lib.Dec.{eqb}
use Rattle.model.specs.declared.Party.{Party}
use Rattle.model.specs.Records.{idle}
use Rattle.model.specs.WaitingRow.{all_zero}
use Rattle.model.specs.TakeUp.{is_zero_record}
use Rattle.records.proofs.is_zero.Goals as goal

-- The ten comparisons of two records.
abbrev equal : Party → Party → Bool
equal p d =
    eqb p.operation d.operation && (eqb p.key d.key && (eqb p.step d.step && (eqb p.lev d.lev && (eqb p.chain d.chain && (eqb p.other d.other
    && (eqb p.old d.old && (eqb p.owed d.owed && (eqb p.answer d.answer && eqb p.setting d.setting))))))))

equal_idle : (p : Party) → equal p idle ≡ is_zero_record p
unfolding is_zero_record all_zero
equal_idle p = rw (and-true (eqb p.setting 0))

equal_default :
    (p d : Party)
    → (d.operation ≡ 0 × (d.key ≡ 0 × (d.step ≡ 0 × (d.lev ≡ 0 × (d.chain ≡ 0 × (d.other ≡ 0 × (d.old ≡ 0 × (d.owed ≡ 0 × (d.answer ≡ 0 × d.setting ≡ 0))))))))) → equal p d ≡ equal p idle
equal_default p d (a, (b, (f, (g, (h, (i, (j, (k, (l, m))))))))) = rw (a, b, f, g, h, i, j, k, l, m)

pub returns : goal.returns
returns c = c.eq.ensures ∙ equal_default c.args.party c.default.result c.default.ensures ∙ equal_idle c.args.party
