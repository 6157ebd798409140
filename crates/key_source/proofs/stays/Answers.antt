-- `key_source::stays` meets its contract.
use Rattle.std.proofs.Common.{ap, ◌∙◌, ℕ}
use lib.Dec.{eqb}
use Rattle.model.specs.Addresses.{hash_of}
use Rattle.key_source.proofs.stays.Goals as goal

pub returns : goal.returns
returns c =
    let h = c.args.h in
    c.eq.ensures ∙ ap (λ (n : ℕ). eqb n h.chain.0) (c.hash-home.ensures ∙ ap (hash_of h.originals h.level) c.mixed-m.ensures)
