-- What a split writes: steps 18, 20 and 21 (document 01, "The thirty steps"), inside an insert.
-- Main definitions: step18 (the old chain's primary page), step20 and step21 (the root).
use Rattle.model.specs.Records.{at_step, with_next, with_level}
use Rattle.model.specs.Addresses.{split_next, split_level}
use Rattle.model.specs.Outcome.{View, with_root, with_party, Outcome, moved}
use Rattle.model.specs.ScratchPages.{primary_written}

-- 18: write the old chain's primary page.
unfoldable pub step18 : View → Outcome
step18 v = primary_written v 19

-- 20: next becomes (next + 1) mod (N × 2^level).
unfoldable pub step20 : View → Outcome
step20 v =
    let r = v.root in
    moved (with_party (at_step 21 v.party) (with_root (with_next (split_next r.originals r.level r.next) r) v))

-- 21: if next is 0, raise level.
unfoldable pub step21 : View → Outcome
step21 v =
    let r = v.root in
    moved (with_party (at_step 22 v.party) (with_root (with_level (split_level r.level r.next) r) v))
