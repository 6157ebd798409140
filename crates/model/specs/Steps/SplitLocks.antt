-- The locks of a split: steps 15, 16, 19 and 22 (document 01, "The thirty steps"), inside an insert.
-- Main definitions: splitting (the record once chain next is granted); step15, step16, step19, step22.
use Rattle.std.specs.Prelude.{cond, [], ◌∷◌}
use Rattle.model.specs.declared.Mode.TheVariants.{Selective}
use Rattle.model.specs.declared.Party.{Party}
use Rattle.model.specs.declared.Restructuring.{Restructuring}
use Rattle.model.specs.declared.Root.{Root}
use Rattle.model.specs.Records.{at_step, with_chain, with_other, with_owed, split_made}
use Rattle.model.specs.LockWords.{Claim, claim, chain_word}
use Rattle.model.specs.Addresses.{count_of_chains, split_barred}
use Rattle.model.specs.Outcome.{View, with_party, Outcome, guarded}
use Rattle.model.specs.LockRequests.{root_selective, chain_selective, request, held_all, given_up, release}
use Rattle.model.specs.Endings.{finished, ended_with, old_pages_first}

-- The lock of the chain that is to split.
abbrev pub next_selective : Root → Claim
next_selective r = claim (chain_word r.next) Selective

-- 15: request selective on root.
unfoldable pub step15 : View → Outcome
step15 v = request v root_selective (at_step 16 v.party)

-- The record once chain next is granted: the chain that splits and, as other chain, the new one.
unfoldable pub splitting : Root → Party → Party
splitting r p = at_step 17 (with_chain r.next (with_other (count_of_chains r) p))

-- 16: if n = P give up root, done, split skipped; else request selective on chain next.
unfoldable pub step16 : View → Outcome
step16 v =
    cond (split_barred (count_of_chains v.root) v.root.primaries)
    (ended_with v (root_selective ∷ []) Restructuring.SplitSkipped)
    (request v (next_selective v.root) (splitting v.root v.party))

-- 19: give up the chain.
unfoldable pub step19 : View → Outcome
step19 v = release v (chain_selective v.party ∷ []) (at_step 20 v.party)

-- 22: give up root, owed becomes 3; then 13 and 14 on the old chain if it has old pages, else done.
unfoldable pub step22 : View → Outcome
step22 v =
    let cs = root_selective ∷ [] in
    let v₁ = with_party (with_owed split_made v.party) (given_up cs v) in
    guarded v (held_all v cs) (old_pages_first v₁ (finished v₁))
