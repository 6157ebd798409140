-- Addresses of linear hashing, the number of chains, and how a split and a merge move level and next (document 01, "Addresses and locks" and the steps).
-- Main definitions: hash_of (h_i) and address_for, of a mixed key; hash and address_of, of a key; chain_count (n); split_next, split_level; merge_target, merge_partner, merge_level; split_barred, merge_barred.
use Rattle.std.specs.Prelude.{Bool, cond, ℕ, ◌+◌, ◌-◌, ◌*◌, ◌%◌, ◌^◌, eqb, ltb}
use Rattle.model.specs.declared.Root.{Root}
use Rattle.model.specs.Mixing.{mixed}

-- N × 2^i: how many chains h_i tells apart.
unfoldable pub span : ℕ → ℕ → ℕ
span n i = n * 2 ^ i

-- "h_i(k) is k mod (2^i × N)", N being the first argument, of a mixed key.
unfoldable pub hash_of : ℕ → ℕ → ℕ → ℕ
hash_of n i m = m % span n i

-- "the address is h_level(k), or h_(level+1)(k) if the former is below next", of a mixed key: the level whose hash is the address, and the address.
unfoldable pub level_for : ℕ → ℕ → ℕ → ℕ → ℕ
level_for n level next m = cond (ltb (hash_of n level m) next) (level + 1) level

unfoldable pub address_for : ℕ → ℕ → ℕ → ℕ → ℕ
address_for n level next m = hash_of n (level_for n level next m) m

-- "Addresses are now taken of a mixed key" (document 02, change 3): the same three of a key.
abbrev pub hash : ℕ → ℕ → ℕ → ℕ
hash n i k = hash_of n i (mixed k)

abbrev pub address_level : ℕ → ℕ → ℕ → ℕ → ℕ
address_level n level next k = level_for n level next (mixed k)

abbrev pub address_of : ℕ → ℕ → ℕ → ℕ → ℕ
address_of n level next k = address_for n level next (mixed k)

-- "n is N × 2^level + next, the number of chains outside a restructuring."
unfoldable pub chain_count : ℕ → ℕ → ℕ → ℕ
chain_count n level next = span n level + next

-- n of a root record.
abbrev pub count_of_chains : Root → ℕ
count_of_chains r = chain_count r.originals r.level r.next

-- Steps 20 and 21: next after a split, and level once next is that.
unfoldable pub split_next : ℕ → ℕ → ℕ → ℕ
split_next n level next = (next + 1) % span n level

unfoldable pub split_level : ℕ → ℕ → ℕ
split_level level next = cond (eqb next 0) (level + 1) level

-- "The partner is chain n − 1; the target is next − 1, or N × 2^(level−1) − 1 if next is 0" (step 24).
unfoldable pub merge_partner : ℕ → ℕ → ℕ → ℕ
merge_partner n level next = chain_count n level next - 1

unfoldable pub merge_target : ℕ → ℕ → ℕ → ℕ
merge_target n level next = cond (eqb next 0) (span n (level - 1) - 1) (next - 1)

-- "if next was 0, lower level" (step 27).
unfoldable pub merge_level : ℕ → ℕ → ℕ
merge_level level next = cond (eqb next 0) (level - 1) level

-- Where a split or a merge is barred: "if n = P" (step 16), "if n = N" (step 24). The first argument is n.
unfoldable pub split_barred : ℕ → ℕ → Bool
split_barred count chains = eqb count chains

unfoldable pub merge_barred : ℕ → ℕ → Bool
merge_barred count originals = eqb count originals
