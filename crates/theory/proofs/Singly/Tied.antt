-- The yardstick's own words mean what the words of the steps mean.
-- Main statements: needed_same (pages needed), count_same (n), home_same (the chain of a key), stay_same, go_same (the
-- halves), short_same (pages that are too few), split_same, merge_same; performed_same (every operation).
use mathlib.Core.Path.{◌≡◌, refl, sym}
use mathlib.Core.Bool.{Bool, true, false, cond, not}
use mathlib.Core.List.{List, [], ◌∷◌}
use Prim.Native.Nat.{ℕ, zero, suc, ◌+◌, ◌-◌, ◌*◌, ◌/◌, ◌%◌, ◌^◌}
use native.Mathlib.Omega.{arith}
use native.Mathlib.Nat.{add-div_right, div-eq_of_lt, div-zero, zero-div}
use lib.ListN.{length}
use lib.Dec.{eqb, ltb}
use Rattle.model.specs.declared.Root.{Root}
use Rattle.model.specs.declared.Operation.{Operation}
use Rattle.model.specs.declared.OperationAnswer.{OperationAnswer}
use Rattle.model.specs.declared.Entry.{Entry}
use Rattle.model.specs.Mixing.{mixed}
use Rattle.model.specs.Addresses.{span, hash_of, level_for, address_for, chain_count, split_next, split_level, merge_target, merge_partner, merge_level, split_barred, merge_barred}
use Rattle.model.specs.Entries.{key_of, entry_of, inserted_into, removed_from, staying, going}
use Rattle.model.specs.Filling.{overflow_needed, pages_for, fits_primary}
use Rattle.model.specs.Steps.Rebuild.{split_owed}
use Rattle.theory.specs.Sequential.{File, records_at, with_records, pages_needed, chains_at, hashed, chains_in, home_in, passing, pages_in_use, free_in, short_of, parted, split_file, last_in, target_in, rejoined, merge_file, find_in, added, insert_in, removed, delete_in, performed_on}
use Rattle.model.proofs.Theorems.Meanings.{emptied_owes}
use Rattle.theory.proofs.Singly.StepWords.{pages_in_use as step_use, free_in as step_free, short_of as step_short, home_in as step_home, chains_in as step_chains, parted as step_parted, split_file as step_split, rejoined as step_rejoined, merge_file as step_merge, find_in as step_find, added as step_added, insert_in as step_insert, removed as step_removed, delete_in as step_delete, performed_on as step_performed}

-- ---- Pages

-- ceil(m / b) − 1, none for m = 0, either way.
pub needed_same : (b : ℕ) (es : List Entry) → pages_needed b es ≡ pages_for b es
unfolding pages_needed pages_for overflow_needed
needed_same b es = sym (go b (length es))
  where
    go : (c m : ℕ) → (m + (c - 1)) / c - 1 ≡ (m - 1) / c
    go zero m = rw (div-zero (m + (0 - 1)), div-zero (m - 1)) refl
    go (suc c) zero = let e : (0 + (suc c - 1)) / suc c ≡ 0 = div-eq_of_lt (omega arith) in rw (e, zero-div (suc c)) refl
    go (suc c) (suc x) =
        let e : suc x + (suc c - 1) ≡ x + suc c = omega arith in
        let d : (x + suc c) / suc c ≡ x / suc c + 1 = add-div_right x (omega arith) in
        let f : suc x - 1 ≡ x = omega arith in
        rw (e, d, f) (omega arith)

pub use_same : (b : ℕ) (cs : List (List Entry)) → pages_in_use b cs ≡ step_use b cs
unfolding pages_in_use step_use
use_same b [] = refl
use_same b (es ∷ rest) = rw (needed_same b es, use_same b rest) refl

pub short_same : (r : Root) (f : File) (k : ℕ) → short_of r f k ≡ step_short r f k
unfolding short_of free_in step_short step_free
short_same r f k = rw (use_same r.capacity f.chains) refl

-- ---- Chains

pub count_same : (r : Root) (f : File) → chains_in r f ≡ step_chains r f
unfolding chains_in chains_at step_chains chain_count span
count_same r f = refl

pub home_same : (r : Root) (f : File) (k : ℕ) → home_in r f k ≡ step_home r f k
unfolding home_in hashed chains_at step_home address_for level_for hash_of span
home_same r f k = go (ltb (mixed k % (r.originals * 2 ^ f.level)) f.next)
  where
    go : (t : Bool) → cond t (mixed k % (r.originals * 2 ^ (f.level + 1))) (mixed k % (r.originals * 2 ^ f.level)) ≡ mixed k % (r.originals * 2 ^ cond t (f.level + 1) f.level)
    go true = refl
    go false = refl

module _ (r : Root) (i c : ℕ) where
  -- Whether a key's h_i is chain c.
  abbrev stays : Entry → Bool
  stays e = eqb (hashed r i (key_of e)) c

  pub stay_same : (es : List Entry) → passing stays es ≡ staying r.originals i c es
  unfolding passing staying hashed chains_at hash_of span
  stay_same [] = refl
  stay_same (e ∷ es) = rw (stay_same es) refl

  pub go_same : (es : List Entry) → passing (λ e. not (stays e)) es ≡ going r.originals i c es
  unfolding passing going hashed chains_at hash_of span
  go_same [] = refl
  go_same (e ∷ es) = rw (go_same es) (turn (eqb (mixed (key_of e) % (r.originals * 2 ^ i)) c))
    where
      turn : (t : Bool) → cond (not t) (e ∷ going r.originals i c es) (going r.originals i c es) ≡ cond t (going r.originals i c es) (e ∷ going r.originals i c es)
      turn true = refl
      turn false = refl

-- ---- Split and merge

pub split_same : (r : Root) (f : File) (a : OperationAnswer) → split_file r f a ≡ step_split r f a
unfolding split_file step_split split_barred parted step_parted split_next split_level chains_in step_chains chain_count chains_at span
split_same r f a =
    let es = records_at f f.next in
    let stay = staying r.originals (f.level + 1) f.next es in
    let go = going r.originals (f.level + 1) f.next es in
    rw (
      stay_same r (f.level + 1) f.next es,
      go_same r (f.level + 1) f.next es,
      needed_same r.capacity stay,
      needed_same r.capacity go,
      short_same r f (pages_for r.capacity stay + pages_for r.capacity go),
    ) refl

pub merge_same : (r : Root) (f : File) (a : OperationAnswer) → merge_file r f a ≡ step_merge r f a
unfolding merge_file step_merge merge_barred fits_primary rejoined step_rejoined target_in last_in merge_target merge_partner merge_level chains_in step_chains chain_count chains_at span
merge_same r f a = refl

-- ---- The operations

module _ (r : Root) (f : File) (k : ℕ) where
  find_same : find_in r f k ≡ step_find r f k
  unfolding find_in step_find
  find_same = rw (home_same r f k) refl

  insert_same : (x : ℕ) → insert_in r f k x ≡ step_insert r f k x
  unfolding insert_in step_insert added step_added split_owed
  insert_same x =
      let c = step_home r f k in
      let es = records_at f c in
      let new = inserted_into (entry_of k x) es in
      rw (
        home_same r f k,
        needed_same r.capacity es,
        needed_same r.capacity new,
        short_same r f (pages_for r.capacity new),
        split_same r (with_records f c new) OperationAnswer.Inserted,
      ) refl

  delete_same : delete_in r f k ≡ step_delete r f k
  unfolding delete_in step_delete removed step_removed
  delete_same =
      let c = step_home r f k in
      let new = removed_from k (records_at f c) in
      rw (
        home_same r f k,
        needed_same r.capacity new,
        short_same r f (pages_for r.capacity new),
        merge_same r (with_records f c new) OperationAnswer.Deleted,
        sym (emptied_owes new),
      ) refl

  pub performed_same : (o : Operation) → performed_on r f o k ≡ step_performed r f o k
  unfolding performed_on step_performed
  performed_same Operation.Find = find_same
  performed_same (Operation.Insert x) = insert_same x
  performed_same Operation.Delete = delete_same
