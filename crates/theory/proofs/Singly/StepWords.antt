-- The yardstick in the words of the steps: specs/Sequential.antt with the definitions of the model in the place of its
-- own. The runs of the steps are held against this one, and Tied has that the two are the same.
-- Main definitions: those of specs/Sequential.antt, of the same names.
use mathlib.Core.Bool.{Bool, cond, not, ◌||◌}
use mathlib.Core.List.{List, [], ◌∷◌, ◌++◌}
use Prim.Native.Nat.{ℕ, ◌+◌, ◌-◌}
use lib.ListN.{set, take}
use lib.Dec.{ltb}
use Rattle.model.specs.declared.Root.{Root}
use Rattle.model.specs.declared.Operation.{Operation}
use Rattle.model.specs.declared.OperationAnswer.{OperationAnswer}
use Rattle.model.specs.declared.Restructuring.TheVariants as Restructuring
use Rattle.model.specs.Addresses.{address_of, chain_count, split_next, split_level, merge_target, merge_partner, merge_level, split_barred, merge_barred}
use Rattle.model.specs.Answers.{found_or_absent}
use Rattle.model.specs.declared.Entry.{Entry}
use Rattle.model.specs.Entries.{entry_of, has_key, setting_in, inserted_into, removed_from, joined, staying, going}
use Rattle.model.specs.Filling.{pages_for, fits_primary}
use Rattle.model.specs.Steps.Rebuild.{split_owed, merge_owed}
use Rattle.theory.specs.Sequential.{File, Finished, finishes, records_at, with_records}

-- The overflow pages that all chains take, and those that are free.
unfoldable pub pages_in_use : ℕ → List (List Entry) → ℕ
pages_in_use b [] = 0
pages_in_use b (es ∷ rest) = pages_for b es + pages_in_use b rest

unfoldable pub free_in : Root → File → ℕ
free_in r f = r.overflow - pages_in_use r.capacity f.chains

-- Whether fewer pages are free than these records need: a chain is rebuilt in free pages before its old ones are free.
unfoldable pub short_of : Root → File → ℕ → Bool
short_of r f k = ltb (free_in r f) k

-- The chain of a key.
unfoldable pub home_in : Root → File → ℕ → ℕ
home_in r f k = address_of r.originals f.level f.next k

unfoldable pub chains_in : Root → File → ℕ
chains_in r f = chain_count r.originals f.level f.next

-- ---- Split and merge

-- Chain next parted in two, the new chain at the end; level and next advanced.
unfoldable pub parted : Root → File → List Entry → List Entry → File
parted r f stay go =
    let next = split_next r.originals f.level f.next in
    record { level = split_level f.level next; next = next; chains = set f.chains f.next stay ++ (go ∷ []) }

unfoldable pub split_file : Root → File → OperationAnswer → Finished
split_file r f a =
    let es = records_at f f.next in
    let stay = staying r.originals (f.level + 1) f.next es in
    let go = going r.originals (f.level + 1) f.next es in
    let k = pages_for r.capacity stay + pages_for r.capacity go in
    cond (split_barred (chains_in r f) r.primaries || short_of r f k) (finishes a Restructuring.SplitSkipped f) (finishes a Restructuring.Split (parted r f stay go))

-- The last chain joined to its target; level and next taken back.
unfoldable pub rejoined : Root → File → ℕ → List Entry → File
rejoined r f target es = record {
  level = merge_level f.level f.next;
  next = target;
  chains = take (merge_partner r.originals f.level f.next) (set f.chains target es);
}

-- "A merge now goes ahead only if the joined records fit the primary page" (document 02, change 4).
unfoldable pub merge_file : Root → File → OperationAnswer → Finished
merge_file r f a =
    let target = merge_target r.originals f.level f.next in
    let es = joined (records_at f target) (records_at f (merge_partner r.originals f.level f.next)) in
    cond (merge_barred (chains_in r f) r.originals || not (fits_primary r.capacity es))
    (finishes a Restructuring.MergeSkipped f)
    (finishes a Restructuring.Merged (rejoined r f target es))

-- ---- The operations

unfoldable pub find_in : Root → File → ℕ → Finished
find_in r f k = finishes (found_or_absent (setting_in k (records_at f (home_in r f k)))) Restructuring.None f

-- A record more in chain c, where pages are enough; a split where the chain takes more overflow pages than before.
unfoldable pub added : Root → File → ℕ → List Entry → List Entry → Finished
added r f c es new =
    let g = with_records f c new in
    let rest = cond (split_owed (pages_for r.capacity es) (pages_for r.capacity new)) (split_file r g OperationAnswer.Inserted) (finishes OperationAnswer.Inserted Restructuring.None g) in
    cond (short_of r f (pages_for r.capacity new)) (finishes OperationAnswer.NoPage Restructuring.None f) rest

-- An insert of key k with setting x; a key that is present keeps its setting.
unfoldable pub insert_in : Root → File → ℕ → ℕ → Finished
insert_in r f k x =
    let c = home_in r f k in
    let es = records_at f c in
    cond (has_key k es) (finishes OperationAnswer.Present Restructuring.None f) (added r f c es (inserted_into (entry_of k x) es))

-- A record less in chain c, where pages are enough; a merge where the chain is emptied.
unfoldable pub removed : Root → File → ℕ → List Entry → Finished
removed r f c new =
    let g = with_records f c new in
    let rest = cond (merge_owed new) (merge_file r g OperationAnswer.Deleted) (finishes OperationAnswer.Deleted Restructuring.None g) in
    cond (short_of r f (pages_for r.capacity new)) (finishes OperationAnswer.NoPage Restructuring.None f) rest

unfoldable pub delete_in : Root → File → ℕ → Finished
delete_in r f k =
    let c = home_in r f k in
    let es = records_at f c in
    cond (has_key k es) (removed r f c (removed_from k es)) (finishes OperationAnswer.Absent Restructuring.None f)

unfoldable pub performed_on : Root → File → Operation → ℕ → Finished
performed_on r f Operation.Find k = find_in r f k
performed_on r f (Operation.Insert x) k = insert_in r f k x
performed_on r f Operation.Delete k = delete_in r f k
