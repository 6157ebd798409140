-- The sequential yardstick (demand 2): linear hashing with uncontrolled splits over lists of records, one operation at
-- a time. A file is level, next and the records of each chain. Pages are only counted: a chain takes the overflow pages
-- that its records need, the others are free, so that the stated shortages of pages and of chains are part of the
-- yardstick. It shares with the steps records, lists of them, the mixed key and the answers; the rest it says in its
-- own words.
-- Main definitions: File, free_in; Finished, find_in, insert_in, delete_in; split_file, merge_file; performed_on (one
-- operation); map_in (the map that a file holds), start_file (the file that format leaves), file_of (the file that a
-- memory holds), ChainsRead.
use Rattle.std.specs.Prelude.{◌≡◌, Bool, cond, not, ◌||◌, List, [], ◌∷◌, ◌++◌, ℕ, ◌+◌, ◌-◌, ◌*◌, ◌/◌, ◌%◌, ◌^◌, ◌<◌, length, get_or, set, take, replicate, eqb, ltb, leb}
use Rattle.model.specs.declared.Root.{Root}
use Rattle.model.specs.declared.Operation.{Operation}
use Rattle.model.specs.declared.OperationAnswer.{OperationAnswer}
use Rattle.model.specs.declared.Restructuring.{Restructuring}
use Rattle.model.specs.Mixing.{mixed}
use Rattle.model.specs.Answers.{found_or_absent}
use Rattle.model.specs.declared.Entry.{Entry}
use Rattle.model.specs.Entries.{key_of, entry_of, has_key, setting_in, inserted_into, removed_from, joined, joined_all}
use Rattle.model.specs.Chains.{sound, Chain, chain_of, chains_from}
use Rattle.model.specs.Memory.{Memory}
use Rattle.model.specs.GivenSizes.{sized_root}
use Rattle.theory.specs.PlainMap.{PlainMap}

-- Level, next and the records of each chain. The sizes are those of a root record.
pub record File : Type 0 where
  pub level : ℕ
  pub next : ℕ
  pub chains : List (List Entry)

-- What an operation answers, the restructuring it made, and the file then.
pub record Finished : Type 0 where
  pub answer : OperationAnswer
  pub restructuring : Restructuring
  pub file : File

abbrev pub finishes : OperationAnswer → Restructuring → File → Finished
finishes a s f = record { answer = a; restructuring = s; file = f }

-- ---- Its own words, as document 01 has them

-- "m keys need ceil(m/b) − 1 overflow pages, none for m = 0": as often as b goes into m − 1.
unfoldable pub pages_needed : ℕ → List Entry → ℕ
pages_needed b es = (length es - 1) / b

-- N × 2^i, and "h_i(k) is k mod (2^i × N)", of the mixed key.
unfoldable pub chains_at : Root → ℕ → ℕ
chains_at r i = r.originals * 2 ^ i

unfoldable pub hashed : Root → ℕ → ℕ → ℕ
hashed r i k = mixed k % chains_at r i

-- "n is N × 2^level + next".
unfoldable pub chains_in : Root → File → ℕ
chains_in r f = chains_at r f.level + f.next

-- "the address is h_level(k), or h_(level+1)(k) if the former is below next".
unfoldable pub home_in : Root → File → ℕ → ℕ
home_in r f k =
    let first = hashed r f.level k in
    cond (ltb first f.next) (hashed r (f.level + 1) k) first

unfoldable pub records_at : File → ℕ → List Entry
records_at f c = get_or f.chains c []

unfoldable pub with_records : File → ℕ → List Entry → File
with_records f c es = record { level = f.level; next = f.next; chains = set f.chains c es }

-- The records that pass a test, in their order.
unfoldable pub passing : (Entry → Bool) → List Entry → List Entry
passing test [] = []
passing test (e ∷ es) = cond (test e) (e ∷ passing test es) (passing test es)

-- ---- Pages

-- The overflow pages that all chains take, and those that are free.
unfoldable pub pages_in_use : ℕ → List (List Entry) → ℕ
pages_in_use b [] = 0
pages_in_use b (es ∷ rest) = pages_needed b es + pages_in_use b rest

unfoldable pub free_in : Root → File → ℕ
free_in r f = r.overflow - pages_in_use r.capacity f.chains

-- Whether fewer pages are free than these records need: a chain is rebuilt in free pages before its old ones are free.
unfoldable pub short_of : Root → File → ℕ → Bool
short_of r f k = ltb (free_in r f) k

-- ---- Split and merge

-- Chain next parted in two, the new chain at the end: "next = (next + 1) mod (N × 2^level)", and level + 1 where it is
-- then 0.
unfoldable pub parted : Root → File → List Entry → List Entry → File
parted r f stay go =
    let next = (f.next + 1) % chains_at r f.level in
    record { level = cond (eqb next 0) (f.level + 1) f.level; next = next; chains = set f.chains f.next stay ++ (go ∷ []) }

-- The halves: "keys whose h_(level+1) is the chain stay, the rest go". None where n = P, or where pages are too few for
-- both.
unfoldable pub split_file : Root → File → OperationAnswer → Finished
split_file r f a =
    let es = records_at f f.next in
    let stays : Entry → Bool = λ e. eqb (hashed r (f.level + 1) (key_of e)) f.next in
    let stay = passing stays es in
    let go = passing (λ e. not (stays e)) es in
    let k = pages_needed r.capacity stay + pages_needed r.capacity go in
    cond (eqb (chains_in r f) r.primaries || short_of r f k) (finishes a Restructuring.SplitSkipped f) (finishes a Restructuring.Split (parted r f stay go))

-- "The partner is chain n − 1; the target is next − 1, or N × 2^(level−1) − 1 if next is 0".
unfoldable pub last_in : Root → File → ℕ
last_in r f = chains_in r f - 1

unfoldable pub target_in : Root → File → ℕ
target_in r f = cond (eqb f.next 0) (chains_at r (f.level - 1) - 1) (f.next - 1)

-- The last chain joined to its target; level and next taken back.
unfoldable pub rejoined : Root → File → List Entry → File
rejoined r f es = record {
  level = cond (eqb f.next 0) (f.level - 1) f.level;
  next = target_in r f;
  chains = take (last_in r f) (set f.chains (target_in r f) es);
}

-- "A merge now goes ahead only if the joined records fit the primary page" (document 02, change 4): they are b at most.
-- None where n = N.
unfoldable pub merge_file : Root → File → OperationAnswer → Finished
merge_file r f a =
    let es = joined (records_at f (target_in r f)) (records_at f (last_in r f)) in
    cond (eqb (chains_in r f) r.originals || not (leb (length es) r.capacity))
    (finishes a Restructuring.MergeSkipped f)
    (finishes a Restructuring.Merged (rejoined r f es))

-- ---- The operations

unfoldable pub find_in : Root → File → ℕ → Finished
find_in r f k = finishes (found_or_absent (setting_in k (records_at f (home_in r f k)))) Restructuring.None f

-- A record more in chain c, where pages are enough; a split where the chain takes more overflow pages than before.
unfoldable pub added : Root → File → ℕ → List Entry → List Entry → Finished
added r f c es new =
    let g = with_records f c new in
    let rest = cond (ltb (pages_needed r.capacity es) (pages_needed r.capacity new)) (split_file r g OperationAnswer.Inserted) (finishes OperationAnswer.Inserted Restructuring.None g) in
    cond (short_of r f (pages_needed r.capacity new)) (finishes OperationAnswer.NoPage Restructuring.None f) rest

-- An insert of key k with setting x; a key that is present keeps its setting.
unfoldable pub insert_in : Root → File → ℕ → ℕ → Finished
insert_in r f k x =
    let c = home_in r f k in
    let es = records_at f c in
    cond (has_key k es) (finishes OperationAnswer.Present Restructuring.None f) (added r f c es (inserted_into (entry_of k x) es))

-- A record less in chain c, where pages are enough; a merge where no record is left in it.
unfoldable pub removed : Root → File → ℕ → List Entry → Finished
removed r f c new =
    let g = with_records f c new in
    let rest = cond (eqb (length new) 0) (merge_file r g OperationAnswer.Deleted) (finishes OperationAnswer.Deleted Restructuring.None g) in
    cond (short_of r f (pages_needed r.capacity new)) (finishes OperationAnswer.NoPage Restructuring.None f) rest

unfoldable pub delete_in : Root → File → ℕ → Finished
delete_in r f k =
    let c = home_in r f k in
    let es = records_at f c in
    cond (has_key k es) (removed r f c (removed_from k es)) (finishes OperationAnswer.Absent Restructuring.None f)

unfoldable pub performed_on : Root → File → Operation → ℕ → Finished
performed_on r f Operation.Find k = find_in r f k
performed_on r f (Operation.Insert x) k = insert_in r f k x
performed_on r f Operation.Delete k = delete_in r f k

-- ---- The map that a file holds, and the file that format leaves

-- The records of its chains, joined in the order of their keys.
unfoldable pub map_in : File → PlainMap
map_in f = joined_all f.chains

-- Level 0, next 0 and N empty chains.
unfoldable pub start_file : Root → File
start_file r = record { level = 0; next = 0; chains = replicate r.originals [] }

-- ---- The file that a memory holds, read with the sizes of z

unfoldable pub file_of : Root → Memory → File
file_of z m =
    let r = sized_root z m.root in
    record { level = r.level; next = r.next; chains = chains_from r m.pages (chains_at r r.level + r.next) 0 }

-- Each of its chains reads as sound: one that did not would count as empty.
pub record ChainsRead (z : Root) (m : Memory) : Type 0 where
  pub chain : ℕ → Chain
  pub reads : (c : ℕ) → c < chains_in z (file_of z m) → chain_of (sized_root z m.root) m.pages c ≡ sound (chain c)
