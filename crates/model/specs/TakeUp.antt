-- Take-up (document 02, change 6): "Take-up tests a saved file."
-- Main definitions: the conditions by name, each a test over the memory: parties_rest, locks_clear, scratch_clear,
-- root_sound, chains_saved, beyond_clear, free_saved, pages_once, row_clear; is_saved (all of them), take_up_rows and
-- take_up_call; records_saved (the records of a file, keys ascending) and saved_book (the book at the start).
use Rattle.std.specs.Prelude.{Bool, true, false, cond, not, ◌&&◌, ◌||◌, List, [], ◌∷◌, ◌++◌, ℕ, zero, suc, ◌+◌, ◌-◌, length, take, drop, eqb, ltb, leb}
use Rattle.std.proofs.Math.Option.{none}
use Rattle.model.specs.declared.Refusal.{Refusal}
use Rattle.model.specs.Answers.{CallReply}
use Rattle.model.specs.declared.Root.{Root}
use Rattle.model.specs.declared.Party.{Party}
use Rattle.model.specs.declared.Entry.{Entry}
use Rattle.model.specs.Addresses.{span, hash, count_of_chains}
use Rattle.model.specs.Entries.{key_of, joined_all, is_empty}
use Rattle.model.specs.Pages.{page_of, link_of, filled_page, free_page, zero_page, link_to_first, primary_page, scratch_page}
use Rattle.model.specs.Chains.{Checked, damaged, sound, Chain, chain_of, chains_from}
use Rattle.model.specs.Filling.{pages_for}
use Rattle.model.specs.FreeList.{Taken, pages_taken}
use Rattle.model.specs.Memory.{Memory}
use Rattle.model.specs.Refusals.{Row, row, first_cause, size_row, length_row, root_sound}
use Rattle.model.specs.Calls.{Called, called}
use Rattle.model.specs.PagePlaces.{count, free_list, chained_from}
use Rattle.model.specs.Book.{Book}
use Rattle.model.specs.WaitingRow.{all_zero}

-- ---- Words

-- Whether two rows of words are the same.
unfoldable pub same_words : List ℕ → List ℕ → Bool
same_words [] [] = true
same_words [] (y ∷ ys) = false
same_words (x ∷ xs) [] = false
same_words (x ∷ xs) (y ∷ ys) = eqb x y && same_words xs ys

-- Whether each of the n pages from page x on is zero.
unfoldable pub zero_pages : List ℕ → ℕ → ℕ → Bool
zero_pages ps zero x = true
zero_pages ps (suc n) x = same_words (page_of ps x) zero_page && zero_pages ps n (x + 1)

-- ---- "All party records, lock words and scratch pages are zero"

-- Whether a party's record is zero, every word of it.
unfoldable pub is_zero_record : Party → Bool
is_zero_record p =
    all_zero (p.operation ∷ p.key ∷ p.step ∷ p.lev ∷ p.chain ∷ p.other ∷ p.old ∷ p.owed ∷ p.answer ∷ p.setting ∷ [])

-- Whether every record of a row is.
unfoldable pub all_idle : List Party → Bool
all_idle [] = true
all_idle (p ∷ ps) = is_zero_record p && all_idle ps

-- The conditions: party records, then lock words, then the Q scratch pages.
unfoldable pub parties_rest : Memory → Bool
parties_rest m = all_idle m.parties

unfoldable pub locks_clear : Memory → Bool
locks_clear m = all_zero m.locks

unfoldable pub scratch_clear : Memory → Bool
scratch_clear m = zero_pages m.pages m.root.parties (scratch_page m.root 0)

-- ---- Chains

-- "The local levels are level+1 on the first next chains and on those from N × 2^level to n − 1, level on those
-- between."
unfoldable pub level_at : Root → ℕ → ℕ
level_at r c = cond (ltb c r.next || leb (span r.originals r.level) c) (r.level + 1) r.level

-- "Every record is in its chain": each key is hashed to chain c, by h_i over n original chains.
unfoldable pub all_home : ℕ → ℕ → ℕ → List Entry → Bool
all_home n i c [] = true
all_home n i c (e ∷ es) = eqb (hash n i (key_of e)) c && all_home n i c es

-- "pages are filled ... as document 01 says": the pages xs hold exactly these records, b a page, each linked to the
-- next. Word for word: unused words and word 15 are zero, and word 0 is the level given on the first page, 0 on the
-- others.
unfoldable pub packed : ℕ → List ℕ → ℕ → List ℕ → List Entry → Bool
packed b ps level [] es = is_empty es
packed b ps level (x ∷ xs) es = same_words (page_of ps x) (filled_page level (take b es) (link_to_first xs)) && packed b ps 0 xs (drop b es)

-- A chain that reads as sound, so with "keys strictly ascending": its records at home, its pages filled at its local
-- level, and no page more than they need.
unfoldable pub chain_fits : Root → List ℕ → ℕ → Chain → Bool
chain_fits r ps c d =
    all_home r.originals (level_at r c) c d.entries
    && packed r.capacity ps (level_at r c) (primary_page c ∷ d.pages) d.entries && eqb (length d.pages) (pages_for r.capacity d.entries)

-- A chain that does not read as sound fits nowhere.
unfoldable pub fits_if_sound : Root → List ℕ → ℕ → Checked Chain → Bool
fits_if_sound r ps c damaged = false
fits_if_sound r ps c (sound d) = chain_fits r ps c d

-- Each of the n chains from chain c on.
unfoldable pub chains_fit : Root → List ℕ → ℕ → ℕ → Bool
chains_fit r ps zero c = true
chains_fit r ps (suc n) c = fits_if_sound r ps c (chain_of r ps c) && chains_fit r ps n (c + 1)

-- All chains of the file.
unfoldable pub chains_saved : Memory → Bool
chains_saved m = chains_fit m.root m.pages (count_of_chains m.root) 0

-- "primary pages from n upward are zero".
unfoldable pub beyond_clear : Memory → Bool
beyond_clear m = zero_pages m.pages (m.root.primaries - count_of_chains m.root) (count_of_chains m.root)

-- ---- The free list, and every overflow page

-- "free pages zeroed": zero but for the link.
unfoldable pub all_free : List ℕ → List ℕ → Bool
all_free ps [] = true
all_free ps (x ∷ xs) = same_words (page_of ps x) (free_page (link_of (page_of ps x))) && all_free ps xs

-- "the free count is that of the list": as many pages as it says, and then the list ends.
unfoldable pub free_if_sound : List ℕ → Checked Taken → Bool
free_if_sound ps damaged = false
free_if_sound ps (sound t) = eqb t.head 0 && all_free ps t.pages

-- The free list of the file.
unfoldable pub free_saved : Memory → Bool
free_saved m = free_if_sound m.pages (pages_taken m.root m.pages m.root.free)

-- Whether each of the v numbers from x on is once in the list.
unfoldable pub each_once : List ℕ → ℕ → ℕ → Bool
each_once xs zero x = true
each_once xs (suc v) x = eqb (count x xs) 1 && each_once xs v (x + 1)

-- "each overflow page is once in the free list or once in a chain".
unfoldable pub pages_once : Memory → Bool
pages_once m = each_once (free_list m ++ chained_from m (count_of_chains m.root) 0) m.root.overflow m.root.primaries

-- "take-up wants it zero" (change 7): the waiting row.
unfoldable pub row_clear : Memory → Bool
row_clear m = all_zero m.waiting

-- ---- The whole test

-- Every condition of take-up.
unfoldable pub is_saved : Memory → Bool
is_saved m =
    parties_rest m && locks_clear m && scratch_clear m && root_sound m.root && chains_saved m && beyond_clear m && free_saved m && pages_once m && row_clear m

-- ---- The call

-- "8 when a condition fails, tested after 2 and 1, nothing altered": the row of a file that is saved or not.
abbrev pub unsaved_row : Bool → Row
unsaved_row saved = row (not saved) Refusal.Unsaved

-- Sizes, lengths, then the conditions.
unfoldable pub take_up_rows : Memory → List Row
take_up_rows m = size_row m.root ∷ (length_row m.root m ∷ (unsaved_row (is_saved m) ∷ []))

-- Taken up or refused, it leaves all lent memory.
unfoldable pub take_up_call : Memory → Called CallReply
take_up_call m = called (first_cause (take_up_rows m)) m

-- ---- The records

-- The records of all chains, joined in the order of their keys.
unfoldable pub records_saved : Memory → List Entry
records_saved m = joined_all (chains_from m.root m.pages (count_of_chains m.root) 0)

-- "its records being the map at the start": nobody is under way.
unfoldable pub open_book : List Entry → Book
open_book es = record { contents = es; entries = λ q. none }

-- The book of a file that was taken up.
abbrev pub saved_book : Memory → Book
saved_book m = open_book (records_saved m)
