-- Demands 2 and 3 as statements about every list of calls from memory that passes take-up, as formatted memory does.
-- Main definitions: Start (where a run may start), with its map and its book; Reached and book_reached (a memory that
-- only the index has changed, and the book beside it); ScheduleRight (demand 3), SizesStay; GrantsRight, RunSingly and
-- ListSingly (demand 2). The theorems that they hold are in proofs/; that formatted memory is a Start with the empty
-- map and the yardstick's first file: proofs/TakenUp.antt.
use Rattle.std.specs.Prelude.{◌≡◌, true, false, List, [], ◌++◌, ℕ}
use Rattle.std.proofs.Math.Option.{Option}
use Rattle.model.specs.declared.Root.{Root}
use Rattle.model.specs.Sizes.{within_limits}
use Rattle.model.specs.Records.{root_of_sizes}
use Rattle.model.specs.Memory.{Memory}
use Rattle.model.specs.Refusals.{lengths_fit}
use Rattle.model.specs.TakeUp.{is_saved, records_saved, saved_book}
use Rattle.model.specs.Runs.{Call, events, final_memory}
use Rattle.model.specs.Entries.{setting_in}
use Rattle.model.specs.Book.{Value, Book, book_agrees, book_at_end}
use Rattle.theory.specs.Links.{clock_start, links_fresh}
use Rattle.model.specs.Progress.{under_way, progresses}
use Rattle.theory.specs.NoPage.{none_wrote, no_page_kept}
use Rattle.model.specs.Holds.{grants_right}
use Rattle.theory.specs.PlainMap.{PlainMap, answers_as_map, map_left_by}
use Rattle.theory.specs.Sequential.{File, Finished, performed_on, records_at, home_in, map_in, file_of, ChainsRead}
use Rattle.theory.specs.Singly.{Wanted, calls_alone, replies_of, replies_alone, done_by, calls_singly, replies_singly, AllFinished, performed_all, answers_as_maps}

-- Sizes N b P V Q within their limits.
pub record Sizes : Type 0 where
  pub originals : ℕ
  pub capacity : ℕ
  pub primaries : ℕ
  pub overflow : ℕ
  pub parties : ℕ
  pub fit : within_limits (root_of_sizes originals capacity primaries overflow parties) ≡ true

-- They as a root record, all else zero.
abbrev pub sizes_given : Sizes → Root
sizes_given z = root_of_sizes z.originals z.capacity z.primaries z.overflow z.parties

-- Memory that a run may start from: it passes take-up. Formatted memory does.
pub record Start : Type 0 where
  pub memory : Memory
  pub sizes_fit : within_limits memory.root ≡ true
  pub lengths_fit_ok : lengths_fit memory.root memory ≡ true
  pub saved : is_saved memory ≡ true

-- Its sizes as a root record, all else zero.
abbrev pub sizes_of : Start → Root
sizes_of s =
    root_of_sizes s.memory.root.originals s.memory.root.capacity s.memory.root.primaries s.memory.root.overflow s.memory.root.parties

-- The memory itself, its records as a map, and the book with that map and nobody under way.
abbrev pub start : Start → Memory
start s = s.memory

abbrev pub map_start : Start → PlainMap
map_start s = records_saved s.memory

abbrev pub book_start : Start → Book
book_start s = saved_book s.memory

-- The memory after a list of calls.
abbrev pub Reached : Start → List Call → Memory
Reached s cs = final_memory (start s) cs

-- The book beside it.
abbrev pub book_reached : Start → List Call → Book
book_reached s cs = book_at_end (book_start s) (events (start s) cs)

-- No call changes a size: the root record reached has the five of the start.
pub record SizesStay (s : Start) (cs : List Call) : Type 0 where
  pub originals : (Reached s cs).root.originals ≡ (sizes_of s).originals
  pub capacity : (Reached s cs).root.capacity ≡ (sizes_of s).capacity
  pub primaries : (Reached s cs).root.primaries ≡ (sizes_of s).primaries
  pub overflow : (Reached s cs).root.overflow ≡ (sizes_of s).overflow
  pub parties : (Reached s cs).root.parties ≡ (sizes_of s).parties

-- Demand 3 for one list: every answer is the book's, no stale link was followed, somebody can move, the sizes are those given, and an operation answered no page has written nothing.
pub record ScheduleRight (s : Start) (cs : List Call) : Type 0 where
  pub answers : book_agrees (book_start s) (events (start s) cs) ≡ true
  pub links : links_fresh clock_start (start s) cs ≡ true
  pub progress : progresses (sizes_of s).parties (book_reached s cs) (Reached s cs) ≡ true
  pub sizes : SizesStay s cs
  pub no_page : no_page_kept none_wrote (events (start s) cs) ≡ true

-- Demand 2, grants and refusals, for one list.
pub record GrantsRight (s : Start) (cs : List Call) : Type 0 where
  pub grants : grants_right (sizes_of s) (book_start s) [] [] (start s) cs ≡ true

-- Nobody is under way: every operation begun is answered.
abbrev pub AtRest : Book → Type 0
AtRest b = (q : ℕ) → under_way b q ≡ false

-- The file that the memory reached holds.
abbrev pub file_reached : Start → List Call → File
file_reached s cs = file_of (sizes_of s) (Reached s cs)

-- What the yardstick makes of an operation on it.
abbrev pub yardstick : Start → List Call → Wanted → Finished
yardstick s cs x = performed_on (sizes_of s) (file_reached s cs) x.operation x.key

-- What the chain at a key's address, its home, has of the key there.
abbrev pub at_home : Start → List Call → ℕ → Option Value
at_home s cs k = setting_in k (records_at (file_reached s cs) (home_in (sizes_of s) (file_reached s cs) k))

-- Demand 2, one operation run from begin to done alone, after a list of calls.
pub record RunSingly (s : Start) (cs : List Call) (x : Wanted) : Type 0 where
  -- How often it moves.
  pub moves : ℕ
  -- Its begin is accepted, it never waits, it ends, and it answers as the yardstick does.
  pub replies : replies_of (events (Reached s cs) (calls_alone x moves)) ≡ replies_alone moves (done_by (yardstick s cs x))
  -- It leaves the file that the yardstick leaves, and nobody under way.
  pub leaves : file_reached s (cs ++ calls_alone x moves) ≡ (yardstick s cs x).file
  pub rests : AtRest (book_reached s (cs ++ calls_alone x moves))
  -- Each chain reads as sound, before and after.
  pub reads : ChainsRead (sizes_of s) (Reached s cs)
  pub reads_after : ChainsRead (sizes_of s) (Reached s (cs ++ calls_alone x moves))
  -- Before and after, the map that the file holds is the book's.
  pub map : map_in (file_reached s cs) ≡ (book_reached s cs).contents
  pub map_after_ok : map_in (file_reached s (cs ++ calls_alone x moves)) ≡ (book_reached s (cs ++ calls_alone x moves)).contents
  -- Before and after, each key is at home: no other chain has anything of it.
  pub home : (k : ℕ) → setting_in k (map_in (file_reached s cs)) ≡ at_home s cs k
  pub home_after : (k : ℕ) → setting_in k (map_in (file_reached s (cs ++ calls_alone x moves))) ≡ at_home s (cs ++ calls_alone x moves) k
  -- It answers as a plain map does, and leaves the map that a plain map then is.
  pub as-map : answers_as_map (map_in (file_reached s cs)) x.operation x.key (yardstick s cs x).answer ≡ true
  pub leaves_map : map_in (file_reached s (cs ++ calls_alone x moves)) ≡ map_left_by (map_in (file_reached s cs)) x.operation x.key (yardstick s cs x).answer

-- What the yardstick makes of a list of operations, from the file that stands there at the start.
abbrev pub yardstick_all : Start → List Wanted → AllFinished
yardstick_all s xs = performed_all (sizes_of s) (file_reached s []) xs

-- Demand 2, a list of operations run singly, one after the other, from memory that passes take-up.
pub record ListSingly (s : Start) (xs : List Wanted) : Type 0 where
  -- How often each moves.
  pub moves : List ℕ
  -- All answers and restructurings, and the file at the end, are those of the yardstick run over the list; then nobody is under way.
  pub replies : replies_of (events (start s) (calls_singly xs moves)) ≡ replies_singly (yardstick_all s xs).answers moves
  pub leaves : file_reached s (calls_singly xs moves) ≡ (yardstick_all s xs).file
  pub rests : AtRest (book_reached s (calls_singly xs moves))
  -- All answers are those of a plain map, at first with the records of that file.
  pub as-map : answers_as_maps (map_start s) xs (yardstick_all s xs).answers ≡ true
