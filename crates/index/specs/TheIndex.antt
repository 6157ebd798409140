-- THE INDEX as its caller has it: `format`, `take_up`, `begin`, `step` and `withdraw` of src/lib.rt, called one after
-- the other on memory that nothing else changes. Read this file first.
-- What is said of one call is the equation of that function's contract. What is said of a run is the demands of
-- document 01, of the very events and memory that the functions made.
-- Main definitions: StartRight (what holds once a way into a run was taken), FormatRight (what format gives beside
-- it), IndexRight (what holds after every list of calls); Opened, Made and Ran, which they speak of, are those of
-- crates/theory/specs/Made.antt. The theorems are proofs/TheIndex.antt; what a caller reads off them,
-- proofs/ForCallers.antt.
use Rattle.std.specs.Prelude.{◌≡◌, true, List, [], ℕ, ◌<◌}
use Rattle.model.specs.declared.FileSizes.{FileSizes}
use Rattle.model.specs.Records.{root_sized}
use Rattle.model.specs.LockWords.{Claim}
use Rattle.model.specs.Memory.{Memory, formatted}
use Rattle.model.specs.Runs.{Call, Event, events}
use Rattle.model.specs.Book.{empty_book, book_agrees, book_at_end}
use Rattle.model.specs.Progress.{progresses}
use Rattle.model.specs.TakeUp.{records_saved, saved_book}
use Rattle.theory.specs.Singly.{Wanted, parties_fit}
use Rattle.theory.specs.Demands.{Sizes, sizes_given, Start, start, Reached, book_reached, ScheduleRight, GrantsRight, AtRest, RunSingly, ListSingly}
use Rattle.theory.specs.Sequential.{start_file, file_of}
use Rattle.theory.specs.Linearization.{Linearization}
use Rattle.theory.specs.Settings.{FoundsRight}
use Rattle.theory.specs.Withdrawals.{Restored, WithdrawalsRight}
use Rattle.theory.specs.FittingMerges.{nothing_had, merges_fit}
use Rattle.theory.specs.CallsBounded.{CallsRight}
use Rattle.theory.specs.Overtaking.{NobodyOvertaken, SameWant, PassedOnce, RowIsLedger, WaitsAgain, RestsClear}
use Rattle.theory.specs.TakenUp.{always_taken}
-- ---- Calls of the functions

-- A call, a way into a run, a list of calls with looks among them, and what looks are to answer.
pub use Rattle.theory.specs.Made.{Formatted, Looked, Opened, by_format, by-take_up, Made, begun, stepped, withdrew, happened, Ran, ended, next, looked}
unfoldable pub use Rattle.theory.specs.Made.{looks_made, looks_right}

-- ---- What holds of them

-- Once a way in was taken: the run starts from memory that passes take-up.
pub record StartRight (m : Memory) : Type 0 where
  pub begins : Start
  pub starts : m ≡ start begins
  -- Demand 2: operations run singly, one after the other, answer and leave what the yardstick does.
  pub lists : (xs : List Wanted) → parties_fit m.root.parties xs ≡ true → ListSingly begins xs

-- Once format with the sizes z has left m.
pub record FormatRight (z : FileSizes) (m : Memory) : Type 0 where
  -- The sizes are within their limits, and the memory is the one that document 01 says.
  pub sizes : Sizes
  pub given : sizes_given sizes ≡ root_sized z
  pub starts : m ≡ formatted (sizes_given sizes)
  -- It has no records and nobody is under way: a run from it starts beside the empty book. Its file is the yardstick's
  -- first.
  pub no_records : records_saved m ≡ []
  pub book : saved_book m ≡ empty_book
  pub file : file_of (root_sized z) m ≡ start_file (root_sized z)

-- Once a list of calls, made from memory m₀ on, has made these events and left m.
pub record IndexRight (m₀ : Memory) (cs : List Call) (es : List Event) (m : Memory) (ran : Ran m₀ cs es m) : Type 0 where
  pub begins : Start
  pub starts : m₀ ≡ start begins
  -- The functions did what the definitions say; looks changed nothing.
  pub events_are : es ≡ events (start begins) cs
  pub memory_is : m ≡ Reached begins cs
  -- Demand 3: every answer that a step gave is the book's, and somebody under way can move. At first the book has the
  -- records of m₀, and nobody is under way.
  pub answers : book_agrees (saved_book m₀) es ≡ true
  pub progress : progresses m₀.root.parties (book_at_end (saved_book m₀) es) m ≡ true
  -- Demand 3 whole: answers, links, progress, sizes, no page.
  pub schedule : ScheduleRight begins cs
  -- Demand 2: grants and refusals; and, where nobody is under way, an operation run alone.
  pub grants : GrantsRight begins cs
  pub singly : AtRest (book_reached begins cs) → (x : Wanted) → x.party < m₀.root.parties → RunSingly begins cs x
  -- An order of the operations, each at one call between its begin and its answer, in which a plain map gives every
  -- answer.
  pub linearization : Linearization begins cs
  -- Change 1: each found answers the setting of the last insert that added its key and was not deleted since, in that
  -- order; or the one that m₀ had.
  pub founds : FoundsRight begins cs linearization
  -- Change 2: neither a withdrawn operation nor its withdraw alters the map; and where an operation is begun, steps
  -- alone and is withdrawn, all lent memory is what it was before its begin.
  pub withdrawals : WithdrawalsRight begins cs
  pub restores : (x : Wanted) (n : ℕ) → Restored begins cs x n
  -- Change 4: a merge goes ahead exactly where the joined records fit the primary page, takes no page, gives back
  -- what both chains had, and leaves a chain of one page.
  pub merges : merges_fit nothing_had (start begins) cs ≡ true
  -- Change 6: a file is taken up exactly where nobody is under way, before every call and after the last; every look
  -- said so. Where nobody is under way its records are the book's map.
  pub taken : always_taken m₀.root.parties (saved_book m₀) m₀ cs ≡ true
  pub looks : looks_right m₀.root.parties (saved_book m₀) ran ≡ true
  pub records : AtRest (book_at_end (saved_book m₀) es) → records_saved m ≡ (book_at_end (saved_book m₀) es).contents
  -- Change 7: who waits is overtaken by nobody that comes later, whatever calls ds follow; the lock that it wants
  -- stays the same; each other party passes it at most once; the waiting row is the ledger of waits, a second waiting
  -- call alters nothing, and where nobody is under way the row is zero.
  pub overtaken : (ds : List Call) (p q : ℕ) (c d : Claim) → NobodyOvertaken begins cs ds p q c d
  pub wanted : (ds : List Call) (p : ℕ) (c : Claim) → SameWant begins cs ds p c
  pub passed : (ds : List Call) (p : ℕ) (c : Claim) → PassedOnce begins cs ds p c
  pub row : RowIsLedger begins cs
  pub again : (p : ℕ) → WaitsAgain begins cs p
  pub clear : RestsClear begins cs
  -- Change 8: waiting ones set aside, a find takes at most 31 + V calls, an insert or a delete at most 45.
  pub calls : CallsRight begins cs
