-- THE DEMANDS as theorems, for all sizes within their limits, over every list of calls from formatted memory, with no other hypothesis. The statements are specs/Demands.antt.
-- Main statements: schedule_right (demand 3: answers_right, links_right, progress_right, sizes_right, no_page_right_lem); granted_right, singly_right and lists_right (demand 2).
use mathlib.Core.Path.{◌≡◌}
use mathlib.Core.Bool.{true}
use mathlib.Core.List.{List}
use Prim.Native.Nat.{◌<◌}
use Rattle.model.specs.Runs.{Call, events}
use Rattle.model.specs.Book.{book_agrees}
use Rattle.theory.specs.Links.{clock_start, links_fresh}
use Rattle.model.specs.Progress.{progresses}
use Rattle.theory.specs.NoPage.{none_wrote, no_page_kept}
use Rattle.theory.specs.Singly.{Wanted, parties_fit}
use Rattle.theory.specs.Demands.{Start, start, Reached, book_reached, SizesStay, ScheduleRight, GrantsRight, AtRest, RunSingly, ListSingly, book_start, sizes_of}
use Rattle.model.proofs.Theorems.Calls.{run_answers}
use Rattle.model.proofs.Theorems.AllSteps.{steps_kept}
use Rattle.theory.proofs.Reached.{started_inv}
use Rattle.theory.proofs.SizesStay.{sizes_stay}
use Rattle.theory.proofs.LinkRule.{links_fresh_lem}
use Rattle.theory.proofs.NoDeadlock.{no_deadlock}
use Rattle.theory.proofs.Grants.{grants_right_lem}
use Rattle.theory.proofs.NoPage.{no_page_kept_lem}
use Rattle.theory.proofs.Singly.Run.{run_singly, list_singly}

-- ---- Demand 3

-- Every answer of every list of calls is the one that the book gives.
pub answers_right : (s : Start) (cs : List Call) → book_agrees (book_start s) (events (start s) cs) ≡ true
answers_right s cs = run_answers steps_kept (start s) (book_start s) (started_inv s) cs

-- No step of a list followed a chain's link to an overflow page given back since that link was read.
pub links_right : (s : Start) (cs : List Call) → links_fresh clock_start (start s) cs ≡ true
links_right s cs = links_fresh_lem steps_kept s cs

-- After every list of calls, if operations were begun and not yet answered, at least one of them would answer moved or done if its step came next.
pub progress_right : (s : Start) (cs : List Call) → progresses (sizes_of s).parties (book_reached s cs) (Reached s cs) ≡ true
progress_right s cs = no_deadlock steps_kept s cs

-- No call changes a size.
pub sizes_right : (s : Start) (cs : List Call) → SizesStay s cs
sizes_right s cs = sizes_stay s cs

-- An operation answered no page has performed no step 11 since its begin.
pub no_page_right_lem : (s : Start) (cs : List Call) → no_page_kept none_wrote (events (start s) cs) ≡ true
no_page_right_lem s cs = no_page_kept_lem steps_kept s cs

-- The whole of it, of one list.
pub schedule_right : (s : Start) (cs : List Call) → ScheduleRight s cs
schedule_right s cs = record {
  answers = answers_right s cs;
  links = links_right s cs;
  progress = progress_right s cs;
  sizes = sizes_right s cs;
  no_page = no_page_right_lem s cs;
}

-- ---- Demand 2

-- Over every list of calls a requesting step is granted exactly where Table I permits it against the locks held by the calls made, else it waits; no step of an operation under way is refused, and
-- every other call is refused, with its number, or accepted as the table of refusals says.
pub granted_right : (s : Start) (cs : List Call) → GrantsRight s cs
granted_right s cs = grants_right_lem steps_kept s cs

-- After every list of calls that leaves nobody under way, an operation run alone never waits, ends, answers as the yardstick and as a plain map do and leaves the file and the map that they leave.
pub singly_right : (s : Start) (cs : List Call) → AtRest (book_reached s cs) → (x : Wanted) → x.party < (sizes_of s).parties → RunSingly s cs x
singly_right s cs rest x fits = run_singly s cs rest x fits

-- Operations run singly, one after the other, from formatted memory: all their answers and the file at the end are those of the yardstick run over the list, from the file that format leaves.
pub lists_right : (s : Start) (xs : List Wanted) → parties_fit (sizes_of s).parties xs ≡ true → ListSingly s xs
lists_right s xs fit = list_singly s xs fit
