-- THE INDEX is right: from any memory that `format` made or `take_up` took on, every list of calls of `begin`, `step`
-- and `withdraw`, by any parties in any order, with looks by `take_up` between them, meets the demands. The statements
-- are specs/TheIndex.antt; that every list of calls is run, from every memory and in one way only, is
-- crates/theory/proofs/Made.antt.
-- Main statements: format_accepts (memory of the lengths that the sizes ask for is formatted), format_right,
-- start_right, index_right; every_run (so of every list: it is run, and right).
use mathlib.Core.Path.{◌≡◌, refl, sym, ◌∙◌, ap, ap₂, subst}
use mathlib.Core.Bool.{true}
use mathlib.Core.List.{List}
use lib.ListN.{length}
use borrow.Author.Tests.{eq-eqb}
use Rattle.model.specs.declared.FileSizes.{FileSizes}
use Rattle.model.specs.Sizes.{lock_words, all_page_words}
use Rattle.model.specs.Records.{root_sized}
use Rattle.model.specs.Memory.{Memory, formatted}
use Rattle.model.specs.Refusals.{lengths_fit}
use Rattle.model.specs.Runs.{Call, Event, events, final_memory}
use Rattle.model.specs.Book.{book_agrees, book_at_end}
use Rattle.model.specs.Progress.{progresses}
use Rattle.model.specs.TakeUp.{records_saved, saved_book}
use Rattle.theory.specs.Demands.{Sizes, sizes_given, Start, start, Reached, AtRest}
use Rattle.theory.specs.Sequential.{file_of}
use Rattle.theory.specs.Singly.{parties_fit}
use Rattle.theory.proofs.Linearization.{linearizable}
use Rattle.theory.proofs.Settings.{founds_right}
use Rattle.theory.proofs.Withdrawals.{withdrawals_right}
use Rattle.theory.proofs.Restored.{restored}
use Rattle.theory.proofs.FittingMerges.{merges_right}
use Rattle.theory.proofs.Reached.{started_inv}
use Rattle.theory.proofs.Overtaking.{nobody_overtaken, same_want, passed_once, row-is_ledger, waits-again, rests_clear}
use Rattle.theory.proofs.CallsBounded.{calls_right}
use Rattle.theory.proofs.TakenUp.{taken_right, reached_records, formatted_empty, formatted_book, formatted-holds}
use Rattle.theory.proofs.Demands.{schedule_right, granted_right, singly_right, lists_right}
use Rattle.theory.proofs.Made.{ran, ran_events, ran_memory, format_starts, formatted_fits, sizes_fitting, opened_starts, looks_right_lem}
use Rattle.index.specs.TheIndex.{Formatted, Opened, Ran, StartRight, FormatRight, IndexRight}

-- ---- Format

-- Sizes within their limits, as format takes them.
abbrev file_sizes : Sizes → FileSizes
file_sizes s = record { originals = s.originals; capacity = s.capacity; primaries = s.primaries; overflow = s.overflow; parties = s.parties }

-- Memory of the lengths that the sizes ask for is formatted, whatever its words are.
pub format_accepts : (s : Sizes) (m : Memory) → length m.parties ≡ s.parties → length m.locks ≡ lock_words (sizes_given s) → length m.pages ≡ all_page_words (sizes_given s)
    → length m.waiting ≡ s.parties → Formatted m (file_sizes s) (formatted (sizes_given s))
unfolding lengths_fit
format_accepts s m parties locks pages waiting = format_starts m (file_sizes s) s.fit (rw (eq-eqb _ _ parties, eq-eqb _ _ locks, eq-eqb _ _ pages, eq-eqb _ _ waiting))

pub format_right : (m₀ : Memory) (z : FileSizes) (m : Memory) → Formatted m₀ z m → FormatRight z m
format_right m₀ z m is =
    let s = sizes_fitting m₀ z m is in
    let left : m ≡ formatted (root_sized z) = (formatted_fits m₀ z m is).2 in
    record {
      sizes = s;
      given = refl;
      starts = left;
      no_records = ap records_saved left ∙ formatted_empty s;
      book = ap saved_book left ∙ formatted_book s;
      file = ap (file_of (root_sized z)) left ∙ formatted-holds s;
    }

-- ---- The start of a run

pub start_right : {m : Memory} → Opened m → StartRight m
start_right {m} way =
    let f = opened_starts way in
    record {
      begins = f.begins;
      starts = f.starts;
      lists = λ xs fit. lists_right f.begins xs (subst (λ (x : Memory). parties_fit x.root.parties xs ≡ true) f.starts fit);
    }

-- ---- Lists of calls

from_start : (s : Start) (cs : List Call) (es : List Event) (m' : Memory) (run : Ran (start s) cs es m') → IndexRight (start s) cs es m' run
from_start s cs es m' run =
    let made : es ≡ events (start s) cs = ran_events run in
    let left : m' ≡ Reached s cs = ran_memory run in
    let right = schedule_right s cs in
    record {
      begins = s;
      starts = refl;
      events_are = made;
      memory_is = left;
      answers = subst (λ (xs : List Event). book_agrees (saved_book (start s)) xs ≡ true) (sym made) right.answers;
      progress = ap₂ (λ (xs : List Event) (x : Memory). progresses (start s).root.parties (book_at_end (saved_book (start s)) xs) x) made left ∙ right.progress;
      schedule = right;
      grants = granted_right s cs;
      singly = λ rest x fits. singly_right s cs rest x fits;
      linearization = linearizable s cs;
      founds = founds_right s cs (linearizable s cs);
      withdrawals = withdrawals_right s cs;
      restores = restored s cs;
      merges = merges_right s cs;
      taken = taken_right s cs;
      looks = looks_right_lem (start s).root.parties (saved_book (start s)) run refl (started_inv s);
      records = λ rest.
          ap records_saved left ∙ reached_records s cs (subst (λ (xs : List Event). AtRest (book_at_end (saved_book (start s)) xs)) made rest)
          ∙ ap (λ (xs : List Event). (book_at_end (saved_book (start s)) xs).contents) (sym made);
      overtaken = nobody_overtaken s cs;
      wanted = same_want s cs;
      passed = passed_once s cs;
      row = row-is_ledger s cs;
      again = waits-again s cs;
      clear = rests_clear s cs;
      calls = calls_right s cs;
    }

-- From whatever memory a way in led to.
pub index_right : {m : Memory} → Opened m → (cs : List Call) (es : List Event) (m' : Memory) (run : Ran m cs es m') → IndexRight m cs es m' run
index_right {m} way cs es m' run = go m (opened_starts way).begins (opened_starts way).starts run
  where
    go : (x : Memory) (s : Start) → x ≡ start s → (run : Ran x cs es m') → IndexRight x cs es m' run
    go x s e = subst (λ (y : Memory). (run : Ran y cs es m') → IndexRight y cs es m' run) (sym e) (from_start s cs es m')

-- No list of calls is left out.
pub every_run : {m : Memory} → Opened m → (cs : List Call) → IndexRight m cs (events m cs) (final_memory m cs) (ran m cs)
every_run {m} way cs = index_right way cs (events m cs) (final_memory m cs) (ran m cs)
