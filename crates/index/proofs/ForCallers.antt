-- What a caller reads off StartRight, FormatRight and IndexRight, of the memory that he lent, the calls that he made
-- and the events that he saw, and of nothing else.
-- Main statements: formatted_told, empty_told; singly_told (a list of operations run singly); events_told,
-- memory_told; answer_told, somebody_moves, sizes_kept, links_told, no_page_told, grants_told; overtaken_told,
-- wanted_told, passed_told, row_told, again_told, clear_told (who waits); alone_told (one operation run alone);
-- order_told, found_told; withdrawn_told, restored_told, merges_told, calls_told; goes_on (at rest the memory opens
-- another run, with the records of the book), first-look.
use mathlib.Core.Path.{◌≡◌, refl, sym, ◌∙◌, ap, ap₂, subst}
use mathlib.Core.Bool.{Bool, true, false, cond}
use mathlib.Core.List.{List, [], ◌∷◌, ◌++◌}
use mathlib.Core.Option.{some}
use Prim.Native.Nat.{ℕ, zero, suc, ◌+◌, ◌-◌, ◌<◌, ◌≤◌}
use lib.Dec.{eqb}
use lib.ListN.{length, replicate}
use borrow.Author.Tests.{eqb-true}
use Rattle.model.specs.declared.Root.{Root}
use Rattle.model.specs.declared.FileSizes.{FileSizes}
use Rattle.model.specs.declared.OperationAnswer.TheVariants as OperationAnswer
use Rattle.model.specs.declared.StepAnswer.TheVariants as StepAnswer
use Rattle.std.specs.Prelude.{Ok}
use Rattle.model.specs.Answers.{CallReply, refusal_number}
use Rattle.model.specs.Records.{root_of_sizes, root_sized}
use Rattle.model.specs.Memory.{Memory, formatted}
use Rattle.model.specs.Sizes.{within_limits}
use Rattle.model.specs.Refusals.{lengths_fit}
use Rattle.model.specs.LockWords.{Claim, table_one}
use Rattle.model.specs.WaitingRow.{all_zero}
use Rattle.model.specs.Calls.{begin_call, step_call, withdraw_call}
use Rattle.model.specs.TakeUp.{is_saved, records_saved, open_book, saved_book}
use Rattle.model.specs.Runs.{Call, Event, after_call, events, final_memory}
use Rattle.model.specs.Book.{Book, empty_book, book_at_end, book_after, agrees, book_agrees}
use Rattle.model.specs.Progress.{is_entered, under_way, can_move, some_below, progresses, book_after_call}
use Rattle.model.specs.Holds.{grants_right, wanted_by}
use Rattle.theory.specs.Links.{clock_start, links_fresh}
use Rattle.theory.specs.NoPage.{none_wrote, no_page_kept}
use Rattle.theory.specs.PlainMap.{PlainMap}
use Rattle.theory.specs.Singly.{Wanted, parties_fit, calls_alone, calls_singly, replies_of, replies_alone, replies_singly, done_by, performed_all}
use Rattle.theory.specs.Sequential.{performed_on, file_of, start_file}
use Rattle.theory.specs.Demands.{Start, start, sizes_of, Reached, book_reached, AtRest, ListSingly}
use Rattle.theory.specs.Linearization.{IsOneOf, Ended, Operated, operations_of, Linearized, answers_in_order}
use Rattle.theory.specs.Settings.{Came}
use Rattle.theory.specs.Withdrawals.{calls_begun, calls_withdrawn, withdrawn_unwritten}
use Rattle.theory.specs.FittingMerges.{nothing_had, merges_fit}
use Rattle.theory.specs.Overtaking.{waits_after_events, wait_stays, WaitsFor, passes_by, passes_all, waits_at_end, words_of_ledger}
use Rattle.theory.specs.CallsBounded.{none_counted, most_calls, calls_bounded}
use Rattle.theory.specs.TakenUp.{taken_rightly, always_taken}
use Rattle.model.proofs.Laws.Lists.{and_both}
use Rattle.model.proofs.Invariant.Statement.{Inv}
use Rattle.model.proofs.Theorems.Calls.{within_limits_lem, lengths_fit_ok}
use Rattle.theory.proofs.Reached.{final_append, reached_inv}
use Rattle.theory.proofs.NoDeadlock.{Found, some_found}
use Rattle.theory.proofs.Made.{start-opens, ran_events, ran_memory}
use Rattle.index.specs.TheIndex.{Opened, Ran, looked, Looked, looks_right, StartRight, FormatRight, IndexRight}

-- The sizes of a root, all else zero.
abbrev sizes_in : Memory → Root
sizes_in m = root_of_sizes m.root.originals m.root.capacity m.root.primaries m.root.overflow m.root.parties

-- ---- After format

-- The memory is the formatted one of the sizes given; the file is empty, and the yardstick's first.
pub formatted_told : (z : FileSizes) (m : Memory) → FormatRight z m → m ≡ formatted (root_sized z)
formatted_told z m right = right.starts ∙ ap formatted right.given

pub empty_told : (z : FileSizes) (m : Memory) → FormatRight z m → (records_saved m ≡ []) × (saved_book m ≡ empty_book) × (file_of (root_sized z) m ≡ start_file (root_sized z))
empty_told z m right = (right.no_records, right.book, right.file)

-- ---- Operations run singly

-- How often each moves.
pub record Singly (m : Memory) (xs : List Wanted) : Type 0 where
  pub moves : List ℕ
  -- Whoever makes these calls gets the yardstick's answers, and leaves its file.
  pub answered : {es : List Event} {m' : Memory} → Ran m (calls_singly xs moves) es m'
      → (replies_of es ≡ replies_singly (performed_all (sizes_in m) (file_of (sizes_in m) m) xs).answers moves)
      × (file_of (sizes_in m) m' ≡ (performed_all (sizes_in m) (file_of (sizes_in m) m) xs).file)

from_list : (s : Start) (xs : List Wanted) → ListSingly s xs → Singly (start s) xs
unfolding final_memory
from_list s xs l = record {
  moves = l.moves;
  answered = λ run. (ap replies_of (ran_events run) ∙ l.replies, ap (file_of (sizes_of s)) (ran_memory run) ∙ l.leaves);
}

pub singly_told : (m : Memory) → StartRight m → (xs : List Wanted) → parties_fit m.root.parties xs ≡ true → Singly m xs
singly_told m right xs fit = subst (λ (x : Memory). Singly x xs) (sym right.starts) (from_list right.begins xs (right.lists xs fit))

-- ---- After a list of calls

-- An operation of a run, in an order of all of them, found setting x: it was there before, or was added last.
pub record FoundThere (map : PlainMap) (o : Operated) (x : ℕ) (order : List Linearized) : Type 0 where
  pub earlier : List Linearized
  pub here : Linearized
  pub later : List Linearized
  pub parts : order ≡ earlier ++ (here ∷ later)
  pub own : here.operated ≡ o
  pub came : Came map o.key x earlier

-- One operation run alone on memory m, of which r has the sizes.
pub record Alone (r : Root) (m : Memory) (x : Wanted) : Type 0 where
  pub moves : ℕ
  pub answered : {es : List Event} {m' : Memory} → Ran m (calls_alone x moves) es m'
      → replies_of es ≡ replies_alone moves (done_by (performed_on r (file_of r m) x.operation x.key))

-- A book that agrees with events agrees with each.
agrees_at : (b : Book) (front : List Event) (e : Event) (back : List Event) → book_agrees b (front ++ (e ∷ back)) ≡ true
    → agrees (book_at_end b front) e.call e.number e.reply ≡ true
unfolding book_agrees book_at_end
agrees_at b [] e back t =
    (and_both (agrees b e.call e.number e.reply) (book_agrees (book_after b e.call e.number e.reply) back) t).0
agrees_at b (x ∷ front) e back t =
    let after = book_after b x.call x.number x.reply in
    agrees_at after front e back (and_both (agrees b x.call x.number x.reply) (book_agrees after (front ++ (e ∷ back))) t).1

none_below : (n : ℕ) (f : ℕ → Bool) → ((q : ℕ) → f q ≡ false) → some_below n f ≡ false
unfolding some_below
none_below zero f idle = refl
none_below (suc n) f idle = rw (idle n) (none_below n f idle)

-- Taken up exactly where nobody is under way, so after the last call.
saved_last : (n : ℕ) (b : Book) (m : Memory) (cs : List Call) → always_taken n b m cs ≡ true → some_below n (under_way (book_at_end b (events m cs))) ≡ false
    → is_saved (final_memory m cs) ≡ true
unfolding always_taken taken_rightly book_at_end events final_memory
saved_last n b m [] t none = rw none at t
saved_last n b m (c ∷ cs) t none =
    let after = book_after_call b m c in
    saved_last n after (after_call m c) cs (and_both (taken_rightly n b m) (always_taken n after (after_call m c) cs) t).1 none

module _ {m₀ m : Memory} {cs : List Call} {es : List Event} {run : Ran m₀ cs es m} (right : IndexRight m₀ cs es m run) where
  abbrev s : Start
  s = right.begins

  -- The book beside the events seen, and who of the row is under way by it.
  abbrev b : Book
  b = book_at_end (saved_book m₀) es

  -- What holds of the start holds of the memory that was lent.
  at_lent : (P : Memory → Type 0) → P (start s) → P m₀
  at_lent P x = subst P (sym right.starts) x

  pub events_told : es ≡ events m₀ cs
  events_told = right.events_are ∙ ap (λ (x : Memory). events x cs) (sym right.starts)

  pub memory_told : m ≡ final_memory m₀ cs
  memory_told = right.memory_is ∙ ap (λ (x : Memory). final_memory x cs) (sym right.starts)

  same_book : b ≡ book_reached s cs
  same_book = ap₂ (λ (x : Memory) (xs : List Event). book_at_end (saved_book x) xs) right.starts right.events_are

  -- Every answer is what the book has, fed with the events before it.
  pub answer_told : (front : List Event) (e : Event) (back : List Event) → es ≡ front ++ (e ∷ back)
      → agrees (book_at_end (saved_book m₀) front) e.call e.number e.reply ≡ true
  answer_told front e back parts = agrees_at (saved_book m₀) front e back (subst (λ (xs : List Event). book_agrees (saved_book m₀) xs ≡ true) parts right.answers)

  -- Where somebody is under way, somebody's next step answers moved or done.
  pub somebody_moves : some_below m₀.root.parties (under_way b) ≡ true → Found m₀.root.parties (can_move b m)
  unfolding progresses
  somebody_moves busy = some_found m₀.root.parties (can_move b m) (rw busy at right.progress)

  -- The sizes are those of the memory that was lent.
  pub sizes_kept : sizes_in m ≡ sizes_in m₀
  sizes_kept =
      let z = right.schedule.sizes in
      ap sizes_in right.memory_is ∙ rw (z.originals, z.capacity, z.primaries, z.overflow, z.parties) refl ∙ ap sizes_in (sym right.starts)

  -- No stale link was followed, and who was answered no page has written nothing.
  pub links_told : links_fresh clock_start m₀ cs ≡ true
  links_told = at_lent (λ x. links_fresh clock_start x cs ≡ true) right.schedule.links

  pub no_page_told : no_page_kept none_wrote es ≡ true
  no_page_told = ap (no_page_kept none_wrote) right.events_are ∙ right.schedule.no_page

  pub grants_told : grants_right (sizes_in m₀) (saved_book m₀) [] [] m₀ cs ≡ true
  grants_told = at_lent (λ x. grants_right (sizes_in x) (saved_book x) [] [] x cs ≡ true) right.grants.grants

  -- ---- Change 7

  -- What a party wants here is what it wants in the memory reached; and so after more calls.
  wants_there : (p : ℕ) → wanted_by (sizes_in m₀) m p ≡ wanted_by (sizes_of s) (Reached s cs) p
  wants_there p = ap₂ (λ (x y : Memory). wanted_by (sizes_in x) y p) right.starts right.memory_is

  waits_there : (p : ℕ) → waits_after_events p es ≡ waits_after_events p (events (start s) cs)
  waits_there p = ap (waits_after_events p) right.events_are

  waits_for : (p : ℕ) (c : Claim) → waits_after_events p es ≡ true → wanted_by (sizes_in m₀) m p ≡ some c → WaitsFor s cs p c
  waits_for p c waits wants = record { waits = sym (waits_there p) ∙ waits; wanted = sym (wants_there p) ∙ wants }

  -- Party p waits for lock c, and more calls are made, none of which ends its wait.
  module _ {ds : List Call} {fs : List Event} {m' : Memory} (on : Ran m ds fs m') (p : ℕ) (c : Claim) (waits : waits_after_events p es ≡ true)
      (wants : wanted_by (sizes_in m₀) m p ≡ some c) (stays : wait_stays p fs ≡ true) where
    left_there : m' ≡ Reached s (cs ++ ds)
    left_there = ran_memory on ∙ ap (λ (u : Memory). final_memory u ds) right.memory_is ∙ sym (final_append (start s) cs ds)

    wants-later : (q : ℕ) → wanted_by (sizes_in m₀) m' q ≡ wanted_by (sizes_of s) (Reached s (cs ++ ds)) q
    wants-later q = ap₂ (λ (x y : Memory). wanted_by (sizes_in x) y q) right.starts left_there

    stays_there : wait_stays p (events (Reached s cs) ds) ≡ true
    stays_there = ap (λ (u : Memory). wait_stays p (events u ds)) (sym right.memory_is) ∙ ap (wait_stays p) (sym (ran_events on)) ∙ stays

    -- A party that did not wait then, and now wants a lock that clashes with it, is told to wait.
    pub overtaken_told : (q : ℕ) (d : Claim) → waits_after_events q es ≡ false → wanted_by (sizes_in m₀) m' q ≡ some d → d.word ≡ c.word
        → table_one d.mode c.mode ≡ false → (step_call m' q).answer ≡ Ok StepAnswer.Waiting
    overtaken_told q d later wants' word apart =
        ap (λ (u : Memory). (step_call u q).answer) left_there
        ∙ (right.overtaken ds p q c d).waits_too (waits_for p c waits wants) (sym (waits_there q) ∙ later) stays_there (sym (wants-later q) ∙ wants') word apart

    -- The lock that it wants is the same.
    pub wanted_told : wanted_by (sizes_in m₀) m' p ≡ some c
    wanted_told = wants-later p ∙ (right.wanted ds p c).same (waits_for p c waits wants) stays_there

    -- Each party passed it at most once, and at most Q - 1 grants did.
    pub passed_told : ((q : ℕ) → passes_by (sizes_in m₀) c q m ds ≤ 1) × (passes_all (sizes_in m₀) c m ds + 1 ≤ m₀.root.parties)
    passed_told =
        let at : (P : Root → Memory → Type 0) → P (sizes_of s) (Reached s cs) → P (sizes_in m₀) m =
        λ P x. subst (P (sizes_in m₀)) (sym right.memory_is) (at_lent (λ u. P (sizes_in u) (Reached s cs)) x) in (
          (λ q. at (λ z u. passes_by z c q u ds ≤ 1) ((right.passed ds p c).once (waits_for p c waits wants) stays_there q)),
          at (λ z u. passes_all z c u ds + 1 ≤ z.parties) ((right.passed ds p c).in_all (waits_for p c waits wants) stays_there),
        )

  -- The waiting row is the parties of the ledger of waits, each plus one, first come first, then zeros.
  pub row_told : m.waiting ≡ words_of_ledger (waits_at_end (sizes_in m₀) [] m₀ cs) ++ replicate (m₀.root.parties - length (waits_at_end (sizes_in m₀) [] m₀ cs)) 0
  row_told =
      ap (λ (u : Memory). u.waiting) right.memory_is
      ∙ at_lent (λ x. (Reached s cs).waiting ≡ words_of_ledger (waits_at_end (sizes_in x) [] x cs) ++ replicate (x.root.parties - length (waits_at_end (sizes_in x) [] x cs)) 0) right.row.row_is

  -- A waiting call of one that waits alters nothing.
  pub again_told : (p : ℕ) → waits_after_events p es ≡ true → (step_call m p).answer ≡ Ok StepAnswer.Waiting → (step_call m p).memory ≡ m
  again_told p waits answer =
      subst (λ (u : Memory). (step_call u p).answer ≡ Ok StepAnswer.Waiting → (step_call u p).memory ≡ u) (sym right.memory_is)
      (λ a. (right.again p).again (sym (waits_there p) ∙ waits) a) answer

  -- Where nobody is under way, nobody waits.
  pub clear_told : AtRest b → all_zero m.waiting ≡ true
  clear_told rest = ap (λ (u : Memory). all_zero u.waiting) right.memory_is ∙ right.clear.clear (subst AtRest same_book rest)

  -- ---- Alone, in order, withdrawn, merged

  -- At rest, an operation run alone is answered as the yardstick does.
  pub alone_told : AtRest b → (x : Wanted) → x.party < m₀.root.parties → Alone (sizes_in m₀) m x
  alone_told rest x fits =
      let y = right.singly (subst AtRest same_book rest) x fits in
      let there : Alone (sizes_of s) (Reached s cs) x = record { moves = y.moves; answered = λ ran. ap replies_of (ran_events ran) ∙ y.replies } in
      subst (λ (u : Memory). Alone (sizes_in m₀) u x) (sym right.memory_is) (at_lent (λ z. Alone (sizes_in z) (Reached s cs) x) there)

  -- The operations in the order of their decisive steps: a plain map gives every answer.
  pub order_told : answers_in_order (records_saved m₀) right.linearization.order ≡ true
  order_told = at_lent (λ x. answers_in_order (records_saved x) right.linearization.order ≡ true) right.linearization.answers

  pub found_told : (o : Operated) (a : Ended) (x : ℕ) → IsOneOf o (operations_of es) → o.ended ≡ some a → a.answer ≡ some (OperationAnswer.Found x)
      → FoundThere (records_saved m₀) o x right.linearization.order
  found_told o a x of_run ended found =
      let f = right.founds.found o a x (subst (λ (xs : List Event). IsOneOf o (operations_of xs)) right.events_are of_run) ended found in
      at_lent (λ y. FoundThere (records_saved y) o x right.linearization.order)
      (record { earlier = f.earlier; here = f.here; later = f.later; parts = f.parts; own = f.own; came = f.came })

  -- A withdrawn operation has written nothing; and begun, stepped alone and withdrawn, it leaves all memory as it was.
  pub withdrawn_told : withdrawn_unwritten none_wrote es ≡ true
  withdrawn_told = ap (withdrawn_unwritten none_wrote) right.events_are ∙ right.withdrawals.none_written

  pub restored_told : (x : Wanted) (n : ℕ) → (begin_call m x.party x.operation x.key).answer ≡ Ok tt
      → (withdraw_call (final_memory m (calls_begun x n)) x.party).answer ≡ Ok tt → {fs : List Event} {m' : Memory} → Ran m (calls_withdrawn x n) fs m' → m' ≡ m
  restored_told x n begins withdraws again =
      let left = right.memory_is in
      let there : final_memory m (calls_begun x n) ≡ Reached s (cs ++ calls_begun x n) = ap (λ (u : Memory). final_memory u (calls_begun x n)) left ∙ sym (final_append (start s) cs (calls_begun x n)) in
      ran_memory again ∙ ap (λ (u : Memory). final_memory u (calls_withdrawn x n)) left ∙ sym (final_append (start s) cs (calls_withdrawn x n))
      ∙ (right.restores x n).restored (subst (λ (u : Memory). (begin_call u x.party x.operation x.key).answer ≡ Ok tt) left begins)
      (subst (λ (u : Memory). (withdraw_call u x.party).answer ≡ Ok tt) there withdraws)
      ∙ sym left

  pub merges_told : merges_fit nothing_had m₀ cs ≡ true
  merges_told = at_lent (λ x. merges_fit nothing_had x cs ≡ true) right.merges

  -- No operation takes more calls than change 8 allows, waiting ones set aside.
  pub calls_told : calls_bounded (most_calls (sizes_in m₀)) none_counted es ≡ true
  calls_told =
      ap (calls_bounded (most_calls (sizes_in m₀)) none_counted) events_told
      ∙ at_lent (λ x. calls_bounded (most_calls (sizes_in x)) none_counted (events x cs) ≡ true) right.calls.bounded

  -- At rest the memory may be saved, and opens another run, whose map is the book's.
  pub goes_on : AtRest b → Opened m × ((saved_book m).contents ≡ b.contents)
  unfolding open_book
  goes_on rest = (start-opens there, right.records rest)
    where
      i : Inv (Reached s cs) (book_reached s cs)
      i = reached_inv s cs

      idle : some_below m₀.root.parties (under_way (book_at_end (saved_book m₀) (events m₀ cs))) ≡ false
      idle = none_below m₀.root.parties _ (subst (λ (xs : List Event). AtRest (book_at_end (saved_book m₀) xs)) events_told rest)

      there : Start
      there = record {
        memory = m;
        sizes_fit = ap (λ (u : Memory). within_limits u.root) right.memory_is ∙ within_limits_lem (Reached s cs).root i.limits;
        lengths_fit_ok = ap (λ (u : Memory). lengths_fit u.root u) right.memory_is ∙ lengths_fit_ok (Reached s cs) (book_reached s cs) i;
        saved = ap is_saved memory_told ∙ saved_last m₀.root.parties (saved_book m₀) m₀ cs right.taken idle;
      }

-- ---- Looks

-- A look before the first call is answered taken up.
pub first-look : {m₀ m₁ m : Memory} {a : CallReply} {cs : List Call} {es : List Event} (look : Looked m₀ a m₁) (run : Ran m₁ cs es m)
    → IndexRight m₀ cs es m (looked look run) → refusal_number a ≡ 0
unfolding looks_right open_book under_way is_entered
first-look {m₀} {m₁} {m} {a} {cs} {es} look run right =
    eqb-true (refusal_number a) 0
    (rw (none_below m₀.root.parties (λ q. false) (λ q. refl)) at (and_both (eqb (refusal_number a) (cond (some_below m₀.root.parties (λ q. false)) 8 0)) (looks_right m₀.root.parties (saved_book m₀) run) right.looks).0)
