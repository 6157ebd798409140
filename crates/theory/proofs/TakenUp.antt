-- Take-up over whole lists of calls: what the index leaves at rest is taken up, with the book's map, and nothing else
-- that it leaves is; formatted memory is taken up, with no records.
-- Main statements: taken_rightly_ok and taken_answer (what take-up says where the invariant holds), always_taken_lem,
-- taken_right; reached_saved, reached_records; taken_start (memory that was taken up may start a run);
-- formatted-start, formatted_empty, formatted_book, formatted_file, formatted-holds.
use mathlib.Core.Path.{◌≡◌, refl, sym, ap, ◌∙◌, subst}
use mathlib.Core.Bool.{Bool, true, false, cond, not}
use mathlib.Core.List.{List, [], ◌∷◌}
use mathlib.Core.Option.{Option, none, some}
use Prim.Native.Nat.{ℕ, zero, suc, ◌<◌}
use native.Mathlib.Omega.{arith}
use lib.ListN.{get_or, replicate, length-replicate}
use lib.Dec.{eqb}
use Rattle.std.specs.Prelude.{Ok, Err}
use Rattle.model.proofs.Laws.Answers.{not_refused}
use Rattle.model.specs.declared.Refusal.{Refusal}
use Rattle.model.specs.Answers.{CallReply}
use Rattle.model.specs.declared.Root.{Root}
use Rattle.model.specs.declared.Entry.{Entry}
use Rattle.model.specs.Addresses.{span, chain_count}
use Rattle.model.specs.Entries.{setting_in, ascending}
use Rattle.model.specs.Memory.{Memory, formatted, formatted_root}
use Rattle.model.specs.Runs.{Call, event_of, after_call, final_memory}
use Rattle.model.specs.Book.{Book, Entered, empty_book}
use Rattle.model.specs.Progress.{is_entered, under_way, some_below, book_after_call}
use Rattle.model.specs.Sizes.{within_limits}
use Rattle.model.specs.Refusals.{lengths_fit}
use Rattle.model.specs.Calls.{Called, called}
use Rattle.model.specs.TakeUp.{is_saved, records_saved, open_book, saved_book, take_up_call}
use Rattle.theory.specs.Demands.{Sizes, sizes_given, Start, start, sizes_of, Reached, book_reached, book_start, AtRest, file_reached}
use Rattle.theory.specs.PlainMap.{empty_map}
use Rattle.theory.specs.Sequential.{records_at, start_file, file_of}
use Rattle.theory.specs.TakenUp.{taken_rightly, always_taken}
use Rattle.model.proofs.Laws.Lists.{Told, holds, fails, tell, Ord, lt, ge, ord, both-and, not-both, false≢true}
use Rattle.model.proofs.Invariant.Statement.{Inv}
use Rattle.model.proofs.Invariant.Start.{start_inv}
use Rattle.model.proofs.Theorems.RefusalOrder.{take_up_order}
use Rattle.model.proofs.Theorems.Calls.{StepsKept, within_limits_lem, lengths_fit_ok, call_kept}
use Rattle.model.proofs.Theorems.AllSteps.{steps_kept}
use Rattle.model.proofs.TakingUp.Sound.{idle_at}
use Rattle.model.proofs.TakingUp.Complete.{rests_saved, rests_map}
use Rattle.model.proofs.Invariant.Ghost.{size}
use Rattle.theory.proofs.Reached.{started_inv, reached_inv}
use Rattle.theory.proofs.UnderWay.{idle_unentered}
use Rattle.theory.proofs.Singly.Files.{extent_of, home, Holding, same_file, none_either}
use Rattle.theory.proofs.Singly.Given.{some_original, start_held}
use Rattle.theory.proofs.SizesStay.{call_limits}
use Rattle.theory.proofs.NoDeadlock.{some_found, found_some}

-- ---- Who is under way

-- A party without an entry is not under way, and the other way round.
no_entry : (x : Option Entered) → is_entered x ≡ false → x ≡ none
unfolding is_entered
no_entry none e = refl
no_entry (some y) e = absurd (false≢true (sym e))

at_rest_lem : (b : Book) → AtRest b → (q : ℕ) → b.entries q ≡ none
unfolding under_way
at_rest_lem b rest q = no_entry (b.entries q) (rest q)

-- What the index leaves at rest is taken up again, and its records are the book's map.
pub reached_saved : (s : Start) (cs : List Call) → AtRest (book_reached s cs) → is_saved (Reached s cs) ≡ true
reached_saved s cs rest = rests_saved (Reached s cs) (book_reached s cs) (reached_inv s cs) (at_rest_lem (book_reached s cs) rest)

pub reached_records : (s : Start) (cs : List Call) → AtRest (book_reached s cs) → records_saved (Reached s cs) ≡ (book_reached s cs).contents
reached_records s cs rest = rests_map (Reached s cs) (book_reached s cs) (reached_inv s cs) (at_rest_lem (book_reached s cs) rest)

-- ---- Take-up passes exactly where nobody is under way

module _ (m : Memory) (b : Book) (i : Inv m b) where
  -- In a file that passes every record is zero, so nobody is under way.
  saved_rests : is_saved m ≡ true → AtRest b
  saved_rests e = idle_unentered m b i (idle_at m (within_limits_lem m.root i.limits) (lengths_fit_ok m b i) e)

  -- Where none of the row is under way nobody is: past its end there is no entry.
  none-entered : some_below m.root.parties (under_way b) ≡ false → (q : ℕ) → b.entries q ≡ none
  unfolding under_way
  none-entered f q = go (ord q m.root.parties) (tell (under_way b q))
    where
      go : Ord q m.root.parties → Told (under_way b q) → b.entries q ≡ none
      go (ge h t) u = (i.strangers q h).0
      go (lt h t) (fails u) = no_entry (b.entries q) u
      go (lt h t) (holds u) = absurd (not-both _ (found_some m.root.parties (under_way b) q h u) f)

  pub taken_rightly_ok : taken_rightly m.root.parties b m ≡ true
  unfolding taken_rightly
  taken_rightly_ok = go (tell (some_below m.root.parties (under_way b))) (tell (is_saved m))
    where
      go : Told (some_below m.root.parties (under_way b)) → Told (is_saved m) → cond (some_below m.root.parties (under_way b)) (not (is_saved m)) (is_saved m) ≡ true
      go (holds e) (fails f) = rw (e, f) refl
      go (holds e) (holds f) =
          let x = some_found m.root.parties (under_way b) e in
          absurd (not-both (under_way b x.number) x.passes (saved_rests f x.number))
      go (fails e) f = rw e (rests_saved m b i (none-entered e))

  -- What a call of take-up then answers, and that it leaves all memory.
  pub taken_answer : take_up_call m ≡ called (cond (some_below m.root.parties (under_way b)) (Err Refusal.Unsaved) (Ok tt)) m
  unfolding taken_rightly
  taken_answer = go (tell (some_below m.root.parties (under_way b))) (tell (is_saved m))
    where
      go : Told (some_below m.root.parties (under_way b)) → Told (is_saved m)
          → take_up_call m ≡ called (cond (some_below m.root.parties (under_way b)) (Err Refusal.Unsaved) (Ok tt)) m
      go (holds e) (fails f) = rw e ((take_up_order m).unsaved (within_limits_lem m.root i.limits) (lengths_fit_ok m b i) f)
      go (holds e) (holds f) = absurd (false≢true (sym (ap not f) ∙ rw e at taken_rightly_ok))
      go (fails e) (holds f) = rw e ((take_up_order m).none (within_limits_lem m.root i.limits) (lengths_fit_ok m b i) f)
      go (fails e) (fails f) = absurd (false≢true (sym f ∙ rw e at taken_rightly_ok))

-- Before every call of a list, and after the last.
pub always_taken_lem : StepsKept → (m : Memory) (b : Book) → Inv m b → (cs : List Call) → always_taken m.root.parties b m cs ≡ true
unfolding always_taken event_of
always_taken_lem kept m b i [] = taken_rightly_ok m b i
always_taken_lem kept m b i (c ∷ cs) =
    both-and (taken_rightly_ok m b i)
    (subst (λ (n : ℕ). always_taken n (book_after_call b m c) (after_call m c) cs ≡ true) (call_limits m c).parties=
    (always_taken_lem kept (after_call m c) (book_after_call b m c) (call_kept kept m b i c).inv cs))

-- From memory that passes take-up on.
pub taken_right : (s : Start) (cs : List Call) → always_taken (sizes_of s).parties (book_start s) (start s) cs ≡ true
taken_right s cs = always_taken_lem steps_kept (start s) (book_start s) (started_inv s) cs

-- ---- Memory that was taken up

module _ (m : Memory) (is : (take_up_call m).answer ≡ Ok tt) where
  -- An answer is not taken up and refused at once.
  refused_up : {X : Type 0} (k : Refusal) → take_up_call m ≡ called (Err k) m → X
  refused_up k e = absurd (not_refused tt k (sym is ∙ ap (λ (c : Called CallReply). c.answer) e))

  abbrev pub Passed : Type 0
  Passed = (within_limits m.root ≡ true) × (lengths_fit m.root m ≡ true) × (is_saved m ≡ true)

  -- Taken up was not a refusal: every test passed.
  passes : (s l t : Bool) → within_limits m.root ≡ s → lengths_fit m.root m ≡ l → is_saved m ≡ t → Passed
  passes false l t e f g = refused_up Refusal.Size ((take_up_order m).sizes e)
  passes true false t e f g = refused_up Refusal.Length ((take_up_order m).lengths e f)
  passes true true false e f g = refused_up Refusal.Unsaved ((take_up_order m).unsaved e f g)
  passes true true true e f g = (e, f, g)

  pub passed : Passed
  passed = passes (within_limits m.root) (lengths_fit m.root m) (is_saved m) refl refl refl

unfoldable pub taken_start : (m : Memory) → (take_up_call m).answer ≡ Ok tt → Start
taken_start m is = let p = passed m is in record { memory = m; sizes_fit = p.0; lengths_fit_ok = p.1; saved = p.2 }

-- ---- Formatted memory

unfoldable pub formatted-start : Sizes → Start
unfolding empty_book
formatted-start z =
    let i = start_inv z.originals z.capacity z.primaries z.overflow z.parties z.fit in
    record {
      memory = formatted (sizes_given z);
      sizes_fit = within_limits_lem (formatted (sizes_given z)).root i.limits;
      lengths_fit_ok = lengths_fit_ok (formatted (sizes_given z)) empty_book i;
      saved = rests_saved (formatted (sizes_given z)) empty_book i (λ q. refl);
    }

pub formatted_empty : (z : Sizes) → records_saved (formatted (sizes_given z)) ≡ []
unfolding empty_book
formatted_empty z = rests_map (formatted (sizes_given z)) empty_book (start_inv z.originals z.capacity z.primaries z.overflow z.parties z.fit) (λ q. refl)

-- So a run from it starts beside the empty book.
pub formatted_book : (z : Sizes) → saved_book (formatted (sizes_given z)) ≡ empty_book
unfolding empty_book open_book
formatted_book z = ap open_book (formatted_empty z)

-- ---- The file that format leaves

-- An element of n empty lists is empty.
none_in : (n c : ℕ) → get_or (replicate {A = List Entry} n []) c [] ≡ []
none_in zero c = refl
none_in (suc n) zero = refl
none_in (suc n) (suc c) = none_in n c

start_holding : (r : Root) → 0 < r.originals → Holding r.originals (start_file r) empty_map
unfolding start_file records_at size chain_count span setting_in ascending empty_map
start_holding r positive = record {
  as_many = length-replicate r.originals [] ∙ omega arith;
  next_fits = omega arith;
  ascends = λ c. rw (none_in r.originals c) refl;
  map_ascends = refl;
  settings = λ c k. rw (none_in r.originals c) (sym (none_either (eqb (home r.originals (extent_of (start_file r)) k) c)));
}

-- It is the yardstick's first file.
pub formatted_file : (z : Sizes) → file_reached (formatted-start z) [] ≡ start_file (sizes_of (formatted-start z))
unfolding start_file file_of final_memory formatted formatted_root formatted-start empty_map
formatted_file z =
    let s = formatted-start z in
    same_file (sizes_of s).originals (file_reached s []) (start_file (sizes_of s)) []
    (subst (Holding (sizes_of s).originals (file_reached s [])) (formatted_empty z) (start_held s)) (start_holding (sizes_of s) (some_original s)) refl

-- The same with the sizes as they were given.
pub formatted-holds : (z : Sizes) → file_of (sizes_given z) (formatted (sizes_given z)) ≡ start_file (sizes_given z)
unfolding formatted-start formatted formatted_root final_memory
formatted-holds z = formatted_file z
