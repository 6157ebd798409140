-- How a step can end, on any view, by the table of the steps (specs/Steps/Table.antt).
-- Main statements: kept_by (a view's words but for those that a step may write); Moves, Ends (what a step that moves,
-- or is done, keeps, gives up and leaves); Exit (an outcome of step k: refused, waiting, moved or done); every_next,
-- none-writes (what all rows of a column pass by computing).
use mathlib.Core.Path.{◌≡◌, refl, ap}
use mathlib.Core.Logic.{◌≢◌}
use mathlib.Core.Bool.{Bool, true, false, cond, not, ◌&&◌, ◌||◌}
use mathlib.Core.List.{List, [], ◌∷◌}
use mathlib.Core.Option.{Option, none, some}
use Prim.Native.Nat.{ℕ}
use lib.ListN.{get_or}
use lib.Dec.{eqb}
use Rattle.model.specs.declared.Refusal.{Refusal}
use Rattle.model.specs.declared.Party.{Party}
use Rattle.model.specs.declared.OperationAnswer.{OperationAnswer}
use Rattle.model.specs.declared.Restructuring.{Restructuring}
use Rattle.model.specs.Records.{root_of_sizes, find_operation}
use Rattle.model.specs.Answers.{answer_of}
use Rattle.model.specs.declared.Root.{Root}
use Rattle.model.specs.LockWords.{Claim}
use Rattle.model.specs.Pages.{page_of, link_of, linked_page, names_overflow}
use Rattle.model.specs.FreeList.{is_among}
use Rattle.model.specs.Outcome.{View, Outcome, refuse, waits, moved}
use Rattle.model.specs.ScratchPages.{with_scratch, scratch_of}
use Rattle.model.specs.Endings.{done}
use Rattle.model.specs.LockRequests.{is_granted}
use Rattle.model.specs.Ready.{Ready}
use Rattle.model.specs.Claims.{claims}
use Rattle.model.specs.Holds.{gives_up_moving, requested}
use Rattle.model.specs.Steps.Table.{answer_word, lev_word, chains_word, old_word, owed_word, level_word, next_word, free_word, page_word}
use Rattle.model.specs.Steps.Dispatch.{has_step, wants_none, want_table, next_table, is_next, writes_table, writes}
use Rattle.model.proofs.Laws.Lists.{not-true, right_or, and_both, All, all_in, all_pass, passed_at}
use Rattle.model.proofs.Invariant.Turn.{claims_at}
use Rattle.model.proofs.Exits.Trades.{listed, Trade}
use Rattle.model.proofs.Exits.OpenLinks.{LinksThen}
use Rattle.model.proofs.Exits.Scratches.{Spares, Leaves}

-- Whether n is another step than k, and not the end.
abbrev pub is_other : ℕ → ℕ → Bool
is_other k n = not (eqb n 0) && not (eqb n k)

-- ---- What a step keeps

-- A view's words but for those that step k may write, and for step number and lock words.
pub record Kept : Type 0 where
  pub number : ℕ
  pub operation : ℕ
  pub key : ℕ
  pub setting : ℕ
  pub answer : ℕ
  pub lev : ℕ
  pub chain : ℕ
  pub other : ℕ
  pub old : ℕ
  pub owed : ℕ
  pub sizes : Root
  pub level : ℕ
  pub next : ℕ
  pub head : ℕ
  pub free : ℕ
  pub pages : List ℕ

abbrev pub kept_by : ℕ → View → Kept
kept_by k v =
    let p = v.party in
    let r = v.root in
    record {
      number = v.number;
      operation = p.operation;
      key = p.key;
      setting = p.setting;
      answer = cond (writes k answer_word) 0 p.answer;
      lev = cond (writes k lev_word) 0 p.lev;
      chain = cond (writes k chains_word) 0 p.chain;
      other = cond (writes k chains_word) 0 p.other;
      old = cond (writes k old_word) 0 p.old;
      owed = cond (writes k owed_word) 0 p.owed;
      sizes = root_of_sizes r.originals r.capacity r.primaries r.overflow r.parties;
      level = cond (writes k level_word) 0 r.level;
      next = cond (writes k next_word) 0 r.next;
      head = cond (writes k free_word) 0 r.head;
      free = cond (writes k free_word) 0 r.free;
      pages = cond (writes k page_word) [] v.pages;
    }

-- The number and the sizes are always kept.
pub leaves_kept : (k : ℕ) (v u : View) → kept_by k u ≡ kept_by k v → Spares v u.pages → Leaves v u
leaves_kept k v u e s = record {
  number= = ap (λ (x : Kept). x.number) e;
  sizes = record {
    originals= = ap (λ (x : Kept). x.sizes.originals) e;
    capacity= = ap (λ (x : Kept). x.sizes.capacity) e;
    primaries= = ap (λ (x : Kept). x.sizes.primaries) e;
    overflow= = ap (λ (x : Kept). x.sizes.overflow) e;
    parties= = ap (λ (x : Kept). x.sizes.parties) e;
  };
  spares = s;
}

-- ---- What all rows of a column pass, by computing

-- Whether the numbers of row k pass a test.
abbrev pub row_passes : (ℕ → ℕ → Bool) → ℕ → List ℕ → Bool
row_passes t k [] = true
row_passes t k (n ∷ ns) = t k n && row_passes t k ns

-- A test that the numbers of every row pass.
pub column_passed : (t : ℕ → ℕ → Bool) (rows : List (List ℕ)) → all_pass (row_passes t) 0 rows ≡ true → (k n : ℕ) → is_among n (get_or rows k []) ≡ true → t k n ≡ true
column_passed t rows h k n a = all_in (λ m. t k m ≡ true) n (get_or rows k []) (each (get_or rows k []) (passed_at (row_passes t) [] (λ _. refl) rows h k)) a
  where
    each : (ms : List ℕ) → row_passes t k ms ≡ true → All (λ m. t k m ≡ true) ms
    each [] h = tt
    each (m ∷ ms) h = let f = and_both (t k m) (row_passes t k ms) h in (f.0, each ms f.1)

-- A test that each step passes with every step that it may lead to.
pub every_next : (t : ℕ → ℕ → Bool) → all_pass (row_passes t) 0 (next_table true) ≡ true → all_pass (row_passes t) 0 (next_table false) ≡ true
    → (operation k n : ℕ) → is_next operation k n ≡ true → t k n ≡ true
unfolding is_next
every_next t f g operation k n h = go (eqb operation find_operation) h
  where
    go : (b : Bool) → is_among n (get_or (next_table b) k []) ≡ true → t k n ≡ true
    go true a = column_passed t (next_table true) f k n a
    go false a = column_passed t (next_table false) g k n a

-- A word that no step without this test may write.
pub none-writes : (t : ℕ → Bool) (w : ℕ) → all_pass (λ k ws. t k || not (is_among w ws)) 0 writes_table ≡ true → (k : ℕ) → t k ≡ false → writes k w ≡ false
unfolding writes is_among
none-writes t w f k e = not-true _ (rw e at (passed_at (λ j ws. t j || not (is_among w ws)) [] (λ j. right_or (t j) refl) writes_table f k))

-- ---- Outcomes

-- The lock that step number k requests.
abbrev pub want_at : ℕ → View → Option Claim
want_at k v = get_or want_table k wants_none v.root v.party

-- The page that the scratch page's link names, copied over it: 9 where it goes on.
abbrev pub copied_on : View → View
copied_on v = with_scratch (page_of v.pages (linked_page (link_of (scratch_of v)))) v

-- Step k moves from the view v on to u.
pub record Moves (v : View) (k : ℕ) (u : View) : Type 0 where
  pub next : is_next v.party.operation k u.party.step ≡ true
  -- Only what the step may write is written.
  pub kept : kept_by k u ≡ kept_by k v
  -- The locks claimed: without those that the step gives up, with what it is granted.
  pub trade : has_step v.party.operation k ≡ true
      → Trade (claims_at k v.party) (gives_up_moving k v.party) (listed (requested k (want_at k v))) (claims u.root u.party)
  -- The other parties' scratch pages stay.
  pub spares : Ready v → Spares v u.pages
  -- The links that the record then has.
  pub marks : v.party.step ≡ k → Ready v → LinksThen k v u.party

-- Step k is done with answer a, all locks given up; then the record and the scratch page of u are zeroed.
pub record Ends (v : View) (k : ℕ) (a : OperationAnswer) (u : View) : Type 0 where
  pub next : is_next v.party.operation k 0 ≡ true
  pub kept : kept_by k u ≡ kept_by k v
  pub answer= : k ≢ 9 → a ≡ answer_of v.party.answer
  pub spares : Ready v → Spares v u.pages

-- Whether step k, that wants this lock or none, comes to request it: at 13 the old link is tested before.
abbrev pub asks : Option Claim → ℕ → Root → Party → Bool
asks none k r p = false
asks (some c) k r p = not (eqb k 13) || names_overflow r p.old

-- An outcome of step k on the view v.
pub data Exit (v : View) (k : ℕ) : Outcome → Type 0 where
  -- Refused for damage, before any request: all is as it was.
  refusing : asks (want_at k v) k v.root v.party ≡ false → Exit v k (refuse Refusal.Damage v)
  -- Waiting for a lock that is wanted and not granted.
  waiting : (c : Claim) → want_at k v ≡ some c → is_granted v c ≡ false → asks (want_at k v) k v.root v.party ≡ true → Exit v k (waits v)
  -- The lock wanted is granted: on to another step.
  taking : (c : Claim) (u : View) → want_at k v ≡ some c → is_granted v c ≡ true → is_other k u.party.step ≡ true → Moves v k u → Exit v k (moved u)
  -- On to another step, no lock being wanted.
  moving : (u : View) → want_at k v ≡ none → is_other k u.party.step ≡ true → Moves v k u → Exit v k (moved u)
  -- 9 on to the page that the scratch page's link names.
  looking : k ≡ 9 → want_at k v ≡ none → link_of (scratch_of v) ≢ 0 → (v.party.step ≡ k → Moves v k (copied_on v)) → Exit v k (moved (copied_on v))
  -- Done.
  ending : (a : OperationAnswer) (s : Restructuring) (u : View) → want_at k v ≡ none → Ends v k a u → Exit v k (done a s u)
