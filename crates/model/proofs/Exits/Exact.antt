-- The columns next and writes of the table of the steps (specs/Steps/Table.antt) say no more than happens: each
-- successor is reached on some view, and each word is written on some view. That they say no less is step_exits
-- (Exits.antt).
-- The views are of one small file, N = 1, b = 1, P = 3, V = 3, Q = 1, and the steps are run on them by the checker.
-- Main statements: next_reached, word_written.
use mathlib.Core.Path.{◌≡◌, refl}
use mathlib.Core.Logic.{◌⊎◌, inl, inr}
use mathlib.Core.Bool.{Bool, true, false, cond, not, ◌&&◌, ◌||◌}
use mathlib.Core.List.{List, [], ◌∷◌, ◌++◌}
use Prim.Native.Nat.{ℕ}
use lib.ListN.{get_or, replicate}
use lib.Dec.{eqb}
use Rattle.std.specs.Prelude.{Ok, Err}
use Rattle.model.specs.declared.Root.{Root}
use Rattle.model.specs.declared.Party.{Party}
use Rattle.model.specs.declared.StepAnswer.{StepAnswer}
use Rattle.model.specs.Records.{find_operation, insert_operation, with_level, with_next, with_free_list, root_of_sizes, begun, at_step, with_chain, with_other, with_old, with_owed, with_answer}
use Rattle.model.specs.Answers.{is_moved, StepReply}
use Rattle.model.specs.Outcome.{View}
use Rattle.model.specs.Steps.Dispatch.{step_of, next_table, is_next, writes_table, writes}
use Rattle.model.proofs.Exits.Statement.{row_passes, column_passed}
use Rattle.model.proofs.Laws.Lists.{false≢true, or_either, all_pass}
use Rattle.model.proofs.Refutations.Opened.{opened}

-- ---- The file

-- A page, by its local level, count and link, and its one record.
abbrev page : ℕ → ℕ → ℕ → ℕ → ℕ → List ℕ
page level n link k x = level ∷ n ∷ link ∷ k ∷ x ∷ replicate 11 0

-- Chain 0 has 5 on its primary page and 6 on page 3; chains 1 and 2 are empty, 2 at local level 1. Pages 4 and 5 are
-- free. The scratch page, the last, has 5 and a link to page 3.
abbrev pages : List ℕ
pages = page 0 1 4 5 7 ++ (page 0 0 0 0 0 ++ (page 1 0 0 0 0 ++ (page 0 1 0 6 8 ++ (page 0 0 6 0 0 ++ (page 0 0 0 0 0 ++ page 1 1 4 5 7)))))

-- The root, by level, next and the number of free pages; page 4 is the first of them.
abbrev root : ℕ → ℕ → ℕ → Root
root level next free = with_free_list 5 free (with_next next (with_level level (root_of_sizes 1 1 3 3 1)))

-- The party at step k with a find or an insert of this key: 1, which no page has, or 5. Its answer so far is inserted.
abbrev keyed : ℕ → Bool → ℕ → Party
keyed key find k = with_answer 1 (with_other 1 (with_chain 2 (at_step k (begun (cond find find_operation insert_operation) key 9))))

-- The view of the party, all lock words being w.
abbrev seen : ℕ → Root → Party → View
seen w r p = record { root = r; party = p; number = 0; locks = replicate 4 w; pages = pages; behind = false }

-- Nobody holds a lock.
abbrev free : Party → View
free p = seen 0 (root 1 0 2) p

-- The party, number 0, holds every lock in every mode: 1 + 2^16 + 2^21.
abbrev held : Root → Party → View
held r p = seen 2162689 r p

-- The views to run each step on, by step number, from 0.
abbrev views : Bool → List (List View)
views find =
    let at = keyed 1 find in
    let has : Party → View = held (root 1 0 2) in
    []
    ∷ (free (at 1) ∷ [])
    ∷ (has (at 2) ∷ [])
    ∷ (held (root 1 1 2) (at 3) ∷ [])
    ∷ (free (at 4) ∷ [])
    ∷ (has (at 5) ∷ [])
    ∷ (has (at 6) ∷ has (with_chain 0 (at 6)) ∷ [])
    ∷ (free (at 7) ∷ [])
    ∷ (has (at 8) ∷ [])
    ∷ (has (at 9) ∷ has (keyed 5 find 9) ∷ [])
    ∷ (has (with_chain 0 (at 10)) ∷ has (with_chain 0 (keyed 5 find 10)) ∷ [])
    ∷ (has (at 11) ∷ [])
    ∷ (has (with_old 4 (at 12)) ∷ has (with_owed 1 (at 12)) ∷ has (with_owed 2 (at 12)) ∷ has (at 12) ∷ [])
    ∷ (free (with_old 4 (at 13)) ∷ [])
    ∷ (has (with_old 4 (with_owed 1 (at 14))) ∷ has (with_old 4 (with_owed 2 (at 14))) ∷ has (with_old 4 (at 14)) ∷ [])
    ∷ (free (at 15) ∷ [])
    ∷ (free (at 16) ∷ held (root 1 1 2) (at 16) ∷ [])
    ∷ (has (with_chain 0 (at 17)) ∷ held (root 1 0 0) (with_chain 0 (at 17)) ∷ [])
    ∷ (has (at 18) ∷ [])
    ∷ (has (at 19) ∷ [])
    ∷ (has (at 20) ∷ [])
    ∷ (has (at 21) ∷ [])
    ∷ (has (with_old 4 (at 22)) ∷ has (at 22) ∷ [])
    ∷ (free (at 23) ∷ [])
    ∷ (free (at 24) ∷ held (root 0 0 2) (at 24) ∷ [])
    ∷ (free (at 25) ∷ [])
    ∷ (has (with_old 4 (at 26)) ∷ has (with_chain 0 (at 26)) ∷ [])
    ∷ (has (at 27) ∷ [])
    ∷ (has (at 28) ∷ [])
    ∷ (has (with_old 4 (at 29)) ∷ [])
    ∷ (has (at 30) ∷ []) ∷ []

-- Whether some view of a list passes a test; one that does.
abbrev some : (View → Bool) → List View → Bool
some t [] = false
some t (v ∷ vs) = t v || some t vs

pub record Passing (t : View → Bool) : Type 0 where
  pub view : View
  pub passes : t view ≡ true

passing : (t : View → Bool) (vs : List View) → some t vs ≡ true → Passing t
passing t [] h = absurd (false≢true h)
passing t (v ∷ vs) h = go (λ f. passing t vs f) (or_either (t v) (some t vs) h)
  where
    go : (some t vs ≡ true → Passing t) → (t v ≡ true) ⊎ (some t vs ≡ true) → Passing t
    go more (inl e) = record { view = v; passes = e }
    go more (inr e) = more e

-- ---- Successors

-- Whether an outcome is a move to step n, or an end for 0.
unfoldable pub leads_to : ℕ → StepReply → ℕ → Bool
leads_to n (Ok StepAnswer.Waiting) step = false
leads_to n (Ok StepAnswer.Moved) step = eqb step n
leads_to n (Ok (StepAnswer.Done a s)) step = eqb n 0
leads_to n (Err c) step = false

-- Whether step k of the view leads to n, in a find or not.
abbrev pub leads : Bool → ℕ → ℕ → View → Bool
leads find k n v =
    let o = step_of k v in
    let kind = eqb v.party.operation find_operation in
    cond find kind (not kind) && leads_to n o.answer o.after.party.step

reached : (find : Bool) → all_pass (row_passes (λ k n. some (leads find k n) (get_or (views find) k []))) 0 (next_table find) ≡ true
unfolding opened leads_to
reached true = refl
reached false = refl

-- Each step that the table lets step k lead to is led to by k from some view.
pub next_reached : (operation k n : ℕ) → is_next operation k n ≡ true → Passing (leads (eqb operation find_operation) k n)
unfolding is_next
next_reached operation k n h =
    let find = eqb operation find_operation in
    passing (leads find k n) (get_or (views find) k []) (column_passed (λ k n. some (leads find k n) (get_or (views find) k [])) (next_table find) (reached find) k n h)

-- ---- Words written

-- Whether two rows of words are the same.
abbrev pub same_words : List ℕ → List ℕ → Bool
same_words [] [] = true
same_words [] (y ∷ ys) = false
same_words (x ∷ xs) [] = false
same_words (x ∷ xs) (y ∷ ys) = eqb x y && same_words xs ys

-- Whether word w of two views differs, in the order of the words' numbers.
abbrev pub differs : ℕ → View → View → Bool
differs w v u =
    let p = v.party in
    let q = u.party in
    let r = v.root in
    let s = u.root in
    get_or
    (not (eqb p.answer q.answer) ∷ not (eqb p.lev q.lev) ∷ not (eqb p.chain q.chain && eqb p.other q.other) ∷ not (eqb p.old q.old) ∷ not (eqb p.owed q.owed)
    ∷ not (eqb r.level s.level) ∷ not (eqb r.next s.next) ∷ not (eqb r.head s.head && eqb r.free s.free) ∷ not (same_words v.pages u.pages) ∷ [])
    w false

-- Whether step k of the view moves, and writes word w.
abbrev pub writes_there : ℕ → ℕ → View → Bool
writes_there k w v = let o = step_of k v in is_moved o.answer && differs w v o.after

written : all_pass (row_passes (λ k w. some (writes_there k w) (get_or (views false) k []))) 0 writes_table ≡ true
unfolding opened
written = refl

-- Each word that the table lets step k write is written by k on some view.
pub word_written : (k w : ℕ) → writes k w ≡ true → Passing (writes_there k w)
unfolding writes
word_written k w h = passing (writes_there k w) (get_or (views false) k []) (column_passed (λ k w. some (writes_there k w) (get_or (views false) k [])) writes_table written k w h)
