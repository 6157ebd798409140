-- Equations of maps said once more, key by key: each implies what stands here.
-- Main statements: left_setting (what an operation leaves of each key); linearized_in_file, linearized_in_map (the map
-- that a linearization leaves, and the chains of the file); stays_in_file, no_more_in_file (a call that leaves the
-- map);
-- home_answers, home_before, home_after, home_left (an operation run singly, by each key's home chain);
-- start_ascends, reached_ascends, left_ascends, after_ascends (every one of these lists strictly ascends).
use mathlib.Core.Path.{◌≡◌, refl, sym, ap, ◌∙◌}
use mathlib.Core.Bool.{Bool, true, false, cond}
use mathlib.Core.List.{List, [], ◌∷◌, ◌++◌}
use mathlib.Core.Option.{some}
use Prim.Native.Nat.{ℕ}
use lib.Dec.{eqb}
use Rattle.model.specs.declared.Operation.{Operation}
use Rattle.model.specs.declared.OperationAnswer.{OperationAnswer}
use Rattle.model.specs.Entries.{setting_in, ascending}
use Rattle.model.specs.Runs.{Call, events}
use Rattle.model.specs.Book.{Value}
use Rattle.model.specs.TakeUp.{open_book}
use Rattle.model.specs.Consistency.{InFile}
use Rattle.theory.specs.PlainMap.{PlainMap, is_no_page, plain_answer, plain_after, may_lack_pages, answers_as_map, map_left_by}
use Rattle.theory.specs.Sequential.{records_at, home_in, map_in}
use Rattle.theory.specs.Singly.{Wanted, calls_alone}
use Rattle.theory.specs.Demands.{Start, start, sizes_of, map_start, book_start, Reached, book_reached, file_reached, at_home, yardstick, RunSingly}
use Rattle.theory.specs.Linearization.{Linearized, map_after, Linearization}
use Rattle.theory.specs.Withdrawals.{MapStays}
use Rattle.model.proofs.Laws.Lists.{cond_ind}
use Rattle.model.proofs.Laws.Entries.{is_in, has_setting}
use Rattle.model.proofs.Laws.Changes.{setting_after}
use Rattle.model.proofs.Theorems.Records.{in_records, in_file}
use Rattle.model.proofs.Theorems.BookAscends.{book_ascends}
use Rattle.theory.proofs.Reached.{started_inv}
use Rattle.theory.proofs.Meanings.{plain_setting, plain_ascends}

-- ---- One operation on a plain map

pub left_setting : (s : PlainMap) (o : Operation) (k : ℕ) (a : OperationAnswer) (j : ℕ)
    → setting_in j (map_left_by s o k a) ≡ cond (is_no_page a) (setting_in j s) (cond (eqb j k) (setting_after o (setting_in k s)) (setting_in j s))
unfolding map_left_by
left_setting s o k a j = go (is_no_page a)
  where
    go : (t : Bool) → setting_in j (cond t s (plain_after s o k)) ≡ cond t (setting_in j s) (cond (eqb j k) (setting_after o (setting_in k s)) (setting_in j s))
    go true = refl
    go false = plain_setting s o k j

-- ---- The map that a linearization leaves

module _ (s : Start) (cs : List Call) (l : Linearization s cs) where
  pub linearized_in_file : (k : ℕ) (x : Value) → setting_in k (map_after (map_start s) l.order) ≡ some x → InFile (Reached s cs) l.file k x
  linearized_in_file k x h = in_file (Reached s cs) l.file k x (ap (setting_in k) l.map-left ∙ h)

  pub linearized_in_map : (k : ℕ) (x : Value) → InFile (Reached s cs) l.file k x → setting_in k (map_after (map_start s) l.order) ≡ some x
  linearized_in_map k x i = sym (ap (setting_in k) l.map-left) ∙ in_records (Reached s cs) l.file k x i

-- ---- A call that leaves the map

module _ (s : Start) (cs : List Call) (c : Call) (t : MapStays s cs c) where
  pub stays_in_file : (k : ℕ) (x : Value) → InFile (Reached s cs) t.before k x → InFile (Reached s (cs ++ (c ∷ []))) t.after k x
  stays_in_file k x i = in_file (Reached s (cs ++ (c ∷ []))) t.after k x (ap (setting_in k) t.same ∙ in_records (Reached s cs) t.before k x i)

  pub no_more_in_file : (k : ℕ) (x : Value) → InFile (Reached s (cs ++ (c ∷ []))) t.after k x → InFile (Reached s cs) t.before k x
  no_more_in_file k x i = in_file (Reached s cs) t.before k x (sym (ap (setting_in k) t.same) ∙ in_records (Reached s (cs ++ (c ∷ []))) t.after k x i)

-- ---- An operation run singly

-- What a plain map may answer goes by what it has of the operation's key alone.
answers_alike : (s t : PlainMap) (o : Operation) (k : ℕ) (a : OperationAnswer) → setting_in k s ≡ setting_in k t → answers_as_map s o k a ≡ answers_as_map t o k a
unfolding answers_as_map plain_answer may_lack_pages
answers_alike s t Operation.Find k a e = rw e refl
answers_alike s t (Operation.Insert z) k a e = rw (sym (has_setting k s) ∙ ap is_in e ∙ has_setting k t) refl
answers_alike s t Operation.Delete k a e = rw (sym (has_setting k s) ∙ ap is_in e ∙ has_setting k t) refl

module _ (s : Start) (cs : List Call) (x : Wanted) (y : RunSingly s cs x) where
  -- It answers as the chain at its key's home does, taken for the whole map.
  pub home_answers : answers_as_map (records_at (file_reached s cs) (home_in (sizes_of s) (file_reached s cs) x.key)) x.operation x.key (yardstick s cs x).answer ≡ true
  home_answers = sym (answers_alike _ _ x.operation x.key (yardstick s cs x).answer (y.home x.key)) ∙ y.as-map

  pub home_before : (k : ℕ) → at_home s cs k ≡ setting_in k (book_reached s cs).contents
  home_before k = sym (y.home k) ∙ ap (setting_in k) y.map

  pub home_after : (k : ℕ) → at_home s (cs ++ calls_alone x y.moves) k ≡ setting_in k (book_reached s (cs ++ calls_alone x y.moves)).contents
  home_after k = sym (y.home_after k) ∙ ap (setting_in k) y.map_after_ok

  -- The key's home has what the operation leaves of it, every other key's what it had.
  pub home_left : (k : ℕ) → at_home s (cs ++ calls_alone x y.moves) k
      ≡ cond (is_no_page (yardstick s cs x).answer) (at_home s cs k) (cond (eqb k x.key) (setting_after x.operation (at_home s cs x.key)) (at_home s cs k))
  home_left k =
      sym (y.home_after k) ∙ ap (setting_in k) y.leaves_map
      ∙ left_setting (map_in (file_reached s cs)) x.operation x.key (yardstick s cs x).answer k
      ∙ (rw (y.home k, y.home x.key) refl)

-- ---- The lists strictly ascend

pub start_ascends : (s : Start) → ascending (map_start s) ≡ true
unfolding open_book
start_ascends s = (started_inv s).book_ok.ascends

-- The book's map, after every list of calls.
pub reached_ascends : (s : Start) (cs : List Call) → ascending (book_reached s cs).contents ≡ true
unfolding open_book
reached_ascends s cs = book_ascends (book_start s) (events (start s) cs) (start_ascends s)

pub left_ascends : (s : PlainMap) (o : Operation) (k : ℕ) (a : OperationAnswer) → ascending s ≡ true → ascending (map_left_by s o k a) ≡ true
unfolding map_left_by
left_ascends s o k a h = cond_ind (λ (t : PlainMap). ascending t ≡ true) (is_no_page a) _ _ (λ _. h) (λ _. plain_ascends s o k h)

pub after_ascends : (s : PlainMap) (xs : List Linearized) → ascending s ≡ true → ascending (map_after s xs) ≡ true
unfolding map_after
after_ascends s [] h = h
after_ascends s (x ∷ xs) h = let o = x.operated in after_ascends (map_left_by s o.operation o.key x.answer) xs (left_ascends s o.operation o.key x.answer h)
