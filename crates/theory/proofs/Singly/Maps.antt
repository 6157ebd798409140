-- The yardstick answers as a plain map does, and leaves the map that a plain map then is.
-- Main statements: holding_map (a file holds its own records as a map); AsMap, performed-as-map (one operation);
-- all_as-map (a list of operations).
use mathlib.Core.Path.{◌≡◌, refl, sym, subst, ◌∙◌}
use mathlib.Core.Bool.{true, false, ◌||◌, not}
use mathlib.Core.List.{List, [], ◌∷◌}
use mathlib.Core.Option.{Option, none, some}
use Prim.Native.Nat.{ℕ, ◌<◌}
use Rattle.model.specs.declared.Root.{Root}
use Rattle.model.specs.declared.Operation.{Operation}
use Rattle.model.specs.declared.OperationAnswer.{OperationAnswer}
use Rattle.model.specs.declared.Restructuring.TheVariants as Restructuring
use Rattle.model.specs.Answers.{answer_number, found_or_absent, same_answer, setting_found}
use Rattle.model.specs.Addresses.{split_barred, merge_barred}
use Rattle.model.specs.declared.Entry.{Entry}
use Rattle.model.specs.Entries.{entry_of, has_key, inserted_into, removed_from, setting_in}
use Rattle.model.specs.Filling.{pages_for, fits_primary}
use Rattle.model.specs.Book.{Value, contents_at_eleven}
use Rattle.theory.specs.PlainMap.{PlainMap, plain_answer, plain_after, may_lack_pages, is_no_page, answers_as_map, map_left_by}
use Rattle.model.specs.Steps.Rebuild.{split_owed, merge_owed}
use Rattle.theory.specs.Sequential.{File, Finished, finishes, records_at, with_records, performed_on, map_in}
use Rattle.theory.proofs.Singly.StepWords.{short_of, home_in, chains_in, split_file, merge_file, find_in, added, insert_in, removed, delete_in, performed_on as step_performed}
use Rattle.theory.specs.Singly.{Wanted, performed_all, answers_as_maps}
use Rattle.model.proofs.Laws.Lists.{cond_ind, both-and, or_neither}
use Rattle.model.proofs.Laws.Changes.{removed_absent}
use Rattle.model.proofs.Laws.Entries.{has_same}
use Rattle.model.proofs.Laws.Answers.{same_answer_lem}
use Rattle.theory.proofs.Singly.Tied.{performed_same}
use Rattle.theory.proofs.Singly.Files.{Holding, held_home, map_held, holding_changed, holding_parted, holding_rejoined}

-- ---- The map that a file holds

pub holding_map : (n : ℕ) (f : File) (s : PlainMap) → Holding n f s → Holding n f (map_in f)
holding_map n f s h = subst (Holding n f) (sym (map_held n f s h)) h

-- ---- One operation

-- The operation answers as the map s does, and the file then holds the map that it leaves.
pub record AsMap (n : ℕ) (s : PlainMap) (o : Operation) (k : ℕ) (y : Finished) : Type 0 where
  pub as-map : answers_as_map s o k y.answer ≡ true
  pub holding : Holding n y.file (map_left_by s o k y.answer)

-- A restructuring keeps the answer and the map.
abbrev Restructured : ℕ → PlainMap → OperationAnswer → Finished → Type 0
Restructured n s a y = (y.answer ≡ a) × Holding n y.file s

module _ (r : Root) (positive : 0 < r.originals) (f : File) (s : PlainMap) (h : Holding r.originals f s) (a : OperationAnswer) where
  split-map : Restructured r.originals s a (split_file r f a)
  unfolding split_file
  split-map = cond_ind (Restructured r.originals s a) (split_barred (chains_in r f) r.primaries || short_of r f _) _ _ (λ _. (refl, h)) (λ _. (refl, holding_parted r f s h positive))

  merge_map : Restructured r.originals s a (merge_file r f a)
  unfolding merge_file chains_in
  merge_map =
      cond_ind (Restructured r.originals s a) (merge_barred (chains_in r f) r.originals || not (fits_primary r.capacity _)) _ _ (λ _. (refl, h))
      (λ e. (refl, holding_rejoined r f s h positive (or_neither (merge_barred (chains_in r f) r.originals) (not (fits_primary r.capacity _)) e).0))

module _ (r : Root) (positive : 0 < r.originals) (f : File) (s : PlainMap) (h : Holding r.originals f s) (k : ℕ) where
  abbrev n : ℕ
  n = r.originals

  abbrev c : ℕ
  c = home_in r f k

  abbrev es : List Entry
  es = records_at f (home_in r f k)

  there : setting_in k (records_at f (home_in r f k)) ≡ setting_in k s
  unfolding home_in
  there = held_home r.originals f s h k

  -- Whether the key is in.
  is_there : has_key k s ≡ has_key k (records_at f (home_in r f k))
  is_there = has_same k k s es (sym there)

  find_as-map : AsMap r.originals s Operation.Find k (find_in r f k)
  unfolding find_in answers_as_map plain_answer answer_number map_left_by plain_after is_no_page found_or_absent
  find_as-map = rw there (go (setting_in k s) refl)
    where
      go : (t : Option Value) → setting_in k s ≡ t → AsMap n s Operation.Find k (finishes (found_or_absent t) Restructuring.None f)
      go none e = record { as-map = rw (e, same_answer_lem OperationAnswer.Absent) refl; holding = h }
      go (some x) e = record { as-map = rw (e, same_answer_lem (OperationAnswer.Found x)) refl; holding = h }

  -- ---- Insert

  module _ (x : Value) where
    abbrev more : List Entry
    more = inserted_into (entry_of k x) (records_at f (home_in r f k))

    abbrev s_more : PlainMap
    s_more = inserted_into (entry_of k x) s

    with_more : has_key k es ≡ false → Holding n (with_records f c more) s_more
    unfolding contents_at_eleven home_in
    with_more e = rw (e, is_there ∙ e) at (holding_changed n f s h positive k (Operation.Insert x))

    inserted : has_key k s ≡ false → (y : Finished) → Restructured n s_more OperationAnswer.Inserted y → AsMap n s (Operation.Insert x) k y
    unfolding answers_as_map plain_answer same_answer answer_number setting_found map_left_by plain_after is_no_page
    inserted e y z = record { as-map = rw (z.0, e) refl; holding = rw (z.0, e) z.1 }

    short_insert : has_key k s ≡ false → AsMap n s (Operation.Insert x) k (finishes OperationAnswer.NoPage Restructuring.None f)
    unfolding answers_as_map plain_answer same_answer answer_number setting_found map_left_by is_no_page may_lack_pages
    short_insert e = record { as-map = rw e refl; holding = h }

    present : has_key k s ≡ true → AsMap n s (Operation.Insert x) k (finishes OperationAnswer.Present Restructuring.None f)
    unfolding answers_as_map plain_answer same_answer answer_number setting_found map_left_by plain_after is_no_page
    present e = record { as-map = rw e refl; holding = rw e h }

    insert_as-map : AsMap r.originals s (Operation.Insert x) k (insert_in r f k x)
    unfolding insert_in added
    insert_as-map =
        cond_ind (AsMap n s (Operation.Insert x) k) (has_key k es) _ _ (λ e. present (is_there ∙ e))
        (λ e. cond_ind (AsMap n s (Operation.Insert x) k) (short_of r f (pages_for r.capacity more)) _ _ (λ _. short_insert (is_there ∙ e))
        (λ _. inserted (is_there ∙ e) _
        (cond_ind (Restructured n s_more OperationAnswer.Inserted) (split_owed (pages_for r.capacity es) (pages_for r.capacity more)) _ _
        (λ _. split-map r positive (with_records f c more) s_more (with_more e) OperationAnswer.Inserted) (λ _. (refl, with_more e)))))

  -- ---- Delete

  abbrev fewer : List Entry
  fewer = removed_from k (records_at f (home_in r f k))

  with_fewer : Holding n (with_records f c fewer) (removed_from k s)
  unfolding contents_at_eleven home_in
  with_fewer = holding_changed n f s h positive k Operation.Delete

  deleted : has_key k s ≡ true → (y : Finished) → Restructured n (removed_from k s) OperationAnswer.Deleted y → AsMap n s Operation.Delete k y
  unfolding answers_as_map plain_answer same_answer answer_number setting_found map_left_by plain_after is_no_page
  deleted e y x = record { as-map = rw (x.0, e) refl; holding = rw x.0 x.1 }

  short_delete : has_key k s ≡ true → AsMap n s Operation.Delete k (finishes OperationAnswer.NoPage Restructuring.None f)
  unfolding answers_as_map plain_answer same_answer answer_number setting_found map_left_by is_no_page may_lack_pages
  short_delete e = record { as-map = rw e refl; holding = h }

  absent : has_key k s ≡ false → AsMap n s Operation.Delete k (finishes OperationAnswer.Absent Restructuring.None f)
  unfolding answers_as_map plain_answer same_answer answer_number setting_found map_left_by plain_after is_no_page
  absent e = record { as-map = rw e refl; holding = rw (removed_absent k s e) h }

  delete_as-map : AsMap r.originals s Operation.Delete k (delete_in r f k)
  unfolding delete_in removed
  delete_as-map =
      cond_ind (AsMap n s Operation.Delete k) (has_key k es) _ _
      (λ e. cond_ind (AsMap n s Operation.Delete k) (short_of r f (pages_for r.capacity fewer)) _ _ (λ _. short_delete (is_there ∙ e))
      (λ _. deleted (is_there ∙ e) _
      (cond_ind (Restructured n (removed_from k s) OperationAnswer.Deleted) (merge_owed fewer) _ _
      (λ _. merge_map r positive (with_records f c fewer) (removed_from k s) with_fewer OperationAnswer.Deleted) (λ _. (refl, with_fewer)))))
      (λ e. absent (is_there ∙ e))

  each_as-map : (o : Operation) → AsMap r.originals s o k (step_performed r f o k)
  unfolding step_performed
  each_as-map Operation.Find = find_as-map
  each_as-map (Operation.Insert x) = insert_as-map x
  each_as-map Operation.Delete = delete_as-map

  pub performed-as-map : (o : Operation) → AsMap r.originals s o k (performed_on r f o k)
  performed-as-map o = subst (AsMap n s o k) (sym (performed_same r f k o)) (each_as-map o)

-- ---- A list of operations

pub all_as-map : (r : Root) → 0 < r.originals → (f : File) (s : PlainMap) → Holding r.originals f s → (xs : List Wanted) → answers_as_maps s xs (performed_all r f xs).answers ≡ true
unfolding answers_as_maps performed_all
all_as-map r positive f s h [] = refl
all_as-map r positive f s h (x ∷ xs) =
    let y = performed-as-map r positive f s h x.key x.operation in
    both-and y.as-map (all_as-map r positive (performed_on r f x.operation x.key).file _ y.holding xs)
