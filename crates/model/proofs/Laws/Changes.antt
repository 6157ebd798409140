-- What an insert or a delete makes of a chain's records: one key more or one key less, every other key with the setting it had, and the keys still ascend.
-- Main statements: has_inserted, length_inserted (the keys afterwards); setting_inserted, setting_removed (their
-- settings); ascends_inserted, ascends_removed;
-- setting_after, setting_eleven (what the book's 11 makes of every key), ascends_eleven; ChangeMade and change_made (a
-- change of a chain is the one that the book makes of its map).
use mathlib.Core.Path.{◌≡◌, refl, sym, ap, subst, ◌∙◌}
use mathlib.Core.Bool.{Bool, true, false, cond, ◌||◌, false≢true}
use mathlib.Core.Logic.{◌≢◌}
use mathlib.Core.List.{List, [], ◌∷◌}
use mathlib.Core.Option.{Option, none, some}
use Prim.Native.Nat.{ℕ, suc, ◌<◌}
use native.Mathlib.Omega.{arith}
use lib.ListN.{length}
use lib.Dec.{ltb, eqb}
use Rattle.model.specs.declared.Operation.{Operation}
use Rattle.model.specs.Answers.{operation_number, setting_given, answer_number, answer_of}
use Rattle.model.specs.declared.Entry.{Entry}
use Rattle.model.specs.Entries.{key_of, setting_of, entry_of, has_key, setting_in, below_first, ascending, inserted_into, removed_from}
use Rattle.model.specs.Book.{Value, note_at_eleven, contents_at_eleven}
use Rattle.model.specs.Steps.Rebuild.{Change, kept, changed, change_of}
use Rattle.model.specs.Steps.Dispatch.{has_step}
use Rattle.model.proofs.Laws.Entries.{is_in, has_setting, setting_absent}
use Rattle.model.proofs.Laws.Lists.{cond_ind, Told, holds, fails, tell, Cmp, same, diff, cmp, Ord, lt, ge, ord, and_both, both-and, or_neither, eqb_same, eqb-diff, eqb-false, ltb-true, lt-ltb}

-- ---- The keys afterwards

pub has_inserted : (x : Entry) (k : ℕ) (es : List Entry) → has_key k (inserted_into x es) ≡ (eqb (key_of x) k || has_key k es)
unfolding has_key inserted_into
has_inserted x k [] = refl
has_inserted x k (e ∷ es) = go (ltb (key_of x) (key_of e)) (has_inserted x k es)
  where
    swap : (a b c : Bool) → (a || (b || c)) ≡ (b || (a || c))
    swap true true c = refl
    swap true false c = refl
    swap false b c = refl

    go : (t : Bool) → has_key k (inserted_into x es) ≡ (eqb (key_of x) k || has_key k es)
        → has_key k (cond t (x ∷ (e ∷ es)) (e ∷ inserted_into x es)) ≡ (eqb (key_of x) k || (eqb (key_of e) k || has_key k es))
    go true ih = refl
    go false ih = ap (λ (t : Bool). eqb (key_of e) k || t) ih ∙ swap (eqb (key_of e) k) (eqb (key_of x) k) (has_key k es)

pub length_inserted : (x : Entry) (es : List Entry) → length (inserted_into x es) ≡ suc (length es)
unfolding inserted_into
length_inserted x [] = refl
length_inserted x (e ∷ es) = go (ltb (key_of x) (key_of e)) (length_inserted x es)
  where
    go : (t : Bool) → length (inserted_into x es) ≡ suc (length es) → length (cond t (x ∷ (e ∷ es)) (e ∷ inserted_into x es)) ≡ suc (suc (length es))
    go true ih = refl
    go false ih = ap suc ih

-- ---- Their settings

-- A record put in where its key is not: that key has its setting, every other the one it had.
pub setting_inserted : (x : Entry) (k : ℕ) (es : List Entry) → has_key (key_of x) es ≡ false → setting_in k (inserted_into x es) ≡ cond (eqb (key_of x) k) (some (setting_of x)) (setting_in k es)
unfolding has_key setting_in inserted_into
setting_inserted x k [] n = refl
setting_inserted x k (e ∷ es) n = go (ltb (key_of x) (key_of e)) (cmp (key_of x) k) (setting_inserted x k es o.1)
  where
    o : (eqb (key_of e) (key_of x) ≡ false) × (has_key (key_of x) es ≡ false)
    o = or_neither (eqb (key_of e) (key_of x)) (has_key (key_of x) es) n

    go : (t : Bool) → Cmp (key_of x) k → setting_in k (inserted_into x es) ≡ cond (eqb (key_of x) k) (some (setting_of x)) (setting_in k es)
        → setting_in k (cond t (x ∷ (e ∷ es)) (e ∷ inserted_into x es)) ≡ cond (eqb (key_of x) k) (some (setting_of x)) (cond (eqb (key_of e) k) (some (setting_of e)) (setting_in k es))
    go true c ih = refl
    go false (same i) ih = rw (ih, ap (eqb (key_of e)) (sym i) ∙ o.0, eqb_same (key_of x) k i) refl
    go false (diff d) ih = rw (ih, eqb-diff (key_of x) k d) refl

-- Records taken out: their key has no setting, every other the one it had.
pub setting_removed : (x k : ℕ) (es : List Entry) → setting_in k (removed_from x es) ≡ cond (eqb x k) none (setting_in k es)
unfolding setting_in removed_from
setting_removed x k [] = cond_ind (λ (l : Option Value). none ≡ l) (eqb x k) none none (λ _. refl) (λ _. refl)
setting_removed x k (e ∷ es) = go (cmp (key_of e) x) (cmp x k) (setting_removed x k es)
  where
    go : Cmp (key_of e) x → Cmp x k → setting_in k (removed_from x es) ≡ cond (eqb x k) none (setting_in k es)
        → setting_in k (cond (eqb (key_of e) x) (removed_from x es) (e ∷ removed_from x es)) ≡ cond (eqb x k) none (cond (eqb (key_of e) k) (some (setting_of e)) (setting_in k es))
    go (same i) (same j) ih = rw (eqb_same (key_of e) x i, ih, eqb_same x k j) refl
    go (same i) (diff d) ih = rw (eqb_same (key_of e) x i, ih, eqb-diff x k d, eqb-diff (key_of e) k (λ s. d (sym i ∙ s))) refl
    go (diff n) (same j) ih = rw (eqb-diff (key_of e) x n, eqb-diff (key_of e) k (λ s. n (s ∙ sym j)), ih, eqb_same x k j) refl
    go (diff n) (diff d) ih = rw (eqb-diff (key_of e) x n, ih, eqb-diff x k d) refl

-- ---- The keys still ascend

-- A number below the first key stays below, where a record with a larger key is put in, or records are taken out.
below_inserted : (x : Entry) (k : ℕ) (es : List Entry) → k < key_of x → below_first k es ≡ true → below_first k (inserted_into x es) ≡ true
unfolding below_first inserted_into
below_inserted x k [] h b = lt-ltb k (key_of x) h
below_inserted x k (e ∷ es) h b = cond_ind (λ (l : List Entry). below_first k l ≡ true) (ltb (key_of x) (key_of e)) (x ∷ (e ∷ es)) (e ∷ inserted_into x es) (λ _. lt-ltb k (key_of x) h) (λ _. b)

below_removed : (x k : ℕ) (es : List Entry) → ascending es ≡ true → below_first k es ≡ true → below_first k (removed_from x es) ≡ true
unfolding below_first ascending removed_from
below_removed x k [] a b = refl
below_removed x k (e ∷ es) a b =
    let f = and_both (below_first (key_of e) es) (ascending es) a in
    cond_ind (λ (l : List Entry). below_first k l ≡ true) (eqb (key_of e) x) (removed_from x es) (e ∷ removed_from x es)
    (λ _. below_removed x k es f.1 (lower k (key_of e) es (ltb-true k (key_of e) b) f.0)) (λ _. b)
  where
    lower : (k j : ℕ) (es : List Entry) → k < j → below_first j es ≡ true → below_first k es ≡ true
    lower k j [] h b = refl
    lower k j (e ∷ es) h b = let l = ltb-true j (key_of e) b in lt-ltb k (key_of e) (omega arith)

-- A key that is not in is not taken out.
pub removed_absent : (k : ℕ) (es : List Entry) → has_key k es ≡ false → removed_from k es ≡ es
unfolding has_key removed_from
removed_absent k [] n = refl
removed_absent k (e ∷ es) n =
    let o = or_neither (eqb (key_of e) k) (has_key k es) n in
    rw (o.0, removed_absent k es o.1) refl

pub ascends_inserted : (x : Entry) (es : List Entry) → ascending es ≡ true → has_key (key_of x) es ≡ false → ascending (inserted_into x es) ≡ true
unfolding ascending below_first inserted_into has_key
ascends_inserted x [] a n = refl
ascends_inserted x (e ∷ es) a n = go (ord (key_of x) (key_of e)) (ascends_inserted x es f.1 o.1)
  where
    f : (below_first (key_of e) es ≡ true) × (ascending es ≡ true)
    f = and_both (below_first (key_of e) es) (ascending es) a

    o : (eqb (key_of e) (key_of x) ≡ false) × (has_key (key_of x) es ≡ false)
    o = or_neither (eqb (key_of e) (key_of x)) (has_key (key_of x) es) n

    go : Ord (key_of x) (key_of e) → ascending (inserted_into x es) ≡ true → ascending (cond (ltb (key_of x) (key_of e)) (x ∷ (e ∷ es)) (e ∷ inserted_into x es)) ≡ true
    go (lt h t) ih = rw t (both-and t a)
    go (ge h t) ih = let d = eqb-false (key_of e) (key_of x) o.0 in rw t (both-and (below_inserted x (key_of e) es (omega arith) f.0) ih)

pub ascends_removed : (x : ℕ) (es : List Entry) → ascending es ≡ true → ascending (removed_from x es) ≡ true
unfolding ascending removed_from
ascends_removed x [] a = refl
ascends_removed x (e ∷ es) a =
    let f = and_both (below_first (key_of e) es) (ascending es) a in
    let ih = ascends_removed x es f.1 in
    cond_ind (λ (l : List Entry). ascending l ≡ true) (eqb (key_of e) x) (removed_from x es) (e ∷ removed_from x es)
    (λ _. ih) (λ _. both-and (below_removed x (key_of e) es f.1 f.0) ih)

-- ---- The book's map at 11

-- What a key has after an operation on it, from what it had: an insert adds its setting, or keeps the one that is
-- there.
unfoldable pub setting_after : Operation → Option Value → Option Value
setting_after Operation.Find x = x
setting_after (Operation.Insert y) none = some y
setting_after (Operation.Insert y) (some x) = some x
setting_after Operation.Delete x = none

-- The book's 11, key by key: its key has what setting_after says, every other key what it had.
pub setting_eleven : (o : Operation) (k : ℕ) (es : List Entry) (j : ℕ) → setting_in j (contents_at_eleven o k es) ≡ cond (eqb j k) (setting_after o (setting_in k es)) (setting_in j es)
unfolding contents_at_eleven setting_after
setting_eleven Operation.Find k es j = go (cmp j k)
  where
    go : Cmp j k → setting_in j es ≡ cond (eqb j k) (setting_in k es) (setting_in j es)
    go (same i) = rw (eqb_same j k i) (ap (λ (l : ℕ). setting_in l es) i)
    go (diff n) = rw (eqb-diff j k n)
setting_eleven (Operation.Insert x) k es j =
    cond_ind (λ (l : List Entry). setting_in j l ≡ cond (eqb j k) (setting_after (Operation.Insert x) (setting_in k es)) (setting_in j es)) (has_key k es) es (inserted_into (entry_of k x) es)
    (λ h. there (cmp j k) (setting_in k es) refl (has_setting k es ∙ h)) (λ h. setting_inserted (entry_of k x) j es h ∙ anew (cmp j k) h)
  where
    there : Cmp j k → (t : Option Value) → setting_in k es ≡ t → is_in (setting_in k es) ≡ true → setting_in j es ≡ cond (eqb j k) (setting_after (Operation.Insert x) (setting_in k es)) (setting_in j es)
    there (same i) none e h = absurd (false≢true (rw e at h))
    there (same i) (some y) e h = rw (eqb_same j k i, e) (ap (λ (l : ℕ). setting_in l es) i ∙ e)
    there (diff n) t e h = rw (eqb-diff j k n)

    anew : Cmp j k → has_key k es ≡ false → cond (eqb k j) (some x) (setting_in j es) ≡ cond (eqb j k) (setting_after (Operation.Insert x) (setting_in k es)) (setting_in j es)
    anew (same i) h = rw (eqb_same j k i, eqb_same k j (sym i), setting_absent k es h)
    anew (diff n) h = rw (eqb-diff j k n, eqb-diff k j (λ s. n (sym s)))
setting_eleven Operation.Delete k es j = setting_removed k j es ∙ there (cmp j k)
  where
    there : Cmp j k → cond (eqb k j) none (setting_in j es) ≡ cond (eqb j k) none (setting_in j es)
    there (same i) = rw (eqb_same j k i, eqb_same k j (sym i))
    there (diff n) = rw (eqb-diff j k n, eqb-diff k j (λ s. n (sym s)))

pub ascends_eleven : (o : Operation) (k : ℕ) (es : List Entry) → ascending es ≡ true → ascending (contents_at_eleven o k es) ≡ true
unfolding contents_at_eleven
ascends_eleven Operation.Find k es a = a
ascends_eleven (Operation.Insert x) k es a =
    cond_ind (λ (l : List Entry). ascending l ≡ true) (has_key k es) es (inserted_into (entry_of k x) es) (λ _. a) (λ h. ascends_inserted (entry_of k x) es a h)
ascends_eleven Operation.Delete k es a = ascends_removed k es a

-- ---- A change of a chain, and the book beside it

-- A change of key k from the records es to the records after, with this answer: operation o's own answer, which the
-- book notes; and the records change as the book's map does.
pub record ChangeMade (o : Operation) (k : ℕ) (es : List Entry) (answer : ℕ) (after : List Entry) : Type 0 where
  pub made : answer ≡ cond (eqb (operation_number o) 2) 1 3
  pub noted : note_at_eleven o (has_key k es) ≡ answer_of answer
  pub records : after ≡ contents_at_eleven o k es

module _ {o : Operation} {k : ℕ} {es : List Entry} {answer : ℕ} {after : List Entry} (c : ChangeMade o k es answer after) where
  pub change_ascends : ascending es ≡ true → ascending after ≡ true
  change_ascends a = rw c.records (ascends_eleven o k es a)

  pub change_settings : (j : ℕ) → setting_in j after ≡ cond (eqb j k) (setting_after o (setting_in k es)) (setting_in j es)
  change_settings j = ap (setting_in j) c.records ∙ setting_eleven o k es j

  -- A key other than k is in where it was.
  pub keys_kept : (j : ℕ) → j ≢ k → has_key j after ≡ has_key j es
  keys_kept j n =
      sym (has_setting j after) ∙ ap is_in (change_settings j ∙ ap (λ (t : Bool). cond t (setting_after o (setting_in k es)) (setting_in j es)) (eqb-diff j k n)) ∙ has_setting j es

-- What a change says of its answer and records.
answer_in : Change → ℕ
answer_in (kept a) = 0
answer_in (changed a es) = a

records_in : Change → List Entry
records_in (kept a) = []
records_in (changed a es) = es

is_changed : Change → Bool
is_changed (kept a) = false
is_changed (changed a es) = true

module _ (k x : ℕ) (es : List Entry) (answer : ℕ) (after : List Entry) where
  -- An insert changes a chain without its key, a delete one with it.
  insert_made : change_of 2 k x es ≡ changed answer after → ChangeMade (Operation.Insert x) k es answer after
  unfolding change_of answer_number answer_of operation_number note_at_eleven contents_at_eleven is_changed answer_in records_in
  insert_made e = go (tell (has_key k es))
    where
      go : Told (has_key k es) → ChangeMade (Operation.Insert x) k es answer after
      go (holds h) = absurd (false≢true (ap is_changed (rw h at e)))
      go (fails h) =
          let c : changed 1 (inserted_into (entry_of k x) es) ≡ changed answer after = rw h at e in
          let a : answer ≡ 1 = sym (ap answer_in c) in
          record { made = a; noted = rw (h, a) refl; records = rw h (sym (ap records_in c)) }

  delete_made : change_of 3 k x es ≡ changed answer after → ChangeMade Operation.Delete k es answer after
  unfolding change_of answer_number answer_of operation_number note_at_eleven contents_at_eleven is_changed answer_in records_in
  delete_made e = go (tell (has_key k es))
    where
      go : Told (has_key k es) → ChangeMade Operation.Delete k es answer after
      go (fails h) = absurd (false≢true (ap is_changed (rw h at e)))
      go (holds h) =
          let c : changed 3 (removed_from k es) ≡ changed answer after = rw h at e in
          let a : answer ≡ 3 = sym (ap answer_in c) in
          record { made = a; noted = rw (h, a) refl; records = sym (ap records_in c) }

  -- An operation that has step 11 is an insert or a delete.
  pub change_made : (o : Operation) (n : ℕ) → operation_number o ≡ n → setting_given o ≡ x → has_step n 11 ≡ true → change_of n k x es ≡ changed answer after → ChangeMade o k es answer after
  unfolding operation_number setting_given has_step
  change_made Operation.Find n i s h e = absurd (false≢true (rw (← i) at h))
  change_made (Operation.Insert y) n i s h e = subst (λ (z : ℕ). ChangeMade (Operation.Insert z) k es answer after) (sym s) (insert_made (rw (← i) at e))
  change_made Operation.Delete n i s h e = delete_made (rw (← i) at e)
