-- Found answers the setting of the last insert that added the key and was not deleted since, in the order of decisive steps: of every list of calls, in each of its linearizations.
-- Main statements: founds_right; below it came_from (a setting that a map has after an order was there before it, or was added last in it) and begun_once (a run enters one operation a call).
use mathlib.Core.Path.{◌≡◌, refl, sym, ap, ◌∙◌, subst}
use mathlib.Core.Logic.{◌≢◌, ◌⊎◌, inl, inr}
use mathlib.Core.Bool.{Bool, true, false, cond, not, ◌&&◌, ◌||◌, and-false, false≢true}
use mathlib.Core.List.Memᴰ
use mathlib.Core.List.{List, [], ◌∷◌, ◌++◌, Memᴰ}
use mathlib.Core.Option.{Option, none, some}
use Prim.Native.Nat.{ℕ, ◌+◌}
use native.Mathlib.Omega.{arith}
use lib.Dec.{eqb}
use Rattle.std.specs.Prelude.{Ok, Err}
use Rattle.model.specs.declared.Operation.{Operation}
use Rattle.model.specs.declared.OperationAnswer.{OperationAnswer}
use Rattle.model.specs.Answers.{answer_number, found_or_absent, same_answer}
use Rattle.model.specs.Runs.{Call, begin_for, step_for, withdraw_for, Reply, to_begin, to_step, to_withdraw, Event, events}
use Rattle.model.specs.Book.{Value}
use Rattle.model.specs.Entries.{entry_of, has_key, setting_in, removed_from}
use Rattle.model.specs.Steps.Write.{is_change}
use Rattle.theory.specs.PlainMap.{PlainMap, plain_answer, plain_after, may_lack_pages, is_no_page, answers_as_map, map_left_by}
use Rattle.theory.specs.Demands.{Start, start, map_start}
use Rattle.theory.specs.Linearization.{IsOneOf, Ended, Operated, entering, operations_from, operations_of, has_taken_effect, Linearized, times_in, answers_in_order, map_after, Linearization}
use Rattle.theory.specs.Settings.{changes_key, leaves_key, FoundInOrder, FoundsRight, Came, from_before, from_insert}
use Rattle.model.proofs.Laws.Lists.{Cmp, same, diff, cmp, eqb-true, eqb_same, eqb-diff, and_both, both-and, or_either}
use Rattle.model.proofs.Laws.Answers.{answers_same}
use Rattle.model.proofs.Laws.Entries.{is_in}
use Rattle.model.proofs.Laws.Changes.{setting_inserted, setting_removed}
use Rattle.theory.proofs.Linearization.Notes.{six_left}
use Rattle.theory.proofs.Linearization.Ordering.{entered_late}

-- ---- One operation on a map

-- Key k has setting x after operation o with key j answered a: it had it, and this operation left the key; or this operation is the insert that added it.
data Source (s : PlainMap) (o : Operation) (j k : ℕ) (x : Value) (a : OperationAnswer) : Type 0 where
  had : (eqb j k && is_change (answer_number a)) ≡ false → setting_in k s ≡ some x → Source s o j k x a
  added : o ≡ Operation.Insert x → j ≡ k → a ≡ OperationAnswer.Inserted → Source s o j k x a

same_setting : (x y : Value) → ◌≡◌ {A = Option Value} (some x) (some y) → x ≡ y
same_setting x y e = cc

no_setting : (x : Value) → ◌≡◌ {A = Option Value} none (some x) → ⊥
no_setting x e = false≢true (ap is_in e)

module _ (s : PlainMap) (j k : ℕ) (x : Value) where
  -- A key other than the operation's.
  elsewhere : (o : Operation) (a : OperationAnswer) (y : Option Value) → j ≢ k → cond (eqb j k) y (setting_in k s) ≡ some x → Source s o j k x a
  elsewhere o a y d h = had (ap (λ (t : Bool). t && is_change (answer_number a)) (eqb-diff j k d)) (sym (ap (λ (t : Bool). cond t y (setting_in k s)) (eqb-diff j k d)) ∙ h)

  find_source : (t : Option Value) → setting_in k (map_left_by s Operation.Find j (found_or_absent t)) ≡ some x → Source s Operation.Find j k x (found_or_absent t)
  unfolding found_or_absent is_change answer_number
  find_source t h = had (ap (λ (u : Bool). eqb j k && u) (quiet t) ∙ and-false (eqb j k)) (sym (ap (setting_in k) (six_left s j t)) ∙ h)
    where
      quiet : (u : Option Value) → is_change (answer_number (found_or_absent u)) ≡ false
      quiet none = refl
      quiet (some y) = refl

  insert_source : (y : Value) (t : Bool) → has_key j s ≡ t → setting_in k (map_left_by s (Operation.Insert y) j (cond t OperationAnswer.Present OperationAnswer.Inserted)) ≡ some x
      → Source s (Operation.Insert y) j k x (cond t OperationAnswer.Present OperationAnswer.Inserted)
  unfolding map_left_by plain_after is_no_page is_change answer_number
  insert_source y true e h = had (and-false (eqb j k)) (rw e at h)
  insert_source y false e h = go (cmp j k) (sym (setting_inserted (entry_of j y) k s e) ∙ (rw e at h))
    where
      go : Cmp j k → cond (eqb j k) (some y) (setting_in k s) ≡ some x → Source s (Operation.Insert y) j k x OperationAnswer.Inserted
      go (diff d) t = elsewhere (Operation.Insert y) OperationAnswer.Inserted (some y) d t
      go (same i) t = added (ap Operation.Insert (same_setting y x (rw (eqb_same j k i) at t))) i refl

  removed_source : (a : OperationAnswer) → setting_in k (removed_from j s) ≡ some x → Source s Operation.Delete j k x a
  removed_source a h = go (cmp j k) (sym (setting_removed j k s) ∙ h)
    where
      go : Cmp j k → cond (eqb j k) none (setting_in k s) ≡ some x → Source s Operation.Delete j k x a
      go (diff d) t = elsewhere Operation.Delete a none d t
      go (same i) t = absurd (no_setting x (rw (eqb_same j k i) at t))

  delete_source : (t : Bool) → setting_in k (map_left_by s Operation.Delete j (cond t OperationAnswer.Deleted OperationAnswer.Absent)) ≡ some x
      → Source s Operation.Delete j k x (cond t OperationAnswer.Deleted OperationAnswer.Absent)
  unfolding map_left_by plain_after is_no_page answer_number
  delete_source true h = removed_source OperationAnswer.Deleted h
  delete_source false h = removed_source OperationAnswer.Absent h

  -- The plain answer, and "no page".
  plain_source : (o : Operation) → setting_in k (map_left_by s o j (plain_answer s o j)) ≡ some x → Source s o j k x (plain_answer s o j)
  unfolding plain_answer
  plain_source Operation.Find h = find_source (setting_in j s) h
  plain_source (Operation.Insert y) h = insert_source y (has_key j s) refl h
  plain_source Operation.Delete h = delete_source (has_key j s) h

  short_source : (o : Operation) (a : OperationAnswer) → is_no_page a ≡ true → setting_in k (map_left_by s o j a) ≡ some x → Source s o j k x a
  unfolding map_left_by is_no_page is_change answer_number
  short_source o a e h =
      had (ap (λ (n : ℕ). eqb j k && (eqb n 1 || eqb n 3)) (eqb-true (answer_number a) 5 e) ∙ and-false (eqb j k)) (sym (ap (λ (t : Bool). setting_in k (cond t s (plain_after s o j))) e) ∙ h)

  source : (o : Operation) (a : OperationAnswer) → answers_as_map s o j a ≡ true → setting_in k (map_left_by s o j a) ≡ some x → Source s o j k x a
  unfolding answers_as_map
  source o a h g = go (or_either (same_answer a (plain_answer s o j)) (is_no_page a && may_lack_pages s o j) h)
    where
      go : (same_answer a (plain_answer s o j) ≡ true) ⊎ ((is_no_page a && may_lack_pages s o j) ≡ true) → Source s o j k x a
      go (inr e) = short_source o a (and_both (is_no_page a) (may_lack_pages s o j) e).0 g
      go (inl e) =
          let i = answers_same a (plain_answer s o j) e in
          subst (Source s o j k x) (sym i) (plain_source o (subst (λ (b : OperationAnswer). setting_in k (map_left_by s o j b) ≡ some x) i g))

-- ---- An order of operations

came_from : (s : PlainMap) (xs : List Linearized) → answers_in_order s xs ≡ true → (k : ℕ) (x : Value) → setting_in k (map_after s xs) ≡ some x → Came s k x xs
unfolding answers_in_order map_after leaves_key changes_key
came_from s [] h k x g = from_before g refl
came_from s (y ∷ ys) h k x g =
    let o = y.operated in
    let f = and_both (answers_as_map s o.operation o.key y.answer) (answers_in_order (map_left_by s o.operation o.key y.answer) ys) h in
    go f.0 (came_from (map_left_by s o.operation o.key y.answer) ys f.1 k x g)
  where
    at_first : leaves_key k ys ≡ true → Source s y.operated.operation y.operated.key k x y.answer → Came s k x (y ∷ ys)
    at_first q (had e t) = from_before t (both-and (ap not e) q)
    at_first q (added o i a) = from_insert (record { front = []; insert = y; since = ys; parts = refl; with_setting = o; same_key = i; adds = a; not_since = q })

    go : answers_as_map s y.operated.operation y.operated.key y.answer ≡ true
        → Came (map_left_by s y.operated.operation y.operated.key y.answer) k x ys → Came s k x (y ∷ ys)
    go a (from_before t q) = at_first q (source s y.operated.key k x y.operated.operation y.answer a t)
    go a (from_insert l) = from_insert (record {
      front = y ∷ l.front;
      insert = l.insert;
      since = l.since;
      parts = ap (λ (zs : List Linearized). y ∷ zs) l.parts;
      with_setting = l.with_setting;
      same_key = l.same_key;
      adds = l.adds;
      not_since = l.not_since;
    })

-- An order cut at one of its operations: the answers before it are right, and its own is right after them.
answers_cut : (s : PlainMap) (xs : List Linearized) (y : Linearized) (ys : List Linearized) → answers_in_order s (xs ++ (y ∷ ys)) ≡ true
    → (answers_in_order s xs ≡ true) × (answers_as_map (map_after s xs) y.operated.operation y.operated.key y.answer ≡ true)
unfolding answers_in_order map_after
answers_cut s [] y ys h = (refl, (and_both (answers_as_map s y.operated.operation y.operated.key y.answer) _ h).0)
answers_cut s (x ∷ xs) y ys h =
    let o = x.operated in
    let f = and_both (answers_as_map s o.operation o.key x.answer) (answers_in_order (map_left_by s o.operation o.key x.answer) (xs ++ (y ∷ ys))) h in
    let rest = answers_cut (map_left_by s o.operation o.key x.answer) xs y ys f.1 in
    (both-and f.0 rest.0, rest.1)

-- What is answered found is what the map has.
found_has : (s : PlainMap) (o : Operation) (j : ℕ) (x : Value) → answers_as_map s o j (OperationAnswer.Found x) ≡ true → setting_in j s ≡ some x
unfolding answers_as_map plain_answer is_no_page answer_number found_or_absent
found_has s o j x h = go o (or_either (same_answer (OperationAnswer.Found x) (plain_answer s o j)) false h)
  where
    numbered : (a : OperationAnswer) → OperationAnswer.Found x ≡ a → answer_number a ≡ 6
    numbered a e = ap answer_number (sym e)

    looked : (t : Option Value) → OperationAnswer.Found x ≡ found_or_absent t → t ≡ some x
    looked none e = absurd (omega (arith, numbered OperationAnswer.Absent e))
    looked (some y) e = ap some cc

    changing : (t : Bool) (a b : OperationAnswer) → answer_number a ≢ 6 → answer_number b ≢ 6 → OperationAnswer.Found x ≡ cond t a b → ⊥
    changing true a b n m e = n (numbered a e)
    changing false a b n m e = m (numbered b e)

    go : (u : Operation) → (same_answer (OperationAnswer.Found x) (plain_answer s u j) ≡ true) ⊎ (false ≡ true) → setting_in j s ≡ some x
    go u (inr e) = absurd (false≢true e)
    go Operation.Find (inl e) = looked (setting_in j s) (answers_same (OperationAnswer.Found x) (found_or_absent (setting_in j s)) e)
    go (Operation.Insert y) (inl e) =
        absurd (changing (has_key j s) OperationAnswer.Present OperationAnswer.Inserted (omega arith) (omega arith) (answers_same (OperationAnswer.Found x) _ e))
    go Operation.Delete (inl e) =
        absurd (changing (has_key j s) OperationAnswer.Deleted OperationAnswer.Absent (omega arith) (omega arith) (answers_same (OperationAnswer.Found x) _ e))

-- ---- An operation in its place

-- A run enters one operation a call: two that were entered by the same call are the same.
module _ (n : ℕ) (es : List Event) (o p : Operated) (same_call : o.begun ≡ p.begun) (later : Memᴰ o (operations_from (n + 1) es) → Memᴰ p (operations_from (n + 1) es) → o ≡ p) where
  first_once : (u : Operated) → u.begun ≡ n → (o ≡ u) ⊎ Memᴰ o (operations_from (n + 1) es) → (p ≡ u) ⊎ Memᴰ p (operations_from (n + 1) es) → o ≡ p
  first_once u h (inl i) (inl j) = i ∙ sym j
  first_once u h (inl i) (inr t) = absurd (omega (arith, same_call, ap (λ (v : Operated). v.begun) i, entered_late (n + 1) es p t))
  first_once u h (inr t) (inl j) = absurd (omega (arith, same_call, ap (λ (v : Operated). v.begun) j, entered_late (n + 1) es o t))
  first_once u h (inr s) (inr t) = later s t

  entering_once : (c : Call) (r : Reply) → Memᴰ o (entering n c r es (operations_from (n + 1) es)) → Memᴰ p (entering n c r es (operations_from (n + 1) es)) → o ≡ p
  unfolding entering
  entering_once (begin_for q x k) (to_begin (Ok _)) s t = first_once _ refl (Memᴰ.cases_cons s) (Memᴰ.cases_cons t)
  entering_once (begin_for q x k) (to_begin (Err z)) s t = later s t
  entering_once (begin_for q x k) (to_step a) s t = later s t
  entering_once (begin_for q x k) (to_withdraw a) s t = later s t
  entering_once (step_for q) r s t = later s t
  entering_once (withdraw_for q) r s t = later s t

begun_once : (n : ℕ) (es : List Event) (o p : Operated) → o.begun ≡ p.begun → Memᴰ o (operations_from n es) → Memᴰ p (operations_from n es) → o ≡ p
unfolding operations_from
begun_once n [] o p e s t = absurd (Memᴰ.not-nil s)
begun_once n (x ∷ es) o p e s t = entering_once n es o p e (begun_once (n + 1) es o p e) x.call x.reply s t

-- The place of the operation that call n entered.
record Place (n : ℕ) (xs : List Linearized) : Type 0 where
  earlier : List Linearized
  here : Linearized
  later : List Linearized
  parts : xs ≡ earlier ++ (here ∷ later)
  one_of : Memᴰ here xs
  its_call : here.operated.begun ≡ n

place_of : (n : ℕ) (xs : List Linearized) → times_in n xs ≢ 0 → Place n xs
unfolding times_in
place_of n [] h = absurd (h refl)
place_of n (x ∷ xs) h = go (cmp x.operated.begun n) (place_of n xs)
  where
    go : Cmp x.operated.begun n → (times_in n xs ≢ 0 → Place n xs) → Place n (x ∷ xs)
    go (same i) rest = record { earlier = []; here = x; later = xs; parts = refl; one_of = Memᴰ.head refl; its_call = i }
    go (diff d) rest =
        let p = rest (λ z. h (rw (eqb-diff x.operated.begun n d) (omega (arith, z)))) in
        record {
          earlier = x ∷ p.earlier;
          here = p.here;
          later = p.later;
          parts = ap (λ (zs : List Linearized). x ∷ zs) p.parts;
          one_of = Memᴰ.tail p.one_of;
          its_call = p.its_call;
        }

-- ---- Every found

pub founds_right : (s : Start) (cs : List Call) (l : Linearization s cs) → FoundsRight s cs l
unfolding has_taken_effect
founds_right s cs l = record { found = in_order }
  where
    in_order : (o : Operated) (a : Ended) (x : ℕ) → IsOneOf o (operations_of (events (start s) cs)) → o.ended ≡ some a → a.answer ≡ some (OperationAnswer.Found x)
        → FoundInOrder s o x l.order
    in_order o a x m answered found =
        let once : times_in o.begun l.order ≡ 1 = l.each o m ∙ rw (answered, found) refl in
        let p = place_of o.begun l.order (λ z. omega (arith, once, z)) in
        let placed = l.placed p.here p.one_of in
        let own : p.here.operated ≡ o = begun_once 1 (events (start s) cs) p.here.operated o p.its_call placed.of_run m in
        let given : ◌≡◌ {A = Option OperationAnswer} (some p.here.answer) (some (OperationAnswer.Found x)) = sym (placed.same_answer_lem a (ap (λ (u : Operated). u.ended) own ∙ answered)) ∙ found in
        let its_answer : p.here.answer ≡ OperationAnswer.Found x = cc in
        let cut = answers_cut (map_start s) p.earlier p.here p.later (ap (answers_in_order (map_start s)) (sym p.parts) ∙ l.answers) in
        let has = found_has (map_after (map_start s) p.earlier) p.here.operated.operation p.here.operated.key x
        (ap (answers_as_map (map_after (map_start s) p.earlier) p.here.operated.operation p.here.operated.key) (sym its_answer) ∙ cut.1) in
        record {
          earlier = p.earlier;
          here = p.here;
          later = p.later;
          parts = p.parts;
          own = own;
          came = came_from (map_start s) p.earlier cut.0 o.key x (ap (λ (u : Operated). setting_in u.key (map_after (map_start s) p.earlier)) (sym own) ∙ has);
        }
