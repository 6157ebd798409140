-- How many calls an operation has left, at most: a number by step number and record that every step performed lowers.
-- Main statements: left_table, left (where an operation is led on at most `most` times); left-begun, left-some,
-- left_alike; Nearer (what an outcome leaves of it); nearer_01 to nearer_30 (all but 6, 9 and 10 on all memory).
use mathlib.Core.Path.{◌≡◌, refl, sym, ap, ◌∙◌, subst}
use mathlib.Core.Logic.{◌≢◌}
use mathlib.Core.Bool.{Bool, true, false, cond, not, ◌&&◌}
use mathlib.Core.List.{List, [], ◌∷◌}
use Prim.Native.Nat.{ℕ, zero, suc, ◌+◌, ◌-◌, ◌*◌, ◌≤◌, ◌<◌}
use native.Mathlib.Omega.{arith}
use lib.ListN.{length, get_or}
use lib.Dec.{eqb, leb, ltb}
use Rattle.std.specs.Prelude.{Ok}
use Rattle.model.specs.declared.Refusal.{Refusal}
use Rattle.model.specs.declared.Root.{Root}
use Rattle.model.specs.declared.Party.{Party}
use Rattle.model.specs.declared.Operation.{Operation}
use Rattle.model.specs.declared.OperationAnswer.{OperationAnswer}
use Rattle.model.specs.declared.Restructuring.{Restructuring}
use Rattle.model.specs.declared.StepAnswer.TheVariants as StepAnswer
use Rattle.model.specs.Records.{begun, at_step, with_lev, with_chain, with_other, with_old, with_owed}
use Rattle.model.specs.Answers.{operation_number, performs}
use Rattle.model.specs.LockWords.{Claim}
use Rattle.model.specs.Mixing.{mixed}
use Rattle.model.specs.Addresses.{hash_of, level_for, address_level, split_barred, count_of_chains}
use Rattle.model.specs.Pages.{page_of, link_of, level_of, page_sound, names_overflow, linked_page, link_to_first, entries_of, with_page, primary_page, scratch_page}
use Rattle.model.specs.Chains.{Checked, damaged, sound, and_then, sound_if, Chain, chain_of, overflow_from, list_from, pages_listed}
use Rattle.model.specs.declared.Entry.{Entry}
use Rattle.model.specs.FreeList.{too_few, Taken, pages_taken, room_to_give_back, pages_given_back}
use Rattle.model.specs.Filling.{pages_for}
use Rattle.model.specs.Outcome.{View, Outcome, with_party, refuse, moved, guarded, checked}
use Rattle.model.specs.ScratchPages.{scratch_of, with_scratch, primary_written}
use Rattle.model.specs.Endings.{done, finished, onward, old_pages_first, ended_with}
use Rattle.model.specs.LockRequests.{is_granted, with_hold, request, is_held, held_all, given_up, release, chain_selective, chain_exclusive, root_selective, root_exclusive, chain_lock}
use Rattle.model.specs.Steps.Locate.{located, step01, step02, step03, step04, step05}
use Rattle.model.specs.Steps.Chase.{Chase, chase, chase_of, arrived, chasing, step06, step07, step08}
use Rattle.model.specs.Steps.Rebuild.{split_owed, merge_owed, owed_by, Change, kept, changed, changes_nothing, changing, rebuilt, rebuild_with, step10}
use Rattle.model.specs.Steps.Write.{is_change, step11, step12}
use Rattle.model.specs.Steps.OldPages.{old_given_back, step13, step14}
use Rattle.model.specs.Steps.SplitBuild.{Halves, halves_need, divided, divide_with, step17}
use Rattle.model.specs.Steps.SplitLocks.{splitting, step15, step16, step19, step22}
use Rattle.model.specs.Steps.SplitWrite.{step18, step20, step21}
use Rattle.model.specs.Steps.MergeBuild.{Pair, pair_of, merge_goes, combined, combine_with, step26}
use Rattle.model.specs.Steps.MergeLocks.{merge_stops, merging, step23, step24, step25, step30}
use Rattle.model.specs.Steps.MergeWrite.{merged_away, partner_cleared, step27, step28, step29}
use Rattle.model.proofs.Laws.Lists.{Told, holds, fails, tell, cond_ind, ◌▸◌, Numbered, numbered_at, eqb-false, leb-true, and_both, not-both, All, count_cons}
use Rattle.model.proofs.Effects.GiveUps.{given_up_rest}
use Rattle.model.specs.Sizes.{page_words}
use Rattle.model.specs.Entries.{has_key}
use Rattle.model.specs.Memory.{Memory, view_of}
use Rattle.model.specs.Book.{Book}
use Rattle.model.specs.Steps.Find.{answered, looked_on, step09}
use Rattle.model.proofs.Laws.Filling.{IsOverflow}
use Rattle.model.proofs.Laws.Pages.{Has, page_same, page_other, length_page_of}
use Rattle.model.proofs.Laws.Structure.{Linked, SameOn, linked_frame}
use Rattle.model.proofs.Laws.Reading.{first_linked}
use Rattle.model.proofs.Invariant.Ghost.{count}
use Rattle.model.proofs.Invariant.Statement.{Walking}
use Rattle.model.proofs.Invariant.Turn.{Turn, me, before}
use Rattle.model.proofs.Invariant.Ahead.{ahead_in, ahead_linked, ahead_walked, walk_overflow}
use Rattle.theory.specs.CallsBounded.{most_with}

-- ---- What goes by the record alone

-- The calls from 10 on: an insert's split may give back old pages, which takes 13 and 14 once more.
unfoldable pub change_tail : ℕ → ℕ
change_tail operation = cond (eqb operation 2) 15 13

-- The calls from 9 on, or from 10 on.
unfoldable pub tail_of : Root → ℕ → ℕ
tail_of r operation = cond (eqb operation 1) (1 + r.overflow) (change_tail operation)

-- What is owed behind 12 to 14: 15 to 22 with 13 and 14 once more, or 23 to 30.
unfoldable pub owing : ℕ → ℕ
owing owed = cond (eqb owed 1) 10 (cond (eqb owed 2) 8 0)

-- By root, record and, for a find at 9, the pages that it has yet to copy.
abbrev Left : Type 0
Left = Root → Party → ℕ → ℕ

abbrev at_most : ℕ → Left
at_most n r p x = n

abbrev change_and : ℕ → Left
change_and n r p x = change_tail p.operation + n

abbrev owing_and : ℕ → Left
owing_and n r p x = owing p.owed + n

abbrev pages_and : ℕ → Left
pages_and n r p x = x + n

-- What a change owes, by its operation.
owing_by : (o before after : ℕ) (es : List Entry) → owing (owed_by o before after es) + 5 ≤ change_tail o
unfolding owing owed_by change_tail
owing_by o before after es = go (eqb o 2) (split_owed before after) (merge_owed es)
  where
    go : (o s g : Bool) → cond (eqb (cond o (cond s 1 0) (cond g 2 0)) 1) 10 (cond (eqb (cond o (cond s 1 0) (cond g 2 0)) 2) 8 0) + 5 ≤ cond o 15 13
    go true true g = omega arith
    go true false g = omega arith
    go false s true = omega arith
    go false s false = omega arith

change_least : (o : ℕ) → 13 ≤ change_tail o
unfolding change_tail
change_least o = cond_ind (λ (l : ℕ). 13 ≤ l) (eqb o 2) _ _ (λ _. omega arith) (λ _. omega arith)

given_up_owed : (cs : List Claim) (v : View) → (given_up cs v).party.owed ≡ v.party.owed
given_up_owed cs v = ap (λ (u : View). u.party.owed) (given_up_rest cs v)

-- Step 3 does not lower lev.
level_up : (n lev next k : ℕ) → lev ≤ address_level n lev next k
unfolding level_for
level_up n lev next k = cond_ind (λ (l : ℕ). lev ≤ l) (ltb (hash_of n lev (mixed k)) next) _ _ (λ _. omega arith) (λ _. omega arith)

-- The pages that a find at 9 has yet to copy.
abbrev pub pages_ahead : View → ℕ
pages_ahead v = ahead_in v.root v.pages v.number

-- ---- What a chase leaves

-- A chase that leaves its chain has raised lev.
pub chase_rises : (n m c d lev : ℕ) → (chase n m c d lev).chain ≢ c → lev < (chase n m c d lev).lev
unfolding chase
chase_rises n m c zero lev a = absurd (a refl)
chase_rises n m c (suc d) lev a = go (tell (eqb (hash_of n (lev + 1) m) c)) a (chase_rises n m c d (lev + 1))
  where
    go : Told (eqb (hash_of n (lev + 1) m) c)
        → (cond (eqb (hash_of n (lev + 1) m) c) (chase n m c d (lev + 1)) (record { lev = lev + 1; chain = hash_of n (lev + 1) m })).chain ≢ c
        → ((chase n m c d (lev + 1)).chain ≢ c → lev + 1 < (chase n m c d (lev + 1)).lev)
        → lev < (cond (eqb (hash_of n (lev + 1) m) c) (chase n m c d (lev + 1)) (record { lev = lev + 1; chain = hash_of n (lev + 1) m })).lev
    go (holds e) a ih = let k = ih (rw e at a) in rw e (omega (arith, k))
    go (fails e) a ih = rw e (omega arith)

-- It raises it no further than it may.
pub chase-stops : (n m c d lev : ℕ) → (chase n m c d lev).lev ≤ lev + d
unfolding chase
chase-stops n m c zero lev = omega arith
chase-stops n m c (suc d) lev = go (tell (eqb (hash_of n (lev + 1) m) c)) (chase-stops n m c d (lev + 1))
  where
    go : Told (eqb (hash_of n (lev + 1) m) c) → (chase n m c d (lev + 1)).lev ≤ lev + 1 + d
        → (cond (eqb (hash_of n (lev + 1) m) c) (chase n m c d (lev + 1)) (record { lev = lev + 1; chain = hash_of n (lev + 1) m })).lev ≤ lev + suc d
    go (holds e) ih = rw e (omega (arith, ih))
    go (fails e) ih = rw e (omega arith)

-- A list that is no damage has at most V pages, on every memory.
pub list_most : (r : Root) (ps : List ℕ) (n l : ℕ) → length (pages_listed (overflow_from r ps n l)) ≤ n
unfolding overflow_from pages_listed
list_most r ps zero l = sound_if-none (eqb l 0)
  where
    sound_if-none : (t : Bool) → length (pages_listed (sound_if t [])) ≤ 0
    sound_if-none true = omega arith
    sound_if-none false = omega arith
list_most r ps (suc n) l =
    cond_ind (λ (c : Checked (List ℕ)). length (pages_listed c) ≤ suc n) (eqb l 0) _ _ (λ _. omega arith)
    (λ _. cond_ind (λ (c : Checked (List ℕ)). length (pages_listed c) ≤ suc n) (page_sound r (page_of ps (linked_page l))) _ _
    (λ _. more (overflow_from r ps n (link_of (page_of ps (linked_page l)))) (list_most r ps n (link_of (page_of ps (linked_page l))))) (λ _. omega arith))
  where
    more : (c : Checked (List ℕ)) → length (pages_listed c) ≤ n → length (pages_listed (and_then c (λ xs. sound (linked_page l ∷ xs)))) ≤ suc n
    more damaged h = omega arith
    more (sound xs) h = omega (arith, h)

pages_ahead_most : (v : View) → pages_ahead v ≤ v.root.overflow
unfolding ahead_in list_from
pages_ahead_most v = list_most v.root v.pages v.root.overflow (link_of (scratch_of v))

module _ (most : ℕ) where
  -- ---- The measure

  -- Before a 6 with this lev.
  unfoldable pub six_for : ℕ → Root → Party → ℕ
  six_for lev r p = 3 * (most - lev) + 1 + tail_of r p.operation

  abbrev six_and : ℕ → Left
  six_and n r p x = six_for p.lev r p + n

  abbrev first_and : ℕ → Left
  first_and n r p x = six_for 0 r p + n

  -- By step number, from 0, which no operation has: so there is always one left.
  unfoldable pub left_table : List Left
  left_table =
      at_most 1 ∷ first_and 5 ∷ first_and 4 ∷ six_and 3 ∷ six_and 2 ∷ six_and 1 ∷ six_and 0 ∷ six_and 2 ∷ six_and 1 ∷ pages_and 1
      ∷ change_and 0 ∷ owing_and 4 ∷ owing_and 3 ∷ owing_and 2 ∷ owing_and 1 ∷ at_most 10 ∷ at_most 9 ∷ at_most 8 ∷ at_most 7 ∷ at_most 6
      ∷ at_most 5 ∷ at_most 4 ∷ at_most 3 ∷ at_most 8 ∷ at_most 7 ∷ at_most 6 ∷ at_most 5 ∷ at_most 4 ∷ at_most 3 ∷ at_most 2 ∷ at_most 1 ∷ []

  unfoldable pub left_at : ℕ → Left
  left_at k = get_or left_table k (at_most 1)

  unfoldable pub left : View → ℕ
  left v = left_at v.party.step v.root v.party (pages_ahead v)

  -- At the begin, where every chase leads on.
  pub left-begun : (o : Operation) (r : Root) (k x n : ℕ) → left_at 1 r (begun (operation_number o) k x) n ≡ most_with most r o
  unfolding left_at left_table six_for tail_of change_tail most_with operation_number
  left-begun Operation.Find r k x n = omega arith
  left-begun (Operation.Insert y) r k x n = omega arith
  left-begun Operation.Delete r k x n = omega arith

  -- There is always one left.
  abbrev Some : ℕ → Left → Type 0
  Some k f = (r : Root) (p : Party) (x : ℕ) → 1 ≤ f r p x

  all_some : Numbered Some 0 left_table
  unfolding left_table six_for
  all_some =
      (λ r p x. omega arith) ▸ (λ r p x. omega arith) ▸ (λ r p x. omega arith) ▸ (λ r p x. omega arith) ▸ (λ r p x. omega arith) ▸ (λ r p x. omega arith) ▸ (λ r p x. omega arith) ▸ (λ r p x. omega arith) ▸ (λ r p x. omega arith) ▸ (λ r p x. omega arith) ▸ (λ r p x. omega (arith, change_least p.operation)) ▸ (λ r p x. omega arith) ▸ (λ r p x. omega arith) ▸ (λ r p x. omega arith) ▸ (λ r p x. omega arith)
      ▸ (λ r p x. omega arith) ▸ (λ r p x. omega arith) ▸ (λ r p x. omega arith) ▸ (λ r p x. omega arith) ▸ (λ r p x. omega arith) ▸ (λ r p x. omega arith) ▸ (λ r p x. omega arith) ▸ (λ r p x. omega arith) ▸ (λ r p x. omega arith) ▸ (λ r p x. omega arith) ▸ (λ r p x. omega arith) ▸ (λ r p x. omega arith) ▸ (λ r p x. omega arith) ▸ (λ r p x. omega arith) ▸ (λ r p x. omega arith) ▸ (λ r p x. omega arith) ▸ tt

  pub left-some : (k : ℕ) (r : Root) (p : Party) (x : ℕ) → 1 ≤ left_at k r p x
  unfolding left_at
  left-some k = numbered_at Some (at_most 1) (λ n r p x. omega arith) left_table all_some k

  -- It goes by the sizes, the record and, at 9, the pages yet to copy.
  abbrev Alike : ℕ → Left → Type 0
  Alike k f = (r t : Root) (p : Party) (x y : ℕ) → t.overflow ≡ r.overflow → (k ≡ 9 → y ≡ x) → f t p y ≡ f r p x

  six_alike : (k lev : ℕ) (r t : Root) (p : Party) → t.overflow ≡ r.overflow → six_for lev t p + k ≡ six_for lev r p + k
  unfolding six_for tail_of
  six_alike k lev r t p e = rw e refl

  any_alike : (k : ℕ) (f : Party → ℕ) → Alike k (λ r p x. f p)
  any_alike k f r t p x y e h = refl

  all_alike : Numbered Alike 0 left_table
  unfolding left_table
  all_alike =
      any_alike 0 _ ▸ (λ r t p x y e h. six_alike 5 0 r t p e) ▸ (λ r t p x y e h. six_alike 4 0 r t p e) ▸ (λ r t p x y e h. six_alike 3 p.lev r t p e)
      ▸ (λ r t p x y e h. six_alike 2 p.lev r t p e) ▸ (λ r t p x y e h. six_alike 1 p.lev r t p e) ▸ (λ r t p x y e h. six_alike 0 p.lev r t p e)
      ▸ (λ r t p x y e h. six_alike 2 p.lev r t p e) ▸ (λ r t p x y e h. six_alike 1 p.lev r t p e) ▸ (λ r t p x y e h. ap (λ (n : ℕ). n + 1) (h refl))
      ▸ any_alike 10 _ ▸ any_alike 11 _ ▸ any_alike 12 _ ▸ any_alike 13 _ ▸ any_alike 14 _ ▸ any_alike 15 _ ▸ any_alike 16 _ ▸ any_alike 17 _ ▸ any_alike 18 _ ▸ any_alike 19 _
      ▸ any_alike 20 _ ▸ any_alike 21 _ ▸ any_alike 22 _ ▸ any_alike 23 _ ▸ any_alike 24 _ ▸ any_alike 25 _ ▸ any_alike 26 _ ▸ any_alike 27 _ ▸ any_alike 28 _ ▸ any_alike 29 _
      ▸ any_alike 30 _ ▸ tt

  pub left_alike : (k : ℕ) → Alike k (left_at k)
  unfolding left_at
  left_alike k = numbered_at Alike (at_most 1) (λ n. any_alike n (λ p. 1)) left_table all_alike k

  -- ---- What an outcome leaves of it

  -- Of an operation that had at most n calls left: waiting or refused; moved on, with less; or done, by the last of
  -- them.
  pub data Nearer (n : ℕ) (o : Outcome) : Type 0 where
    stays : performs o.answer ≡ false → Nearer n o
    goes : o.answer ≡ Ok StepAnswer.Moved → suc (left o.after) ≤ n → Nearer n o
    ends : (a : OperationAnswer) (s : Restructuring) → o.answer ≡ Ok (StepAnswer.Done a s) → 1 ≤ n → Nearer n o

  -- What a view has left whose step number is one of those that count no pages.
  abbrev Nexts : ℕ → ℕ → View → Type 0
  Nexts n k u = (x : ℕ) → suc (left_at k u.root u.party x) ≤ n

  module _ {n : ℕ} (v : View) where
    pub refused_nearer : (c : Refusal) → Nearer n (refuse c v)
    unfolding performs
    refused_nearer c = stays refl

    guarded_nearer : {o : Outcome} (t : Bool) → Nearer n o → Nearer n (guarded v t o)
    guarded_nearer true f = f
    guarded_nearer false f = refused_nearer Refusal.Damage

    checked_nearer : {A : Type 0} {g : A → Outcome} (c : Checked A) → ((a : A) → Nearer n (g a)) → Nearer n (checked v c g)
    checked_nearer damaged f = refused_nearer Refusal.Damage
    checked_nearer (sound a) f = f a

    either_nearer : {x y : Outcome} (t : Bool) → (t ≡ true → Nearer n x) → (t ≡ false → Nearer n y) → Nearer n (cond t x y)
    either_nearer true f g = f refl
    either_nearer false f g = g refl

    moved_nearer : (u : View) → Nexts n u.party.step u → Nearer n (moved u)
    unfolding left
    moved_nearer u h = goes refl (h (pages_ahead u))

    request_nearer : (c : Claim) (p : Party) → Nexts n p.step (with_party p v) → Nearer n (request v c p)
    unfolding request performs with_hold
    request_nearer c p h = either_nearer (is_granted v c) (λ _. moved_nearer (with_party p (with_hold c v)) h) (λ _. stays refl)

    release_nearer : (cs : List Claim) (p : Party) → Nexts n p.step (with_party p v) → Nearer n (release v cs p)
    unfolding release
    release_nearer cs p h = guarded_nearer (held_all v cs) (moved_nearer _ (λ x. subst (λ (r : Root). suc (left_at p.step r p x) ≤ n) (sym (ap (λ (u : View). u.root) (given_up_rest cs v))) (h x)))

    written_nearer : (k : ℕ) → Nexts n k (with_party (at_step k v.party) v) → Nearer n (primary_written v k)
    unfolding primary_written
    written_nearer k h = guarded_nearer (page_sound v.root (scratch_of v)) (moved_nearer _ h)

    done_nearer : (a : OperationAnswer) (s : Restructuring) (u : View) → 1 ≤ n → Nearer n (done a s u)
    done_nearer a s u h = ends a s refl h

    ended_nearer : (cs : List Claim) (s : Restructuring) → 1 ≤ n → Nearer n (ended_with v cs s)
    unfolding ended_with
    ended_nearer cs s h = guarded_nearer (held_all v cs) (done_nearer _ s (given_up cs v) h)

    finished_nearer : (u : View) → 1 ≤ n → Nearer n (finished u)
    unfolding finished
    finished_nearer u h = done_nearer _ _ u h

    -- From 12, 14 or 22: what is owed is behind it.
    onward_nearer : (u : View) → owing u.party.owed + 1 ≤ n → Nearer n (onward u)
    unfolding onward left_at left_table owing
    onward_nearer u h =
        either_nearer (eqb u.party.owed 1) (λ e. moved_nearer _ (λ x. let k = rw e at h in omega arith))
        (λ e. either_nearer (eqb u.party.owed 2) (λ f. moved_nearer _ (λ x. let k = rw (e, f) at h in omega arith)) (λ f. finished_nearer u (omega (arith, h))))

    old_pages_nearer : {o : Outcome} (u : View) → owing u.party.owed + 3 ≤ n → Nearer n o → Nearer n (old_pages_first u o)
    unfolding old_pages_first left_at left_table
    old_pages_nearer u h f = either_nearer (eqb u.party.old 0) (λ _. f) (λ _. moved_nearer _ (λ x. omega (arith, h)))

  -- ---- Every step but 6 and 9

  abbrev pub NearerStep : ℕ → (View → Outcome) → Type 0
  NearerStep k f = (v : View) (x : ℕ) → Nearer (left_at k v.root v.party x) (f v)

  pub nearer_01 : NearerStep 1 step01
  unfolding step01 left_at left_table six_for tail_of change_tail
  nearer_01 v x = request_nearer v _ _ (λ y. omega arith)

  pub nearer_02 : NearerStep 2 step02
  unfolding step02 left_at left_table six_for tail_of
  nearer_02 v x = moved_nearer v _ (λ y. omega arith)

  pub nearer_03 : NearerStep 3 step03
  unfolding step03 located left_at left_table six_for tail_of
  nearer_03 v x =
      let up = level_up v.root.originals v.party.lev v.root.next v.party.key in
      guarded_nearer v (ltb (located v.root v.party).chain v.root.primaries) (moved_nearer v _ (λ y. omega (arith, up)))

  pub nearer_04 : NearerStep 4 step04
  unfolding step04 left_at left_table six_for tail_of
  nearer_04 v x = request_nearer v _ _ (λ y. omega arith)

  pub nearer_05 : NearerStep 5 step05
  unfolding step05 left_at left_table six_for tail_of
  nearer_05 v x = release_nearer v _ _ (λ y. omega arith)

  pub nearer_07 : NearerStep 7 step07
  unfolding step07 left_at left_table six_for tail_of
  nearer_07 v x = request_nearer v _ _ (λ y. omega arith)

  pub nearer_08 : NearerStep 8 step08
  unfolding step08 left_at left_table six_for tail_of
  nearer_08 v x = release_nearer v _ _ (λ y. omega arith)

  nothing_nearer : (v : View) (a : ℕ) → v.party.owed ≡ 0 → Nearer (change_tail v.party.operation + 0) (changes_nothing v a)
  unfolding changes_nothing left_at left_table owing
  nothing_nearer v a e = moved_nearer v _ (λ y. rw e (omega (arith, change_least v.party.operation)))

  rebuilt_nearer : (v : View) (c : Chain) (a : ℕ) (es : List Entry) (t : Taken) → Nearer (change_tail v.party.operation + 0) (rebuilt v c a es t)
  unfolding rebuilt changing left_at left_table
  rebuilt_nearer v c a es t = moved_nearer v _ (λ y. omega (arith, owing_by v.party.operation (length c.pages) (pages_for v.root.capacity es) es))

  rebuild_nearer : (v : View) (c : Chain) (h : Change) → v.party.owed ≡ 0 → Nearer (change_tail v.party.operation + 0) (rebuild_with v c h)
  unfolding rebuild_with
  rebuild_nearer v c (kept a) e = nothing_nearer v a e
  rebuild_nearer v c (changed a es) e =
      let k = pages_for v.root.capacity es in
      either_nearer v (too_few v.root k) (λ _. nothing_nearer v _ e) (λ _. checked_nearer v (pages_taken v.root v.pages k) (λ t. rebuilt_nearer v c a es t))

  -- Nothing is owed before it.
  pub nearer_10 : (v : View) (x : ℕ) → v.party.owed ≡ 0 → Nearer (left_at 10 v.root v.party x) (step10 v)
  unfolding step10 left_at left_table
  nearer_10 v x e = checked_nearer v (chain_of v.root v.pages v.party.chain) (λ c. rebuild_nearer v c _ e)

  pub nearer_11 : NearerStep 11 step11
  unfolding step11 left_at left_table
  nearer_11 v x = written_nearer v 12 (λ y. omega arith)

  pub nearer_12 : NearerStep 12 step12
  unfolding step12 left_at left_table
  nearer_12 v x =
      let cs = chain_selective v.party ∷ [] in
      let u = given_up cs v in
      let e = ap owing (given_up_owed cs v) in
      guarded_nearer v (held_all v cs)
      (either_nearer v (is_change v.party.answer) (λ _. old_pages_nearer v u (omega (arith, e)) (onward_nearer v u (omega (arith, e)))) (λ _. finished_nearer v u (omega arith)))

  pub nearer_13 : NearerStep 13 step13
  unfolding step13 left_at left_table
  nearer_13 v x = guarded_nearer v (names_overflow v.root v.party.old) (request_nearer v _ _ (λ y. omega arith))

  pub nearer_14 : NearerStep 14 step14
  unfolding step14 old_given_back pages_given_back left_at left_table
  nearer_14 v x =
      let old = v.party.old in
      let cs = chain_exclusive v.party ∷ [] in
      guarded_nearer v (names_overflow v.root old)
      (checked_nearer v (list_from v.root v.pages old)
      (λ xs. guarded_nearer v (room_to_give_back v.root (length xs) && held_all v cs) (onward_nearer v (with_party (with_old 0 v.party) (given_up cs (pages_given_back xs v))) (omega arith))))

  pub nearer_15 : NearerStep 15 step15
  unfolding step15 left_at left_table
  nearer_15 v x = request_nearer v _ _ (λ y. omega arith)

  pub nearer_16 : NearerStep 16 step16
  unfolding step16 splitting left_at left_table
  nearer_16 v x = either_nearer v (split_barred (count_of_chains v.root) v.root.primaries) (λ _. ended_nearer v _ _ (omega arith)) (λ _. request_nearer v _ _ (λ y. omega arith))

  divide_nearer : (v : View) (c : Chain) (h : Halves) → Nearer 8 (divide_with v c h)
  unfolding divide_with divided left_at left_table
  divide_nearer v c h =
      let n = halves_need v.root.capacity h in
      either_nearer v (too_few v.root n) (λ _. ended_nearer v _ _ (omega arith)) (λ _. checked_nearer v (pages_taken v.root v.pages n) (λ t. moved_nearer v _ (λ y. omega arith)))

  pub nearer_17 : NearerStep 17 step17
  unfolding step17 left_at left_table
  nearer_17 v x =
      guarded_nearer v (not (split_barred (count_of_chains v.root) v.root.primaries))
      (checked_nearer v (chain_of v.root v.pages v.party.chain) (λ c. divide_nearer v c _))

  pub nearer_18 : NearerStep 18 step18
  unfolding step18 left_at left_table
  nearer_18 v x = written_nearer v 19 (λ y. omega arith)

  pub nearer_19 : NearerStep 19 step19
  unfolding step19 left_at left_table
  nearer_19 v x = release_nearer v _ _ (λ y. omega arith)

  pub nearer_20 : NearerStep 20 step20
  unfolding step20 left_at left_table
  nearer_20 v x = moved_nearer v _ (λ y. omega arith)

  pub nearer_21 : NearerStep 21 step21
  unfolding step21 left_at left_table
  nearer_21 v x = moved_nearer v _ (λ y. omega arith)

  pub nearer_22 : NearerStep 22 step22
  unfolding step22 left_at left_table owing
  nearer_22 v x =
      let cs = root_selective ∷ [] in
      let u = with_party (with_owed 3 v.party) (given_up cs v) in
      guarded_nearer v (held_all v cs) (old_pages_nearer v u (omega arith) (finished_nearer v u (omega arith)))

  pub nearer_23 : NearerStep 23 step23
  unfolding step23 left_at left_table
  nearer_23 v x = request_nearer v _ _ (λ y. omega arith)

  pub nearer_24 : NearerStep 24 step24
  unfolding step24 merging left_at left_table
  nearer_24 v x = either_nearer v (merge_stops v.root) (λ _. ended_nearer v _ _ (omega arith)) (λ _. request_nearer v _ _ (λ y. omega arith))

  pub nearer_25 : NearerStep 25 step25
  unfolding step25 left_at left_table
  nearer_25 v x = request_nearer v _ _ (λ y. omega arith)

  combine_nearer : (v : View) (m : Pair) → Nearer 5 (combine_with v m)
  unfolding combine_with combined left_at left_table
  combine_nearer v m = either_nearer v (merge_goes v.root m) (λ _. moved_nearer v _ (λ y. omega arith)) (λ _. ended_nearer v _ _ (omega arith))

  pub nearer_26 : NearerStep 26 step26
  unfolding step26 left_at left_table
  nearer_26 v x =
      guarded_nearer v (not (merge_stops v.root)) (checked_nearer v (pair_of v.root v.pages v.party.chain v.party.other) (λ m. combine_nearer v m))

  pub nearer_27 : NearerStep 27 step27
  unfolding step27 left_at left_table
  nearer_27 v x = guarded_nearer v (not (merge_stops v.root) && is_held v root_exclusive) (moved_nearer v _ (λ y. omega arith))

  pub nearer_28 : NearerStep 28 step28
  unfolding step28 left_at left_table
  nearer_28 v x = guarded_nearer v (page_sound v.root (scratch_of v) && not (eqb (level_of (scratch_of v)) 0)) (moved_nearer v _ (λ y. omega arith))

  pub nearer_29 : NearerStep 29 step29
  unfolding step29 partner_cleared pages_given_back left_at left_table
  nearer_29 v x = checked_nearer v (merged_away v.root v.pages v.party) (λ xs. moved_nearer v _ (λ y. omega arith))

  pub nearer_30 : NearerStep 30 step30
  unfolding step30 left_at left_table
  nearer_30 v x = ended_nearer v _ _ (omega arith)

  -- ---- 6

  -- 6, where the page's local level is at most that: to 7 with lev raised, or to 9 or 10.
  pub nearer_06 : (v : View) (x : ℕ) → level_of (page_of v.pages (primary_page v.party.chain)) ≤ most → Nearer (left_at 6 v.root v.party x) (step06 v)
  unfolding step06 chase_of arrived chasing left left_at left_table six_for tail_of
  nearer_06 v x fits = go (tell (page_sound v.root w && leb p.lev (level_of w) && ltb t.chain v.root.primaries)) (tell (leb p.lev (level_of w))) (tell (eqb t.chain p.chain)) (tell (eqb p.operation 1))
    where
      p : Party
      p = v.party

      w : List ℕ
      w = page_of v.pages (primary_page p.chain)

      t : Chase
      t = chase v.root.originals (mixed p.key) p.chain (level_of w - p.lev) p.lev

      stops : t.lev ≤ p.lev + (level_of w - p.lev)
      stops = chase-stops v.root.originals (mixed p.key) p.chain (level_of w - p.lev) p.lev

      go : Told (page_sound v.root w && leb p.lev (level_of w) && ltb t.chain v.root.primaries) → Told (leb p.lev (level_of w)) → Told (eqb t.chain p.chain) → Told (eqb p.operation 1)
          → Nearer (3 * (most - p.lev) + 1 + cond (eqb p.operation 1) (1 + v.root.overflow) (change_tail p.operation) + 0)
          (guarded v (page_sound v.root w && leb p.lev (level_of w) && ltb t.chain v.root.primaries) (moved (with_party (cond (eqb t.chain p.chain) (at_step (cond (eqb p.operation 1) 9 10) (with_lev t.lev p)) (at_step 7 (with_lev t.lev (with_chain t.chain (with_other p.chain p))))) (with_scratch w v))))
      go (fails e) l c o = rw e (refused_nearer v Refusal.Damage)
      go (holds e) (fails l) c o = absurd (not-both (leb p.lev (level_of w)) (and_both (page_sound v.root w) (leb p.lev (level_of w)) (and_both (page_sound v.root w && leb p.lev (level_of w)) (ltb t.chain v.root.primaries) e).0).1 l)
      go (holds e) (holds l) (holds c) (holds o) = rw (e, c, o) (goes refl (omega (arith, pages_ahead_most (with_party (at_step 9 (with_lev t.lev p)) (with_scratch w v)))))
      go (holds e) (holds l) (holds c) (fails o) = rw (e, c, o) (goes refl (omega arith))
      go (holds e) (holds l) (fails c) o =
          let reach = leb-true p.lev (level_of w) l in
          let up = chase_rises v.root.originals (mixed p.key) p.chain (level_of w - p.lev) p.lev (eqb-false t.chain p.chain c) in
          rw (e, c) (goes refl (omega (arith, stops, reach, up, fits)))

  -- ---- 9

  module _ {m : Memory} {b : Book} {q : ℕ} (t : Turn m b q 9) where
    abbrev walk : Walking (before t) q (me t) t.entered
    walk = t.facts

    abbrev seen : View
    seen = view_of m q

    ahead_now : pages_ahead seen ≡ length walk.rest
    ahead_now = ahead_walked m b t.inv q (me t) t.entered walk

    module _ (x : ℕ) (xs : List ℕ) (rest_is : walk.rest ≡ x ∷ xs) where
      abbrev page : List ℕ
      page = page_of m.pages x

      linked : Linked m.root m.pages (x ∷ xs)
      linked = subst (Linked m.root m.pages) rest_is walk.linked

      overflows : All (IsOverflow m.root) (x ∷ xs)
      overflows = subst (All (IsOverflow m.root)) rest_is (walk_overflow m b t.inv q (me t) t.entered walk)

      once_more : (y : ℕ) → count y xs ≤ 1
      once_more y = omega (arith, count_cons y x xs, ap (count y) rest_is, walk.once y)

      has_scratch : Has m.pages (scratch_page m.root q)
      has_scratch = record { fits = omega (arith, t.inv.pages_many, t.in_row) }

      page_long : length page ≡ page_words
      page_long = length_page_of (record { fits = omega (arith, t.inv.pages_many, overflows.0.below) })

      abbrev pages_then : List ℕ
      pages_then = with_page m.pages (scratch_page m.root q) page

      same_on_all : (ys : List ℕ) → All (IsOverflow m.root) ys → SameOn m.pages pages_then ys
      same_on_all [] a = tt
      same_on_all (y ∷ ys) a = (page_other m.pages (scratch_page m.root q) page has_scratch page_long y (omega (arith, a.0.below)), same_on_all ys a.1)

      scratch_then : page_of pages_then (scratch_page m.root q) ≡ page
      scratch_then = page_same m.pages (scratch_page m.root q) page has_scratch page_long

      ahead_then : pages_ahead (with_scratch page seen) ≡ length xs
      ahead_then =
          ahead_linked m.root pages_then q xs (ap link_of scratch_then ∙ linked.1)
          (linked_frame m.root m.pages pages_then xs (same_on_all xs overflows.1) linked.2) overflows.1 once_more

    looks_nearer : (xs : List ℕ) → walk.rest ≡ xs → link_of (scratch_of seen) ≢ 0 → Nearer (pages_ahead seen + 1) (looked_on seen)
    unfolding looked_on link_to_first left left_at left_table
    looks_nearer [] e n = absurd (n (walk.link ∙ ap link_to_first e))
    looks_nearer (x ∷ xs) e n =
        let named : linked_page (link_of (scratch_of seen)) ≡ x = ap (λ (l : ℕ). linked_page l) (walk.link ∙ ap link_to_first e) ∙ first_linked x xs in
        rw named (guarded_nearer seen (page_sound m.root (page_of m.pages x)) (goes refl (rw t.is_at (omega (arith, ahead_now, ap length e, ahead_then x xs e)))))

    answered_nearer : (a : OperationAnswer) → Nearer (pages_ahead seen + 1) (answered seen a)
    unfolding answered
    answered_nearer a = let cs = chain_lock (me t) ∷ [] in guarded_nearer seen (held_all seen cs) (done_nearer seen a _ (given_up cs seen) (omega arith))

    pub nearer_09 : Nearer (left_at 9 m.root (me t) (pages_ahead seen)) (step09 seen)
    unfolding step09 left_at left_table
    nearer_09 =
        guarded_nearer seen (page_sound m.root (scratch_of seen))
        (either_nearer seen (has_key (me t).key (entries_of (scratch_of seen))) (λ _. answered_nearer _)
        (λ _. either_nearer seen (eqb (link_of (scratch_of seen)) 0) (λ _. answered_nearer _) (λ e. looks_nearer walk.rest refl (eqb-false (link_of (scratch_of seen)) 0 e))))
