-- Insert and delete, alone: steps 10 to 14, and the split or merge that is owed, end as the yardstick says.
-- Main statements: onward_file and changed_file (the yardstick, by what is owed and by what the operation makes of its chain), insert_is,
-- delete_is; unchanged_ends, from_12, from_11, from_10; insert_ends, delete_ends.
use mathlib.Core.Path.{◌≡◌, refl, sym, ap, ◌∙◌, subst}
use mathlib.Core.Bool.{Bool, true, false, cond}
use mathlib.Core.List.{List, [], ◌∷◌}
use mathlib.Core.Option.{Option, some}
use Prim.Native.Nat.{ℕ, ◌+◌, ◌-◌, ◌≤◌, ◌<◌}
use native.Mathlib.Omega.{arith}
use lib.ListN.{length}
use lib.Dec.{eqb}
use Rattle.model.specs.declared.Root.{Root}
use Rattle.model.specs.declared.Party.{Party}
use Rattle.model.specs.declared.Operation.{Operation}
use Rattle.model.specs.declared.OperationAnswer.{OperationAnswer}
use Rattle.model.specs.declared.Restructuring.TheVariants as Restructuring
use Rattle.model.specs.Records.{at_step, with_old, with_answer, with_free_list}
use Rattle.model.specs.Answers.{operation_number, answer_number, answer_of, restructuring_of}
use Rattle.model.specs.declared.Entry.{Entry}
use Rattle.model.specs.Entries.{has_key, inserted_into, removed_from, entry_of}
use Rattle.model.specs.Pages.{page_of, with_page, page_sound, primary_page, scratch_page, link_to_first}
use Rattle.model.specs.Chains.{Chain, sound, list_from}
use Rattle.model.specs.Filling.{pages_for}
use Rattle.model.specs.FreeList.{too_few, pages_taken, root_after_taking}
use Rattle.model.specs.Outcome.{View, Outcome, with_party, with_pages, moved, checked}
use Rattle.model.specs.ScratchPages.{scratch_of, primary_written}
use Rattle.model.specs.LockRequests.{held_all, given_up, chain_selective}
use Rattle.model.specs.Memory.{Memory}
use Rattle.model.specs.Book.{Book, Entered, contents_at_eleven, note_for, note_step, after_reply}
use Rattle.model.specs.Ready.{viewing}
use Rattle.theory.specs.Sequential.{File, Finished, finishes, records_at, with_records}
use Rattle.theory.proofs.Singly.StepWords.{pages_in_use, free_in, short_of, chains_in, parted, rejoined, home_in, split_file, merge_file, added, insert_in, removed, delete_in}
use Rattle.model.specs.Steps.Rebuild.{Change, kept, changed, change_of, split_owed, merge_owed, owed_by, changes_nothing, changing, rebuilt, rebuild_with, step10}
use Rattle.model.specs.Endings.{finished, onward, old_pages_first}
use Rattle.model.specs.Steps.Write.{is_change, step11, step12}
use Rattle.model.specs.Steps.Dispatch.{has_step, step_of, step_table}
use Rattle.model.proofs.Laws.Lists.{Told, holds, fails, tell, cond-true, cond-false, eqb_same, eqb-diff, ltb-false}
use Rattle.model.proofs.Laws.Structure.{Linked}
use Rattle.model.proofs.Laws.Reading.{linked_list}
use Rattle.model.proofs.Laws.Changes.{ChangeMade, change_made}
use Rattle.model.proofs.Invariant.Ghost.{in_chain, size, local_level}
use Rattle.model.proofs.Invariant.Statement.{scene_of, Inv}
use Rattle.model.proofs.Invariant.Advance.{home_inside}
use Rattle.model.proofs.Invariant.Frame.{SameLimits}
use Rattle.model.proofs.Invariant.Facts.{At}
use Rattle.model.proofs.Effects.OwnRecord.{same_limits}
use Rattle.model.proofs.Effects.Operations.{Decided, decided}
use Rattle.model.proofs.Effects.GiveUps.{given_up_rest}
use Rattle.model.proofs.Effects.BuiltChain.{chain_found}
use Rattle.model.proofs.Theorems.Calls.{StepsKept}
use Rattle.theory.proofs.Singly.Files.{extent_of, home, Holding, holding_changed}
use Rattle.theory.proofs.SizesStay.{sizes_same}
use Rattle.theory.proofs.Singly.AtRest.{use_set}
use Rattle.theory.proofs.Singly.Alone.{Alone, left_at, book_on, live-alone, records_alone, limits_free, scratch_long, many_alone, written_linked, at_alone, Performed, performs-as, performed, guarded_open, checked_open, alone_after, alone_moves, Ends, goes_on, plain, live-plain, root_extent_ok, moves_on, ends_there}
use Rattle.theory.proofs.Singly.Locate.{Arrival}
use Rattle.theory.proofs.Singly.Leave.{Onward, goes_onward, leaves-first}
use Rattle.theory.proofs.Singly.Split.{short_alone, split_ends}
use Rattle.theory.proofs.Singly.Merge.{merge_ends}

-- ---- The yardstick by what is owed, and by the change

-- After a change with this answer left the file g: an owed split, an owed merge, or the end.
unfoldable pub onward_file : Root → File → OperationAnswer → ℕ → Finished
onward_file r g y owed = cond (eqb owed 1) (split_file r g y) (cond (eqb owed 2) (merge_file r g y) (finishes y (restructuring_of owed) g))

-- What operation o, by its number, makes of chain c.
unfoldable pub changed_file : Root → File → ℕ → ℕ → Change → Finished
changed_file r f o c (kept n) = finishes (answer_of n) Restructuring.None f
changed_file r f o c (changed n es) =
    cond (short_of r f (pages_for r.capacity es)) (finishes OperationAnswer.NoPage Restructuring.None f)
    (onward_file r (with_records f c es) (answer_of n) (owed_by o (pages_for r.capacity (records_at f c)) (pages_for r.capacity es) es))

pub insert_is : (r : Root) (f : File) (k x : ℕ) → changed_file r f 2 (home_in r f k) (change_of 2 k x (records_at f (home_in r f k))) ≡ insert_in r f k x
unfolding changed_file change_of insert_in added owed_by onward_file answer_number answer_of restructuring_of
insert_is r f k x = go (has_key k es)
  where
    es : List Entry
    es = records_at f (home_in r f k)

    new : List Entry
    new = inserted_into (entry_of k x) es

    owes : (t : Bool) → onward_file r (with_records f (home_in r f k) new) OperationAnswer.Inserted (cond t 1 0)
        ≡ cond t (split_file r (with_records f (home_in r f k) new) OperationAnswer.Inserted) (finishes OperationAnswer.Inserted Restructuring.None (with_records f (home_in r f k) new))
    owes true = refl
    owes false = refl

    go : (t : Bool) → changed_file r f 2 (home_in r f k) (cond t (kept 2) (changed 1 new)) ≡ cond t (finishes OperationAnswer.Present Restructuring.None f) (added r f (home_in r f k) es new)
    go true = refl
    go false =
        ap (cond (short_of r f (pages_for r.capacity new)) (finishes OperationAnswer.NoPage Restructuring.None f)) (owes (split_owed (pages_for r.capacity es) (pages_for r.capacity new)))

pub delete_is : (r : Root) (f : File) (k x : ℕ) → changed_file r f 3 (home_in r f k) (change_of 3 k x (records_at f (home_in r f k))) ≡ delete_in r f k
unfolding changed_file change_of delete_in removed owed_by onward_file answer_number answer_of restructuring_of
delete_is r f k x = go (has_key k es)
  where
    es : List Entry
    es = records_at f (home_in r f k)

    new : List Entry
    new = removed_from k es

    owes : (t : Bool) → onward_file r (with_records f (home_in r f k) new) OperationAnswer.Deleted (cond t 2 0)
        ≡ cond t (merge_file r (with_records f (home_in r f k) new) OperationAnswer.Deleted) (finishes OperationAnswer.Deleted Restructuring.None (with_records f (home_in r f k) new))
    owes true = refl
    owes false = refl

    go : (t : Bool) → changed_file r f 3 (home_in r f k) (cond t (changed 3 new) (kept 4)) ≡ cond t (removed r f (home_in r f k) new) (finishes OperationAnswer.Absent Restructuring.None f)
    go true = ap (cond (short_of r f (pages_for r.capacity new)) (finishes OperationAnswer.NoPage Restructuring.None f)) (owes (merge_owed new))
    go false = refl

-- ---- The yardstick goes by the sizes alone

split_sizes : (r t : Root) → SameLimits r t → (g : File) (y : OperationAnswer) → split_file t g y ≡ split_file r g y
unfolding split_file short_of free_in chains_in parted
split_sizes r t z g y = ap (λ (u : Root). split_file u g y) (sizes_same r t z)

merge_sizes : (r t : Root) → SameLimits r t → (g : File) (y : OperationAnswer) → merge_file t g y ≡ merge_file r g y
unfolding merge_file short_of free_in chains_in rejoined
merge_sizes r t z g y = ap (λ (u : Root). merge_file u g y) (sizes_same r t z)

-- What is asked of the run once the chain is left, met by the split and the merge run alone.
onward_met : StepsKept → (r : Root) (q : ℕ) (p : Party) (g : File) → Onward r q p g (onward_file r g (answer_of p.answer) p.owed)
unfolding onward_file
onward_met steps r q p g = record {
  to-split = λ e m b a z. subst (Ends m q) (split_sizes r m.root z g y ∙ sym (cond-true (eqb p.owed 1) (split_file r g y) rest (eqb_same p.owed 1 e)))
      (split_ends steps q g m b (at_step 15 p) a refl);
  to_merge = λ e m b a z. subst (Ends m q)
      (merge_sizes r m.root z g y ∙ sym (cond-true (eqb p.owed 2) (merge_file r g y) stop (eqb_same p.owed 2 e))
      ∙ sym (cond-false (eqb p.owed 1) (split_file r g y) rest (eqb-diff p.owed 1 (omega arith))))
      (merge_ends steps q g m b (at_step 23 p) a refl);
  stops = λ d e. cond-false (eqb p.owed 1) (split_file r g y) rest (eqb-diff p.owed 1 d) ∙ cond-false (eqb p.owed 2) (merge_file r g y) stop (eqb-diff p.owed 2 e);
}
  where
    y : OperationAnswer
    y = answer_of p.answer

    stop : Finished
    stop = finishes y (restructuring_of p.owed) g

    rest : Finished
    rest = cond (eqb p.owed 2) (merge_file r g y) stop

-- ---- 12

module _ (steps : StepsKept) (q : ℕ) where
  -- Locks given up, then as the answer says.
  module _ (m : Memory) (b : Book) (p : Party) (g : File) (out : ℕ) (a : Alone m b q p g out) (is_12 : p.step ≡ 12) where
    abbrev lent : View
    lent = viewing m.root p q m.locks m.pages

    abbrev ls : List ℕ
    ls = (given_up (chain_selective p ∷ []) lent).locks

    abbrev v : View
    v = viewing m.root p q ls m.pages

    given_up_ok : Performed m b q (cond (is_change p.answer) (old_pages_first v (onward v)) (finished v))
    unfolding step_of step_table step12
    given_up_ok =
        let cs = chain_selective p ∷ [] in
        let w = performed steps m b q p g out a 11 step12 is_12 refl in
        let next : View → Outcome = λ u. cond (is_change p.answer) (old_pages_first u (onward u)) (finished u) in
        performs-as (guarded_open lent (held_all lent cs) (next (given_up cs lent)) w.kept.allowed ∙ ap next (given_up_rest cs lent)) w

  -- Nothing was changed: done.
  pub unchanged_ends : (m : Memory) (b : Book) (p : Party) (f : File) → Alone m b q p f 0 → p.step ≡ 12 → is_change p.answer ≡ false → p.owed ≡ 0
      → Ends m q (finishes (answer_of p.answer) Restructuring.None f)
  unfolding finished restructuring_of plain
  unchanged_ends m b p f a e h o =
      let none_made = performs-as (cond-false (is_change p.answer) _ _ h) (given_up_ok m b p f 0 a e) in
      let done_with : restructuring_of p.owed ≡ Restructuring.None = ap restructuring_of o in
      subst (λ s. Ends m q (finishes (answer_of p.answer) s f)) done_with
      (ends_there m b q p f 0 a 12 p (ls m b p f 0 a e) m.pages (answer_of p.answer) (restructuring_of p.owed) e refl (omega arith) refl none_made)

  -- A change was made, and the pages xs are old.
  pub from_12 : (xs : List ℕ) (m : Memory) (b : Book) (p : Party) (g : File) → Alone m b q p g (length xs) → p.step ≡ 12 → is_change p.answer ≡ true
      → p.old ≡ link_to_first xs → Linked m.root m.pages xs → Ends m q (onward_file m.root g (answer_of p.answer) p.owed)
  unfolding plain
  from_12 xs m b p g a e h link linked =
      let y = onward_file m.root g (answer_of p.answer) p.owed in
      let made = performs-as (cond-true (is_change p.answer) _ _ h) (given_up_ok m b p g (length xs) a e) in
      leaves-first steps q g y m b p 12 e refl (omega arith) p (ls m b p g (length xs) a e) (onward (v m b p g (length xs) a e)) (onward_met steps m.root q (with_old 0 p) g) xs a link
      (ap (list_from m.root m.pages) link ∙ linked_list m.root m.pages xs linked (omega (arith, a.whole))) made
      (λ _ c u. goes_onward m b q p g 0 c y 12 e refl (omega arith) m.root.head m.root.free p (ls m b p g (length xs) a e) m.pages (omega (arith, c.whole))
      (onward_met steps m.root q p g) u)

-- ---- 11

-- What the book's map is after step 11.
contents_eleven : (b : Book) (q : ℕ) (e : Entered) → b.entries q ≡ some e → (note_for b q (b.entries q) 11).contents ≡ contents_at_eleven e.operation e.key b.contents
unfolding note_for note_step
contents_eleven b q e h = ap (λ (z : Option Entered). (note_for b q z 11).contents) h

module _ (steps : StepsKept) (m : Memory) (b : Book) (q : ℕ) (p : Party) (f : File) (out : ℕ) (a : Alone m b q p f out) (is_11 : p.step ≡ 11)
    (at_home : p.chain ≡ home m.root.originals (extent_of f) p.key) (new : List Entry)
    (change : change_of p.operation p.key p.setting (records_at f p.chain) ≡ changed p.answer new) (out_is : out ≡ pages_for m.root.capacity new) where
  abbrev r : Root
  r = m.root

  abbrev lent₁ : View
  lent₁ = viewing m.root p q m.locks m.pages

  at_11 : At 11 (scene_of m a.inv.ghost b) q p
  at_11 = at_alone m b q p f out a 10 is_11

  some_original : 0 < r.originals
  some_original = a.inv.limits.some_original

  chain_inside : p.chain < size r.originals (extent_of f)
  chain_inside = rw at_home (home_inside r.originals (extent_of f) a.holding.next_fits some_original p.key)

  chain_live : p.chain < size r.originals a.inv.ghost.live
  chain_live = rw (live-alone m b q p f out a) chain_inside

  abbrev xs : List ℕ
  xs = a.inv.ghost.held (in_chain p.chain)

  many : length xs ≡ pages_for r.capacity (records_at f p.chain)
  many = many_alone m b q p f out a p.chain chain_live

  abbrev pages_then : List ℕ
  pages_then = with_page m.pages (primary_page p.chain) (page_of m.pages (scratch_page r q))

  linked_then : Linked r pages_then xs
  linked_then = written_linked m b q p f out a p.chain (page_of m.pages (scratch_page r q)) at_11.busy.chain_fits (scratch_long m b q p f out a) p.chain chain_live

  abbrev o : Operation
  o = at_11.entered.operation

  made : ChangeMade o p.key (records_at f p.chain) p.answer new
  made =
      change_made p.key p.setting (records_at f p.chain) p.answer new o p.operation at_11.busy.same_operation at_11.busy.same_setting
      (ap (has_step p.operation) (sym is_11) ∙ at_11.busy.step_fits) change

  abbrev g : File
  g = with_records f p.chain new

  contents_then : (book_on b q p).contents ≡ contents_at_eleven o p.key b.contents
  contents_then =
      ap (λ (n : ℕ). (note_for b q (b.entries q) n).contents) is_11 ∙ contents_eleven b q at_11.entered at_11.busy.entry
      ∙ ap (λ (k : ℕ). contents_at_eleven o k b.contents) at_11.busy.same_key

  holding_then : Holding r.originals g (book_on b q p).contents
  holding_then =
      subst (Holding r.originals g) (sym contents_then)
      (subst (λ (es : List Entry). Holding r.originals (with_records f p.chain es) (contents_at_eleven o p.key b.contents)) (sym made.records)
      (subst (λ (c : ℕ). Holding r.originals (with_records f c (contents_at_eleven o p.key (records_at f c))) (contents_at_eleven o p.key b.contents)) (sym at_home)
      (holding_changed r.originals f b.contents a.holding some_original p.key o)))

  whole_then : r.free + length xs + pages_in_use r.capacity g.chains ≡ r.overflow
  unfolding with_records records_at
  whole_then = omega (arith, a.whole, out_is, many, use_set r.capacity f.chains p.chain new (omega (arith, a.holding.as_many, chain_inside)))

  is_change_ok : is_change p.answer ≡ true
  unfolding is_change answer_number
  is_change_ok = ap is_change made.made ∙ either (eqb (operation_number o) 2)
    where
      either : (t : Bool) → is_change (cond t 1 3) ≡ true
      either true = refl
      either false = refl

  pub from_11 : Ends m q (onward_file m.root (with_records f p.chain new) (answer_of p.answer) p.owed)
  unfolding step_of step_table step11 primary_written plain after_reply with_records
  from_11 =
      let w = performed steps m b q p f out a 10 step11 is_11 refl in
      let x = at_step 12 p in
      let w₁ = performs-as (guarded_open lent₁ (page_sound r (scratch_of lent₁)) (moved (with_party x (with_pages pages_then lent₁))) w.kept.allowed) w in
      goes_on m (left_at m q r x m.locks pages_then) q (onward_file r g (answer_of p.answer) p.owed) w₁.call
      (from_12 steps q xs (left_at m q r x m.locks pages_then) (book_on b q p) x g
      (alone_after m b q p f out a r x m.locks pages_then g (length xs) (same_limits r) (book_on b q p)
      (subst (λ (z : Party). Inv (left_at m q r x m.locks pages_then) (book_on b q z)) a.mine (w₁.kept.inv _ w₁.row))
      (root_extent_ok m b q p f out a 11 is_11 refl ∙ sym (live-plain r x 12 refl refl)) holding_then whole_then) refl is_change_ok at_11.facts.keeps_link linked_then)

-- ---- 10

onward_sizes : (r t : Root) → SameLimits r t → (g : File) (y : OperationAnswer) (w : ℕ) → onward_file t g y w ≡ onward_file r g y w
unfolding onward_file
onward_sizes r t z g y w =
    ap (λ (u : Finished). cond (eqb w 1) u (cond (eqb w 2) (merge_file t g y) (finishes y (restructuring_of w) g))) (split_sizes r t z g y)
    ∙ ap (λ (u : Finished). cond (eqb w 1) (split_file r g y) (cond (eqb w 2) u (finishes y (restructuring_of w) g))) (merge_sizes r t z g y)

module _ (steps : StepsKept) (m : Memory) (b : Book) (q : ℕ) (p : Party) (f : File) (a : Alone m b q p f 0) (is_10 : p.step ≡ 10)
    (at_home : p.chain ≡ home m.root.originals (extent_of f) p.key) where
  abbrev r₀ : Root
  r₀ = m.root

  abbrev lent₀ : View
  lent₀ = viewing m.root p q m.locks m.pages

  at_10 : At 10 (scene_of m a.inv.ghost b) q p
  at_10 = at_alone m b q p f 0 a 9 is_10

  chain_live₀ : p.chain < size r₀.originals a.inv.ghost.live
  chain_live₀ = rw (at_home, live-alone m b q p f 0 a) (home_inside r₀.originals (extent_of f) a.holding.next_fits a.inv.limits.some_original p.key)

  abbrev chain_with : List Entry → Chain
  chain_with es = record {
    level = local_level r₀.originals a.inv.ghost.live p.chain;
    link = link_to_first (a.inv.ghost.held (in_chain p.chain));
    pages = a.inv.ghost.held (in_chain p.chain);
    entries = es;
  }

  abbrev es : List Entry
  es = records_at f p.chain

  abbrev whole : Chain
  whole = chain_with (records_at f p.chain)

  looked_through_ok : Performed m b q (rebuild_with lent₀ whole (change_of p.operation p.key p.setting es))
  unfolding step_of step_table step10
  looked_through_ok =
      performs-as
      (ap (λ c. checked lent₀ c (λ d. rebuild_with lent₀ d (change_of p.operation p.key p.setting d.entries)))
      (chain_found m b a.inv p.chain chain_live₀ ∙ ap (λ (l : List Entry). sound (chain_with l)) (records_alone m b q p f 0 a p.chain chain_live₀)))
      (performed steps m b q p f 0 a 9 step10 is_10 refl)

  -- Nothing changes, with this answer.
  keeps : (n : ℕ) → is_change n ≡ false → Performed m b q (changes_nothing lent₀ n) → Ends m q (finishes (answer_of n) Restructuring.None f)
  unfolding changes_nothing plain
  keeps n h w =
      let x = at_step 12 (with_answer n p) in
      moves_on m b q p f 0 a 10 12 x m.locks m.pages (finishes (answer_of n) Restructuring.None f) is_10 refl refl refl (omega arith) w
      (λ c. unchanged_ends steps q (left_at m q r₀ x m.locks m.pages) (book_on b q p) x f c refl h at_10.facts.0.nothing_owed)

  module _ (n : ℕ) (new : List Entry) (change : change_of p.operation p.key p.setting (records_at f p.chain) ≡ changed n new) where
    abbrev need : ℕ
    need = pages_for r₀.capacity new

    abbrev goal_then : Finished
    goal_then = onward_file r₀ (with_records f p.chain new) (answer_of n) (owed_by p.operation (pages_for r₀.capacity es) need new)

    abbrev takes : Outcome
    takes = checked lent₀ (pages_taken r₀ m.pages need) (λ t. rebuilt lent₀ whole n new t)

    pages_before : length whole.pages ≡ pages_for r₀.capacity es
    pages_before = many_alone m b q p f 0 a p.chain chain_live₀

    rebuilds : need ≤ r₀.free → Performed m b q takes → Ends m q goal_then
    unfolding rebuilt root_after_taking changing plain
    rebuilds enough w =
        let got = checked_open lent₀ (pages_taken r₀ m.pages need) (λ t. rebuilt lent₀ whole n new t) w.kept.allowed in
        let t = got.0 in
        let x = changing whole n new need p in
        let u = with_free_list t.head (r₀.free - need) r₀ in
        let z = limits_free r₀ t.head (r₀.free - need) in
        let w₁ = performs-as (ap (λ c. checked lent₀ c (λ d. rebuilt lent₀ whole n new d)) got.1) w in
        let ps = (rebuilt lent₀ whole n new t).after.pages in
        let then_file = with_records f p.chain new in
        goes_on m (left_at m q u x m.locks ps) q goal_then w₁.call
        (subst (Ends (left_at m q u x m.locks ps) q)
        (onward_sizes r₀ u z then_file (answer_of n) x.owed
        ∙ ap (λ (k : ℕ). onward_file r₀ then_file (answer_of n) (owed_by p.operation k need new)) pages_before)
        (from_11 steps (left_at m q u x m.locks ps) (book_on b q p) q x f need
        (alone_moves m b q p f 0 a u x m.locks ps f need z w₁ (λ s. omega (arith, s, is_10)) (root_extent_ok m b q p f 0 a 10 is_10 refl ∙ sym (live-plain u x 11 refl refl)) a.holding
        (omega (arith, a.whole))) refl at_home new change refl))

    changes : Performed m b q (rebuild_with lent₀ whole (changed n new)) → Ends m q (changed_file r₀ f p.operation p.chain (changed n new))
    unfolding rebuild_with changed_file too_few answer_number answer_of is_change
    changes w = go (tell (too_few r₀ need))
      where
        short : Finished
        short = finishes OperationAnswer.NoPage Restructuring.None f

        go : Told (too_few r₀ need) → Ends m q (cond (short_of r₀ f need) short goal_then)
        go (holds h) =
            subst (Ends m q) (sym (cond-true (short_of r₀ f need) short goal_then (short_alone m b q p f a need ∙ h)))
            (keeps 5 refl (performs-as (cond-true (too_few r₀ need) (changes_nothing lent₀ 5) takes h) w))
        go (fails h) =
            subst (Ends m q) (sym (cond-false (short_of r₀ f need) short goal_then (short_alone m b q p f a need ∙ h)))
            (rebuilds (ltb-false r₀.free need h) (performs-as (cond-false (too_few r₀ need) (changes_nothing lent₀ 5) takes h) w))

  pub from_10 : Ends m q (changed_file m.root f p.operation p.chain (change_of p.operation p.key p.setting (records_at f p.chain)))
  unfolding rebuild_with changed_file
  from_10 = go (change_of p.operation p.key p.setting es) refl looked_through_ok
    where
      chosen : Decided at_10.entered.operation (has_key p.key es) (change_of p.operation p.key p.setting es)
      chosen = decided at_10.entered.operation p.operation p.key p.setting es at_10.busy.same_operation (ap (has_step p.operation) (sym is_10) ∙ at_10.busy.step_fits)

      go : (c : Change) → change_of p.operation p.key p.setting es ≡ c → Performed m b q (rebuild_with lent₀ whole c) → Ends m q (changed_file r₀ f p.operation p.chain c)
      go (kept n) s w = keeps n (subst (Decided at_10.entered.operation (has_key p.key es)) s chosen).no_change w
      go (changed n new) s w = changes n new s w

-- ---- Insert and delete

-- An operation that has come to its key's home, and changes what it finds there.
change_ends : StepsKept → (r : Root) (q o k x : ℕ) (f : File) (t : Arrival r q o k x f 10) → Ends t.memory q (changed_file r f o (home_in r f k) (change_of o k x (records_at f (home_in r f k))))
unfolding home_in
change_ends steps r q o k x f t =
    let p = t.party in
    let by : Root → ℕ → ℕ → ℕ → ℕ → Finished = λ u n j y c. changed_file u f n c (change_of n j y (records_at f c)) in
    let there : p.chain ≡ home t.memory.root.originals (extent_of f) p.key =
    t.chain= ∙ ap (λ (u : Root). home u.originals (extent_of f) k) (sym t.root=) ∙ ap (home t.memory.root.originals (extent_of f)) (sym t.key=) in
    subst (Ends t.memory q)
    (ap (λ (u : Root). by u p.operation p.key p.setting p.chain) t.root= ∙ ap (λ (n : ℕ). by r n p.key p.setting p.chain) t.operation=
    ∙ ap (λ (j : ℕ). by r o j p.setting p.chain) t.key= ∙ ap (λ (y : ℕ). by r o k y p.chain) t.setting= ∙ ap (by r o k x) t.chain=)
    (from_10 steps t.memory t.book q p f t.alone t.step= there)

pub insert_ends : StepsKept → (r : Root) (q k x : ℕ) (f : File) (t : Arrival r q 2 k x f 10) → Ends t.memory q (insert_in r f k x)
insert_ends steps r q k x f t = subst (Ends t.memory q) (insert_is r f k x) (change_ends steps r q 2 k x f t)

pub delete_ends : StepsKept → (r : Root) (q k : ℕ) (f : File) (t : Arrival r q 3 k 0 f 10) → Ends t.memory q (delete_in r f k)
delete_ends steps r q k f t = subst (Ends t.memory q) (delete_is r f k 0) (change_ends steps r q 3 k 0 f t)
