-- Split, alone: steps 15 to 22, then 13 and 14, end as the yardstick's split does.
-- Main statements: short_alone (the yardstick counts the free pages as the root does); ended (locks given up at the end); from_19, from_18, from_17; split_ends.
use mathlib.Core.Path.{◌≡◌, refl, sym, ap, ◌∙◌, subst}
use mathlib.Core.Logic.{◌≢◌}
use mathlib.Core.Bool.{true, false, cond, not}
use mathlib.Core.List.{List, [], ◌∷◌}
use Prim.Native.Nat.{ℕ, ◌+◌, ◌-◌, ◌≤◌, ◌<◌}
use native.Mathlib.Omega.{arith}
use lib.ListN.{length, set}
use lib.Dec.{ltb}
use Rattle.model.specs.declared.Root.{Root}
use Rattle.model.specs.declared.Party.{Party}
use Rattle.model.specs.declared.Mode.{Mode}
use Rattle.model.specs.declared.OperationAnswer.{OperationAnswer}
use Rattle.model.specs.declared.Restructuring.{Restructuring}
use Rattle.model.specs.Records.{at_step, with_old, with_owed, with_next, with_level, with_free_list}
use Rattle.model.specs.Answers.{answer_of, restructuring_of}
use Rattle.model.specs.LockWords.{Claim}
use Rattle.model.specs.Addresses.{chain_count, split_next, split_level, split_barred, count_of_chains}
use Rattle.model.specs.declared.Entry.{Entry}
use Rattle.model.specs.Entries.{staying, going}
use Rattle.model.specs.Pages.{page_of, with_page, page_sound, primary_page, scratch_page, link_to_first}
use Rattle.model.specs.Chains.{Chain, chain_of, list_from}
use Rattle.model.specs.Filling.{pages_for}
use Rattle.model.specs.FreeList.{too_few, pages_taken, root_after_taking}
use Rattle.model.specs.Outcome.{View, Outcome, with_party, with_pages, moved, checked}
use Rattle.model.specs.ScratchPages.{scratch_of, primary_written}
use Rattle.model.specs.Endings.{done, finished, old_pages_first, ended_with}
use Rattle.model.specs.LockRequests.{request, held_all, given_up, release, chain_selective, root_selective}
use Rattle.model.specs.Memory.{Memory}
use Rattle.model.specs.Book.{Book}
use Rattle.model.specs.Ready.{viewing}
use Rattle.theory.specs.Sequential.{File, Finished, finishes, records_at}
use Rattle.theory.proofs.Singly.StepWords.{pages_in_use, free_in, short_of, chains_in, parted, split_file}
use Rattle.model.specs.Steps.SplitLocks.{next_selective, splitting, step15, step16, step19, step22}
use Rattle.model.specs.Steps.SplitBuild.{Halves, halves_of, halves_need, divided, divide_with, step17}
use Rattle.model.specs.Steps.SplitWrite.{step18, step20, step21}
use Rattle.model.specs.Steps.Dispatch.{step_of, step_table}
use Rattle.model.proofs.Laws.Lists.{Told, holds, fails, tell, cond-true, cond-false, eqb-diff, ltb-false}
use Rattle.model.proofs.Invariant.Ghost.{Extent, extent, root_extent, in_chain, size, local_level, advance}
use Rattle.model.proofs.Laws.Structure.{Linked}
use Rattle.model.specs.Claims.{claims}
use Rattle.model.proofs.Invariant.Claims.{is_claimed}
use Rattle.model.proofs.Laws.Reading.{linked_list}
use Rattle.model.proofs.Invariant.Statement.{live_for, scene_of}
use Rattle.model.proofs.Invariant.Extents.{size_is}
use Rattle.model.proofs.Effects.OwnRecord.{same_limits}
use Rattle.model.proofs.Invariant.Facts.{At}
use Rattle.model.proofs.Invariant.Frame.{SameLimits, claims_at_lem, linked_sizes}
use Rattle.model.proofs.Effects.GiveUps.{given_up_rest}
use Rattle.model.proofs.Effects.BuiltChain.{chain_found}
use Rattle.model.proofs.Steps.SplitWrite.Root.{split-advances, level_raised}
use Rattle.model.proofs.Theorems.Calls.{StepsKept}
use Rattle.theory.proofs.Singly.Files.{extent_of, parted_extent, holding_parted}
use Rattle.theory.proofs.Singly.AtRest.{use_set, use_append}
use Rattle.theory.proofs.Singly.Alone.{Alone, left_at, book_on, none_claimed, live-alone, records_alone, limits_free, scratch_long, many_alone, written_linked, at_alone, Performed, performs-as, performed, guarded_open, checked_open, alone_moves, alone_on, Ends, goes_on, plain, live-plain, root_extent_ok, ends_there, requests_on}
use Rattle.theory.proofs.Singly.Leave.{leaves-first, ends_onward}

-- ---- Free pages

-- Where nothing is out, the yardstick counts the free pages as the root does.
pub short_alone : (m : Memory) (b : Book) (q : ℕ) (p : Party) (f : File) → Alone m b q p f 0 → (k : ℕ) → short_of m.root f k ≡ too_few m.root k
unfolding short_of free_in too_few
short_alone m b q p f a k =
    let counts : m.root.overflow - pages_in_use m.root.capacity f.chains ≡ m.root.free = omega (arith, a.whole) in
    ap (λ (n : ℕ). ltb n k) counts

-- ---- Locks given up at the end

pub ended : (m : Memory) (b : Book) (q : ℕ) (p : Party) (f : File) → Alone m b q p f 0 → (k : ℕ) → p.step ≡ k → plain k ≡ true → k ≢ 11 → (cs : List Claim) (s : Restructuring)
    → Performed m b q (ended_with (viewing m.root p q m.locks m.pages) cs s) → Ends m q (finishes (answer_of p.answer) s f)
unfolding ended_with
ended m b q p f a k e h d cs s w =
    let lent = viewing m.root p q m.locks m.pages in
    ends_there m b q p f 0 a k p (given_up cs lent).locks m.pages (answer_of p.answer) s e h d refl
    (performs-as (guarded_open lent (held_all lent cs) (done (answer_of p.answer) s (given_up cs lent)) w.kept.allowed ∙ ap (done (answer_of p.answer) s) (given_up_rest cs lent)) w)

-- ---- 22 back to 19: the file is the one after the split

module _ (kept : StepsKept) (q : ℕ) (g : File) (xs : List ℕ) where
  -- The old pages, by the record's old link.
  abbrev Left : Memory → Party → Type 0
  Left m p = (p.old ≡ link_to_first xs) × Linked m.root m.pages xs

  from_22 : (m : Memory) (b : Book) (p : Party) → Alone m b q p g (length xs) → p.step ≡ 22 → Left m p → Ends m q (finishes (answer_of p.answer) Restructuring.Split g)
  unfolding step_of step_table step22 plain restructuring_of
  from_22 m b p a e left =
      let lent = viewing m.root p q m.locks m.pages in
      let cs = root_selective ∷ [] in
      let y = finishes (answer_of p.answer) Restructuring.Split g in
      let x = with_owed 3 p in
      let v = viewing m.root x q (given_up cs lent).locks m.pages in
      let v₁ = with_party x (given_up cs lent) in
      let w = performed kept m b q p g (length xs) a 21 step22 e refl in
      let w₁ = performs-as
      (guarded_open lent (held_all lent cs) (old_pages_first v₁ (finished v₁)) w.kept.allowed
      ∙ ap (λ (u : View). old_pages_first (with_party x u) (finished (with_party x u))) (given_up_rest cs lent)) w in
      leaves-first kept q g y m b p 22 e refl (omega arith) x (given_up cs lent).locks (finished v)
      (record { to-split = λ s. absurd (omega (arith, s)); to_merge = λ s. absurd (omega (arith, s)); stops = λ _ _. refl }) xs a left.0
      (ap (list_from m.root m.pages) left.0 ∙ linked_list m.root m.pages xs left.1 (omega (arith, a.whole))) w₁
      (λ _ c u. ends_onward m b q p g 0 c y 22 e refl (omega arith) m.root.head m.root.free x (given_up cs lent).locks m.pages (omega (arith, c.whole)) u)

  from_21 : (m : Memory) (b : Book) (p : Party) → Alone m b q p g (length xs) → p.step ≡ 21 → Left m p → Ends m q (finishes (answer_of p.answer) Restructuring.Split g)
  unfolding step_of step_table step21 plain live_for
  from_21 m b p a e left =
      let r = m.root in
      let t = with_level (split_level r.level r.next) r in
      let z : SameLimits r t = record { originals= = refl; capacity= = refl; primaries= = refl; overflow= = refl; parties= = refl } in
      let w = performed kept m b q p g (length xs) a 20 step21 e refl in
      let live : live_for r p ≡ extent (split_level r.level r.next) r.next = rw e (level_raised r.level r.next) in
      goes_on m _ q (finishes (answer_of p.answer) Restructuring.Split g) w.call
      (from_22 (left_at m q t (at_step 22 p) m.locks m.pages) (book_on b q p) (at_step 22 p)
      (alone_moves m b q p g (length xs) a t (at_step 22 p) m.locks m.pages g (length xs) z w (λ s. omega (arith, s, e)) (a.extent_is ∙ live) a.holding a.whole) refl
      (left.0, linked_sizes r t z m.pages xs left.1))

  from_20 : (m : Memory) (b : Book) (p : Party) → Alone m b q p g (length xs) → p.step ≡ 20 → Left m p → Ends m q (finishes (answer_of p.answer) Restructuring.Split g)
  unfolding step_of step_table step20 plain live_for
  from_20 m b p a e left =
      let r = m.root in
      let t = with_next (split_next r.originals r.level r.next) r in
      let z : SameLimits r t = record { originals= = refl; capacity= = refl; primaries= = refl; overflow= = refl; parties= = refl } in
      let w = performed kept m b q p g (length xs) a 19 step20 e refl in
      let live : live_for r p ≡ advance r.originals (root_extent r) = rw e refl in
      goes_on m _ q (finishes (answer_of p.answer) Restructuring.Split g) w.call
      (from_21 (left_at m q t (at_step 21 p) m.locks m.pages) (book_on b q p) (at_step 21 p)
      (alone_moves m b q p g (length xs) a t (at_step 21 p) m.locks m.pages g (length xs) z w (λ s. omega (arith, s, e))
      (a.extent_is ∙ live ∙ sym (split-advances r.originals r.level r.next a.inv.extents_ok.root_next)) a.holding a.whole) refl
      (left.0, linked_sizes r t z m.pages xs left.1))

  pub from_19 : (m : Memory) (b : Book) (p : Party) → Alone m b q p g (length xs) → p.step ≡ 19 → (p.old ≡ link_to_first xs) × Linked m.root m.pages xs
      → Ends m q (finishes (answer_of p.answer) Restructuring.Split g)
  unfolding step_of step_table step19 plain live_for release
  from_19 m b p a e left =
      let lent = viewing m.root p q m.locks m.pages in
      let cs = chain_selective p ∷ [] in
      let w = performed kept m b q p g (length xs) a 18 step19 e refl in
      let w₁ = performs-as (guarded_open lent (held_all lent cs) (moved (with_party (at_step 20 p) (given_up cs lent))) w.kept.allowed
      ∙ ap (λ (u : View). moved (with_party (at_step 20 p) u)) (given_up_rest cs lent)) w in
      goes_on m _ q (finishes (answer_of p.answer) Restructuring.Split g) w₁.call
      (from_20 (left_at m q m.root (at_step 20 p) (given_up cs lent).locks m.pages) (book_on b q p) (at_step 20 p)
      (alone_on m b q p g (length xs) a (at_step 20 p) (given_up cs lent).locks m.pages w₁ (λ s. omega (arith, s, e)) (rw e refl)) refl left)

-- ---- 18

-- The halves of chain next, and the file that they make.
abbrev pub stay_in : Root → File → List Entry
stay_in r f = staying r.originals (f.level + 1) f.next (records_at f f.next)

abbrev pub go_in : Root → File → List Entry
go_in r f = going r.originals (f.level + 1) f.next (records_at f f.next)

abbrev pub parted_file : Root → File → File
parted_file r f = parted r f (stay_in r f) (go_in r f)

-- The pages that the parted file takes.
use_parted : (r : Root) (f : File) → f.next < length f.chains
    → pages_in_use r.capacity (parted_file r f).chains + pages_for r.capacity (records_at f f.next) ≡ pages_in_use r.capacity f.chains + (pages_for r.capacity (stay_in r f) + pages_for r.capacity (go_in r f))
unfolding parted records_at pages_in_use
use_parted r f l =
    let k = r.capacity in
    omega (arith, use_append k (set f.chains f.next (stay_in r f)) (go_in r f ∷ []), use_set k f.chains f.next (stay_in r f) l)

module _ (kept : StepsKept) (m : Memory) (b : Book) (q : ℕ) (p : Party) (f : File) (out : ℕ) (a : Alone m b q p f out) (is_18 : p.step ≡ 18)
    (out_is : out ≡ pages_for m.root.capacity (stay_in m.root f) + pages_for m.root.capacity (go_in m.root f)) where
  abbrev r : Root
  r = m.root

  abbrev lent : View
  lent = viewing m.root p q m.locks m.pages

  at_18 : At 18 (scene_of m a.inv.ghost b) q p
  at_18 = at_alone m b q p f out a 17 is_18

  says : extent_of f ≡ root_extent r
  unfolding plain
  says = root_extent_ok m b q p f out a 18 is_18 refl

  chain_is : p.chain ≡ f.next
  chain_is = at_18.facts.chains.old_chain ∙ ap (λ (e : Extent). e.next) (sym says)

  next_live : f.next < size r.originals (extent_of f)
  next_live = omega (arith, size_is r.originals (extent_of f), a.holding.next_fits)

  chain_live : p.chain < size r.originals a.inv.ghost.live
  chain_live = rw (chain_is, live-alone m b q p f out a) next_live

  abbrev xs : List ℕ
  xs = a.inv.ghost.held (in_chain p.chain)

  many : length xs ≡ pages_for r.capacity (records_at f f.next)
  many = many_alone m b q p f out a p.chain chain_live ∙ ap (λ (c : ℕ). pages_for r.capacity (records_at f c)) chain_is

  abbrev pages_then : List ℕ
  pages_then = with_page m.pages (primary_page p.chain) (page_of m.pages (scratch_page r q))

  linked_then : Linked r pages_then xs
  linked_then = written_linked m b q p f out a p.chain (page_of m.pages (scratch_page r q)) at_18.busy.chain_fits (scratch_long m b q p f out a) p.chain chain_live

  pub from_18 : Ends m q (finishes (answer_of p.answer) Restructuring.Split (parted_file m.root f))
  unfolding step_of step_table step18 primary_written live_for
  from_18 =
      let g = parted_file r f in
      let some = a.inv.limits.some_original in
      let w = performed kept m b q p f out a 17 step18 is_18 refl in
      let w₁ = performs-as (guarded_open lent (page_sound r (scratch_of lent)) (moved (with_party (at_step 19 p) (with_pages pages_then lent))) w.kept.allowed) w in
      goes_on m _ q (finishes (answer_of p.answer) Restructuring.Split g) w₁.call
      (from_19 kept q g xs (left_at m q r (at_step 19 p) m.locks pages_then) (book_on b q p) (at_step 19 p)
      (alone_moves m b q p f out a r (at_step 19 p) m.locks pages_then g (length xs) (same_limits r) w₁
      (λ s. omega (arith, s, is_18)) (parted_extent r f b.contents a.holding some ∙ ap (advance r.originals) says)
      (holding_parted r f b.contents a.holding some)
      (omega (arith, a.whole, out_is, many, use_parted r f (omega (arith, a.holding.as_many, next_live))))) refl
      (at_18.facts.keeps_link, linked_then))

-- ---- 17

-- What the yardstick does where a chain more may be made.
abbrev pub split_goes : Root → File → OperationAnswer → Finished
split_goes r f y =
    cond (short_of r f (pages_for r.capacity (stay_in r f) + pages_for r.capacity (go_in r f))) (finishes y Restructuring.SplitSkipped f) (finishes y Restructuring.Split (parted_file r f))

module _ (kept : StepsKept) (m : Memory) (b : Book) (q : ℕ) (p : Party) (f : File) (a : Alone m b q p f 0) (is_17 : p.step ≡ 17) where
  abbrev r₇ : Root
  r₇ = m.root

  abbrev lent₇ : View
  lent₇ = viewing m.root p q m.locks m.pages

  at_17 : At 17 (scene_of m a.inv.ghost b) q p
  at_17 = at_alone m b q p f 0 a 16 is_17

  says₇ : extent_of f ≡ root_extent r₇
  unfolding plain
  says₇ = root_extent_ok m b q p f 0 a 17 is_17 refl

  chain_is₇ : p.chain ≡ f.next
  chain_is₇ = at_17.facts.chains.old_chain ∙ ap (λ (e : Extent). e.next) (sym says₇)

  chain_live₇ : p.chain < size r₇.originals a.inv.ghost.live
  chain_live₇ = rw (chain_is₇, live-alone m b q p f 0 a) (omega (arith, size_is r₇.originals (extent_of f), a.holding.next_fits))

  -- The chain looked through.
  abbrev whole : Chain
  whole = record {
    level = local_level r₇.originals a.inv.ghost.live p.chain;
    link = link_to_first (a.inv.ghost.held (in_chain p.chain));
    pages = a.inv.ghost.held (in_chain p.chain);
    entries = a.inv.ghost.records p.chain;
  }

  abbrev parts : ℕ → ℕ → List Entry → Halves
  parts level c es = record { stay = staying r₇.originals (level + 1) c es; go = going r₇.originals (level + 1) c es }

  halves_are : halves_of lent₇ whole ≡ record { stay = stay_in r₇ f; go = go_in r₇ f }
  unfolding halves_of
  halves_are =
      ap (λ (l : ℕ). parts l p.chain (a.inv.ghost.records p.chain)) (ap (λ (e : Extent). e.level) (sym says₇))
      ∙ ap (λ (es : List Entry). parts f.level p.chain es) (records_alone m b q p f 0 a p.chain chain_live₇)
      ∙ ap (λ (c : ℕ). parts f.level c (records_at f c)) chain_is₇

  abbrev halves : Halves
  halves = record { stay = stay_in r₇ f; go = go_in r₇ f }

  abbrev need : ℕ
  need = pages_for r₇.capacity (stay_in r₇ f) + pages_for r₇.capacity (go_in r₇ f)

  abbrev takes : Outcome
  takes = checked lent₇ (pages_taken r₇ m.pages need) (λ t. divided lent₇ whole halves t)

  abbrev skips : Outcome
  skips = ended_with lent₇ (root_selective ∷ (chain_selective p ∷ [])) Restructuring.SplitSkipped

  divides : Performed m b q (cond (too_few r₇ need) skips takes)
  unfolding step_of step_table step17 divide_with halves_need
  divides =
      let w = performed kept m b q p f 0 a 16 step17 is_17 refl in
      performs-as
      (guarded_open lent₇ (not (split_barred (count_of_chains r₇) r₇.primaries)) (checked lent₇ (chain_of r₇ m.pages p.chain) (λ c. divide_with lent₇ c (halves_of lent₇ c))) w.kept.allowed
      ∙ ap (λ c. checked lent₇ c (λ d. divide_with lent₇ d (halves_of lent₇ d))) (chain_found m b a.inv p.chain chain_live₇) ∙ ap (divide_with lent₇ whole) halves_are) w

  divided_ends : need ≤ r₇.free → Performed m b q takes → Ends m q (finishes (answer_of p.answer) Restructuring.Split (parted_file r₇ f))
  unfolding divided halves_need root_after_taking plain parted
  divided_ends enough w =
      let got = checked_open lent₇ (pages_taken r₇ m.pages need) (λ t. divided lent₇ whole halves t) w.kept.allowed in
      let t = got.0 in
      let x = at_step 18 (with_old whole.link p) in
      let u = with_free_list t.head (r₇.free - need) r₇ in
      let w₁ = performs-as (ap (λ c. checked lent₇ c (λ d. divided lent₇ whole halves d)) got.1) w in
      let v = (divided lent₇ whole halves t).after in
      goes_on m (left_at m q u x m.locks v.pages) q (finishes (answer_of p.answer) Restructuring.Split (parted_file r₇ f)) w₁.call
      (from_18 kept (left_at m q u x m.locks v.pages) (book_on b q p) q x f need
      (alone_moves m b q p f 0 a u x m.locks v.pages f need (limits_free r₇ t.head (r₇.free - need)) w₁ (λ s. omega (arith, s, is_17))
      (says₇ ∙ sym (live-plain u x 18 refl refl)) a.holding (omega (arith, a.whole))) refl refl)

  pub from_17 : Ends m q (split_goes m.root f (answer_of p.answer))
  unfolding plain too_few
  from_17 = go (tell (too_few r₇ need))
    where
      skip : Finished
      skip = finishes (answer_of p.answer) Restructuring.SplitSkipped f

      split : Finished
      split = finishes (answer_of p.answer) Restructuring.Split (parted_file r₇ f)

      go : Told (too_few r₇ need) → Ends m q (cond (short_of r₇ f need) skip split)
      go (holds h) =
          subst (Ends m q) (sym (cond-true (short_of r₇ f need) skip split (short_alone m b q p f a need ∙ h)))
          (ended m b q p f a 17 is_17 refl (omega arith) (root_selective ∷ (chain_selective p ∷ [])) Restructuring.SplitSkipped
          (performs-as (cond-true (too_few r₇ need) skips takes h) divides))
      go (fails h) =
          subst (Ends m q) (sym (cond-false (short_of r₇ f need) skip split (short_alone m b q p f a need ∙ h)))
          (divided_ends (ltb-false r₇.free need h) (performs-as (cond-false (too_few r₇ need) skips takes h) divides))

-- ---- 16 and 15

-- The yardstick's split, where n = P and where it is not.
split-barred : (r : Root) (f : File) (y : OperationAnswer) → split_barred (chains_in r f) r.primaries ≡ true → split_file r f y ≡ finishes y Restructuring.SplitSkipped f
unfolding split_file
split-barred r f y e = rw e refl

split_open : (r : Root) (f : File) (y : OperationAnswer) → split_barred (chains_in r f) r.primaries ≡ false → split_file r f y ≡ split_goes r f y
unfolding split_file
split_open r f y e = rw e refl

-- The yardstick counts the chains as the root does.
pub counts_same : (r : Root) (f : File) → extent_of f ≡ root_extent r → chains_in r f ≡ count_of_chains r
unfolding chains_in
counts_same r f e = ap (λ (x : Extent). chain_count r.originals x.level x.next) e

-- A party that holds the root alone may request any chain.
pub chain_unclaimed : (r : Root) (p : Party) (c : Claim) → claims r p ≡ c ∷ [] → c.word ≡ 0 → (d : ℕ) (o : Mode) → is_claimed (claims r p) (d + 1) o ≡ false
unfolding is_claimed
chain_unclaimed r p c has at_root d o = rw (has, eqb-diff c.word (d + 1) (omega arith)) refl

module _ (kept : StepsKept) (q : ℕ) (f : File) where
  from_16 : (m : Memory) (b : Book) (p : Party) → Alone m b q p f 0 → p.step ≡ 16 → Ends m q (split_file m.root f (answer_of p.answer))
  unfolding step_of step_table step16 plain claims splitting
  from_16 m b p a e = go (tell (split_barred (count_of_chains m.root) m.root.primaries))
    where
      lent : View
      lent = viewing m.root p q m.locks m.pages

      says : extent_of f ≡ root_extent m.root
      says = root_extent_ok m b q p f 0 a 16 e refl

      skips : Outcome
      skips = ended_with lent (root_selective ∷ []) Restructuring.SplitSkipped

      asks : Outcome
      asks = request lent (next_selective m.root) (splitting m.root p)

      counts : split_barred (chains_in m.root f) m.root.primaries ≡ split_barred (count_of_chains m.root) m.root.primaries
      counts = ap (λ (n : ℕ). split_barred n m.root.primaries) (counts_same m.root f says)

      go : Told (split_barred (count_of_chains m.root) m.root.primaries) → Ends m q (split_file m.root f (answer_of p.answer))
      go (holds h) =
          subst (Ends m q) (sym (split-barred m.root f (answer_of p.answer) (counts ∙ h)))
          (ended m b q p f a 16 e refl (omega arith) (root_selective ∷ []) Restructuring.SplitSkipped
          (performs-as (cond-true (split_barred (count_of_chains m.root) m.root.primaries) skips asks h) (performed kept m b q p f 0 a 15 step16 e refl)))
      go (fails h) =
          subst (Ends m q) (sym (split_open m.root f (answer_of p.answer) (counts ∙ h)))
          (requests_on kept m b q p f 0 a (split_goes m.root f (answer_of p.answer)) 15 17 step16 (next_selective m.root) (splitting m.root p) e refl
          (cond-false (split_barred (count_of_chains m.root) m.root.primaries) skips asks h) refl refl refl (omega arith)
          (omega (arith, a.inv.extents_ok.root_fits, size_is m.root.originals (root_extent m.root), a.inv.extents_ok.root_next))
          (chain_unclaimed m.root p root_selective (rw e refl) refl m.root.next)
          (λ ls c. from_17 kept (left_at m q m.root (splitting m.root p) ls m.pages) (book_on b q p) q (splitting m.root p) f c refl))

  -- A split that is owed ends as the yardstick's does.
  pub split_ends : (m : Memory) (b : Book) (p : Party) → Alone m b q p f 0 → p.step ≡ 15 → Ends m q (split_file m.root f (answer_of p.answer))
  unfolding step_of step_table step15 plain
  split_ends m b p a e =
      requests_on kept m b q p f 0 a (split_file m.root f (answer_of p.answer)) 14 16 step15 root_selective (at_step 16 p) e refl refl refl refl refl (omega arith) (omega arith)
      (none_claimed m.root p (claims_at_lem m.root p 15 e) 0) (λ ls c. from_16 (left_at m q m.root (at_step 16 p) ls m.pages) (book_on b q p) (at_step 16 p) c refl)
