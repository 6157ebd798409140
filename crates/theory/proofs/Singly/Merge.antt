-- Merge, alone: steps 23 to 30 end as the yardstick's merge does.
-- Main statements: tested_open, sound_open (readings that were not refused); from_30 back to from_26; merge_ends.
use mathlib.Core.Path.{◌≡◌, refl, sym, ap, ◌∙◌, subst}
use mathlib.Core.Logic.{◌≢◌}
use mathlib.Core.Bool.{Bool, true, false, cond, not, ◌&&◌}
use mathlib.Core.List.{List, [], ◌∷◌, ◌++◌}
use Prim.Native.Nat.{ℕ, suc, ◌+◌, ◌-◌, ◌≤◌, ◌<◌}
use native.Mathlib.Omega.{arith}
use lib.ListN.{length, set, length-set}
use lib.Seq.{get_or-set_other}
use lib.Dec.{eqb}
use Rattle.model.specs.declared.Root.{Root}
use Rattle.model.specs.declared.Party.{Party}
use Rattle.model.specs.declared.Mode.{Mode}
use Rattle.model.specs.declared.OperationAnswer.{OperationAnswer}
use Rattle.model.specs.declared.Restructuring.TheVariants as Restructuring
use Rattle.model.specs.Records.{at_step, with_old, with_free_list}
use Rattle.model.specs.Answers.{answer_of, refusal_number, cause_number}
use Rattle.model.specs.LockWords.{root_word, turned_selective}
use Rattle.model.specs.Addresses.{chain_count, merge_target, merge_partner, merge_level, merge_barred}
use Rattle.model.specs.declared.Entry.{Entry}
use Rattle.model.specs.Entries.{joined, shares_key}
use Rattle.model.specs.Pages.{page_of, with_page, level_of, link_of, page_sound, link_sound, primary_page, link_to_first, zero_page, with_local_level}
use Rattle.model.specs.Chains.{Checked, damaged, sound, sound_if, and_then, Chain, chain_of, list_from}
use Rattle.model.specs.Filling.{pages_for, fits_primary}
use Rattle.model.specs.FreeList.{given_back, room_to_give_back, pages_given_back}
use Rattle.model.specs.Outcome.{View, Outcome, with_party, with_root, with_locks, with_pages, moved, checked}
use Rattle.model.specs.ScratchPages.{scratch_of}
use Rattle.model.specs.LockRequests.{lock_word, request, is_held, root_selective, root_exclusive, other_exclusive}
use Rattle.model.specs.Memory.{Memory}
use Rattle.model.specs.Book.{Book}
use Rattle.model.specs.Ready.{viewing}
use Rattle.theory.specs.Sequential.{File, Finished, finishes, records_at}
use Rattle.theory.proofs.Singly.StepWords.{pages_in_use, chains_in, rejoined, merge_file}
use Rattle.model.specs.Endings.{ended_with}
use Rattle.model.specs.Steps.MergeLocks.{target_of, target_exclusive, merge_stops, merging, merge_locks, step23, step24, step25, step30}
use Rattle.model.specs.Steps.MergeBuild.{Pair, pair_of, joined_entries, merge_goes, combined, combine_with, step26}
use Rattle.model.specs.Steps.MergeWrite.{root_moved_back, merged_away, partner_cleared, step27, step28, step29}
use Rattle.model.specs.Steps.Dispatch.{step_of, step_table}
use Rattle.model.proofs.Laws.Lists.{Told, holds, fails, tell, cond-true, cond-false, eqb-diff, leb-true}
use Rattle.model.proofs.Invariant.Ghost.{Extent, extent, root_extent, in_chain, size, local_level, advance}
use Rattle.model.specs.Claims.{claims}
use Rattle.model.proofs.Invariant.Claims.{is_claimed}
use Rattle.model.proofs.Laws.Filling.{needed_few}
use Rattle.model.proofs.Laws.Joins.{length-joined}
use Rattle.model.proofs.Laws.Reading.{linked_list}
use Rattle.model.proofs.Laws.Retreat.{merge_retreats, merge_partner_ok, target_before}
use Rattle.model.proofs.Invariant.Statement.{live_for}
use Rattle.model.proofs.Invariant.Frame.{claims_at_lem}
use Rattle.model.proofs.Effects.OwnRecord.{same_limits}
use Rattle.model.proofs.Effects.BuiltChain.{chain_found}
use Rattle.model.proofs.Theorems.Calls.{StepsKept}
use Rattle.theory.proofs.Singly.Files.{extent_of, holding_rejoined}
use Rattle.theory.proofs.Singly.AtRest.{use_set, use_front}
use Rattle.theory.proofs.Singly.Alone.{Alone, left_at, book_on, none_claimed, live-alone, records_alone, limits_free, at_alone, Performed, performs-as, performed, guarded_open, alone_moves, Ends, goes_on, plain, live-plain, root_extent_ok, requests_on}
use Rattle.theory.proofs.Singly.Split.{ended, counts_same, chain_unclaimed}

-- ---- Readings that were not refused

-- A step that is not refused passed a test inside a reading.
pub tested_open : {A : Type 0} (v : View) (t : Bool) (c : Checked A) (g : A → Outcome) → refusal_number (checked v (cond t c damaged) g).answer ≡ 0 → cond t c damaged ≡ c
unfolding refusal_number cause_number
tested_open v true c g h = refl
tested_open v false c g h = absurd (omega (arith, h))

pub sound_open : {A : Type 0} (v : View) (t : Bool) (x : A) (g : A → Outcome) → refusal_number (checked v (sound_if t x) g).answer ≡ 0 → sound_if t x ≡ sound x
unfolding refusal_number cause_number
sound_open v true x g h = refl
sound_open v false x g h = absurd (omega (arith, h))

-- ---- 30 and 29: the file is the one after the merge

module _ (kept : StepsKept) (q : ℕ) (g : File) where
  from_30 : (m : Memory) (b : Book) (p : Party) → Alone m b q p g 0 → p.step ≡ 30 → Ends m q (finishes (answer_of p.answer) Restructuring.Merged g)
  unfolding step_of step_table step30 plain
  from_30 m b p a e = ended m b q p g a 30 e refl (omega arith) (merge_locks root_selective p) Restructuring.Merged (performed kept m b q p g 0 a 29 step30 e refl)

  -- Neither chain had an overflow page, so that none is given back.
  from_29 : (m : Memory) (b : Book) (p : Party) → Alone m b q p g 0 → p.step ≡ 29 → Ends m q (finishes (answer_of p.answer) Restructuring.Merged g)
  unfolding step_of step_table step29 merged_away partner_cleared pages_given_back given_back plain link_to_first
  from_29 m b p a e =
      let r = m.root in
      let lent = viewing r p q m.locks m.pages in
      let facts = (at_alone m b q p g 0 a 28 e).facts.0 in
      let w = performed kept m b q p g 0 a 28 step29 e refl in
      let page = page_of m.pages (primary_page p.other) in
      let room : List ℕ → List ℕ → Bool = λ us vs. room_to_give_back r (length (us ++ vs)) in
      let second : List ℕ → Checked (List ℕ) = λ us. and_then (list_from r m.pages (link_of page)) (λ vs. sound_if (room us vs) (us ++ vs)) in
      let clears : List ℕ → Outcome = λ zs. partner_cleared lent zs in
      let w₁ = performs-as (ap (λ c. checked lent c clears)
      (tested_open lent (link_sound r p.old && page_sound r page) (and_then (list_from r m.pages p.old) second) clears w.kept.allowed)) w in
      let none : list_from r m.pages 0 ≡ sound [] = linked_list r m.pages [] tt (omega arith) in
      let old_list : list_from r m.pages p.old ≡ sound [] = ap (list_from r m.pages) facts.no_old_link ∙ none in
      let partner_list : list_from r m.pages (link_of page) ≡ sound [] = ap (list_from r m.pages) facts.partner_link ∙ none in
      let w₂ = performs-as
      (ap (λ c. checked lent (and_then c second) clears) old_list ∙ ap (λ c. checked lent (and_then c (λ vs. sound_if (room [] vs) vs)) clears) partner_list) w₁ in
      let w₃ = performs-as (ap (λ c. checked lent c clears) (sound_open lent (room [] []) [] clears w₂.kept.allowed)) w₂ in
      let t = with_free_list r.head (r.free + 0) r in
      let ps = with_page m.pages (primary_page p.other) zero_page in
      goes_on m (left_at m q t (at_step 30 p) m.locks ps) q (finishes (answer_of p.answer) Restructuring.Merged g) w₃.call
      (from_30 (left_at m q t (at_step 30 p) m.locks ps) (book_on b q p) (at_step 30 p)
      (alone_moves m b q p g 0 a t (at_step 30 p) m.locks ps g 0 (limits_free r r.head (r.free + 0)) w₃ (λ s. omega (arith, s, e))
      (root_extent_ok m b q p g 0 a 29 e refl ∙ sym (live-plain t (at_step 30 p) 30 refl refl)) a.holding (omega (arith, a.whole))) refl)

-- ---- 28

-- Target and partner in a file, the records joined, and the file that they make.
abbrev pub target_in : Root → File → ℕ
target_in r f = merge_target r.originals f.level f.next

abbrev pub partner_in : Root → File → ℕ
partner_in r f = merge_partner r.originals f.level f.next

abbrev pub both_in : Root → File → List Entry
both_in r f = joined (records_at f (target_in r f)) (records_at f (partner_in r f))

abbrev pub joined_file : Root → File → File
joined_file r f = rejoined r f (target_in r f) (both_in r f)

-- Records that fit the primary page need no other, so that the joined file takes the pages that the file took.
few : (r : Root) (es : List Entry) → 0 < r.capacity → length es ≤ r.capacity → pages_for r.capacity es ≡ 0
unfolding pages_for
few r es some h = needed_few r.capacity (length es) some h

use_joined : (r : Root) (f : File) → 0 < r.capacity → length (both_in r f) ≤ r.capacity → target_in r f < partner_in r f → length f.chains ≡ suc (partner_in r f)
    → pages_in_use r.capacity (joined_file r f).chains ≡ pages_in_use r.capacity f.chains
unfolding rejoined records_at
use_joined r f some fits l many =
    let k = r.capacity in
    let c = target_in r f in
    let o = partner_in r f in
    let whole = set f.chains c (both_in r f) in
    let long = length-joined (records_at f c) (records_at f o) in
    omega (
      arith,
      few r (both_in r f) some fits,
      few r (records_at f c) some (omega arith),
      few r (records_at f o) some (omega arith),
      use_front k whole o (length-set f.chains c (both_in r f) ∙ many),
      use_set k f.chains c (both_in r f) (omega arith),
      ap (pages_for k) (get_or-set_other f.chains c o (both_in r f) [] (omega arith)),
    )

-- A merge under way: nothing bars it, chain and other chain are target and partner.
pub record Merging (r : Root) (p : Party) (f : File) : Type 0 where
  pub goes_on : merge_barred (chain_count r.originals f.level f.next) r.originals ≡ false
  pub target_is : p.chain ≡ target_in r f
  pub partner_is : p.other ≡ partner_in r f

module _ (kept : StepsKept) (m : Memory) (b : Book) (q : ℕ) (p : Party) (f : File) (a : Alone m b q p f 0) (g : Merging m.root p f) where
  abbrev r : Root
  r = m.root

  abbrev n : ℕ
  n = m.root.originals

  abbrev lent : View
  lent = viewing m.root p q m.locks m.pages

  some : 0 < n
  some = a.inv.limits.some_original

  before : target_in r f < partner_in r f
  before = target_before n f.level f.next some a.holding.next_fits g.goes_on

  -- The partner is the last chain.
  last : size n (extent_of f) ≡ suc (partner_in r f)
  last =
      (merge_retreats n f.level f.next some a.holding.next_fits g.goes_on).one_less
      ∙ ap suc (sym (merge_partner_ok n f.level f.next some a.holding.next_fits g.goes_on))

  pub target_live : p.chain < size m.root.originals a.inv.ghost.live
  target_live = rw (g.target_is, live-alone m b q p f 0 a) (omega (arith, before, last))

  pub partner_live : p.other < size m.root.originals a.inv.ghost.live
  partner_live = rw (g.partner_is, live-alone m b q p f 0 a) (omega (arith, last))

  pub chains_differ : p.other ≢ p.chain
  chains_differ s = omega (arith, before, g.target_is, g.partner_is)

  -- The records of a live chain.
  records_of_ok : (c d : ℕ) → c ≡ d → c < size n a.inv.ghost.live → a.inv.ghost.records c ≡ records_at f d
  records_of_ok c d s l = records_alone m b q p f 0 a c l ∙ ap (records_at f) s

  module _ (is_28 : p.step ≡ 28) (fits : length (both_in m.root f) ≤ m.root.capacity)
      (root_is : root_extent m.root ≡ extent (merge_level f.level f.next) (target_in m.root f)) where
    from_28 : Ends m q (finishes (answer_of p.answer) Restructuring.Merged (joined_file m.root f))
    unfolding step_of step_table step28 plain rejoined
    from_28 =
        let h = joined_file r f in
        let w = performed kept m b q p f 0 a 27 step28 is_28 refl in
        let pages_then = with_page m.pages (primary_page p.chain) (with_local_level (level_of (scratch_of lent) - 1) (scratch_of lent)) in
        let w₁ = performs-as
        (guarded_open lent (page_sound r (scratch_of lent) && not (eqb (level_of (scratch_of lent)) 0)) (moved (with_party (at_step 29 p) (with_pages pages_then lent))) w.kept.allowed) w in
        goes_on m (left_at m q r (at_step 29 p) m.locks pages_then) q (finishes (answer_of p.answer) Restructuring.Merged h) w₁.call
        (from_29 kept q h (left_at m q r (at_step 29 p) m.locks pages_then) (book_on b q p) (at_step 29 p)
        (alone_moves m b q p f 0 a r (at_step 29 p) m.locks pages_then h 0
        (same_limits r) w₁ (λ s. omega (arith, s, is_28))
        (sym root_is ∙ sym (live-plain r (at_step 29 p) 29 refl refl)) (holding_rejoined r f b.contents a.holding some g.goes_on)
        (omega (arith, a.whole, use_joined r f a.inv.limits.some_key fits before (a.holding.as_many ∙ last)))) refl)

-- ---- 27

module _ (kept : StepsKept) (m : Memory) (b : Book) (q : ℕ) (p : Party) (f : File) (a : Alone m b q p f 0) (g : Merging m.root p f) (is_27 : p.step ≡ 27)
    (fits : length (both_in m.root f) ≤ m.root.capacity) where
  abbrev r₇ : Root
  r₇ = m.root

  abbrev lent₇ : View
  lent₇ = viewing m.root p q m.locks m.pages

  says : extent_of f ≡ root_extent r₇
  unfolding plain
  says = root_extent_ok m b q p f 0 a 27 is_27 refl

  abbrev moved_back : Root
  moved_back = root_moved_back p r₇

  back_is : root_extent moved_back ≡ extent (merge_level f.level f.next) (target_in r₇ f)
  unfolding root_moved_back
  back_is =
      ap (λ (e : Extent). extent (merge_level e.level e.next) p.chain) (sym says) ∙ ap (λ (c : ℕ). extent (merge_level f.level f.next) c) g.target_is

  pub from_27 : Ends m q (finishes (answer_of p.answer) Restructuring.Merged (joined_file m.root f))
  unfolding step_of step_table step27 live_for rejoined root_moved_back
  from_27 =
      let y = finishes (answer_of p.answer) Restructuring.Merged (joined_file r₇ f) in
      let ls = set m.locks root_word (turned_selective (lock_word lent₇ root_word) q) in
      let retreat = merge_retreats r₇.originals f.level f.next a.inv.limits.some_original a.holding.next_fits g.goes_on in
      let w = performed kept m b q p f 0 a 26 step27 is_27 refl in
      let w₁ = performs-as
      (guarded_open lent₇ (not (merge_stops r₇) && is_held lent₇ root_exclusive) (moved (with_party (at_step 28 p) (with_locks ls (with_root moved_back lent₇)))) w.kept.allowed) w in
      goes_on m (left_at m q moved_back (at_step 28 p) ls m.pages) q y w₁.call
      (from_28 kept (left_at m q moved_back (at_step 28 p) ls m.pages) (book_on b q p) q (at_step 28 p) f
      (alone_moves m b q p f 0 a moved_back (at_step 28 p) ls m.pages f 0 (record { originals= = refl; capacity= = refl; primaries= = refl; overflow= = refl; parties= = refl }) w₁
      (λ s. omega (arith, s, is_27)) (sym retreat.advances ∙ ap (advance r₇.originals) (sym back_is)) a.holding a.whole)
      (record { goes_on = g.goes_on; target_is = g.target_is; partner_is = g.partner_is }) refl fits back_is)

-- ---- 26

-- What the yardstick does where a merge is not barred.
abbrev pub merge_rest : Root → File → OperationAnswer → Finished
merge_rest r f y = cond (not (fits_primary r.capacity (both_in r f))) (finishes y Restructuring.MergeSkipped f) (finishes y Restructuring.Merged (joined_file r f))

module _ (kept : StepsKept) (m : Memory) (b : Book) (q : ℕ) (p : Party) (f : File) (a : Alone m b q p f 0) (g : Merging m.root p f) (is_26 : p.step ≡ 26) where
  abbrev r₆ : Root
  r₆ = m.root

  abbrev lent₆ : View
  lent₆ = viewing m.root p q m.locks m.pages

  abbrev chain_with : ℕ → List Entry → Chain
  chain_with c es = record {
    level = local_level r₆.originals a.inv.ghost.live c;
    link = link_to_first (a.inv.ghost.held (in_chain c));
    pages = a.inv.ghost.held (in_chain c);
    entries = es;
  }

  found : (c d : ℕ) → c ≡ d → c < size r₆.originals a.inv.ghost.live → chain_of r₆ m.pages c ≡ sound (chain_with c (records_at f d))
  found c d s l = chain_found m b a.inv c l ∙ ap (λ (es : List Entry). sound (chain_with c es)) (records_of_ok kept m b q p f a g c d s l)

  abbrev target : Chain
  target = chain_with p.chain (records_at f (target_in r₆ f))

  abbrev partner : Chain
  partner = chain_with p.other (records_at f (partner_in r₆ f))

  abbrev pair : Pair
  pair = record { target = target; partner = partner }

  abbrev skips : Outcome
  skips = ended_with lent₆ (merge_locks root_exclusive p) Restructuring.MergeSkipped

  combines : Performed m b q (cond (fits_primary r₆.capacity (both_in r₆ f)) (combined lent₆ pair) skips)
  unfolding step_of step_table step26 pair_of combine_with joined_entries merge_goes
  combines =
      let w = performed kept m b q p f 0 a 25 step26 is_26 refl in
      let each : Pair → Outcome = λ x. combine_with lent₆ x in
      let both : Chain → Chain → Checked Pair = λ t u. sound_if (not (shares_key t.entries u.entries)) (record { target = t; partner = u }) in
      let w₁ = performs-as (guarded_open lent₆ (not (merge_stops r₆)) (checked lent₆ (pair_of r₆ m.pages p.chain p.other) each) w.kept.allowed) w in
      let w₂ = performs-as
      (ap (λ c. checked lent₆ (and_then c (λ t. and_then (chain_of r₆ m.pages p.other) (both t))) each) (found p.chain (target_in r₆ f) g.target_is (target_live kept m b q p f a g))
      ∙ ap (λ c. checked lent₆ (and_then c (both target)) each) (found p.other (partner_in r₆ f) g.partner_is (partner_live kept m b q p f a g))) w₁ in
      performs-as (ap (λ c. checked lent₆ c each) (sound_open lent₆ (not (shares_key target.entries partner.entries)) pair each w₂.kept.allowed)) w₂

  combined_ends : length (both_in r₆ f) ≤ r₆.capacity → Performed m b q (combined lent₆ pair) → Ends m q (finishes (answer_of p.answer) Restructuring.Merged (joined_file r₆ f))
  unfolding combined joined_entries plain rejoined
  combined_ends fits w =
      let x = at_step 27 (with_old target.link p) in
      let ps = (combined lent₆ pair).after.pages in
      goes_on m (left_at m q r₆ x m.locks ps) q (finishes (answer_of p.answer) Restructuring.Merged (joined_file r₆ f)) w.call
      (from_27 kept (left_at m q r₆ x m.locks ps) (book_on b q p) q x f
      (alone_moves m b q p f 0 a r₆ x m.locks ps f 0 (same_limits r₆) w (λ s. omega (arith, s, is_26))
      (root_extent_ok m b q p f 0 a 26 is_26 refl ∙ sym (live-plain r₆ x 27 refl refl)) a.holding a.whole)
      (record { goes_on = g.goes_on; target_is = g.target_is; partner_is = g.partner_is }) refl fits)

  pub from_26 : Ends m q (merge_rest m.root f (answer_of p.answer))
  unfolding plain fits_primary
  from_26 = go (tell (fits_primary r₆.capacity (both_in r₆ f)))
    where
      skip : Finished
      skip = finishes (answer_of p.answer) Restructuring.MergeSkipped f

      merged : Finished
      merged = finishes (answer_of p.answer) Restructuring.Merged (joined_file r₆ f)

      fit : Bool
      fit = fits_primary r₆.capacity (both_in r₆ f)

      go : Told fit → Ends m q (cond (not fit) skip merged)
      go (holds h) =
          subst (Ends m q) (sym (cond-false (not fit) skip merged (ap not h)))
          (combined_ends (leb-true (length (both_in r₆ f)) r₆.capacity h) (performs-as (cond-true fit (combined lent₆ pair) skips h) combines))
      go (fails h) =
          subst (Ends m q) (sym (cond-true (not fit) skip merged (ap not h)))
          (ended m b q p f a 26 is_26 refl (omega arith) (merge_locks root_exclusive p) Restructuring.MergeSkipped (performs-as (cond-false fit (combined lent₆ pair) skips h) combines))

-- ---- 25 back to 23

-- The yardstick's merge, where n = N and where it is not.
merge_barred_lem : (r : Root) (f : File) (y : OperationAnswer) → merge_barred (chains_in r f) r.originals ≡ true → merge_file r f y ≡ finishes y Restructuring.MergeSkipped f
unfolding merge_file
merge_barred_lem r f y e = rw e refl

merge_open : (r : Root) (f : File) (y : OperationAnswer) → merge_barred (chains_in r f) r.originals ≡ false → merge_file r f y ≡ merge_rest r f y
unfolding merge_file
merge_open r f y e = rw e refl

module _ (kept : StepsKept) (q : ℕ) (f : File) where
  -- A party that holds the root and the target holds nothing of the partner.
  partner_unclaimed : (r : Root) (p : Party) → p.step ≡ 25 → p.other ≢ p.chain → (o : Mode) → is_claimed (claims r p) (p.other + 1) o ≡ false
  unfolding claims is_claimed
  partner_unclaimed r p e d o = rw (e, eqb-diff 0 (p.other + 1) (omega arith), eqb-diff (p.chain + 1) (p.other + 1) (λ s. d (omega (arith, s)))) refl

  from_25 : (m : Memory) (b : Book) (p : Party) → Alone m b q p f 0 → p.step ≡ 25 → Merging m.root p f → Ends m q (merge_rest m.root f (answer_of p.answer))
  unfolding step_of step_table step25 plain
  from_25 m b p a e g =
      let x = at_alone m b q p f 0 a 24 e in
      requests_on kept m b q p f 0 a (merge_rest m.root f (answer_of p.answer)) 24 26 step25 (other_exclusive p) (at_step 26 p) e refl refl refl refl refl (omega arith)
      (omega (arith, x.busy.other_fits)) (partner_unclaimed m.root p e (chains_differ kept m b q p f a g))
      (λ ls c. from_26 kept (left_at m q m.root (at_step 26 p) ls m.pages) (book_on b q p) q (at_step 26 p) f c
      (record { goes_on = g.goes_on; target_is = g.target_is; partner_is = g.partner_is }) refl)

  from_24 : (m : Memory) (b : Book) (p : Party) → Alone m b q p f 0 → p.step ≡ 24 → Ends m q (merge_file m.root f (answer_of p.answer))
  unfolding step_of step_table step24 plain claims merging
  from_24 m b p a e = go (tell (merge_stops r))
    where
      r : Root
      r = m.root

      lent : View
      lent = viewing m.root p q m.locks m.pages

      says : extent_of f ≡ root_extent m.root
      says = root_extent_ok m b q p f 0 a 24 e refl

      skips : Outcome
      skips = ended_with lent (root_exclusive ∷ []) Restructuring.MergeSkipped

      asks : Outcome
      asks = request lent (target_exclusive m.root) (merging m.root p)

      counts : merge_barred (chains_in m.root f) m.root.originals ≡ merge_stops m.root
      counts = ap (λ (c : ℕ). merge_barred c m.root.originals) (counts_same m.root f says)

      -- The target is a chain of the file.
      fits : merge_stops m.root ≡ false → target_of m.root + 1 < m.root.primaries + 1
      fits h =
          let n = m.root.originals in
          let level = m.root.level in
          let next = m.root.next in
          let some = a.inv.limits.some_original in
          let inside = a.inv.extents_ok.root_next in
          omega (
            arith,
            target_before n level next some inside h,
            merge_partner_ok n level next some inside h,
            (merge_retreats n level next some inside h).one_less,
            a.inv.extents_ok.root_fits,
          )

      go : Told (merge_stops m.root) → Ends m q (merge_file m.root f (answer_of p.answer))
      go (holds h) =
          subst (Ends m q) (sym (merge_barred_lem m.root f (answer_of p.answer) (counts ∙ h)))
          (ended m b q p f a 24 e refl (omega arith) (root_exclusive ∷ []) Restructuring.MergeSkipped
          (performs-as (cond-true (merge_stops m.root) skips asks h) (performed kept m b q p f 0 a 23 step24 e refl)))
      go (fails h) =
          subst (Ends m q) (sym (merge_open m.root f (answer_of p.answer) (counts ∙ h)))
          (requests_on kept m b q p f 0 a (merge_rest m.root f (answer_of p.answer)) 23 25 step24 (target_exclusive m.root) (merging m.root p) e refl
          (cond-false (merge_stops m.root) skips asks h) refl refl refl (omega arith) (fits h) (chain_unclaimed m.root p root_exclusive (rw e refl) refl (target_of m.root))
          (λ ls c. from_25 (left_at m q m.root (merging m.root p) ls m.pages) (book_on b q p) (merging m.root p) c refl
          (record {
            goes_on = ap (λ (x : Extent). merge_barred (chain_count m.root.originals x.level x.next) m.root.originals) says ∙ h;
            target_is = ap (λ (x : Extent). merge_target m.root.originals x.level x.next) (sym says);
            partner_is = ap (λ (x : Extent). merge_partner m.root.originals x.level x.next) (sym says);
          })))

  -- A merge that is owed ends as the yardstick's does.
  pub merge_ends : (m : Memory) (b : Book) (p : Party) → Alone m b q p f 0 → p.step ≡ 23 → Ends m q (merge_file m.root f (answer_of p.answer))
  unfolding step_of step_table step23 plain
  merge_ends m b p a e =
      requests_on kept m b q p f 0 a (merge_file m.root f (answer_of p.answer)) 22 24 step23 root_exclusive (at_step 24 p) e refl refl refl refl refl (omega arith) (omega arith)
      (none_claimed m.root p (claims_at_lem m.root p 23 e) 0) (λ ls c. from_24 (left_at m q m.root (at_step 24 p) ls m.pages) (book_on b q p) (at_step 24 p) c refl)
