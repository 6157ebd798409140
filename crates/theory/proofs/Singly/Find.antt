-- Find, alone: step 9 walks the home chain to its end at most, and answers what the yardstick answers.
-- Main statements: walks (a find at 9 ends with the book's note); find_ends.
use mathlib.Core.Path.{◌≡◌, refl, sym, ap, ◌∙◌, subst}
use mathlib.Core.Bool.{cond}
use mathlib.Core.List.{List, [], ◌∷◌}
use mathlib.Core.Option.{some, Option}
use Prim.Native.Nat.{ℕ, ◌-◌}
use native.Mathlib.Omega.{arith}
use lib.Dec.{eqb}
use Rattle.model.specs.declared.Root.{Root}
use Rattle.model.specs.declared.Party.{Party}
use Rattle.model.specs.declared.OperationAnswer.{OperationAnswer}
use Rattle.model.specs.declared.Restructuring.TheVariants as Restructuring
use Rattle.model.specs.Entries.{has_key, setting_in}
use Rattle.model.specs.Pages.{page_of, with_page, link_of, link_to_first, entries_of, page_sound, scratch_page, linked_page}
use Rattle.model.specs.Outcome.{View, Outcome, moved}
use Rattle.model.specs.Endings.{done}
use Rattle.model.specs.ScratchPages.{with_scratch}
use Rattle.model.specs.LockRequests.{held_all, given_up, chain_lock}
use Rattle.model.specs.Memory.{Memory}
use Rattle.model.specs.Book.{Book, Entered, Value}
use Rattle.model.specs.Ready.{viewing}
use Rattle.theory.specs.Sequential.{File, finishes, records_at}
use Rattle.theory.proofs.Singly.StepWords.{home_in, find_in}
use Rattle.model.specs.Steps.Find.{answered, looked_on, step09}
use Rattle.model.specs.Steps.Dispatch.{step_of, step_table}
use Rattle.model.proofs.Laws.Lists.{Told, holds, fails, tell, cond-true, cond-false, All, all_from, eqb_same}
use Rattle.model.proofs.Laws.Pages.{Has, length_page_of}
use Rattle.model.proofs.Laws.Structure.{Linked}
use Rattle.model.proofs.Laws.Filling.{IsOverflow}
use Rattle.model.proofs.Laws.Reading.{first_some, first_linked, link_none, has_overflow}
use Rattle.model.proofs.Effects.ScratchPage.{scratch_same, scratch_off, protected_bounds}
use Rattle.model.proofs.Invariant.Facts.{still_noted}
use Rattle.model.proofs.Effects.GiveUps.{given_up_rest}
use Rattle.model.proofs.Theorems.Calls.{StepsKept}
use Rattle.model.specs.Answers.{found_or_absent}
use Rattle.theory.proofs.Singly.Files.{extent_of, home, held_home}
use Rattle.theory.proofs.Singly.Alone.{Alone, left_at, book_on, at_alone, Performed, performs-as, performed, guarded_open, linked_off, answers_note, Ends, plain, moves_on, ends_there}
use Rattle.theory.proofs.Singly.Locate.{Arrival}

-- ---- 9

-- The page memory with page x copied to party q's scratch page.
abbrev page_copied : Memory → ℕ → ℕ → List ℕ
page_copied m q x = with_page m.pages (scratch_page m.root q) (page_of m.pages x)

module _ (kept : StepsKept) (q : ℕ) (f : File) (n : OperationAnswer) where
  -- The key is on the scratch page, or there is no page left: done, and the answer is the book's note.
  answers : (m : Memory) (b : Book) (p : Party) → Alone m b q p f 0 → p.step ≡ 9 → (e : Entered) → b.entries q ≡ some e → e.note ≡ some n → (t : OperationAnswer)
      → Performed m b q (answered (viewing m.root p q m.locks m.pages) t) → Ends m q (finishes n Restructuring.None f)
  unfolding answered plain
  answers m b p a is_nine e entry note t w =
      let lent = viewing m.root p q m.locks m.pages in
      let cs = chain_lock p ∷ [] in
      let x = performs-as (guarded_open lent (held_all lent cs) (done t Restructuring.None (given_up cs lent)) w.kept.allowed ∙ ap (done t Restructuring.None) (given_up_rest cs lent)) w in
      let nine = ap (λ (z : Party). z.step) a.mine ∙ is_nine in
      let right = answers_note m b q t Restructuring.None (viewing m.root p q (given_up cs lent).locks m.pages) e n x entry note (omega (arith, nine)) (omega (arith, nine)) (omega (arith, nine)) in
      subst (λ (z : OperationAnswer). Ends m q (finishes z Restructuring.None f)) right
      (ends_there m b q p f 0 a 9 p (given_up cs lent).locks m.pages t Restructuring.None is_nine refl (omega arith) refl x)

  -- The key is on the scratch page, or the step goes by the page's link.
  looks : (m : Memory) (b : Book) (p : Party) → Alone m b q p f 0 → p.step ≡ 9 → (e : Entered) → b.entries q ≡ some e → e.note ≡ some n
      → (Performed m b q (cond (eqb (link_of (page_of m.pages (scratch_page m.root q))) 0) (answered (viewing m.root p q m.locks m.pages) OperationAnswer.Absent)
      (looked_on (viewing m.root p q m.locks m.pages))) → Ends m q (finishes n Restructuring.None f)) → Ends m q (finishes n Restructuring.None f)
  unfolding step_of step_table step09
  looks m b p a is_nine e entry note next = go (tell (has_key p.key (entries_of scratch)))
    where
      lent : View
      lent = viewing m.root p q m.locks m.pages

      scratch : List ℕ
      scratch = page_of m.pages (scratch_page m.root q)

      by_link : Outcome
      by_link = cond (eqb (link_of scratch) 0) (answered lent OperationAnswer.Absent) (looked_on lent)

      -- What is answered where the key is on the scratch page.
      there : OperationAnswer
      there = found_or_absent (setting_in p.key (entries_of scratch))

      looked : Performed m b q (cond (has_key p.key (entries_of scratch)) (answered lent there) by_link)
      looked =
          let w = performed kept m b q p f 0 a 8 step09 is_nine refl in
          performs-as (guarded_open lent (page_sound m.root scratch) (cond (has_key p.key (entries_of scratch)) (answered lent there) by_link) w.kept.allowed) w

      go : Told (has_key p.key (entries_of scratch)) → Ends m q (finishes n Restructuring.None f)
      go (holds h) = answers m b p a is_nine e entry note there (performs-as (cond-true (has_key p.key (entries_of scratch)) (answered lent there) by_link h) looked)
      go (fails h) = next (performs-as (cond-false (has_key p.key (entries_of scratch)) (answered lent there) by_link h) looked)

  -- What is left to walk: the pages xs.
  pub walks : (xs : List ℕ) (m : Memory) (b : Book) (p : Party) → Alone m b q p f 0 → p.step ≡ 9 → (e : Entered) → b.entries q ≡ some e → e.note ≡ some n
      → All (IsOverflow m.root) xs → link_of (page_of m.pages (scratch_page m.root q)) ≡ link_to_first xs → Linked m.root m.pages xs
      → Ends m q (finishes n Restructuring.None f)
  unfolding plain looked_on
  walks [] m b p a is_nine e entry note over link linked =
      looks m b p a is_nine e entry note
      (λ w. answers m b p a is_nine e entry note OperationAnswer.Absent
      (performs-as (cond-true _ _ _ (eqb_same (link_of (page_of m.pages (scratch_page m.root q))) 0 (link ∙ (link_none []).1 refl))) w))
  walks (x ∷ xs) m b p a is_nine e entry note over link linked =
      let lent = viewing m.root p q m.locks m.pages in
      let i = a.inv in
      let page = page_of m.pages x in
      let has : Has m.pages x = (has_overflow m.root m.pages (x ∷ []) i.pages_many (over.0, tt)).0 in
      let long = length_page_of has in
      let off : (z : ℕ) → IsOverflow m.root z → page_of (page_copied m q x) z ≡ page_of m.pages z = λ z o. scratch_off m b i q a.in_row page long z (omega arith) in
      looks m b p a is_nine e entry note
      (λ w.
      let on = performs-as (cond-false _ _ _ (ap (λ (l : ℕ). eqb l 0) link ∙ first_some x xs)) w in
      let there : linked_page (link_of (page_of m.pages (scratch_page m.root q))) ≡ x = ap (λ (l : ℕ). l - 1) link ∙ first_linked x xs in
      let read = page_of m.pages (linked_page (link_of (page_of m.pages (scratch_page m.root q)))) in
      let v = performs-as (guarded_open lent (page_sound m.root read) (moved (with_scratch read lent)) on.kept.allowed
      ∙ ap (λ (z : ℕ). moved (with_scratch (page_of m.pages z) lent)) there) on in
      moves_on m b q p f 0 a 9 9 p m.locks (page_copied m q x) (finishes n Restructuring.None f) is_nine is_nine refl refl (omega arith) v
      (λ c. walks xs (left_at m q m.root p m.locks (page_copied m q x)) (book_on b q p) p c is_nine e
      (ap (λ (z : Book). z.entries q) (still_noted b q (b.entries q) p.step (omega arith) (omega arith) (omega arith)) ∙ entry) note over.1
      (ap link_of (scratch_same m b i q a.in_row page long) ∙ linked.1)
      (linked_off m.root m.pages (page_copied m q x) xs off over.1 linked.2)))

-- ---- Find

-- A find that has come to its key's home ends as the yardstick says.
pub find_ends : StepsKept → (r : Root) (q k : ℕ) (f : File) (x : Arrival r q 1 k 0 f 9) → Ends x.memory q (find_in r f k)
unfolding find_in home_in
find_ends kept r q k f x =
    let a = x.alone in
    let w = (at_alone x.memory x.book q x.party f 0 a 8 x.step=).facts in
    let note = x.noted refl in
    let same_home : setting_in k (records_at f (home r.originals (extent_of f) k)) ≡ setting_in k x.book.contents =
    ap (λ (t : Root). setting_in k (records_at f (home t.originals (extent_of f) k))) (sym x.root=) ∙ held_home x.memory.root.originals f x.book.contents a.holding k in
    subst (λ (t : Option Value). Ends x.memory q (finishes (found_or_absent t) Restructuring.None f)) (sym same_home)
    (walks kept q f (found_or_absent (setting_in k x.book.contents)) w.rest x.memory x.book x.party a x.step= note.entered note.entry
    note.note_is
    (all_from (IsOverflow x.memory.root) w.rest
    (λ z h. let o = protected_bounds x.memory x.book a.inv q a.in_row x.party.chain z (w.protected z h) in record { above = o.0; below = o.1 }))
    w.link w.linked)
