-- Leaving a changed chain, alone: old pages are given back at 13 and 14, and then the operation is done, or goes on to the split or merge it owes.
-- Main statements: Onward (what is asked of the run after 12, 14 or 22); ends_onward, goes_onward; from_thirteen; leaves-first (to 13 where there are old pages).
use mathlib.Core.Path.{◌≡◌, refl, sym, ap, ◌∙◌, subst}
use mathlib.Core.Logic.{◌≢◌}
use mathlib.Core.Bool.{true, cond, ◌&&◌}
use mathlib.Core.List.{List, [], ◌∷◌}
use Prim.Native.Nat.{ℕ, ◌+◌}
use native.Mathlib.Omega.{arith}
use lib.ListN.{length}
use lib.Dec.{eqb}
use Rattle.model.specs.declared.Root.{Root}
use Rattle.model.specs.declared.Party.{Party}
use Rattle.model.specs.Records.{at_step, with_old, with_free_list}
use Rattle.model.specs.Answers.{answer_of, restructuring_of}
use Rattle.model.specs.Pages.{link_to_first, names_overflow}
use Rattle.model.specs.Chains.{sound, list_from}
use Rattle.model.specs.FreeList.{given_back, room_to_give_back, pages_given_back}
use Rattle.model.specs.Outcome.{View, Outcome, with_party, moved, checked}
use Rattle.model.specs.LockRequests.{request, held_all, given_up, chain_exclusive}
use Rattle.model.specs.Memory.{Memory}
use Rattle.model.specs.Book.{Book}
use Rattle.model.specs.Ready.{viewing}
use Rattle.theory.specs.Sequential.{File, Finished, finishes}
use Rattle.theory.proofs.Singly.StepWords.{pages_in_use}
use Rattle.model.specs.Endings.{finished, onward, old_pages_first}
use Rattle.model.specs.Steps.OldPages.{old_given_back, step13, step14}
use Rattle.model.specs.Steps.Dispatch.{step_of, step_table}
use Rattle.model.proofs.Laws.Lists.{Cmp, same, diff, cmp, cond-true, cond-false, eqb_same, eqb-diff}
use Rattle.model.proofs.Invariant.Ghost.{root_extent}
use Rattle.model.proofs.Invariant.Frame.{SameLimits, claims_at_lem}
use Rattle.model.proofs.Laws.Reading.{first_some, link_none}
use Rattle.model.proofs.Effects.GiveUps.{given_up_rest}
use Rattle.model.proofs.Theorems.Calls.{StepsKept}
use Rattle.theory.proofs.Singly.Files.{extent_of}
use Rattle.theory.proofs.Singly.Alone.{Alone, left_at, book_on, none_claimed, at_alone, limits_free, Performed, performs-as, performed, guarded_open, alone_moves, comes_to_end, Ends, goes_on, plain, live-plain, root_extent_ok, moves_on, requests_on}

-- What is asked of the run once the chain is left: party q with the record p, the file g, the sizes of r; an owed split begins at 15, an owed merge at 23, and else the
-- operation ends here.
pub record Onward (r : Root) (q : ℕ) (p : Party) (g : File) (y : Finished) : Type 0 where
  pub to-split : p.owed ≡ 1 → (m : Memory) (b : Book) → Alone m b q (at_step 15 p) g 0 → SameLimits r m.root → Ends m q y
  pub to_merge : p.owed ≡ 2 → (m : Memory) (b : Book) → Alone m b q (at_step 23 p) g 0 → SameLimits r m.root → Ends m q y
  pub stops : p.owed ≢ 1 → p.owed ≢ 2 → y ≡ finishes (answer_of p.answer) (restructuring_of p.owed) g

module _ (m : Memory) (b : Book) (q : ℕ) (p : Party) (g : File) (out : ℕ) (a : Alone m b q p g out) (y : Finished) (k : ℕ) (at_k : p.step ≡ k) (plain_k : plain k ≡ true) (not_11 : k ≢ 11)
    (h c : ℕ) (x : Party) (ls ps : List ℕ) (all_back : c + pages_in_use m.root.capacity g.chains ≡ m.root.overflow) where
  abbrev t : Root
  t = with_free_list h c m.root

  root_says : extent_of g ≡ root_extent m.root
  root_says = root_extent_ok m b q p g out a k at_k plain_k

  pub ends_onward : Performed m b q (finished (viewing (with_free_list h c m.root) x q ls ps)) → Ends m q (finishes (answer_of x.answer) (restructuring_of x.owed) g)
  unfolding finished
  ends_onward w =
      comes_to_end m b q p g out a t x ls ps g (answer_of x.answer) (restructuring_of x.owed) (limits_free m.root h c) w (λ z. not_11 (sym at_k ∙ z)) root_says a.holding all_back

  -- On to another step, with nothing out.
  to_step : (l : ℕ) → plain l ≡ true → Performed m b q (moved (viewing t (at_step l x) q ls ps)) → ((m' : Memory) (b' : Book) → Alone m' b' q (at_step l x) g 0 → SameLimits m.root m'.root → Ends m' q y)
      → Ends m q y
  to_step l plain_l w next =
      goes_on m (left_at m q t (at_step l x) ls ps) q y w.call
      (next (left_at m q t (at_step l x) ls ps) (book_on b q p)
      (alone_moves m b q p g out a t (at_step l x) ls ps g 0 (limits_free m.root h c) w (λ z. not_11 (sym at_k ∙ z))
      (root_says ∙ sym (live-plain t (at_step l x) l refl plain_l)) a.holding (omega (arith, all_back))) (limits_free m.root h c))

  pub goes_onward : Onward m.root q x g y → Performed m b q (onward (viewing (with_free_list h c m.root) x q ls ps)) → Ends m q y
  unfolding onward plain
  goes_onward o w = first (cmp x.owed 1) (cmp x.owed 2)
    where
      v : View
      v = viewing t x q ls ps

      rest : Outcome
      rest = cond (eqb x.owed 2) (moved (with_party (at_step 23 x) v)) (finished v)

      first : Cmp x.owed 1 → Cmp x.owed 2 → Ends m q y
      first (same e) z = to_step 15 refl (performs-as (cond-true (eqb x.owed 1) (moved (with_party (at_step 15 x) v)) rest (eqb_same x.owed 1 e)) w) (o.to-split e)
      first (diff d) z = second z
        where
          not-split : Performed m b q rest
          not-split = performs-as (cond-false (eqb x.owed 1) (moved (with_party (at_step 15 x) v)) rest (eqb-diff x.owed 1 d)) w

          second : Cmp x.owed 2 → Ends m q y
          second (same e) = to_step 23 refl (performs-as (cond-true (eqb x.owed 2) (moved (with_party (at_step 23 x) v)) (finished v) (eqb_same x.owed 2 e)) not-split) (o.to_merge e)
          second (diff e) =
              subst (Ends m q) (sym (o.stops d e))
              (ends_onward (performs-as (cond-false (eqb x.owed 2) (moved (with_party (at_step 23 x) v)) (finished v) (eqb-diff x.owed 2 e)) not-split))

-- It does not go by the step number.
pub onward_at : (r : Root) (q : ℕ) (x : Party) (g : File) (y : Finished) (n : ℕ) → Onward r q x g y → Onward r q (at_step n x) g y
onward_at r q x g y n o = record { to-split = o.to-split; to_merge = o.to_merge; stops = o.stops }

-- ---- 13 and 14

module _ (kept : StepsKept) (q : ℕ) (g : File) (y : Finished) (xs : List ℕ) where
  from_fourteen : (m : Memory) (b : Book) (p : Party) → Alone m b q p g (length xs) → p.step ≡ 14 → list_from m.root m.pages p.old ≡ sound xs
      → Onward m.root q (with_old 0 p) g y → Ends m q y
  unfolding step_of step_table step14 old_given_back pages_given_back plain
  from_fourteen m b p a e listed o =
      let lent = viewing m.root p q m.locks m.pages in
      let cs = chain_exclusive p ∷ [] in
      let back = given_back m.pages m.root.head xs in
      let given = pages_given_back xs lent in
      let v = given_up cs given in
      let w = performed kept m b q p g (length xs) a 13 step14 e refl in
      let w₁ = performs-as (guarded_open lent (names_overflow m.root p.old) (checked lent (list_from m.root m.pages p.old) (λ zs. old_given_back lent zs)) w.kept.allowed) w in
      let w₂ = performs-as (ap (λ c. checked lent c (λ zs. old_given_back lent zs)) listed) w₁ in
      let w₃ = performs-as
      (guarded_open lent (room_to_give_back m.root (length xs) && held_all lent cs) (onward (with_party (with_old 0 p) v)) w₂.kept.allowed
      ∙ ap (λ (u : View). onward (with_party (with_old 0 p) u)) (given_up_rest cs given)) w₂ in
      goes_onward m b q p g (length xs) a y 14 e refl (omega arith) back.head (m.root.free + length xs) (with_old 0 p) v.locks back.pages (omega (arith, a.whole)) o w₃

  pub from_thirteen : (m : Memory) (b : Book) (p : Party) → Alone m b q p g (length xs) → p.step ≡ 13 → list_from m.root m.pages p.old ≡ sound xs
      → Onward m.root q (with_old 0 p) g y → Ends m q y
  unfolding step_of step_table step13 plain
  from_thirteen m b p a e listed o =
      let lent = viewing m.root p q m.locks m.pages in
      let w = performed kept m b q p g (length xs) a 12 step13 e refl in
      let x = at_alone m b q p g (length xs) a 12 e in
      requests_on kept m b q p g (length xs) a y 12 14 step13 (chain_exclusive p) (at_step 14 p) e refl
      (guarded_open lent (names_overflow m.root p.old) (request lent (chain_exclusive p) (at_step 14 p)) w.kept.allowed) refl refl refl (omega arith)
      (omega (arith, x.busy.chain_fits)) (none_claimed m.root p (claims_at_lem m.root p 13 e) (p.chain + 1))
      (λ ls c. from_fourteen (left_at m q m.root (at_step 14 p) ls m.pages) (book_on b q p) (at_step 14 p) c refl listed (onward_at m.root q (with_old 0 p) g y 14 o))

-- ---- 12 and 22: to 13 where there are old pages

module _ (kept : StepsKept) (q : ℕ) (g : File) (y : Finished) (m : Memory) (b : Book) (p : Party) (k : ℕ) (at_k : p.step ≡ k) (plain_k : plain k ≡ true) (not_11 : k ≢ 11)
    (x : Party) (ls : List ℕ) (o : Outcome) (onwards : Onward m.root q (with_old 0 x) g y) where
  pub leaves-first : (xs : List ℕ) → Alone m b q p g (length xs) → x.old ≡ link_to_first xs → list_from m.root m.pages x.old ≡ sound xs
      → Performed m b q (old_pages_first (viewing m.root x q ls m.pages) o) → (x.old ≡ 0 → Alone m b q p g 0 → Performed m b q o → Ends m q y) → Ends m q y
  unfolding old_pages_first plain
  leaves-first [] a link listed w here =
      let none_left = link ∙ (link_none []).1 refl in
      here none_left a (performs-as (cond-true (eqb x.old 0) o (moved (with_party (at_step 13 x) (viewing m.root x q ls m.pages))) (eqb_same x.old 0 none_left)) w)
  leaves-first (z ∷ zs) a link listed w here =
      let v = viewing m.root x q ls m.pages in
      let some_left = ap (λ (l : ℕ). eqb l 0) link ∙ first_some z zs in
      moves_on m b q p g (length (z ∷ zs)) a k 13 (at_step 13 x) ls m.pages y at_k refl plain_k refl not_11
      (performs-as (cond-false (eqb x.old 0) o (moved (with_party (at_step 13 x) v)) some_left) w)
      (λ c. from_thirteen kept q g y (z ∷ zs) (left_at m q m.root (at_step 13 x) ls m.pages) (book_on b q p) (at_step 13 x) c refl listed
      (onward_at m.root q (with_old 0 x) g y 13 onwards))
