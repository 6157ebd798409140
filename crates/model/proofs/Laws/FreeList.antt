-- The free list: pages taken from its front, and pages given back to it.
-- That lists have no page twice, and none in common, is said by counts: no page is counted more than once in all of them.
-- Main statements: taken_from_lem, taken_front and free_drop (pages taken, and what stays); given_head, given_free,
-- given_other and length-given (pages given back); given-again, head_again and length-again (pages taken and given back
-- in reverse order).
use mathlib.Core.Path.{◌≡◌, refl, sym, ap, ◌∙◌, subst}
use mathlib.Core.Logic.{◌≢◌}
use mathlib.Core.Bool.{false}
use mathlib.Core.List.{List, [], ◌∷◌, ◌++◌, reverse, reverse_aux, reverse_aux-eq, reverse-reverse}
use Prim.Native.Nat.{ℕ, zero, suc, ◌+◌, ◌≤◌}
use native.Mathlib.Omega.{arith}
use lib.ListN.{length, take, drop, take-append-drop}
use lib.Dec.{eqb}
use Rattle.model.specs.declared.Root.{Root}
use Rattle.model.specs.Pages.{page_of, with_page, free_page, link_to_first}
use Rattle.model.specs.Chains.{sound}
use Rattle.model.specs.FreeList.{is_among, also_taken, taken_from, pages_taken, given_back}
use Rattle.model.proofs.Laws.Lists.{Told, holds, fails, tell, not-both, eqb-false, or_neither, count_cut, count-reverse, among_count, among_first, among_take, among_drop, among_reverse, absent_count, count_absent, All, all_map, all_in, all_from}
use Rattle.model.proofs.Laws.Distinct.{Outside, outside_count}
use Rattle.model.proofs.Laws.Pages.{Has, length-with_page, page_same, page_other, has_with_page, link_free_page, length-free_page}
use Rattle.model.proofs.Laws.Structure.{FreePages, free_frame}
use Rattle.model.proofs.Invariant.Ghost.{count}
use Rattle.model.proofs.Invariant.Owners.{same_from}
use Rattle.model.proofs.Laws.Filling.{IsOverflow}
use Rattle.model.proofs.Laws.Reading.{names_first, first_linked}

-- ---- Pages taken

pub free_drop : (ps fs : List ℕ) (k : ℕ) → FreePages ps fs → FreePages ps (drop k fs)
free_drop ps fs zero f = f
free_drop ps [] (suc k) f = tt
free_drop ps (x ∷ fs) (suc k) f = free_drop ps fs k f.1

-- From a link into the free list, none of the pages that are left having been taken before.
pub taken_from_lem :
    (r : Root) (ps fs before : List ℕ) (k : ℕ) → FreePages ps fs → All (IsOverflow r) fs → ((y : ℕ) → count y before + count y fs ≤ 1) → k ≤ length fs
    → taken_from r ps k (link_to_first fs) before ≡ sound (record { pages = take k fs; head = link_to_first (drop k fs) })
unfolding taken_from also_taken count
taken_from_lem r ps fs before zero f a d h = refl
taken_from_lem r ps [] before (suc k) f a d h = absurd (omega arith)
taken_from_lem r ps (x ∷ fs) before (suc k) f a d h =
    let new = count_absent x before (let e = d x in let c = among_count x (x ∷ fs) (among_first x fs) in omega arith) in
    rw (
      names_first r x fs a.0,
      first_linked x fs,
      new,
      f.0,
      link_free_page (link_to_first fs),
      taken_from_lem r ps fs (x ∷ before) k f.1 a.1 (λ y. let e = d y in omega arith) (omega arith),
    )

-- From the head.
pub taken_front :
    (r : Root) (ps fs : List ℕ) (k : ℕ) → r.head ≡ link_to_first fs → FreePages ps fs → All (IsOverflow r) fs → ((y : ℕ) → count y fs ≤ 1) → k ≤ length fs
    → pages_taken r ps k ≡ sound (record { pages = take k fs; head = link_to_first (drop k fs) })
unfolding pages_taken count
taken_front r ps fs k e f a d h = ap (λ (l : ℕ). taken_from r ps k l []) e ∙ taken_from_lem r ps fs [] k f a (λ y. let c = d y in omega arith) h

-- ---- Pages given back

-- The last given is the head.
pub given_head : (ps fs xs : List ℕ) → (given_back ps (link_to_first fs) xs).head ≡ link_to_first (reverse xs ++ fs)
unfolding given_back link_to_first
given_head ps fs xs = onto ps fs xs ∙ ap link_to_first (reverse_aux-eq xs fs)
  where
    onto : (qs gs ys : List ℕ) → (given_back qs (link_to_first gs) ys).head ≡ link_to_first (reverse_aux ys gs)
    onto qs gs [] = refl
    onto qs gs (y ∷ ys) = onto (with_page qs y (free_page (link_to_first gs))) (y ∷ gs) ys

all_has : (ps xs : List ℕ) (x l : ℕ) → Has ps x → All (Has ps) xs → All (Has (with_page ps x (free_page l))) xs
all_has ps xs x l h a = all_map xs (λ y k. has_with_page ps x (free_page l) h (length-free_page l) k) a

pub length-given : (ps : List ℕ) (l : ℕ) (xs : List ℕ) → All (Has ps) xs → length (given_back ps l xs).pages ≡ length ps
unfolding given_back
length-given ps l [] a = refl
length-given ps l (x ∷ xs) a =
    length-given (with_page ps x (free_page l)) (x + 1) xs (all_has ps xs x l a.0 a.1) ∙ length-with_page ps x (free_page l) a.0 (length-free_page l)

-- No other page changes.
pub given_other :
    (ps : List ℕ) (l : ℕ) (xs : List ℕ) → All (Has ps) xs → (y : ℕ) → is_among y xs ≡ false → page_of (given_back ps l xs).pages y ≡ page_of ps y
unfolding given_back is_among
given_other ps l [] a y n = refl
given_other ps l (x ∷ xs) a y n =
    let o = or_neither (eqb x y) (is_among y xs) n in
    given_other (with_page ps x (free_page l)) (x + 1) xs (all_has ps xs x l a.0 a.1) y o.1
    ∙ page_other ps x (free_page l) a.0 (length-free_page l) y (λ e. eqb-false x y o.0 (sym e))

-- Other free pages stay free.
free_beside : (ps fs : List ℕ) (x l : ℕ) → Has ps x → Outside x fs → FreePages ps fs → FreePages (with_page ps x (free_page l)) fs
free_beside ps [] x l h o f = tt
free_beside ps (y ∷ fs) x l h o f =
    (page_other ps x (free_page l) h (length-free_page l) y (λ e. o.0 (sym e)) ∙ f.0, free_beside ps fs x l h o.1 f.1)

free_onto :
    (ps fs xs : List ℕ) → All (Has ps) xs → ((y : ℕ) → count y xs + count y fs ≤ 1) → FreePages ps fs
    → FreePages (given_back ps (link_to_first fs) xs).pages (reverse_aux xs fs)
unfolding given_back link_to_first count
free_onto ps fs [] a d f = f
free_onto ps fs (x ∷ xs) a d f =
    let l = link_to_first fs in
    let new = outside_count x fs (let e = d x in let c = among_count x (x ∷ xs) (among_first x xs) in omega arith) in
    free_onto (with_page ps x (free_page l)) (x ∷ fs) xs (all_has ps xs x l a.0 a.1) (λ y. let e = d y in omega arith)
    (page_same ps x (free_page l) a.0 (length-free_page l), free_beside ps fs x l a.0 new f)

-- The pages given back are free, before those that were free.
pub given_free :
    (ps fs xs : List ℕ) → All (Has ps) xs → ((y : ℕ) → count y xs + count y fs ≤ 1) → FreePages ps fs
    → FreePages (given_back ps (link_to_first fs) xs).pages (reverse xs ++ fs)
given_free ps fs xs a d f = rw reverse_aux-eq at (free_onto ps fs xs a d f)

-- ---- Pages taken and given back in reverse order

-- A free list leaves no choice of its pages.
free_same : (ps qs fs : List ℕ) → FreePages ps fs → FreePages qs fs → All (λ x. page_of qs x ≡ page_of ps x) fs
free_same ps qs [] f g = tt
free_same ps qs (x ∷ fs) f g = (g.0 ∙ sym f.0, free_same ps qs fs f.1 g.1)

-- The first k pages of the free list fs of ps were taken, and qs has other words on them and on the page `extra`, which
-- is not of the list. Given back, last first, they are free as they were.
module _ (ps qs fs : List ℕ) (k extra : ℕ) (frees : FreePages ps fs) (once : (y : ℕ) → count y fs ≤ 1) (has : All (Has qs) fs) (outside : is_among extra fs ≡ false)
    (off : (y : ℕ) → y ≢ extra → is_among y (take k fs) ≡ false → page_of qs y ≡ page_of ps y) where
  abbrev taken : List ℕ
  taken = take k fs

  abbrev given : List ℕ
  given = (given_back qs (link_to_first (drop k fs)) (reverse taken)).pages

  back_has : All (Has qs) (reverse taken)
  back_has = all_from (Has qs) (reverse taken) (λ x e. all_in (Has qs) x fs has (among_take x k fs (sym (among_reverse x taken) ∙ e)))

  same_list : reverse (reverse taken) ++ drop k fs ≡ fs
  same_list = ap (λ (xs : List ℕ). xs ++ drop k fs) (reverse-reverse taken) ∙ take-append-drop k fs

  -- The pages that stayed free are not among those taken.
  left_free : FreePages qs (drop k fs)
  left_free =
      free_frame ps qs (drop k fs)
      (same_from ps qs (drop k fs)
      (λ x e. off x (λ s. not-both (is_among extra fs) (rw s at (among_drop x k fs e)) outside)
      (count_absent x taken (omega (arith, among_count x (drop k fs) e, count_cut x k fs, once x)))))
      (free_drop ps fs k frees)

  given-frees : FreePages given fs
  given-frees =
      subst (FreePages given) same_list
      (given_free qs (drop k fs) (reverse taken) back_has (λ y. omega (arith, count-reverse y taken, count_cut y k fs, once y)) left_free)

  pub given-again : (y : ℕ) → y ≢ extra → page_of given y ≡ page_of ps y
  given-again y n = go (tell (is_among y fs))
    where
      go : Told (is_among y fs) → page_of given y ≡ page_of ps y
      go (holds e) = all_in (λ x. page_of given x ≡ page_of ps x) y fs (free_same ps given fs frees given-frees) e
      go (fails e) =
          let absent : is_among y taken ≡ false = count_absent y taken (omega (arith, absent_count y fs e, count_cut y k fs)) in
          given_other qs (link_to_first (drop k fs)) (reverse taken) back_has y (among_reverse y taken ∙ absent) ∙ off y n absent

  -- The head is what it was.
  pub head_again : (given_back qs (link_to_first (drop k fs)) (reverse taken)).head ≡ link_to_first fs
  head_again = given_head qs (drop k fs) (reverse taken) ∙ ap link_to_first same_list

  pub length-again : length given ≡ length qs
  length-again = length-given qs (link_to_first (drop k fs)) (reverse taken) back_has
