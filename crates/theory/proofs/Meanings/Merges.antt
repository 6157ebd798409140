-- Merges that fit, said once more: the definitions of specs/FittingMerges.antt only forbid, so a wider one would make `merges_right` weaker and its proof would still stand.
-- Main statements: performed_right, right_26, right_28, right_29, right_30 (which test is for which step); unfit_joined, fit_skipped, head_moved, count-moved (26); other_pages, other_count (29);
-- same_pages_lem, one_page, damaged_none (what the tests mean); had_noted, had_of_others, had_elsewhere, had_at_begin, had_at_withdraw (what both chains had).
use mathlib.Core.Path.{◌≡◌, refl, ap₂}
use mathlib.Core.Logic.{◌≢◌}
use mathlib.Core.Bool.{Bool, true, false, cond, not, ◌&&◌, and-false, false≢true}
use mathlib.Core.List.{List, [], ◌∷◌, ◌++◌}
use Prim.Native.Nat.{ℕ, ◌+◌}
use lib.ListN.{length}
use lib.Dec.{eqb}
use Rattle.model.specs.declared.Entry.{Entry}
use Rattle.model.specs.declared.Operation.{Operation}
use Rattle.model.specs.Answers.{is_moved, performs}
use Rattle.model.specs.Entries.{joined}
use Rattle.model.specs.Chains.{damaged, sound, Chain, chain_of, records_read}
use Rattle.model.specs.Filling.{fits_primary}
use Rattle.model.specs.Memory.{Memory, party_at, view_of}
use Rattle.model.specs.Calls.{step_call}
use Rattle.model.specs.Runs.{begin_for, step_for, withdraw_for}
use Rattle.model.specs.Book.{changed_at}
use Rattle.theory.specs.Links.{chain_pages, clock_start, trace_of_step}
use Rattle.theory.specs.FittingMerges.{had_after, same_pages, is_one_page, joins_rightly, gives_rightly, leaves_one_page, merge_right, call_fits}
use Rattle.model.proofs.Laws.Lists.{and_both, eqb-true, eqb_same, eqb-diff}

-- ---- What the tests mean

pub same_pages_lem : (xs ys : List ℕ) → same_pages xs ys ≡ true → xs ≡ ys
unfolding same_pages
same_pages_lem [] [] h = refl
same_pages_lem [] (y ∷ ys) h = absurd (false≢true h)
same_pages_lem (x ∷ xs) [] h = absurd (false≢true h)
same_pages_lem (x ∷ xs) (y ∷ ys) h = let t = and_both (eqb x y) (same_pages xs ys) h in ap₂ (λ (z : ℕ) (zs : List ℕ). z ∷ zs) (eqb-true x y t.0) (same_pages_lem xs ys t.1)

-- A chain of one page has no overflow page.
pub one_page : (c : Chain) → is_one_page (sound c) ≡ true → c.pages ≡ []
unfolding is_one_page
one_page c h = same_pages_lem c.pages [] h

pub damaged_none : is_one_page damaged ≡ false
unfolding is_one_page
damaged_none = refl

module _ (m : Memory) (q : ℕ) where
  -- The records of target and partner, joined.
  abbrev both : List Entry
  both =
      let v = view_of m q in
      joined (records_read (chain_of v.root v.pages v.party.chain)) (records_read (chain_of v.root v.pages v.party.other))

  abbrev fits : Bool
  fits = fits_primary (view_of m q).root.capacity both

  -- Whether 26 moved exactly where they fit.
  abbrev goes : Bool
  goes = cond (is_moved (step_call m q).answer) fits (not fits)

  -- ---- 26: moved where they do not fit, not moved where they do, or another free list

  pub unfit_joined : is_moved (step_call m q).answer ≡ true → fits ≡ false → joins_rightly m q ≡ false
  unfolding joins_rightly
  unfit_joined h f = rw (h, f) refl

  pub fit_skipped : is_moved (step_call m q).answer ≡ false → fits ≡ true → joins_rightly m q ≡ false
  unfolding joins_rightly
  fit_skipped h f = rw (h, f) refl

  pub head_moved : eqb (step_call m q).memory.root.head m.root.head ≡ false → joins_rightly m q ≡ false
  unfolding joins_rightly
  head_moved h = rw h (and-false goes)

  pub count-moved : eqb (step_call m q).memory.root.free m.root.free ≡ false → joins_rightly m q ≡ false
  unfolding joins_rightly
  count-moved h = rw (h, and-false (eqb (step_call m q).memory.root.head m.root.head)) (and-false goes)

  -- ---- 29: other pages given back, or another count

  pub other_pages : (had : List ℕ) → same_pages (trace_of_step clock_start m q).gives had ≡ false → gives_rightly had m q ≡ false
  unfolding gives_rightly
  other_pages had h = rw h refl

  pub other_count : (had : List ℕ) → eqb (step_call m q).memory.root.free (m.root.free + length had) ≡ false → gives_rightly had m q ≡ false
  unfolding gives_rightly
  other_count had h = rw h (and-false (same_pages (trace_of_step clock_start m q).gives had))

  -- ---- Which test is for which step

  module _ (had : ℕ → List ℕ) where
    abbrev number : ℕ
    number = (party_at m.parties q).step

    pub performed_right : performs (step_call m q).answer ≡ true → call_fits had m (step_for q) ≡ merge_right had m q
    unfolding call_fits
    performed_right h = rw h refl

    pub right_26 : number ≡ 26 → merge_right had m q ≡ joins_rightly m q
    unfolding merge_right
    right_26 e = rw e refl

    pub right_28 : number ≡ 28 → merge_right had m q ≡ leaves_one_page m q
    unfolding merge_right
    right_28 e = rw e refl

    pub right_29 : number ≡ 29 → merge_right had m q ≡ (gives_rightly (had q) m q && leaves_one_page m q)
    unfolding merge_right
    right_29 e = rw e refl

    pub right_30 : number ≡ 30 → merge_right had m q ≡ leaves_one_page m q
    unfolding merge_right
    right_30 e = rw e refl

    -- ---- What both chains had: noted where 26 moved, for its party, and nowhere else

    pub had_noted : number ≡ 26 → is_moved (step_call m q).answer ≡ true
        → had_after had m (step_for q) q ≡ chain_pages (view_of m q) (view_of m q).party.chain ++ chain_pages (view_of m q) (view_of m q).party.other
    unfolding had_after changed_at
    had_noted e h = rw (e, h, eqb_same q q refl) refl

    pub had_of_others : number ≡ 26 → is_moved (step_call m q).answer ≡ true → (j : ℕ) → j ≢ q → had_after had m (step_for q) j ≡ had j
    unfolding had_after changed_at
    had_of_others e h j n = rw (e, h, eqb-diff j q n) refl

    pub had_elsewhere : number ≢ 26 → had_after had m (step_for q) ≡ had
    unfolding had_after
    had_elsewhere n = rw (eqb-diff number 26 n) refl

    pub had_at_begin : (o : Operation) (k : ℕ) → had_after had m (begin_for q o k) ≡ had
    unfolding had_after
    had_at_begin o k = refl

    pub had_at_withdraw : had_after had m (withdraw_for q) ≡ had
    unfolding had_after
    had_at_withdraw = refl
