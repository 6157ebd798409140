-- The same words written on two page memories: open pages stay the same in both, and shut pages stay as each had them.
-- Main definitions: Beside (a page memory beside a step's view), Alike (what came of both). Main statements: alike_start, alike_written, alike_filled, alike_given.
use mathlib.Core.Path.{◌≡◌, refl, sym, ◌∙◌}
use mathlib.Core.Logic.{◌≢◌}
use mathlib.Core.Bool.{Bool, true, false}
use mathlib.Core.List.{List, [], ◌∷◌}
use Prim.Native.Nat.{ℕ, ◌+◌, ◌≤◌, ◌<◌}
use native.Mathlib.Omega.{arith}
use lib.ListN.{length, take, drop, length-take}
use Rattle.model.specs.Sizes.{page_words}
use Rattle.model.specs.declared.Entry.{Entry}
use Rattle.model.specs.Pages.{page_of, with_page, filled_page, free_page, link_to_first, link_to}
use Rattle.model.specs.Filling.{filled, overflow_written}
use Rattle.model.specs.FreeList.{given_back}
use Rattle.model.specs.Outcome.{View}
use Rattle.model.specs.Ready.{Ready}
use Rattle.model.proofs.Laws.Lists.{Cmp, same, diff, cmp, not-both, All}
use Rattle.model.proofs.Laws.Structure.{SameOn}
use Rattle.model.proofs.Laws.Pages.{length-with_page, page_same, page_other, length-filled_page, length-free_page}
use Rattle.model.proofs.Laws.Filling.{IsOverflow}
use Rattle.model.proofs.Exits.Scratches.{has_page}

-- The page memory ps' beside the view v: the same on open pages. Primary pages and scratch pages are open.
pub record Beside (v : View) (ps' : List ℕ) (opens : ℕ → Bool) : Type 0 where
  pub ready : Ready v
  pub long : length ps' ≡ length v.pages
  pub agree : (x : ℕ) → opens x ≡ true → page_of ps' x ≡ page_of v.pages x
  pub primary_open : (x : ℕ) → x < v.root.primaries → opens x ≡ true
  pub scratch_open_ok : (x : ℕ) → v.root.primaries + v.root.overflow ≤ x → opens x ≡ true

-- What came of ps and of ps': open pages are the same, shut pages are as each had them.
pub record Alike (opens : ℕ → Bool) (ps ps' qs qs' : List ℕ) : Type 0 where
  pub long : length qs ≡ length ps
  pub long' : length qs' ≡ length ps
  pub agree : (x : ℕ) → opens x ≡ true → page_of qs' x ≡ page_of qs x
  pub kept : (x : ℕ) → opens x ≡ false → page_of qs x ≡ page_of ps x
  pub kept' : (x : ℕ) → opens x ≡ false → page_of qs' x ≡ page_of ps' x

-- All of them are open.
abbrev pub Open : (ℕ → Bool) → List ℕ → Type 0
Open opens xs = All (λ x. opens x ≡ true) xs

module _ (v : View) (ps' : List ℕ) (opens : ℕ → Bool) (b : Beside v ps' opens) where
  pub open_same : (xs : List ℕ) → Open opens xs → SameOn v.pages ps' xs
  open_same [] a = tt
  open_same (x ∷ xs) a = (b.agree x a.0, open_same xs a.1)

  pub alike_start : Alike opens v.pages ps' v.pages ps'
  alike_start = record { long = refl; long' = b.long; agree = b.agree; kept = λ x h. refl; kept' = λ x h. refl }

  module _ (qs qs' : List ℕ) (k : Alike opens v.pages ps' qs qs') where
    -- An open page written.
    pub alike_written : (x : ℕ) (w : List ℕ) → opens x ≡ true → x < v.root.primaries + v.root.overflow + v.root.parties → length w ≡ page_words
        → Alike opens v.pages ps' (with_page qs x w) (with_page qs' x w)
    alike_written x w o h e =
        let has = has_page v b.ready qs x k.long h in
        let has' = has_page v b.ready qs' x k.long' h in
        record {
          long = length-with_page qs x w has e ∙ k.long;
          long' = length-with_page qs' x w has' e ∙ k.long';
          agree = λ y t. go y t (cmp y x);
          kept = λ y t. page_other qs x w has e y (apart y t) ∙ k.kept y t;
          kept' = λ y t. page_other qs' x w has' e y (apart y t) ∙ k.kept' y t;
        }
      where
        apart : (y : ℕ) → opens y ≡ false → y ≢ x
        apart y t s = not-both (opens x) o (rw s at t)

        go : (y : ℕ) → opens y ≡ true → Cmp y x → page_of (with_page qs' x w) y ≡ page_of (with_page qs x w) y
        go y t (same s) =
            rw s (page_same qs' x w (has_page v b.ready qs' x k.long' h) e ∙ sym (page_same qs x w (has_page v b.ready qs x k.long h) e))
        go y t (diff n) =
            page_other qs' x w (has_page v b.ready qs' x k.long' h) e y n ∙ k.agree y t
            ∙ sym (page_other qs x w (has_page v b.ready qs x k.long h) e y n)

  -- Overflow pages of a chain written.
  alike_filled : (qs qs' : List ℕ) → Alike opens v.pages ps' qs qs' → (xs : List ℕ) (es : List Entry) → Open opens xs → All (IsOverflow v.root) xs
      → Alike opens v.pages ps' (filled v.root.capacity qs xs es) (filled v.root.capacity qs' xs es)
  unfolding filled
  alike_filled qs qs' k [] es o a = k
  alike_filled qs qs' k (x ∷ xs) es o a =
      let w = filled_page 0 (take v.root.capacity es) (link_to_first xs) in
      alike_filled (with_page qs x w) (with_page qs' x w)
      (alike_written qs qs' k x w o.0 (omega (arith, a.0.below)) (whole es (link_to_first xs))) xs (drop v.root.capacity es) o.1 a.1
    where
      whole : (es : List Entry) (l : ℕ) → length (filled_page 0 (take v.root.capacity es) l) ≡ page_words
      whole es l = length-filled_page 0 (take v.root.capacity es) l (rw length-take (omega (arith, b.ready.keys_fit)))

  pub alike_overflow : (qs qs' : List ℕ) → Alike opens v.pages ps' qs qs' → (xs : List ℕ) (es : List Entry) → Open opens xs → All (IsOverflow v.root) xs
      → Alike opens v.pages ps' (overflow_written v.root.capacity qs xs es) (overflow_written v.root.capacity qs' xs es)
  unfolding overflow_written
  alike_overflow qs qs' k xs es o a = alike_filled qs qs' k xs (drop v.root.capacity es) o a

  -- Pages given back: the heads are the same too.
  pub alike_given : (qs qs' : List ℕ) → Alike opens v.pages ps' qs qs' → (l : ℕ) (xs : List ℕ) → Open opens xs → All (IsOverflow v.root) xs
      → Alike opens v.pages ps' (given_back qs l xs).pages (given_back qs' l xs).pages
  unfolding given_back
  alike_given qs qs' k l [] o a = k
  alike_given qs qs' k l (x ∷ xs) o a =
      alike_given (with_page qs x (free_page l)) (with_page qs' x (free_page l))
      (alike_written qs qs' k x (free_page l) o.0 (omega (arith, a.0.below)) (length-free_page l)) (link_to x) xs o.1 a.1

pub head_alike : (qs qs' : List ℕ) (l : ℕ) (xs : List ℕ) → (given_back qs' l xs).head ≡ (given_back qs l xs).head
unfolding given_back
head_alike qs qs' l [] = refl
head_alike qs qs' l (x ∷ xs) = head_alike (with_page qs x (free_page l)) (with_page qs' x (free_page l)) (link_to x) xs
