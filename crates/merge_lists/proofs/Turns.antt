-- One turn of the loop that finds the last link of a list, and of the recursion that gives back one list after the other.
-- Main statements: all_ahead, one_passed, none_ahead (the loop); no_more_given (the recursion's bottom), second_next, rest_can_be_given, one_more_given (a turn of it);
-- both-given (both lists are given back).
use mathlib.Core.Path.{◌≡◌, refl, sym, ap, ap₂, ◌∙◌}
use mathlib.Core.List.{List, ◌++◌}
use Prim.Native.Nat.{ℕ, ◌+◌, ◌-◌, ◌≤◌, ◌<◌}
use native.Mathlib.Omega.{arith}
use lib.ListN.{length}
use Rattle.model.specs.declared.Root.{Root}
use Rattle.model.specs.Pages.{page_of, with_page, link_of, free_page}
use Rattle.model.specs.Chains.{list_from}
use Rattle.model.specs.FreeList.{GivenBack, given_back}
use Rattle.model.proofs.Laws.Pages.{length-free_page}
use Rattle.model.proofs.Laws.Filling.{IsOverflow}
use Rattle.free_list.specs.Giving.{listed, CanGive}
use Rattle.merge_lists.specs.TwoLists.{CanGiveBoth, leaving}
use Rattle.merge_lists.proofs.Recorded.{Walk, NextPage, next_page, no_page, all_overflow}
use Rattle.merge_lists.proofs.Given.{same_head, given_append, length-left, written_after}

-- ---- The last link

-- Link l leads to `left` pages, and giving them back to the list with head `last` leaves the head `whole`.
pub record Ahead (r : Root) (ps : List ℕ) (whole last l left : ℕ) : Type 0 where
  pub walk : Walk r ps l left
  pub same : whole ≡ (given_back ps last (listed (list_from r ps l))).head

module _ (r : Root) (ps : List ℕ) where
  pub all_ahead : (head first n : ℕ) → CanGive r ps first n → Ahead r ps (given_back ps head (listed (list_from r ps first))).head head first n
  all_ahead head first n can = record { walk = record { links = can.links; walked = can.walked }; same = refl }

  -- The next page's link word is the last so far.
  pub one_passed : (whole last l left : ℕ) → 0 < left → Ahead r ps whole last l left → {l' left' : ℕ} → l' ≡ link_of (page_of ps (l - 1)) → left' ≡ left - 1
      → Ahead r ps whole l l' left'
  unfolding given_back
  one_passed whole last l left more a e₁ e₂ =
      let next = next_page r ps more a.walk in
      let again : l - 1 + 1 ≡ l = omega (arith, next.above) in
      let xs = listed (list_from r ps (link_of (page_of ps (l - 1)))) in
      rw (e₁, e₂) record {
        walk = next.rest;
        same = a.same ∙ ap (λ (ys : List ℕ). (given_back ps last ys).head) next.pages ∙ same_head (with_page ps (l - 1) (free_page last)) ps (l - 1 + 1) xs
            ∙ ap (λ (h : ℕ). (given_back ps h xs).head) again;
      }

  pub none_ahead : (whole last l left : ℕ) → left ≤ 0 → Ahead r ps whole last l left → last ≡ whole
  unfolding given_back
  none_ahead whole last l left none a = sym (a.same ∙ ap (λ (ys : List ℕ). (given_back ps last ys).head) (no_page r ps none a.walk))

-- ---- One list after the other

-- The n pages that link `first` leads to are given back, then the m pages that link l leads to.
module _ (r : Root) (ps : List ℕ) (first n l m : ℕ) (can : CanGiveBoth r ps first n l m) where
  second_walk : Walk r ps l m
  second_walk = record { links = can.links; walked = can.walked }

  -- Nothing is left of the second list.
  pub no_more_given : (qs : List ℕ) (prev : ℕ) → m ≡ 0 → leaving qs prev ≡ given_back qs prev (listed (list_from r ps l))
  unfolding given_back
  no_more_given qs prev none = sym (ap (given_back qs prev) (no_page r ps (omega arith) second_walk))

  module _ (some : m ≡ 0 → ⊥) where
    pub second_next : NextPage r ps l m
    second_next = next_page r ps (omega (arith, some)) second_walk

    -- The second list without its first page.
    pub rest_can_be_given : {l' : ℕ} → l' ≡ link_of (page_of ps (l - 1)) → CanGiveBoth r ps first n l' (m - 1)
    rest_can_be_given e =
        let rest = second_next.rest in
        rw e record { one = can.one; links = rest.links; walked = rest.walked; room = omega (arith, can.room); few = can.few; small = can.small }

    -- The pages after it were given back, to a list with it at the head: it is written last.
    pub one_more_given : (prev last : ℕ) (ps₁ ps₂ : List ℕ) {l' : ℕ} {w : List ℕ} → l' ≡ link_of (page_of ps (l - 1)) → w ≡ free_page prev
        → leaving ps₁ last ≡ given_back (given_back ps r.head (listed (list_from r ps first))).pages l (listed (list_from r ps l')) → ps₂ ≡ with_page ps₁ (l - 1) w
        → leaving ps₂ last ≡ given_back (given_back ps r.head (listed (list_from r ps first))).pages prev (listed (list_from r ps l))
    unfolding given_back
    one_more_given prev last ps₁ ps₂ link free e₁ e₂ =
        let next = second_next in
        let xs = listed (list_from r ps first) in
        let qs = (given_back ps r.head xs).pages in
        let rest = listed (list_from r ps (link_of (page_of ps (l - 1)))) in
        let f = free_page prev in
        let again : l ≡ l - 1 + 1 = omega (arith, next.above) in
        let here : IsOverflow r (l - 1) = record { above = omega (arith, next.above); below = omega (arith, next.above, next.below) } in
        let all = all_overflow r ps {n = n} record { links = can.one.links; walked = can.one.walked } in
        let long : length qs ≡ length ps = length-left r ps can.one.fits r.head xs all in
        let later : leaving ps₁ last ≡ given_back qs l rest = e₁ ∙ rw link refl in
        let written : ps₂ ≡ (given_back (with_page qs (l - 1) f) l rest).pages =
        e₂ ∙ rw (free, ap (λ (g : GivenBack). g.pages) later) refl
        ∙ sym (written_after r qs (l - 1) f l rest (omega (arith, can.one.fits)) here (length-free_page prev) (all_overflow r ps next.rest) next.apart) in
        let headed : last ≡ (given_back (with_page qs (l - 1) f) l rest).head = ap (λ (g : GivenBack). g.head) later ∙ same_head qs (with_page qs (l - 1) f) l rest in
        ap₂ leaving written headed
        ∙ ap (λ (h : ℕ). given_back (with_page qs (l - 1) f) h rest) again
        ∙ ap (given_back qs prev) (sym next.pages)

-- `prev` is the head that the first list leaves.
pub both-given :
    (ps : List ℕ) (head prev last : ℕ) (xs ys ps₂ : List ℕ) → prev ≡ (given_back ps head xs).head → leaving ps₂ last ≡ given_back (given_back ps head xs).pages prev ys
    → given_back ps head (xs ++ ys) ≡ leaving ps₂ last
both-given ps head prev last xs ys ps₂ e₁ e₂ = given_append ps head xs ys ∙ ap (λ (h : ℕ). given_back (given_back ps head xs).pages h ys) (sym e₁) ∙ sym e₂
