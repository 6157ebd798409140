-- Laws of the pages that links lead to.
-- Main statements: length-linked_pages, pages_append (some pages, then more); leads_map, leads_all, first_of_lem and next_page (of LeadsOn);
-- front_apart, back_apart, both_apart (of LeadsApart, cut in two); chained_pages, chained_leads (of pages that a walk found).
use mathlib.Core.Path.{◌≡◌, refl, ap, subst, ◌∙◌}
use mathlib.Core.List.{List, [], ◌∷◌, ◌++◌}
use Prim.Native.Nat.{ℕ, zero, suc, ◌+◌, ◌-◌, ◌≤◌, ◌<◌}
use native.Mathlib.Nat.{zero-add, suc-add}
use native.Mathlib.Omega.{arith}
use lib.ListN.{length}
use Rattle.model.specs.declared.Root.{Root}
use Rattle.model.specs.Pages.{page_of, link_of, link_to_first, linked_page}
use Rattle.model.proofs.Laws.Lists.{All}
use Rattle.model.proofs.Laws.Distinct.{Outside, Distinct, distinct_left, distinct_right, distinct_apart}
use Rattle.model.proofs.Laws.Filling.{Chained}
use Rattle.chains.specs.Links.{next_link, linked_pages, link_after, LeadsOn, none, also, LeadsApart}

-- Link l names a page, P holds of it, and k pages come after it.
pub record NextPage (P : ℕ → Type 0) (ps : List ℕ) (k l : ℕ) : Type 0 where
  pub linked : 1 ≤ l
  pub page : P (linked_page l)
  pub rest : LeadsOn P ps k (next_link ps l)

module _ (ps : List ℕ) where
  pub length-linked_pages : (k l : ℕ) → length (linked_pages ps k l) ≡ k
  unfolding linked_pages
  length-linked_pages zero l = refl
  length-linked_pages (suc k) l = ap suc (length-linked_pages k (next_link ps l))

  -- Some pages, then more.
  pub pages_append : (j k l : ℕ) → linked_pages ps (j + k) l ≡ linked_pages ps j l ++ linked_pages ps k (link_after ps j l)
  unfolding linked_pages link_after
  pages_append zero k l = ap (λ (n : ℕ). linked_pages ps n l) (zero-add k)
  pages_append (suc j) k l = ap (λ (n : ℕ). linked_pages ps n l) (suc-add j k) ∙ ap (λ (xs : List ℕ). linked_page l ∷ xs) (pages_append j k (next_link ps l))

  -- ---- Pages of which P holds

  pub leads_map : {P Q : ℕ → Type 0} {k l : ℕ} → ((x : ℕ) → P x → Q x) → LeadsOn P ps k l → LeadsOn Q ps k l
  leads_map f none = none
  leads_map f (also {l = l} h p rest) = also h (f (linked_page l) p) (leads_map f rest)

  module _ {P : ℕ → Type 0} where
    pub leads_all : {k l : ℕ} → LeadsOn P ps k l → All P (linked_pages ps k l)
    unfolding linked_pages
    leads_all none = tt
    leads_all (also h p rest) = (p, leads_all rest)

    pub first_of_lem : {k l : ℕ} → LeadsOn P ps (suc k) l → NextPage P ps k l
    first_of_lem (also h p rest) = record { linked = h; page = p; rest = rest }

    pub next_page : {n l : ℕ} → 0 < n → LeadsOn P ps n l → NextPage P ps (n - 1) l
    next_page {n} {l} some f = let q : n ≡ suc (n - 1) = omega arith in first_of_lem (subst (λ (k : ℕ). LeadsOn P ps k l) q f)

    front_leads : (k m l : ℕ) → LeadsOn P ps (k + m) l → LeadsOn P ps k l
    front_leads zero m l f = none
    front_leads (suc k) m l f = let n = first_of_lem (rw suc-add at f) in also {l = l} n.linked n.page (front_leads k m (next_link ps l) n.rest)

    back_leads : (k m l : ℕ) → LeadsOn P ps (k + m) l → LeadsOn P ps m (link_after ps k l)
    unfolding link_after
    back_leads zero m l f = rw zero-add at f
    back_leads (suc k) m l f = back_leads k m (next_link ps l) (first_of_lem (rw suc-add at f)).rest

    -- ---- Pages of which none comes twice: the first k, and the m after them

    module _ (k m l : ℕ) (f : LeadsApart P ps (k + m) l) where
      cut : Distinct (linked_pages ps k l ++ linked_pages ps m (link_after ps k l))
      cut = rw (pages_append k m l) at f.distinct

      pub front_apart : LeadsApart P ps k l
      front_apart = record { leads = front_leads k m l f.leads; distinct = distinct_left (linked_pages ps k l) _ cut }

      pub back_apart : LeadsApart P ps m (link_after ps k l)
      back_apart = record { leads = back_leads k m l f.leads; distinct = distinct_right (linked_pages ps k l) _ cut }

      pub both_apart : All (λ x. Outside x (linked_pages ps m (link_after ps k l))) (linked_pages ps k l)
      both_apart = distinct_apart (linked_pages ps k l) _ cut

-- ---- Pages that a walk found

module _ (r : Root) (ps : List ℕ) where
  pub chained_pages : (l : ℕ) (xs : List ℕ) → Chained r ps l xs → linked_pages ps (length xs) l ≡ xs
  unfolding linked_pages link_to_first
  chained_pages l [] h = refl
  chained_pages l (x ∷ xs) h =
      let here : l - 1 ≡ x = omega (arith, h.first) in
      rw here (ap (λ (ys : List ℕ). x ∷ ys) (chained_pages (link_of (page_of ps x)) xs record { first = h.linked.1; linked = h.linked.2 }))

  pub chained_leads : (P : ℕ → Type 0) (l : ℕ) (xs : List ℕ) → Chained r ps l xs → All P xs → LeadsOn P ps (length xs) l
  unfolding link_to_first
  chained_leads P l [] h a = none
  chained_leads P l (x ∷ xs) h a =
      let here : l - 1 ≡ x = omega (arith, h.first) in
      also {k = length xs} {l = l} (omega (arith, h.first)) (rw here a.0) (rw here (chained_leads P (link_of (page_of ps x)) xs record { first = h.linked.1; linked = h.linked.2 } a.1))
