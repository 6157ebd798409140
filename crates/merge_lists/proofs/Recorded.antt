-- What a list of pages that was walked is.
-- Main definitions: Walk (a link leads to n pages that were walked), NextPage (its first page, and the list after it).
-- Main statements: next_page, no-page, all_overflow (its pages are overflow pages).
use mathlib.Core.Path.{◌≡◌, refl, sym, ap, ◌∙◌}
use mathlib.Core.Bool.{true}
use mathlib.Core.List.{List, [], ◌∷◌}
use Prim.Native.Nat.{ℕ, ◌+◌, ◌-◌, ◌≤◌, ◌<◌}
use native.Mathlib.Omega.{arith}
use lib.ListN.{length}
use Rattle.std.specs.Prelude.{Ok}
use Rattle.model.specs.declared.Root.{Root}
use Rattle.model.specs.Pages.{page_of, link_of, link_sound, link_to_first}
use Rattle.model.specs.Chains.{Checked, damaged, sound, list_from}
use Rattle.model.proofs.Laws.Lists.{All}
use Rattle.model.proofs.Laws.Distinct.{Outside}
use Rattle.model.proofs.Laws.Filling.{Chained, IsOverflow}
use Rattle.model.proofs.Laws.Walks.{walked_chained, linked_overflow, linked_distinct}
use Rattle.model.proofs.Laws.Reading.{linked_list}
use Rattle.chains.specs.Walks.{counted}
use Rattle.model.proofs.Laws.Tests.{sound_page_links}
use Rattle.free_list.specs.Giving.{listed}
use Rattle.free_list.proofs.Giving.{listed-length}

-- Link l leads to n pages, and they were walked without damage.
pub record Walk (r : Root) (ps : List ℕ) (l n : ℕ) : Type 0 where
  pub links : link_sound r l ≡ true
  pub walked : counted (list_from r ps l) ≡ Ok n

-- The first page of such a list is an overflow page, and the others are a list from its link on, which does not have it.
pub record NextPage (r : Root) (ps : List ℕ) (l n : ℕ) : Type 0 where
  pub above : r.primaries < l
  pub below : l ≤ r.primaries + r.overflow
  pub rest : Walk r ps (link_of (page_of ps (l - 1))) (n - 1)
  pub pages : listed (list_from r ps l) ≡ (l - 1) ∷ listed (list_from r ps (link_of (page_of ps (l - 1))))
  pub apart : Outside (l - 1) (listed (list_from r ps (link_of (page_of ps (l - 1)))))

module _ (r : Root) (ps : List ℕ) where
  -- What a list that was walked is.
  found : (l : ℕ) (xs : List ℕ) → list_from r ps l ≡ sound xs → Chained r ps l xs × (length xs ≤ r.overflow)
  unfolding list_from
  found l xs e = walked_chained r ps r.overflow l xs e

  pub next_page : {l n : ℕ} → 0 < n → Walk r ps l n → NextPage r ps l n
  unfolding link_to_first
  next_page {l} {n} some w = go (list_from r ps l) refl w.walked
    where
      first : (x : ℕ) (xs : List ℕ) → sound (x ∷ xs) ≡ list_from r ps l → length (x ∷ xs) ≡ n → NextPage r ps l n
      first x xs ex count =
          let f = found l (x ∷ xs) (sym ex) in
          let linked = f.0.linked in
          let over = linked_overflow r ps (x ∷ xs) (rw f.0.first at w.links) linked in
          let here : l - 1 ≡ x = omega (arith, f.0.first) in
          let rest : list_from r ps (link_of (page_of ps x)) ≡ sound xs = ap (list_from r ps) linked.1 ∙ linked_list r ps xs linked.2 (omega (arith, f.1)) in
          record {
            above = omega (arith, f.0.first, over.0.above);
            below = omega (arith, f.0.first, over.0.below);
            rest = rw here record { links = sound_page_links r (page_of ps x) linked.0; walked = ap counted rest ∙ ap Ok (omega arith) };
            pages = rw (here, rest, ← ex) refl;
            apart = rw (here, rest) (linked_distinct r ps (x ∷ xs) linked).0;
          }

      go : (x : Checked (List ℕ)) → x ≡ list_from r ps l → counted x ≡ Ok n → NextPage r ps l n
      go damaged ex e = absurd (let z : ◌≡◌ {A = ℕ} 0 1 = cc in omega arith)
      go (sound []) ex e = absurd (let z : 0 ≡ n = cc in omega arith)
      go (sound (x ∷ xs)) ex e = first x xs ex (cc)

  pub no_page : {l n : ℕ} → n ≤ 0 → Walk r ps l n → listed (list_from r ps l) ≡ []
  no_page {l} {n} none w = go (listed (list_from r ps l)) (listed-length (list_from r ps l) n w.walked)
    where
      go : (xs : List ℕ) → length xs ≡ n → xs ≡ []
      go [] e = refl
      go (x ∷ xs) e = absurd (omega arith)

  pub all_overflow : {l n : ℕ} → Walk r ps l n → All (IsOverflow r) (listed (list_from r ps l))
  all_overflow {l} w = go (list_from r ps l) refl
    where
      go : (x : Checked (List ℕ)) → x ≡ list_from r ps l → All (IsOverflow r) (listed x)
      go damaged ex = tt
      go (sound xs) ex = let f = (found l xs (sym ex)).0 in linked_overflow r ps xs (rw f.first at w.links) f.linked
