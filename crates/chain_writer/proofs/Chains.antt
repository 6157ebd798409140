-- A chain written page by page: the page made before the others are written is written after them.
-- Main statements: more_can, more_written (a page, and more records after it); rest_can, last_written (the last page, and the rest); rest_is, nothing_is, rest_kept (what the rest is);
-- two_written (a chain and the rest, in the order of a split).
use mathlib.Core.Path.{◌≡◌, refl, sym, ap, ◌∙◌}
use mathlib.Core.List.{List, ◌∷◌}
use Prim.Native.Nat.{ℕ, suc, ◌-◌, ◌≤◌, ◌<◌}
use native.Mathlib.Omega.{arith}
use lib.ListN.{length, take, drop, length-take, length-drop}
use lib.Seq.{take_all}
use Rattle.model.specs.Sizes.{most_records}
use Rattle.model.specs.declared.Entry.{Entry}
use Rattle.model.specs.Pages.{with_page, filled_page, link_to_first}
use Rattle.model.specs.Filling.{overflow_needed, primary_of, filled, overflow_written}
use Rattle.model.proofs.Laws.Lists.{All, all_map}
use Rattle.model.proofs.Laws.Distinct.{Outside, Distinct}
use Rattle.model.proofs.Laws.Pages.{Has, length-with_page, length-filled_page}
use Rattle.model.proofs.Laws.Filling.{needed_few, needed_more, length-filled, length-overflow_written, length-primary_of}
use Rattle.chains.specs.Links.{next_link, linked_pages, link_after}
use Rattle.chains.proofs.Links.{NextPage, first_of_lem, leads_all}
use Rattle.key_source.specs.declared.Source.{Source}
use Rattle.key_source.specs.Sources.{Sits, CanChoose, chosen_of}
use Rattle.chain_writer.specs.declared.Planned.{Planned}
use Rattle.std.specs.Prelude.{Option, None, Some}
use Rattle.chain_writer.specs.Writing.{CanFill, chain_written, rest_written, all_written, CanPlace, CanPlaceRest, CanWrite}
use Rattle.chain_writer.proofs.PagesApart.{filled_beside, filled_apart}

-- ---- Lengths

placed_length : (b : ℕ) (d : Planned) (l : ℕ) (ps : List ℕ) → b ≤ most_records → CanPlace b d l ps → length (rest_written b ps (Some d) l) ≡ length ps
unfolding rest_written chain_written
placed_length b d l ps small can =
    let xs = linked_pages ps (overflow_needed b d.left) l in
    let es = chosen_of ps d.source in
    let beside = length-overflow_written b small ps xs es (leads_all ps can.can_fill.leads) in
    length-with_page (overflow_written b ps xs es) d.to.0 (primary_of b d.level es xs) record { fits = rw beside can.page_fits } (length-primary_of b d.level es xs small) ∙ beside

rest_length : (b : ℕ) (rest : Option Planned) (l : ℕ) (ps : List ℕ) → b ≤ most_records → CanPlaceRest b rest l ps → length (rest_written b ps rest l) ≡ length ps
unfolding rest_written
rest_length b None l ps small can = refl
rest_length b (Some d) l ps small can = placed_length b d l ps small can

-- ---- A page, and more records after it

-- In the memory rs: the page x of an overflow page is written as a primary page would be, and then the page before it.
page_before :
    (b level : ℕ) (rs xs : List ℕ) (es : List Entry) (to x l : ℕ) → b ≤ most_records → Has rs x → All (Has rs) xs → Outside x xs → link_to_first (x ∷ xs) ≡ l
    → with_page (chain_written b rs x 0 (drop b es) xs) to (filled_page level (take b es) l) ≡ chain_written b rs to level es (x ∷ xs)
unfolding chain_written overflow_written primary_of filled
page_before b level rs xs es to x l small h a o e =
    let w = filled_page 0 (take b (drop b es)) (link_to_first xs) in
    let few : length (take b (drop b es)) ≤ most_records = rw length-take (omega arith) in
    let whole = length-filled_page 0 (take b (drop b es)) (link_to_first xs) few in
    ap (λ (ps : List ℕ). with_page ps to (filled_page level (take b es) l)) (sym (filled_beside b small x w whole rs xs (drop b (drop b es)) h a o))
    ∙ ap (λ (n : ℕ). with_page (filled b (with_page rs x w) xs (drop b (drop b es))) to (filled_page level (take b es) n)) (sym e)

cons_is : (ps : List ℕ) (k l : ℕ) → linked_pages ps (suc k) l ≡ (l - 1) ∷ linked_pages ps k (next_link ps l)
unfolding linked_pages
cons_is ps k l = refl

first_link_lem : (l : ℕ) (xs : List ℕ) → 1 ≤ l → link_to_first ((l - 1) ∷ xs) ≡ l
unfolding link_to_first
first_link_lem l xs h = omega arith

module _ (b : ℕ) (c : Planned) (l : ℕ) (rest : Option Planned) (ps : List ℕ) (can : CanWrite b c l rest ps) (more : b < c.left) where
  -- How many pages the records after the first b need beside the first of these.
  abbrev fewer : ℕ
  fewer = overflow_needed b (c.left - b)

  needed : overflow_needed b c.left ≡ suc fewer
  needed = needed_more b c.left can.some_key more

  fills : CanFill ps (suc fewer) l
  fills = rw needed at can.chain.can_fill

  apart : Distinct ((l - 1) ∷ linked_pages ps fewer (next_link ps l))
  apart = rw (cons_is ps fewer l) at fills.distinct

  pub one : NextPage (Has ps) ps fewer l
  one = first_of_lem ps fills.leads

  -- The link after all of c's pages.
  same_after : link_after ps (overflow_needed b c.left) l ≡ link_after ps fewer (next_link ps l)
  unfolding link_after
  same_after = ap (λ (k : ℕ). link_after ps k l) needed

  pub more_can :
      (d : Planned) (after : ℕ) → d.left ≡ c.left - b → d.to.0 ≡ l - 1 → after ≡ next_link ps l → chosen_of ps d.source ≡ drop b (chosen_of ps c.source)
      → Sits ps d.source.place → CanChoose d.source.choice → CanWrite b d after rest ps
  more_can d after left to link keys sits choose =
      let long : length (drop b (chosen_of ps c.source)) ≡ c.left - b = length-drop b (chosen_of ps c.source) ∙ ap (λ (n : ℕ). n - b) can.chain.many in
      record {
        some_key = can.some_key;
        keys_fit = can.keys_fit;
        chain = record {
          sits = sits;
          can_choose = choose;
          many = ap length keys ∙ long ∙ sym left;
          page_fits = rw to one.page.fits;
          can_fill = rw (left, link) record { leads = one.rest; distinct = apart.1 };
        };
        others = rw (left, link, ← same_after) can.others;
      }

  -- The pages after the first b records are written, and then the page of these.
  pub more_written :
      (s : Source) (after : ℕ) (w qs : List ℕ) → after ≡ next_link ps l → chosen_of ps s ≡ drop b (chosen_of ps c.source) → w ≡ filled_page c.level (take b (chosen_of ps c.source)) l
      → qs ≡ chain_written b (rest_written b ps rest (link_after ps fewer after)) (l - 1) 0 (chosen_of ps s) (linked_pages ps fewer after)
      → with_page qs c.to.0 w ≡ all_written b c l rest ps
  more_written s after w qs link keys page written =
      let es = chosen_of ps c.source in
      let rs = rest_written b ps rest (link_after ps (overflow_needed b c.left) l) in
      let xs = linked_pages ps fewer (next_link ps l) in
      let kept = rest_length b rest (link_after ps (overflow_needed b c.left) l) ps can.keys_fit can.others in
      let same : qs ≡ chain_written b rs (l - 1) 0 (drop b es) xs = written ∙ rw (link, keys, ← same_after) refl in
      let has : Has rs (l - 1) = record { fits = rw kept one.page.fits } in
      let all : All (Has rs) xs = all_map xs (λ x h. record { fits = rw kept h.fits }) (leads_all ps one.rest) in
      let first : link_to_first ((l - 1) ∷ xs) ≡ l = first_link_lem l xs one.linked in
      let step = page_before b c.level rs xs es c.to.0 (l - 1) l can.keys_fit has all apart.0 first in
      ap (λ (v : List ℕ). with_page qs c.to.0 v) page ∙ ap (λ (v : List ℕ). with_page v c.to.0 (filled_page c.level (take b es) l)) same ∙ step
      ∙ ap (chain_written b rs c.to.0 c.level es) (sym (ap (λ (k : ℕ). linked_pages ps k l) needed ∙ cons_is ps fewer l))

-- ---- The last page, and the rest

module _ (b : ℕ) (c : Planned) (l : ℕ) (rest : Option Planned) (ps : List ℕ) (can : CanWrite b c l rest ps) (few : c.left ≤ b) where
  none_needed : overflow_needed b c.left ≡ 0
  none_needed = needed_few b c.left can.some_key few

  rest_after : link_after ps (overflow_needed b c.left) l ≡ l
  unfolding link_after
  rest_after = rw none_needed refl

  pub rest_kept : length (rest_written b ps rest l) ≡ length ps
  rest_kept = rest_length b rest l ps can.keys_fit (rw rest_after at can.others)

  pub rest_can : (d : Planned) → rest ≡ Some d → CanWrite b d l None ps
  rest_can d e = record {
    some_key = can.some_key;
    keys_fit = can.keys_fit;
    chain = go;
    others = tt;
  }
    where
      here : CanPlaceRest b rest l ps
      here = rw rest_after at can.others

      go : CanPlaceRest b (Some d) l ps
      go = rw e at here

  -- rest_written is open too: c's records are those of ps, not of what the rest leaves.
  pub last_written : (w qs : List ℕ) → w ≡ filled_page c.level (take c.left (chosen_of ps c.source)) 0 → qs ≡ rest_written b ps rest l → with_page qs c.to.0 w ≡ all_written b c l rest ps
  unfolding rest_written chain_written overflow_written primary_of filled linked_pages link_to_first
  last_written w qs page written =
      let es = chosen_of ps c.source in
      let all : take c.left es ≡ take b es = take_all c.left es (omega (arith, can.chain.many)) ∙ sym (take_all b es (omega (arith, can.chain.many, few))) in
      rw (rest_after, none_needed, page, written, all) refl

pub rest_is : (b : ℕ) (ps : List ℕ) (d : Planned) (l : ℕ) (rest : Option Planned) → rest ≡ Some d → all_written b d l None ps ≡ rest_written b ps rest l
unfolding rest_written
rest_is b ps d l rest e = rw e refl

pub nothing_is : (b : ℕ) (ps : List ℕ) (l : ℕ) (rest : Option Planned) → ((d : Planned) → rest ≡ Some d → ⊥) → ps ≡ rest_written b ps rest l
unfolding rest_written
nothing_is b ps l None h = refl
nothing_is b ps l (Some d) h = absurd (h d refl)

-- ---- Two chains, in the order of a split: the overflow pages xs of the one, the overflow pages ys of the other, their primary pages

pub two_written :
    (b : ℕ) (ps : List ℕ) (to level : ℕ) (es : List Entry) (xs : List ℕ) (other level' : ℕ) (fs : List Entry) (ys : List ℕ) → b ≤ most_records → All (Has ps) xs → All (Has ps) ys → Has ps other
    → Outside other xs → All (λ x. Outside x ys) xs
    → chain_written b (chain_written b ps other level' fs ys) to level es xs
    ≡ with_page (with_page (overflow_written b (overflow_written b ps xs es) ys fs) other (primary_of b level' fs ys)) to (primary_of b level es xs)
unfolding chain_written overflow_written
two_written b ps to level es xs other level' fs ys small hx hy ho out apart =
    let p = primary_of b level' fs ys in
    let q = primary_of b level es xs in
    let qs = filled b ps ys (drop b fs) in
    let long = length-filled b small ps ys (drop b fs) hy in
    let still : Has qs other = record { fits = rw long ho.fits } in
    let all : All (Has qs) xs = all_map xs (λ x h. record { fits = rw long h.fits }) hx in
    ap (λ (z : List ℕ). with_page z to q) (filled_beside b small other p (length-primary_of b level' fs ys small) qs xs (drop b es) still all out)
    ∙ ap (λ (z : List ℕ). with_page (with_page z other p) to q) (filled_apart b small ps xs ys (drop b es) (drop b fs) hx hy apart)
