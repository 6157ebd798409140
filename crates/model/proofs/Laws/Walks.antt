-- What a walk finds: the pages that a link leads to are linked and sound, no more than the walk may follow, and none stands twice.
-- Main statements: walked_chained (a walk without damage); Reads and chain_reads (a chain looked through whole),
-- read_ascends; linked_sound, linked_overflow, linked_distinct (of pages that stand linked);
-- same_beside (a page that is none of them is written); length-entries_on (how many records pages hold at most).
use mathlib.Core.Path.{◌≡◌, refl, sym, ap, ◌∙◌}
use mathlib.Core.Logic.{◌≢◌}
use mathlib.Core.Bool.{Bool, true, false, cond}
use mathlib.Core.List.{List, [], ◌∷◌}
use Prim.Native.Nat.{ℕ, zero, suc, ◌+◌, ◌-◌, ◌*◌, ◌≤◌}
use native.Mathlib.Omega.{arith}
use lib.ListN.{length, length-append, length-take}
use lib.Dec.{eqb}
use Rattle.model.specs.declared.Root.{Root}
use Rattle.model.specs.Sizes.{page_words}
use Rattle.model.specs.Entries.{ascending}
use Rattle.model.specs.Pages.{page_of, with_page, count_of, link_of, entries_of, link_sound, page_sound, primary_page, link_to_first}
use Rattle.model.specs.Chains.{Checked, damaged, sound, sound_if, and_then, overflow_from, list_from, entries_on, Chain, read_chain, ascending_chain, chain_of, records_read}
use Rattle.model.proofs.Laws.Lists.{All, eqb-true, eqb-false}
use Rattle.model.proofs.Laws.Distinct.{Outside, Distinct}
use Rattle.model.proofs.Laws.Pages.{Has, page_other}
use Rattle.model.proofs.Laws.Tests.{named-within, sound_named, sound_page_links}
use Rattle.model.proofs.Laws.Structure.{Linked, SameOn}
use Rattle.model.proofs.Laws.Filling.{Chained, IsOverflow}

-- ---- A walk that may follow n pages from link l on, and found xs

module _ (r : Root) (ps : List ℕ) where
  at_end : (n l : ℕ) (xs : List ℕ) → l ≡ 0 → xs ≡ [] → Chained r ps l xs × (length xs ≤ n)
  unfolding link_to_first
  at_end n l xs e f = rw (e, f) (record { first = refl; linked = tt }, omega arith)

  pub walked_chained : (n l : ℕ) (xs : List ℕ) → overflow_from r ps n l ≡ sound xs → Chained r ps l xs × (length xs ≤ n)
  unfolding overflow_from link_to_first
  walked_chained zero l xs e = go (eqb l 0) refl e
    where
      go : (b : Bool) → b ≡ eqb l 0 → sound_if b [] ≡ sound xs → Chained r ps l xs × (length xs ≤ 0)
      go true eb e = at_end 0 l xs (eqb-true _ _ (sym eb)) (cc)
      go false eb e = absurd (let z : ◌≡◌ {A = ℕ} 0 1 = cc in omega arith)
  walked_chained (suc n) l xs e = go (walked_chained n (link_of w)) (eqb l 0) (page_sound r w) (overflow_from r ps n (link_of w)) refl refl refl e
    where
      w : List ℕ
      w = page_of ps (l - 1)

      go : ((ys : List ℕ) → overflow_from r ps n (link_of w) ≡ sound ys → Chained r ps (link_of w) ys × (length ys ≤ n))
          → (b g : Bool) (rest : Checked (List ℕ)) → b ≡ eqb l 0 → g ≡ page_sound r w → rest ≡ overflow_from r ps n (link_of w)
          → cond b (sound []) (cond g (and_then rest (λ ys. sound ((l - 1) ∷ ys))) damaged) ≡ sound xs → Chained r ps l xs × (length xs ≤ suc n)
      go next true g rest eb eg er e = at_end (suc n) l xs (eqb-true _ _ (sym eb)) (cc)
      go next false false rest eb eg er e = absurd (let z : ◌≡◌ {A = ℕ} 0 1 = cc in omega arith)
      go next false true damaged eb eg er e = absurd (let z : ◌≡◌ {A = ℕ} 0 1 = cc in omega arith)
      go next false true (sound ys) eb eg er e =
          let some : l ≢ 0 = eqb-false _ _ (sym eb) in
          let found = next ys (sym er) in
          let here : xs ≡ (l - 1) ∷ ys = cc in
          rw here (record { first = omega (arith, some); linked = (sym eg, found.0.first, found.0.linked) }, omega (arith, found.1))

-- ---- What was read of a chain

-- Chain c was looked through whole, its overflow pages are xs, and d is what was read.
pub record Reads (r : Root) (ps : List ℕ) (c : ℕ) (d : Chain) : Type 0 where
  pub xs : List ℕ
  pub page_sound_ok : page_sound r (page_of ps (primary_page c)) ≡ true
  pub listed : list_from r ps (link_of (page_of ps (primary_page c))) ≡ sound xs
  pub chain_is : read_chain ps c xs ≡ d
  pub ascends : ascending d.entries ≡ true

pub chain_reads : (r : Root) (ps : List ℕ) (c : ℕ) (d : Chain) → chain_of r ps c ≡ sound d → Reads r ps c d
unfolding chain_of ascending_chain
chain_reads r ps c d e = go (page_sound r (page_of ps c)) (list_from r ps (link_of (page_of ps c))) refl refl e
  where
    whole : (xs : List ℕ) → page_sound r (page_of ps c) ≡ true → list_from r ps (link_of (page_of ps c)) ≡ sound xs
        → (b : Bool) → b ≡ ascending (read_chain ps c xs).entries → sound_if b (read_chain ps c xs) ≡ sound d → Reads r ps c d
    whole xs g f true eb e = let q : read_chain ps c xs ≡ d = cc in record { xs = xs; page_sound_ok = g; listed = f; chain_is = q; ascends = rw (← q) (sym eb) }
    whole xs g f false eb e = absurd (let z : ◌≡◌ {A = ℕ} 0 1 = cc in omega arith)

    go : (b : Bool) (x : Checked (List ℕ)) → b ≡ page_sound r (page_of ps c) → x ≡ list_from r ps (link_of (page_of ps c))
        → cond b (and_then x (λ xs. ascending_chain (read_chain ps c xs))) damaged ≡ sound d → Reads r ps c d
    go true damaged eb ex e = absurd (let z : ◌≡◌ {A = ℕ} 0 1 = cc in omega arith)
    go true (sound xs) eb ex e = whole xs (sym eb) (sym ex) (ascending (read_chain ps c xs).entries) refl e
    go false x eb ex e = absurd (let z : ◌≡◌ {A = ℕ} 0 1 = cc in omega arith)

-- Whatever was read ascends.
pub read_ascends : (r : Root) (ps : List ℕ) (c : ℕ) → ascending (records_read (chain_of r ps c)) ≡ true
unfolding records_read ascending
read_ascends r ps c = go (chain_of r ps c) refl
  where
    go : (x : Checked Chain) → chain_of r ps c ≡ x → ascending (records_read x) ≡ true
    go damaged e = refl
    go (sound d) e = (chain_reads r ps c d e).ascends

-- ---- Pages that stand linked

module _ (r : Root) (ps : List ℕ) where
  pub linked_sound : (xs : List ℕ) → Linked r ps xs → All (λ x. page_sound r (page_of ps x) ≡ true) xs
  linked_sound [] h = tt
  linked_sound (x ∷ xs) h = (h.0, linked_sound xs h.2)

  -- They are overflow pages, where the link to the first was tested.
  pub linked_overflow : (xs : List ℕ) → link_sound r (link_to_first xs) ≡ true → Linked r ps xs → All (IsOverflow r) xs
  unfolding link_to_first
  linked_overflow [] s h = tt
  linked_overflow (x ∷ xs) s h =
      let w = named-within r (x + 1) (sound_named r (x + 1) (λ e. omega arith) s) in
      (record { above = omega (arith, w.0); below = omega (arith, w.1) }, linked_overflow xs (rw h.1 at (sound_page_links r (page_of ps x) h.0)) h.2)

  -- A link leads to one list only.
  linked_same : (xs ys : List ℕ) → Linked r ps xs → Linked r ps ys → link_to_first xs ≡ link_to_first ys → xs ≡ ys
  unfolding link_to_first
  linked_same [] [] h k e = refl
  linked_same [] (y ∷ ys) h k e = absurd (omega arith)
  linked_same (x ∷ xs) [] h k e = absurd (omega arith)
  linked_same (x ∷ xs) (y ∷ ys) h k e =
      let here : x ≡ y = omega arith in
      let rest = linked_same xs ys h.2 k.2 (sym h.1 ∙ ap (λ (z : ℕ). link_of (page_of ps z)) here ∙ k.1) in
      rw (here, rest) refl

  -- The first page is on no list that is shorter: from that page on both would be the same.
  first_outside : (x : ℕ) (xs ys : List ℕ) → Linked r ps (x ∷ xs) → Linked r ps ys → length ys ≤ length xs → Outside x ys
  unfolding link_to_first
  first_outside x xs [] h k n = tt
  first_outside x xs (y ∷ ys) h k n = (never, first_outside x xs ys h k.2 (omega arith))
    where
      never : x ≢ y
      never e = omega (arith, n, ap length (linked_same (x ∷ xs) (y ∷ ys) h k (ap (λ (z : ℕ). z + 1) e)))

  -- A list that ends names no page twice.
  pub linked_distinct : (xs : List ℕ) → Linked r ps xs → Distinct xs
  linked_distinct [] h = tt
  linked_distinct (x ∷ xs) h = (first_outside x xs xs h h.2 (omega arith), linked_distinct xs h.2)

-- A page that is none of them is written.
pub same_beside : (ps : List ℕ) (x : ℕ) (w xs : List ℕ) → Has ps x → length w ≡ page_words → Outside x xs → SameOn ps (with_page ps x w) xs
same_beside ps x w [] has whole o = tt
same_beside ps x w (y ∷ ys) has whole o = (page_other ps x w has whole y (λ e. o.0 (sym e)), same_beside ps x w ys has whole o.1)

-- ---- The records on pages

-- At most b a page.
pub length-entries_on : (b : ℕ) (ps xs : List ℕ) → All (λ x. count_of (page_of ps x) ≤ b) xs → length (entries_on ps xs) ≤ length xs * b
unfolding entries_on entries_of
length-entries_on b ps [] a = omega arith
length-entries_on b ps (x ∷ xs) a = rw (length-append, length-take) (omega (arith, a.0, length-entries_on b ps xs a.1))
