-- A chain's overflow pages walked, and then followed again to gather their records.
-- Main statements: unsound_damaged, sound_listed (what overflow_of is); Walks and walked_walks (pages that were walked can be followed, and have these records);
-- entries_next, page_gathered (one page more), all_gathered (the end).
use mathlib.Core.Path.{◌≡◌, refl, sym, ap, ◌∙◌}
use mathlib.Core.Bool.{true, false}
use mathlib.Core.List.{List, [], ◌++◌, append-nil, append_assoc}
use Prim.Native.Nat.{ℕ, zero, suc, ◌+◌, ◌-◌, ◌*◌, ◌≤◌, ◌<◌}
use native.Mathlib.Omega.{arith}
use lib.ListN.{length}
use Rattle.model.specs.declared.Root.{Root}
use Rattle.model.specs.declared.Entry.{Entry}
use Rattle.model.specs.Sizes.{page_words, most_records}
use Rattle.model.specs.Pages.{page_of, link_of, entries_of, link_sound, page_sound}
use Rattle.model.specs.Chains.{damaged, sound, overflow_from, list_from, entries_on}
use Rattle.model.proofs.Laws.Lists.{all_zip}
use Rattle.model.proofs.Laws.Tests.{sound_page_counts}
use Rattle.model.proofs.Laws.Filling.{IsOverflow}
use Rattle.model.proofs.Laws.Walks.{walked_chained, linked_sound, linked_overflow}
use Rattle.chains.specs.Links.{linked_pages}
use Rattle.chains.proofs.Links.{chained_pages, chained_leads}
use Rattle.chain_keys.specs.Gathering.{overflow_of, entries_from, CanRead, Followed}

module _ (r : Root) (ps : List ℕ) (c : ℕ) where
  pub unsound_damaged : page_sound r (page_of ps c) ≡ false → overflow_of r ps c ≡ damaged
  unfolding overflow_of
  unsound_damaged e = rw e refl

  pub sound_listed : page_sound r (page_of ps c) ≡ true → overflow_of r ps c ≡ list_from r ps (link_of (page_of ps c))
  unfolding overflow_of
  sound_listed e = rw e refl

-- ---- Pages that were walked

-- From link l on, the pages xs were walked: they can be followed, and their records are those of the n pages from l on.
pub record Walks (ps : List ℕ) (l : ℕ) (xs : List ℕ) : Type 0 where
  pub followed : Followed ps (length xs) l
  pub entries : entries_from ps (length xs) l ≡ entries_on ps xs

pub walked_walks : (r : Root) (ps : List ℕ) → r.capacity ≤ most_records → page_words * (r.primaries + r.overflow) ≤ length ps
    → (n l : ℕ) (xs : List ℕ) → link_sound r l ≡ true → overflow_from r ps n l ≡ sound xs → Walks ps l xs
unfolding entries_from
walked_walks r ps keys fits n l xs s e =
    let found = (walked_chained r ps n l xs e).0 in
    let over = linked_overflow r ps xs (rw found.first at s) found.linked in
    let readable : (x : ℕ) → page_sound r (page_of ps x) ≡ true → IsOverflow r x → CanRead ps x
    = λ x g o. record { fits = omega (arith, o.below); few = omega (arith, sound_page_counts r (page_of ps x) g) } in
    record {
      followed = chained_leads r ps (CanRead ps) l xs found (all_zip xs readable (linked_sound r ps xs found.linked) over);
      entries = ap (entries_on ps) (chained_pages r ps l xs found);
    }

-- ---- One page more

pub entries_next : (ps : List ℕ) (n l : ℕ) → 0 < n → entries_from ps n l ≡ entries_of (page_of ps (l - 1)) ++ entries_from ps (n - 1) (link_of (page_of ps (l - 1)))
unfolding entries_from entries_on linked_pages
entries_next ps zero l some = absurd (omega arith)
entries_next ps (suc n) l some =
    let q : n ≡ suc n - 1 = omega arith in
    ap (λ (m : ℕ). entries_of (page_of ps (l - 1)) ++ entries_from ps m (link_of (page_of ps (l - 1)))) q

pub entries_none : (ps : List ℕ) (n l : ℕ) → n ≤ 0 → entries_from ps n l ≡ []
unfolding entries_from entries_on linked_pages
entries_none ps zero l h = refl
entries_none ps (suc n) l h = absurd (omega arith)

-- The records of one page more stand in the buffer.
pub page_gathered : (ps : List ℕ) (whole front next : List Entry) (n l : ℕ) → 0 < n → whole ≡ front ++ entries_from ps n l → next ≡ front ++ entries_of (page_of ps (l - 1))
    → whole ≡ next ++ entries_from ps (n - 1) (link_of (page_of ps (l - 1)))
page_gathered ps whole front next n l some e copied =
    let rest = entries_from ps (n - 1) (link_of (page_of ps (l - 1))) in
    e ∙ ap (λ (es : List Entry). front ++ es) (entries_next ps n l some) ∙ sym (append_assoc front (entries_of (page_of ps (l - 1))) rest)
    ∙ ap (λ (es : List Entry). es ++ rest) (sym copied)

pub all_gathered : (ps : List ℕ) (whole front : List Entry) (n l : ℕ) → n ≤ 0 → whole ≡ front ++ entries_from ps n l → front ≡ whole
all_gathered ps whole front n l h e = sym (e ∙ ap (λ (es : List Entry). front ++ es) (entries_none ps n l h) ∙ append-nil front)
