-- Reading back what Structure says of the page memory: pages that stand linked are listed by the walk, and a chain that holds these records is read as them.
-- Main statements: has_overflow, primary_outside, scratch_outside, outside_absent, absent_outside, length_overflow (lists of overflow pages); held_overflow, held_length,
-- held_apart, both-length (the lists that owners hold); names_first, names_some, first_linked, link_none (link words); linked_list (a walk over linked pages); overflow_length (how many overflow
-- pages a chain has); entries_primary, chain_list and chain_read (a chain looked through whole).
use mathlib.Core.Path.{◌≡◌, refl, sym, ap, ◌∙◌}
use mathlib.Core.Logic.{◌≢◌, ◌↔◌}
use mathlib.Core.Bool.{true, false}
use mathlib.Core.List.{List, [], ◌∷◌, ◌++◌}
use Prim.Native.Nat.{ℕ, zero, suc, ◌+◌, ◌≤◌, ◌<◌}
use native.Mathlib.Omega.{arith}
use lib.ListN.{length, take, drop, length-append, length-drop}
use lib.Dec.{eqb}
use borrow.Author.Tests.{lt-ltb, le-leb, ne_eqb}
use Rattle.model.specs.declared.Root.{Root}
use Rattle.model.specs.Sizes.{all_page_words}
use Rattle.model.specs.declared.Entry.{Entry}
use Rattle.model.specs.Entries.{ascending}
use Rattle.model.specs.Pages.{page_of, entries_of, link_to_first, names_overflow, most_level, primary_page, scratch_page, linked_page}
use Rattle.model.specs.Chains.{sound, overflow_from, list_from, read_chain, ascending_chain, chain_of}
use Rattle.model.specs.FreeList.{is_among}
use Rattle.model.specs.Filling.{overflow_needed, pages_for, primary_of}
use Rattle.model.proofs.Laws.Lists.{Told, holds, fails, tell, Cmp, same, diff, cmp, eqb_same, eqb-diff, neither_or, count_cons, count_append, absent_count, All, all_map, all_append, all_from}
use Rattle.model.proofs.Laws.Distinct.{Outside, outside_count}
use Rattle.model.proofs.Invariant.Ghost.{Owner, same_owner, count, Owned}
use Rattle.model.proofs.Invariant.Owners.{no_repeats, absent_elsewhere, overflow_bounds}
use Rattle.model.proofs.Laws.Pages.{Has, entries_filled_page}
use Rattle.model.proofs.Laws.Structure.{Linked, Overflow, ChainIs}
use Rattle.model.proofs.Laws.Filling.{IsOverflow, needed_few, needed_more, overflow_linked, chain_level, chain_link, chain_entries, chain_sound}

-- ---- Overflow pages

-- They are pages of a memory of the right length, and none is a primary or a scratch page.
pub has_overflow : (r : Root) (ps xs : List ℕ) → length ps ≡ all_page_words r → All (IsOverflow r) xs → All (Has ps) xs
has_overflow r ps xs e a = all_map xs (λ x h. record { fits = omega arith }) a

pub primary_outside : (r : Root) (c : ℕ) (xs : List ℕ) → c < r.primaries → All (IsOverflow r) xs → Outside c xs
primary_outside r c xs l a = all_map xs (λ x h e. omega arith) a

pub scratch_outside : (r : Root) (q : ℕ) (xs : List ℕ) → All (IsOverflow r) xs → Outside (scratch_page r q) xs
scratch_outside r q xs a = all_map xs (λ x h e. omega arith) a

-- A page that is none of a list's pages is not among them, and back.
pub outside_absent : (y : ℕ) (xs : List ℕ) → Outside y xs → is_among y xs ≡ false
unfolding is_among
outside_absent y [] o = refl
outside_absent y (x ∷ xs) o = neither_or (eqb-diff x y (λ e. o.0 (sym e))) (outside_absent y xs o.1)

pub absent_outside : (y : ℕ) (xs : List ℕ) → is_among y xs ≡ false → Outside y xs
absent_outside y xs n = outside_count y xs (absent_count y xs n)

-- How often the v numbers from p on are in a list, together.
count_from : ℕ → ℕ → List ℕ → ℕ
count_from p zero xs = 0
count_from p (suc v) xs = count (p + v) xs + count_from p v xs

from_once : (p v : ℕ) (xs : List ℕ) → ((x : ℕ) → count x xs ≤ 1) → count_from p v xs ≤ v
unfolding count_from
from_once p zero xs f = omega arith
from_once p (suc v) xs f = omega (arith, f (p + v), from_once p v xs f)

from_rest : (p v x : ℕ) (xs : List ℕ) → count_from p v xs ≤ count_from p v (x ∷ xs)
unfolding count_from
from_rest p zero x xs = omega arith
from_rest p (suc v) x xs = omega (arith, count_cons (p + v) x xs, from_rest p v x xs)

from_first : (p v x : ℕ) (xs : List ℕ) → p ≤ x → x < p + v → 1 + count_from p v xs ≤ count_from p v (x ∷ xs)
unfolding count_from
from_first p zero x xs h l = absurd (omega arith)
from_first p (suc v) x xs h l = go (cmp x (p + v)) (λ k. from_first p v x xs h k)
  where
    go : Cmp x (p + v) → (x < p + v → 1 + count_from p v xs ≤ count_from p v (x ∷ xs)) → 1 + (count (p + v) xs + count_from p v xs) ≤ count (p + v) (x ∷ xs) + count_from p v (x ∷ xs)
    go (same e) ih = rw (count_cons (p + v) x xs, eqb_same x (p + v) e) (omega (arith, from_rest p v x xs))
    go (diff n) ih = omega (arith, count_cons (p + v) x xs, ih (omega arith))

-- A list of overflow pages without repeats is no longer than they are many.
pub length_overflow : (r : Root) (xs : List ℕ) → All (IsOverflow r) xs → ((x : ℕ) → count x xs ≤ 1) → length xs ≤ r.overflow
length_overflow r xs a f = omega (arith, all xs a, from_once r.primaries r.overflow xs f)
  where
    all : (ys : List ℕ) → All (IsOverflow r) ys → length ys ≤ count_from r.primaries r.overflow ys
    all [] b = omega arith
    all (y ∷ ys) b = omega (arith, all ys b.1, from_first r.primaries r.overflow y ys b.0.above b.0.below)

-- ---- The lists that owners hold: overflow pages, not too many, and no page in two lists

module _ (r : Root) {own : ℕ → Owner} {held : Owner → List ℕ} (w : Owned r.primaries r.overflow own held) where
  pub held_overflow : (o : Owner) → All (IsOverflow r) (held o)
  held_overflow o = all_from (IsOverflow r) (held o) (λ x e. let b = overflow_bounds w o x e in record { above = b.0; below = b.1 })

  pub held_length : (o : Owner) → length (held o) ≤ r.overflow
  held_length o = length_overflow r (held o) (held_overflow o) (no_repeats w o)

  pub held_apart : (a b : Owner) → same_owner a b ≡ false → (y : ℕ) → count y (held a) + count y (held b) ≤ 1
  held_apart a b n y = go (tell (is_among y (held a)))
    where
      go : Told (is_among y (held a)) → count y (held a) + count y (held b) ≤ 1
      go (holds e) = omega (arith, absent_count y (held b) (absent_elsewhere w a b y e n), no_repeats w a y)
      go (fails e) = omega (arith, absent_count y (held a) e, no_repeats w b y)

  pub both-length : (a b : Owner) → same_owner a b ≡ false → length (held a) + length (held b) ≤ r.overflow
  both-length a b n =
      omega (
        arith,
        length-append (held a) (held b),
        length_overflow r (held a ++ held b) (all_append (IsOverflow r) (held a) (held b) (held_overflow a) (held_overflow b))
            (λ y. omega (arith, count_append y (held a) (held b), held_apart a b n y)),
      )

-- ---- Link words

-- The link word to the first of some pages is not 0, names an overflow page, and leads to it.
pub first_some : (x : ℕ) (xs : List ℕ) → eqb (link_to_first (x ∷ xs)) 0 ≡ false
unfolding link_to_first
first_some x xs = ne_eqb (x + 1) 0 (λ e. omega arith)

pub names_first : (r : Root) (x : ℕ) (xs : List ℕ) → IsOverflow r x → names_overflow r (link_to_first (x ∷ xs)) ≡ true
unfolding names_overflow link_to_first
names_first r x xs h = rw (lt-ltb r.primaries (x + 1) (omega arith), le-leb (x + 1) (r.primaries + r.overflow) (omega arith))

pub names_some : (r : Root) (xs : List ℕ) → All (IsOverflow r) xs → link_to_first xs ≢ 0 → names_overflow r (link_to_first xs) ≡ true
unfolding link_to_first
names_some r [] a n = absurd (n refl)
names_some r (x ∷ xs) a n = names_first r x xs a.0

pub first_linked : (x : ℕ) (xs : List ℕ) → linked_page (link_to_first (x ∷ xs)) ≡ x
unfolding link_to_first
first_linked x xs = omega arith

-- It is 0 for no page, and then only.
pub link_none : (xs : List ℕ) → (link_to_first xs ≡ 0) ↔ (xs ≡ [])
unfolding link_to_first
link_none [] = (λ e. refl, λ e. refl)
link_none (x ∷ xs) = (λ e. absurd (omega arith), λ e. cc)

-- ---- Pages that stand linked

-- The walk lists them, where the n pages that it may follow are enough.
pub linked_from : (r : Root) (ps xs : List ℕ) (n : ℕ) → Linked r ps xs → length xs ≤ n → overflow_from r ps n (link_to_first xs) ≡ sound xs
unfolding overflow_from
linked_from r ps [] zero k h = rw ((link_none []).1 refl)
linked_from r ps [] (suc n) k h = rw ((link_none []).1 refl)
linked_from r ps (x ∷ xs) zero k h = absurd (omega arith)
linked_from r ps (x ∷ xs) (suc n) k h = rw (first_some x xs, first_linked x xs, k.0, k.1, linked_from r ps xs n k.2 (omega arith))

pub linked_list : (r : Root) (ps xs : List ℕ) → Linked r ps xs → length xs ≤ r.overflow → list_from r ps (link_to_first xs) ≡ sound xs
unfolding list_from
linked_list r ps xs k h = linked_from r ps xs r.overflow k h

-- ---- The overflow pages of a chain

-- They are as many as its records need.
pub overflow_length : (b : ℕ) (ps xs : List ℕ) (es : List Entry) → 0 < b → Overflow b ps xs (drop b es) → length xs ≡ pages_for b es
unfolding pages_for
overflow_length b ps [] es h k = sym (needed_few b (length es) h (let l = length-drop b es in let e = ap length k in omega arith))
overflow_length b ps (x ∷ xs) es h k =
    let l = length-drop b es in
    let more = needed_more b (length es) h (let n = k.0 in omega arith) in
    ap suc (overflow_length b ps xs (drop b es) h k.2 ∙ ap (overflow_needed b) l) ∙ sym more

-- ---- A chain whole

pub entries_primary :
    (b : ℕ) (ps : List ℕ) (c level : ℕ) (es : List Entry) (xs : List ℕ) → ChainIs b ps c level es xs → entries_of (page_of ps (primary_page c)) ≡ take b es
unfolding primary_of
entries_primary b ps c level es xs k = rw k.primary (entries_filled_page level (take b es) (link_to_first xs))

module _ (r : Root) (ps : List ℕ) (c level : ℕ) (es : List Entry) (xs : List ℕ) (k : ChainIs r.capacity ps c level es xs) where
  pub chain_list : All (IsOverflow r) xs → length xs ≤ r.overflow → list_from r ps (link_to_first xs) ≡ sound xs
  chain_list a h = linked_list r ps xs (overflow_linked r ps xs (drop r.capacity es) a k.overflow) h

  pub chain_read :
      level ≤ most_level → All (IsOverflow r) xs → length xs ≤ r.overflow → ascending es ≡ true
      → chain_of r ps c ≡ sound (record { level = level; link = link_to_first xs; pages = xs; entries = es })
  unfolding chain_of ascending_chain read_chain
  chain_read h a n up =
      rw (
        chain_sound r ps c level es xs k a h,
        chain_link r.capacity ps c level es xs k,
        chain_list a n,
        chain_entries r.capacity ps c level es xs k,
        chain_level r.capacity ps c level es xs k,
        up,
      )
