-- What the tests of take-up say where they hold: words and pages that are the same or zero, idle records, pages
-- filled, the free list, records at home.
-- Main statements: same_words_lem, zeros, record_zero, all_idle_lem, zero_page_at; packed_overflow and packed_chain (a chain
-- word for word); home_keys; taken_list (the free list).
use mathlib.Core.Path.{◌≡◌, refl, sym, ap, ap₂, ◌∙◌}
use mathlib.Core.Logic.{◌⊎◌, inl, inr}
use mathlib.Core.Bool.{Bool, true, false, cond, not, ◌&&◌}
use mathlib.Core.List.{List, [], ◌∷◌}
use Prim.Native.Nat.{ℕ, zero, suc, ◌+◌, ◌-◌, ◌≤◌, ◌<◌}
use native.Mathlib.Omega.{arith}
use lib.ListN.{length, take, drop, replicate, length-drop}
use lib.Dec.{eqb}
use Rattle.model.specs.declared.Root.{Root}
use Rattle.model.specs.declared.Party.{Party}
use Rattle.model.specs.declared.Entry.{Entry}
use Rattle.model.specs.Records.{idle}
use Rattle.model.specs.Addresses.{hash}
use Rattle.model.specs.Entries.{key_of, has_key, is_empty}
use Rattle.model.specs.Pages.{page_of, link_of, filled_page, free_page, zero_page, link_to_first, linked_page, names_overflow, primary_page}
use Rattle.model.specs.Chains.{Checked, damaged, sound, and_then}
use Rattle.model.specs.Filling.{pages_for, primary_of}
use Rattle.model.specs.FreeList.{Taken, is_among, also_taken, taken_from}
use Rattle.model.specs.Memory.{party_at}
use Rattle.model.specs.TakeUp.{same_words, zero_pages, is_zero_record, all_idle, all_home, packed, all_free}
use Rattle.model.proofs.Laws.Lists.{false≢true, eqb-true, and_both, or_either, Cmp, same, diff, cmp, All}
use Rattle.model.proofs.Laws.Tests.{named-within}
use Rattle.model.proofs.Laws.Structure.{FreePages, Overflow, ChainIs}
use Rattle.model.proofs.Laws.Filling.{Exact, exact_less, needed_exact, IsOverflow}
use Rattle.model.specs.WaitingRow.{all_zero}

-- ---- Words

pub same_words_lem : (xs ys : List ℕ) → same_words xs ys ≡ true → xs ≡ ys
unfolding same_words
same_words_lem [] [] e = refl
same_words_lem [] (y ∷ ys) e = absurd (false≢true e)
same_words_lem (x ∷ xs) [] e = absurd (false≢true e)
same_words_lem (x ∷ xs) (y ∷ ys) e =
    let f = and_both (eqb x y) (same_words xs ys) e in ap₂ (λ (a : ℕ) (l : List ℕ). a ∷ l) (eqb-true x y f.0) (same_words_lem xs ys f.1)

pub zeros : (ws : List ℕ) → all_zero ws ≡ true → ws ≡ replicate (length ws) 0
unfolding all_zero
zeros [] e = refl
zeros (w ∷ ws) e =
    let f = and_both (eqb w 0) (all_zero ws) e in ap₂ (λ (a : ℕ) (l : List ℕ). a ∷ l) (eqb-true w 0 f.0) (zeros ws f.1)

first-zero : (w : ℕ) (ws : List ℕ) → all_zero (w ∷ ws) ≡ true → (w ≡ 0) × (all_zero ws ≡ true)
unfolding all_zero
first-zero w ws e = let f = and_both (eqb w 0) (all_zero ws) e in (eqb-true w 0 f.0, f.1)

-- ---- Idle records

pub record_zero : (p : Party) → is_zero_record p ≡ true → p ≡ idle
unfolding is_zero_record
record_zero p e =
    let a = first-zero p.operation _ e in
    let b = first-zero p.key _ a.1 in
    let c = first-zero p.step _ b.1 in
    let d = first-zero p.lev _ c.1 in
    let f = first-zero p.chain _ d.1 in
    let g = first-zero p.other _ f.1 in
    let h = first-zero p.old _ g.1 in
    let j = first-zero p.owed _ h.1 in
    let k = first-zero p.answer _ j.1 in
    let l = first-zero p.setting _ k.1 in
    λ i. record {
      operation = a.0 i;
      key = b.0 i;
      step = c.0 i;
      lev = d.0 i;
      chain = f.0 i;
      other = g.0 i;
      old = h.0 i;
      owed = j.0 i;
      answer = k.0 i;
      setting = l.0 i;
    }

pub all_idle_lem : (ps : List Party) → all_idle ps ≡ true → (q : ℕ) → party_at ps q ≡ idle
unfolding all_idle
all_idle_lem [] e q = refl
all_idle_lem (p ∷ ps) e zero = record_zero p (and_both (is_zero_record p) (all_idle ps) e).0
all_idle_lem (p ∷ ps) e (suc q) = all_idle_lem ps (and_both (is_zero_record p) (all_idle ps) e).1 q

-- ---- Zero pages

pub zero_page_at : (ps : List ℕ) (n x y : ℕ) → zero_pages ps n x ≡ true → x ≤ y → y < x + n → page_of ps y ≡ zero_page
unfolding zero_pages
zero_page_at ps zero x y e h l = absurd (omega arith)
zero_page_at ps (suc n) x y e h l =
    let f = and_both (same_words (page_of ps x) zero_page) (zero_pages ps n (x + 1)) e in
    go (cmp x y) (same_words_lem (page_of ps x) zero_page f.0) (λ k. zero_page_at ps n (x + 1) y f.1 k (omega arith))
  where
    go : Cmp x y → page_of ps x ≡ zero_page → (x + 1 ≤ y → page_of ps y ≡ zero_page) → page_of ps y ≡ zero_page
    go (same t) z ih = ap (page_of ps) (sym t) ∙ z
    go (diff t) z ih = ih (omega arith)

-- ---- Pages filled

-- The overflow pages of a chain, none of them empty.
pub packed_overflow : (b : ℕ) (ps xs : List ℕ) (es : List Entry) → packed b ps 0 xs es ≡ true → Exact b (length es) (length xs) → Overflow b ps xs es
unfolding packed is_empty
packed_overflow b ps [] [] e k = refl
packed_overflow b ps [] (y ∷ ys) e k = absurd (false≢true e)
packed_overflow b ps (x ∷ xs) es e k =
    let f = and_both (same_words (page_of ps x) (filled_page 0 (take b es) (link_to_first xs))) (packed b ps 0 xs (drop b es)) e in (
      omega (arith, k.none_empty),
      same_words_lem (page_of ps x) (filled_page 0 (take b es) (link_to_first xs)) f.0,
      packed_overflow b ps xs (drop b es) f.1 (rw length-drop (exact_less b (length es) (length xs) k)),
    )

pub packed_chain : (b : ℕ) (ps : List ℕ) (c level : ℕ) (es : List Entry) (xs : List ℕ) → 0 < b → packed b ps level (primary_page c ∷ xs) es ≡ true
    → length xs ≡ pages_for b es → ChainIs b ps c level es xs
unfolding packed primary_of pages_for
packed_chain b ps c level es xs some e k =
    let f = and_both (same_words (page_of ps c) (filled_page level (take b es) (link_to_first xs))) (packed b ps 0 xs (drop b es)) e in
    record {
      primary = same_words_lem (page_of ps c) (filled_page level (take b es) (link_to_first xs)) f.0;
      overflow = packed_overflow b ps xs (drop b es) f.1 (rw (length-drop, k) (needed_exact b (length es) some));
    }

-- ---- Records at home

pub home_keys : (n i c : ℕ) (es : List Entry) → all_home n i c es ≡ true → (k : ℕ) → has_key k es ≡ true → hash n i k ≡ c
unfolding all_home has_key
home_keys n i c [] e k h = absurd (false≢true h)
home_keys n i c (x ∷ xs) e k h =
    let f = and_both (eqb (hash n i (key_of x)) c) (all_home n i c xs) e in
    go (eqb-true (hash n i (key_of x)) c f.0) (or_either (eqb (key_of x) k) (has_key k xs) h) (λ t. home_keys n i c xs f.1 k t)
  where
    go : hash n i (key_of x) ≡ c → (eqb (key_of x) k ≡ true) ⊎ (has_key k xs ≡ true) → (has_key k xs ≡ true → hash n i k ≡ c) → hash n i k ≡ c
    go z (inl t) ih = ap (hash n i) (sym (eqb-true (key_of x) k t)) ∙ z
    go z (inr t) ih = ih t

-- ---- The free list

-- Pages that were taken up to the end of the list: links lead through them, and each is an overflow page.
pub record TakenList (r : Root) (ps : List ℕ) (k l : ℕ) (xs : List ℕ) : Type 0 where
  pub first : l ≡ link_to_first xs
  pub as_many : length xs ≡ k
  pub overflow : All (IsOverflow r) xs
  pub free : all_free ps xs ≡ true → FreePages ps xs

pub taken_list : (r : Root) (ps : List ℕ) (k l : ℕ) (before xs : List ℕ) → taken_from r ps k l before ≡ sound (record { pages = xs; head = 0 }) → TakenList r ps k l xs
unfolding taken_from also_taken link_to_first all_free
taken_list r ps zero l before xs e =
    let same : ◌≡◌ {A = Taken} (record { pages = []; head = l }) (record { pages = xs; head = 0 }) = cc in
    let heads : l ≡ 0 = ap (λ (v : Taken). v.head) same in
    let none : xs ≡ [] = sym (ap (λ (v : Taken). v.pages) same) in
    rw (heads, none) (record { first = refl; as_many = refl; overflow = tt; free = λ _. tt })
taken_list r ps (suc k) l before xs e =
    let x = linked_page l in
    go (taken_list r ps k (link_of (page_of ps x)) (x ∷ before)) (names_overflow r l && not (is_among x before)) (taken_from r ps k (link_of (page_of ps x)) (x ∷ before)) refl refl e
  where
    go : ((ys : List ℕ) → taken_from r ps k (link_of (page_of ps (l - 1))) ((l - 1) ∷ before) ≡ sound (record { pages = ys; head = 0 })
        → TakenList r ps k (link_of (page_of ps (l - 1))) ys)
        → (t : Bool) (rest : Checked Taken) → t ≡ (names_overflow r l && not (is_among (l - 1) before)) → rest ≡ taken_from r ps k (link_of (page_of ps (l - 1))) ((l - 1) ∷ before)
        → cond t (and_then rest (λ u. sound (also_taken (l - 1) u))) damaged ≡ sound (record { pages = xs; head = 0 }) → TakenList r ps (suc k) l xs
    go next false rest et er e = absurd (let z : ◌≡◌ {A = ℕ} 0 1 = cc in omega arith)
    go next true damaged et er e = absurd (let z : ◌≡◌ {A = ℕ} 0 1 = cc in omega arith)
    go next true (sound u) et er e =
        let named = (and_both (names_overflow r l) (not (is_among (l - 1) before)) (sym et)).0 in
        let bounds = named-within r l named in
        let same : ◌≡◌ {A = Taken} (record { pages = (l - 1) ∷ u.pages; head = u.head }) (record { pages = xs; head = 0 }) = cc in
        let here : (l - 1) ∷ u.pages ≡ xs = ap (λ (v : Taken). v.pages) same in
        let ended : u.head ≡ 0 = ap (λ (v : Taken). v.head) same in
        let found = next u.pages (sym er ∙ (λ i. sound (record { pages = u.pages; head = ended i }))) in
        rw (← here) (record {
          first = omega (arith, bounds.0);
          as_many = ap suc found.as_many;
          overflow = (record { above = omega (arith, bounds.0); below = omega (arith, bounds.0, bounds.1) }, found.overflow);
          free = λ f.
              let both = and_both (same_words (page_of ps (l - 1)) (free_page (link_of (page_of ps (l - 1))))) (all_free ps u.pages) f in
              (same_words_lem (page_of ps (l - 1)) (free_page (link_of (page_of ps (l - 1)))) both.0 ∙ ap free_page found.first, found.free both.1);
        })
