-- Pages that are counted are each there once: where the chains fit and the free list is saved, no page is twice in
-- them, so that V pages counted are all there are, each once.
-- Main statement: counted_once.
use mathlib.Core.Path.{◌≡◌, refl, sym, ap, ◌∙◌, subst}
use mathlib.Core.Logic.{◌⊎◌, inl, inr}
use mathlib.Core.Bool.{true}
use mathlib.Core.List.{List, [], ◌∷◌, ◌++◌}
use Prim.Native.Nat.{ℕ, zero, suc, ◌+◌, ◌≤◌, ◌<◌}
use native.Mathlib.Omega.{arith}
use lib.ListN.{length, take, drop, length-append}
use lib.Dec.{eqb, ltb}
use Rattle.model.specs.declared.Root.{Root}
use Rattle.model.specs.declared.Entry.{Entry}
use Rattle.model.specs.Addresses.{hash, address_of, count_of_chains}
use Rattle.model.specs.Entries.{key_of, has_key}
use Rattle.model.specs.Pages.{page_of, count_of, link_of, entries_of, filled_page, free_page, link_to_first, primary_page}
use Rattle.model.specs.Chains.{Checked, damaged, sound, entries_on, chain_of, pages_in}
use Rattle.model.specs.FreeList.{Taken, is_among, pages_taken}
use Rattle.model.specs.Memory.{Memory}
use Rattle.model.specs.PagePlaces.{count, pages_drawn, free_list, chained_from}
use Rattle.model.specs.TakeUp.{same_words, level_at, fits_if_sound, chains_fit, all_free, free_if_sound, each_once}
use Rattle.model.proofs.Laws.Lists.{Told, holds, fails, tell, Cmp, same, diff, cmp, and_both, left_or, right_or, false≢true, eqb-true, eqb_same, eqb-diff, ltb-true, ltb-false, count_nil, count_cons, count_append, count_among, absent_count, first_or_rest, All, all_in, all_append}
use Rattle.model.proofs.Laws.Pages.{entries_filled_page, count-filled_page, count-free_page}
use Rattle.model.proofs.Laws.Structure.{Overflow}
use Rattle.model.proofs.Laws.Filling.{IsOverflow}
use Rattle.model.proofs.Laws.Distinct.{Distinct}
use Rattle.model.proofs.Laws.Reading.{outside_absent, length_overflow}
use Rattle.model.proofs.Laws.Walks.{chain_reads, linked_distinct}
use Rattle.model.proofs.Invariant.Ghost.{root_extent, size, local_level}
use Rattle.model.proofs.Invariant.Extents.{home_is}
use Rattle.model.proofs.TakingUp.Tests.{same_words_lem, home_keys}
use Rattle.model.proofs.TakingUp.Owners.{chained}
use Rattle.model.proofs.TakingUp.Sound.{FitChain, fit_at, each_once_at, chained_same, level_same}
use Rattle.model.proofs.TakingUp.Complete.{once_all, in_none}
use Rattle.chains.specs.Walks.{counted}
use Rattle.chains.proofs.Links.{length-linked_pages}
use Rattle.chain_keys.proofs.Following.{sound_listed}
use Rattle.free_list.proofs.Linked.{taken_drawn}
use Rattle.take_up.specs.Seen.{pages_counted, at_rest}
use Rattle.take_up.proofs.Records.{same_test}
use Rattle.take_up.proofs.Chain.{Facts, WalkedChain, walked_chain, model_parts, chain_pages_ok}

-- ---- How often numbers are in a list

distinct_once : (xs : List ℕ) → Distinct xs → (x : ℕ) → count x xs ≤ 1
distinct_once [] d x = omega (arith, count_nil x)
distinct_once (y ∷ ys) d x = go (cmp y x) (distinct_once ys d.1 x)
  where
    go : Cmp y x → count x ys ≤ 1 → count x (y ∷ ys) ≤ 1
    go (same e) ih =
        let none : count y ys ≡ 0 = absent_count y ys (outside_absent y ys d.0) in
        let here : count x ys ≡ 0 = ap (λ (z : ℕ). count z ys) (sym e) ∙ none in
        rw (count_cons x y ys, eqb_same y x e) (omega (arith, here))
    go (diff n) ih = rw (count_cons x y ys, eqb-diff y x n) (omega (arith, ih))

-- How often the v numbers from p on are in a list, together.
sum_from : ℕ → ℕ → List ℕ → ℕ
sum_from p zero xs = 0
sum_from p (suc v) xs = count p xs + sum_from (p + 1) v xs

sum_nil : (p v : ℕ) → sum_from p v [] ≡ 0
unfolding sum_from
sum_nil p zero = refl
sum_nil p (suc v) = omega (arith, count_nil p, sum_nil (p + 1) v)

sum_past : (p v x : ℕ) (xs : List ℕ) → x < p → sum_from p v (x ∷ xs) ≡ sum_from p v xs
unfolding sum_from
sum_past p zero x xs h = refl
sum_past p (suc v) x xs h =
    let off : count p (x ∷ xs) ≡ count p xs = rw (count_cons p x xs, eqb-diff x p (λ e. omega (arith, e, h))) (omega arith) in
    omega (arith, off, sum_past (p + 1) v x xs (omega arith))

sum_first : (p v x : ℕ) (xs : List ℕ) → sum_from p v (x ∷ xs) ≤ 1 + sum_from p v xs
unfolding sum_from
sum_first p zero x xs = omega arith
sum_first p (suc v) x xs = go (cmp x p) (sum_first (p + 1) v x xs)
  where
    go : Cmp x p → sum_from (p + 1) v (x ∷ xs) ≤ 1 + sum_from (p + 1) v xs → count p (x ∷ xs) + sum_from (p + 1) v (x ∷ xs) ≤ 1 + (count p xs + sum_from (p + 1) v xs)
    go (same e) ih =
        let on : count p (x ∷ xs) ≡ 1 + count p xs = rw (count_cons p x xs, eqb_same x p e) refl in
        omega (arith, on, sum_past (p + 1) v x xs (omega (arith, e)))
    go (diff n) ih =
        let off : count p (x ∷ xs) ≡ count p xs = rw (count_cons p x xs, eqb-diff x p n) (omega arith) in
        omega (arith, off, ih)

sum_length : (p v : ℕ) (xs : List ℕ) → sum_from p v xs ≤ length xs
sum_length p v [] = omega (arith, sum_nil p v)
sum_length p v (x ∷ xs) = omega (arith, sum_first p v x xs, sum_length p v xs)

once_sum : (xs : List ℕ) (v p : ℕ) → each_once xs v p ≡ true → sum_from p v xs ≡ v
unfolding sum_from each_once
once_sum xs zero p e = refl
once_sum xs (suc v) p e =
    let f = and_both (eqb (count p xs) 1) (each_once xs v (p + 1)) e in
    omega (arith, eqb-true (count p xs) 1 f.0, once_sum xs v (p + 1) f.1)

-- A list of overflow pages is all of them, each once, exactly where it has V pages and none twice.
module _ (r : Root) (xs : List ℕ) (all : All (IsOverflow r) xs) where
  full_once : ((x : ℕ) → count x xs ≤ 1) → length xs ≡ r.overflow → each_once xs r.overflow r.primaries ≡ true
  full_once few long = once_all xs r.overflow r.primaries (λ y h l. go y h l (cmp (count y xs) 0))
    where
      -- One that were missing would make room for a page more than there are.
      missing : (y : ℕ) → r.primaries ≤ y → y < r.primaries + r.overflow → count y xs ≡ 0 → (x : ℕ) → count x (y ∷ xs) ≤ 1
      missing y h l z x = at (cmp y x)
        where
          at : Cmp y x → count x (y ∷ xs) ≤ 1
          at (same e) = let zx : count x xs ≡ 0 = ap (λ (u : ℕ). count u xs) (sym e) ∙ z in rw (count_cons x y xs, eqb_same y x e) (omega (arith, zx))
          at (diff n) = rw (count_cons x y xs, eqb-diff y x n) (omega (arith, few x))

      go : (y : ℕ) → r.primaries ≤ y → y < r.primaries + r.overflow → Cmp (count y xs) 0 → count y xs ≡ 1
      go y h l (same z) = absurd (let o = length_overflow r (y ∷ xs) (record { above = h; below = l }, all) (missing y h l z) in omega (arith, o, long))
      go y h l (diff n) = omega (arith, few y, n)

  once_full : each_once xs r.overflow r.primaries ≡ true → length xs ≡ r.overflow
  once_full e = omega (arith, length_overflow r xs all few, sum_length r.primaries r.overflow xs, once_sum xs r.overflow r.primaries e)
    where
      few : (x : ℕ) → count x xs ≤ 1
      few x = go (tell (ltb 0 (count x xs)))
        where
          go : Told (ltb 0 (count x xs)) → count x xs ≤ 1
          go (holds t) =
              let o = all_in (IsOverflow r) x xs all (count_among x xs (omega (arith, ltb-true 0 (count x xs) t))) in
              omega (arith, each_once_at xs r.overflow r.primaries x e o.above o.below)
          go (fails t) = omega (arith, ltb-false 0 (count x xs) t)

-- ---- The first key of a page

head_key : List Entry → ℕ
head_key [] = 0
head_key (e ∷ es) = key_of e

has_drop : (b k : ℕ) (es : List Entry) → has_key k (drop b es) ≡ true → has_key k es ≡ true
unfolding has_key
has_drop zero k es h = h
has_drop (suc b) k [] h = h
has_drop (suc b) k (e ∷ es) h = right_or (eqb (key_of e) k) (has_drop b k es h)

-- An overflow page of a chain is not empty, and its first key is one of the chain's.
record FirstKey (ps : List ℕ) (x : ℕ) (es : List Entry) : Type 0 where
  some : 0 < count_of (page_of ps x)
  has : has_key (head_key (entries_of (page_of ps x))) es ≡ true

first_taken : (a : ℕ) (fs : List Entry) → 0 < a → 0 < length fs → (0 < length (take a fs)) × (has_key (head_key (take a fs)) fs ≡ true)
unfolding has_key head_key
first_taken zero fs s t = absurd (omega arith)
first_taken (suc a) [] s t = absurd (omega arith)
first_taken (suc a) (f ∷ fs) s t = (omega arith, left_or (has_key (key_of f) fs) (eqb_same (key_of f) (key_of f) refl))

first_key : (b : ℕ) (ps xs : List ℕ) (es : List Entry) → 0 < b → Overflow b ps xs es → (x : ℕ) → is_among x xs ≡ true → FirstKey ps x es
unfolding is_among
first_key b ps [] es p o x h = absurd (false≢true h)
first_key b ps (y ∷ ys) es p o x h = go (first_or_rest x y ys h) (λ t. first_key b ps ys (drop b es) p o.2 x t)
  where
    go : (y ≡ x) ⊎ (is_among x ys ≡ true) → (is_among x ys ≡ true → FirstKey ps x (drop b es)) → FirstKey ps x es
    go (inl e) ih =
        let page : page_of ps x ≡ filled_page 0 (take b es) (link_to_first ys) = ap (page_of ps) (sym e) ∙ o.1 in
        let k = first_taken b es p o.0 in
        record {
          some = omega (arith, ap count_of page ∙ count-filled_page 0 (take b es) (link_to_first ys), k.0);
          has = ap (λ (fs : List Entry). has_key (head_key fs) es) (ap entries_of page ∙ entries_filled_page 0 (take b es) (link_to_first ys)) ∙ k.1;
        }
    go (inr t) ih = let k = ih t in record { some = k.some; has = has_drop b (head_key (entries_of (page_of ps x))) es k.has }

-- ---- Lists of which one at most has a number

module _ (f : ℕ → List ℕ) (x : ℕ) where
  in_one : (o n c : ℕ) → ((d : ℕ) → c ≤ d → d < c + n → count x (f d) ≤ 1) → ((d : ℕ) → c ≤ d → d < c + n → 1 ≤ count x (f d) → d ≡ o) → count x (chained f n c) ≤ 1
  unfolding chained
  in_one o zero c few own = omega (arith, count_nil x)
  in_one o (suc n) c few own = go (cmp (count x (f c)) 0) (in_one o n (c + 1) (λ d h l. few d (omega arith) (omega arith)) (λ d h l. own d (omega arith) (omega arith)))
    where
      go : Cmp (count x (f c)) 0 → count x (chained f n (c + 1)) ≤ 1 → count x (f c ++ chained f n (c + 1)) ≤ 1
      go (same z) ih = omega (arith, count_append x (f c) (chained f n (c + 1)), z, ih)
      go (diff s) ih =
          let mine : c ≡ o = own c (omega arith) (omega arith) (omega (arith, s)) in
          let others : count x (chained f n (c + 1)) ≡ 0
          = in_none f x n (c + 1) (λ d h l. rest d h l mine (cmp (count x (f d)) 0)) in
          omega (arith, count_append x (f c) (chained f n (c + 1)), few c (omega arith) (omega arith), others)
        where
          rest : (d : ℕ) → c + 1 ≤ d → d < c + 1 + n → c ≡ o → Cmp (count x (f d)) 0 → count x (f d) ≡ 0
          rest d h l e (same z) = z
          rest d h l e (diff t) = absurd (let u = own d (omega arith) (omega arith) (omega (arith, t)) in omega (arith, u, e, h))

-- ---- The file

module _ (r : Root) (ls ps : List ℕ) (f : Facts r ps) (chains : chains_fit r ps (count_of_chains r) 0 ≡ true) (frees : free_if_sound ps (pages_taken r ps r.free) ≡ true) where
  abbrev n : ℕ
  n = count_of_chains r

  abbrev m : Memory
  m = at_rest r ls ps

  abbrev pages_at : ℕ → List ℕ
  pages_at c = pages_in (chain_of r ps c)

  -- ---- Chains

  fit : (c : ℕ) → c < n → FitChain r ps c
  fit c l = fit_at r ps n 0 c chains (omega arith) (omega arith)

  fits : (c : ℕ) → c < n → fits_if_sound r ps c (chain_of r ps c) ≡ true
  unfolding fits_if_sound
  fits c l = ap (fits_if_sound r ps c) (fit c l).reads ∙ (fit c l).fits

  -- A chain that fits was walked.
  record Walk (c : ℕ) : Type 0 where
    many : ℕ
    walked : WalkedChain r ps c many

  walk : (c : ℕ) → c < n → Walk c
  walk c l =
      let x = chain_reads r ps c (fit c l).chain (fit c l).reads in
      record {
        many = length x.xs;
        walked = walked_chain r ps c (length x.xs) f (ap counted (sound_listed r ps c x.page_sound_ok ∙ x.listed));
      }

  -- What is used of it.
  record Kept (c : ℕ) : Type 0 where
    overflow : All (IsOverflow r) (pages_at c)
    once : (x : ℕ) → count x (pages_at c) ≤ 1
    first : (x : ℕ) → is_among x (pages_at c) ≡ true → (0 < count_of (page_of ps x)) × (address_of r.originals r.level r.next (head_key (entries_of (page_of ps x))) ≡ c)

  kept : (c : ℕ) → c < n → Kept c
  unfolding size
  kept c l =
      let w = (walk c l).walked in
      let inside : c < r.primaries = omega (arith, l, f.count_fits) in
      let parts = model_parts r ps f c (walk c l).many inside w (fits c l) in
      let are = chain_pages_ok r ps f c (walk c l).many inside w (fits c l) in
      let es = entries_on ps (primary_page c ∷ w.xs) in
      let own : (x : ℕ) → is_among x w.xs ≡ true → FirstKey ps x es
      = λ x h. let k = first_key r.capacity ps w.xs (drop r.capacity es) (omega (arith, f.limits.some_key)) parts.chain.overflow x h in
      record { some = k.some; has = has_drop r.capacity (head_key (entries_of (page_of ps x))) es k.has } in
      record {
        overflow = subst (All (IsOverflow r)) (sym are) w.overflow;
        once = λ x. subst (λ (l : List ℕ). count x l ≤ 1) (sym are) (distinct_once w.xs (linked_distinct r ps w.xs w.chained.linked) x);
        first = λ x h.
            let k = own x (subst (λ (l : List ℕ). is_among x l ≡ true) are h) in
            let key = head_key (entries_of (page_of ps x)) in (
              k.some,
              home_is r.originals (root_extent r) c (local_level r.originals (root_extent r) c) key (omega (arith, f.limits.some_original)) (omega (arith, f.next_fits))
                  (record {
                    inside = l;
                    there = ap (λ (j : ℕ). hash r.originals j key) (level_same r c) ∙ home_keys r.originals (level_at r c) c es parts.homes key k.has;
                    reach = omega arith;
                  }) refl,
            );
      }

  -- ---- The free list

  record Free : Type 0 where
    pages : List ℕ
    listed-is : free_list m ≡ pages
    as_many : length pages ≡ r.free
    overflow : All (IsOverflow r) pages
    once : (x : ℕ) → count x pages ≤ 1
    empty : (x : ℕ) → is_among x pages ≡ true → count_of (page_of ps x) ≡ 0

  empty_at : (xs : List ℕ) → all_free ps xs ≡ true → (x : ℕ) → is_among x xs ≡ true → count_of (page_of ps x) ≡ 0
  unfolding all_free is_among
  empty_at [] e x h = absurd (false≢true h)
  empty_at (y ∷ ys) e x h =
      let g = and_both (same_words (page_of ps y) (free_page (link_of (page_of ps y)))) (all_free ps ys) e in
      go (first_or_rest x y ys h) (same_words_lem (page_of ps y) (free_page (link_of (page_of ps y))) g.0) (λ t. empty_at ys g.1 x t)
    where
      go : (y ≡ x) ⊎ (is_among x ys ≡ true) → page_of ps y ≡ free_page (link_of (page_of ps y)) → (is_among x ys ≡ true → count_of (page_of ps x) ≡ 0) → count_of (page_of ps x) ≡ 0
      go (inl s) page ih = ap (λ (z : ℕ). count_of (page_of ps z)) (sym s) ∙ ap count_of page ∙ count-free_page (link_of (page_of ps y))
      go (inr t) page ih = ih t

  free : Free
  unfolding free_if_sound free_list pages_drawn
  free = go (pages_taken r ps r.free) refl frees
    where
      go : (x : Checked Taken) → pages_taken r ps r.free ≡ x → free_if_sound ps x ≡ true → Free
      go damaged e t = absurd (false≢true t)
      go (sound u) e t =
          let d = taken_drawn r ps r.free u e in
          let g = and_both (eqb u.head 0) (all_free ps u.pages) t in
          record {
            pages = u.pages;
            listed-is = ap pages_drawn e;
            as_many = ap length d.pages ∙ length-linked_pages ps r.free r.head;
            overflow = d.overflow;
            once = distinct_once u.pages (subst Distinct (sym d.pages) d.can.distinct);
            empty = empty_at u.pages g.1;
          }

  -- ---- Both

  abbrev places : List ℕ
  places = free_list m ++ chained_from m n 0

  chained_length : (k c : ℕ) → length (chained pages_at k c) ≡ pages_counted r ps k c
  unfolding chained pages_counted
  chained_length zero c = refl
  chained_length (suc k) c = length-append (pages_at c) (chained pages_at k (c + 1)) ∙ ap (λ (j : ℕ). length (pages_at c) + j) (chained_length k (c + 1))

  chained_all : (k c : ℕ) → c + k ≤ n → All (IsOverflow r) (chained pages_at k c)
  unfolding chained
  chained_all zero c h = tt
  chained_all (suc k) c h = all_append (IsOverflow r) (pages_at c) (chained pages_at k (c + 1)) (kept c (omega arith)).overflow (chained_all k (c + 1) (omega arith))

  places_are : places ≡ free.pages ++ chained pages_at n 0
  places_are = λ i. free.listed-is i ++ chained_same m n 0 i

  places_length : length places ≡ r.free + pages_counted r ps n 0
  places_length = ap length places_are ∙ length-append free.pages (chained pages_at n 0) ∙ (λ i. free.as_many i + chained_length n 0 i)

  places_all : All (IsOverflow r) places
  places_all = subst (All (IsOverflow r)) (sym places_are) (all_append (IsOverflow r) free.pages (chained pages_at n 0) free.overflow (chained_all n 0 (omega arith)))

  -- A page is in one chain at most, its first key's, and in none where it is free.
  chained_once : (x : ℕ) → count x (chained pages_at n 0) ≤ 1
  chained_once x =
      in_one pages_at x (address_of r.originals r.level r.next (head_key (entries_of (page_of ps x)))) n 0 (λ d h l. (kept d (omega arith)).once x)
      (λ d h l t. sym ((kept d (omega arith)).first x (count_among x (pages_at d) t)).1)

  free_unchained : (x : ℕ) → 1 ≤ count x free.pages → count x (chained pages_at n 0) ≡ 0
  free_unchained x t = in_none pages_at x n 0 (λ d h l. go d (omega arith) (cmp (count x (pages_at d)) 0))
    where
      none : count_of (page_of ps x) ≡ 0
      none = free.empty x (count_among x free.pages t)

      go : (d : ℕ) → d < n → Cmp (count x (pages_at d)) 0 → count x (pages_at d) ≡ 0
      go d l (same z) = z
      go d l (diff s) = absurd (let k = ((kept d l).first x (count_among x (pages_at d) (omega (arith, s)))).0 in omega (arith, k, none))

  places_once : (x : ℕ) → count x places ≤ 1
  places_once x = go (cmp (count x free.pages) 0)
    where
      both : count x places ≡ count x free.pages + count x (chained pages_at n 0)
      both = ap (count x) places_are ∙ count_append x free.pages (chained pages_at n 0)

      go : Cmp (count x free.pages) 0 → count x places ≤ 1
      go (same z) = omega (arith, both, z, chained_once x)
      go (diff s) = omega (arith, both, free.once x, free_unchained x (omega (arith, s)))

  -- V pages counted are all pages, each once, and the other way round.
  pub counted_once : eqb (pages_counted r ps n 0 + r.free) r.overflow ≡ each_once places r.overflow r.primaries
  counted_once =
      same_test (eqb (pages_counted r ps n 0 + r.free) r.overflow) (each_once places r.overflow r.primaries)
      (λ e. full_once r places places_all places_once (omega (arith, places_length, eqb-true (pages_counted r ps n 0 + r.free) r.overflow e)))
      (λ e. eqb_same (pages_counted r ps n 0 + r.free) r.overflow (omega (arith, places_length, once_full r places places_all e)))
