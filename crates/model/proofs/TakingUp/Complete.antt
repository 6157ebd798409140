-- Memory that has the invariant, with nobody under way, passes take-up, and its records are the book's map: what the
-- index leaves at rest is always taken up again.
-- Main statements: rests_saved, rests_map; chain_packed (a chain as it must be passes the test of its words), once_all
-- (each number once), in_none (a number in none of some lists).
use mathlib.Core.Path.{◌≡◌, refl, sym, ap, ◌∙◌, subst}
use mathlib.Core.Logic.{◌≢◌}
use mathlib.Core.Bool.{Bool, true, false}
use mathlib.Core.List.{List, [], ◌∷◌, ◌++◌}
use mathlib.Core.Option.{Option, none, some}
use Prim.Native.Nat.{ℕ, zero, suc, ◌+◌, ◌-◌, ◌*◌, ◌/◌, ◌%◌, ◌≤◌, ◌<◌}
use native.Mathlib.Nat.{div-add-mod'}
use native.Mathlib.Omega.{arith}
use lib.ListN.{length, get_or, drop, get_or-eq_default, drop_of_length-le}
use lib.Seq.{take_all}
use lib.Pow.{shr-shr}
use lib.Dec.{eqb}
use Rattle.model.specs.declared.Party.{Party}
use Rattle.model.specs.declared.Entry.{Entry}
use Rattle.model.specs.declared.Mode.{Mode}
use Rattle.model.specs.declared.Mode.TheVariants.{Read, Selective, Exclusive}
use Rattle.model.specs.Records.{idle}
use Rattle.model.specs.Addresses.{chain_count, count_of_chains, hash, address_of}
use Rattle.model.specs.Entries.{key_of, has_key, setting_in, is_empty}
use Rattle.model.specs.LockWords.{field_of, selective_of, exclusive_of}
use Rattle.model.specs.Pages.{page_of, link_of, free_page, zero_page, link_to_first, primary_page, scratch_page}
use Rattle.model.specs.Chains.{Checked, sound, Chain, chain_of, pages_in, records_read}
use Rattle.model.specs.Filling.{pages_for, primary_of}
use Rattle.model.specs.FreeList.{pages_taken}
use Rattle.model.specs.Memory.{Memory, party_at}
use Rattle.model.specs.PagePlaces.{pages_drawn, free_list, chained_from}
use Rattle.model.specs.Book.{Book, Entered}
use Rattle.model.specs.Claims.{claims}
use Rattle.model.specs.WaitingRow.{all_zero}
use Rattle.model.proofs.Laws.WaitingRow.{row_at_rest, idle-asks-none}
use Rattle.model.specs.TakeUp.{same_words, is_zero_record, all_idle, zero_pages, parties_rest, locks_clear, scratch_clear, level_at, all_home, packed, chain_fits, fits_if_sound, chains_fit, chains_saved, beyond_clear, all_free, free_if_sound, free_saved, each_once, pages_once, row_clear, is_saved, records_saved, open_book, saved_book}
use Rattle.model.proofs.Laws.Lists.{false≢true, Told, holds, fails, tell, Cmp, same, diff, cmp, Ord, lt, ge, ord, both-and, left_or, right_or, eqb-true, eqb-false, eqb_same, count_nil, count_append}
use Rattle.model.proofs.Laws.Ascending.{same_ascending}
use Rattle.model.proofs.Laws.Fields.{readers_zero}
use Rattle.model.proofs.Laws.Pages.{link_free_page}
use Rattle.model.proofs.Laws.Structure.{FreePages, Overflow, ChainIs}
use Rattle.model.proofs.Laws.Reading.{held_overflow, overflow_length}
use Rattle.model.proofs.Laws.FreeList.{taken_front}
use Rattle.model.proofs.Invariant.Ghost.{Owner, nobody, free, in_chain, old_of, partner_of, built_by, new_by, count, Extent, root_extent, size, local_level, Ghost, same_owner, owns}
use Rattle.model.proofs.Invariant.Owners.{owner_same, owner_diff, kinds_apart, indices_apart, owns_self, owns_diff, owns_nothing, no_repeats}
use Rattle.model.proofs.Invariant.Claims.{is_claimed, bit, HolderIs, WordOk}
use Rattle.model.proofs.Invariant.Statement.{restructures, uses, BookOk, NoPages, PartyOk, resting, working, scene_of, Inv}
use Rattle.model.proofs.Effects.BuiltChain.{chain_found}
use Rattle.model.proofs.Theorems.Calls.{root_sound_ok, within_limits_lem, lengths_fit_ok}
use Rattle.model.proofs.Laws.Addresses.{address_lt}
use Rattle.model.proofs.TakingUp.Owners.{chained}
use Rattle.model.proofs.TakingUp.Sound.{chained_same, level_same, ghost, book_ok}

-- ---- Tests that hold

same_self : (ws : List ℕ) → same_words ws ws ≡ true
unfolding same_words
same_self [] = refl
same_self (w ∷ ws) = both-and (eqb_same w w refl) (same_self ws)

words_same : {xs ys : List ℕ} → xs ≡ ys → same_words xs ys ≡ true
words_same {xs} {ys} e = subst (λ (l : List ℕ). same_words xs l ≡ true) e (same_self xs)

idle_all : (ps : List Party) → ((q : ℕ) → party_at ps q ≡ idle) → all_idle ps ≡ true
unfolding all_idle is_zero_record all_zero
idle_all [] f = refl
idle_all (p ∷ ps) f = both-and (ap is_zero_record (f 0)) (idle_all ps (λ q. f (suc q)))

zero_all : (ws : List ℕ) → ((i : ℕ) → i < length ws → get_or ws i 0 ≡ 0) → all_zero ws ≡ true
unfolding all_zero
zero_all [] f = refl
zero_all (w ∷ ws) f = both-and (eqb_same w 0 (f 0 (omega arith))) (zero_all ws (λ i l. f (suc i) (omega arith)))

pages_zero_lem : (ps : List ℕ) (n x : ℕ) → ((y : ℕ) → x ≤ y → y < x + n → page_of ps y ≡ zero_page) → zero_pages ps n x ≡ true
unfolding zero_pages
pages_zero_lem ps zero x f = refl
pages_zero_lem ps (suc n) x f = both-and (words_same (f x (omega arith) (omega arith))) (pages_zero_lem ps n (x + 1) (λ y h l. f y (omega arith) (omega arith)))

keys_home : (n i c : ℕ) (es : List Entry) → ((k : ℕ) → has_key k es ≡ true → hash n i k ≡ c) → all_home n i c es ≡ true
unfolding all_home has_key
keys_home n i c [] f = refl
keys_home n i c (e ∷ es) f =
    both-and (eqb_same (hash n i (key_of e)) c (f (key_of e) (left_or (has_key (key_of e) es) (eqb_same (key_of e) (key_of e) refl))))
    (keys_home n i c es (λ k h. f k (right_or (eqb (key_of e) k) h)))

overflow_packed : (b : ℕ) (ps xs : List ℕ) (es : List Entry) → Overflow b ps xs es → packed b ps 0 xs es ≡ true
unfolding packed is_empty
overflow_packed b ps [] es o = ap is_empty o
overflow_packed b ps (x ∷ xs) es o = both-and (words_same o.1) (overflow_packed b ps xs (drop b es) o.2)

pub chain_packed : (b : ℕ) (ps : List ℕ) (c level : ℕ) (es : List Entry) (xs : List ℕ) → ChainIs b ps c level es xs → packed b ps level (primary_page c ∷ xs) es ≡ true
unfolding packed primary_of
chain_packed b ps c level es xs k = both-and (words_same k.primary) (overflow_packed b ps xs (drop b es) k.overflow)

free_all : (ps xs : List ℕ) → FreePages ps xs → all_free ps xs ≡ true
unfolding all_free
free_all ps [] f = refl
free_all ps (x ∷ xs) f = both-and (words_same (f.0 ∙ ap free_page (sym (ap link_of f.0 ∙ link_free_page (link_to_first xs))))) (free_all ps xs f.1)

pub once_all : (xs : List ℕ) (v x : ℕ) → ((y : ℕ) → x ≤ y → y < x + v → count y xs ≡ 1) → each_once xs v x ≡ true
unfolding each_once
once_all xs zero x f = refl
once_all xs (suc v) x f = both-and (eqb_same (count x xs) 1 (f x (omega arith) (omega arith))) (once_all xs v (x + 1) (λ y h l. f y (omega arith) (omega arith)))

-- ---- A lock word that nobody holds

holder_none : (f : ℕ) (h : ℕ → Bool) → HolderIs f h → ((q : ℕ) → h q ≡ false) → f ≡ 0
holder_none zero h k z = refl
holder_none (suc q) h k z = absurd (false≢true (sym (z q) ∙ k.named q refl))

-- A word below 2^26 whose three fields are 0, in digits.
digits_clear : (w x y z d e f : ℕ) → x * 65536 + d ≡ w → y * 32 + e ≡ x → z * 32 + f ≡ y → d ≡ 0 → e ≡ 0 → f ≡ 0 → w < 67108864 → w ≡ 0
digits_clear w x y z d e f p q s h j k l = omega arith

word_clear : (w : ℕ) (h : ℕ → Mode → Bool) → WordOk w h → ((q : ℕ) (o : Mode) → h q o ≡ false) → w ≡ 0
unfolding field_of
word_clear w h k z =
    let readers : w / 1 % 65536 ≡ 0 = readers_zero w (λ q l. k.readers q l ∙ ap bit (z q Read)) in
    let selective : w / 65536 % 32 ≡ 0 = holder_none (selective_of w) (λ q. h q Selective) k.selective (λ q. z q Selective) in
    let exclusive : w / 2097152 % 32 ≡ 0 = holder_none (exclusive_of w) (λ q. h q Exclusive) k.exclusive (λ q. z q Exclusive) in
    let over : w / 65536 / 32 ≡ w / 2097152 = shr-shr w 16 5 in
    let first : w / 1 ≡ w = omega arith in
    digits_clear w (w / 65536) (w / 65536 / 32) (w / 2097152 / 32) (w % 65536) (w / 65536 % 32) (w / 2097152 % 32) (div-add-mod' w 65536) (div-add-mod' (w / 65536) 32)
    (div-add-mod' (w / 2097152) 32 ∙ sym over) (ap (λ (v : ℕ). v % 65536) (sym first) ∙ readers) selective exclusive k.small

-- ---- How often a page is in lists, one after the other

module _ (f : ℕ → List ℕ) (x : ℕ) where
  pub in_none : (n c : ℕ) → ((d : ℕ) → c ≤ d → d < c + n → count x (f d) ≡ 0) → count x (chained f n c) ≡ 0
  unfolding chained
  in_none zero c off = count_nil x
  in_none (suc n) c off =
      omega (arith, count_append x (f c) (chained f n (c + 1)), off c (omega arith) (omega arith), in_none n (c + 1) (λ d h l. off d (omega arith) (omega arith)))

  in_one : (n c d : ℕ) → c ≤ d → d < c + n → count x (f d) ≡ 1 → ((e : ℕ) → e ≢ d → count x (f e) ≡ 0) → count x (chained f n c) ≡ 1
  unfolding chained
  in_one zero c d h l one off = absurd (omega arith)
  in_one (suc n) c d h l one off = go (cmp c d) (λ k. in_one n (c + 1) d k (omega arith) one off)
    where
      go : Cmp c d → (c + 1 ≤ d → count x (chained f n (c + 1)) ≡ 1) → count x (f c ++ chained f n (c + 1)) ≡ 1
      go (same s) ih =
          omega (arith, count_append x (f c) (chained f n (c + 1)), ap (λ (a : ℕ). count x (f a)) s, one, in_none n (c + 1) (λ e k t. off e (omega arith)))
      go (diff s) ih = omega (arith, count_append x (f c) (chained f n (c + 1)), off c s, ih (omega arith))

chained_equal : (f g : ℕ → List ℕ) (n c : ℕ) → ((d : ℕ) → c ≤ d → d < c + n → f d ≡ g d) → chained f n c ≡ chained g n c
unfolding chained
chained_equal f g zero c s = refl
chained_equal f g (suc n) c s = λ i. s c (omega arith) (omega arith) i ++ chained_equal f g n (c + 1) (λ d h l. s d (omega arith) (omega arith)) i

above_two : (k : ℕ) → k ≢ 0 → k ≢ 1 → k ≢ 2 → 3 ≤ k
above_two k a b c = omega arith

no_kind : (k : ℕ) → k ≤ 6 → 3 ≤ k → k ≢ 3 → k ≢ 4 → k ≢ 5 → k ≢ 6 → ⊥
no_kind k h l a b c d = omega arith

-- ---- The whole

module _ (m : Memory) (b : Book) (i : Inv m b) (rest : (q : ℕ) → b.entries q ≡ none) where
  abbrev g : Ghost
  g = i.ghost

  abbrev n : ℕ
  n = count_of_chains m.root

  -- Everybody rests, with nothing in hand.
  record AtRest (q : ℕ) : Type 0 where
    idle-is : party_at m.parties q ≡ idle
    nothing : NoPages (scene_of m g b) q
    scratch : q < m.root.parties → page_of m.pages (scratch_page m.root q) ≡ zero_page

  rests : (q : ℕ) → AtRest q
  rests q = go (ord q m.root.parties)
    where
      entered : (e : Entered) → b.entries q ≡ some e → AtRest q
      entered e s = absurd (let z : ◌≡◌ {A = Option Entered} none (some e) = sym (rest q) ∙ s in let y : ◌≡◌ {A = ℕ} 0 1 = cc in omega arith)

      ok : PartyOk (scene_of m g b) q (party_at m.parties q) → AtRest q
      ok (resting s t u w) = record { idle-is = s; nothing = u; scratch = λ _. w }
      ok (working e k t) = entered e k.entry

      go : Ord q m.root.parties → AtRest q
      go (lt h t) = ok (i.parties_ok q h)
      go (ge h t) = record {
        idle-is = get_or-eq_default m.parties idle (omega (arith, i.parties_many));
        nothing = (i.strangers q h).1;
        scratch = λ l. absurd (omega arith);
      }

  live_root : g.live ≡ root_extent m.root
  unfolding restructures
  live_root = (i.extents_ok.at_rest_lem (λ q. rw (rests q).idle-is refl)).0

  many : size m.root.originals g.live ≡ n
  unfolding size
  many = ap (λ (e : Extent). chain_count m.root.originals e.level e.next) live_root

  level_is : (c : ℕ) → local_level m.root.originals g.live c ≡ level_at m.root c
  level_is c = ap (λ (e : Extent). local_level m.root.originals e c) live_root ∙ level_same m.root c

  parties_rest_ok : all_idle m.parties ≡ true
  parties_rest_ok = idle_all m.parties (λ q. (rests q).idle-is)

  locks_clear_ok : all_zero m.locks ≡ true
  unfolding claims is_claimed
  locks_clear_ok =
      zero_all m.locks (λ j l. word_clear (get_or m.locks j 0) _ (i.locks_ok.each j (omega (arith, i.locks_ok.as_many))) (λ q o. rw (rests q).idle-is refl))

  scratch_clear_ok : zero_pages m.pages m.root.parties (scratch_page m.root 0) ≡ true
  scratch_clear_ok =
      pages_zero_lem m.pages m.root.parties (scratch_page m.root 0)
      (λ y h l. ap (page_of m.pages) (omega arith) ∙ (rests (y - scratch_page m.root 0)).scratch (omega arith))

  chain_fits_lem : (c : ℕ) → c < n → fits_if_sound m.root m.pages c (chain_of m.root m.pages c) ≡ true
  unfolding fits_if_sound chain_fits
  chain_fits_lem c l =
      let live : c < size m.root.originals g.live = omega (arith, many) in
      let is = subst (λ (j : ℕ). ChainIs m.root.capacity m.pages c j (g.records c) (g.held (in_chain c))) (level_is c) (i.pages_ok.chain c live) in
      rw (chain_found m b i c live)
      (both-and
      (both-and (keys_home m.root.originals (level_at m.root c) c (g.records c) (λ k h. ap (λ (j : ℕ). hash m.root.originals j k) (sym (level_is c)) ∙ i.pages_ok.homed c live k h))
      (chain_packed m.root.capacity m.pages c (level_at m.root c) (g.records c) (g.held (in_chain c)) is))
      (eqb_same (length (g.held (in_chain c))) (pages_for m.root.capacity (g.records c))
      (overflow_length m.root.capacity m.pages (g.held (in_chain c)) (g.records c) (omega (arith, i.limits.some_key)) is.overflow)))

  chains_fit_ok : (k c : ℕ) → c + k ≤ n → chains_fit m.root m.pages k c ≡ true
  unfolding chains_fit
  chains_fit_ok zero c h = refl
  chains_fit_ok (suc k) c h = both-and (chain_fits_lem c (omega arith)) (chains_fit_ok k (c + 1) (omega arith))

  beyond_clear_ok : zero_pages m.pages (m.root.primaries - n) n ≡ true
  unfolding uses
  beyond_clear_ok =
      pages_zero_lem m.pages (m.root.primaries - n) n (λ y h l. i.pages_ok.dead y (omega (arith, many)) (omega arith) (λ q. rw (rests q).idle-is refl))

  drawn : pages_taken m.root m.pages m.root.free ≡ sound (record { pages = g.held free; head = 0 })
  unfolding link_to_first
  drawn =
      let k = i.pages_ok.free_count in
      taken_front m.root m.pages (g.held free) m.root.free i.pages_ok.head_is i.pages_ok.free_pages_ok (held_overflow m.root i.pages_ok.owned free)
      (no_repeats i.pages_ok.owned free) (omega arith)
      ∙ (λ j. sound (record { pages = take_all m.root.free (g.held free) (omega arith) j; head = link_to_first (drop_of_length-le (g.held free) {i = m.root.free} (omega arith) j) }))

  free_saved_ok : free_saved m ≡ true
  unfolding free_saved free_if_sound
  free_saved_ok = rw drawn (free_all m.pages (g.held free) i.pages_ok.free_pages_ok)

  -- ---- Each page once

  lists_are : (x : ℕ) → count x (free_list m ++ chained_from m n 0) ≡ count x (g.held free) + count x (chained (λ c. g.held (in_chain c)) n 0)
  unfolding free_list pages_drawn pages_in
  lists_are x =
      count_append x (free_list m) (chained_from m n 0)
      ∙ (λ j. count x (ap pages_drawn drawn j) + count x ((chained_same m n 0 ∙ chained_equal _ (λ c. g.held (in_chain c)) n 0 (λ d h l. ap pages_in (chain_found m b i d (omega (arith, many))))) j))

  -- Nobody but the free list and the chains of the file has a page.
  data Had (x : ℕ) : Type 0 where
    by_free : g.own x ≡ free → Had x
    by_chain : (c : ℕ) → c < n → g.own x ≡ in_chain c → Had x

  had : (x : ℕ) → m.root.primaries ≤ x → x < m.root.primaries + m.root.overflow → Had x
  had x h l = go (tell (same_owner (g.own x) free)) (tell (eqb (g.own x).kind 2)) (ord (g.own x).index n)
    where
      no_one : (o : Owner) → same_owner o nobody ≡ false → g.held o ≡ [] → g.own x ≢ o
      no_one o s e = owns_nothing i.pages_ok.owned o x s e

      -- An owner of a given kind and number.
      is : (o : Owner) → (g.own x).kind ≡ o.kind → (g.own x).index ≡ o.index → g.own x ≡ o
      is o k j = λ t. record { kind = k t; index = j t }

      other : same_owner (g.own x) free ≡ false → eqb (g.own x).kind 2 ≡ false → Had x
      other f e =
          let named = i.pages_ok.kinds x in
          let q = (g.own x).index in
          let hand = (rests q).nothing in
          let some = i.pages_ok.owned.owned x h l in
          let three : (g.own x).kind ≢ 3 = λ k. no_one (old_of q) (kinds_apart (old_of q) nobody refl) hand.nothing_old.no_old (is (old_of q) k refl) in
          let four : (g.own x).kind ≢ 4 = λ k. no_one (partner_of q) (kinds_apart (partner_of q) nobody refl) hand.nothing_old.no_partner (is (partner_of q) k refl) in
          let five : (g.own x).kind ≢ 5 = λ k. no_one (built_by q) (kinds_apart (built_by q) nobody refl) hand.nothing_built.no_built (is (built_by q) k refl) in
          let six : (g.own x).kind ≢ 6 = λ k. no_one (new_by q) (kinds_apart (new_by q) nobody refl) hand.nothing_built.no_new (is (new_by q) k refl) in
          let zeroth : (g.own x).kind ≢ 0 = λ k. owner_diff (g.own x) nobody some (is nobody k (named.1 (omega arith))) in
          let first : (g.own x).kind ≢ 1 = λ k. owner_diff (g.own x) free f (is free k (named.1 (omega arith))) in
          absurd (no_kind (g.own x).kind named.0 (above_two (g.own x).kind zeroth first (eqb-false (g.own x).kind 2 e)) three four five six)

      go : Told (same_owner (g.own x) free) → Told (eqb (g.own x).kind 2) → Ord (g.own x).index n → Had x
      go (holds f) k o = by_free (owner_same (g.own x) free f)
      go (fails f) (holds k) (lt s t) = by_chain (g.own x).index s (is (in_chain (g.own x).index) (eqb-true (g.own x).kind 2 k) refl)
      go (fails f) (holds k) (ge s t) =
          absurd (no_one (in_chain (g.own x).index) (kinds_apart (in_chain (g.own x).index) nobody refl) (i.pages_ok.beyond (g.own x).index (omega (arith, many)))
          (is (in_chain (g.own x).index) (eqb-true (g.own x).kind 2 k) refl))
      go (fails f) (fails k) o = other f k

  -- How often an owner's list has a page.
  owned-count : (o : Owner) (x : ℕ) → same_owner o nobody ≡ false → count x (g.held o) ≡ owns (g.own x) o
  owned-count o x s = i.pages_ok.owned.once o x s

  page_once : (x : ℕ) → m.root.primaries ≤ x → x < m.root.primaries + m.root.overflow → count x (free_list m ++ chained_from m n 0) ≡ 1
  page_once x h l = lists_are x ∙ go (had x h l)
    where
      free_count : count x (g.held free) ≡ owns (g.own x) free
      free_count = owned-count free x (kinds_apart free nobody refl)

      chain_count_ok : (c : ℕ) → count x (g.held (in_chain c)) ≡ owns (g.own x) (in_chain c)
      chain_count_ok c = owned-count (in_chain c) x (kinds_apart (in_chain c) nobody refl)

      go : Had x → count x (g.held free) + count x (chained (λ c. g.held (in_chain c)) n 0) ≡ 1
      go (by_free e) =
          omega (
            arith,
            free_count ∙ ap (λ (o : Owner). owns o free) e ∙ owns_self free,
            in_none (λ c. g.held (in_chain c)) x n 0 (λ d _ _. chain_count_ok d ∙ ap (λ (o : Owner). owns o (in_chain d)) e ∙ owns_diff free (in_chain d) (kinds_apart free (in_chain d) refl)),
          )
      go (by_chain c s e) =
          omega (
            arith,
            free_count ∙ ap (λ (o : Owner). owns o free) e ∙ owns_diff (in_chain c) free (kinds_apart (in_chain c) free refl),
            in_one (λ d. g.held (in_chain d)) x n 0 c (omega arith) (omega arith) (chain_count_ok c ∙ ap (λ (o : Owner). owns o (in_chain c)) e ∙ owns_self (in_chain c))
                (λ d t. chain_count_ok d ∙ ap (λ (o : Owner). owns o (in_chain d)) e ∙ owns_diff (in_chain c) (in_chain d) (indices_apart (in_chain c) (in_chain d) (λ u. t (sym u)))),
          )

  -- COMPLETENESS: memory at rest passes take-up.
  pub rests_saved : is_saved m ≡ true
  unfolding is_saved parties_rest locks_clear scratch_clear chains_saved beyond_clear pages_once row_clear
  rests_saved =
      both-and (both-and (both-and (both-and (both-and (both-and (both-and (both-and parties_rest_ok locks_clear_ok) scratch_clear_ok) (root_sound_ok m b i)) (chains_fit_ok n 0 (omega arith))) beyond_clear_ok) free_saved_ok)
      (once_all (free_list m ++ chained_from m n 0) m.root.overflow m.root.primaries page_once))
      (row_at_rest m.root m.parties m.waiting i.row_ok (λ q. idle-asks-none m.root (party_at m.parties q) (rests q).idle-is))

  -- Its records are the book's map.
  pub rests_map : records_saved m ≡ b.contents
  unfolding open_book records_read
  rests_map = same_ascending (records_saved m) b.contents saved.ascends i.book_ok.ascends key_same
    where
      saved : BookOk m.root (ghost m (within_limits_lem m.root i.limits) (lengths_fit_ok m b i) rests_saved) (saved_book m)
      saved = book_ok m (within_limits_lem m.root i.limits) (lengths_fit_ok m b i) rests_saved

      key_same : (k : ℕ) → setting_in k (records_saved m) ≡ setting_in k b.contents
      key_same k =
          let home = address_of m.root.originals m.root.level m.root.next k in
          let at_home = address_lt m.root.originals m.root.level m.root.next k i.limits.some_original in
          saved.same k
          ∙ ap (λ (x : Checked Chain). setting_in k (records_read x)) (chain_found m b i home (omega (arith, many, at_home)))
          ∙ sym (i.book_ok.same k ∙ ap (λ (e : Extent). setting_in k (g.records (address_of m.root.originals e.level e.next k))) live_root)
