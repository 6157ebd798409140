-- Pages word for word, by their level, count and the zeros behind their records.
-- Main statements: page_words_lem and filled_page_lem (one page); chain_filled and filled_chain (a chain that is filled as it
-- must be).
use mathlib.Core.Path.{◌≡◌, refl, sym, ap, ◌∙◌}
use mathlib.Core.Bool.{true, ◌&&◌}
use mathlib.Core.List.{List, [], ◌∷◌, ◌++◌, append-nil}
use Prim.Native.Nat.{ℕ, zero, suc, ◌+◌, ◌-◌, ◌*◌, ◌/◌, ◌≤◌, ◌<◌}
use native.Mathlib.Omega.{arith}
use lib.ListN.{length, take, drop, replicate, length-append, length-take, length-drop, take-append-drop, drop_of_length-le}
use lib.Seq.{take_all, take-append_seam, drop-append_seam, length-take-le}
use lib.Dec.{leb, eqb}
use Rattle.model.specs.declared.Root.{Root}
use Rattle.model.specs.declared.Entry.{Entry}
use Rattle.model.specs.Sizes.{page_words, most_records, record_words}
use Rattle.model.specs.Pages.{page_of, level_of, count_of, link_of, records_in, entries_of, words_of, filled_page, link_to_first, page_sound, primary_page}
use Rattle.model.specs.Chains.{entries_on}
use Rattle.model.specs.Filling.{primary_of}
use Rattle.model.specs.WaitingRow.{all_zero}
use Rattle.model.proofs.Laws.Lists.{and_both, both-and, eqb-true, eqb_same, eqb-diff, leb-true, le-leb, All}
use Rattle.model.proofs.Laws.Tests.{sound_page_counts}
use Rattle.model.proofs.Laws.RecordWords.{records_take, words_back}
use Rattle.model.proofs.Laws.Pages.{Has, length_page_of, length-entries_of, length_words_of, level_filled_page, count-filled_page}
use Rattle.model.proofs.Laws.Structure.{Linked, Overflow, ChainIs}
use Rattle.model.proofs.TakingUp.Tests.{zeros}
use Rattle.take_up.specs.Seen.{page_filled, fewest_on}
use Rattle.take_up.proofs.Records.{filled_all}

-- ---- One page

words_front : (n : ℕ) (ws : List ℕ) → n * record_words ≤ length ws → words_of (take n (records_in ws)) ≡ take (n * record_words) ws
words_front n ws h =
    let long : length (take (n * record_words) ws) ≡ n * record_words = length-take-le (n * record_words) ws h in
    let even : length (take (n * record_words) ws) / record_words * record_words ≡ n * record_words = omega (arith, long) in
    ap words_of (sym (records_take n ws)) ∙ words_back (take (n * record_words) ws) ∙ ap (λ (k : ℕ). take k (take (n * record_words) ws)) even
    ∙ take_all (n * record_words) (take (n * record_words) ws) (omega (arith, long))

pub page_words_lem : (w : List ℕ) → length w ≡ page_words → count_of w ≤ most_records → all_zero (drop (3 + count_of w * record_words) w) ≡ true
    → w ≡ filled_page (level_of w) (entries_of w) (link_of w)
unfolding count_of entries_of level_of link_of filled_page
page_words_lem [] long few e = absurd (omega arith)
page_words_lem (a ∷ []) long few e = absurd (omega arith)
page_words_lem (a ∷ (n ∷ [])) long few e = absurd (omega arith)
page_words_lem (a ∷ (n ∷ (l ∷ ws))) long few e =
    let room : n * record_words ≤ length ws = omega (arith, long, few) in
    let past : 3 + n * record_words ≡ suc (suc (suc (n * record_words))) = omega arith in
    let tail : all_zero (drop (n * record_words) ws) ≡ true = rw past at e in
    let as_many : length (take n (records_in ws)) ≡ n = length-entries_of (a ∷ (n ∷ (l ∷ ws))) long few in
    let behind : length (drop (n * record_words) ws) ≡ most_records * record_words + 1 - n * record_words = omega (arith, long, length-drop (n * record_words) ws) in
    let rest : drop (n * record_words) ws ≡ replicate (most_records * record_words + 1 - n * record_words) 0
    = zeros (drop (n * record_words) ws) tail ∙ ap (λ (k : ℕ). replicate k 0) behind in
    rw as_many
    (ap (λ (vs : List ℕ). a ∷ (n ∷ (l ∷ vs))) (sym (take-append-drop (n * record_words) ws)
    ∙ ap (λ (vs : List ℕ). take (n * record_words) ws ++ vs) rest ∙ ap (λ (vs : List ℕ). vs ++ replicate (most_records * record_words + 1 - n * record_words) 0) (sym (words_front n ws room))))

zeros_all : (k : ℕ) → all_zero (replicate k 0) ≡ true
unfolding all_zero
zeros_all zero = refl
zeros_all (suc k) = zeros_all k

pub filled_zero : (level link : ℕ) (es : List Entry) → all_zero (drop (3 + count_of (filled_page level es link) * record_words) (filled_page level es link)) ≡ true
unfolding count_of filled_page
filled_zero level link es =
    let past : 3 + length es * record_words ≡ suc (suc (suc (length (words_of es)))) = omega (arith, length_words_of es) in
    rw past
    (ap all_zero (drop-append_seam (words_of es) (replicate (most_records * record_words + 1 - length es * record_words) 0)) ∙ zeros_all (most_records * record_words + 1 - length es * record_words))

-- What the test of a page says.
record Filling (w : List ℕ) (level fewest : ℕ) : Type 0 where
  tail : all_zero (drop (3 + count_of w * record_words) w) ≡ true
  levels : level_of w ≡ level
  enough : fewest ≤ count_of w

page_filling : (w : List ℕ) (level fewest : ℕ) → page_filled w level fewest ≡ true → Filling w level fewest
unfolding page_filled
page_filling w level fewest e =
    let a = and_both (all_zero (drop (3 + count_of w * record_words) w) && eqb (level_of w) level) (leb fewest (count_of w)) e in
    let b = and_both (all_zero (drop (3 + count_of w * record_words) w)) (eqb (level_of w) level) a.0 in
    record { tail = b.0; levels = eqb-true (level_of w) level b.1; enough = leb-true fewest (count_of w) a.1 }

-- A page that is filled with these records passes it.
filled_page_lem : (w : List ℕ) (level fewest link : ℕ) (es : List Entry) → w ≡ filled_page level es link → fewest ≤ length es → page_filled w level fewest ≡ true
unfolding page_filled
filled_page_lem w level fewest link es e h =
    rw e
    (both-and (both-and (filled_zero level link es) (eqb_same (level_of (filled_page level es link)) level (level_filled_page level es link)))
    (le-leb fewest (count_of (filled_page level es link)) (omega (arith, h, count-filled_page level es link))))

-- ---- Records cut where a page ends

record Cut (b : ℕ) (xs ys : List Entry) : Type 0 where
  front : take b (xs ++ ys) ≡ xs
  rest : drop b (xs ++ ys) ≡ ys

cut_full : (b : ℕ) (xs ys : List Entry) → length xs ≡ b → Cut b xs ys
cut_full b xs ys e = rw (← e) (record { front = take-append_seam xs ys; rest = drop-append_seam xs ys })

cut_last : (b : ℕ) (xs : List Entry) → length xs ≤ b → Cut b xs []
cut_last b xs h = record { front = ap (take b) (append-nil xs) ∙ take_all b xs h; rest = ap (drop b) (append-nil xs) ∙ drop_of_length-le xs {i = b} h }

-- ---- Chains

-- Where pages are left a page must be full.
fewest_more : (b n last : ℕ) → fewest_on b (suc n) last ≡ b
unfolding fewest_on
fewest_more b n last = rw (eqb-diff (suc n) 0 (λ e. omega arith)) refl

module _ (r : Root) (ps : List ℕ) (some : 0 < r.capacity) (few : r.capacity ≤ most_records) where
  -- A page whose records are counted, with the pages xs behind it.
  page_cut : (x : ℕ) (xs : List ℕ) (level last : ℕ) → Has ps x → page_sound r (page_of ps x) ≡ true
      → Filling (page_of ps x) level (fewest_on r.capacity (length xs) last) → Cut r.capacity (entries_of (page_of ps x)) (entries_on ps xs)
  unfolding fewest_on entries_on
  page_cut x [] level last has sound f =
      let long = length-entries_of (page_of ps x) (length_page_of has) (omega (arith, sound_page_counts r (page_of ps x) sound)) in
      cut_last r.capacity (entries_of (page_of ps x)) (omega (arith, long, sound_page_counts r (page_of ps x) sound))
  page_cut x (y ∷ ys) level last has sound f =
      let long = length-entries_of (page_of ps x) (length_page_of has) (omega (arith, sound_page_counts r (page_of ps x) sound)) in
      cut_full r.capacity (entries_of (page_of ps x)) (entries_on ps (y ∷ ys)) (omega (arith, long, sound_page_counts r (page_of ps x) sound, f.enough, fewest_more r.capacity (length ys) last))

  page_is : (x : ℕ) (xs : List ℕ) (level last : ℕ) → Has ps x → page_sound r (page_of ps x) ≡ true → link_of (page_of ps x) ≡ link_to_first xs
      → Filling (page_of ps x) level (fewest_on r.capacity (length xs) last)
      → page_of ps x ≡ filled_page level (take r.capacity (entries_of (page_of ps x) ++ entries_on ps xs)) (link_to_first xs)
  page_is x xs level last has sound link f =
      let w = page_of ps x in
      page_words_lem w (length_page_of has) (omega (arith, sound_page_counts r w sound)) f.tail
      ∙ (λ i. filled_page (f.levels i) (sym (page_cut x xs level last has sound f).front i) (link i))

  -- A last page of one record or more, or a full one, is not empty.
  some_on : (x : ℕ) (xs : List ℕ) → Has ps x → page_sound r (page_of ps x) ≡ true → Filling (page_of ps x) 0 (fewest_on r.capacity (length xs) 1)
      → 0 < length (entries_of (page_of ps x) ++ entries_on ps xs)
  unfolding fewest_on
  some_on x [] has sound f =
      let long = length-entries_of (page_of ps x) (length_page_of has) (omega (arith, sound_page_counts r (page_of ps x) sound)) in
      let one : 1 ≤ count_of (page_of ps x) = f.enough in
      rw length-append (omega (arith, long, one))
  some_on x (y ∷ ys) has sound f =
      let long = length-entries_of (page_of ps x) (length_page_of has) (omega (arith, sound_page_counts r (page_of ps x) sound)) in
      let full : r.capacity ≤ count_of (page_of ps x) = omega (arith, f.enough, fewest_more r.capacity (length ys) 1) in
      rw length-append (omega (arith, long, full, some))

  filled_overflow : (xs : List ℕ) → Linked r ps xs → All (Has ps) xs → filled_all r.capacity ps xs ≡ true → Overflow r.capacity ps xs (entries_on ps xs)
  unfolding filled_all entries_on
  filled_overflow [] h a e = refl
  filled_overflow (x ∷ xs) h a e =
      let f = and_both (page_filled (page_of ps x) 0 (fewest_on r.capacity (length xs) 1)) (filled_all r.capacity ps xs) e in
      let g = page_filling (page_of ps x) 0 (fewest_on r.capacity (length xs) 1) f.0 in (
        some_on x xs a.0 h.0 g,
        page_is x xs 0 1 a.0 h.0 h.1 g,
        rw (page_cut x xs 0 1 a.0 h.0 g).rest (filled_overflow xs h.2 a.1 f.1),
      )

  pub chain_filled : (c level : ℕ) (xs : List ℕ) → Has ps c → page_sound r (page_of ps c) ≡ true → link_of (page_of ps c) ≡ link_to_first xs → Linked r ps xs → All (Has ps) xs
      → page_filled (page_of ps c) level (fewest_on r.capacity (length xs) 0) ≡ true → filled_all r.capacity ps xs ≡ true
      → ChainIs r.capacity ps c level (entries_on ps (primary_page c ∷ xs)) xs
  unfolding entries_on primary_of
  chain_filled c level xs has sound link linked all e f =
      let g = page_filling (page_of ps c) level (fewest_on r.capacity (length xs) 0) e in
      record {
        primary = page_is c xs level 0 has sound link g;
        overflow = rw (page_cut c xs level 0 has sound g).rest (filled_overflow xs linked all f);
      }

  -- How many records the first page of some takes, with the pages xs behind it.
  fewest_front : (xs : List ℕ) (last : ℕ) (es : List Entry) → Overflow r.capacity ps xs (drop r.capacity es) → last ≤ 1 → (last ≡ 1 → 0 < length es)
      → fewest_on r.capacity (length xs) last ≤ length (take r.capacity es)
  unfolding fewest_on
  fewest_front [] zero es o l h = omega arith
  fewest_front [] (suc k) es o l h = let s = h (omega arith) in rw length-take (omega (arith, s, some))
  fewest_front (y ∷ ys) last es o l h = let s = o.0 in let t : length (drop r.capacity es) ≡ length es - r.capacity = length-drop r.capacity es in
      let full : r.capacity ≤ length (take r.capacity es) = rw length-take (omega (arith, s, t)) in
      omega (arith, full, fewest_more r.capacity (length ys) last)

  overflow_filled : (xs : List ℕ) (es : List Entry) → Overflow r.capacity ps xs es → filled_all r.capacity ps xs ≡ true
  unfolding filled_all
  overflow_filled [] es o = refl
  overflow_filled (x ∷ xs) es o =
      both-and (filled_page_lem (page_of ps x) 0 (fewest_on r.capacity (length xs) 1) (link_to_first xs) (take r.capacity es) o.1 (fewest_front xs 1 es o.2 (omega arith) (λ _. o.0)))
      (overflow_filled xs (drop r.capacity es) o.2)

  pub filled_chain : (c level : ℕ) (es : List Entry) (xs : List ℕ) → ChainIs r.capacity ps c level es xs
      → (page_filled (page_of ps c) level (fewest_on r.capacity (length xs) 0) ≡ true) × (filled_all r.capacity ps xs ≡ true)
  unfolding primary_of
  filled_chain c level es xs k = (
    filled_page_lem (page_of ps c) level (fewest_on r.capacity (length xs) 0) (link_to_first xs) (take r.capacity es) k.primary
        (fewest_front xs 0 es k.overflow (omega arith) (λ e. absurd (omega arith))),
    overflow_filled xs (drop r.capacity es) k.overflow,
  )
