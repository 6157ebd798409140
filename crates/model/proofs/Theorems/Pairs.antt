-- Where the records of a chain stand, word for word, for every b together (document 02, change 1: "words 3 to 14 of a page hold six such pairs, key first"; document 01: "the first b in its
-- primary page, the next b in its first overflow page, and so on").
-- Main statements: pair_words and unused_words (one page); pair_places (record i of a chain is pair i mod b of its page i / b).
use mathlib.Core.Path.{◌≡◌, refl, ap, subst, ◌∙◌}
use mathlib.Core.List.{List, [], ◌∷◌, ◌++◌}
use Prim.Native.Nat.{ℕ, zero, suc, ◌+◌, ◌-◌, ◌*◌, ◌/◌, ◌%◌, ◌≤◌, ◌<◌}
use native.Mathlib.Nat.{add-div_right, add-mod_right, div-eq_of_lt, mod-eq_of_lt}
use native.Mathlib.Omega.{arith}
use lib.ListN.{length, get_or, take, drop, replicate, length-take, length-drop}
use lib.Seq.{get_or-take, get_or-drop}
use Rattle.model.specs.declared.Entry.{Entry}
use Rattle.model.specs.Entries.{key_of, setting_of, entry_of}
use Rattle.model.specs.Sizes.{most_records, record_words}
use Rattle.model.specs.Pages.{page_of, words_of, filled_page, link_to_first, primary_page}
use Rattle.model.specs.Filling.{primary_of, record_at, PairIs}
use Rattle.model.proofs.Laws.Lists.{Ord, lt, ge, ord}
use Rattle.model.proofs.Laws.Structure.{Overflow, ChainIs}

-- ---- One page

-- The words of records, before any others.
key_at : (es : List Entry) (ws : List ℕ) (i : ℕ) → i < length es → get_or (words_of es ++ ws) (i * record_words) 0 ≡ key_of (record_at es i)
unfolding words_of
key_at [] ws i h = absurd (omega arith)
key_at (e ∷ es) ws zero h = refl
key_at (e ∷ es) ws (suc i) h =
    let next : suc i * record_words ≡ suc (suc (i * record_words)) = omega arith in
    ap (λ (n : ℕ). get_or (words_of (e ∷ es) ++ ws) n 0) next ∙ key_at es ws i (omega arith)

setting_at_lem : (es : List Entry) (ws : List ℕ) (i : ℕ) → i < length es → get_or (words_of es ++ ws) (suc (i * record_words)) 0 ≡ setting_of (record_at es i)
unfolding words_of
setting_at_lem [] ws i h = absurd (omega arith)
setting_at_lem (e ∷ es) ws zero h = refl
setting_at_lem (e ∷ es) ws (suc i) h =
    let next : suc (suc i * record_words) ≡ suc (suc (suc (i * record_words))) = omega arith in
    ap (λ (n : ℕ). get_or (words_of (e ∷ es) ++ ws) n 0) next ∙ setting_at_lem es ws i (omega arith)

-- Each record of a page, in its place.
pub pair_words : (level : ℕ) (es : List Entry) (link i : ℕ) → i < length es → PairIs (filled_page level es link) i (record_at es i)
unfolding filled_page
pair_words level es link i h =
    let w = filled_page level es link in
    let third : 3 + i * record_words ≡ suc (suc (suc (i * record_words))) = omega arith in
    let fourth : 4 + i * record_words ≡ suc (suc (suc (suc (i * record_words)))) = omega arith in
    record {
      key_word = ap (λ (n : ℕ). get_or w n 0) third ∙ key_at es _ i h;
      setting_word = ap (λ (n : ℕ). get_or w n 0) fourth ∙ setting_at_lem es _ i h;
    }

zero_at : (n j : ℕ) → get_or {A = ℕ} (replicate n 0) j 0 ≡ 0
zero_at zero j = refl
zero_at (suc n) zero = refl
zero_at (suc n) (suc j) = zero_at n j

zeros_behind : (es : List Entry) (n j : ℕ) → length es * record_words ≤ j → get_or (words_of es ++ replicate n 0) j 0 ≡ 0
unfolding words_of
zeros_behind [] n j h = zero_at n j
zeros_behind (e ∷ es) n zero h = absurd (omega arith)
zeros_behind (e ∷ es) n (suc zero) h = absurd (omega arith)
zeros_behind (e ∷ es) n (suc (suc j)) h = zeros_behind es n j (omega arith)

-- Every word behind them is zero.
pub unused_words : (level : ℕ) (es : List Entry) (link j : ℕ) → 3 + length es * record_words ≤ j → get_or (filled_page level es link) j 0 ≡ 0
unfolding filled_page
unused_words level es link zero h = absurd (omega arith)
unused_words level es link (suc zero) h = absurd (omega arith)
unused_words level es link (suc (suc zero)) h = absurd (omega arith)
unused_words level es link (suc (suc (suc j))) h = zeros_behind es (most_records * record_words + 1 - length es * record_words) j (omega arith)

-- ---- A chain

-- Pages from page x on, the first filled at this level: record i is pair i mod b of page i / b.
module _ (b : ℕ) (positive : 0 < b) (ps : List ℕ) where
  -- Filled so: page x, and behind it the pages xs.
  abbrev From : ℕ → ℕ → List ℕ → List Entry → Type 0
  From x level xs es = (page_of ps x ≡ filled_page level (take b es) (link_to_first xs)) × Overflow b ps xs (drop b es)

  abbrev Placed : ℕ → List ℕ → List Entry → ℕ → Type 0
  Placed x xs es i = PairIs (page_of ps (get_or (x ∷ xs) (i / b) 0)) (i % b) (record_at es i)

  -- On the first page.
  on_first : (x level : ℕ) (xs : List ℕ) (es : List Entry) (i : ℕ) → From x level xs es → i < length es → i < b → Placed x xs es i
  on_first x level xs es i f h l =
      let w = filled_page level (take b es) (link_to_first xs) in
      let on : PairIs w i (record_at (take b es) i) = pair_words level (take b es) (link_to_first xs) i (rw length-take (omega arith)) in
      rw (div-eq_of_lt l, mod-eq_of_lt l, f.0) (subst (PairIs w i) (get_or-take b es i (entry_of 0 0) l) on)

  -- Behind it.
  on_later : (x : ℕ) (xs : List ℕ) (es : List Entry) (i : ℕ) → b ≤ i → (n : ℕ) → i ≡ n + b → PairIs (page_of ps (get_or xs (n / b) 0)) (n % b) (record_at (drop b es) n) → Placed x xs es i
  on_later x xs es i l n e on =
      let page : i / b ≡ suc (n / b) = ap (λ (k : ℕ). k / b) e ∙ add-div_right n positive ∙ omega arith in
      let pair : i % b ≡ n % b = ap (λ (k : ℕ). k % b) e ∙ add-mod_right n b in
      let same : record_at (drop b es) n ≡ record_at es i = get_or-drop b es n (entry_of 0 0) ∙ ap (record_at es) (omega (arith, e)) in
      rw (page, pair) (subst (PairIs (page_of ps (get_or xs (n / b) 0)) (n % b)) same on)

  by_page : {P : Type 0} {i : ℕ} → Ord i b → (i < b → P) → (b ≤ i → P) → P
  by_page (lt l _) first later = first l
  by_page (ge l _) first later = later l

  from_page : (xs : List ℕ) (x level : ℕ) (es : List Entry) (i : ℕ) → From x level xs es → i < length es → Placed x xs es i
  from_page [] x level es i f h = by_page (ord i b) (on_first x level [] es i f h) (λ l. absurd (omega (arith, ap length f.1, length-drop b es)))
  from_page (y ∷ ys) x level es i f h =
      by_page (ord i b) (on_first x level (y ∷ ys) es i f h)
      (λ l. on_later x (y ∷ ys) es i l (i - b) (omega arith) (from_page ys y 0 (drop b es) (i - b) (f.1.1, f.1.2) (rw length-drop (omega arith))))

-- Each record of a chain, in its place.
pub pair_places : (b : ℕ) → 0 < b → (ps : List ℕ) (c level : ℕ) (es : List Entry) (xs : List ℕ) → ChainIs b ps c level es xs
    → (i : ℕ) → i < length es → PairIs (page_of ps (get_or (primary_page c ∷ xs) (i / b) 0)) (i % b) (record_at es i)
unfolding primary_of
pair_places b positive ps c level es xs chain i h = from_page b positive ps xs c level es i (chain.primary, chain.overflow) h
