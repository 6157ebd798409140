-- A chain whose pages were walked and whose records were gathered, over the model's chain_of.
-- Main statements: sound_ascends (the records of a chain looked through whole ascend); pages_bounded, unwalked_damaged; walked_chain (what chain_of is once the pages
-- were walked), pages_walked (how many they are); keys_fall_damaged, keys_ascend_gathered, keys_ascend_in_front (what gather answers and leaves); Whole, gathered_damaged, gathered-whole
-- (what its caller learns); front_is (a chain gathered, as the front of its buffer is lent).
use mathlib.Core.Path.{◌≡◌, refl, sym, ap, ◌∙◌}
use mathlib.Core.Bool.{Bool, true, false, cond}
use mathlib.Core.List.{List, ◌∷◌, ◌++◌}
use Prim.Native.Nat.{ℕ, ◌-◌, ◌*◌, ◌≤◌}
use native.Mathlib.Omega.{arith}
use lib.ListN.{length, take, length-take}
use lib.Seq.{length-take-le}
use Rattle.std.specs.Prelude.{Result, Ok, Err}
use Rattle.model.specs.declared.Damaged.{Damaged}
use Rattle.model.specs.declared.Root.{Root}
use Rattle.model.specs.declared.Entry.{Entry}
use Rattle.model.specs.Sizes.{most_records, record_words}
use Rattle.model.specs.Entries.{ascending}
use Rattle.model.specs.Pages.{page_of, level_of, count_of, link_of, records_in, entries_of, page_sound}
use Rattle.model.specs.Chains.{Checked, damaged, sound, sound_if, and_then, Chain, list_from, entries_on, read_chain, ascending_chain, chain_of}
use Rattle.model.proofs.Laws.RecordWords.{length_records, records_front}
use Rattle.model.proofs.Laws.Walks.{walked_chained, chain_reads}
use Rattle.chains.specs.Walks.{counted}
use Rattle.chains.proofs.Answered.{answered_damaged, answered_sound}
use Rattle.model.proofs.Laws.Tests.{sound_page_links, sound_page_counts}
use Rattle.chain_keys.specs.declared.Front.{Front}
use Rattle.chain_keys.specs.Gathering.{overflow_of, CanGather, Followed, entries_from, front_of, gathered, in_front, entries_in}
use Rattle.chain_keys.proofs.Following.{walked_walks}

pub sound_ascends : (r : Root) (ps : List ℕ) (c : ℕ) (d : Chain) → chain_of r ps c ≡ sound d → ascending d.entries ≡ true
sound_ascends r ps c d e = (chain_reads r ps c d e).ascends

-- ---- A chain whose pages were walked

module _ (r : Root) (ps : List ℕ) (c : ℕ) where
  -- It has at most V overflow pages.
  pub pages_bounded : (n : ℕ) → counted (overflow_of r ps c) ≡ Ok n → n ≤ r.overflow
  unfolding overflow_of list_from
  pages_bounded n e = go (page_sound r (page_of ps c)) refl e
    where
      go : (b : Bool) → b ≡ page_sound r (page_of ps c) → counted (cond b (list_from r ps (link_of (page_of ps c))) damaged) ≡ Ok n → n ≤ r.overflow
      go true eb e =
          let read = answered_sound length (list_from r ps (link_of (page_of ps c))) (sym e) in
          omega (arith, read.answer, (walked_chained r ps r.overflow (link_of (page_of ps c)) read.value read.is_sound).1)
      go false eb e = cc

  pub unwalked_damaged : {e : Damaged} → Err e ≡ counted (overflow_of r ps c) → chain_of r ps c ≡ damaged
  unfolding overflow_of chain_of
  unwalked_damaged e = go (page_sound r (page_of ps c)) e
    where
      go : (b : Bool) → {e : Damaged} → Err e ≡ counted (cond b (list_from r ps (link_of (page_of ps c))) damaged)
          → cond b (and_then (list_from r ps (link_of (page_of ps c))) (λ xs. ascending_chain (read_chain ps c xs))) damaged ≡ damaged
      go true e = rw (answered_damaged length (list_from r ps (link_of (page_of ps c))) e) refl
      go false e = refl

-- The overflow pages of chain c are xs, n of them; its records ascend or not.
pub record Passed (r : Root) (ps : List ℕ) (c n : ℕ) : Type 0 where
  pub xs : List ℕ
  pub many : length xs ≡ n
  pub few : count_of (page_of ps c) ≤ most_records
  pub followed : Followed ps n (link_of (page_of ps c))
  pub records : entries_of (page_of ps c) ++ entries_from ps n (link_of (page_of ps c)) ≡ entries_on ps (c ∷ xs)
  pub chain_is : chain_of r ps c ≡ ascending_chain (read_chain ps c xs)

pub walked_chain : (r : Root) (ps : List ℕ) (c n room : ℕ) → CanGather r ps c n room → Passed r ps c n
unfolding overflow_of chain_of list_from entries_on
walked_chain r ps c n room can = go (page_sound r w) refl can.walked
  where
    w : List ℕ
    w = page_of ps c

    pages : page_sound r w ≡ true → (x : Checked (List ℕ)) → x ≡ list_from r ps (link_of w) → counted x ≡ Ok n → Passed r ps c n
    pages good damaged ex e = cc
    pages good (sound xs) ex e =
        let walks = walked_walks r ps can.keys_fit can.can_walk.pages_fit r.overflow (link_of w) xs (sound_page_links r w good) (sym ex) in
        let many : length xs ≡ n = cc in
        record {
          xs = xs;
          many = many;
          few = omega (arith, sound_page_counts r w good, can.keys_fit);
          followed = rw many at walks.followed;
          records = ap (λ (es : List Entry). entries_of w ++ es) (ap (λ (k : ℕ). entries_from ps k (link_of w)) (sym many) ∙ walks.entries);
          chain_is = rw (good, ← ex) refl;
        }

    go : (b : Bool) → b ≡ page_sound r w → counted (cond b (list_from r ps (link_of w)) damaged) ≡ Ok n → Passed r ps c n
    go true eb e = pages (sym eb) (list_from r ps (link_of w)) refl e
    go false eb e = cc

-- As many overflow pages as the chain has were walked.
pub pages_walked : (r : Root) (ps : List ℕ) (c n : ℕ) (d : Chain) → Passed r ps c n → chain_of r ps c ≡ sound d → n ≡ length d.pages
unfolding ascending_chain read_chain
pages_walked r ps c n d passed e = go (ascending (entries_on ps (c ∷ passed.xs))) (sym passed.chain_is ∙ e)
  where
    go : (b : Bool) → sound_if b (read_chain ps c passed.xs) ≡ sound d → n ≡ length d.pages
    go true e = let q : read_chain ps c passed.xs ≡ d = cc in sym passed.many ∙ ap (λ (x : Chain). length x.pages) q
    go false e = cc

-- ---- A chain whose records were gathered, m of them

module _ (r : Root) (ps : List ℕ) (c n : ℕ) (passed : Passed r ps c n) (rs : List Entry) (w : List ℕ) (m : ℕ) where
  module _ (page : w ≡ page_of ps c) (front : take m rs ≡ entries_of w ++ entries_from ps n (link_of w)) where
    entries_are : take m rs ≡ entries_on ps (c ∷ passed.xs)
    entries_are = front ∙ ap (λ (v : List ℕ). entries_of v ++ entries_from ps n (link_of v)) page ∙ passed.records

    pub keys_fall_damaged : ascending (take m rs) ≡ false → chain_of r ps c ≡ damaged
    unfolding ascending_chain read_chain
    keys_fall_damaged e = passed.chain_is ∙ rw (← entries_are, e) refl

    -- The chain that was gathered.
    keys_ascend_sound : ascending (take m rs) ≡ true → chain_of r ps c ≡ sound (read_chain ps c passed.xs)
    unfolding ascending_chain read_chain
    keys_ascend_sound e = passed.chain_is ∙ rw (← entries_are, e) refl

    module _ (e : ascending (take m rs) ≡ true) (fits : m ≤ length rs) {level link : ℕ} (el : level ≡ level_of w) (ek : link ≡ link_of w) where
      pub keys_ascend_gathered : Ok (record { level = level; link = link; count = m }) ≡ gathered (chain_of r ps c)
      unfolding read_chain
      keys_ascend_gathered =
          let many : m ≡ length (entries_on ps (c ∷ passed.xs)) = sym (length-take-le m rs fits) ∙ ap length entries_are in
          rw (keys_ascend_sound e, el, ek, page, many) refl

    pub keys_ascend_in_front : ascending (take m rs) ≡ true → sound (take m rs) ≡ entries_in (chain_of r ps c)
    unfolding read_chain
    keys_ascend_in_front e = rw (keys_ascend_sound e, entries_are) refl

-- The chain x, of n overflow pages, was looked through whole: what was gathered says its fields, and its records stand at the front of the buffer.
pub record Whole (x : Checked Chain) (n : ℕ) (g : Front) (words : List ℕ) : Type 0 where
  pub chain : Chain
  pub is_sound_ok : x ≡ sound chain
  pub level : g.level ≡ chain.level
  pub link : g.link ≡ chain.link
  pub pages : n ≡ length chain.pages
  pub count : g.count ≡ length chain.entries
  pub fits : g.count * record_words ≤ length words
  pub entries : take g.count (records_in words) ≡ chain.entries

pub gathered_damaged : (x : Checked Chain) {a : Result Front Damaged} {e : Damaged} → a ≡ gathered x → a ≡ Err e → x ≡ damaged
gathered_damaged x told f = answered_damaged front_of x (sym f ∙ told)

pub gathered-whole : {r : Root} {ps : List ℕ} {c n room : ℕ} → CanGather r ps c n room → {a : Result Front Damaged} {g : Front} (words : List ℕ)
    → (a ≡ gathered (chain_of r ps c)) × (in_front a words ≡ entries_in (chain_of r ps c)) → a ≡ Ok g → Whole (chain_of r ps c) n g words
gathered-whole {r} {ps} {c} {n} {room} can {a} {g} words told f =
    let read = answered_sound front_of (chain_of r ps c) (sym f ∙ told.0) in
    let d = read.value in
    let kept : sound (take g.count (records_in words)) ≡ entries_in (chain_of r ps c) = ap (λ (y : Result Front Damaged). in_front y words) (sym f) ∙ told.1 in
    let same : sound (take g.count (records_in words)) ≡ sound d.entries = kept ∙ ap entries_in read.is_sound in
    let entries : take g.count (records_in words) ≡ d.entries = cc in
    let count : g.count ≡ length d.entries = ap (λ (y : Front). y.count) (sym read.answer) in
    record {
      chain = d;
      is_sound_ok = read.is_sound;
      level = ap (λ (y : Front). y.level) (sym read.answer);
      link = ap (λ (y : Front). y.link) (sym read.answer);
      pages = pages_walked r ps c n d (walked_chain r ps c n room can) read.is_sound;
      count = count;
      fits = omega (arith, length_records words, sym (length-take g.count (records_in words)) ∙ ap length entries ∙ sym count);
      entries = entries;
    }

-- A chain gathered, as the front of its buffer is lent.
module _ {x : Checked Chain} {n : ℕ} (g : Front) (words : List ℕ) (whole : Whole x n g words) where
  pub front_is : records_in (take (g.count * record_words - 0) words) ≡ whole.chain.entries
  front_is = records_front g.count words ∙ whole.entries
