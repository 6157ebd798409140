-- A chain whose pages were walked, over the model's chain_of: its primary page is the one that link c + 1 names.
-- Main statements: page_falls, page_passed, pages_passed (one turn over the pages); walked_passed, pages_followed_ok, chain_scanned (what is said of the chain, over the records from link c + 1 on);
-- looked_at_lem, unsound_chain (what the answer says of the chain).
use mathlib.Core.Path.{◌≡◌, refl, sym, ap, ◌∙◌}
use mathlib.Core.Bool.{Bool, true, false, cond, ◌||◌}
use mathlib.Core.List.{List, ◌∷◌, ◌++◌}
use Prim.Native.Nat.{ℕ, ◌+◌, ◌-◌, ◌*◌, ◌≤◌, ◌<◌}
use native.Mathlib.Numerals.{add-one}
use native.Mathlib.Omega.{arith}
use lib.ListN.{length}
use Rattle.std.specs.Prelude.{Ok, Err}
use Rattle.model.specs.declared.Damaged.{Damaged}
use Rattle.model.specs.declared.Root.{Root}
use Rattle.model.specs.Sizes.{page_words, most_records, record_words}
use Rattle.model.specs.Entries.{has_key, ascending}
use Rattle.model.specs.Pages.{page_of, count_of, link_of, entries_of}
use Rattle.model.specs.Chains.{Checked, damaged, sound, sound_if, Chain, entries_on, read_chain, ascending_chain, chain_of}
use Rattle.model.proofs.Laws.Pages.{length-entries_of}
use Rattle.chains.specs.Walks.{counted}
use Rattle.chains.specs.Links.{also}
use Rattle.chains.proofs.Answered.{answered_damaged, answered_sound}
use Rattle.chain_keys.specs.Gathering.{overflow_of, CanWalk, Followed, entries_from}
use Rattle.chain_keys.proofs.Following.{entries_next, entries_none}
use Rattle.chain_keys.proofs.WholeChain.{Passed, walked_chain}
use Rattle.chain_scan.specs.Scans.{ascent_from, looked, examined, scanned}
use Rattle.chain_scan.specs.declared.Looked.{Looked}
use Rattle.chain_scan.proofs.Ascents.{resumed, list_falls, list_passed, all_passed}

-- ---- One page more: w is the page that link l names

module _ (key n : ℕ) (ps : List ℕ) (floor count : ℕ) (found : Bool) (left l : ℕ) (more : 0 < left) {w : List ℕ} (page : w ≡ page_of ps (l - 1)) where
  page_first : entries_from ps left l ≡ entries_of w ++ entries_from ps (left - 1) (link_of w)
  page_first = entries_next ps left l more ∙ rw page refl

  pub page_falls : ascent_from floor (entries_of w) ≡ Err (record {}) → resumed key n floor count found (entries_from ps left l) ≡ Err (record {})
  page_falls e = rw page_first (list_falls key n floor count found (entries_of w) _ e)

  pub page_passed : (next : ℕ) → length w ≡ page_words → count_of w ≤ most_records → ascent_from floor (entries_of w) ≡ Ok next
      → resumed key n floor count found (entries_from ps left l) ≡ resumed key n next (count + count_of w) (found || has_key key (entries_of w)) (entries_from ps (left - 1) (link_of w))
  page_passed next sixteen few e =
      rw page_first (list_passed key n floor count found (entries_of w) _ next e ∙ rw (length-entries_of w sixteen few) refl)

pub pages_passed : (key n : ℕ) (ps : List ℕ) (floor count : ℕ) (found : Bool) (left l : ℕ) → left ≤ 0
    → resumed key n floor count found (entries_from ps left l) ≡ Ok (record { pages = n; count = count; found = found })
pages_passed key n ps floor count found left l none = rw (entries_none ps left l none) (all_passed key n floor count found)

-- ---- The chain whole

module _ (r : Root) (ps : List ℕ) (c n : ℕ) where
  pub walked_passed : CanWalk r ps c → r.capacity ≤ most_records → counted (overflow_of r ps c) ≡ Ok n → Passed r ps c n
  walked_passed can keys e =
      walked_chain r ps c n (most_records * record_words * (n + 1)) (record { can_walk = can; keys_fit = keys; walked = e; has_room = omega arith })

  module _ (passed : Passed r ps c n) where
    first-is : c + 1 - 1 ≡ c
    first-is = omega arith

    pub pages_followed_ok : c * page_words + page_words ≤ length ps → Followed ps (n + 1) (c + 1)
    pages_followed_ok fits = rw (add-one n) (also {k = n} {l = c + 1} (omega arith) (rw first-is record { fits = fits; few = passed.few }) (rw first-is passed.followed))

    entries_are : entries_from ps (n + 1) (c + 1) ≡ entries_on ps (c ∷ passed.xs)
    entries_are =
        let q : n + 1 - 1 ≡ n = omega arith in
        entries_next ps (n + 1) (c + 1) (omega arith) ∙ rw (first-is, q) passed.records

    pub chain_scanned : (key : ℕ) → scanned key (chain_of r ps c) ≡ examined key n (entries_from ps (n + 1) (c + 1))
    unfolding examined ascending_chain read_chain
    chain_scanned key = rw (passed.chain_is, entries_are) (go (ascending (entries_on ps (c ∷ passed.xs))))
      where
        go : (b : Bool) → scanned key (sound_if b (read_chain ps c passed.xs)) ≡ cond b (Ok (looked key n (entries_on ps (c ∷ passed.xs)))) (Err (record {}))
        go true = rw passed.many refl
        go false = refl

-- ---- What was found

-- The chain x is sound, and l says how many pages and records it has and whether the key is among them.
pub record LookedAt (x : Checked Chain) (key : ℕ) (l : Looked) : Type 0 where
  pub chain : Chain
  pub is_sound_ok : x ≡ sound chain
  pub pages : l.pages ≡ length chain.pages
  pub count : l.count ≡ length chain.entries
  pub found : l.found ≡ has_key key chain.entries

pub looked_at_lem : (x : Checked Chain) (key : ℕ) (l : Looked) → Ok l ≡ scanned key x → LookedAt x key l
looked_at_lem x key l e =
    let read = answered_sound (λ (c : Chain). looked key (length c.pages) c.entries) x e in
    record {
      chain = read.value;
      is_sound_ok = read.is_sound;
      pages = ap (λ (y : Looked). y.pages) (sym read.answer);
      count = ap (λ (y : Looked). y.count) (sym read.answer);
      found = ap (λ (y : Looked). y.found) (sym read.answer);
    }

pub unsound_chain : (x : Checked Chain) (key : ℕ) {e : Damaged} → Err e ≡ scanned key x → x ≡ damaged
unsound_chain x key e = answered_damaged (λ (c : Chain). looked key (length c.pages) c.entries) x e
