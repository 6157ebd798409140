-- A chain that was walked, and what is seen of its pages: it passes exactly where the model's test of it does.
-- Main statements: Facts and facts (what the sizes and the root's test say); WalkedChain and walked_chain; model_parts
-- and chain_pages_ok (what the model's test says of it); chain_saved_ok, chain_unsaved, chain_unwalked.
use mathlib.Core.Path.{◌≡◌, refl, sym, ap, ◌∙◌}
use mathlib.Core.Bool.{Bool, true, false, cond, ◌&&◌, ◌||◌}
use mathlib.Core.List.{List, ◌∷◌}
use Prim.Native.Nat.{ℕ, ◌+◌, ◌*◌, ◌≤◌, ◌<◌}
use native.Mathlib.Omega.{arith}
use lib.ListN.{length}
use lib.Dec.{eqb, ltb, leb}
use Rattle.std.specs.Prelude.{Ok, Err, Some, None}
use Rattle.model.specs.declared.Damaged.{Damaged}
use Rattle.model.specs.declared.Root.{Root}
use Rattle.model.specs.declared.Entry.{Entry}
use Rattle.model.specs.Sizes.{page_words, most_records}
use Rattle.model.specs.Addresses.{span, chain_count, count_of_chains}
use Rattle.model.specs.Entries.{ascending}
use Rattle.model.specs.Pages.{page_of, count_of, link_of, entries_of, link_sound, link_to_first, page_sound, primary_page}
use Rattle.model.specs.Chains.{Checked, damaged, sound, list_from, entries_on, read_chain, ascending_chain, chain_of, pages_in}
use Rattle.model.specs.Filling.{pages_for}
use Rattle.model.specs.Refusals.{root_sound}
use Rattle.model.specs.TakeUp.{level_at, all_home, packed, chain_fits, fits_if_sound}
use Rattle.model.proofs.Laws.Lists.{cond_ind, and_both, both-and, eqb-true, eqb_same, leb-true, ltb-true, All, all_map}
use Rattle.model.proofs.Laws.Tests.{sound_page_counts, sound_page_links}
use Rattle.model.proofs.Laws.Pages.{Has}
use Rattle.model.proofs.Laws.Structure.{ChainIs}
use Rattle.model.proofs.Laws.Filling.{Chained, IsOverflow}
use Rattle.model.proofs.Laws.Reading.{overflow_length}
use Rattle.model.proofs.Laws.Walks.{walked_chained, linked_overflow}
use Rattle.model.proofs.Invariant.Statement.{Limits}
use Rattle.model.proofs.Invariant.Start.{limits_within}
use Rattle.model.proofs.TakingUp.Tests.{packed_chain}
use Rattle.model.proofs.TakingUp.Complete.{chain_packed}
use Rattle.chains.specs.Links.{linked_pages}
use Rattle.chains.specs.Walks.{counted}
use Rattle.chains.proofs.Links.{chained_pages}
use Rattle.chain_keys.specs.Gathering.{overflow_of, Followed}
use Rattle.chain_keys.proofs.Following.{walked_walks}
use Rattle.chain_keys.proofs.WholeChain.{unwalked_damaged}
use Rattle.take_up.specs.declared.Home.{Home}
use Rattle.take_up.specs.Seen.{good_from, least_after, page_filled, fewest_on, page_good, listed_good, pages_seen, chain_saved, CanSurvey}
use Rattle.take_up.proofs.Records.{same_test, good_parts, parts_good, any_reaches, filled_all, page_ok, listed_ok}
use Rattle.take_up.proofs.Filled.{chain_filled, filled_chain}

-- ---- The root

pub record Facts (r : Root) (ps : List ℕ) : Type 0 where
  pub limits : Limits r
  pub level_fits : r.level ≤ 8
  pub next_fits : r.next < span r.originals r.level
  pub count_fits : count_of_chains r ≤ r.primaries
  pub free_fits : r.free ≤ r.overflow
  pub pages_fit : page_words * (r.primaries + r.overflow) ≤ length ps

pub facts : (r : Root) (ps : List ℕ) → CanSurvey r ps → Facts r ps
unfolding root_sound
facts r ps can =
    let a = and_both (leb r.level 8 && ltb r.next (span r.originals r.level) && leb (chain_count r.originals r.level r.next) r.primaries) (leb r.free r.overflow) can.root_sound_ok in
    let b = and_both (leb r.level 8 && ltb r.next (span r.originals r.level)) (leb (chain_count r.originals r.level r.next) r.primaries) a.0 in
    let c = and_both (leb r.level 8) (ltb r.next (span r.originals r.level)) b.0 in
    record {
      limits = limits_within r can.sizes_fit;
      level_fits = leb-true r.level 8 c.0;
      next_fits = ltb-true r.next (span r.originals r.level) c.1;
      count_fits = leb-true (chain_count r.originals r.level r.next) r.primaries b.1;
      free_fits = leb-true r.free r.overflow a.1;
      pages_fit = omega (arith, can.pages_many);
    }

pub level_small : (r : Root) (c : ℕ) → r.level ≤ 8 → level_at r c ≤ 10
unfolding level_at
level_small r c h = cond_ind (λ (n : ℕ). n ≤ 10) (ltb c r.next || leb (span r.originals r.level) c) (r.level + 1) r.level (λ _. omega (arith, h)) (λ _. omega (arith, h))

abbrev pub home_of : Root → ℕ → Home
home_of r c = record { originals = r.originals; level = level_at r c; chain = c }

-- ---- A chain whose overflow pages xs were walked

pub record WalkedChain (r : Root) (ps : List ℕ) (c n : ℕ) : Type 0 where
  pub xs : List ℕ
  pub many : length xs ≡ n
  pub good : page_sound r (page_of ps c) ≡ true
  pub few : count_of (page_of ps c) ≤ most_records
  pub followed : Followed ps n (link_of (page_of ps c))
  pub chained : Chained r ps (link_of (page_of ps c)) xs
  pub overflow : All (IsOverflow r) xs
  pub bounded : n ≤ r.overflow
  pub chain_is : chain_of r ps c ≡ ascending_chain (read_chain ps c xs)

pub walked_chain : (r : Root) (ps : List ℕ) (c n : ℕ) → Facts r ps → counted (overflow_of r ps c) ≡ Ok n → WalkedChain r ps c n
unfolding overflow_of chain_of list_from
walked_chain r ps c n f walked = go (page_sound r w) refl walked
  where
    w : List ℕ
    w = page_of ps c

    pages : page_sound r w ≡ true → (x : Checked (List ℕ)) → x ≡ list_from r ps (link_of w) → counted x ≡ Ok n → WalkedChain r ps c n
    pages good damaged ex e = cc
    pages good (sound xs) ex e =
        let walks = walked_walks r ps f.limits.keys_fit f.pages_fit r.overflow (link_of w) xs (sound_page_links r w good) (sym ex) in
        let found = walked_chained r ps r.overflow (link_of w) xs (sym ex) in
        let first : link_sound r (link_to_first xs) ≡ true = ap (link_sound r) (sym found.0.first) ∙ sound_page_links r w good in
        let many : length xs ≡ n = cc in
        record {
          xs = xs;
          many = many;
          good = good;
          few = omega (arith, sound_page_counts r w good, f.limits.keys_fit);
          followed = rw many at walks.followed;
          chained = found.0;
          overflow = linked_overflow r ps xs first found.0.linked;
          bounded = omega (arith, found.1, many);
          chain_is = rw (good, ← ex) refl;
        }

    go : (b : Bool) → b ≡ page_sound r w → counted (cond b (list_from r ps (link_of w)) damaged) ≡ Ok n → WalkedChain r ps c n
    go true eb e = pages (sym eb) (list_from r ps (link_of w)) refl e
    go false eb e = cc

-- ---- What is seen of it

module _ (r : Root) (ps : List ℕ) (f : Facts r ps) (c n : ℕ) (inside : c < r.primaries) (walked : WalkedChain r ps c n) where
  abbrev xs : List ℕ
  xs = walked.xs

  abbrev h : Home
  h = home_of r c

  abbrev es : List Entry
  es = entries_on ps (primary_page c ∷ xs)

  abbrev filled : Bool
  filled = page_filled (page_of ps c) (level_at r c) (fewest_on r.capacity (length xs) 0) && filled_all r.capacity ps xs

  seen-is : pages_seen r h n ps ≡ (good_from h 0 es && filled)
  unfolding pages_seen entries_on
  seen-is =
      let w = page_of ps c in
      let good : ℕ → Bool = λ k. page_good h 0 w (level_at r c) (fewest_on r.capacity k 0) in
      let least = least_after 0 (entries_of w) in
      ap (λ (k : ℕ). good k && listed_good h r.capacity least ps (linked_pages ps k (link_of w))) (sym walked.many)
      ∙ ap (λ (l : List ℕ). good (length xs) && listed_good h r.capacity least ps l) (chained_pages r ps (link_of w) xs walked.chained)
      ∙ ap (λ (t : Bool). good (length xs) && t) (listed_ok h r.capacity least ps xs)
      ∙ page_ok h r.capacity 0 w (level_at r c) (fewest_on r.capacity (length xs) 0) (filled_all r.capacity ps xs) (entries_on ps xs)

  has_primary : Has ps c
  has_primary = record { fits = omega (arith, f.pages_fit, inside) }

  has_all : All (Has ps) xs
  has_all = all_map xs (λ x o. record { fits = omega (arith, f.pages_fit, o.below) }) walked.overflow

  some : 0 < r.capacity
  some = omega (arith, f.limits.some_key)

  -- The model's test, where the keys ascend.
  fits_is : (t : Bool) → ascending es ≡ t → fits_if_sound r ps c (chain_of r ps c) ≡ (t && chain_fits r ps c (read_chain ps c xs))
  unfolding fits_if_sound ascending_chain read_chain
  fits_is true e = ap (fits_if_sound r ps c) walked.chain_is ∙ rw e refl
  fits_is false e = ap (fits_if_sound r ps c) walked.chain_is ∙ rw e refl

  pub record ModelParts : Type 0 where
    pub ascends : ascending es ≡ true
    pub homes : all_home r.originals (level_at r c) c es ≡ true
    pub chain : ChainIs r.capacity ps c (level_at r c) es xs

  pub model_parts : fits_if_sound r ps c (chain_of r ps c) ≡ true → ModelParts
  unfolding chain_fits read_chain
  model_parts e =
      let a = and_both (ascending es) (chain_fits r ps c (read_chain ps c xs)) (sym (fits_is (ascending es) refl) ∙ e) in
      let b = and_both (all_home r.originals (level_at r c) c es && packed r.capacity ps (level_at r c) (primary_page c ∷ xs) es) (eqb (length xs) (pages_for r.capacity es)) a.1 in
      let d = and_both (all_home r.originals (level_at r c) c es) (packed r.capacity ps (level_at r c) (primary_page c ∷ xs) es) b.0 in
      record {
        ascends = a.0;
        homes = d.0;
        chain = packed_chain r.capacity ps c (level_at r c) es xs some d.1 (eqb-true (length xs) (pages_for r.capacity es) b.1);
      }

  parts_model : ModelParts → fits_if_sound r ps c (chain_of r ps c) ≡ true
  unfolding chain_fits read_chain
  parts_model p =
      fits_is (ascending es) refl
      ∙ both-and p.ascends
      (both-and (both-and p.homes (chain_packed r.capacity ps c (level_at r c) es xs p.chain))
      (eqb_same (length xs) (pages_for r.capacity es) (overflow_length r.capacity ps xs es some p.chain.overflow)))

  -- What is seen is what the model tests.
  pub chain_seen : pages_seen r h n ps ≡ fits_if_sound r ps c (chain_of r ps c)
  chain_seen = same_test (pages_seen r h n ps) (fits_if_sound r ps c (chain_of r ps c)) forth back
    where
      forth : pages_seen r h n ps ≡ true → fits_if_sound r ps c (chain_of r ps c) ≡ true
      forth e =
          let a = and_both (good_from h 0 es) filled (sym seen-is ∙ e) in
          let b = and_both (page_filled (page_of ps c) (level_at r c) (fewest_on r.capacity (length xs) 0)) (filled_all r.capacity ps xs) a.1 in
          let g = good_parts h 0 es a.0 in
          parts_model (record {
            ascends = g.ascends;
            homes = g.homes;
            chain = chain_filled r ps some f.limits.keys_fit c (level_at r c) xs has_primary walked.good walked.chained.first walked.chained.linked has_all b.0 b.1;
          })

      back : fits_if_sound r ps c (chain_of r ps c) ≡ true → pages_seen r h n ps ≡ true
      back e =
          let p = model_parts e in
          let d = filled_chain r ps some f.limits.keys_fit c (level_at r c) es xs p.chain in
          seen-is ∙ both-and (parts_good h 0 es (record { reached = any_reaches es; ascends = p.ascends; homes = p.homes })) (both-and d.0 d.1)

  -- Its overflow pages are those that were walked.
  pub chain_pages_ok : fits_if_sound r ps c (chain_of r ps c) ≡ true → pages_in (chain_of r ps c) ≡ xs
  unfolding pages_in ascending_chain read_chain
  chain_pages_ok e =
      let up : ascending (entries_on ps (c ∷ xs)) ≡ true = (model_parts e).ascends in
      ap pages_in walked.chain_is ∙ rw up refl

  chain_counted : fits_if_sound r ps c (chain_of r ps c) ≡ true → length (pages_in (chain_of r ps c)) ≡ n
  chain_counted e = ap length (chain_pages_ok e) ∙ walked.many

  pub chain_saved_ok : pages_seen r h n ps ≡ true → Some n ≡ chain_saved r ps c
  unfolding chain_saved
  chain_saved_ok e =
      let g : fits_if_sound r ps c (chain_of r ps c) ≡ true = sym chain_seen ∙ e in
      rw (g, chain_counted g) refl

  pub chain_unsaved : pages_seen r h n ps ≡ false → None ≡ chain_saved r ps c
  unfolding chain_saved
  chain_unsaved e = rw (sym chain_seen ∙ e) refl

pub chain_unwalked : (r : Root) (ps : List ℕ) (c : ℕ) {e : Damaged} → Err e ≡ counted (overflow_of r ps c) → None ≡ chain_saved r ps c
unfolding chain_saved fits_if_sound
chain_unwalked r ps c e = rw (unwalked_damaged r ps c e) refl
