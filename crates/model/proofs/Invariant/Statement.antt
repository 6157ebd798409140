-- THE INVARIANT: what holds of the memory, with the book beside it, after every list of calls from formatted memory.
-- Main statements: Limits; ExtentsOk (how far the live file extends); PagesOk (who owns each page, and what each page holds); BookOk (the book's map is the records of the live chains);
-- the facts of a party by its step number (fact_table), PartyOk; Inv.
use mathlib.Core.Path.{◌≡◌}
use mathlib.Core.Logic.{◌≢◌}
use mathlib.Core.Bool.{Bool, true, false, cond, ◌&&◌, ◌||◌}
use mathlib.Core.List.{List, [], ◌∷◌, ◌++◌}
use mathlib.Core.Option.{Option, none, some}
use Prim.Native.Nat.{ℕ, suc, ◌+◌, ◌≤◌, ◌<◌}
use lib.ListN.{length, get_or, drop}
use lib.Dec.{eqb}
use Rattle.model.specs.declared.Root.{Root}
use Rattle.model.specs.declared.Party.{Party}
use Rattle.model.specs.Sizes.{most_records, lock_words, all_page_words, within}
use Rattle.model.specs.Records.{idle}
use Rattle.model.specs.Answers.{operation_number, setting_given, answer_of, found_or_absent}
use Rattle.model.specs.Addresses.{span, hash, address_of, count_of_chains, merge_partner}
use Rattle.model.specs.declared.Entry.{Entry}
use Rattle.model.specs.Entries.{has_key, ascending, staying, going, joined, setting_in}
use Rattle.model.specs.Pages.{page_of, link_of, entries_of, link_to_first, page_sound, primary_page, scratch_page, zero_page}
use Rattle.model.specs.Chains.{entries_on}
use Rattle.model.specs.Filling.{primary_of}
use Rattle.model.specs.FreeList.{is_among}
use Rattle.model.specs.Memory.{Memory, party_at}
use Rattle.model.specs.Book.{Book, Entered}
unfoldable pub use Rattle.model.specs.Consistency.{restructures}
use Rattle.model.specs.Steps.Rebuild.{changed, change_of, owed_by}
use Rattle.model.specs.Steps.Write.{is_change}
use Rattle.model.specs.Steps.MergeLocks.{target_of, merge_stops}
use Rattle.model.specs.Steps.Dispatch.{has_step}
use Rattle.model.proofs.Invariant.Ghost.{Owner, Named, free, in_chain, old_of, partner_of, built_by, new_by, count, Extent, extent, root_extent, size, advance, local_level, Ghost, Owned}
use Rattle.model.proofs.Laws.WaitingRow.{RowOk}
use Rattle.model.proofs.Laws.Structure.{Linked, FreePages, Overflow, ChainIs}
use Rattle.model.proofs.Invariant.Claims.{LocksOk, claimed}

-- ---- Sizes

-- The sizes of a root record within their limits.
pub record Limits (r : Root) : Type 0 where
  pub some_original : 1 ≤ r.originals
  pub originals_fit : r.originals ≤ r.primaries
  pub chains_fit_ok : r.primaries ≤ 256
  pub overflow_fits : r.overflow ≤ 752
  pub some_key : 1 ≤ r.capacity
  pub keys_fit : r.capacity ≤ most_records
  pub some_party : 1 ≤ r.parties
  pub parties_fit_lem : r.parties ≤ 16

-- ---- How far the file extends

-- The live extent while party p restructures: the root's, but for the steps between a change of the chains and the change of the root.
unfoldable pub live_for : Root → Party → Extent
live_for r p =
    let e = root_extent r in
    let further = advance r.originals e in
    let raised = cond (eqb r.next 0) (extent (r.level + 1) 0) e in
    cond (within 19 20 p.step || eqb p.step 28) further (cond (eqb p.step 21) raised e)

-- What a party at 4 or 5 counts on: the live extent, but the root's own while the restructurer is at 28.
unfoldable pub low_for : Root → Party → Extent
low_for r p = cond (eqb p.step 28) (root_extent r) (live_for r p)

-- How far the live file extends goes by the root and by the one party that restructures.
pub record ExtentsOk (r : Root) (ps : List Party) (g : Ghost) : Type 0 where
  -- Where party q restructures, both extents go by its step number.
  pub live-by : (q : ℕ) → restructures (party_at ps q) ≡ true → g.live ≡ live_for r (party_at ps q)
  pub low_by : (q : ℕ) → restructures (party_at ps q) ≡ true → g.low ≡ low_for r (party_at ps q)
  -- Where nobody restructures, both are the root's.
  pub at_rest_lem : ((q : ℕ) → restructures (party_at ps q) ≡ false) → (g.live ≡ root_extent r) × (g.low ≡ root_extent r)
  -- The live extent is one that a root record can have.
  pub live_next : g.live.next < span r.originals g.live.level
  pub live_fits : size r.originals g.live ≤ r.primaries
  -- So is the root's.
  pub root_next : r.next < span r.originals r.level
  pub root_fits : size r.originals (root_extent r) ≤ r.primaries

-- ---- Pages

-- Whether party p's record says that the primary page of chain c, outside the live file, is in use: a split's new chain at 18, a merge's partner at 29.
unfoldable pub uses : Party → ℕ → Bool
uses p c = (eqb p.step 18 || eqb p.step 29) && eqb p.other c

-- Who owns each page, and what each page holds, word for word.
pub record PagesOk (r : Root) (ps : List Party) (m : List ℕ) (g : Ghost) : Type 0 where
  -- Each overflow page is once in its owner's list.
  pub owned : Owned r.primaries r.overflow g.own g.held
  -- Every owner is one of the seven kinds.
  pub kinds : (x : ℕ) → Named (g.own x)
  -- A chain outside the live file has no overflow pages.
  pub beyond : (c : ℕ) → size r.originals g.live ≤ c → g.held (in_chain c) ≡ []
  -- The root record's head and count, and the free pages themselves, are those of the free list.
  pub head_is : r.head ≡ link_to_first (g.held free)
  pub free_count : r.free ≡ length (g.held free)
  pub free_pages_ok : FreePages m (g.held free)
  -- Each live chain's pages hold its records at its local level.
  pub chain : (c : ℕ) → c < size r.originals g.live → ChainIs r.capacity m c (local_level r.originals g.live c) (g.records c) (g.held (in_chain c))
  -- Its keys ascend.
  pub ascends : (c : ℕ) → c < size r.originals g.live → ascending (g.records c) ≡ true
  -- Each of its keys is hashed to it by its local level.
  pub homed : (c : ℕ) → c < size r.originals g.live → (k : ℕ) → has_key k (g.records c) ≡ true → hash r.originals (local_level r.originals g.live c) k ≡ c
  -- A primary page outside the live file that nobody uses is zero.
  pub dead : (c : ℕ) → size r.originals g.live ≤ c → c < r.primaries → ((q : ℕ) → uses (party_at ps q) c ≡ false) → page_of m (primary_page c) ≡ zero_page

-- ---- The book's map

pub record BookOk (r : Root) (g : Ghost) (b : Book) : Type 0 where
  -- Its keys strictly ascend.
  pub ascends : ascending b.contents ≡ true
  -- The book has of a key what its live home chain has.
  pub same : (k : ℕ) → setting_in k b.contents ≡ setting_in k (g.records (address_of r.originals g.live.level g.live.next k))

-- ---- The facts of a party

-- What the facts of a party speak of.
pub record Scene : Type 0 where
  pub root : Root
  pub parties : List Party
  pub pages : List ℕ
  pub ghost : Ghost
  pub entries : ℕ → Option Entered

abbrev pub scratch_in : Scene → ℕ → List ℕ
scratch_in s q = page_of s.pages (scratch_page s.root q)

abbrev pub held_in : Scene → Owner → List ℕ
held_in s o = s.ghost.held o

-- No pages built, and none of a split's new chain.
pub record NothingBuilt (s : Scene) (q : ℕ) : Type 0 where
  pub no_built : held_in s (built_by q) ≡ []
  pub no_new : held_in s (new_by q) ≡ []

-- No pages to give back: none behind the old link, none of a partner.
pub record NothingOld (s : Scene) (q : ℕ) : Type 0 where
  pub no_old : held_in s (old_of q) ≡ []
  pub no_partner : held_in s (partner_of q) ≡ []

-- The party has no overflow page in hand.
pub record NoPages (s : Scene) (q : ℕ) : Type 0 where
  pub nothing_built : NothingBuilt s q
  pub nothing_old : NothingOld s q

-- 1 to 8 and 10: nothing is owed yet.
pub record Early (s : Scene) (q : ℕ) (p : Party) : Type 0 where
  pub nothing_owed : p.owed ≡ 0
  pub no_pages : NoPages s q

-- Chain c is where h_lev leads key k, and lev has not passed its local level.
pub record Heads (n : ℕ) (e : Extent) (c lev k : ℕ) : Type 0 where
  pub inside : c < size n e
  pub there : hash n lev k ≡ c
  pub reach : lev ≤ local_level n e c

-- 7: the party leaves other chain for the chain that the next hash function names.
pub record Chasing (n : ℕ) (e : Extent) (p : Party) : Type 0 where
  pub inside : p.other < size n e
  pub before : ℕ
  pub lev_is : p.lev ≡ suc before
  pub from : hash n before p.key ≡ p.other
  pub reach : p.lev ≤ local_level n e p.other
  pub there : hash n p.lev p.key ≡ p.chain
  pub apart : p.chain ≢ p.other

-- A page that a reader of chain c may walk: a page of the chain, or one that a party has yet to give back for it.
pub data Protected (s : Scene) (c x : ℕ) : Type 0 where
  in_chain_ok : s.ghost.own x ≡ in_chain c → Protected s c x
  in_old : (q : ℕ) → s.ghost.own x ≡ old_of q → (party_at s.parties q).chain ≡ c → Protected s c x

-- 9: what is left to walk, all of it protected, and the note says whether the key is there.
pub record Walking (s : Scene) (q : ℕ) (p : Party) (e : Entered) : Type 0 where
  pub rest : List ℕ
  pub sound : page_sound s.root (scratch_in s q) ≡ true
  pub link : link_of (scratch_in s q) ≡ link_to_first rest
  pub linked : Linked s.root s.pages rest
  pub once : (x : ℕ) → count x rest ≤ 1
  pub protected : (x : ℕ) → is_among x rest ≡ true → Protected s p.chain x
  pub note_is : e.note ≡ some (found_or_absent (setting_in p.key (entries_of (scratch_in s q) ++ entries_on s.pages rest)))
  pub no_pages : NoPages s q

-- 10 and 11: the chain is the key's home.
pub record AtHome (s : Scene) (p : Party) : Type 0 where
  pub heads : Heads s.root.originals s.ghost.live p.chain p.lev p.key
  pub exact : p.lev ≡ local_level s.root.originals s.ghost.live p.chain

-- Scratch and the pages it leads to hold the records es at this level.
pub record Building (s : Scene) (q level : ℕ) (es : List Entry) : Type 0 where
  pub scratch_is : scratch_in s q ≡ primary_of s.root.capacity level es (held_in s (built_by q))
  pub built : Overflow s.root.capacity s.pages (held_in s (built_by q)) (drop s.root.capacity es)

-- The old link is the chain's present link.
abbrev pub KeepsLink : Scene → Party → Type 0
KeepsLink s p = p.old ≡ link_to_first (held_in s (in_chain p.chain))

-- 11: the changed chain is built beside the file.
pub record Rebuilt (s : Scene) (q : ℕ) (p : Party) : Type 0 where
  pub at_home : AtHome s p
  pub after : List Entry
  pub change : change_of p.operation p.key p.setting (s.ghost.records p.chain) ≡ changed p.answer after
  pub building : Building s q (local_level s.root.originals s.ghost.live p.chain) after
  pub keeps_link : KeepsLink s p
  pub owed_is : p.owed ≡ owed_by p.operation (length (held_in s (in_chain p.chain))) (length (held_in s (built_by q))) after
  pub no_new : held_in s (new_by q) ≡ []
  pub nothing_old : NothingOld s q

-- The pages that the old link leads to, yet to be given back.
pub record Trash (s : Scene) (q : ℕ) (p : Party) : Type 0 where
  pub link : p.old ≡ link_to_first (held_in s (old_of q))
  pub linked : Linked s.root s.pages (held_in s (old_of q))

-- The answer is the note.
abbrev pub Noted : Party → Entered → Type 0
Noted p e = e.note ≡ some (answer_of p.answer)

-- The answer is that of the operation's change: inserted or deleted.
abbrev pub Made : Party → Type 0
Made p = p.answer ≡ cond (eqb p.operation 2) 1 3

-- What may be owed from 12 to 14.
unfoldable pub owed_fits : ℕ → ℕ → Bool
owed_fits operation owed = eqb owed 0 || (eqb operation 2 && (eqb owed 1 || eqb owed 3)) || (eqb operation 3 && eqb owed 2)

-- From 12 on, where a change was made: its answer is noted, and old pages may be left.
pub record Leaving (s : Scene) (q : ℕ) (p : Party) (e : Entered) : Type 0 where
  pub noted : Noted p e
  pub made : Made p
  pub trash : Trash s q p
  pub no_partner : held_in s (partner_of q) ≡ []
  pub nothing_built : NothingBuilt s q

-- 12: nothing changed, or a change made.
pub data Written (s : Scene) (q : ℕ) (p : Party) (e : Entered) : Type 0 where
  unchanged : Noted p e → is_change p.answer ≡ false → p.owed ≡ 0 → NoPages s q → Written s q p e
  made_change : Leaving s q p e → owed_fits p.operation p.owed ≡ true → Written s q p e

-- 13 and 14: there are old pages.
pub record Returning (s : Scene) (q : ℕ) (p : Party) (e : Entered) : Type 0 where
  pub leaving : Leaving s q p e
  pub some_old : p.old ≢ 0
  pub owed_fits_ok : owed_fits p.operation p.owed ≡ true

-- 15, 16, 23, 24 and 30: the answer is noted, no pages.
pub record Settled (s : Scene) (q : ℕ) (p : Party) (e : Entered) : Type 0 where
  pub noted : Noted p e
  pub made : Made p
  pub no_pages : NoPages s q

-- 17: the chain that splits, and the new one.
pub record SplitChains (s : Scene) (p : Party) : Type 0 where
  pub old_chain : p.chain ≡ s.root.next
  pub new_chain : p.other ≡ count_of_chains s.root
  pub room : count_of_chains s.root < s.root.primaries

-- 17: both locks are held, nothing is built.
pub record Dividing (s : Scene) (q : ℕ) (p : Party) (e : Entered) : Type 0 where
  pub settled : Settled s q p e
  pub chains : SplitChains s p

-- 18: both halves are built.
pub record Divided (s : Scene) (q : ℕ) (p : Party) (e : Entered) : Type 0 where
  pub noted : Noted p e
  pub made : Made p
  pub chains : SplitChains s p
  pub stay : Building s q (s.root.level + 1) (staying s.root.originals (s.root.level + 1) p.chain (s.ghost.records p.chain))
  pub go : ChainIs s.root.capacity s.pages p.other (s.root.level + 1)
      (going s.root.originals (s.root.level + 1) p.chain (s.ghost.records p.chain)) (held_in s (new_by q))
  pub keeps_link : KeepsLink s p
  pub nothing_old : NothingOld s q

-- 25 and 26: target and partner.
pub record MergeChains (s : Scene) (p : Party) : Type 0 where
  pub target : p.chain ≡ target_of s.root
  pub partner : p.other ≡ merge_partner s.root.originals s.root.level s.root.next
  pub goes_on : merge_stops s.root ≡ false

-- 25 and 26: the chains are fixed, nothing is built.
pub record Joining (s : Scene) (q : ℕ) (p : Party) (e : Entered) : Type 0 where
  pub settled : Settled s q p e
  pub chains : MergeChains s p

-- 27 and 28: the joined chain is built, in scratch alone: it has no overflow pages.
pub record Joined (s : Scene) (q : ℕ) (p : Party) (e : Entered) : Type 0 where
  pub noted : Noted p e
  pub made : Made p
  pub joins : Building s q (local_level s.root.originals s.ghost.live p.chain) (joined (s.ghost.records p.chain) (s.ghost.records p.other))
  pub keeps_link : KeepsLink s p
  pub no_pages : NoPages s q

-- 28 to 30: the root has moved back to the target; the partner is the chain behind the last.
pub record MovedBack (s : Scene) (p : Party) : Type 0 where
  pub target : p.chain ≡ s.root.next
  pub partner : p.other ≡ count_of_chains s.root
  pub room : count_of_chains s.root < s.root.primaries

-- 29 and 30: the target has no overflow page.
abbrev pub OnePage : Scene → Party → Type 0
OnePage s p = held_in s (in_chain p.chain) ≡ []

-- 29: neither target nor partner had an overflow page; the partner's primary page is yet to be zeroed.
pub record Emptying (s : Scene) (q : ℕ) (p : Party) (e : Entered) : Type 0 where
  pub settled : Settled s q p e
  pub one_page : OnePage s p
  pub no_old_link : p.old ≡ 0
  pub partner_sound : page_sound s.root (page_of s.pages (primary_page p.other)) ≡ true
  pub partner_link : link_of (page_of s.pages (primary_page p.other)) ≡ 0

-- ---- The facts by step number

abbrev pub Facts : Type 1
Facts = Scene → ℕ → Party → Entered → Type 0

abbrev pub facts_none : Facts
facts_none s q p e = ⊥

abbrev pub facts_early : Facts
facts_early s q p e = Early s q p

abbrev pub facts_level_read : Facts
facts_level_read s q p e = Early s q p × (p.lev ≤ s.root.level)

abbrev pub facts_located : Facts
facts_located s q p e = Early s q p × Heads s.root.originals s.ghost.low p.chain p.lev p.key

abbrev pub facts_locked : Facts
facts_locked s q p e = Early s q p × Heads s.root.originals s.ghost.live p.chain p.lev p.key

abbrev pub facts_chasing : Facts
facts_chasing s q p e = Early s q p × Chasing s.root.originals s.ghost.live p

abbrev pub facts_coupled : Facts
facts_coupled s q p e = Early s q p × Heads s.root.originals s.ghost.live p.chain p.lev p.key × (p.chain ≢ p.other)

abbrev pub facts_home : Facts
facts_home s q p e = Early s q p × AtHome s p

abbrev pub facts_rebuilt : Facts
facts_rebuilt s q p e = Rebuilt s q p

abbrev pub facts_joined : Facts
facts_joined s q p e = Joined s q p e × MergeChains s p

abbrev pub facts_moved_back : Facts
facts_moved_back s q p e = Joined s q p e × MovedBack s p

abbrev pub facts_emptying : Facts
facts_emptying s q p e = Emptying s q p e × MovedBack s p

abbrev pub facts_merged : Facts
facts_merged s q p e = Settled s q p e × MovedBack s p × OnePage s p

-- From 0: 1, 2; 3; 4, 5; 6; 7; 8; 9; 10; 11; 12; 13, 14; 15, 16; 17; 18; 19 to 22; 23, 24; 25, 26; 27; 28; 29; 30.
abbrev pub fact_table : List Facts
fact_table =
    facts_none ∷ facts_early ∷ facts_early ∷ facts_level_read ∷ facts_located ∷ facts_located ∷ facts_locked ∷ facts_chasing ∷ facts_coupled ∷ Walking
    ∷ facts_home ∷ facts_rebuilt ∷ Written ∷ Returning ∷ Returning ∷ Settled ∷ Settled ∷ Dividing ∷ Divided ∷ Leaving
    ∷ Leaving ∷ Leaving ∷ Leaving ∷ Settled ∷ Settled ∷ Joining ∷ Joining ∷ facts_joined ∷ facts_moved_back ∷ facts_emptying ∷ facts_merged ∷ []

abbrev pub facts_at : ℕ → Facts
facts_at k = get_or fact_table k facts_none

-- ---- A party

-- A party under way: its entry in the book, and the bounds that no step tests in vain.
pub record Busy (s : Scene) (q : ℕ) (p : Party) (e : Entered) : Type 0 where
  pub entry : s.entries q ≡ some e
  pub same_operation : operation_number e.operation ≡ p.operation
  pub same_setting : setting_given e.operation ≡ p.setting
  pub same_key : e.key ≡ p.key
  pub step_fits : has_step p.operation p.step ≡ true
  pub lev_fits : p.lev ≤ 9
  pub owed_fits_ok : p.owed ≤ 3
  pub answer_fits : p.answer ≤ 5
  pub answer_set : 12 ≤ p.step → p.answer ≢ 0
  pub chain_fits : p.chain < s.root.primaries
  pub other_fits : p.other < s.root.primaries

-- A party rests, with nothing in hand and no entry in the book, or works, with the facts of its step number.
pub data PartyOk (s : Scene) (q : ℕ) (p : Party) : Type 0 where
  resting : p ≡ idle → s.entries q ≡ none → NoPages s q → scratch_in s q ≡ zero_page → PartyOk s q p
  working : (e : Entered) → Busy s q p e → facts_at p.step s q p e → PartyOk s q p

-- ---- The whole

abbrev pub scene_of : Memory → Ghost → Book → Scene
scene_of m g b = record { root = m.root; parties = m.parties; pages = m.pages; ghost = g; entries = b.entries }

-- The invariant of a memory with the book beside it.
pub record Inv (m : Memory) (b : Book) : Type 0 where
  -- What only the proof knows.
  pub ghost : Ghost
  -- The sizes are within their limits.
  pub limits : Limits m.root
  -- The lent rows have the lengths that the sizes ask for (the lock words': locks_ok).
  pub parties_many : length m.parties ≡ m.root.parties
  pub pages_many : length m.pages ≡ all_page_words m.root
  -- The live file extends as root and restructurer say.
  pub extents_ok : ExtentsOk m.root m.parties ghost
  -- Each lock word says exactly which parties hold it, by their records.
  pub locks_ok : LocksOk (lock_words m.root) m.locks (claimed m.root m.parties)
  -- Every page is owned and filled as the ghost says.
  pub pages_ok : PagesOk m.root m.parties m.pages ghost
  -- The book's map is the records of the live chains.
  pub book_ok : BookOk m.root ghost b
  -- Each party of the row rests or works as its step number says.
  pub parties_ok : (q : ℕ) → q < m.root.parties → PartyOk (scene_of m ghost b) q (party_at m.parties q)
  -- The waiting row is as long as the row of records, has nobody twice, and each of it requests a lock.
  pub row_ok : RowOk m.root m.parties m.waiting
  -- A number past the row has no entry and no pages.
  pub strangers : (q : ℕ) → m.root.parties ≤ q → (b.entries q ≡ none) × NoPages (scene_of m ghost b) q
