-- The file that a memory holds under the invariant: the live chains' records are the yardstick's file.
-- Main statements: live_file; live_holding (it holds exactly the book's map); file_read (it is the file read, where the live file extends as the root says);
-- Whole (every overflow page is free or counted by the file); use_set, use_append, use_front (the pages counted, as chains change); live_pages.
use mathlib.Core.Path.{◌≡◌, refl, sym, ap, ◌∙◌}
use mathlib.Core.Bool.{Bool, true, false, cond}
use mathlib.Core.List.{List, [], ◌∷◌, ◌++◌}
use mathlib.Core.Option.{none}
use Prim.Native.Nat.{ℕ, zero, suc, ◌+◌, ◌≤◌, ◌<◌}
use native.Mathlib.Omega.{arith}
use lib.ListN.{length, get_or, set, take, get_or-eq_default}
use lib.Dec.{eqb}
use Rattle.model.specs.Addresses.{span, chain_count}
use Rattle.model.specs.declared.Entry.{Entry}
use Rattle.model.specs.Entries.{has_key, ascending, setting_in}
use Rattle.model.specs.Chains.{records_read, chains_from}
use Rattle.model.specs.Filling.{pages_for}
use Rattle.model.specs.Memory.{Memory}
use Rattle.model.specs.Book.{Book}
use Rattle.theory.specs.Sequential.{File, chains_at, records_at, file_of}
use Rattle.theory.proofs.Singly.StepWords.{pages_in_use}
use Rattle.model.proofs.Laws.Lists.{Told, holds, fails, tell, Cmp, same, diff, cmp, Ord, lt, ge, ord, eqb_same, eqb-diff}
use Rattle.model.proofs.Invariant.Ghost.{in_chain, Extent, root_extent, size, local_level, Ghost}
use Rattle.model.proofs.Laws.Addresses.{address_lt}
use Rattle.model.proofs.Laws.Together.{listed, length-listed, listed_at}
use Rattle.model.proofs.Invariant.Extents.{home_is}
use Rattle.model.proofs.Laws.Reading.{overflow_length}
use Rattle.model.proofs.Invariant.Statement.{Inv}
use Rattle.model.proofs.Effects.BuiltChain.{chain_found}
use Rattle.model.proofs.Laws.Entries.{setting_absent}
use Rattle.theory.proofs.Singly.Files.{home, Holding}

-- ---- The live file

unfoldable pub live_file : ℕ → Ghost → File
live_file n g = record { level = g.live.level; next = g.live.next; chains = listed g.records (size n g.live) 0 }

module _ (m : Memory) (b : Book) (i : Inv m b) where
  abbrev n : ℕ
  n = m.root.originals

  abbrev e : Extent
  e = i.ghost.live

  pub live_records : (c : ℕ) → c < size m.root.originals i.ghost.live → records_at (live_file m.root.originals i.ghost) c ≡ i.ghost.records c
  unfolding records_at live_file
  live_records c l = listed_at i.ghost.records (size n e) 0 c l ∙ ap i.ghost.records (omega arith)

  beyond_live : (c : ℕ) → size n e ≤ c → records_at (live_file n i.ghost) c ≡ []
  unfolding records_at live_file
  beyond_live c l = get_or-eq_default (listed i.ghost.records (size n e) 0) [] (omega (arith, length-listed i.ghost.records (size n e) 0))

  -- A key on a live chain is at home there.
  has_home : (c k : ℕ) → c < size n e → has_key k (i.ghost.records c) ≡ true → home n e k ≡ c
  has_home c k l h =
      home_is n e c (local_level n e c) k i.limits.some_original (omega (arith, i.extents_ok.live_next))
      (record { inside = l; there = i.pages_ok.homed c l k h; reach = omega arith }) refl

  settings_live : (c k : ℕ) → c < size n e → Cmp (home n e k) c → setting_in k (i.ghost.records c) ≡ cond (eqb (home n e k) c) (setting_in k b.contents) none
  settings_live c k l (same x) = rw (eqb_same (home n e k) c x) (ap (λ (d : ℕ). setting_in k (i.ghost.records d)) (sym x) ∙ sym (i.book_ok.same k))
  settings_live c k l (diff x) = rw (eqb-diff (home n e k) c x) (setting_absent k (i.ghost.records c) (go (tell (has_key k (i.ghost.records c)))))
    where
      go : Told (has_key k (i.ghost.records c)) → has_key k (i.ghost.records c) ≡ false
      go (holds h) = absurd (x (has_home c k l h))
      go (fails h) = h

  settings_at : (c k : ℕ) → Ord c (size n e) → setting_in k (records_at (live_file n i.ghost) c) ≡ cond (eqb (home n e k) c) (setting_in k b.contents) none
  unfolding setting_in size
  settings_at c k (lt l _) = ap (setting_in k) (live_records c l) ∙ settings_live c k l (cmp (home n e k) c)
  settings_at c k (ge l _) =
      ap (setting_in k) (beyond_live c l)
      ∙ sym (ap (λ (t : Bool). cond t (setting_in k b.contents) none) (eqb-diff (home n e k) c (omega (arith, address_lt n e.level e.next k i.limits.some_original))))

  ascends_at : (c : ℕ) → Ord c (size n e) → ascending (records_at (live_file n i.ghost) c) ≡ true
  unfolding ascending
  ascends_at c (lt l _) = rw (live_records c l) (i.pages_ok.ascends c l)
  ascends_at c (ge l _) = rw (beyond_live c l) refl

  -- It holds exactly the book's map.
  pub live_holding : Holding m.root.originals (live_file m.root.originals i.ghost) b.contents
  unfolding live_file
  live_holding = record {
    as_many = length-listed i.ghost.records (size n e) 0;
    next_fits = i.extents_ok.live_next;
    ascends = λ c. ascends_at c (ord c (size n e));
    map_ascends = i.book_ok.ascends;
    settings = λ c k. settings_at c k (ord c (size n e));
  }

  -- ---- The file read

  pub chains_read : (x c : ℕ) → c + x ≡ size m.root.originals i.ghost.live → chains_from m.root m.pages x c ≡ listed i.ghost.records x c
  unfolding chains_from listed records_read
  chains_read zero c s = refl
  chains_read (suc x) c s = rw (chain_found m b i c (omega arith), chains_read x (c + 1) (omega arith)) refl

  pub file_read : i.ghost.live ≡ root_extent m.root → file_of m.root m ≡ live_file m.root.originals i.ghost
  unfolding file_of live_file chains_at chain_count span
  file_read s =
      let r = m.root in
      let many : chain_count n r.level r.next ≡ size n e = unfold size in (ap (λ (x : Extent). chain_count n x.level x.next) (sym s)) in
      let lists = ap (λ (x : ℕ). chains_from r m.pages x 0) many ∙ chains_read (size n e) 0 (omega arith) in
      λ j. record { level = ap (λ (x : Extent). x.level) (sym s) j; next = ap (λ (x : Extent). x.next) (sym s) j; chains = lists j }

-- ---- Pages in use

-- Every overflow page is free or counted by the file: what the yardstick takes for granted.
pub record Whole (m : Memory) : Type 0 where
  pub all_pages : m.root.free + pages_in_use m.root.capacity (file_of m.root m).chains ≡ m.root.overflow

-- One chain's records replaced: its pages are counted anew.
pub use_set : (k : ℕ) (l : List (List Entry)) (c : ℕ) (es : List Entry) → c < length l
    → pages_in_use k (set l c es) + pages_for k (get_or l c []) ≡ pages_in_use k l + pages_for k es
unfolding pages_in_use
use_set k [] c es h = absurd (omega arith)
use_set k (x ∷ l) zero es h = omega arith
use_set k (x ∷ l) (suc c) es h = omega (arith, use_set k l c es (omega arith))

pub use_append : (k : ℕ) (l t : List (List Entry)) → pages_in_use k (l ++ t) ≡ pages_in_use k l + pages_in_use k t
unfolding pages_in_use
use_append k [] t = omega arith
use_append k (x ∷ l) t = omega (arith, use_append k l t)

-- The last chain left out.
pub use_front : (k : ℕ) (l : List (List Entry)) (c : ℕ) → length l ≡ suc c → pages_in_use k (take c l) + pages_for k (get_or l c []) ≡ pages_in_use k l
unfolding pages_in_use
use_front k [] c h = absurd (omega arith)
use_front k (x ∷ []) zero h = omega arith
use_front k (x ∷ (y ∷ l)) zero h = absurd (omega arith)
use_front k (x ∷ l) (suc c) h = omega (arith, use_front k l c (omega arith))

-- A live chain has as many overflow pages as its records need.
pub live_pages : (m : Memory) (b : Book) (i : Inv m b) (c : ℕ) → c < size m.root.originals i.ghost.live
    → length (i.ghost.held (in_chain c)) ≡ pages_for m.root.capacity (i.ghost.records c)
live_pages m b i c l = overflow_length m.root.capacity m.pages (i.ghost.held (in_chain c)) (i.ghost.records c) i.limits.some_key (i.pages_ok.chain c l).overflow
