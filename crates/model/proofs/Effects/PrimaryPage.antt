-- A step that writes the primary page of a chain that the party holds selectively or exclusively: what else stays.
-- Main statements: held_alone (nobody else holds the chain but to read it), held_exclusively (nobody else holds it); primary_off, primary_same, primary_long, owned_apart
-- (the pages afterwards); written_here, written_beside (the chains), old_linked (the pages that a chain leaves), free_beside; built_sound, built_level (scratch, where a chain is built);
-- read_beside (what a reader may walk).
use mathlib.Core.Path.{◌≡◌, refl, sym, ap, ◌∙◌, subst}
use mathlib.Core.Logic.{◌≢◌}
use mathlib.Core.Bool.{Bool, true, false, false≢true}
use mathlib.Core.List.{List}
use Prim.Native.Nat.{ℕ, ◌≤◌, ◌<◌}
use native.Mathlib.Omega.{arith}
use lib.ListN.{length, drop}
use lib.Dec.{eqb}
use Rattle.model.specs.declared.Mode.{Mode}
use Rattle.model.specs.declared.Mode.TheVariants.{Read, Selective, Exclusive}
use Rattle.model.specs.Sizes.{page_words}
use Rattle.model.specs.LockWords.{chain_word}
use Rattle.model.specs.declared.Entry.{Entry}
use Rattle.model.specs.Pages.{page_of, with_page, level_of, page_sound, scratch_page, primary_page, most_level}
use Rattle.model.specs.Filling.{primary_of}
use Rattle.model.specs.Memory.{Memory, party_at}
use Rattle.model.specs.Book.{Book}
use Rattle.model.specs.Holds.{same_mode}
use Rattle.model.proofs.Laws.Lists.{Cmp, same, diff, cmp}
use Rattle.model.proofs.Invariant.Ghost.{Owner, nobody, free, in_chain, old_of, built_by, size, same_owner}
use Rattle.model.proofs.Invariant.Owners.{kinds_apart, indices_apart, overflow_bounds, same_from}
use Rattle.model.proofs.Laws.Pages.{Has, length_page_of, length-with_page, page_same, page_other}
use Rattle.model.proofs.Laws.Structure.{Linked, FreePages, Overflow, ChainIs, SameOn, free_frame, overflow_frame, chain_frame}
use Rattle.model.proofs.Laws.Filling.{overflow_linked, chain_level, chain_sound}
use Rattle.model.proofs.Laws.Reading.{held_overflow}
use Rattle.model.proofs.Invariant.Claims.{claimed, WordOk}
use Rattle.model.proofs.Invariant.LockMoves.{exclusive_alone, selective_one}
use Rattle.model.proofs.Invariant.Statement.{Scene, Protected, in_chain_ok, in_old, Building, scene_of, Inv}

-- ---- The lock

-- Of a word, no two parties hold a lock other than to read.
alone : {w : ℕ} {h : ℕ → Mode → Bool} (ok : WordOk w h) (q j : ℕ) → j ≢ q → (a o : Mode) → same_mode a Read ≡ false → same_mode o Read ≡ false → h q a ≡ true → h j o ≡ true → ⊥
unfolding same_mode
alone ok q j n Read o r s x y = false≢true (sym r)
alone ok q j n Selective Read r s x y = false≢true (sym s)
alone ok q j n Selective Selective r s x y = n (selective_one ok q j x y)
alone ok q j n Selective Exclusive r s x y = n (sym (exclusive_alone ok j q Selective y x).0)
alone ok q j n Exclusive o r s x y = n (exclusive_alone ok q j o x y).0

-- A chain that party q holds selectively or exclusively is none that another party does.
pub held_alone : (m : Memory) (b : Book) (i : Inv m b) (q c : ℕ) (a : Mode) → c < m.root.primaries → same_mode a Read ≡ false → claimed m.root m.parties (chain_word c) q a ≡ true
    → (j : ℕ) → j ≢ q → (d : ℕ) (o : Mode) → claimed m.root m.parties (chain_word d) j o ≡ true → same_mode o Read ≡ false → d ≢ c
held_alone m b i q c a fits r x j n d o y s e =
    alone (i.locks_ok.each (chain_word c) (omega arith)) q j n a o r s x (subst (λ (k : ℕ). claimed m.root m.parties (chain_word k) j o ≡ true) e y)

-- A chain that party q holds exclusively is none that another party holds.
pub held_exclusively : (m : Memory) (b : Book) (i : Inv m b) (q c : ℕ) → c < m.root.primaries → claimed m.root m.parties (chain_word c) q Exclusive ≡ true
    → (j : ℕ) → j ≢ q → (d : ℕ) (o : Mode) → claimed m.root m.parties (chain_word d) j o ≡ true → d ≢ c
held_exclusively m b i q c fits x j n d o y e =
    n (exclusive_alone (i.locks_ok.each (chain_word c) (omega arith)) q j o x (subst (λ (k : ℕ). claimed m.root m.parties (chain_word k) j o ≡ true) e y)).0

-- ---- The pages

-- A scratch page is a whole page.
pub length_scratch : (m : Memory) (b : Book) → Inv m b → (q : ℕ) → q < m.root.parties → length (page_of m.pages (scratch_page m.root q)) ≡ page_words
length_scratch m b i q in_row = length_page_of (record { fits = omega (arith, i.pages_many) })

-- A chain built beside the file is one whose primary page is scratch: that page is sound, and has the chain's level.
module _ (m : Memory) (b : Book) (i : Inv m b) (q level : ℕ) (es : List Entry) (f : Building (scene_of m i.ghost b) q level es) where
  built_chain : ChainIs m.root.capacity m.pages (scratch_page m.root q) level es (i.ghost.held (built_by q))
  built_chain = record { primary = f.scratch_is; overflow = f.built }

  pub built_sound : level ≤ most_level → page_sound m.root (page_of m.pages (scratch_page m.root q)) ≡ true
  built_sound = chain_sound m.root m.pages (scratch_page m.root q) level es (i.ghost.held (built_by q)) built_chain (held_overflow m.root i.pages_ok.owned (built_by q))

  pub built_level : level_of (page_of m.pages (scratch_page m.root q)) ≡ level
  built_level = chain_level m.root.capacity m.pages (scratch_page m.root q) level es (i.ghost.held (built_by q)) built_chain

module _ (m : Memory) (b : Book) (i : Inv m b) (c : ℕ) (fits : c < m.root.primaries) (w : List ℕ) (whole : length w ≡ page_words) where
  abbrev then_pages : List ℕ
  then_pages = with_page m.pages (primary_page c) w

  has_primary : Has m.pages c
  has_primary = record { fits = omega (arith, i.pages_many) }

  pub primary_is : page_of (with_page m.pages (primary_page c) w) c ≡ w
  primary_is = page_same m.pages c w has_primary whole

  pub primary_off : (x : ℕ) → x ≢ c → page_of (with_page m.pages (primary_page c) w) x ≡ page_of m.pages x
  primary_off x n = page_other m.pages c w has_primary whole x n

  pub primary_long : length (with_page m.pages (primary_page c) w) ≡ length m.pages
  primary_long = length-with_page m.pages c w has_primary whole

  -- No overflow page is written.
  pub owned_apart : (x : ℕ) (o : Owner) → i.ghost.own x ≡ o → eqb o.kind 0 ≡ false → x ≢ c
  owned_apart x o e n h = let z = i.pages_ok.owned.inside x (rw e (kinds_apart o nobody n)) in omega arith

  pub primary_same : (o : Owner) → SameOn m.pages (with_page m.pages (primary_page c) w) (i.ghost.held o)
  primary_same o = same_from m.pages then_pages (i.ghost.held o) (λ x h. primary_off x (λ e. let z = overflow_bounds i.pages_ok.owned o x h in omega arith))

  -- The chain, from the pages that a party built; every other chain as before.
  pub written_here : (level : ℕ) (es : List Entry) (o : Owner) → w ≡ primary_of m.root.capacity level es (i.ghost.held o)
      → Overflow m.root.capacity m.pages (i.ghost.held o) (drop m.root.capacity es) → ChainIs m.root.capacity (with_page m.pages (primary_page c) w) c level es (i.ghost.held o)
  written_here level es o e f = record {
    primary = primary_is ∙ e;
    overflow = overflow_frame m.root.capacity m.pages then_pages (i.ghost.held o) (drop m.root.capacity es) (primary_same o) f;
  }

  pub written_beside : (d level : ℕ) (es : List Entry) (o : Owner) → d ≢ c → ChainIs m.root.capacity m.pages d level es (i.ghost.held o)
      → ChainIs m.root.capacity (with_page m.pages (primary_page c) w) d level es (i.ghost.held o)
  written_beside d level es o n f = chain_frame m.root.capacity m.pages then_pages d level es (i.ghost.held o) (primary_off d n) (primary_same o) f

  -- The overflow pages that the chain had are linked as before, whoever has them then.
  pub old_linked : c < size m.root.originals i.ghost.live → Linked m.root (with_page m.pages (primary_page c) w) (i.ghost.held (in_chain c))
  old_linked live =
      overflow_linked m.root then_pages (i.ghost.held (in_chain c)) (drop m.root.capacity (i.ghost.records c)) (held_overflow m.root i.pages_ok.owned (in_chain c))
      (overflow_frame m.root.capacity m.pages then_pages (i.ghost.held (in_chain c)) (drop m.root.capacity (i.ghost.records c)) (primary_same (in_chain c)) (i.pages_ok.chain c live).overflow)

  pub free_beside : FreePages (with_page m.pages (primary_page c) w) (i.ghost.held free)
  free_beside = free_frame m.pages then_pages (i.ghost.held free) (primary_same free) i.pages_ok.free_pages_ok

  -- A page that a reader may walk stays, and stays protected where the chain's pages are now party q's to give back.
  module _ (t : Scene) (pages= : t.pages ≡ with_page m.pages (primary_page c) w) (q : ℕ) (mine : (party_at m.parties q).chain ≡ c)
      (old : (x : ℕ) → i.ghost.own x ≡ in_chain c → t.ghost.own x ≡ old_of q)
      (other : (x : ℕ) (o : Owner) → o.kind ≤ 3 → same_owner o (in_chain c) ≡ false → i.ghost.own x ≡ o → t.ghost.own x ≡ o)
      (chain_of_ok : (j : ℕ) → (party_at t.parties j).chain ≡ (party_at m.parties j).chain) where
    page_kept : (x : ℕ) (o : Owner) → i.ghost.own x ≡ o → eqb o.kind 0 ≡ false → page_of t.pages x ≡ page_of m.pages x
    page_kept x o e n = ap (λ (ps : List ℕ). page_of ps x) pages= ∙ primary_off x (owned_apart x o e n)

    pub read_beside : (d x : ℕ) → Protected (scene_of m i.ghost b) d x → Protected t d x × (page_of t.pages x ≡ page_of m.pages x)
    read_beside d x (in_chain_ok y) = (go (cmp d c), page_kept x (in_chain d) y refl)
      where
        go : Cmp d c → Protected t d x
        go (same e) = in_old q (old x (y ∙ ap in_chain e)) (chain_of_ok q ∙ mine ∙ sym e)
        go (diff n) = in_chain_ok (other x (in_chain d) (omega arith) (indices_apart (in_chain d) (in_chain c) n) y)
    read_beside d x (in_old k y z) = (in_old k (other x (old_of k) (omega arith) (kinds_apart (old_of k) (in_chain c) refl) y) (chain_of_ok k ∙ z), page_kept x (old_of k) y refl)
