-- What a call reads: which pages are shut, that memories which differ on them there are, and what is not alike.
-- Main statements: pages_told, open_told, overflow_is, primary_is-not, scratch_is-not (which pages are overflow pages);
-- shut_page (those that are not listed are shut); shut_rewritten (every memory differs, on a shut page, from another),
-- shut_unread (which a step that is accepted does not notice); open_differs, other_row, other_answer, open_left,
-- shut_written (what is not alike); copy_leads (a copy); chains_unread, chains_read (a chain that does not read as sound).
use mathlib.Core.Path.{◌≡◌, refl, ap, sym, ◌∙◌}
use mathlib.Core.Logic.{◌≢◌}
use mathlib.Core.Bool.{Bool, true, false, ◌&&◌, false≢true}
use mathlib.Core.List.{List, [], ◌∷◌, map}
use Prim.Native.Nat.{ℕ, zero, suc, ◌+◌, ◌≤◌, ◌<◌}
use native.Mathlib.Omega.{arith}
use lib.ListN.{length}
use lib.Dec.{leb}
use Rattle.std.specs.Prelude.{Ok}
use Rattle.model.specs.Answers.{StepReply}
use Rattle.model.specs.declared.Root.{Root}
use Rattle.model.specs.declared.StepAnswer.{StepAnswer}
use Rattle.model.specs.Sizes.{page_words}
use Rattle.model.specs.Pages.{page_of, with_page, link_of}
use Rattle.model.specs.Chains.{damaged, sound, Chain, chain_of}
use Rattle.model.specs.FreeList.{is_among}
use Rattle.model.specs.Outcome.{View}
use Rattle.model.specs.Memory.{Memory, with_waiting}
use Rattle.model.specs.Calls.{called, step_call}
use Rattle.theory.specs.Sequential.{ChainsRead, chains_in, file_of}
use Rattle.theory.specs.Reads.{is_accepted, read_by, is_overflow_page, is_open, DiffersOutside, ReadAlike, StepAlike, Copied}
use Rattle.model.proofs.Laws.Lists.{lt-ltb, le-ltb, le-leb, lt-leb}
use Rattle.model.proofs.Laws.Pages.{Has, length-with_page, page_other}
use Rattle.model.proofs.Refutations.Memories.{root_of, bare}
use Rattle.theory.proofs.StepReads.Followed.{reads_what_it_follows}
use Rattle.theory.proofs.Refutations.Opened.{opened}

-- ---- Shut pages

-- P = 3 and V = 2: pages 3 and 4 are overflow pages; with 4 listed 3 alone is shut.
pages_told : map (is_overflow_page (root_of 2 2 3 2 1 0 0 0 0)) (0 ∷ 2 ∷ 3 ∷ 4 ∷ 5 ∷ []) ≡ false ∷ false ∷ true ∷ true ∷ false ∷ []
unfolding opened
pages_told = refl

open_told : map (is_open (root_of 2 2 3 2 1 0 0 0 0) (4 ∷ [])) (0 ∷ 2 ∷ 3 ∷ 4 ∷ 5 ∷ []) ≡ true ∷ true ∷ false ∷ true ∷ true ∷ []
unfolding opened
open_told = refl

-- Pages P to P + V − 1 are overflow pages, and no others.
module _ (r : Root) (x : ℕ) where
  pub overflow_is : r.primaries ≤ x → x < r.primaries + r.overflow → is_overflow_page r x ≡ true
  unfolding is_overflow_page
  overflow_is l h = rw (le-leb r.primaries x l, lt-ltb x (r.primaries + r.overflow) h) refl

  pub primary_is-not : x < r.primaries → is_overflow_page r x ≡ false
  unfolding is_overflow_page
  primary_is-not h = rw (lt-leb r.primaries x h) refl

  pub scratch_is-not : r.primaries + r.overflow ≤ x → is_overflow_page r x ≡ false
  unfolding is_overflow_page
  scratch_is-not h = rw (le-ltb x (r.primaries + r.overflow) h) (go (leb r.primaries x))
    where
      go : (t : Bool) → (t && false) ≡ false
      go true = refl
      go false = refl

  -- One that is not listed is shut.
  pub shut_page : (xs : List ℕ) → r.primaries ≤ x → x < r.primaries + r.overflow → is_among x xs ≡ false → is_open r xs x ≡ false
  unfolding is_open
  shut_page xs l h n = rw (overflow_is l h, n) refl

-- ---- Memories that differ on a shut page

-- The memory with page x rewritten.
abbrev rewritten : Memory → ℕ → List ℕ → Memory
rewritten m x w = record { root = m.root; parties = m.parties; locks = m.locks; pages = with_page m.pages x w; waiting = m.waiting }

module _ (m : Memory) (xs : List ℕ) (x : ℕ) (w : List ℕ) (has : Has m.pages x) (full : length w ≡ page_words) (shut : is_open m.root xs x ≡ false) where
  pub shut_rewritten : DiffersOutside xs m (rewritten m x w)
  shut_rewritten = record {
    root= = refl;
    parties= = refl;
    locks= = refl;
    waiting= = refl;
    length= = length-with_page m.pages x w has full;
    open= = λ y h. page_other m.pages x w has full y (apart y h);
  }
    where
      apart : (y : ℕ) → is_open m.root xs y ≡ true → y ≢ x
      apart y h e = false≢true (sym shut ∙ sym (ap (is_open m.root xs) e) ∙ h)

-- Any words may stand on a page that the step neither follows a link to nor takes: it answers the same.
pub shut_unread :
    (m : Memory) (q x : ℕ) (w : List ℕ)
    → is_accepted (step_call m q).answer ≡ true → Has m.pages x → length w ≡ page_words → is_open m.root (read_by m q) x ≡ false → StepAlike m (rewritten m x w) q
shut_unread m q x w ok has full shut = reads_what_it_follows m (rewritten m x w) q ok (shut_rewritten m (read_by m q) x w has full shut)

-- ---- What is not alike

-- One chain, b = 2, one overflow page, one party. The primary page has the keys k and 7.
abbrev holding : ℕ → Memory
holding k = record {
  root = root_of 1 2 1 1 1 0 0 2 1;
  parties = [];
  locks = [];
  pages = 0 ∷ 2 ∷ 0 ∷ k ∷ 0 ∷ 7 ∷ 0 ∷ 0 ∷ 0 ∷ 0 ∷ 0 ∷ 0 ∷ 0 ∷ 0 ∷ 0 ∷ 0 ∷ bare (bare []);
  waiting = [];
}

-- The same with a word on the overflow page.
abbrev marked : Memory
marked = record {
  root = root_of 1 2 1 1 1 0 0 2 1;
  parties = [];
  locks = [];
  pages = 0 ∷ 2 ∷ 0 ∷ 5 ∷ 0 ∷ 7 ∷ 0 ∷ 0 ∷ 0 ∷ 0 ∷ 0 ∷ 0 ∷ 0 ∷ 0 ∷ 0 ∷ 0 ∷ 0 ∷ 1 ∷ 0 ∷ 0 ∷ 0 ∷ 0 ∷ 0 ∷ 0 ∷ 0 ∷ 0 ∷ 0 ∷ 0 ∷ 0 ∷ 0 ∷ 0 ∷ 0 ∷ bare [];
  waiting = [];
}

words_differ : {k : ℕ} {ks ls : List ℕ} → k ∷ 2 ∷ 0 ∷ 5 ∷ ks ≡ k ∷ 2 ∷ 0 ∷ 6 ∷ ls → ⊥
words_differ e = let z : ◌≡◌ {A = ℕ} 5 6 = cc in omega arith

counts_differ : {k : ℕ} {ks ls : List ℕ} → k ∷ 0 ∷ ks ≡ k ∷ 1 ∷ ls → ⊥
counts_differ e = let z : ◌≡◌ {A = ℕ} 0 1 = cc in omega arith

-- A primary page is open: memories that differ there differ elsewhere than on shut pages.
open_differs : DiffersOutside [] (holding 6) (holding 5) → ⊥
unfolding opened
open_differs d = words_differ (d.open= 0 refl)

-- The overflow page is shut, unless it is listed.
shut_differs : DiffersOutside (1 ∷ []) (holding 5) marked → ⊥
unfolding opened
shut_differs d = counts_differ (sym (d.open= 1 refl))

-- Another answer; an open page that is left otherwise; a shut page that is written.
abbrev moving : Memory → Type 0
moving m = ReadAlike {A = StepReply} [] (holding 5) (holding 5) (called (Ok StepAnswer.Moved) (holding 5)) (called (Ok StepAnswer.Moved) m)

alike : moving (holding 5)
alike = record {
  answer= = refl;
  root= = refl;
  parties= = refl;
  locks= = refl;
  waiting= = refl;
  length= = refl;
  open= = λ x h. refl;
  shut_kept = λ x h. refl;
  shut_kept' = λ x h. refl;
}

-- Another row.
other_row : moving (with_waiting (3 ∷ []) (holding 5)) → ⊥
other_row a = row_longer a.waiting=
  where
    row_longer : ◌≡◌ {A = List ℕ} (3 ∷ []) [] → ⊥
    row_longer e = let z : ◌≡◌ {A = ℕ} 1 0 = ap length e in omega arith

other_answer : ReadAlike {A = StepReply} [] (holding 5) (holding 5) (called (Ok StepAnswer.Moved) (holding 5)) (called (Ok StepAnswer.Waiting) (holding 5)) → ⊥
other_answer a = moved-waits a.answer=
  where
    moved-waits : ◌≡◌ {A = StepReply} (Ok StepAnswer.Waiting) (Ok StepAnswer.Moved) → ⊥
    moved-waits e = let z : ◌≡◌ {A = Bool} true false = cc in false≢true (sym z)

open_left : moving (holding 6) → ⊥
unfolding opened
open_left a = words_differ (sym (a.open= 0 refl))

shut_written : moving marked → ⊥
unfolding opened
shut_written a = counts_differ (sym (a.shut_kept' 1 refl))

-- A scratch page that is a copy leads where the page copied leads.
pub copy_leads : (v : View) (w : List ℕ) (c : Copied v w) → link_of w ≡ link_of (page_of v.pages c.page)
copy_leads v w c = ap link_of c.copy

-- ---- A chain that does not read as sound

abbrev sizes : Root
sizes = root_of 1 2 1 1 1 0 0 0 0

-- Keys 9 and 7 do not ascend.
chains_unread : ChainsRead sizes (holding 9) → ⊥
unfolding opened
chains_unread r = not_sound (r.reads 0 (omega arith))
  where
    not_sound : {c : Chain} → damaged ≡ sound c → ⊥
    not_sound e = let z : ◌≡◌ {A = Bool} true false = cc in false≢true (sym z)

-- Keys 5 and 7 do.
chains_read : ChainsRead sizes (holding 5)
unfolding opened
chains_read = record { chain = λ c. five; reads = go }
  where
    five : Chain
    five = record { level = 0; link = 0; pages = []; entries = record { key = 5; setting = 0 } ∷ record { key = 7; setting = 0 } ∷ [] }

    go : (c : ℕ) → c < chains_in sizes (file_of sizes (holding 5)) → chain_of (holding 5).root (holding 5).pages c ≡ sound five
    go zero h = refl
    go (suc n) h = let l : suc n < 1 = h in absurd (omega arith)
