-- Locating, alone: steps 1 to 6 lead straight to the key's home, and every request is granted.
-- Main statements: Arrival (a party at 9 or 10, on its key's home chain); locates (a run from step 1 ends as every run from its arrival does).
use mathlib.Core.Path.{◌≡◌, refl, sym, ap, ◌∙◌, subst}
use mathlib.Core.Bool.{Bool, true, false, cond, ◌&&◌}
use mathlib.Core.List.{List, [], ◌∷◌}
use mathlib.Core.Option.{Option, some}
use Prim.Native.Nat.{ℕ, ◌+◌, ◌-◌, ◌<◌}
use native.Mathlib.Omega.{arith}
use lib.Dec.{eqb, ltb, leb}
use Rattle.model.specs.declared.Root.{Root}
use Rattle.model.specs.declared.Party.{Party}
use Rattle.model.specs.declared.Mode.{Mode}
use Rattle.model.specs.Records.{at_step, with_lev}
use Rattle.model.specs.Mixing.{mixed}
use Rattle.model.specs.Addresses.{address_level, address_of}
use Rattle.model.specs.Pages.{page_of, with_page, level_of, page_sound, primary_page, scratch_page}
use Rattle.model.specs.Outcome.{View, moved, with_party}
use Rattle.model.specs.ScratchPages.{with_scratch}
use Rattle.model.specs.Memory.{Memory}
use Rattle.model.specs.declared.Entry.{Entry}
use Rattle.model.specs.Entries.{setting_in}
use Rattle.model.specs.Book.{Book, Entered, note_for, note_step}
use Rattle.model.specs.Ready.{viewing}
use Rattle.theory.specs.Sequential.{File, Finished}
use Rattle.model.specs.LockRequests.{root_read, chain_lock}
use Rattle.model.specs.Steps.Locate.{located, step01, step02, step03, step04, step05}
use Rattle.model.specs.Steps.Chase.{Chase, chase, chase_of, arrived, chasing, step06}
use Rattle.model.specs.Steps.Dispatch.{step_of, step_table}
use Rattle.model.proofs.Laws.Lists.{eqb_same, eqb-diff}
use Rattle.model.proofs.Invariant.Ghost.{Extent, in_chain, size, local_level}
use Rattle.model.specs.Claims.{claims}
use Rattle.model.proofs.Invariant.Claims.{is_claimed}
use Rattle.model.proofs.Invariant.Frame.{claims_at_lem}
use Rattle.model.proofs.Laws.Filling.{chain_level}
use Rattle.model.proofs.Invariant.Advance.{address_local, home_inside}
use Rattle.model.proofs.Theorems.Calls.{StepsKept}
use Rattle.theory.proofs.Singly.Files.{extent_of, home}
use Rattle.model.proofs.Steps.Chase.Copy.{noted_six}
use Rattle.model.specs.Answers.{found_or_absent}
use Rattle.theory.proofs.Singly.Alone.{Alone, left_at, book_on, none_claimed, live-alone, at_alone, performs-as, performed, guarded_open, Ends, plain, root_extent_ok, moves_on, requests_on, releases_on}

-- The book's note for party q says what the book has of key k.
pub record Noted (c : Book) (q k : ℕ) : Type 0 where
  pub entered : Entered
  pub entry : c.entries q ≡ some entered
  pub note_is : entered.note ≡ some (found_or_absent (setting_in k c.contents))

-- Party q, with operation o, key k and setting x, has come to step n on its key's home chain in the file f; the root is r.
pub record Arrival (r : Root) (q o k x : ℕ) (f : File) (n : ℕ) : Type 0 where
  pub memory : Memory
  pub book : Book
  pub party : Party
  pub alone : Alone memory book q party f 0
  pub root= : memory.root ≡ r
  pub step= : party.step ≡ n
  pub operation= : party.operation ≡ o
  pub key= : party.key ≡ k
  pub setting= : party.setting ≡ x
  pub chain= : party.chain ≡ home r.originals (extent_of f) k
  pub noted : o ≡ 1 → Noted book q k

-- The page memory after step 6: the primary page of chain c copied to party q's scratch page.
abbrev copied : Memory → ℕ → ℕ → List ℕ
copied m q c = with_page m.pages (scratch_page m.root q) (page_of m.pages (primary_page c))

-- ---- 6

module _ (kept : StepsKept) (m : Memory) (b : Book) (q : ℕ) (p : Party) (f : File) (a : Alone m b q p f 0) (y : Finished)
    (is_six : p.step ≡ 6) (at_home : p.chain ≡ home m.root.originals (extent_of f) p.key) (lev_is : p.lev ≡ address_level m.root.originals f.level f.next p.key) where
  abbrev n : ℕ
  n = m.root.originals

  abbrev lent : View
  lent = viewing m.root p q m.locks m.pages

  some_original : 0 < n
  some_original = a.inv.limits.some_original

  chain_live : p.chain < size n a.inv.ghost.live
  chain_live = rw (at_home, live-alone m b q p f 0 a) (home_inside n (extent_of f) a.holding.next_fits some_original p.key)

  -- lev is the chain's local level.
  level_is : level_of (page_of m.pages (primary_page p.chain)) ≡ p.lev
  level_is =
      chain_level m.root.capacity m.pages p.chain (local_level n a.inv.ghost.live p.chain) (a.inv.ghost.records p.chain) (a.inv.ghost.held (in_chain p.chain))
      (a.inv.pages_ok.chain p.chain chain_live)
      ∙ ap (λ (e : Extent). local_level n e p.chain) (live-alone m b q p f 0 a) ∙ ap (local_level n (extent_of f)) at_home
      ∙ address_local n (extent_of f) a.holding.next_fits some_original p.key ∙ sym lev_is

  stays_on : chase_of lent ≡ record { lev = p.lev; chain = p.chain }
  unfolding chase_of chase
  stays_on =
      let near : level_of (page_of m.pages (primary_page p.chain)) - p.lev ≡ 0 = omega (arith, level_is) in
      ap (λ (d : ℕ). chase n (mixed p.key) p.chain d p.lev) near

  abbrev then_record : Party
  then_record = cond (eqb (chase_of lent).chain p.chain) (arrived (chase_of lent) p) (chasing (chase_of lent) p)

  arrives : (k : ℕ) → cond (eqb p.operation 1) 9 10 ≡ k → then_record ≡ at_step k p
  unfolding arrived
  arrives k e =
      ap (λ (t : Chase). cond (eqb t.chain p.chain) (arrived t p) (chasing t p)) stays_on
      ∙ ap (λ (t : Bool). cond t (arrived (record { lev = p.lev; chain = p.chain }) p) (chasing (record { lev = p.lev; chain = p.chain }) p)) (eqb_same p.chain p.chain refl)
      ∙ ap (λ (j : ℕ). at_step j p) e

  -- The tests of step 6.
  abbrev passed : Bool
  passed =
      page_sound m.root (page_of m.pages (primary_page p.chain)) && leb p.lev (level_of (page_of m.pages (primary_page p.chain))) && ltb (chase_of lent).chain m.root.primaries

  note_then : p.operation ≡ 1 → Noted (book_on b q p) q p.key
  unfolding note_for
  note_then find =
      let x = at_alone m b q p f 0 a 5 is_six in
      let s = noted_six b q x.entered x.busy.entry in
      let b_is : book_on b q p ≡ note_step b q x.entered 6 = ap (note_for b q (b.entries q)) is_six ∙ ap (λ (z : Option Entered). note_for b q z 6) x.busy.entry in
      subst (λ (c : Book). Noted c q p.key) (sym b_is)
      (record {
        entered = s.after;
        entry = s.entry;
        note_is = s.found (x.busy.same_operation ∙ find)
            ∙ ap (λ (j : ℕ). some (found_or_absent (setting_in j b.contents))) x.busy.same_key
            ∙ ap (λ (es : List Entry). some (found_or_absent (setting_in p.key es))) (sym s.contents=);
      })

  from_six : (k : ℕ) → cond (eqb p.operation 1) 9 10 ≡ k → plain k ≡ true
      → ((x : Arrival m.root q p.operation p.key p.setting f k) → Ends x.memory q y) → Ends m q y
  unfolding step_of step_table step06 plain
  from_six k e h next =
      let w = performed kept m b q p f 0 a 5 step06 is_six refl in
      moves_on m b q p f 0 a 6 k (at_step k p) m.locks (copied m q p.chain) y is_six refl refl h (omega arith)
      (performs-as
      (guarded_open lent passed (moved (with_party then_record (with_scratch (page_of m.pages (primary_page p.chain)) lent))) w.kept.allowed
      ∙ ap (λ (x : Party). moved (with_party x (with_scratch (page_of m.pages (primary_page p.chain)) lent))) (arrives k e)) w)
      (λ c. next (record {
        memory = left_at m q m.root (at_step k p) m.locks (copied m q p.chain);
        book = book_on b q p;
        party = at_step k p;
        alone = c;
        root= = refl;
        step= = refl;
        operation= = refl;
        key= = refl;
        setting= = refl;
        chain= = at_home;
        noted = note_then;
      }))

-- ---- 5 back to 1

module _ (kept : StepsKept) (q : ℕ) (f : File) (y : Finished) (k : ℕ) (arrives_plain : plain k ≡ true) where
  from_five : (m : Memory) (b : Book) (p : Party) → Alone m b q p f 0 → cond (eqb p.operation 1) 9 10 ≡ k → p.step ≡ 5
      → p.chain ≡ home m.root.originals (extent_of f) p.key → p.lev ≡ address_level m.root.originals f.level f.next p.key
      → ((x : Arrival m.root q p.operation p.key p.setting f k) → Ends x.memory q y) → Ends m q y
  unfolding step_of step_table step05 plain
  from_five m b p a o e h l next =
      releases_on kept m b q p f 0 a y 4 6 step05 (root_read ∷ []) (at_step 6 p) e refl refl refl refl refl (omega arith)
      (λ ls c. from_six kept (left_at m q m.root (at_step 6 p) ls m.pages) (book_on b q p) q (at_step 6 p) f c y refl h l k o arrives_plain next)

  -- Word c + 1 is not the root's.
  root_only : (p : Party) (r : Root) → p.step ≡ 4 → (c : ℕ) (o : Mode) → is_claimed (claims r p) (c + 1) o ≡ false
  unfolding claims is_claimed
  root_only p r e c o = rw (e, eqb-diff 0 (c + 1) (omega arith)) refl

  from-four : (m : Memory) (b : Book) (p : Party) → Alone m b q p f 0 → cond (eqb p.operation 1) 9 10 ≡ k → p.step ≡ 4
      → p.chain ≡ home m.root.originals (extent_of f) p.key → p.lev ≡ address_level m.root.originals f.level f.next p.key
      → ((x : Arrival m.root q p.operation p.key p.setting f k) → Ends x.memory q y) → Ends m q y
  unfolding step_of step_table step04 plain
  from-four m b p a o e h l next =
      requests_on kept m b q p f 0 a y 3 5 step04 (chain_lock p) (at_step 5 p) e refl refl refl refl refl (omega arith)
      (let x = at_alone m b q p f 0 a 3 e in omega (arith, x.busy.chain_fits)) (root_only p m.root e p.chain)
      (λ ls c. from_five (left_at m q m.root (at_step 5 p) ls m.pages) (book_on b q p) (at_step 5 p) c o refl h l next)

  from_three : (m : Memory) (b : Book) (p : Party) → Alone m b q p f 0 → cond (eqb p.operation 1) 9 10 ≡ k → p.step ≡ 3 → p.lev ≡ m.root.level
      → ((x : Arrival m.root q p.operation p.key p.setting f k) → Ends x.memory q y) → Ends m q y
  unfolding step_of step_table step03 plain located
  from_three m b p a o e l next =
      let w = performed kept m b q p f 0 a 2 step03 e refl in
      let s = root_extent_ok m b q p f 0 a 3 e refl in
      let lent = viewing m.root p q m.locks m.pages in
      let p_then = at_step 4 (located m.root p) in
      moves_on m b q p f 0 a 3 4 p_then m.locks m.pages y e refl refl refl (omega arith)
      (performs-as (guarded_open lent (ltb (located m.root p).chain m.root.primaries) (moved (with_party p_then lent)) w.kept.allowed) w)
      (λ c. from-four (left_at m q m.root p_then m.locks m.pages) (book_on b q p) p_then c o refl
      (ap (λ (j : ℕ). address_of m.root.originals j m.root.next p.key) l ∙ ap (λ (x : Extent). home m.root.originals x p.key) (sym s))
      (ap (λ (j : ℕ). address_level m.root.originals j m.root.next p.key) l
      ∙ ap (λ (x : Extent). address_level m.root.originals x.level x.next p.key) (sym s)) next)

  from_two : (m : Memory) (b : Book) (p : Party) → Alone m b q p f 0 → cond (eqb p.operation 1) 9 10 ≡ k → p.step ≡ 2
      → ((x : Arrival m.root q p.operation p.key p.setting f k) → Ends x.memory q y) → Ends m q y
  unfolding step_of step_table step02 plain
  from_two m b p a o e next =
      let p_then = at_step 3 (with_lev m.root.level p) in
      moves_on m b q p f 0 a 2 3 p_then m.locks m.pages y e refl refl refl (omega arith) (performed kept m b q p f 0 a 1 step02 e refl)
      (λ c. from_three (left_at m q m.root p_then m.locks m.pages) (book_on b q p) p_then c o refl refl next)

  -- A run from step 1 ends as every run from its arrival does.
  pub locates : (m : Memory) (b : Book) (p : Party) → Alone m b q p f 0 → cond (eqb p.operation 1) 9 10 ≡ k → p.step ≡ 1
      → ((x : Arrival m.root q p.operation p.key p.setting f k) → Ends x.memory q y) → Ends m q y
  unfolding step_of step_table step01 plain
  locates m b p a o e next =
      requests_on kept m b q p f 0 a y 0 2 step01 root_read (at_step 2 p) e refl refl refl refl refl (omega arith) (omega arith) (none_claimed m.root p (claims_at_lem m.root p 1 e) 0)
      (λ ls c. from_two (left_at m q m.root (at_step 2 p) ls m.pages) (book_on b q p) (at_step 2 p) c o refl next)
