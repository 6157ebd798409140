-- What a withdraw leaves of the whole memory, from a begin on: the memory before begin, as long as the decisive step is
-- not taken.
-- Main statements: undone_memory (what an accepted withdraw leaves); begun_undone (right after a begin it is the memory
-- before); StepUndone, step_undone (a step does not change it).
use mathlib.Core.Path.{◌≡◌, refl, sym, ap, ◌∙◌, subst}
use mathlib.Core.Logic.{◌≢◌}
use mathlib.Core.Bool.{Bool, true}
use mathlib.Core.List.{List}
use Prim.Native.Nat.{ℕ, ◌<◌}
use native.Mathlib.Nat.{add-zero}
use native.Mathlib.Omega.{arith}
use lib.ListN.{length, get_or, take, set}
use lib.Seq.{get_or-take, set-set, set-get_or}
use Rattle.std.specs.Prelude.{Ok, Err}
use Rattle.model.specs.declared.Party.{Party}
use Rattle.model.specs.declared.Operation.{Operation}
use Rattle.model.specs.Records.{idle, begun}
use Rattle.model.specs.Answers.{operation_number, setting_given, StepReply}
use Rattle.model.specs.Pages.{with_page, scratch_page, zero_page}
use Rattle.model.specs.FreeList.{given_back}
use Rattle.model.specs.LockRequests.{given_up}
use Rattle.model.specs.Claims.{claims}
use Rattle.model.specs.Outcome.{View, Outcome}
use Rattle.model.specs.Memory.{Memory, party_at, view_of, after_step, with_waiting}
use Rattle.model.specs.declared.StepAnswer.{StepAnswer}
use Rattle.model.specs.WaitingRow.{stands_behind, row_after, row_without}
use Rattle.model.specs.Calls.{stepped, with_begun}
use Rattle.model.specs.Book.{Book}
use Rattle.model.specs.Withdraw.{is_decided}
use Rattle.model.specs.Steps.Dispatch.{no_step, step_table, step_of}
use Rattle.model.proofs.Laws.Lists.{Numbered, numbered_below, ◌▸◌}
use Rattle.model.proofs.Laws.Pages.{with_page_page_of}
use Rattle.model.proofs.Laws.WaitingRow.{with_without, without_twice, without_idle, idle-asks-none}
use Rattle.model.proofs.Theorems.Answering.{waiting_asks}
use Rattle.model.proofs.Invariant.Statement.{Inv, scene_of, scratch_in}
use Rattle.model.proofs.Invariant.Turn.{Turn, row_long}
use Rattle.model.proofs.Effects.Kept.{row_same}
use Rattle.model.proofs.Withdrawing.Undone.{with_behind, undone_behind, undone, undone_number, undone_early}
use Rattle.model.proofs.Withdrawing.Locating.{Undoes, decides, undoes, step01_undone, step02_undone, step03_undone, step04_undone, step05_undone, step06_undone, step07_undone, step08_undone}
use Rattle.model.proofs.Withdrawing.Rebuilding.{step10_undone}

-- The memory with party q's operation taken back, no test made.
abbrev pub undone_memory : Memory → ℕ → Memory
undone_memory m q = with_waiting (row_without q m.waiting) (after_step m (undone (view_of m q)))

-- ---- Right after a begin

-- The zero record and the zero scratch page stand where they stood; no lock is held, no page is built, and the party is
-- not in the row.
pub begun_undone : (m : Memory) (b : Book) (i : Inv m b) (q : ℕ) (o : Operation) (k : ℕ) → q < m.root.parties → party_at m.parties q ≡ idle
    → scratch_in (scene_of m i.ghost b) q ≡ zero_page → undone_memory (with_begun m q o k) q ≡ m
unfolding with_begun claims given_up given_back
begun_undone m b i q o k in_row rests clear =
    ap (λ (p : Party). then_left (undone (begins p))) (row_same m.parties q p_then (omega (arith, i.parties_many)))
    ∙ ap then_left (undone_early (begins p_then) refl) ∙ rw (add-zero m.root.free, parties_are, pages_are, row_is) refl
  where
    p_then : Party
    p_then = begun (operation_number o) k (setting_given o)

    then_left : View → Memory
    then_left v = with_waiting (row_without q m.waiting) (after_step (with_begun m q o k) v)

    begins : Party → View
    begins p = record {
      root = m.root;
      party = p;
      number = q;
      locks = m.locks;
      pages = m.pages;
      behind = stands_behind m.root (set m.parties q p_then) m.waiting q;
    }

    parties_are : set (set m.parties q p_then) q idle ≡ m.parties
    parties_are = set-set m.parties q p_then idle ∙ ap (set m.parties q) (sym rests) ∙ set-get_or m.parties q idle

    pages_are : with_page m.pages (scratch_page m.root q) zero_page ≡ m.pages
    pages_are = ap (with_page m.pages (scratch_page m.root q)) (sym clear) ∙ with_page_page_of m.pages (scratch_page m.root q)

    row_is : row_without q m.waiting ≡ m.waiting
    row_is = without_idle m.root m.parties m.waiting q i.row_ok (idle-asks-none m.root (party_at m.parties q) rests)

-- ---- A step

-- A view left, seen as memory with another row: the same but for who stands behind whom.
module _ (m : Memory) (q : ℕ) (long : q < length m.parties) (w : View) (mine : w.number ≡ q) (row : List ℕ) where
  abbrev behind_then : Bool
  behind_then = stands_behind w.root (set m.parties w.number w.party) row q

  view_then : view_of (with_waiting row (after_step m w)) q ≡ with_behind behind_then w
  view_then =
      ap (λ (j : ℕ). record { root = w.root; party = party_at (set m.parties j w.party) q; number = q; locks = w.locks; pages = w.pages; behind = behind_then }) mine
      ∙ ap (λ (p : Party). record { root = w.root; party = p; number = q; locks = w.locks; pages = w.pages; behind = behind_then }) (row_same m.parties q w.party long)
      ∙ ap (λ (j : ℕ). record { root = w.root; party = w.party; number = j; locks = w.locks; pages = w.pages; behind = behind_then }) (sym mine)

  pub memory_undone : undone w ≡ undone (view_of m q) → row_without q row ≡ row_without q m.waiting → undone_memory (with_waiting row (after_step m w)) q ≡ undone_memory m q
  memory_undone e row= =
      ap (λ (u : View). left (undone u)) view_then ∙ ap left (undone_behind behind_then w) ∙ ap left e
      ∙ rw (mine, undone_number (view_of m q), set-set m.parties q w.party (undone (view_of m q)).party, row=) refl
    where
      left : View → Memory
      left u = with_waiting (row_without q row) (after_step (with_waiting row (after_step m w)) u)

module _ (m : Memory) (b : Book) (q : ℕ) where
  abbrev UndoneAt : ℕ → (View → Outcome) → Type 0
  UndoneAt n f = Turn m b q n → n ≢ 9 → Undoes (view_of m q) (f (view_of m q))

  all_undone : Numbered UndoneAt 0 (take 11 step_table)
  unfolding step_table
  all_undone =
      (λ (t : Turn m b q 0) n. absurd t.facts) ▸ (λ t n. step01_undone t) ▸ (λ t n. step02_undone t) ▸ (λ t n. step03_undone t) ▸ (λ t n. step04_undone t)
      ▸ (λ t n. step05_undone t) ▸ (λ t n. step06_undone t) ▸ (λ t n. step07_undone t) ▸ (λ t n. step08_undone t) ▸ (λ t n. absurd (n refl)) ▸ (λ t n. step10_undone t) ▸ tt

-- What is owed of a step before the decisive one, where the memory is then m'.
pub data StepUndone (m m' : Memory) (q : ℕ) : Type 0 where
  decided : is_decided (party_at m'.parties q) ≡ true → StepUndone m m' q
  same_left : undone_memory m' q ≡ undone_memory m q → StepUndone m m' q

-- Another row alone.
pub row-only_undone : (m : Memory) (q : ℕ) (row : List ℕ) → row_without q row ≡ row_without q m.waiting → undone_memory (with_waiting row m) q ≡ undone_memory m q
row-only_undone m q row e =
    ap (λ (u : View). with_waiting (row_without q row) (after_step m u)) (undone_behind (stands_behind m.root m.parties row q) (view_of m q))
    ∙ ap (λ (r : List ℕ). with_waiting r (after_step m (undone (view_of m q)))) e

-- The row without the party is what it was.
pub row_undone : {m : Memory} {b : Book} {q k : ℕ} (t : Turn m b q k) (a : StepReply) → (step_of (party_at m.parties q).step (view_of m q)).answer ≡ a
    → row_without q (row_after q m.waiting a) ≡ row_without q m.waiting
unfolding row_after
row_undone {m} {b} {q} t (Ok StepAnswer.Waiting) e =
    with_without m.root m.parties m.waiting q t.inv.row_ok (record { there = t.in_row; asks = waiting_asks (view_of m q) t.busy.step_fits e })
row_undone {m} {b} {q} t (Ok StepAnswer.Moved) e = without_twice m.root m.parties m.waiting q t.inv.row_ok
row_undone t (Ok (StepAnswer.Done a s)) e = refl
row_undone t (Err n) e = refl

pub step_undone : {m : Memory} {b : Book} {q k : ℕ} → Turn m b q k → k < 11 → k ≢ 9 → StepUndone m (stepped m q).memory q
unfolding step_of step_table stepped
step_undone {m} {b} {q} {k} t l n = rw t.is_at (go (subst (λ (f : View → Outcome). Undoes (view_of m q) (f (view_of m q))) (get_or-take 11 step_table k no_step l) here))
  where
    here : Undoes (view_of m q) (get_or (take 11 step_table) k no_step (view_of m q))
    here = numbered_below (UndoneAt m b q) no_step (take 11 step_table) (all_undone m b q) k l t n

    row_then : List ℕ
    row_then = row_after q m.waiting (get_or step_table k no_step (view_of m q)).answer

    row_is : row_without q row_then ≡ row_without q m.waiting
    row_is = subst (λ (j : ℕ). row_without q (row_after q m.waiting (get_or step_table j no_step (view_of m q)).answer) ≡ row_without q m.waiting) t.is_at (row_undone t _ refl)

    go : Undoes (view_of m q) (get_or step_table k no_step (view_of m q)) → StepUndone m (with_waiting row_then (after_step m (get_or step_table k no_step (view_of m q)).after)) q
    go (decides e d) = decided (ap (λ (v : View). is_decided v.party) (view_then m q (row_long t) (get_or step_table k no_step (view_of m q)).after e row_then) ∙ d)
    go (undoes e u) = same_left (memory_undone m q (row_long t) (get_or step_table k no_step (view_of m q)).after e row_then u row_is)
