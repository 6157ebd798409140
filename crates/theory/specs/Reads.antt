-- What a call of step, or of withdraw, goes by: of the overflow pages, only those that its trace follows
-- (specs/Links.antt) and the free pages that it takes.
-- Main definitions: is_accepted (a call that is not refused); followed_by, taken_by, read_by (the pages that a step reads),
-- walked_back (a withdraw); is_open (a page that it may read or write); DiffersOutside (two memories that differ on shut
-- pages at most); ReadAlike (the call does the same on both); TraceTrue, WithdrawTrue (when the links followed were
-- read, and what is given back).
-- The theorems, of every memory, are proofs/StepReads/Followed.antt (every call that is accepted reads alike) and
-- TrueTraces.antt (every call that moves or is done has a true trace); of a withdraw, proofs/StepReads/Withdraws.antt.
use Rattle.std.specs.Prelude.{◌≡◌, ◌≢◌, Bool, true, false, not, ◌&&◌, ◌||◌, List, [], ◌∷◌, ◌++◌, map, ℕ, ◌+◌, ◌-◌, ◌<◌, length, ltb, leb, Ok, Err}
use Rattle.model.specs.Answers.{StepReply}
use Rattle.model.specs.declared.Root.{Root}
use Rattle.model.specs.declared.StepAnswer.{StepAnswer}
use Rattle.model.specs.Pages.{page_of, link_of, free_page, primary_page, scratch_page, link_to, link_to_first}
use Rattle.model.specs.FreeList.{is_among, pages_taken}
use Rattle.model.specs.Outcome.{View}
use Rattle.model.specs.ScratchPages.{scratch_of}
use Rattle.model.specs.Memory.{Memory, view_of}
use Rattle.model.specs.Calls.{Called, step_call}
use Rattle.theory.specs.Links.{Follow, Clock, clock_start, trace_of_step, trace_of_withdraw}
use Rattle.model.specs.Effects.{record_before, record_after, withdraw_after}
use Rattle.model.specs.PagePlaces.{pages_drawn}

-- Whether a call was accepted: it moved, waits or is done.
unfoldable pub is_accepted : StepReply → Bool
is_accepted (Ok StepAnswer.Waiting) = true
is_accepted (Ok StepAnswer.Moved) = true
is_accepted (Ok (StepAnswer.Done a s)) = true
is_accepted (Err c) = false

-- The pages that links followed lead to.
unfoldable pub pages_followed : List Follow → List ℕ
pages_followed fs = map (λ f. f.page) fs

-- Those of party q's call of step: none if it waits. They are the same by every clock.
unfoldable pub followed_by : Memory → ℕ → List ℕ
followed_by m q = pages_followed (trace_of_step clock_start m q).follows

-- The free pages that the call takes: from the head of the free list, as many as the free count has less afterwards;
-- none where pages are given back.
unfoldable pub taken_by : Memory → ℕ → List ℕ
taken_by m q = pages_drawn (pages_taken m.root m.pages (m.root.free - (step_call m q).memory.root.free))

-- Both.
unfoldable pub read_by : Memory → ℕ → List ℕ
read_by m q = followed_by m q ++ taken_by m q

-- The pages that party q's withdraw follows: none unless it is accepted. It takes no page.
unfoldable pub walked_back : Memory → ℕ → List ℕ
walked_back m q = pages_followed (trace_of_withdraw clock_start m q).follows

-- Whether page x is an overflow page.
unfoldable pub is_overflow_page : Root → ℕ → Bool
is_overflow_page r x = leb r.primaries x && ltb x (r.primaries + r.overflow)

-- A page is open if it is no overflow page or is among xs. Any other is shut.
unfoldable pub is_open : Root → List ℕ → ℕ → Bool
is_open r xs x = not (is_overflow_page r x) || is_among x xs

-- The two memories differ on shut pages at most.
pub record DiffersOutside (xs : List ℕ) (m m' : Memory) : Type 0 where
  pub root= : m'.root ≡ m.root
  pub parties= : m'.parties ≡ m.parties
  pub locks= : m'.locks ≡ m.locks
  pub waiting= : m'.waiting ≡ m.waiting
  pub length= : length m'.pages ≡ length m.pages
  pub open= : (x : ℕ) → is_open m.root xs x ≡ true → page_of m'.pages x ≡ page_of m.pages x

-- The memory after party q's call of step.
abbrev pub step_after : Memory → ℕ → Memory
step_after m q = (step_call m q).memory

-- A call on both memories, c and c': it answers the same, leaves the same root, records, lock words and open pages, and
-- writes no shut page.
pub record ReadAlike {A : Type 0} (xs : List ℕ) (m m' : Memory) (c c' : Called A) : Type 0 where
  pub answer= : c'.answer ≡ c.answer
  pub root= : c'.memory.root ≡ c.memory.root
  pub parties= : c'.memory.parties ≡ c.memory.parties
  pub locks= : c'.memory.locks ≡ c.memory.locks
  pub waiting= : c'.memory.waiting ≡ c.memory.waiting
  pub length= : length c'.memory.pages ≡ length c.memory.pages
  pub open= : (x : ℕ) → is_open m.root xs x ≡ true → page_of c'.memory.pages x ≡ page_of c.memory.pages x
  pub shut_kept : (x : ℕ) → is_open m.root xs x ≡ false → page_of c.memory.pages x ≡ page_of m.pages x
  pub shut_kept' : (x : ℕ) → is_open m.root xs x ≡ false → page_of c'.memory.pages x ≡ page_of m'.pages x

-- The call of step does, the pages that it reads being open.
abbrev pub StepAlike : Memory → Memory → ℕ → Type 0
StepAlike m m' q = ReadAlike (read_by m q) m m' (step_call m q) (step_call m' q)

-- ---- When links were read, and what is given back

-- How a step knows the page that it follows, and when that link was read: off a page of the file, in this call (now);
-- it is the record's old link, read in call old; or the link on the party's scratch page, read in call scratch.
pub data KnownBy (v : View) (now scratch old : ℕ) (f : Follow) : Type 0 where
  off_page : (y : ℕ) → y < v.root.primaries + v.root.overflow → link_of (page_of v.pages y) ≡ link_to f.page → f.read_at ≡ now → KnownBy v now scratch old f
  by_old : v.party.old ≡ link_to f.page → f.read_at ≡ old → KnownBy v now scratch old f
  by_scratch : link_of (scratch_of v) ≡ link_to f.page → f.read_at ≡ scratch → KnownBy v now scratch old f

-- So is each of a list of links followed.
abbrev pub EachKnown : View → ℕ → ℕ → ℕ → List Follow → Type 0
EachKnown v now scratch old [] = Unit {0}
EachKnown v now scratch old (f ∷ fs) = KnownBy v now scratch old f × EachKnown v now scratch old fs

-- Page w is a copy of a page of the file.
pub record Copied (v : View) (w : List ℕ) : Type 0 where
  pub page : ℕ
  pub inside : page < v.root.primaries + v.root.overflow
  pub copy : w ≡ page_of v.pages page

-- Page x is zero but for a link.
pub record Freed (ps : List ℕ) (x : ℕ) : Type 0 where
  pub link : ℕ
  pub free : page_of ps x ≡ free_page link

-- The link on party q's scratch page after its call: that of a page copied from the file, or, where the party comes to
-- 11, that of the first page that the call took.
pub data ScratchTold (m : Memory) (q : ℕ) : Type 0 where
  copied : Copied (view_of m q) (page_of (step_after m q).pages (scratch_page m.root q)) → ScratchTold m q
  made : (record_after m q).step ≡ 11 → link_of (page_of (step_after m q).pages (scratch_page m.root q)) ≡ link_to_first (taken_by m q) → ScratchTold m q

-- The rest of the trace is what the call does. The old link is read off the chain's primary page in this call where the
-- trace says so, else it is the one it was, or none. A party comes to 9 only with a page copied from the file in this
-- call, and to 11 only with a link made in this call, and then the trace says so. As many pages are given back as the
-- free count has more, and each is free.
pub record TraceTrue (k : Clock) (m : Memory) (q : ℕ) : Type 0 where
  pub known : EachKnown (view_of m q) (k.calls + 1) (k.scratch_read q) (k.old_read q) (trace_of_step k m q).follows
  pub old_read_ok : (trace_of_step k m q).into_old ≡ true → (record_after m q).old ≡ link_of (page_of m.pages (primary_page (record_before m q).chain))
  pub old_kept : (trace_of_step k m q).into_old ≡ false → (record_after m q).old ≢ 0 → (record_after m q).old ≡ (record_before m q).old
  pub scratch_now : (record_after m q).step ≡ 9 → (trace_of_step k m q).into_scratch ≡ true
  pub scratch_built : (record_after m q).step ≡ 11 → (trace_of_step k m q).into_scratch ≡ true
  pub scratch_read_ok : (trace_of_step k m q).into_scratch ≡ true → ScratchTold m q
  pub given : (step_after m q).root.free - m.root.free ≡ length (trace_of_step k m q).gives
  pub freed : (x : ℕ) → is_among x (trace_of_step k m q).gives ≡ true → Freed (step_after m q).pages x

-- The same of a withdraw: it reads no link that outlives the call.
pub record WithdrawTrue (k : Clock) (m : Memory) (q : ℕ) : Type 0 where
  pub known : EachKnown (view_of m q) (k.calls + 1) (k.scratch_read q) (k.old_read q) (trace_of_withdraw k m q).follows
  pub given : (withdraw_after m q).root.free - m.root.free ≡ length (trace_of_withdraw k m q).gives
  pub freed : (x : ℕ) → is_among x (trace_of_withdraw k m q).gives ≡ true → Freed (withdraw_after m q).pages x
