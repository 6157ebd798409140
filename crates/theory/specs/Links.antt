-- The link rule (document 01, "The set book", last paragraph, and demand 3): no step follows a chain's link to an
-- overflow page given back since that link was read.
-- Calls are numbered from 1. Two readings outlive their call: the link in a party's scratch page (read at 6 or 9; at 10
-- made with the pages that it leads to, and followed by a withdraw at 11) and the old link in its record (read at 10,
-- 17 or 26).
-- Main definitions: Clock (when each link was read and each page given back), Trace, trace_of and trace_of_withdraw (what
-- each step, and a withdraw, follows, reads and gives back); links_fresh (over a whole list).
use Rattle.std.specs.Prelude.{Bool, true, false, cond, ◌&&◌, List, [], ◌∷◌, ◌++◌, map, ℕ, ◌+◌, ltb, eqb, Ok, Err}
use Rattle.model.specs.Answers.{is_moved, performs, StepReply, CallReply}
use Rattle.model.specs.Pages.{page_of, link_of, primary_page, linked_page}
use Rattle.model.specs.Chains.{chain_of, list_from, pages_in, pages_listed}
use Rattle.model.specs.FreeList.{is_among}
use Rattle.model.specs.Outcome.{View}
use Rattle.model.specs.ScratchPages.{scratch_of}
use Rattle.model.specs.Memory.{Memory, party_at, view_of}
use Rattle.model.specs.Withdraw.{built_pages}
use Rattle.model.specs.Calls.{step_call, withdraw_call}
use Rattle.model.specs.Runs.{Call, begin_for, step_for, withdraw_for, after_call}
use Rattle.model.specs.Book.{changed_at}

-- A link followed: the page it names, and the call at which it was read.
pub record Follow : Type 0 where
  pub page : ℕ
  pub read_at : ℕ

abbrev pub follow : ℕ → ℕ → Follow
follow t x = record { page = x; read_at = t }

-- What a call does with links: those it follows, whether it reads one into scratch, or makes one there, or reads one
-- into the old link, and the pages it gives back.
pub record Trace : Type 0 where
  pub follows : List Follow
  pub into_scratch : Bool
  pub into_old : Bool
  pub gives : List ℕ

abbrev pub trace : List Follow → Bool → Bool → List ℕ → Trace
trace fs s o xs = record { follows = fs; into_scratch = s; into_old = o; gives = xs }

abbrev pub no_trace : Trace
no_trace = trace [] false false []

-- The overflow pages of a chain, and those that a link leads to, in the memory that a step is lent.
abbrev pub chain_pages : View → ℕ → List ℕ
chain_pages v c = pages_in (chain_of v.root v.pages c)

abbrev pub list_pages : View → ℕ → List ℕ
list_pages v l = pages_listed (list_from v.root v.pages l)

-- Links all read in call t.
abbrev pub read_now : ℕ → List ℕ → List Follow
read_now t xs = map (follow t) xs

-- A list walked by a link that was read in call s; the links behind it are read in call t.
unfoldable pub walked_from : ℕ → ℕ → List ℕ → List Follow
walked_from s t [] = []
walked_from s t (x ∷ xs) = follow s x ∷ read_now t xs

-- 9: a move follows the scratch page's link and reads the next one into scratch.
unfoldable pub trace_nine : View → ℕ → StepReply → Trace
trace_nine v s a = cond (is_moved a) (trace (follow s (linked_page (link_of (scratch_of v))) ∷ []) true false []) no_trace

-- 10, 17 and 26: chains looked through whole in this call; whether the old link was set.
abbrev pub trace_looked : ℕ → List ℕ → Bool → Trace
trace_looked t xs o = trace (read_now t xs) false o []

-- 10: where it goes on to 11 the link in scratch is made too.
abbrev pub trace_ten : ℕ → List ℕ → Bool → Trace
trace_ten t xs built = trace (read_now t xs) built built []

-- 14: the old list walked and given back.
unfoldable pub trace_fourteen : View → ℕ → ℕ → Trace
trace_fourteen v s t =
    let xs = list_pages v v.party.old in
    trace (walked_from s t xs) false false xs

-- 29: the old list, then the partner's, whose link is read here.
unfoldable pub trace_twenty_nine : View → ℕ → ℕ → Trace
trace_twenty_nine v s t =
    let xs = list_pages v v.party.old in
    let ys = list_pages v (link_of (page_of v.pages (primary_page v.party.other))) in
    trace (walked_from s t xs ++ read_now t ys) false false (xs ++ ys)

-- What the step performed in call t does with links: its number, the view it met, its answer, the record's step number
-- after it; s and o are the calls at which the party's scratch link and old link were read.
unfoldable pub trace_of : ℕ → ℕ → View → StepReply → ℕ → ℕ → ℕ → Trace
trace_of t k v a next s o =
    let c = v.party.chain in
    cond (eqb k 6) (trace [] true false [])
    (cond (eqb k 9) (trace_nine v s a)
    (cond (eqb k 10) (trace_ten t (chain_pages v c) (eqb next 11))
    (cond (eqb k 14) (trace_fourteen v o t)
    (cond (eqb k 17) (trace_looked t (chain_pages v c) (is_moved a))
    (cond (eqb k 26) (trace_looked t (chain_pages v c ++ chain_pages v v.party.other) (is_moved a))
    (cond (eqb k 29) (trace_twenty_nine v o t) no_trace))))))

-- ---- Over a run

-- The number of calls made; by party, the calls at which its scratch link and its old link were read; by page, the call
-- that gave it back last, 0 for none.
pub record Clock : Type 0 where
  pub calls : ℕ
  pub scratch_read : ℕ → ℕ
  pub old_read : ℕ → ℕ
  pub given_at : ℕ → ℕ

unfoldable pub clock_start : Clock
clock_start = record { calls = 0; scratch_read = λ q. 0; old_read = λ q. 0; given_at = λ x. 0 }

-- What call number t does with links.
unfoldable pub trace_of_step : Clock → Memory → ℕ → Trace
trace_of_step k m q =
    let c = step_call m q in
    let next = (party_at c.memory.parties q).step in
    cond (performs c.answer)
    (trace_of (k.calls + 1) (party_at m.parties q).step (view_of m q) c.answer next (k.scratch_read q) (k.old_read q)) no_trace

-- A withdraw accepted at 11: the list that scratch leads to, walked and given back. At every other step number it has
-- no pages.
unfoldable pub trace_answered : Clock → Memory → ℕ → CallReply → Trace
trace_answered k m q (Ok _) =
    let xs = pages_listed (built_pages (view_of m q)) in
    trace (walked_from (k.scratch_read q) (k.calls + 1) xs) false false xs
trace_answered k m q (Err c) = no_trace

unfoldable pub trace_of_withdraw : Clock → Memory → ℕ → Trace
trace_of_withdraw k m q = trace_answered k m q (withdraw_call m q).answer

unfoldable pub trace_of_call : Clock → Memory → Call → Trace
trace_of_call k m (begin_for q o key) = no_trace
trace_of_call k m (step_for q) = trace_of_step k m q
trace_of_call k m (withdraw_for q) = trace_of_withdraw k m q

-- The clock after a call of party q.
unfoldable pub ticked : Clock → ℕ → Trace → Clock
ticked k q t = record {
  calls = k.calls + 1;
  scratch_read = cond t.into_scratch (changed_at k.scratch_read q (k.calls + 1)) k.scratch_read;
  old_read = cond t.into_old (changed_at k.old_read q (k.calls + 1)) k.old_read;
  given_at = λ x. cond (is_among x t.gives) (k.calls + 1) (k.given_at x);
}

unfoldable pub clock_after : Clock → Memory → Call → Clock
clock_after k m (begin_for q o key) = ticked k q no_trace
clock_after k m (step_for q) = ticked k q (trace_of_step k m q)
clock_after k m (withdraw_for q) = ticked k q (trace_of_withdraw k m q)

-- Whether no page followed was given back since its link was read.
unfoldable pub all_fresh : Clock → List Follow → Bool
all_fresh k [] = true
all_fresh k (f ∷ fs) = ltb (k.given_at f.page) f.read_at && all_fresh k fs

-- The link rule over a list of calls.
unfoldable pub links_fresh : Clock → Memory → List Call → Bool
links_fresh k m [] = true
links_fresh k m (c ∷ cs) = all_fresh k (trace_of_call k m c).follows && links_fresh (clock_after k m c) (after_call m c) cs
