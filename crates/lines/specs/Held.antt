-- The file as a program holds it: which memory a call is lent, and what is held after it.
-- Main definitions: held_in; SameParts (a file is still made of the same memory); held_format, held_begin, held_step,
-- held_withdraw, held_take_up: each gives the answer, all that is held and all lent words afterwards.
use Rattle.std.specs.Prelude.{◌≡◌, ◌++◌, ℕ, take, drop}
use Rattle.model.specs.declared.Operation.{Operation}
use Rattle.model.specs.declared.FileSizes.{FileSizes}
use Rattle.model.specs.Answers.{CallReply, StepReply}
use Rattle.model.specs.Memory.{Memory}
use Rattle.model.specs.Calls.{Called, called, format_call, begin_call, step_call, withdraw_call}
use Rattle.model.specs.TakeUp.{take_up_call}
use Rattle.calls.specs.Lent.{lent}
use Rattle.lines.specs.declared.File.{File}

-- All that is held.
abbrev pub held_in : File → Memory
held_in f = lent f.root.now f.row.now f.locks.now f.pages.now f.waiting.now

-- A file before and after holds the same five of its maker's borrows: what is left in it is left in the maker's memory.
abbrev pub SameParts : File → File → Type 0
SameParts f g =
    (g.root.ghost_name ≡ f.root.ghost_name) × (g.row.ghost_name ≡ f.row.ghost_name) × (g.locks.ghost_name ≡ f.locks.ghost_name)
    × (g.pages.ghost_name ≡ f.pages.ghost_name) × (g.waiting.ghost_name ≡ f.waiting.ghost_name)

-- The memory with the first n records alone, or all where there are fewer: what a call goes by.
abbrev pub first_of : ℕ → Memory → Memory
first_of n m = lent m.root (take n m.parties) m.locks m.pages m.waiting

-- What such a call leaves of it, with the records past n as they were.
abbrev pub with_rest : {A : Type 0} → ℕ → Memory → Called A → Called A
with_rest n m c =
    called c.answer (lent c.memory.root (c.memory.parties ++ drop n m.parties) c.memory.locks c.memory.pages c.memory.waiting)

-- Format with these sizes.
abbrev pub held_format : Memory → FileSizes → Called CallReply
held_format m z =
    let n = z.parties in
    with_rest n m (format_call (first_of n m) z.originals z.capacity z.primaries z.overflow z.parties)

-- Begin an operation with key k for party q.
abbrev pub held_begin : Memory → ℕ → Operation → ℕ → Called CallReply
held_begin m q o k =
    let n = m.root.parties in
    with_rest n m (begin_call (first_of n m) q o k)

-- One step for party q.
abbrev pub held_step : Memory → ℕ → Called StepReply
held_step m q =
    let n = m.root.parties in
    with_rest n m (step_call (first_of n m) q)

-- Withdraw for party q.
abbrev pub held_withdraw : Memory → ℕ → Called CallReply
held_withdraw m q =
    let n = m.root.parties in
    with_rest n m (withdraw_call (first_of n m) q)

-- Take the file up.
abbrev pub held_take_up : Memory → Called CallReply
held_take_up m =
    let n = m.root.parties in
    with_rest n m (take_up_call (first_of n m))
