-- The link rule: pages followed after they were given back, and the clock that says so.
-- Main statements: given-noted, given_before, read_noted, read_before, old_noted, old_before, calls_counted (the clock,
-- call by call); given-first, followed_first (9 beside 14), taken_back_first, read_back_first (9 beside a withdraw),
-- clock_at_start.
use mathlib.Core.Path.{◌≡◌, refl, ap}
use mathlib.Core.Bool.{Bool, true, false, cond}
use mathlib.Core.List.{[], ◌∷◌}
use Prim.Native.Nat.{ℕ, ◌+◌}
use Rattle.model.specs.FreeList.{is_among}
use Rattle.model.specs.Memory.{Memory}
use Rattle.model.specs.Runs.{step_for, withdraw_for}
use Rattle.model.specs.Book.{changed_at}
use Rattle.theory.specs.Links.{Clock, Trace, clock_start, ticked, links_fresh}
use Rattle.model.proofs.Refutations.Memories.{root_of, party_of, bare}
use Rattle.theory.proofs.Refutations.Opened.{opened}

-- ---- Two calls

-- One chain, one record a page, one overflow page, two parties. Party 0 finds 7: at 9, its scratch page has 5 and leads
-- to page 1. Party 1, at 14, gives page 1 back.
abbrev walking : Memory
walking = record {
  root = root_of 1 1 1 1 2 0 0 0 0;
  parties = party_of 1 7 9 0 0 0 0 0 0 0 ∷ party_of 2 3 14 0 0 0 2 0 1 0 ∷ [];
  locks = 0 ∷ 4194305 ∷ [];
  pages =
      0 ∷ 1 ∷ 0 ∷ 5 ∷ 0 ∷ 0 ∷ 0 ∷ 0 ∷ 0 ∷ 0 ∷ 0 ∷ 0 ∷ 0 ∷ 0 ∷ 0 ∷ 0 ∷
      0 ∷ 1 ∷ 0 ∷ 7 ∷ 9 ∷ 0 ∷ 0 ∷ 0 ∷ 0 ∷ 0 ∷ 0 ∷ 0 ∷ 0 ∷ 0 ∷ 0 ∷ 0 ∷
      0 ∷ 1 ∷ 2 ∷ 5 ∷ 0 ∷ 0 ∷ 0 ∷ 0 ∷ 0 ∷ 0 ∷ 0 ∷ 0 ∷ 0 ∷ 0 ∷ 0 ∷ 0 ∷ bare [];
  waiting = 0 ∷ 0 ∷ [];
}

-- The same, but party 1 is at 11 with page 1 built behind its own scratch page: a withdraw gives page 1 back.
abbrev building : Memory
building = record {
  root = root_of 1 1 1 1 2 0 0 0 0;
  parties = party_of 1 7 9 0 0 0 0 0 0 0 ∷ party_of 2 3 11 0 0 0 0 0 1 0 ∷ [];
  locks = 0 ∷ 131073 ∷ [];
  pages =
      0 ∷ 1 ∷ 0 ∷ 5 ∷ 0 ∷ 0 ∷ 0 ∷ 0 ∷ 0 ∷ 0 ∷ 0 ∷ 0 ∷ 0 ∷ 0 ∷ 0 ∷ 0 ∷
      0 ∷ 1 ∷ 0 ∷ 7 ∷ 9 ∷ 0 ∷ 0 ∷ 0 ∷ 0 ∷ 0 ∷ 0 ∷ 0 ∷ 0 ∷ 0 ∷ 0 ∷ 0 ∷
      0 ∷ 1 ∷ 2 ∷ 5 ∷ 0 ∷ 0 ∷ 0 ∷ 0 ∷ 0 ∷ 0 ∷ 0 ∷ 0 ∷ 0 ∷ 0 ∷ 0 ∷ 0 ∷
      0 ∷ 1 ∷ 2 ∷ 3 ∷ 0 ∷ 0 ∷ 0 ∷ 0 ∷ 0 ∷ 0 ∷ 0 ∷ 0 ∷ 0 ∷ 0 ∷ 0 ∷ 0 ∷ [];
  waiting = 0 ∷ 0 ∷ [];
}

-- Both links were read in call 1.
abbrev both_read : Clock
both_read = record { calls = 1; scratch_read = λ q. 1; old_read = λ q. 1; given_at = λ x. 0 }

given-first : links_fresh both_read walking (step_for 1 ∷ step_for 0 ∷ []) ≡ false
unfolding opened
given-first = refl

followed_first : links_fresh both_read walking (step_for 0 ∷ step_for 1 ∷ []) ≡ true
unfolding opened
followed_first = refl

taken_back_first : links_fresh both_read building (withdraw_for 1 ∷ step_for 0 ∷ []) ≡ false
unfolding opened
taken_back_first = refl

read_back_first : links_fresh both_read building (step_for 0 ∷ withdraw_for 1 ∷ []) ≡ true
unfolding opened
read_back_first = refl

-- With the clock at its start nothing may be followed that no call of the run has read.
clock_at_start : links_fresh clock_start walking (step_for 1 ∷ []) ≡ false
unfolding opened
clock_at_start = refl

withdraw_at_start : links_fresh clock_start building (withdraw_for 1 ∷ []) ≡ false
unfolding opened
withdraw_at_start = refl

-- ---- The clock after a call of party q that does t with links

module _ (k : Clock) (q : ℕ) (t : Trace) where
  pub calls_counted : (ticked k q t).calls ≡ k.calls + 1
  unfolding ticked
  calls_counted = refl

  -- A page given back is noted with the number of this call; every other keeps its own.
  pub given-noted : (x : ℕ) → is_among x t.gives ≡ true → (ticked k q t).given_at x ≡ k.calls + 1
  unfolding ticked
  given-noted x h = ap (λ (b : Bool). cond b (k.calls + 1) (k.given_at x)) h

  pub given_before : (x : ℕ) → is_among x t.gives ≡ false → (ticked k q t).given_at x ≡ k.given_at x
  unfolding ticked
  given_before x h = ap (λ (b : Bool). cond b (k.calls + 1) (k.given_at x)) h

  -- So are the links that were read: of party q, and only where the trace says so.
  pub read_noted : t.into_scratch ≡ true → (ticked k q t).scratch_read ≡ changed_at k.scratch_read q (k.calls + 1)
  unfolding ticked
  read_noted h = rw h refl

  pub read_before : t.into_scratch ≡ false → (ticked k q t).scratch_read ≡ k.scratch_read
  unfolding ticked
  read_before h = rw h refl

  pub old_noted : t.into_old ≡ true → (ticked k q t).old_read ≡ changed_at k.old_read q (k.calls + 1)
  unfolding ticked
  old_noted h = rw h refl

  pub old_before : t.into_old ≡ false → (ticked k q t).old_read ≡ k.old_read
  unfolding ticked
  old_before h = rw h refl
