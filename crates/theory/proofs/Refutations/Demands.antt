-- What the demands give their reader of a single call or chain: each takes a field that nothing else reads, so that
-- none can be emptied unseen.
-- Main statements: first_granted (grants), last_no_page (no page), within_figures (calls), none-withdrawn_late
-- (withdraws), chain_after (an operation run alone), earlier_first (real time), read_by_eleven (traces).
use mathlib.Core.Path.{◌≡◌, sym, ◌∙◌}
use mathlib.Core.Logic.{◌≢◌}
use mathlib.Core.Bool.{true, false, false≢true}
use mathlib.Core.List.{List, [], ◌∷◌, ◌++◌}
use mathlib.Core.Option.{some}
use Prim.Native.Nat.{ℕ, ◌<◌}
use Rattle.model.specs.Chains.{chain_of, sound}
use Rattle.model.specs.Effects.{record_after}
use Rattle.model.specs.GivenSizes.{sized_root}
use Rattle.model.specs.Memory.{Memory}
use Rattle.model.specs.Runs.{Call, event_of, events, after_call}
use Rattle.model.specs.Holds.{call_right, grants_right, holds_after, waits_after}
use Rattle.model.specs.Progress.{book_after_call}
use Rattle.theory.specs.Links.{Clock, trace_of_step}
use Rattle.theory.specs.NoPage.{none_wrote, no_page_right, no_page_kept, wrote_after}
use Rattle.theory.specs.Sequential.{chains_in}
use Rattle.theory.specs.Singly.{Wanted, calls_alone}
use Rattle.theory.specs.Reads.{TraceTrue}
use Rattle.theory.specs.CallsBounded.{most_calls, most_by_sizes, none_counted, calls_bounded, CallsRight}
use Rattle.theory.specs.Demands.{Start, start, sizes_of, book_start, Reached, file_reached, ScheduleRight, GrantsRight, RunSingly}
use Rattle.theory.specs.Linearization.{IsOneOf, Ended, Linearized, StandsBefore, Linearization}
use Rattle.theory.specs.Withdrawals.{withdrawn_unwritten, WithdrawalsRight}
use Rattle.model.proofs.Laws.Lists.{and_both}

module _ (s : Start) (c : Call) (cs : List Call) where
  -- The first call of a list is answered rightly.
  pub first_granted : GrantsRight s (c ∷ cs) → call_right (sizes_of s) (book_start s) [] [] (start s) c ≡ true
  unfolding grants_right
  first_granted g =
      (and_both (call_right (sizes_of s) (book_start s) [] [] (start s) c)
      (grants_right (sizes_of s) (book_after_call (book_start s) (start s) c) (holds_after (sizes_of s) [] (start s) c) (waits_after (sizes_of s) [] (start s) c) (after_call (start s) c) cs) g.grants).0

  -- It does not end with no page after an 11.
  pub last_no_page : ScheduleRight s (c ∷ cs) → no_page_right none_wrote (event_of (start s) c).call (event_of (start s) c).number (event_of (start s) c).reply ≡ true
  unfolding no_page_kept events
  last_no_page r =
      let e = event_of (start s) c in
      (and_both (no_page_right none_wrote e.call e.number e.reply) (no_page_kept (wrote_after none_wrote e.call e.number e.reply) (events (after_call (start s) c) cs)) r.no_page).0

module _ (s : Start) (cs : List Call) where
  -- The calls of every operation are within both figures.
  pub within_figures : CallsRight s cs
      → (calls_bounded (most_calls (sizes_of s)) none_counted (events (start s) cs) ≡ true) × (calls_bounded (most_by_sizes (sizes_of s)) none_counted (events (start s) cs) ≡ true)
  within_figures r = (r.bounded, r.by_sizes_ok)

  pub none-withdrawn_late : WithdrawalsRight s cs → withdrawn_unwritten none_wrote (events (start s) cs) ≢ false
  none-withdrawn_late w e = false≢true (sym e ∙ w.none_written)

  -- Every chain reads as sound after an operation run alone.
  pub chain_after : (x : Wanted) (y : RunSingly s cs x) (c : ℕ) → c < chains_in (sizes_of s) (file_reached s (cs ++ calls_alone x y.moves))
      → chain_of (sized_root (sizes_of s) (Reached s (cs ++ calls_alone x y.moves)).root) (Reached s (cs ++ calls_alone x y.moves)).pages c ≡ sound (y.reads_after.chain c)
  chain_after x y c h = y.reads_after.reads c h

  -- An operation answered before another begins stands before it.
  pub earlier_first : (l : Linearization s cs) (x y : Linearized) (a : Ended) → IsOneOf x l.order → IsOneOf y l.order → x.operated.ended ≡ some a → a.call < y.operated.begun
      → StandsBefore x y l.order
  earlier_first l x y a i j e b = l.real_time x y a i j e b

-- A party comes to 11 only with a link made in that call.
pub read_by_eleven : (k : Clock) (m : Memory) (q : ℕ) → TraceTrue k m q → (trace_of_step k m q).into_scratch ≡ false → (record_after m q).step ≢ 11
read_by_eleven k m q t n e = false≢true (sym n ∙ t.scratch_built e)
