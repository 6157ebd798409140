-- "No page" changes nothing (document 01, step 10: a shortage is found before anything is written): an operation that is answered no page has performed no step 11 since its begin.
-- Main definitions: wrote_after (which operations have performed step 11), no_page_right (one event), no_page_kept (over a whole list).
use Rattle.std.specs.Prelude.{Bool, true, false, cond, not, ◌&&◌, List, [], ◌∷◌, ℕ, eqb, Ok, Err}
use Rattle.model.specs.declared.StepAnswer.{StepAnswer}
use Rattle.model.specs.Runs.{Call, begin_for, step_for, withdraw_for, Reply, to_begin, to_step, to_withdraw, Event}
use Rattle.model.specs.Book.{changed_at}
use Rattle.model.specs.Answers.{performs, StepReply, CallReply}
use Rattle.theory.specs.PlainMap.{is_no_page}

-- Nobody has performed step 11 at first. By party, whether it has since its last begin.
unfoldable pub none_wrote : ℕ → Bool
none_wrote q = false

-- Whether a step of this number, answered so, is a step 11 performed.
unfoldable pub is_writing : ℕ → StepReply → Bool
is_writing number a = performs a && eqb number 11

-- After a begin of party q, and after a step of it of this number.
unfoldable pub wrote_begin : (ℕ → Bool) → ℕ → CallReply → ℕ → Bool
wrote_begin w q (Ok _) = changed_at w q false
wrote_begin w q (Err c) = w

unfoldable pub wrote_step : (ℕ → Bool) → ℕ → ℕ → StepReply → ℕ → Bool
wrote_step w q number a = cond (is_writing number a) (changed_at w q true) w

-- After an event.
unfoldable pub wrote_after : (ℕ → Bool) → Call → ℕ → Reply → ℕ → Bool
wrote_after w (begin_for q o k) number (to_begin a) = wrote_begin w q a
wrote_after w (begin_for q o k) number (to_step a) = w
wrote_after w (begin_for q o k) number (to_withdraw a) = w
wrote_after w (step_for q) number (to_begin a) = w
wrote_after w (step_for q) number (to_step a) = wrote_step w q number a
wrote_after w (step_for q) number (to_withdraw a) = w
wrote_after w (withdraw_for q) number x = w

-- Whether an operation ends with no page.
unfoldable pub ends_no_page : StepReply → Bool
ends_no_page (Ok StepAnswer.Waiting) = false
ends_no_page (Ok StepAnswer.Moved) = false
ends_no_page (Ok (StepAnswer.Done a s)) = is_no_page a
ends_no_page (Err c) = false

-- One that does has performed no step 11, this step included.
unfoldable pub no_page_right : (ℕ → Bool) → Call → ℕ → Reply → Bool
no_page_right w (begin_for q o k) number x = true
no_page_right w (step_for q) number (to_begin a) = true
no_page_right w (step_for q) number (to_step a) = not (ends_no_page a && wrote_step w q number a q)
no_page_right w (step_for q) number (to_withdraw a) = true
no_page_right w (withdraw_for q) number x = true

-- Over the events of a run.
unfoldable pub no_page_kept : (ℕ → Bool) → List Event → Bool
no_page_kept w [] = true
no_page_kept w (e ∷ es) = no_page_right w e.call e.number e.reply && no_page_kept (wrote_after w e.call e.number e.reply) es
