-- What turns prints for a schedule: the replies of the model's calls, of which the demands speak (theory's specs/Demands.antt).
-- Main statements: format_starts (a format makes the file that schedules start from), calls_printed (begins, steps and withdraws after it), schedule_printed (both, in the memory that turns has).
use mathlib.Core.Path.{◌≡◌, refl, sym, ◌∙◌, ap, subst}
use mathlib.Core.Bool.{true}
use mathlib.Core.List.{List, [], ◌∷◌, ◌++◌, map}
use Prim.Native.Nat.{ℕ, ◌≤◌}
use native.Mathlib.Omega.{arith}
use lib.ListN.{length, drop}
use lib.Seq.{take_at, length-take-le}
use Rattle.std.specs.Prelude.{Ok}
use Rattle.model.specs.declared.Party.{Party}
use Rattle.model.specs.Answers.{CallReply}
use Rattle.model.specs.Sizes.{lock_words, all_page_words}
use Rattle.model.specs.Refusals.{lengths_fit}
use Rattle.model.specs.Memory.{Memory, formatted, formatted_root}
use Rattle.model.specs.Calls.{Called, called, format_call}
use Rattle.model.specs.Book.{Book, empty_book}
use Rattle.model.specs.Runs.{Call, begin_for, step_for, withdraw_for, reply_to, after_call, event_of, events, final_memory}
use Rattle.model.proofs.Laws.Lists.{eqb_same}
use Rattle.model.proofs.Invariant.Statement.{Inv}
use Rattle.model.proofs.Theorems.Calls.{call_kept}
use Rattle.model.proofs.Theorems.AllSteps.{steps_kept}
use Rattle.model.proofs.Theorems.RefusalOrder.{format_order}
use Rattle.theory.specs.Demands.{Sizes, sizes_given}
use Rattle.model.proofs.Invariant.Start.{start_inv}
use Rattle.calls.specs.Lent.{lent}
use Rattle.lines.specs.Held.{first_of}
use Rattle.forms.specs.declared.Form.{Form}
use Rattle.forms.specs.declared.Reply.{Reply}
use Rattle.lines.specs.Lines.{words_for, by_number, performed}
use Rattle.lines.specs.Schedules.{file_in, forms_answered, file_sizes, form_of, reply_as, reply_of}

-- A memory with other records and words behind it is the file in both together.
file_in_lem : (m : Memory) (b : Book) → Inv m b → (xs : List Party) (ls gs ws : List ℕ)
    → file_in (lent m.root (m.parties ++ xs) (m.locks ++ ls) (m.pages ++ gs) (m.waiting ++ ws)) ≡ m
file_in_lem m b i xs ls gs ws =
    λ j. lent m.root (take_at m.parties xs m.root.parties i.parties_many j) (take_at m.locks ls (lock_words m.root) i.locks_ok.as_many j)
    (take_at m.pages gs (all_page_words m.root) i.pages_many j) (take_at m.waiting ws m.root.parties i.row_ok.long j)

-- ---- A format

formatted_inv : (s : Sizes) → Inv (formatted (sizes_given s)) empty_book
formatted_inv s = start_inv s.originals s.capacity s.primaries s.overflow s.parties s.fit

-- Where there are records and words enough, a format of these sizes is accepted, and makes the file that every schedule starts from.
pub format_starts : (s : Sizes) (m : Memory) → length m.parties ≡ 16 → lock_words (sizes_given s) ≤ length m.locks → all_page_words (sizes_given s) ≤ length m.pages
    → s.parties ≤ length m.waiting
    → ((performed (Form.Format (file_sizes s)) m).answer ≡ Reply.Format (Ok tt)) × (file_in (performed (Form.Format (file_sizes s)) m).memory ≡ formatted (sizes_given s))
unfolding performed by_number lengths_fit formatted formatted_root
format_starts s m records locks pages waiting = (ap (λ (c : Called CallReply). Reply.Format (by_number c.answer)) made, ap (λ (c : Called CallReply). file_in (behind c.memory)) made ∙ file_in_lem (formatted (sizes_given s)) empty_book (formatted_inv s) _ _ _ _)
  where
    given : Memory
    given = first_of s.parties (words_for (sizes_given s) m)

    behind : Memory → Memory
    behind x =
        lent x.root (x.parties ++ drop s.parties m.parties) (x.locks ++ drop (lock_words (sizes_given s)) m.locks) (x.pages ++ drop (all_page_words (sizes_given s)) m.pages)
        (x.waiting ++ drop s.parties m.waiting)

    fits : lengths_fit (sizes_given s) given ≡ true
    fits =
        rw (
          eqb_same (length given.parties) s.parties (length-take-le s.parties m.parties (rw records (formatted_inv s).limits.parties_fit_lem)),
          eqb_same (length given.locks) (lock_words (sizes_given s)) (length-take-le (lock_words (sizes_given s)) m.locks locks),
          eqb_same (length given.pages) (all_page_words (sizes_given s)) (length-take-le (all_page_words (sizes_given s)) m.pages pages),
          eqb_same (length given.waiting) s.parties (length-take-le s.parties m.waiting waiting),
        ) refl

    made : format_call given s.originals s.capacity s.primaries s.overflow s.parties ≡ called (Ok tt) (formatted (sizes_given s))
    made = (format_order given s.originals s.capacity s.primaries s.overflow s.parties).none s.fit fits

-- ---- Begins, steps and withdraws

-- One call: its reply is the model's, and the file in what is held is the model's memory.
call_printed : (c : Call) (m : Memory) (b : Book) → Inv (file_in m) b
    → ((performed (form_of c) m).answer ≡ reply_as c (reply_to (file_in m) c)) × (file_in (performed (form_of c) m).memory ≡ after_call (file_in m) c)
unfolding performed form_of reply_as reply_to after_call
call_printed (begin_for q o k) m b i = (refl, file_in_lem (after_call (file_in m) (begin_for q o k)) _ (call_kept steps_kept (file_in m) b i (begin_for q o k)).inv _ _ _ _)
call_printed (step_for q) m b i = (refl, file_in_lem (after_call (file_in m) (step_for q)) _ (call_kept steps_kept (file_in m) b i (step_for q)).inv _ _ _ _)
call_printed (withdraw_for q) m b i = (refl, file_in_lem (after_call (file_in m) (withdraw_for q)) _ (call_kept steps_kept (file_in m) b i (withdraw_for q)).inv _ _ _ _)

-- A list of calls, on a file that the invariant holds of: what format makes, and what such calls make of it.
pub calls_printed : (cs : List Call) (m x : Memory) (b : Book) → Inv x b → file_in m ≡ x
    → ((forms_answered (map form_of cs) m).answer ≡ map reply_of (events x cs)) × (file_in (forms_answered (map form_of cs) m).memory ≡ final_memory x cs)
unfolding forms_answered events event_of final_memory
calls_printed [] m x b i e = (refl, e)
calls_printed (c ∷ cs) m x b i e =
    let one = call_printed c m b (subst (λ (y : Memory). Inv y b) (sym e) i) in
    let answer : (performed (form_of c) m).answer ≡ reply_as c (reply_to x c) = one.0 ∙ ap (λ (y : Memory). reply_as c (reply_to y c)) e in
    let after : file_in (performed (form_of c) m).memory ≡ after_call x c = one.1 ∙ ap (λ (y : Memory). after_call y c) e in
    let rest = calls_printed cs (performed (form_of c) m).memory (after_call x c) _ (call_kept steps_kept x b i c).inv after in
    (ap (λ (r : Reply). r ∷ (forms_answered (map form_of cs) (performed (form_of c) m).memory).answer) answer ∙ ap (λ (rs : List Reply). reply_as c (reply_to x c) ∷ rs) rest.0, rest.1)

-- ---- Both

-- In memory as large as turns has it, whatever its contents: for a format and the calls of a schedule turns prints that it formatted, then the replies of the schedule's events.
pub schedule_printed : (s : Sizes) (cs : List Call) (m : Memory) → length m.parties ≡ 16 → 257 ≤ length m.locks → 16384 ≤ length m.pages → 16 ≤ length m.waiting
    → (forms_answered (Form.Format (file_sizes s) ∷ map form_of cs) m).answer ≡ Reply.Format (Ok tt) ∷ map reply_of (events (formatted (sizes_given s)) cs)
unfolding forms_answered formatted formatted_root
schedule_printed s cs m records locks pages waiting =
    let limits = (formatted_inv s).limits in
    let first = format_starts s m records (omega (arith, limits.chains_fit_ok, locks)) (omega (arith, limits.chains_fit_ok, limits.overflow_fits, limits.parties_fit_lem, pages)) (omega (arith, limits.parties_fit_lem, waiting)) in
    let after = (performed (Form.Format (file_sizes s)) m).memory in
    let rest = calls_printed cs after (formatted (sizes_given s)) empty_book (formatted_inv s) first.1 in
    ap (λ (r : Reply). r ∷ (forms_answered (map form_of cs) after).answer) first.0 ∙ ap (λ (rs : List Reply). Reply.Format (Ok tt) ∷ rs) rest.0
