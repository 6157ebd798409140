-- Take-up in what turns prints: after a take-up that answered ok, a schedule's replies are those of the model's calls
-- from the file that is held, of which the demands speak; and a take-up between two forms changes nothing.
-- Main statements: take_up_kept (no memory is altered, whatever its contents), take_up_starts (the answer ok says that
-- the file held may start a run), start_printed (a schedule from there), take_up_printed (what a take-up answers in
-- the course of it), take_up_between (forms before and after a take-up).
use mathlib.Core.Path.{◌≡◌, refl, sym, ◌∙◌, ap}
use mathlib.Core.List.{List, [], ◌∷◌, ◌++◌, map}
use Prim.Native.Nat.{ℕ}
use lib.ListN.{take-append-drop}
use Rattle.std.specs.Prelude.{Result, Ok, Err}
use Rattle.model.specs.declared.Refusal.{Refusal}
use Rattle.model.specs.Answers.{CallReply, cause_number}
use Rattle.model.specs.Sizes.{lock_words, all_page_words}
use Rattle.model.specs.Memory.{Memory}
use Rattle.model.specs.Calls.{Called}
use Rattle.model.specs.TakeUp.{take_up_call}
use Rattle.model.specs.Runs.{Call, events}
use Rattle.theory.specs.Demands.{Start, start, book_start, Reached}
use Rattle.theory.proofs.Reached.{started_inv}
use Rattle.model.proofs.Theorems.RefusalOrder.{take_up_order}
use Rattle.theory.proofs.TakenUp.{taken_start}
use Rattle.calls.specs.Lent.{lent}
use Rattle.forms.specs.declared.Form.{Form}
use Rattle.forms.specs.declared.Reply.{Reply}
use Rattle.lines.specs.Lines.{by_number, performed}
use Rattle.lines.specs.Schedules.{file_in, forms_answered, form_of, reply_of}
use Rattle.lines.proofs.Schedules.{calls_printed}

-- ---- One take-up

-- Nothing that is held or lent is altered.
pub take_up_kept : (m : Memory) → (performed Form.TakeUp m).memory ≡ m
unfolding performed take_up_call
take_up_kept m =
    λ i. lent m.root (take-append-drop m.root.parties m.parties i) (take-append-drop (lock_words m.root) m.locks i) (take-append-drop (all_page_words m.root) m.pages i)
    (take-append-drop m.root.parties m.waiting i)

-- The answer is the one that take-up gives for the file held.
answered : (m : Memory) → (performed Form.TakeUp m).answer ≡ Reply.TakeUp (by_number (take_up_call (file_in m)).answer)
unfolding performed
answered m = refl

-- Where it is ok, the call's was.
was_ok : {A : Type 0} (x : Result A Refusal) (a : A) → by_number x ≡ Ok a → x ≡ Ok a
unfolding by_number
was_ok {A} (Ok b) a e =
    let given : ◌≡◌ {A = Result A ℕ} (Ok b) (Ok a) = e in
    let same : b ≡ a = cc in
    ap (λ (x : A). Ok x) same
was_ok {A} (Err c) a e = let none : ◌≡◌ {A = Result A ℕ} (Err (cause_number c)) (Ok a) = e in cc

-- The file held is one that a run may start from.
pub record HeldStart (m : Memory) : Type 0 where
  pub begins : Start
  pub starts : file_in m ≡ start begins

pub take_up_starts : (m : Memory) → (performed Form.TakeUp m).answer ≡ Reply.TakeUp (Ok tt) → HeldStart m
unfolding taken_start
take_up_starts m e =
    let same : Reply.TakeUp (by_number (take_up_call (file_in m)).answer) ≡ Reply.TakeUp (Ok tt) = sym (answered m) ∙ e in
    let ok : by_number (take_up_call (file_in m)).answer ≡ Ok tt = cc in
    record { begins = taken_start (file_in m) (was_ok (take_up_call (file_in m)).answer tt ok); starts = refl }

-- ---- A schedule after it

-- From a file that passes, held in whatever memory: turns prints that it is taken up, then the replies of the
-- schedule.
pub start_printed : (s : Start) (cs : List Call) (m : Memory) → file_in m ≡ start s
    → (forms_answered (Form.TakeUp ∷ map form_of cs) m).answer ≡ Reply.TakeUp (Ok tt) ∷ map reply_of (events (start s) cs)
unfolding forms_answered by_number
start_printed s cs m e =
    let passes : (take_up_call (start s)).answer ≡ Ok tt = ap (λ (c : Called CallReply). c.answer) ((take_up_order (start s)).none s.sizes_fit s.lengths_fit_ok s.saved) in
    let first : (performed Form.TakeUp m).answer ≡ Reply.TakeUp (Ok tt) = answered m ∙ ap (λ (x : Memory). Reply.TakeUp (by_number (take_up_call x).answer)) e ∙ ap (λ (a : CallReply). Reply.TakeUp (by_number a)) passes in
    let rest : (forms_answered (map form_of cs) (performed Form.TakeUp m).memory).answer ≡ map reply_of (events (start s) cs) =
    ap (λ (x : Memory). (forms_answered (map form_of cs) x).answer) (take_up_kept m) ∙ (calls_printed cs m (start s) (book_start s) (started_inv s) e).0 in
    λ i. first i ∷ rest i

-- In the course of the schedule a take-up prints what take-up answers for the memory reached.
pub take_up_printed : (s : Start) (cs : List Call) (m : Memory) → file_in m ≡ start s
    → (performed Form.TakeUp (forms_answered (map form_of cs) m).memory).answer ≡ Reply.TakeUp (by_number (take_up_call (Reached s cs)).answer)
take_up_printed s cs m e =
    answered (forms_answered (map form_of cs) m).memory
    ∙ ap (λ (x : Memory). Reply.TakeUp (by_number (take_up_call x).answer)) (calls_printed cs m (start s) (book_start s) (started_inv s) e).1

-- ---- Between two forms

-- A list of forms after another.
parted_answers : (fs gs : List Form) (m : Memory)
    → (forms_answered (fs ++ gs) m).answer ≡ (forms_answered fs m).answer ++ (forms_answered gs (forms_answered fs m).memory).answer
unfolding forms_answered
parted_answers [] gs m = refl
parted_answers (f ∷ fs) gs m = ap (λ (rs : List Reply). (performed f m).answer ∷ rs) (parted_answers fs gs (performed f m).memory)

parted_memory : (fs gs : List Form) (m : Memory) → (forms_answered (fs ++ gs) m).memory ≡ (forms_answered gs (forms_answered fs m).memory).memory
unfolding forms_answered
parted_memory [] gs m = refl
parted_memory (f ∷ fs) gs m = parted_memory fs gs (performed f m).memory

-- Forms with a take-up among them: the replies to the others are those without it, its own stands between them, and
-- the memory is the same.
pub record Between (fs gs : List Form) (m : Memory) : Type 0 where
  pub before : List Reply
  pub after : List Reply
  pub own : CallReply
  pub without : (forms_answered (fs ++ gs) m).answer ≡ before ++ after
  pub with_it : (forms_answered (fs ++ (Form.TakeUp ∷ gs)) m).answer ≡ before ++ (Reply.TakeUp (by_number own) ∷ after)
  pub memory : (forms_answered (fs ++ (Form.TakeUp ∷ gs)) m).memory ≡ (forms_answered (fs ++ gs) m).memory

pub take_up_between : (fs gs : List Form) (m : Memory) → Between fs gs m
unfolding forms_answered
take_up_between fs gs m =
    let n = (forms_answered fs m).memory in
    let kept = take_up_kept n in
    record {
      before = (forms_answered fs m).answer;
      after = (forms_answered gs n).answer;
      own = (take_up_call (file_in n)).answer;
      without = parted_answers fs gs m;
      with_it =
          parted_answers fs (Form.TakeUp ∷ gs) m
          ∙ ap (λ (rs : List Reply). (forms_answered fs m).answer ++ ((performed Form.TakeUp n).answer ∷ rs)) (ap (λ (x : Memory). (forms_answered gs x).answer) kept)
          ∙ ap (λ (r : Reply). (forms_answered fs m).answer ++ (r ∷ (forms_answered gs n).answer)) (answered n);
      memory = parted_memory fs (Form.TakeUp ∷ gs) m ∙ ap (λ (x : Memory). (forms_answered gs x).memory) kept ∙ sym (parted_memory fs gs m);
    }
