-- The forms of a schedule: what turns prints for them, beside the replies that the model's calls give from formatted memory.
-- Main definitions: file_in (the file that turns holds, as its calls are lent it), forms_answered (a list of forms), form_of and reply_of (a call of a schedule as a form, an event's reply as it is
-- printed). That turns prints the replies of the schedule: proofs/Schedules.antt.
use Rattle.std.specs.Prelude.{List, [], ◌∷◌}
use Rattle.model.specs.declared.FileSizes.{FileSizes}
use Rattle.model.specs.Memory.{Memory}
use Rattle.model.specs.Calls.{Called, called}
use Rattle.model.specs.Runs.{Call, begin_for, step_for, withdraw_for, caller_of, to_begin, to_step, to_withdraw, Event}
use Rattle.model.specs.Runs as Runs
use Rattle.theory.specs.Demands.{Sizes}
use Rattle.lines.specs.Held.{first_of}
use Rattle.forms.specs.declared.Form.{Form}
use Rattle.forms.specs.declared.Reply.{Reply}
use Rattle.lines.specs.Lines.{words_for, by_number, performed}

-- The root record, and of the records and words held as many as its sizes ask for.
abbrev pub file_in : Memory → Memory
file_in m = first_of m.root.parties (words_for m.root m)

-- The replies to a list of forms, and the memory after it.
unfoldable pub forms_answered : List Form → Memory → Called (List Reply)
forms_answered [] m = called [] m
forms_answered (f ∷ fs) m =
    let c = performed f m in
    let d = forms_answered fs c.memory in
    called (c.answer ∷ d.answer) d.memory

-- The form that formats a file of these sizes.
abbrev pub file_sizes : Sizes → FileSizes
file_sizes s = record { originals = s.originals; capacity = s.capacity; primaries = s.primaries; overflow = s.overflow; parties = s.parties }

-- A call as a form.
unfoldable pub form_of : Call → Form
form_of (begin_for q o k) = Form.Begin q o k
form_of (step_for q) = Form.Step q
form_of (withdraw_for q) = Form.Withdraw q

-- What a call returned, as it is printed: the party stands first, and a refusal by its number.
unfoldable pub reply_as : Call → Runs.Reply → Reply
reply_as c (to_begin a) = Reply.Begin (caller_of c) (by_number a)
reply_as c (to_step a) = Reply.Step (caller_of c) (by_number a)
reply_as c (to_withdraw a) = Reply.Withdraw (caller_of c) (by_number a)

abbrev pub reply_of : Event → Reply
reply_of e = reply_as e.call e.reply
