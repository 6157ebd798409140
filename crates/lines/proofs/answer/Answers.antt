-- `lines::answer` meets its contract: what the line asks for is performed, then its reply printed.
use mathlib.Core.Path.{◌∙◌, ap}
use Prim.Native.Nat.{◌+◌}
use lib.ListN.{length}
use lib.Seq.{sets}
use Rattle.model.specs.Calls.{Called}
use Rattle.forms.specs.declared.Reply.{Reply}
use Rattle.forms.specs.Replies.{reply_text}
use Rattle.forms.specs.Printing.{longest_reply, given}
use Rattle.lines.proofs.answer.Goals as goal

pub returns : goal.returns
returns c =
    let a = c.args in
    let done = c.perform_line-reply.ensures.reply in
    let print = c.print_reply.ensures in
    let reply = ap (λ (d : Called Reply). d.answer) done in
    record {
      parts = c.perform_line-reply.ensures.parts;
      memory_after = ap (λ (d : Called Reply). d.memory) done;
      out_after = print.out_after ∙ ap (λ (t : Reply). sets a.out.now a.at (given (length a.out.now) a.at longest_reply (reply_text t))) reply;
      end_value = print.value ∙ ap (λ (t : Reply). a.at + length (given (length a.out.now) a.at longest_reply (reply_text t))) reply;
    }
