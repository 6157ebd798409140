-- `free_list::next_link` meets its contract: the link is tested first, then the mark of its page.
use Rattle.std.proofs.Common.{true, sym, ◌∙◌, arith}
use Rattle.model.specs.Pages.{link_of}
use Rattle.model.proofs.Laws.Tests.{named-within}
use Rattle.free_list.proofs.Marks.{unnamed_old, mark_decides, new_marks_with, old_marks_with, old_followed, new_followed}
use Rattle.free_list.proofs.next_link.Goals as goal

pub returns-then-not-names_overflow : goal.returns-then-not-names_overflow
returns-then-not-names_overflow c =
    let old = unnamed_old _ _ _ (sym c.names_overflow.ensures ∙ c.if-not-names_overflow.true) in
    record { link = sym (old_followed _ _ _ _ old); marks = sym (old_marks_with _ _ _ old) }

pub overflow_sub-page : goal.overflow_sub-page
overflow_sub-page c = let w = named-within _ _ (sym c.names_overflow.ensures ∙ c.if-not-names_overflow.false) in omega arith

pub overflow_sub-number : goal.overflow_sub-number
overflow_sub-number c = let w = named-within _ _ (sym c.names_overflow.ensures ∙ c.if-not-names_overflow.false) in omega arith

pub is_marked-requires : goal.is_marked-requires
is_marked-requires c = let w = named-within _ _ (sym c.names_overflow.ensures ∙ c.if-not-names_overflow.false) in omega arith

pub returns-then-is_marked : goal.returns-then-is_marked
returns-then-is_marked c =
    let named = sym c.names_overflow.ensures ∙ c.if-not-names_overflow.false in
    let old = mark_decides _ _ _ named true (sym c.is_marked.ensures ∙ c.if-is_marked.true) in
    record { link = sym (old_followed _ _ _ _ old); marks = sym (old_marks_with _ _ _ old) }

pub mark-requires : goal.mark-requires
mark-requires c = let w = named-within _ _ (sym c.names_overflow.ensures ∙ c.if-not-names_overflow.false) in omega arith

pub word-requires : goal.word-requires
word-requires c = let w = named-within _ _ (sym c.names_overflow.ensures ∙ c.if-not-names_overflow.false) in (omega arith, omega arith)

pub returns : goal.returns
unfolding link_of
returns c =
    let named = sym c.names_overflow.ensures ∙ c.if-not-names_overflow.false in
    let new = mark_decides _ _ _ named _ (sym c.is_marked.ensures ∙ c.if-is_marked.false) in
    record {
      link = rw c.word.ensures (sym (new_followed _ _ _ _ new));
      marks = c.mark.ensures ∙ sym (new_marks_with _ _ _ new);
    }
