-- What a step can have changed of the root and of its party's record, by its number and its answer; and what both
-- records are where only those words are stored.
-- Main definitions: locates, advances, mark_of; advanced_in, located_in, changed_in, moved_in (a record with the words that
-- such a step changes); root_by, party_by (what is stored by a mark). That a step changes no other word:
-- proofs/Marks.antt.
use Rattle.std.specs.Prelude.{Bool, cond, ◌||◌, ℕ, ltb, eqb, Ok, Err}
use Rattle.model.specs.declared.Root.{Root}
use Rattle.model.specs.declared.Party.{Party}
use Rattle.model.specs.declared.StepAnswer.{StepAnswer}
use Rattle.model.specs.Answers.{StepReply}
use Rattle.model.specs.Records.{idle}
use Rattle.marks.specs.declared.Mark.{Mark}

-- Whether a step locates: 1 to 9.
abbrev pub locates : ℕ → Bool
locates k = ltb k 10

-- Whether a step that moves changes the step number alone.
abbrev pub advances : ℕ → Bool
advances k =
    let locate = (((eqb k 1 || eqb k 4) || eqb k 5) || eqb k 7) || eqb k 8 in
    let change = (eqb k 11 || eqb k 12) || eqb k 13 in
    let split = (eqb k 15 || eqb k 18) || eqb k 19 in
    let merge = (eqb k 23 || eqb k 25) || eqb k 28 in
    ((locate || change) || split) || merge

-- The mark of step k that answered so.
abbrev pub mark_of : ℕ → StepReply → Mark
mark_of k (Ok StepAnswer.Waiting) = Mark.Advanced
mark_of k (Ok StepAnswer.Moved) = cond (advances k) Mark.Advanced (cond (locates k) Mark.Located Mark.Changed)
mark_of k (Ok (StepAnswer.Done a s)) = Mark.Ended
mark_of k (Err c) = Mark.Advanced

-- The record p with the step of x.
abbrev pub advanced_in : Party → Party → Party
advanced_in p x = record {
  operation = p.operation;
  key = p.key;
  step = x.step;
  lev = p.lev;
  chain = p.chain;
  other = p.other;
  old = p.old;
  owed = p.owed;
  answer = p.answer;
  setting = p.setting;
}

-- The record p with step, lev, chain and other of x.
abbrev pub located_in : Party → Party → Party
located_in p x = record {
  operation = p.operation;
  key = p.key;
  step = x.step;
  lev = x.lev;
  chain = x.chain;
  other = x.other;
  old = p.old;
  owed = p.owed;
  answer = p.answer;
  setting = p.setting;
}

-- The record p with step, chain, other, old, owed and answer of x.
abbrev pub changed_in : Party → Party → Party
changed_in p x = record {
  operation = p.operation;
  key = p.key;
  step = x.step;
  lev = p.lev;
  chain = x.chain;
  other = x.other;
  old = x.old;
  owed = x.owed;
  answer = x.answer;
  setting = p.setting;
}

-- The root r with level, next, head and free of x.
abbrev pub moved_in : Root → Root → Root
moved_in r x = record {
  originals = r.originals;
  capacity = r.capacity;
  primaries = r.primaries;
  overflow = r.overflow;
  parties = r.parties;
  level = x.level;
  next = x.next;
  head = x.head;
  free = x.free;
}

-- The root r, where of x only the words are stored that a step with this mark can have changed.
abbrev pub root_by : Mark → Root → Root → Root
root_by Mark.Advanced r x = r
root_by Mark.Located r x = r
root_by Mark.Ended r x = moved_in r x
root_by Mark.Changed r x = moved_in r x

-- The record p, where only those of x are stored.
abbrev pub party_by : Mark → Party → Party → Party
party_by Mark.Advanced p x = advanced_in p x
party_by Mark.Located p x = located_in p x
party_by Mark.Ended p x = idle
party_by Mark.Changed p x = changed_in p x
