-- The root record and a party's record, changed one field at a time (document 01, "The lent memory").
-- Here alone a record is written out in full: everything else goes through these updates, so that a new field is added in one place.
-- Main definitions: the numbers of operations and of what is owed; idle (the zero record), at_step and the other updates.
use Rattle.std.specs.Prelude.{ℕ}
use Rattle.model.specs.declared.Root.{Root}
use Rattle.model.specs.declared.Party.{Party}
use Rattle.model.specs.declared.FileSizes.{FileSizes}

-- "operation (0 idle, 1 find, 2 insert, 3 delete)".
abbrev pub idle_operation : ℕ
idle_operation = 0

abbrev pub find_operation : ℕ
find_operation = 1

abbrev pub insert_operation : ℕ
insert_operation = 2

abbrev pub delete_operation : ℕ
delete_operation = 3

-- "restructure owed (0 none, 1 split, 2 merge, 3 split made)".
abbrev pub owes_none : ℕ
owes_none = 0

abbrev pub owes_split : ℕ
owes_split = 1

abbrev pub owes_merge : ℕ
owes_merge = 2

abbrev pub split_made : ℕ
split_made = 3

-- ---- Updates

-- The root with another level.
abbrev pub with_level : ℕ → Root → Root
with_level x r = record {
  originals = r.originals;
  capacity = r.capacity;
  primaries = r.primaries;
  overflow = r.overflow;
  parties = r.parties;
  level = x;
  next = r.next;
  head = r.head;
  free = r.free;
}

-- The root with another next.
abbrev pub with_next : ℕ → Root → Root
with_next x r = record {
  originals = r.originals;
  capacity = r.capacity;
  primaries = r.primaries;
  overflow = r.overflow;
  parties = r.parties;
  level = r.level;
  next = x;
  head = r.head;
  free = r.free;
}

-- The root with another free list: its head, as a link word, and its length.
abbrev pub with_free_list : ℕ → ℕ → Root → Root
with_free_list h n r = record {
  originals = r.originals;
  capacity = r.capacity;
  primaries = r.primaries;
  overflow = r.overflow;
  parties = r.parties;
  level = r.level;
  next = r.next;
  head = h;
  free = n;
}

-- A root record of the sizes given, N b P V Q, all else zero.
abbrev pub root_of_sizes : ℕ → ℕ → ℕ → ℕ → ℕ → Root
root_of_sizes n b p v q = record { originals = n; capacity = b; primaries = p; overflow = v; parties = q; level = 0; next = 0; head = 0; free = 0 }

-- The same of sizes given as one struct.
abbrev pub root_sized : FileSizes → Root
root_sized s = root_of_sizes s.originals s.capacity s.primaries s.overflow s.parties

-- The zero record: a party that is idle.
abbrev pub idle : Party
idle = record { operation = 0; key = 0; step = 0; lev = 0; chain = 0; other = 0; old = 0; owed = 0; answer = 0; setting = 0 }

-- "A begin sets operation, key and step 1 and zeroes the rest"; "The party's record gains the setting": operation o, key k, setting x.
abbrev pub begun : ℕ → ℕ → ℕ → Party
begun o k x = record { operation = o; key = k; step = 1; lev = 0; chain = 0; other = 0; old = 0; owed = 0; answer = 0; setting = x }

-- The party at another step number.
abbrev pub at_step : ℕ → Party → Party
at_step x p = record {
  operation = p.operation;
  key = p.key;
  step = x;
  lev = p.lev;
  chain = p.chain;
  other = p.other;
  old = p.old;
  owed = p.owed;
  answer = p.answer;
  setting = p.setting;
}

-- The party with another lev.
abbrev pub with_lev : ℕ → Party → Party
with_lev x p = record {
  operation = p.operation;
  key = p.key;
  step = p.step;
  lev = x;
  chain = p.chain;
  other = p.other;
  old = p.old;
  owed = p.owed;
  answer = p.answer;
  setting = p.setting;
}

-- The party with another chain.
abbrev pub with_chain : ℕ → Party → Party
with_chain x p = record {
  operation = p.operation;
  key = p.key;
  step = p.step;
  lev = p.lev;
  chain = x;
  other = p.other;
  old = p.old;
  owed = p.owed;
  answer = p.answer;
  setting = p.setting;
}

-- The party with another other chain.
abbrev pub with_other : ℕ → Party → Party
with_other x p = record {
  operation = p.operation;
  key = p.key;
  step = p.step;
  lev = p.lev;
  chain = p.chain;
  other = x;
  old = p.old;
  owed = p.owed;
  answer = p.answer;
  setting = p.setting;
}

-- The party with another old overflow link.
abbrev pub with_old : ℕ → Party → Party
with_old x p = record {
  operation = p.operation;
  key = p.key;
  step = p.step;
  lev = p.lev;
  chain = p.chain;
  other = p.other;
  old = x;
  owed = p.owed;
  answer = p.answer;
  setting = p.setting;
}

-- The party with another restructuring owed.
abbrev pub with_owed : ℕ → Party → Party
with_owed x p = record {
  operation = p.operation;
  key = p.key;
  step = p.step;
  lev = p.lev;
  chain = p.chain;
  other = p.other;
  old = p.old;
  owed = x;
  answer = p.answer;
  setting = p.setting;
}

-- The party with another answer so far.
abbrev pub with_answer : ℕ → Party → Party
with_answer x p = record {
  operation = p.operation;
  key = p.key;
  step = p.step;
  lev = p.lev;
  chain = p.chain;
  other = p.other;
  old = p.old;
  owed = p.owed;
  answer = x;
  setting = p.setting;
}
