-- A memory read with the sizes that were given to format, whatever sizes its own root record has now.
-- Main definitions: sized_root, sized_memory.
use Rattle.model.specs.declared.Root.{Root}
use Rattle.model.specs.Records.{with_level, with_next, with_free_list}
use Rattle.model.specs.Memory.{Memory}

-- The root record with the sizes of z, and level, next and free list of r.
abbrev pub sized_root : Root → Root → Root
sized_root z r = with_free_list r.head r.free (with_next r.next (with_level r.level z))

-- The memory with that root record.
abbrev pub sized_memory : Root → Memory → Memory
sized_memory z m = record { root = sized_root z m.root; parties = m.parties; locks = m.locks; pages = m.pages; waiting = m.waiting }
