-- Places that are lent for the lease of a block's owners: what the lease's note says of them.
use Rattle.arc_owners.specs.count.LentNotes.{LentNote}
use Rattle.arc_memory.specs.LentMemory.{LentMemory}

-- which memory is lent, beside the lifetime for which it is
abbrev pub note_of : LentMemory → LentNote
note_of m = record { names = m.names; base = m.base; whole = m.whole }
