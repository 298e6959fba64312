-- The note of the range's memory.
use Rattle.arc_memory.proofs.frozen_reader.FrozenReader.lend.Given as goal
use Rattle.arc_memory.specs.LeaseNotes.{note_of}

abbrev pub ghost-lend_noted : goal.ghost-lend_noted
ghost-lend_noted g a = note_of a.range.memory
