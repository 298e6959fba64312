-- The note that says in which memory the range lies.
use Rattle.arc_memory.proofs.frozen_reader.FrozenReader.lend_noted.Given as goal

abbrev pub ghost-lend_for : goal.ghost-lend_for
ghost-lend_for g a = g.note
