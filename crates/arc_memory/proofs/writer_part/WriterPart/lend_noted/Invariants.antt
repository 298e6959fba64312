-- The note that says in which memory the part lies.
use Rattle.arc_memory.proofs.writer_part.WriterPart.lend_noted.Given as goal

abbrev pub ghost-lend_for : goal.ghost-lend_for
ghost-lend_for g a = g.note
