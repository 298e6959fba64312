-- The note that the owner of a sole box is given.
use Rattle.arc_owners.proofs.memory.sole_box.SoleBox.lend_for.Given as goal

abbrev pub ghost-lend_for : goal.ghost-lend_for
ghost-lend_for g a = g.note
