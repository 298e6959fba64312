-- The note that a sole owner is given.
use Rattle.arc_owners.proofs.count.tokens.Sole.lend_for.Given as goal

abbrev pub ghost-lend_for : goal.ghost-lend_for
ghost-lend_for g a = g.note
