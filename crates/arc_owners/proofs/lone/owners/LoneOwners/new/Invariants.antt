-- The block has one pass where its mark says so.
use Rattle.arc_owners.proofs.lone.owners.LoneOwners.new.Given as goal

abbrev pub ghost-open : goal.ghost-open
ghost-open g a = g.H.Mark.whole
