-- Where items are dropped one by one, the writer's places go up to the end once there are more.
use Rattle.std.proofs.Common.{sym, ◌∙◌}
use Rattle.arc_sort_writers.proofs.CutKeeps.{keeps_grown}
use Rattle.arc_sort_writers.proofs.native.grown.Goals as goal

pub returns-then-DROPS-clause-kept : goal.returns-then-DROPS-clause-kept
returns-then-DROPS-clause-kept g c =
    keeps_grown g.S.Slice.DROPS c.args.memory.now c.grow_all.new.self c.args.places
    c.grow_all.result (sym c.DROPS.ensures ∙ c.if-DROPS.true) c.requires.kept
    c.grow_all.ensures.all c.grow_all.ensures.start c.requires.places c.grow_all.ensures.grown
    c.grow_all.ensures.refused
