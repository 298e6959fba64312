-- The part is seen as it was asked for.
use Rattle.arc_owners.specs.memory.SoleCounts.{count_owner}
use Rattle.arc_sort_writers.proofs.CutNatives.{part_cut}
use Rattle.arc_sort_writers.proofs.native.SoleNative.over.Goals as goal

pub returns : goal.returns
returns g c =
    part_cut g.S.Slice.DROPS (count_owner c.args.count) c.args.memory c.args.start c.args.end
    c.part_of.result c.requires.range.0 c.requires.range.1 c.part_of.ensures
