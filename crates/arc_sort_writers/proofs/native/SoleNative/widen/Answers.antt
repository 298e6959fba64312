-- He has all places behind his items.
use Rattle.std.specs.Option.{option_map}
use Rattle.arc_owners.specs.memory.SoleCounts.{count_owner}
use Rattle.arc_sort_writers.proofs.CutNatives.{behind_cut}
use Rattle.arc_sort_writers.proofs.native.SoleNative.widen.Goals as goal

pub returns-clause-wider : goal.returns-clause-wider
returns-clause-wider g c =
    behind_cut g.S.Slice.DROPS g.H.Mark.whole (option_map count_owner c.self.inside.count)
    c.self.inside.memory c.widen.new.self c.args.self.now c.self.view_is c.requires
    c.self.invariant c.widen.ensures.items c.widen.ensures.memory
