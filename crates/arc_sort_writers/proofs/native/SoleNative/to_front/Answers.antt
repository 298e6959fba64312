-- The items stand at the front.
use Rattle.std.specs.Option.{option_map}
use Rattle.arc_owners.specs.memory.SoleCounts.{count_owner}
use Rattle.arc_sort_writers.proofs.CutNatives.{front_cut}
use Rattle.arc_sort_writers.proofs.native.SoleNative.to_front.Goals as goal

pub returns-clause-shifted : goal.returns-clause-shifted
returns-clause-shifted g c =
    front_cut g.S.Slice.DROPS g.H.Mark.whole (option_map count_owner c.self.inside.count)
    c.self.inside.memory c.to_front.new.self c.args.self.now c.self.view_is c.requires
    c.self.invariant c.to_front.ensures.items c.to_front.ensures.memory
