-- The items stand behind the others.
use Rattle.std.proofs.Common.{length}
use Rattle.std.specs.Option.{option_map}
use Rattle.arc_owners.specs.memory.SoleCounts.{count_owner}
use Rattle.arc_sort_writers.proofs.CutNatives.{push_cut, fits_cut}
use Rattle.arc_sort_writers.proofs.CutKeeps.{within_more}
use Rattle.arc_sort_writers.proofs.native.SoleNative.extend_reserved.Goals as goal

pub returns : goal.returns
returns g c =
    push_cut g.S.Slice.DROPS g.H.Mark.whole (option_map count_owner c.self.inside.count)
    c.self.inside.memory c.extend_from_slice.new.self c.args.items.now c.args.self.now
    c.self.view_is c.self.invariant c.extend_from_slice.ensures.items
    c.extend_from_slice.ensures.memory c.requires

pub extend_from_slice-requires : goal.extend_from_slice-requires
extend_from_slice-requires g c =
    fits_cut g.S.Slice.DROPS (option_map count_owner c.self.inside.count) c.self.inside.memory
    c.args.self.now (length c.args.items.now) c.self.view_is c.requires

pub invariant_of-self : goal.invariant_of-self
invariant_of-self g c =
    let owner = option_map count_owner c.self.inside.count in
    within_more g.S.Slice.DROPS g.H.Mark.whole owner c.self.inside.memory
    c.extend_from_slice.new.self c.args.items.now c.self.invariant
    c.extend_from_slice.ensures.items c.extend_from_slice.ensures.memory
    (fits_cut g.S.Slice.DROPS owner c.self.inside.memory c.args.self.now
    (length c.args.items.now) c.self.view_is c.requires)
