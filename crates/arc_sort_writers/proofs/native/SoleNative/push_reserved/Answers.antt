-- The item stands behind the others.
use Rattle.std.proofs.Common.{◌∷◌, [], arith}
use Rattle.std.specs.Option.{option_map}
use Rattle.arc_owners.specs.memory.SoleCounts.{count_owner}
use Rattle.arc_sort_writers.proofs.CutNatives.{push_cut, fits_cut}
use Rattle.arc_sort_writers.proofs.CutKeeps.{within_more}
use Rattle.arc_sort_writers.proofs.native.SoleNative.push_reserved.Goals as goal

pub returns : goal.returns
returns g c =
    push_cut g.S.Slice.DROPS g.H.Mark.whole (option_map count_owner c.self.inside.count)
    c.self.inside.memory c.push_reserved.new.self (c.args.item ∷ []) c.args.self.now c.self.view_is
    c.self.invariant c.push_reserved.ensures.items c.push_reserved.ensures.memory c.requires

pub push_reserved-requires : goal.push_reserved-requires
push_reserved-requires g c = omega (
  arith,
  fits_cut g.S.Slice.DROPS
      (option_map count_owner c.self.inside.count) c.self.inside.memory c.args.self.now 1
      c.self.view_is c.requires,
)

pub invariant_of-self : goal.invariant_of-self
invariant_of-self g c =
    let owner = option_map count_owner c.self.inside.count in
    within_more g.S.Slice.DROPS g.H.Mark.whole owner c.self.inside.memory c.push_reserved.new.self
    (c.args.item ∷ []) c.self.invariant c.push_reserved.ensures.items
    c.push_reserved.ensures.memory
    (fits_cut g.S.Slice.DROPS owner c.self.inside.memory c.args.self.now 1 c.self.view_is
    c.requires)
