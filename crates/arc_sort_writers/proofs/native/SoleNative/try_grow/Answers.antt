-- The items stay, and have all places behind them.
use Rattle.std.specs.Option.{option_map}
use Rattle.arc_owners.specs.memory.SoleCounts.{count_owner}
use Rattle.arc_sort_writers.proofs.CutNatives.{grown_seen, grown_room, grown_within, none_left}
use Rattle.arc_sort_writers.proofs.native.SoleNative.try_grow.Goals as goal

pub returns-clause-grown : goal.returns-clause-grown
returns-clause-grown g c =
    grown_seen g.S.Slice.DROPS g.H.Mark.whole (option_map count_owner c.self.inside.count)
    c.self.inside.memory c.grown.new.memory c.args.places c.args.self.now c.grown.result
    c.self.view_is c.requires c.grown.ensures.items c.grown.ensures.start c.grown.ensures.left
    c.grown.ensures.grown

pub returns-clause-room : goal.returns-clause-room
returns-clause-room g c =
    grown_room g.S.Slice.DROPS (option_map count_owner c.self.inside.count) c.self.inside.memory
    c.grown.new.memory c.args.places c.args.self.now c.grown.result c.self.view_is
    c.requires.stands c.grown.ensures.items c.grown.ensures.grown

pub invariant_of-self : goal.invariant_of-self
invariant_of-self g c =
    grown_within g.S.Slice.DROPS g.H.Mark.whole (option_map count_owner c.self.inside.count)
    c.self.inside.memory c.grown.new.memory c.args.places c.args.self.now c.grown.result
    c.self.view_is c.requires.stands c.self.invariant c.grown.ensures.kept
    c.grown.ensures.grown c.grown.ensures.refused

pub grown-requires-clause-last : goal.grown-requires-clause-last
grown-requires-clause-last g c =
    none_left g.S.Slice.DROPS g.H.Mark.whole (option_map count_owner c.self.inside.count)
    c.self.inside.memory c.args.self.now c.self.view_is c.requires
