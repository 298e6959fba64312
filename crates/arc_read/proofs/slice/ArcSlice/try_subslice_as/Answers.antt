-- Attempts that were lost, and then one that wasn't, are one call.
use Rattle.std.proofs.Common.{refl}
use Rattle.arc_buffer.specs.Slice.{sub}
use Rattle.arc_block.specs.Place.{part_place}
use Rattle.arc_parts.proofs.Attempts.{joins_at, joins_pass, joins_made, joins_refused, part_joins}
use Rattle.arc_read.proofs.Cuts.{slice_of}
use Rattle.arc_read.proofs.slice.ArcSlice.try_subslice_as.Goals as goal

pub loop-preserved : goal.loop-preserved
loop-preserved g c =
    let part = sub c.args.self.now.items c.args.start c.args.end in
    let place = part_place g.L.Layout.STATIC part c.args.start c.args.self.now.place in (
      tt,
      tt,
      refl,
      refl,
      refl,
      joins_at place _ _ _ c.loop.invariant.5
          c.in_default-try_subslice_once_as.ensures.again,
    )

pub try_subslice_once_as-requires-in-loop-clause-pass :
    goal.try_subslice_once_as-requires-in-loop-clause-pass
try_subslice_once_as-requires-in-loop-clause-pass g c =
    let part = sub c.args.self.now.items c.args.start c.args.end in
    let place = c.args.self.now.place in
    joins_pass place _ _
    (part_joins g.L.Layout.STATIC part c.args.start place _ _ c.loop.invariant.5) c.requires.pass

pub returns-in-Some-try_subslice_once_as-clause-items :
    goal.returns-in-Some-try_subslice_once_as-clause-items
returns-in-Some-try_subslice_once_as-clause-items g c = c.in-Some-try_subslice_once_as.ensures.items

pub returns-in-Some-try_subslice_once_as-clause-place :
    goal.returns-in-Some-try_subslice_once_as-clause-place
returns-in-Some-try_subslice_once_as-clause-place g c =
    let part = sub c.args.self.now.items c.args.start c.args.end in
    let place = part_place g.L.Layout.STATIC part c.args.start c.args.self.now.place in
    joins_made (λ part. part.place) place _ _ _ c.in-Some-try_subslice_once_as.made
    c.loop.invariant.5 c.in-Some-try_subslice_once_as.ensures.place

pub returns-in-Some-try_subslice_once_as-clause-refused :
    goal.returns-in-Some-try_subslice_once_as-clause-refused
returns-in-Some-try_subslice_once_as-clause-refused g c =
    let part = sub c.args.self.now.items c.args.start c.args.end in
    let place = part_place g.L.Layout.STATIC part c.args.start c.args.self.now.place in
    joins_refused g.L.Layout.clone_wants place _ _ _ c.in-Some-try_subslice_once_as.made
    c.loop.invariant.5 c.in-Some-try_subslice_once_as.ensures.refused

pub returns-in-Some-try_subslice_once_as-clause-slice :
    goal.returns-in-Some-try_subslice_once_as-clause-slice
returns-in-Some-try_subslice_once_as-clause-slice g c =
    slice_of _ c.args.self.now.items c.args.start c.args.end c.requires.range.ordered
    c.in-Some-try_subslice_once_as.ensures.items

pub returns-in-Some-clause-slice : goal.returns-in-Some-clause-slice
returns-in-Some-clause-slice g c =
    slice_of _ c.args.self.now.items c.args.start c.args.end c.requires.range.ordered
    c.in-Some.ensures.items
