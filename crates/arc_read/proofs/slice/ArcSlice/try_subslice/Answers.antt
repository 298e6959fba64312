-- Where the first attempt was lost, both are one call.
use Rattle.arc_buffer.specs.Slice.{sub}
use Rattle.arc_block.specs.Place.{part_place}
use Rattle.arc_read.proofs.Cuts.{slice_of}
use Rattle.arc_read.proofs.Plains.{plainly_made, plainly_refused}
use Rattle.arc_read.proofs.slice.ArcSlice.try_subslice.Goals as goal

pub returns-in-Some-clause-slice : goal.returns-in-Some-clause-slice
returns-in-Some-clause-slice g c =
    slice_of _ c.args.self.now.items c.args.start c.args.end c.requires.ordered
    c.in-Some.ensures.items

pub returns-clause-place : goal.returns-clause-place
returns-clause-place g c =
    let here = c.args.self.now.place in
    let part = sub c.args.self.now.items c.args.start c.args.end in
    let place = part_place g.L.Layout.STATIC part c.args.start here in
    plainly_made g.H.Mark.real here place c.pass-pass.result c.try_subslice_once_as.new.pass
    c.try_subslice_again_as-made.new.pass c.pass-pass.ensures c.in_default.ensures.again
    c.show-2.ensures (λ part. part.place) c.try_subslice_again_as-made.result
    c.try_subslice_again_as-made.ensures.place

pub returns-clause-refused : goal.returns-clause-refused
returns-clause-refused g c =
    let here = c.args.self.now.place in
    let part = sub c.args.self.now.items c.args.start c.args.end in
    let place = part_place g.L.Layout.STATIC part c.args.start here in
    plainly_refused g.H.Mark.real here place c.pass-pass.result c.try_subslice_once_as.new.pass
    c.try_subslice_again_as-made.new.pass c.pass-pass.ensures c.in_default.ensures.again
    c.show-2.ensures g.L.Layout.clone_wants c.try_subslice_again_as-made.result
    c.try_subslice_again_as-made.ensures.refused
