-- Where the first attempt was lost, both are one call.
use Rattle.std.proofs.Common.{rules}
use Rattle.arc_read.proofs.Plains.{plainly_made, plainly_refused}
use Rattle.arc_read.proofs.slice.ArcSlice.try_clone.Goals as goal

pub returns-clause-items : goal.returns-clause-items
returns-clause-items g c = search rules

pub returns-clause-place : goal.returns-clause-place
returns-clause-place g c =
    plainly_made g.H.Mark.real c.args.self.now.place c.args.self.now.place c.pass-pass.result
    c.try_clone_once_as.new.pass c.try_clone_as-made.new.pass c.pass-pass.ensures
    c.in_default.ensures.again c.show-2.ensures (λ window. window.place) c.try_clone_as-made.result
    c.try_clone_as-made.ensures.place

pub returns-clause-refused : goal.returns-clause-refused
returns-clause-refused g c =
    plainly_refused g.H.Mark.real c.args.self.now.place c.args.self.now.place c.pass-pass.result
    c.try_clone_once_as.new.pass c.try_clone_as-made.new.pass c.pass-pass.ensures
    c.in_default.ensures.again c.show-2.ensures g.L.Layout.clone_wants c.try_clone_as-made.result
    c.try_clone_as-made.ensures.refused
