-- The front is the window itself, and the back is new.
use Rattle.std.proofs.Common.{arith}
use Rattle.arc_read.proofs.Cuts.{split_later}
use Rattle.arc_read.proofs.slice.ArcSlice.try_split_off_as.Goals as goal

pub returns-clause-ok : goal.returns-clause-ok
returns-clause-ok g c =
    let some = c.if-at-eq0.false in
    split_later g.L.Layout.STATIC c.args.self.now c.args.at c.args.pass.now
    c.try_subslice_as-2.new.pass c.truncate.new.self c.in_ok-back.back (omega (arith, some))
    c.truncate.ensures
    c.len.result c.len.ensures (c.in_ok-back.ensures.items, c.in_ok-back.ensures.place)
