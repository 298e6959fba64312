-- One part is the window itself, and the other is new.
use Rattle.std.proofs.Common.{◌∙◌, arith}
use Rattle.arc_read.proofs.Cuts.{split_at_end, split_earlier}
use Rattle.arc_read.proofs.slice.ArcSlice.try_split_to_as.Goals as goal

pub returns-then-at-len-clause-ok : goal.returns-then-at-len-clause-ok
returns-then-at-len-clause-ok g c =
    split_at_end g.L.Layout.STATIC c.args.self.now c.args.at c.args.pass.now
    c.try_subslice_as.new.pass c.replace.result c.replace.new.dest
    (c.if-at-len.true ∙ c.len.ensures) c.replace.ensures.value c.in_ok-rest.rest
    c.replace.ensures.after (c.in_ok-rest.ensures.items, c.in_ok-rest.ensures.place)

pub returns-clause-ok : goal.returns-clause-ok
returns-clause-ok g c =
    let len = c.len.ensures in
    let apart = c.if-at-len.false in
    let within = c.requires.at.within in
    split_earlier g.L.Layout.STATIC c.args.self.now c.args.at c.args.pass.now
    c.try_subslice_as-2.new.pass c.in_ok-front.front c.advance.new.self
    (omega (arith, len, apart, within)) c.advance.ensures
    (c.in_ok-front.ensures.items, c.in_ok-front.ensures.place)
