-- The window is what its parts become.
use Rattle.std.proofs.Common.{sym, subst}
use Rattle.arc_block.specs.Place.{IsOnBlock}
use Rattle.arc_parts.specs.Steps.{Makes, Begins}
use Rattle.arc_write.proofs.slice_mut.WriteWindow.try_freeze_as.Goals as goal

pub returns-in-Ok-clause-made : goal.returns-in-Ok-clause-made
returns-in-Ok-clause-made g c =
    let parts = g.R.Parts.WriterParts.seen c.into_parts.result in
    subst (λ s. ¬ IsOnBlock s.place → Makes g.K.Layout.STATIC g.S.Slice.DROPS g.H.Mark.whole s.items
    c.from_parts.result
    × Begins c.from_parts.result c.args.pass.now c.try_freeze_as.new.pass)
    c.into_parts.ensures.parts
    (subst (λ w. ¬ IsOnBlock parts.place
    → Makes g.K.Layout.STATIC g.S.Slice.DROPS g.H.Mark.whole parts.items w
    × Begins w c.args.pass.now c.try_freeze_as.new.pass) (sym c.from_parts.ensures)
    c.in-Ok.ensures.made)
