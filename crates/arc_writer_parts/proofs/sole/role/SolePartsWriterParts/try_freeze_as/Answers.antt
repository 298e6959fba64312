-- What is said of an arm's parts is said of these.
use Rattle.std.proofs.Common.{sym, ap, ◌∙◌}
use Rattle.arc_block.specs.Given.{Given}
use Rattle.arc_parts.specs.Window.{PartsView, window_of}
use Rattle.arc_writer_parts.specs.PartsOn.{sole_on}
use Rattle.arc_writer_parts.specs.declared.sole.SoleStorage.TheVariants.{Other}
use Rattle.arc_writer_parts.proofs.Frozen.{made_alike}
use Rattle.arc_writer_parts.proofs.sole.role.SolePartsWriterParts.try_freeze_as.Goals as goal

pub returns-in-Ok-clause-items : goal.returns-in-Ok-clause-items
returns-in-Ok-clause-items g c =
    c.in-Ok.ensures.items
    ∙ ap (λ (w : PartsView g.row.S-Item.Denot (Given g.row.B.Denot g.row.M.Denot)). w.items)
    (sym (ap sole_on c.in-Native.is) ∙ c.self.view_is)

pub returns-in-Ok-try_freeze_as-clause-items : goal.returns-in-Ok-try_freeze_as-clause-items
returns-in-Ok-try_freeze_as-clause-items g c =
    c.in-Ok-try_freeze_as.ensures.items
    ∙ ap (λ (w : PartsView g.row.S-Item.Denot (Given g.row.B.Denot g.row.M.Denot)). w.items)
    (sym (ap sole_on (c.in-Other-Vector.is ∙ ap Other c.in-Other-Vector.field-0-is))
    ∙ c.self.view_is)

pub returns-in-Ok-try_freeze_as-2-clause-items : goal.returns-in-Ok-try_freeze_as-2-clause-items
returns-in-Ok-try_freeze_as-2-clause-items g c =
    c.in-Ok-try_freeze_as-2.ensures.items
    ∙ ap (λ (w : PartsView g.row.S-Item.Denot (Given g.row.B.Denot g.row.M.Denot)). w.items)
    (sym (ap sole_on (c.in-Other-Buffer.is ∙ ap Other c.in-Other-Buffer.field-0-is))
    ∙ c.self.view_is)

pub returns-in-Ok-clause-made : goal.returns-in-Ok-clause-made
returns-in-Ok-clause-made g c =
    made_alike g.L.Layout.STATIC g.S.Slice.DROPS g.H.Mark.whole _ c.args.self
    (sym (ap sole_on c.in-Native.is) ∙ c.self.view_is) (window_of c.in-Ok.parts) _ _
    c.in-Ok.ensures.made

pub returns-in-Ok-try_freeze_as-clause-made : goal.returns-in-Ok-try_freeze_as-clause-made
returns-in-Ok-try_freeze_as-clause-made g c =
    made_alike g.L.Layout.STATIC g.S.Slice.DROPS g.H.Mark.whole _ c.args.self
    (sym (ap sole_on (c.in-Other-Vector.is ∙ ap Other c.in-Other-Vector.field-0-is))
    ∙ c.self.view_is) (window_of c.in-Ok-try_freeze_as.parts) _ _
    c.in-Ok-try_freeze_as.ensures.made

pub returns-in-Ok-try_freeze_as-2-clause-made : goal.returns-in-Ok-try_freeze_as-2-clause-made
returns-in-Ok-try_freeze_as-2-clause-made g c =
    made_alike g.L.Layout.STATIC g.S.Slice.DROPS g.H.Mark.whole _ c.args.self
    (sym (ap sole_on (c.in-Other-Buffer.is ∙ ap Other c.in-Other-Buffer.field-0-is))
    ∙ c.self.view_is) (window_of c.in-Ok-try_freeze_as-2.parts) _ _
    c.in-Ok-try_freeze_as-2.ensures.made
