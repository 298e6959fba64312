-- What is said of an arm's parts is said of these.
use Rattle.std.proofs.Common.{sym, ap, ◌∙◌}
use Rattle.arc_block.specs.Given.{Given}
use Rattle.arc_parts.specs.Window.{PartsView, window_of}
use Rattle.arc_parts.specs.Writers.{as_reader}
use Rattle.arc_writer_parts.specs.PartsOn.{shared_on}
use Rattle.arc_writer_parts.proofs.Frozen.{made_alike}
use Rattle.arc_writer_parts.proofs.shared.role.SharedPartsWriterParts.try_freeze_as.Goals as goal

pub returns-in-Several-clause-items : goal.returns-in-Several-clause-items
returns-in-Several-clause-items g c =
    ap (λ (w : PartsView g.row.S-Item.Denot (Given g.row.B.Denot g.row.M.Denot)). w.items)
    (c.freeze_several.ensures
    ∙ ap as_reader (sym (ap shared_on c.in-Several.is) ∙ c.self.view_is))

pub returns-in-Ok-clause-items : goal.returns-in-Ok-clause-items
returns-in-Ok-clause-items g c =
    c.in-Ok.ensures.items
    ∙ ap (λ (w : PartsView g.row.S-Item.Denot (Given g.row.B.Denot g.row.M.Denot)). w.items)
    (sym (ap shared_on c.in-Alone.is) ∙ c.self.view_is)

pub returns-in-Ok-clause-made : goal.returns-in-Ok-clause-made
returns-in-Ok-clause-made g c =
    made_alike g.L.Layout.STATIC g.S.Slice.DROPS g.H.Mark.whole _ c.args.self
    (sym (ap shared_on c.in-Alone.is) ∙ c.self.view_is) (window_of c.in-Ok.parts) _ _
    c.in-Ok.ensures.made
