-- The vector has the places of the window's block.
use Rattle.std.proofs.Common.{ap, ◌∙◌}
use Rattle.arc_block.specs.Given.{Given}
use Rattle.arc_parts.specs.Window.{PartsView}
use Rattle.arc_block.specs.Place.{size_at}
use Rattle.arc_write.proofs.slice_mut.WriteWindow.try_into_vec_as.Goals as goal

pub returns-in-Ok-clause-places : goal.returns-in-Ok-clause-places
returns-in-Ok-clause-places g c = (
  c.in-Ok.inner,
  c.from_inner.ensures,
  c.in-Ok.ensures.taken.2
      ∙ ap (λ (p : PartsView g.row.S-Item.Denot (Given g.row.B.Denot g.row.M.Denot)).
      size_at p.place)
      c.into_parts.ensures.parts,
)
