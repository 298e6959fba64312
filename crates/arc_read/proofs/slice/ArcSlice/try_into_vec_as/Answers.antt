-- The vector has the window's list, which is legal.
use Rattle.std.proofs.Common.{sym, ap, ◌∙◌, subst}
use Rattle.arc_block.specs.Given.{Given}
use Rattle.arc_parts.specs.Window.{PartsView}
use Rattle.arc_block.specs.Place.{size_at}
use Rattle.arc_read.proofs.slice.ArcSlice.try_into_vec_as.Goals as goal

pub from_inner-requires : goal.from_inner-requires
from_inner-requires g c =
    (g.met.S.VecIn.vec_legal c.in-Ok.inner).1 (g.met.S.VecIn.legal_is_fact _
    (subst (λ xs. ∥ g.S.Slice.is_legal xs ∥₁) (sym c.in-Ok.ensures.taken.1)
    c.into_parts.ensures.legal))

pub returns-in-Ok-clause-places : goal.returns-in-Ok-clause-places
returns-in-Ok-clause-places g c = (
  c.in-Ok.inner,
  c.from_inner.ensures,
  c.in-Ok.ensures.taken.2
      ∙ ap (λ (p : PartsView g.row.S-Item.Denot (Given g.row.B.Denot g.row.M.Denot)).
      size_at p.place)
      c.into_parts.ensures.parts,
)
