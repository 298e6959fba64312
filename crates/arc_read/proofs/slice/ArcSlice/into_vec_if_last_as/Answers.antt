-- The inner vector is the one that the parts gave, with its places.
use Rattle.std.proofs.Common.{◌≡◌, IfSome, ap, ◌∙◌, subst}
use Rattle.std.specs.Vec.{vec_capacity}
use Rattle.arc_block.specs.Given.{Given}
use Rattle.arc_parts.specs.Window.{PartsView}
use Rattle.arc_block.specs.Place.{size_at}
use Rattle.arc_read.proofs.slice.ArcSlice.into_vec_if_last_as.Goals as goal

pub returns-in-Ok-Some-clause-places : goal.returns-in-Ok-Some-clause-places
returns-in-Ok-Some-clause-places g c = (
  c.in-Ok-Some.inner,
  c.from_inner.ensures,
  (subst (λ o. IfSome o (λ v. (v.items ≡ c.into_parts.result.items)
      × (vec_capacity v ≡ size_at c.into_parts.result.place)))
      c.in-Ok-Some.field-0-is c.in-Ok-Some.ensures.vector).1
      ∙ ap (λ (p : PartsView g.row.S-Item.Denot (Given g.row.B.Denot g.row.M.Denot)).
      size_at p.place)
      c.into_parts.ensures.parts,
)
