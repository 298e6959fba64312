-- The vector has the block's memory.
use Rattle.std.proofs.Common.{sym, ap, ◌∙◌, subst}
use Rattle.arc_owners.specs.memory.Boxes.{value_of}
use Rattle.arc_owners.specs.memory.SoleBoxes.{sole_in}
use Rattle.arc_block.specs.Block.{BlockView, IsLimited}
use Rattle.arc_block.specs.Given.{Given}
use Rattle.arc_block.specs.Contents.{content_sort, held_in}
use Rattle.arc_block.proofs.Contents.{vector_held, sort_told}
use Rattle.arc_block.proofs.block.Block.try_into_sole_as.Goals as goal

pub into_vec-requires : goal.into_vec-requires
into_vec-requires g c =
    let old = value_of c.self.inside.piece in
    let was = c.replace-content.ensures.value ∙ c.get_mut.ensures.value
    ∙ c.in-Ok.ensures.sole.1 in
    ap content_sort was ∙ sym (sort_told g.B.Buffer.list g.B.Buffer.places g.S.Slice.DROPS old)
    ∙ ap (λ (b : BlockView g.row.S-Item.Denot (Given g.row.B.Denot g.row.M.Denot)). b.facts.sort)
    c.self.view_is
    ∙ c.requires.sort

pub returns-in-Ok-clause-sole : goal.returns-in-Ok-clause-sole
returns-in-Ok-clause-sole g c =
    let list = g.B.Buffer.list in let places = g.B.Buffer.places in
    let drops = g.S.Slice.DROPS in let o = sole_in c.in-Ok.count in
    let old = value_of c.self.inside.piece in
    let was = c.replace-content.ensures.value ∙ c.get_mut.ensures.value
    ∙ c.in-Ok.ensures.sole.1 in (
      vector_held list places drops o c.replace-content.result c.into_vec.result
          c.into_vec.ensures
          ∙ ap (held_in list places drops o) was
          ∙ ap (λ x. held_in list places drops x old) c.in-Ok.ensures.sole.0
          ∙ c.self.view_is,
      subst (λ x. IsLimited g.row.MAX g.H.Mark.whole x) (sym c.in-Ok.ensures.sole.0)
          c.self.invariant.0,
    )
