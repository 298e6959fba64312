-- The owner is the counted box's.
use Rattle.std.proofs.Common.{subst}
use Rattle.arc_owners.specs.count.Calls.{EndsShown}
use Rattle.arc_block.specs.Block.{BlockView}
use Rattle.arc_block.specs.Given.{Given}
use Rattle.arc_block.proofs.block.Block.drop.Goals as goal

pub returns : goal.returns
returns g c = record {
  ended = λ many. subst (λ (b : BlockView g.row.S-Item.Denot
      (Given g.row.B.Denot g.row.M.Denot)).
      EndsShown g.row.H.Denot g.H.Mark.real b.owner) c.self.view_is (c.drop.ensures.ended many);
}
