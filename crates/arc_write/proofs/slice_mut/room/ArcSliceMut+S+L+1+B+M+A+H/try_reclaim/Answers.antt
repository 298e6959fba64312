use Rattle.arc_block.specs.LayoutFacts.{layout_facts}
use Rattle.arc_block.specs.Table.{bare}
use Rattle.arc_write.proofs.Held.{sole_reclaimed_held}
use Rattle.arc_write.proofs.Legal.{reclaimed_legal}
use Rattle.arc_write.proofs.slice_mut.room.ArcSliceMut+S+L+1+B+M+A+H.try_reclaim.Goals as goal

pub invariant_of-self : goal.invariant_of-self
invariant_of-self g c = let call = c.try_reclaim in (
  sole_reclaimed_held (layout_facts g.L.Layout) _ c.self.inside.parts call.new.self call.result
      call.ensures c.self.invariant.0,
  reclaimed_legal g.S.Slice.is_legal _ (bare c.self.inside.parts) (bare call.new.self) call.result
      call.ensures c.self.invariant.1,
)
