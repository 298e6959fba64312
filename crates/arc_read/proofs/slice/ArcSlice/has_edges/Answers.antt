use Rattle.std.proofs.Common.{length, subst}
use Rattle.arc_buffer.specs.Slice.{IsEdge}
use Rattle.arc_block.specs.Given.{Given}
use Rattle.arc_parts.specs.Window.{Window}
use Rattle.arc_read.proofs.Cuts.{both_edges}
use Rattle.arc_read.proofs.slice.ArcSlice.has_edges.Goals as goal

pub returns-clause-start : goal.returns-clause-start
returns-clause-start g c =
    let boundary = g.S.Subsliceable.boundary in
    subst (λ (w : Window g.row.S-Item.Denot (Given g.row.B.Denot g.row.M.Denot)).
    IsEdge boundary w.items 0)
    c.self.view_is (both_edges g.S.Slice.is_legal boundary g.met.S.Subsliceable.ends_are_edges _
    c.self.invariant.2).0

pub returns-clause-end : goal.returns-clause-end
returns-clause-end g c =
    let boundary = g.S.Subsliceable.boundary in
    subst (λ (w : Window g.row.S-Item.Denot (Given g.row.B.Denot g.row.M.Denot)).
    IsEdge boundary w.items
    (length w.items)) c.self.view_is
    (both_edges g.S.Slice.is_legal boundary g.met.S.Subsliceable.ends_are_edges _
    c.self.invariant.2).1
