use Rattle.std.proofs.Common.{subst}
use Rattle.arc_block.specs.Given.{Given}
use Rattle.arc_parts.specs.Window.{Window}
use Rattle.arc_read.proofs.Cuts.{part_legal, part_cuts}
use Rattle.arc_read.proofs.slice.ArcSlice.has_part.Goals as goal

pub returns-clause-legal : goal.returns-clause-legal
returns-clause-legal g c =
    let boundary = g.S.Subsliceable.boundary in
    let good = subst (λ (w : Window g.row.S-Item.Denot (Given g.row.B.Denot g.row.M.Denot)).
    ∥ g.S.Slice.is_legal w.items
    ∥₁) c.self.view_is c.self.invariant.2 in
    part_legal g.S.Slice.is_legal boundary g.met.S.Subsliceable.range_is_legal _ c.args.start
    c.args.end good (λ _. c.requires)

pub returns-clause-cuts : goal.returns-clause-cuts
returns-clause-cuts g c =
    let boundary = g.S.Subsliceable.boundary in
    let good = subst (λ (w : Window g.row.S-Item.Denot (Given g.row.B.Denot g.row.M.Denot)).
    ∥ g.S.Slice.is_legal w.items
    ∥₁) c.self.view_is c.self.invariant.2 in
    part_cuts g.S.Slice.is_legal boundary g.met.S.Subsliceable.range_edges _ c.args.start c.args.end
    good c.requires
