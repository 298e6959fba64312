-- A legal list may be cut at both ends.
use Rattle.std.proofs.Common.{length, subst}
use Rattle.arc_buffer.specs.Slice.{IsEdge}
use Rattle.arc_read.proofs.Cuts.{both_edges}
use Rattle.arc_small.specs.Inline.{Inlined}
use Rattle.arc_small.proofs.slice.SmallSlice.has_edges.Goals as goal

pub returns-clause-start : goal.returns-clause-start
returns-clause-start g c =
    let boundary = g.S.Subsliceable.boundary in
    let law = g.met.S.Subsliceable.ends_are_edges in
    subst (λ (v : Inlined). IsEdge boundary v.items 0) c.self.view_is
    (both_edges g.S.Slice.is_legal boundary law _ c.self.invariant.1).0

pub returns-clause-end : goal.returns-clause-end
returns-clause-end g c =
    let boundary = g.S.Subsliceable.boundary in
    let law = g.met.S.Subsliceable.ends_are_edges in
    subst (λ (v : Inlined). IsEdge boundary v.items (length v.items)) c.self.view_is
    (both_edges g.S.Slice.is_legal boundary law _ c.self.invariant.1).1
