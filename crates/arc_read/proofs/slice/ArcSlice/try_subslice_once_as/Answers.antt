-- The part is held by the layout, and its list is legal.
use Rattle.std.proofs.Common.{◌≡◌, sym, subst, IfOk}
use Rattle.arc_buffer.specs.Slice.{sub, IsRange}
use Rattle.arc_block.specs.LayoutFacts.{layout_facts}
use Rattle.arc_block.specs.Place.{part_place}
use Rattle.arc_block.specs.Given.{Given}
use Rattle.arc_parts.specs.Window.{Window}
use Rattle.arc_parts.specs.Steps.{Shares}
use Rattle.arc_parts.proofs.Held.{part_held, shared_held}
use Rattle.arc_read.proofs.Cuts.{part_legal}
use Rattle.arc_read.proofs.slice.ArcSlice.try_subslice_once_as.Goals as goal

pub from_parts-requires-clause-legal : goal.from_parts-requires-clause-legal
from_parts-requires-clause-legal g c =
    let p = c.self.inside.parts in
    let boundary = g.S.Subsliceable.boundary in
    let items = subst (λ r. IfOk r (λ part. part.items ≡ sub p.items c.args.start c.args.end))
    c.in-Ok.is c.in_ok-parts.ensures.items in
    let range = subst (λ (w : Window g.row.S-Item.Denot (Given g.row.B.Denot g.row.M.Denot)).
    IsRange boundary w.items
    c.args.start c.args.end) (sym c.self.view_is) c.requires.range in
    subst (λ xs. ∥ g.S.Slice.is_legal xs ∥₁) (sym items)
    (part_legal g.S.Slice.is_legal boundary g.met.S.Subsliceable.range_is_legal p.items c.args.start
    c.args.end c.self.invariant.2 (λ _. range))

pub from_parts-requires-clause-held : goal.from_parts-requires-clause-held
from_parts-requires-clause-held g c =
    let p = c.self.inside.parts in
    let static = g.L.Layout.STATIC in
    let place = part_place static (sub p.items c.args.start c.args.end) c.args.start p.place in
    let shares = subst
    (λ r. IfOk r (λ part. Shares place c.args.pass.now c.try_part_once_as.new.pass part.place))
    c.in-Ok.is c.in_ok-parts.ensures.place in
    shared_held (layout_facts g.L.Layout) place c.in-Ok.parts.place c.args.pass.now
    c.try_part_once_as.new.pass shares
    (part_held (layout_facts g.L.Layout) (sub p.items c.args.start c.args.end) c.args.start p.place
    c.self.invariant.1)
