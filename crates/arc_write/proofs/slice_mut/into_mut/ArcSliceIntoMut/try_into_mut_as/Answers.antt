use Rattle.std.proofs.Common.{◌≡◌, ◌∙◌, sym, ap, subst}
use Rattle.arc_block.specs.Given.{Given}
use Rattle.arc_block.specs.LayoutFacts.{layout_facts}
use Rattle.arc_block.specs.Moves.{layout_move}
use Rattle.arc_parts.specs.Steps.{IsPassAt}
use Rattle.arc_parts.specs.Window.{PartsView}
use Rattle.arc_block.specs.declared.layout.Move.TheVariants.{HandedBack}
use Rattle.arc_write.specs.Moves.{BecomesWriter}
use Rattle.arc_write.proofs.Held.{unasked_back}
use Rattle.arc_write.proofs.Legal.{sole_legal}
use Rattle.arc_write.proofs.Moves.{becomes_writer, sole_has_items, sole_has_pass}
use Rattle.arc_write.proofs.slice_mut.into_mut.ArcSliceIntoMut.try_into_mut_as.Goals as goal

pub from_parts-requires-clause-legal : goal.from_parts-requires-clause-legal
from_parts-requires-clause-legal g c =
    sole_legal g.S.Slice.is_legal g.K.Layout.ANY g.S.Slice.DROPS c.into_parts.result
    c.in-Ok.parts _ _ c.in-Ok.ensures.sole.0 c.in-Ok.ensures.sole.1 c.into_parts.ensures.legal

pub returns-in-Ok-clause-sole : goal.returns-in-Ok-clause-sole
returns-in-Ok-clause-sole g c =
    let layout = layout_facts g.K.Layout in
    let drops = g.S.Slice.DROPS in
    let whole = g.H.Mark.whole in
    subst (λ (p : PartsView g.row.S-Item.Denot (Given g.row.B.Denot g.row.M.Denot)).
    BecomesWriter layout drops whole p c.from_parts.result c.args.pass.now
    c.try_from_parts_as.new.pass) c.into_parts.ensures.parts
    (becomes_writer layout drops whole c.into_parts.result c.from_parts.result c.args.pass.now
    c.try_from_parts_as.new.pass (c.from_parts.ensures ∙ c.in-Ok.ensures.sole.0)
    c.in-Ok.ensures.sole.1)

pub returns-in-Ok-clause-pass : goal.returns-in-Ok-clause-pass
returns-in-Ok-clause-pass g c =
    sole_has_pass (layout_facts g.K.Layout) g.S.Slice.DROPS c.into_parts.result
    c.from_parts.result c.args.pass.now c.try_from_parts_as.new.pass
    (c.from_parts.ensures ∙ c.in-Ok.ensures.sole.0) c.in-Ok.ensures.sole.1
    (subst (λ (p : PartsView g.row.S-Item.Denot (Given g.row.B.Denot g.row.M.Denot)).
    IsPassAt p.place c.args.pass.now)
    (sym c.into_parts.ensures.parts) c.requires.pass)

pub returns-in-Ok-clause-items : goal.returns-in-Ok-clause-items
returns-in-Ok-clause-items g c =
    sole_has_items (layout_facts g.K.Layout) g.S.Slice.DROPS c.into_parts.result
    c.from_parts.result c.args.pass.now c.try_from_parts_as.new.pass
    (c.from_parts.ensures ∙ c.in-Ok.ensures.sole.0) c.in-Ok.ensures.sole.1
    ∙ ap (λ (p : PartsView g.row.S-Item.Denot (Given g.row.B.Denot g.row.M.Denot)).
    p.items) c.into_parts.ensures.parts

pub returns-in-Err-clause-unasked : goal.returns-in-Err-clause-unasked
returns-in-Err-clause-unasked g c =
    let layout = layout_facts g.K.Layout in
    subst (λ (p : PartsView g.row.S-Item.Denot (Given g.row.B.Denot g.row.M.Denot)).
    layout_move layout p.place
    ≡ HandedBack → c.try_from_parts_as.new.pass ≡ c.args.pass.now) c.into_parts.ensures.parts
    (unasked_back layout c.into_parts.result.place _ _ _ c.in-Err.ensures.refused.1)
