use Rattle.std.proofs.Common.{sym, ◌∙◌}
use Rattle.arc_block.specs.LayoutFacts.{layout_facts}
use Rattle.arc_block.specs.Moves.{layout_move}
use Rattle.arc_commands.proofs.Lists.{an_error}
use Rattle.arc_slots.specs.Slots.{row_of}
use Rattle.arc_slots.proofs.Same.{after-same, before-same, window-same}
use Rattle.arc_slots.proofs.Turned.{froze, refused-new, unfrozen}
use Rattle.arc_slots.proofs.slot.Slot.freeze.Goals as goal

pub returns-in-Ok : goal.returns-in-Ok
returns-in-Ok g c next i =
    before-same c.reserve_for.ensures.items
    (froze _ next _ _ (sym c.is_writer.ensures ∙ c.if-not-is_writer.false) i c.in-Ok.slot _
    c.in-Ok.ensures.frozen)

pub returns-in-Err : goal.returns-in-Err
returns-in-Err g c next i =
    window-same c.in-Err.ensures.back.0
    (after-same (c.in-Err.ensures.back.1 ∙ c.reserve_for.ensures.items)
    (unfrozen _ next _ _ (sym c.is_writer.ensures ∙ c.if-not-is_writer.false) i
    c.in-Err.ensures.refused))

pub returns-then-is_err : goal.returns-then-is_err
returns-then-is_err g c next i =
    after-same c.reserve_for.ensures.items
    (unfrozen _ next _ _ (sym c.is_writer.ensures ∙ c.if-not-is_writer.false) i
    (refused-new (layout_move (layout_facts g.L.Layout) (row_of c.args.self).place)
    (sym c.wants_block_to_read-begins.ensures
    ∙ an_error c.reserve_for.result (sym c.is_err.ensures.value ∙ c.if-is_err.true)
    c.reserve_for.ensures.refused)))
