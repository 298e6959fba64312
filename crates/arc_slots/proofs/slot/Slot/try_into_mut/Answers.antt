-- What asking adds to the pass that was lent for it, it adds to the passes.
use Rattle.std.proofs.Common.{Some, true, length, ap, ◌∙◌}
use Rattle.arc_block.specs.LayoutFacts.{layout_facts}
use Rattle.arc_parts.specs.Window.{parts_of}
use Rattle.arc_block.specs.Table.{bare}
use Rattle.arc_slots.specs.Slots.{SlotView, bare_held, bare_window, row_of, stand_of}
use Rattle.arc_write.proofs.Moves.{writer_is_sole}
use Rattle.arc_slots.proofs.Bare.{bare_becomes_sole, bare_refuses_sole, bare_sole}
use Rattle.arc_slots.proofs.Native.{BecomesWritten, StaysRead, read-becomes, read-stays}
use Rattle.arc_slots.proofs.Slots.{read-call}
use Rattle.arc_slots.proofs.slot.Slot.try_into_mut.Given.{Over}
use Rattle.arc_slots.proofs.slot.Slot.try_into_mut.Goals.{In-Err, In-Ok}
use Rattle.arc_slots.proofs.slot.Slot.try_into_mut.Goals as goal

did : (g : Over) (c : In-Ok g)
    → BecomesWritten g.L.Writable.Layout.ANY g.S.Slice.DROPS c.self.inside.block c.args.self
    (bare c.in-Ok.window) c.args.passes.now.of_blocks.items c.give_back.new.self.of_blocks.items
did g c =
    let w = c.in-Read.window in
    let sole =
    writer_is_sole (layout_facts g.L.Writable.Layout) g.S.Slice.DROPS true (parts_of w)
    c.in-Ok.window c.lend-pass.result c.try_into_mut_as-asked.new.pass c.in-Ok.ensures.sole in
    read-becomes
    (read-call g.S.Small.SmallOf.seen (bare_held c.self.inside.window)
    (bare_window w) (ap bare_held c.in-Read.is) c.self.view_is
    c.self.invariant.0 c.requires.pass c.lend-pass.ensures.taken)
    c.try_into_mut_as-asked.new.pass c.give_back.new.self.of_blocks.items c.give_back.ensures
    g.L.Writable.Layout.ANY g.S.Slice.DROPS (bare c.in-Ok.window)
    (bare_sole g.S.Slice.DROPS w c.in-Ok.window sole.0)
    (bare_becomes_sole g.L.Writable.Layout.ANY w.place (length w.items) c.lend-pass.result
    c.try_into_mut_as-asked.new.pass sole.1)

pub returns-in-Ok-clause-alone : goal.returns-in-Ok-clause-alone
returns-in-Ok-clause-alone g c = (did g (goal.at.returns-in-Ok-clause-alone g c).In-Ok).alone

pub returns-in-Ok-clause-may : goal.returns-in-Ok-clause-may
returns-in-Ok-clause-may g c = (did g (goal.at.returns-in-Ok-clause-may g c).In-Ok).may

pub returns-in-Ok-clause-owner : goal.returns-in-Ok-clause-owner
returns-in-Ok-clause-owner g c = (did g (goal.at.returns-in-Ok-clause-owner g c).In-Ok).owner

pub returns-in-Ok-clause-row : goal.returns-in-Ok-clause-row
returns-in-Ok-clause-row g c =
    ap row_of c.written.ensures ∙ (did g (goal.at.returns-in-Ok-clause-row g c).In-Ok).row

pub returns-in-Ok-clause-stand : goal.returns-in-Ok-clause-stand
returns-in-Ok-clause-stand g c =
    ap (λ (s : SlotView g.row.S-Item.Denot g.row.M.Denot). stand_of (Some s)) c.written.ensures
    ∙ (did g (goal.at.returns-in-Ok-clause-stand g c).In-Ok).stand

stays : (g : Over) (c : In-Err g)
    → StaysRead g.L.Writable.Layout.ANY c.args.self c.args.passes.now.of_blocks.items
    c.give_back.new.self.of_blocks.items
stays g c =
    let w = c.in-Read.window in
    read-stays
    (read-call g.S.Small.SmallOf.seen (bare_held c.self.inside.window)
    (bare_window w) (ap bare_held c.in-Read.is) c.self.view_is
    c.self.invariant.0 c.requires.pass c.lend-pass.ensures.taken)
    c.try_into_mut_as-asked.new.pass c.give_back.new.self.of_blocks.items c.give_back.ensures
    g.L.Writable.Layout.ANY
    (bare_refuses_sole g.L.Writable.Layout.ANY w.place (length w.items) c.lend-pass.result
    c.try_into_mut_as-asked.new.pass c.in-Err.ensures.refused.1)

pub returns-in-Err-clause-beside : goal.returns-in-Err-clause-beside
returns-in-Err-clause-beside g c =
    (stays g (goal.at.returns-in-Err-clause-beside g c).In-Err).beside

pub returns-in-Err-clause-may_not : goal.returns-in-Err-clause-may_not
returns-in-Err-clause-may_not g c =
    (stays g (goal.at.returns-in-Err-clause-may_not g c).In-Err).may_not
