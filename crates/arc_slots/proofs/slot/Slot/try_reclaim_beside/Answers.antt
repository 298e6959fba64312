-- The window stays, or has the room at the same place; and what asking adds to the pass that was
-- lent for it, it adds to the passes.
use Rattle.std.proofs.Common.{false, refl, ap}
use Rattle.std.specs.Mem.{type_size}
use Rattle.arc_block.specs.Table.{bare}
use Rattle.arc_slots.specs.Slots.{bare_held}
use Rattle.arc_slots.proofs.FilledBeside.{SlotReclaimsBeside, slot-reclaims-beside}
use Rattle.arc_slots.proofs.slot.Slot.try_reclaim_beside.Given.{Over}
use Rattle.arc_slots.proofs.slot.Slot.try_reclaim_beside.Goals.{After-give_back}
use Rattle.arc_slots.proofs.slot.Slot.try_reclaim_beside.Goals as goal

did : (g : Over) (c : After-give_back g)
    → SlotReclaimsBeside g.S.TableKind.SHARES false (type_size g.row.S-Item) c.args.additional
    c.self.inside.block c.args.self.now (bare c.try_reclaim_as-found.new.self)
    c.args.passes.now.of_blocks.items c.give_back.new.self.of_blocks.items
    c.try_reclaim_as-found.result
did g c =
    slot-reclaims-beside g.S.Small.SmallOf.seen (bare_held c.self.inside.window)
    (bare c.in-Several.window) c.self.inside.block (ap bare_held c.in-Several.is)
    c.args.self.now c.self.view_is g.S.TableKind.SHARES
    c.self.invariant false refl (type_size g.row.S-Item) c.args.additional
    c.args.passes.now.of_blocks.items c.lend-pass.new.self.of_blocks.items c.lend-pass.result
    c.try_reclaim_as-found.new.pass c.lend-pass.ensures.taken c.requires.pass
    (bare c.try_reclaim_as-found.new.self) c.try_reclaim_as-found.result
    c.give_back.new.self.of_blocks.items c.try_reclaim_as-found.ensures.room c.give_back.ensures

pub invariant_of-self : goal.invariant_of-self
invariant_of-self g c = (did g (goal.at.invariant_of-self g c).After-give_back).fits

pub returns-clause-row : goal.returns-clause-row
returns-clause-row g c = (did g (goal.at.returns-clause-row g c).After-give_back).row

pub returns-clause-kept : goal.returns-clause-kept
returns-clause-kept g c = (did g (goal.at.returns-clause-kept g c).After-give_back).kept

pub returns-clause-stand : goal.returns-clause-stand
returns-clause-stand g c = (did g (goal.at.returns-clause-stand g c).After-give_back).stand
