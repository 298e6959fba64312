-- The window stays, or has the room at the same place.
use Rattle.std.proofs.Common.{refl, ap}
use Rattle.std.specs.Mem.{type_size}
use Rattle.arc_block.specs.Table.{bare}
use Rattle.arc_slots.specs.Slots.{bare_held}
use Rattle.arc_slots.proofs.Filled.{SlotReclaims, slot-reclaims}
use Rattle.arc_slots.proofs.slot.Slot.try_reclaim.Given.{Over}
use Rattle.arc_slots.proofs.slot.Slot.try_reclaim.Goals.{After-try_reclaim}
use Rattle.arc_slots.proofs.slot.Slot.try_reclaim.Goals as goal

did : (g : Over) (c : After-try_reclaim g)
    → SlotReclaims g.S.Slice.DROPS (type_size g.row.S-Item) c.args.additional c.self.inside.block
    c.args.self.now (bare c.try_reclaim.new.self) c.try_reclaim.result
did g c =
    slot-reclaims g.S.Small.SmallOf.seen (bare_held c.self.inside.window)
    (bare c.in-Write.window) c.self.inside.block (ap bare_held c.in-Write.is) c.args.self.now
    c.self.view_is (c.self.invariant.0, c.self.invariant.1) g.S.Slice.DROPS (type_size g.row.S-Item)
    c.args.additional (bare c.try_reclaim.new.self) c.try_reclaim.result c.try_reclaim.ensures

pub invariant_of-self : goal.invariant_of-self
invariant_of-self g c =
    let d = did g (goal.at.invariant_of-self g c).After-try_reclaim in (d.fits, d.writes, refl)

pub returns-clause-row : goal.returns-clause-row
returns-clause-row g c = (did g (goal.at.returns-clause-row g c).After-try_reclaim).row

pub returns-clause-kept : goal.returns-clause-kept
returns-clause-kept g c = (did g (goal.at.returns-clause-kept g c).After-try_reclaim).kept

pub returns-clause-stand : goal.returns-clause-stand
returns-clause-stand g c = (did g (goal.at.returns-clause-stand g c).After-try_reclaim).stand
