-- Room is there, as the window says, or isn't.
use Rattle.arc_slots.proofs.Roomed.{has-room-beside, no-room-beside}
use Rattle.arc_slots.proofs.slot.Slot.reclaim_beside.Goals as goal

pub returns-then-try_reclaim_beside : goal.returns-then-try_reclaim_beside
returns-then-try_reclaim_beside g c next i =
    has-room-beside _ next _ _ c.requires.role i c.args.additional c.requires.pass
    c.known_undropped.ensures c.try_reclaim_beside.new.self c.try_reclaim_beside.ensures.stand
    _ c.try_reclaim_beside.result c.if-try_reclaim_beside.true c.try_reclaim_beside.ensures.row

pub returns : goal.returns
returns g c next i =
    no-room-beside _ next _ _ c.requires.role i c.args.additional c.requires.pass
    c.known_undropped.ensures c.try_reclaim_beside.new.self
    (c.try_reclaim_beside.ensures.kept c.if-try_reclaim_beside.false)
    _ c.try_reclaim_beside.result c.if-try_reclaim_beside.false c.try_reclaim_beside.ensures.row
