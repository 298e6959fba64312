use Rattle.arc_slots.proofs.Asked.{unwritten, wrote}
use Rattle.arc_slots.proofs.Same.{window-same}
use Rattle.arc_slots.proofs.slot.Slot.make_mut.Goals as goal

pub returns-in-Ok : goal.returns-in-Ok
returns-in-Ok g c next i =
    wrote _ next _ _ _ c.requires (c.is_read.ensures.reads c.if-not-is_read.false) i
    c.in-Ok.ensures.alone c.in-Ok.ensures.may c.in-Ok.ensures.owner c.in-Ok.slot
    c.in-Ok.ensures.stand c.in-Ok.ensures.row

pub returns-in-Err : goal.returns-in-Err
returns-in-Err g c next i =
    window-same c.in-Err.ensures.back
    (unwritten _ next _ _ _ c.requires (c.is_read.ensures.reads c.if-not-is_read.false) i
    c.in-Err.ensures.beside c.in-Err.ensures.may_not)
