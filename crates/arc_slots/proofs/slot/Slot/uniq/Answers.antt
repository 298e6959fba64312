use Rattle.std.proofs.Common.{false, true}
use Rattle.arc_slots.proofs.Asked as answered
use Rattle.arc_slots.proofs.slot.Slot.uniq.Goals as goal

pub returns : goal.returns
returns g c next i =
    answered.uniq _ next _ _ _ c.requires (c.is_read.ensures.reads c.if-not-is_read.false) i false
    c.is_unique.result c.if-is_unique.false c.is_unique.ensures

pub returns-then-is_unique : goal.returns-then-is_unique
returns-then-is_unique g c next i =
    answered.uniq _ next _ _ _ c.requires (c.is_read.ensures.reads c.if-not-is_read.false) i true
    c.is_unique.result c.if-is_unique.true c.is_unique.ensures
